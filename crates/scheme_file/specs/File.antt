-- What the bytes of a scheme file say. A byte past the end reads as 0. Assumes nothing.
use Rattle.std.specs.Prelude.{ℕ, zero, suc, ◌+◌, ◌*◌, cond, List, map, take, drop, nat_lt, slice_index}
use Rattle.std.specs.List.{range_with_len}
use Rattle.fddevs.specs.Bytes.{two_at}
pub use Rattle.fddevs.specs.Bytes.{output_of, mark_of}
use Rattle.fddevs.specs.Machine.{Machine, Family}
use Rattle.fddevs.specs.declared.part.Counts.{Counts}
use Rattle.fddevs.specs.declared.part.External.{External}
use Rattle.fddevs.specs.declared.part.Span.{Span}
use Rattle.fddevs.specs.declared.part.Span.TheVariants.{Ticks, Unlimited}
use Rattle.scheme_file.specs.declared.section.Phase.{Phase}
use Rattle.scheme_file.specs.declared.section.Section.{Section}

-- FF FF is unlimited: of two bytes this is `span_of`, and so is every larger number here
abbrev pub lifespan_of : ℕ → Span
lifespan_of n = cond (nat_lt n 65535) (Ticks n) Unlimited

-- a phase record: the lifespan in two bytes, the next phase, the output, then per input the next phase and the mark
abbrev pub phase_of : List ℕ → Phase
phase_of r = record { lifespan = lifespan_of (two_at r 0); next = slice_index r 2; output = output_of (slice_index r 3) }

abbrev pub external_of : List ℕ → ℕ → External
external_of r i = record { next = slice_index r (4 + 2 * i); mark = mark_of (slice_index r (5 + 2 * i)) }

-- the section whose bytes begin at byte b: the counts, the start phase, and then the records
abbrev pub section_of : List ℕ → ℕ → Section
section_of f b = record {
  counts = record { phases = slice_index f b; inputs = slice_index f (b + 1); outputs = slice_index f (b + 2) };
  start = slice_index f (b + 3);
  records = b + 4;
}

-- how many bytes a phase record has
abbrev pub record_size : Counts → ℕ
record_size c = 4 + 2 * c.inputs

-- where the record of phase s begins, and its bytes
abbrev pub record_at : Section → ℕ → ℕ
record_at x s = x.records + s * record_size x.counts

abbrev pub record_of : List ℕ → Section → ℕ → List ℕ
record_of f x s = take (record_size x.counts) (drop (record_at x s) f)

abbrev pub section_machine : List ℕ → Section → Machine
section_machine f x = record {
  counts = x.counts;
  start = x.start;
  lifespan = λ s. (phase_of (record_of f x s)).lifespan;
  next = λ s. (phase_of (record_of f x s)).next;
  output = λ s. (phase_of (record_of f x s)).output;
  external = λ s i. external_of (record_of f x s) i;
}

-- the number of parts
abbrev pub part_count : List ℕ → ℕ
part_count f = slice_index f 1

-- where the length of section k stands: section 0 follows the first two bytes, each other the one before it
abbrev pub head : List ℕ → ℕ → ℕ
head f zero = 2
head f (suc k) = head f k + 2 + two_at f (head f k)

abbrev pub section_at : List ℕ → ℕ → Section
section_at f k = section_of f (head f k + 2)

abbrev pub sections_of : List ℕ → List Section
sections_of f = map (section_at f) (range_with_len 0 (part_count f))

-- one part a section
abbrev pub file_family : List ℕ → Family
file_family f = record { count = part_count f; part = λ p. section_machine f (section_at f p) }
