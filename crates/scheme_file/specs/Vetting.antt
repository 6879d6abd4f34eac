-- When a scheme file is refused: one test a number. Assumes nothing.
use Rattle.std.specs.Prelude.{◌≡◌, ℕ, ◌+◌, ◌*◌, Bool, true, cond, ◌&&◌, List, length, is_ok, Ok, ◌==◌, nat_le, nat_lt, slice_index}
use Rattle.fddevs.specs.Machine.{Family, idle_family}
use Rattle.fddevs.specs.Vetting.{Vetted, then, unless, seek, found, all_below}
use Rattle.fddevs.specs.declared.part.Output.{Output}
use Rattle.fddevs.specs.declared.part.Output.TheVariants.{Silent, Sends}
use Rattle.fddevs.specs.declared.refusal.Layer.TheVariants.{Scheme}
use Rattle.fddevs.specs.declared.refusal.Refusal.{Refusal}
use Rattle.fddevs.specs.declared.refusal.Refusal.TheVariants.{NotWhole, Version, SectionLength, PartCount, SectionCounts, SectionNames}
use Rattle.fddevs.specs.Bytes.{two_at}
use Rattle.scheme_file.specs.File.{head, phase_of, part_count, section_of, record_of, record_size, file_family}
use Rattle.scheme_file.specs.declared.section.Phase.{Phase}
use Rattle.scheme_file.specs.declared.section.Section.{Section}
use Rattle.scheme_file.specs.declared.section.Test.{Test}
use Rattle.scheme_file.specs.declared.section.Test.TheVariants.{Length, Limits, Names}

-- the sections end where the file ends
abbrev pub whole : List ℕ → Bool
whole f = head f (part_count f) == length f

abbrev pub version_fits : List ℕ → Bool
version_fits f = slice_index f 0 == 1

abbrev pub count_fits : List ℕ → Bool
count_fits f = nat_le 1 (part_count f) && nat_le (part_count f) 16

-- the length at byte h is that of the phases and inputs behind it
abbrev pub right_length : List ℕ → ℕ → Bool
right_length f h =
    (two_at f h == 4 + (section_of f (h + 2)).counts.phases * record_size (section_of f (h + 2)).counts)

abbrev pub counts_fit : Section → Bool
counts_fit x =
    nat_le 1 x.counts.phases &&
    (nat_le x.counts.phases 64 && (nat_le x.counts.inputs 16 && nat_le x.counts.outputs 16))

-- what is named exists
abbrev pub output_exists : ℕ → Output → Bool
output_exists n Silent = true
output_exists n (Sends o) = nat_lt o n

abbrev pub phase_exists : Section → Phase → Bool
phase_exists x p = nat_lt p.next x.counts.phases && output_exists x.counts.outputs p.output

abbrev pub external_exists : Section → List ℕ → ℕ → Bool
external_exists x r i = nat_lt (slice_index r (4 + 2 * i)) x.counts.phases && nat_le (slice_index r (5 + 2 * i)) 1

abbrev pub record_exists : Section → List ℕ → Bool
record_exists x r = phase_exists x (phase_of r) && all_below (external_exists x r) x.counts.inputs

abbrev pub section_exists : List ℕ → Section → Bool
section_exists f x =
    nat_lt x.start x.counts.phases && all_below (λ s. record_exists x (record_of f x s)) x.counts.phases

-- the test of the section whose length stands at byte h
abbrev pub passes : Test → List ℕ → ℕ → Bool
passes Length f h = right_length f h
passes Limits f h = counts_fit (section_of f (h + 2))
passes Names f h = section_exists f (section_of f (h + 2))

-- what a section that fails the test is refused with
abbrev pub refusal : Test → ℕ → Refusal
refusal Length k = SectionLength k
refusal Limits k = SectionCounts k
refusal Names k = SectionNames k

-- the first section that fails the test
abbrev pub sections_pass : Test → List ℕ → Vetted
sections_pass t f = found (refusal t) (seek (λ k. passes t f (head f k)) 0 (part_count f))

-- the smallest number that holds of the file, at the first section at fault
abbrev pub vetting : List ℕ → Vetted
vetting f =
    then (unless (whole f) (NotWhole Scheme))
    (then (unless (version_fits f) (Version Scheme))
    (then (sections_pass Length f)
    (then (unless (count_fits f) PartCount) (then (sections_pass Limits f) (sections_pass Names f)))))

-- made against its vetting, the bank is the idle bank
abbrev pub table_family : List ℕ → Family
table_family f = cond (is_ok (vetting f)) (file_family f) idle_family

-- what the later tests of a section rest on: the lengths are right
abbrev pub Measured : Test → List ℕ → ℕ → Type 0
Measured Length f h = Unit {0}
Measured Limits f h = right_length f h ≡ true
Measured Names f h = right_length f h ≡ true

abbrev pub Ready : Test → List ℕ → Type 0
Ready Length f = Unit {0}
Ready Limits f = sections_pass Length f ≡ Ok tt
Ready Names f = sections_pass Length f ≡ Ok tt
