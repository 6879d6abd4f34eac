-- What a table bank holds. Assumes nothing.
use Rattle.std.specs.Prelude.{ℕ, List, vec_items, Option, nat_lt}
use Rattle.fddevs.specs.Machine.{Family, when, has_phase}
use Rattle.scheme_file.specs.File.{part_count, section_at, phase_of, record_of, file_family}
use Rattle.scheme_file.specs.declared.section.Phase.{Phase}
use Rattle.scheme_file.specs.declared.section.Section.{Section}
use Rattle.scheme_file.specs.declared.scheme.Scheme.{Scheme}

abbrev pub held_family : Scheme → Family
held_family x = file_family (vec_items x.file)

abbrev pub section_in : List ℕ → ℕ → Option Section
section_in f p = when (nat_lt p (part_count f)) (section_at f p)

abbrev pub phase_in : List ℕ → ℕ → ℕ → Option Phase
phase_in f p s = when (has_phase (file_family f) p s) (phase_of (record_of f (section_at f p) s))
