-- The list of sections that a table bank holds.
use Rattle.std.proofs.Common.{◌≡◌, ℕ, ◌<◌, ◌≤◌, List, length, Some, vec_items, vec_len, ap, ◌∙◌, ⊎_elim, arith}
use Rattle.std.proofs.lemmas.List.FromFn.{length-map-range_with_len, get_or-map-range_with_len}
use Rattle.std.proofs.lemmas.Bool.{cases_lt, lt-ltb, le-ltb}
use Rattle.std.proofs.lemmas.Option.{slice_get-get_or, slice_get_past}
use Rattle.std.specs.List.{slice_get}
use Rattle.scheme_file.specs.Bank.{section_in}
use Rattle.scheme_file.specs.File.{part_count, section_at, sections_of}
use Rattle.scheme_file.specs.declared.scheme.Scheme.{Scheme}

pub sections_len : (x : Scheme) → vec_len x.sections ≡ part_count (vec_items x.file)
sections_len x = x.sections.ok.0 ∙ ap length x.listed ∙ length-map-range_with_len (section_at (vec_items x.file)) 0 _

module _ (f : List ℕ) (p : ℕ) where
  within : p < part_count f → slice_get (sections_of f) p ≡ section_in f p
  within h =
      let n = length-map-range_with_len (section_at f) 0 (part_count f) in
      rw (lt-ltb p (part_count f) h)
      (slice_get-get_or (sections_of f) p (section_at f p) (omega arith)
      ∙ ap Some (get_or-map-range_with_len (section_at f) 0 (part_count f) p p (section_at f p) h (omega arith)))

  past : part_count f ≤ p → slice_get (sections_of f) p ≡ section_in f p
  past h =
      let n = length-map-range_with_len (section_at f) 0 (part_count f) in
      rw (le-ltb p (part_count f) h) (slice_get_past (sections_of f) p (omega arith))

-- what a look-up of a section gives
pub listed : (x : Scheme) (p : ℕ) → slice_get (vec_items x.sections) p ≡ section_in (vec_items x.file) p
listed x p =
    ap (λ l. slice_get l p) x.listed
    ∙ ⊎_elim (within (vec_items x.file) p) (past (vec_items x.file) p) (cases_lt p (part_count (vec_items x.file)))
