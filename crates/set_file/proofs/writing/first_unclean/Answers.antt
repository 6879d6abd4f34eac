use Rattle.std.proofs.Common.{◌≡◌, ℕ, ◌<◌, List, [], true, false, length, None, Some, Option, MatchOption, IsNone, sym, arith, rules, tests}
use Rattle.std.proofs.lemmas.Iterator.{YieldsList-from_slice, IsFirst-from_position}
use Rattle.std.specs.List.{AllWithin, HoldsAt}
use Rattle.book.specs.declared.row.Row.{Row}
use Rattle.fddevs.specs.Vetting.{seek}
use Rattle.set_file.specs.Writing.{Whole, clean, clean_at}
use Rattle.set_file.proofs.Seeking.{seek_from_0}
use Rattle.set_file.proofs.writing.first_unclean.Goals as goal

abbrev Clean : ℕ → Row → Type 0
Clean w row = (clean w row ≡ true) × (length row.bytes ≡ 48)

placed : (w : ℕ) (rows : List Row) (r : Option ℕ) →
    MatchOption r (AllWithin (Clean w) rows 0 (length rows))
    (λ i. (i < length rows) × HoldsAt (λ row. clean w row ≡ false) rows i × AllWithin (Clean w) rows 0 i) →
    (r ≡ seek (clean_at w rows) 0 (length rows)) × (IsNone r → Whole rows (length rows))
placed w rows None h = (
  sym (seek_from_0 (clean_at w rows) (length rows) None (λ k l u. (h k record { bytes = [] } l u).0)),
  λ _ k u. (h k record { bytes = [] } (omega arith) u).1,
)
placed w rows (Some i) h = (
  sym (seek_from_0 (clean_at w rows) (length rows) (Some i) (omega arith, h.0, h.1 record { bytes = [] }, λ k l u. (h.2 k record { bytes = [] } l u).0)),
  λ none. absurd (let z : ◌≡◌ {A = ℕ} 0 1 = cc in omega arith),
)

pub returns : goal.returns
returns c =
    let w = c.args.width in
    let rows = c.args.rows.now in
    let first = IsFirst-from_position _ _ c.position.result (λ row. clean w row ≡ false) (Clean w) c.position.ensures.ran (YieldsList-from_slice rows cc) (λ x q k. search (rules, tests)) (λ x q k. search (rules, tests)) in
    let p = placed w rows _ first in
    record { place = p.0; whole = p.1 }
