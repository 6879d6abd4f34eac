-- The steps of a search among rows that rise.
use Rattle.std.proofs.Common.{◌≡◌, ℕ, ◌+◌, ◌<◌, ◌≤◌, List, Some, None, Ordering, Less, Equal, Greater, sym, ap, ◌∙◌, subst, inl, inr, arith}
use Rattle.std.proofs.lemmas.Bool.{cases_lt}
use Rattle.std.specs.Cmp.Lexicographic.{nat_list_cmp_total}
use Rattle.book.specs.Records.{byte_order}
use Rattle.book.specs.Orders.{bytes_total}
use Rattle.book.proofs.Places.{above, below, clash}
use Rattle.book.specs.declared.row.Row.{Row}
use Rattle.set_file.specs.Layout.{front, stretch}
use Rattle.set_file.specs.declared.rows.Rows.{Rows}
use Rattle.lookup.specs.Finding.{Between, Nowhere}
use Rattle.lookup.specs.Searching.{IsNarrowed, IsFound}

module _ (rows : Rows) (row : Row) where
  abbrev n : ℕ
  n = rows.count

  -- how row k stands to the record's first bytes
  abbrev at : ℕ → Ordering
  at k = byte_order (stretch rows.width rows.body.now k) (front rows.width row)

  abbrev x : List ℕ
  x = front rows.width row

  -- at the start x can stand at any row
  pub anywhere : (high : ℕ) → n ≤ high → IsNarrowed rows row 0 high
  anywhere high h up = record { lower = λ k l. absurd (omega arith); higher = λ k l u. absurd (omega arith) }

  module _ (low high mid : ℕ) (b : IsNarrowed rows row low high) where
    -- row mid is below x, so that x can stand above it alone
    pub if_less : mid < n → Less ≡ at mid → IsNarrowed rows row (mid + 1) high
    if_less m h up = record {
      lower = λ k l. elim (cases_lt k mid) [
        | inl u ↦ bytes_total.passes (stretch rows.width rows.body.now k) (stretch rows.width rows.body.now mid) x (up k mid u m) (sym h)
        | inr u ↦ (let e : mid ≡ k = omega arith in subst (λ i. at i ≡ Less) e (sym h))
      ];
      higher = (b up).higher;
    }

    -- row mid is above x, so that x can stand below it alone
    pub if_greater : Greater ≡ at mid → IsNarrowed rows row low mid
    if_greater h up = record {
      lower = (b up).lower;
      higher = λ k l u. elim (cases_lt mid k) [
        | inl v ↦ above nat_list_cmp_total x (stretch rows.width rows.body.now k)
            (bytes_total.passes x (stretch rows.width rows.body.now mid) (stretch rows.width rows.body.now k) (below nat_list_cmp_total (stretch rows.width rows.body.now mid) x (sym h)) (up mid k v u))
        | inr v ↦ (let e : mid ≡ k = omega arith in subst (λ i. at i ≡ Greater) e (sym h))
      ];
    }

  -- where the ends have met, x is no row
  nowhere : (low high : ℕ) → Between rows.width rows.body.now n x low high → high ≤ low → Nowhere rows.width rows.body.now n x
  nowhere low high b m k l e =
      let t : at k ≡ Equal = ap (λ y. byte_order y x) e ∙ bytes_total.itself x in
      elim (cases_lt k low) [
        | inl h ↦ omega (arith, clash t (b.lower k h))
        | inr h ↦ omega (arith, clash t (b.higher k (omega arith) l))
      ]

  pub found_here : (k : ℕ) → k < n → Equal ≡ at k → IsFound rows row (Some k)
  found_here k l e = record { within = l; same = bytes_total.same (stretch rows.width rows.body.now k) x (sym e) }

  pub found_none : (low high : ℕ) → IsNarrowed rows row low high → high ≤ low → IsFound rows row None
  found_none low high b m up = nowhere low high (b up) m
