-- The first bar that holds, among the bars' conditions.
use Rattle.std.proofs.Common.{◌≡◌, ℕ, ◌<◌, ◌≤◌, Bool, true, false, not, List, [], ◌∷◌, length, get_or, Some, None, Option, refl, ap, ◌∙◌, arith}
use Rattle.std.specs.List.{AllWithin, HoldsAt}
use Rattle.std.specs.Option.{MatchOption}
use Rattle.std.proofs.lemmas.List.{get_or-map}
use Rattle.fddevs.specs.Vetting.{seek}
use Rattle.fddevs.proofs.Ranges.{first_is}
use Rattle.bars.specs.declared.bar.Bar.{Bar}
use Rattle.bars.specs.Bars.{holds}
use Rattle.bars.specs.Meaning.{conditions_of, all_conditions}
use Rattle.reasons.specs.Holding.{holds_not}

module _ (phases : List ℕ) where
  abbrev held : Bool → Bar → Type 0
  held t b = holds (conditions_of b) phases ≡ t

  pub holding_is : (bars : List Bar) (r : Option ℕ) →
      MatchOption r (AllWithin (held false) bars 0 (length bars))
      (λ i. (i < length bars) × HoldsAt (held true) bars i × AllWithin (held false) bars 0 i) →
      r ≡ seek (holds_not (all_conditions bars) phases) 0 (length bars)
  holding_is [] None h = refl
  holding_is [] (Some i) h = absurd (omega (arith, h.0))
  holding_is (b ∷ bs) r h = first_is t (length bars) r (told r h)
    where
      bars : List Bar
      bars = b ∷ bs

      t : ℕ → Bool
      t = holds_not (all_conditions bars) phases

      at : (k : ℕ) → k < length bars → t k ≡ not (holds (conditions_of (get_or bars k b)) phases)
      at k l = ap (λ cs. not (holds cs phases)) (get_or-map conditions_of bars k b [] l)

      told : (r : Option ℕ) →
          MatchOption r (AllWithin (held false) bars 0 (length bars))
          (λ i. (i < length bars) × HoldsAt (held true) bars i × AllWithin (held false) bars 0 i) →
          MatchOption r ((k : ℕ) → 0 ≤ k → k < length bars → t k ≡ true)
          (λ i. (0 ≤ i) × (i < length bars) × (t i ≡ false) × ((k : ℕ) → 0 ≤ k → k < i → t k ≡ true))
      told None h = λ k a l. at k l ∙ ap not (h k b a l)
      told (Some i) h = (omega arith, h.0, at i h.0 ∙ ap not (h.1 b), λ k a l. at k (omega (arith, h.0)) ∙ ap not (h.2 k b a l))
