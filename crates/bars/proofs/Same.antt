-- Two bars are the same exactly where the test says so.
use Rattle.std.proofs.Common.{◌≡◌, ℕ, ◌&&◌, eqb, List, [], ◌∷◌, Decides, refl, ap, arith}
use Rattle.std.proofs.lemmas.Bool.{and_parts, and_from, eqb-true, eq-eqb, false≢true}
use Rattle.bars.specs.Bars.{same_bar}
use Rattle.bars.specs.declared.condition.Condition.{Condition}

one_same : (c d : Condition) → c.part ≡ d.part → c.phase ≡ d.phase → c ≡ d
one_same c d p q = λ i. record { part = p i; phase = q i }

pub same_decides : (cs ds : List Condition) → Decides (same_bar cs ds) (cs ≡ ds)
same_decides [] [] = ((λ _. refl), λ _. refl)
same_decides [] (d ∷ ds) = ((λ e. absurd (false≢true e)), λ e. let z : ◌≡◌ {A = ℕ} 0 1 = cc in absurd (omega arith))
same_decides (c ∷ cs) [] = ((λ e. absurd (false≢true e)), λ e. let z : ◌≡◌ {A = ℕ} 0 1 = cc in absurd (omega arith))
same_decides (c ∷ cs) (d ∷ ds) = (
  λ e.
      let a = and_parts (eqb c.part d.part && eqb c.phase d.phase) (same_bar cs ds) e in
      let b = and_parts (eqb c.part d.part) (eqb c.phase d.phase) a.0 in
      let heads : c ≡ d = one_same c d (eqb-true _ _ b.0) (eqb-true _ _ b.1) in
      let tails : cs ≡ ds = (same_decides cs ds).0 a.1 in
      cc,
  λ e.
      let heads : c ≡ d = cc in
      let tails : cs ≡ ds = cc in
      and_from _ _ (and_from _ _ (eq-eqb _ _ (ap (λ x. x.part) heads)) (eq-eqb _ _ (ap (λ x. x.phase) heads)))
      ((same_decides cs ds).1 tails),
)
