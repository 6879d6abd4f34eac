-- The steps of a search for the first place at fault, and what it says where there is none.
use Rattle.std.proofs.Common.{◌≡◌, ℕ, zero, suc, ◌+◌, ◌-◌, ◌<◌, ◌≤◌, Bool, true, false, cond, Some, None, Ok, Err, Option, MatchOption, sym, refl, ap, ◌∙◌, subst, inl, inr, arith}
use Rattle.std.proofs.lemmas.Bool.{cases_lt}
use Rattle.fddevs.specs.declared.refusal.Refusal.{Refusal}
use Rattle.fddevs.specs.Vetting.{Vetted, then, unless, seek, found}

-- a search that finds nothing, and tests that all pass
on_first : (f : ℕ → Refusal) (b : Bool) (rest : Option ℕ) (a : ℕ) → found f (cond b rest (Some a)) ≡ Ok tt →
    (b ≡ true) × (found f rest ≡ Ok tt)
on_first f true rest a e = (refl, e)
on_first f false rest a e = absurd (let z : ◌≡◌ {A = ℕ} 0 1 = cc in omega arith)

pub seek_passed : (f : ℕ → Refusal) (t : ℕ → Bool) (a n : ℕ) → found f (seek t a n) ≡ Ok tt →
    (k : ℕ) → a ≤ k → k < a + n → t k ≡ true
seek_passed f t a zero e k h l = absurd (omega arith)
seek_passed f t a (suc n) e k h l =
    let p = on_first f (t a) (seek t (a + 1) n) a e in
    elim (cases_lt a k) [
      | inl u ↦ seek_passed f t (a + 1) n p.1 k (omega arith) (omega arith)
      | inr u ↦ (let q : a ≡ k = omega arith in subst (λ j. t j ≡ true) q p.0)
    ]

pub seek_passes : (t : ℕ → Bool) (a n : ℕ) → ((k : ℕ) → a ≤ k → k < a + n → t k ≡ true) → seek t a n ≡ None
seek_passes t a zero h = refl
seek_passes t a (suc n) h =
    ap (λ b. cond b (seek t (a + 1) n) (Some a)) (h a (omega arith) (omega arith))
    ∙ seek_passes t (a + 1) n (λ k l u. h k (omega arith) (omega arith))

-- findings that all found nothing
pub then_passed : (v w : Vetted) → then v w ≡ Ok tt → (v ≡ Ok tt) × (w ≡ Ok tt)
then_passed (Ok _) w e = (refl, e)
then_passed (Err x) w e = absurd (let z : ◌≡◌ {A = ℕ} 0 1 = cc in omega arith)

pub unless_passed : (b : Bool) (x : Refusal) → unless b x ≡ Ok tt → b ≡ true
unless_passed true x e = refl
unless_passed false x e = absurd (let z : ◌≡◌ {A = ℕ} 0 1 = cc in omega arith)

-- what a search answers that found the first number to fail the test, or none
seek_first : (t : ℕ → Bool) (a n i : ℕ) → a ≤ i → i < a + n → t i ≡ false → ((k : ℕ) → a ≤ k → k < i → t k ≡ true) → seek t a n ≡ Some i
seek_first t a zero i l u e h = absurd (omega arith)
seek_first t a (suc n) i l u e h =
    elim (cases_lt a i) [
      | inl v ↦ ap (λ b. cond b (seek t (a + 1) n) (Some a)) (h a (omega arith) v) ∙ seek_first t (a + 1) n i (omega arith) (omega arith) e (λ k p q. h k (omega arith) q)
      | inr v ↦ (let q : i ≡ a = omega arith in ap (λ b. cond b (seek t (a + 1) n) (Some a)) (sym (ap t q) ∙ e) ∙ ap Some (sym q))
    ]

pub seek_from : (t : ℕ → Bool) (a n : ℕ) (r : Option ℕ) →
    MatchOption r ((k : ℕ) → a ≤ k → k < n → t k ≡ true) (λ i. (a ≤ i) × (i < n) × (t i ≡ false) × ((k : ℕ) → a ≤ k → k < i → t k ≡ true)) →
    seek t a (n - a) ≡ r
seek_from t a n None h = seek_passes t a (n - a) (λ k l u. h k l (omega arith))
seek_from t a n (Some i) h = seek_first t a (n - a) i h.0 (omega (arith, h.0, h.1)) h.2 h.3

pub seek_from_0 : (t : ℕ → Bool) (n : ℕ) (r : Option ℕ) →
    MatchOption r ((k : ℕ) → 0 ≤ k → k < n → t k ≡ true) (λ i. (0 ≤ i) × (i < n) × (t i ≡ false) × ((k : ℕ) → 0 ≤ k → k < i → t k ≡ true)) →
    seek t 0 n ≡ r
seek_from_0 t n r h = let e : n ≡ n - 0 = omega arith in ap (seek t 0) e ∙ seek_from t 0 n r h
