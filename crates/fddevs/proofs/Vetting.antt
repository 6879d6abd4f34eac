-- Lemmas on findings: a test of every number below a bound, the first number that fails it, one finding after another.
use Rattle.std.proofs.Common.{◌≡◌, ℕ, zero, suc, ◌+◌, ◌*◌, ◌<◌, ◌≤◌, Bool, true, false, ◌⊎◌, is_ok, Some, None, Ok, Err, Decides, Option, sym, refl, ap, ◌∙◌, inl, inr, ⊎_elim, le_refl, mul-le-mul_right, suc-mul, arith}
use Rattle.std.proofs.lemmas.Bool.{cases_Bool, both_ways, cases_lt, false≢true}
use Rattle.std.proofs.lemmas.Bool.Decides.{Decides-below_and}
use Rattle.fddevs.specs.declared.refusal.Refusal.{Refusal}
use Rattle.fddevs.specs.Refusals.{number_of, place_of}
use Rattle.fddevs.specs.Vetting.{Vetted, then, unless, seek, found, all_below, NotAfter, Tells}

eq_or_less : (a b : ℕ) → a ≤ b → (a ≡ b) ⊎ (a < b)
eq_or_less a b h = ⊎_elim inr (λ g. inl (omega arith)) (cases_lt a b)

-- a test of every number below n
module _ (t : ℕ → Bool) where
  decides : (n : ℕ) → Decides (all_below t n) ((k : ℕ) → k < n → t k ≡ true)
  decides = Decides-below_and t (λ k. t k ≡ true) (all_below t) (λ k. (λ e. e, λ e. e)) refl (λ _. refl)

  pub below_true : (n : ℕ) → ((k : ℕ) → k < n → t k ≡ true) → all_below t n ≡ true
  below_true n h = (decides n).1 h

  pub below_false : (n k : ℕ) → k < n → t k ≡ false → all_below t n ≡ false
  below_false n k h e = ⊎_elim (λ y. absurd (both_ways (t k) e ((decides n).0 y k h))) (λ y. y) (cases_Bool (all_below t n))

  pub true_below : (n : ℕ) → all_below t n ≡ true → (k : ℕ) → k < n → t k ≡ true
  true_below n e = (decides n).0 e

-- the first number that fails the test
module _ (t : ℕ → Bool) where
  seek_some : (n a k : ℕ) → a ≤ k → k < a + n → ((j : ℕ) → a ≤ j → j < k → t j ≡ true) → t k ≡ false → seek t a n ≡ Some k
  seek_some zero a k low high before here = absurd (omega arith)
  seek_some (suc n) a k low high before here =
      ⊎_elim
      (λ e. let y : t a ≡ false = ap t e ∙ here in rw y (ap Some e))
      (λ l. rw (before a (le_refl a) l) (seek_some n (a + 1) k (omega arith) (omega arith) (λ j p q. before j (omega arith) q) here))
      (eq_or_less a k low)

  seek_none : (n a : ℕ) → ((j : ℕ) → a ≤ j → j < a + n → t j ≡ true) → seek t a n ≡ None
  seek_none zero a all = refl
  seek_none (suc n) a all = rw (all a (le_refl a) (omega arith)) (seek_none n (a + 1) (λ j p q. all j (omega arith) (omega arith)))

  none_seek : (n a : ℕ) → seek t a n ≡ None → (j : ℕ) → a ≤ j → j < a + n → t j ≡ true
  none_seek zero a e j p q = absurd (omega arith)
  none_seek (suc n) a e j p q =
      ⊎_elim
      (λ y. ⊎_elim (λ s. sym (ap t s) ∙ y) (λ l. none_seek n (a + 1) (rw y at e) j (omega arith) (omega arith)) (eq_or_less a j p))
      (λ y. let z = rw y at e in let w : ◌≡◌ {A = ℕ} 0 1 = cc in absurd (omega arith))
      (cases_Bool (t a))

  pub first_some : (n k : ℕ) → k < n → ((j : ℕ) → j < k → t j ≡ true) → t k ≡ false → seek t 0 n ≡ Some k
  first_some n k h before here = seek_some n 0 k (omega arith) (omega arith) (λ j _. before j) here

  pub first_none : (n : ℕ) → ((j : ℕ) → j < n → t j ≡ true) → seek t 0 n ≡ None
  first_none n all = seek_none n 0 (λ j _ q. all j (omega arith))

  pub none_first : (n : ℕ) → seek t 0 n ≡ None → (j : ℕ) → j < n → t j ≡ true
  none_first n e j h = none_seek n 0 e j (omega arith) (omega arith)

-- findings that found nothing
pub then_ok : (a b : Vetted) → is_ok (then a b) ≡ true → (is_ok a ≡ true) × (is_ok b ≡ true)
then_ok (Ok x) b e = (refl, e)
then_ok (Err x) b e = absurd (false≢true e)

pub found_none : (refusal : ℕ → Refusal) (o : Option ℕ) → is_ok (found refusal o) ≡ true → o ≡ None
found_none refusal None e = refl
found_none refusal (Some k) e = absurd (false≢true e)

pub tested : (b : Bool) (refusal : Refusal) → is_ok (unless b refusal) ≡ true → b ≡ true
tested true refusal e = refl
tested false refusal e = absurd (false≢true e)

-- A vetting tells of its faults: of one test, of the first place that fails a test, of one finding after another.
pub tells_unless : (b : Bool) (e : Refusal) → Tells (λ o. (b ≡ false) × (o ≡ e)) (unless b e)
tells_unless true e =
    record { accepts = λ _ o h. false≢true (sym h.0); refuses = λ o h. let z : ◌≡◌ {A = ℕ} 0 1 = cc in absurd (omega arith) }
tells_unless false e = record {
  accepts = λ h. let z : ◌≡◌ {A = ℕ} 0 1 = cc in absurd (omega arith);
  refuses = λ o h.
      let same : o ≡ e = cc in (
        (refl, same),
        λ q k.
            let other : q ≡ o = k.1 ∙ sym same in
            rw other (record { smallest = le_refl _; earliest = λ _. le_refl _ }),
      );
}

-- a refusal of one number, whose place is the place at fault
pub record Placed (refusal : ℕ → Refusal) : Type 0 where
  pub number : (j k : ℕ) → number_of (refusal j) ≡ number_of (refusal k)
  pub place : (k : ℕ) → place_of (refusal k) ≡ k

pub record FaultAt (t : ℕ → Bool) (n : ℕ) (refusal : ℕ → Refusal) (o : Refusal) : Type 0 where
  pub at_place : ℕ
  pub below : at_place < n
  pub fails : t at_place ≡ false
  pub same : o ≡ refusal at_place

module _ (t : ℕ → Bool) (refusal : ℕ → Refusal) (p : Placed refusal) where
  seek_first : (n a k : ℕ) → seek t a n ≡ Some k → (a ≤ k) × (k < a + n) × (t k ≡ false) × ((j : ℕ) → a ≤ j → t j ≡ false → k ≤ j)
  seek_first zero a k e = let z : ◌≡◌ {A = ℕ} 0 1 = cc in absurd (omega arith)
  seek_first (suc n) a k e =
      ⊎_elim
      (λ y.
      let r = seek_first n (a + 1) k (rw y at e) in (
        omega (arith, r.0),
        omega (arith, r.1),
        r.2,
        λ j h f.
            ⊎_elim (λ s. absurd (both_ways (t j) f (sym (ap t s) ∙ y))) (λ l. r.3 j (omega arith) f) (eq_or_less a j h),
      ))
      (λ y.
      let here = rw y at e in
      let s : a ≡ k = cc in
      rw (← s) (le_refl a, omega arith, y, λ j h f. h))
      (cases_Bool (t a))

  pub tells_found : (n : ℕ) → Tells (FaultAt t n refusal) (found refusal (seek t 0 n))
  tells_found n = go (seek t 0 n) refl
    where
      go : (o : Option ℕ) → seek t 0 n ≡ o → Tells (FaultAt t n refusal) (found refusal o)
      go None e = record {
        accepts = λ _ o h. both_ways (t h.at_place) h.fails (none_first t n e h.at_place h.below);
        refuses = λ o h. let z : ◌≡◌ {A = ℕ} 0 1 = cc in absurd (omega arith);
      }
      go (Some k) e =
          let r = seek_first n 0 k e in
          record {
            accepts = λ h. let z : ◌≡◌ {A = ℕ} 0 1 = cc in absurd (omega arith);
            refuses = λ o h.
                let same : o ≡ refusal k = cc in (
                  record { at_place = k; below = omega (arith, r.1); fails = r.2; same = same },
                  λ q f. rw (same, f.same) (record {
                    smallest = rw (p.number k f.at_place) (le_refl _);
                    earliest = λ _. rw (p.place k, p.place f.at_place) (r.3 f.at_place (omega arith) f.fails);
                  }),
                );
          }

pub tells_then : (P Q : Refusal → Type 0) (v w : Vetted) → Tells P v → Tells Q w →
    ((e o : Refusal) → P e → Q o → NotAfter e o) → Tells (λ o. P o ⊎ Q o) (then v w)
tells_then P Q (Ok tt) w p q order = record {
  accepts = λ h o. ⊎_elim (p.accepts refl o) (q.accepts h o);
  refuses = λ e h.
      let r = q.refuses e h in
      (inr r.0, λ o. ⊎_elim (λ f. absurd (p.accepts refl o f)) (r.1 o));
}
tells_then P Q (Err x) w p q order = record {
  accepts = λ h. let z : ◌≡◌ {A = ℕ} 0 1 = cc in absurd (omega arith);
  refuses = λ e h.
      let r = p.refuses e h in
      (inl r.0, λ o. ⊎_elim (r.1 o) (order e o r.0));
}

-- the same faults under other names
pub tells_as : (P Q : Refusal → Type 0) (v : Vetted) → ((o : Refusal) → P o → Q o) → ((o : Refusal) → Q o → P o) → Tells P v → Tells Q v
tells_as P Q v there back p = record {
  accepts = λ h o f. p.accepts h o (back o f);
  refuses = λ e h. let r = p.refuses e h in (there e r.0, λ o f. r.1 o (back o f));
}

-- s records of w bytes, and one more, lie among n
pub strides : (w s n : ℕ) → s < n → s * w + w ≤ n * w
strides w s n h = let m : suc s * w ≤ n * w = mul-le-mul_right w h in omega (arith, suc-mul s w)
