-- The first steps of a witness, one after another.
use Rattle.std.proofs.Common.{◌≡◌, ℕ, zero, suc, ◌-◌, ◌<◌, ◌≤◌, List, [], ◌∷◌, length, get_or, take, drop, Some, None, sym, refl, ap, ◌∙◌, ap₂, arith}
use Rattle.std.proofs.lemmas.List.{take_rest}
use Rattle.fddevs.specs.declared.scheme.Move.{Move}
use Rattle.fddevs.specs.Machine.{Family, WithinLimits}
use Rattle.fddevs.specs.Rows.{Row, row}
use Rattle.fddevs.specs.Scheme.{Wiring, Scheme, scheme, start}
use Rattle.stepping.specs.Stepping.{start_cells, cells_after}
use Rattle.stepping.proofs.Fronts.{take_after, length_after, take_start}
use Rattle.proof_rules.specs.Judging.{step_of}
use Rattle.judging.proofs.Steps.{walk_begins}
use Rattle.reasons.specs.Walking.{went, walked}

short : (S : Scheme) (k : ℕ) (r : Row) (left : List ℕ) → length left < 3 → walked S k r left ≡ r
short S zero r left l = refl
short S (suc k) r [] l = refl
short S (suc k) r (a ∷ []) l = refl
short S (suc k) r (a ∷ b ∷ []) l = refl
short S (suc k) r (a ∷ b ∷ c ∷ bs) l = absurd (omega arith)

three : (S : Scheme) (k : ℕ) (r : Row) (left : List ℕ) → 0 < k → 3 ≤ length left →
    walked S k r left ≡ went S r (step_of (get_or left 0 0) (get_or left 1 0) (get_or left 2 0)) (λ q. walked S (k - 1) q (drop 3 left))
three S zero r left p l = absurd (omega arith)
three S (suc k) r [] p l = absurd (omega arith)
three S (suc k) r (a ∷ []) p l = absurd (omega arith)
three S (suc k) r (a ∷ b ∷ []) p l = absurd (omega arith)
three S (suc k) r (a ∷ b ∷ c ∷ bs) p l =
    let e : k ≡ suc k - 1 = omega arith in ap (λ j. went S r (step_of a b c) (λ q. walked S j q bs)) e

module _ (F : Family) (limits : WithinLimits F) (W : Wiring) (steps : ℕ) (body : List ℕ) where
  -- what is left to walk from these cells leads where the whole leads
  pub record Ahead (k : ℕ) (cs : Row) (left : List ℕ) : Type 0 where
    pub leads : walked (scheme F W) k (take F.count cs) left ≡ walked (scheme F W) steps (row (start (scheme F W))) body
    pub whole : length cs ≡ 16

  pub begins : (cs : Row) → cs ≡ start_cells F → Ahead steps cs body
  begins cs e = record {
    leads = ap (λ r. walked (scheme F W) steps r body) (ap (take F.count) e ∙ take_start F W);
    whole = (walk_begins F limits W [] body cs e).whole;
  }

  module _ (k : ℕ) (cs : Row) (left : List ℕ) (h : Ahead k cs left) where
    pub goes_on : (a : Move) (ds : Row) → 0 < k → 3 ≤ length left →
        Some a ≡ step_of (get_or left 0 0) (get_or left 1 0) (get_or left 2 0) →
        ds ≡ cells_after F W a cs → Ahead (k - 1) ds (take (length left - 3) (drop 3 left))
    goes_on a ds p l e d =
        let few = limits.few in
        let whole = h.whole in
        record {
          leads =
              ap₂ (λ q bs. walked (scheme F W) (k - 1) q bs) (ap (take F.count) d ∙ take_after F W cs (omega arith) a) (take_rest left 3)
              ∙ ap (λ o. went (scheme F W) (take F.count cs) o (λ q. walked (scheme F W) (k - 1) q (drop 3 left))) e
              ∙ sym (three (scheme F W) k (take F.count cs) left p l) ∙ h.leads;
          whole = ap length d ∙ length_after F W cs (omega arith) a ∙ whole;
        }

    pub ends_short : length left < 3 → take F.count cs ≡ walked (scheme F W) steps (row (start (scheme F W))) body
    ends_short l = sym (short (scheme F W) k (take F.count cs) left l) ∙ h.leads

    pub ends_there : k ≡ 0 → take F.count cs ≡ walked (scheme F W) steps (row (start (scheme F W))) body
    ends_there e = ap (λ j. walked (scheme F W) j (take F.count cs) left) (sym e) ∙ h.leads

    pub ends_unread : 0 < k → 3 ≤ length left → None ≡ step_of (get_or left 0 0) (get_or left 1 0) (get_or left 2 0) →
        take F.count cs ≡ walked (scheme F W) steps (row (start (scheme F W))) body
    ends_unread p l e =
        ap (λ o. went (scheme F W) (take F.count cs) o (λ q. walked (scheme F W) (k - 1) q (drop 3 left))) e
        ∙ sym (three (scheme F W) k (take F.count cs) left p l) ∙ h.leads
