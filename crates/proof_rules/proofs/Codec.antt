-- Rows and steps as bytes: how many they are, and steps read again.
use Rattle.std.proofs.Common.{◌≡◌, ℕ, suc, ◌+◌, ◌*◌, ◌/◌, ◌%◌, ◌<◌, cond, eqb, List, [], ◌∷◌, ◌++◌, length, Some, None, sym, refl, ap, ◌∙◌, ap₂, div-add-mod', arith}
use Rattle.std.proofs.lemmas.Nat.{div-mul-add, mod-mul-add}
use Rattle.std.proofs.lemmas.Bool.{cond_both, eqb-true}
use Rattle.fddevs.specs.declared.part.Span.{Span}
use Rattle.fddevs.specs.declared.part.Span.TheVariants.{Ticks, Unlimited}
use Rattle.fddevs.specs.declared.scheme.Move.{Move}
use Rattle.fddevs.specs.declared.scheme.Move.TheVariants.{Outer, Internal, Delay}
use Rattle.fddevs.specs.Rows.{Row}
use Rattle.stepping.specs.RowBytes.{span_bytes, row_bytes}
use Rattle.proof_rules.specs.Files.{step_bytes}
use Rattle.proof_rules.specs.Judging.{step_of}

-- two bytes
two_read : (n : ℕ) → (n / 256) * 256 + n % 256 ≡ n
two_read n = div-add-mod' n 256

two_written : (a b : ℕ) → b < 256 → (a * 256 + b) / 256 ∷ (a * 256 + b) % 256 ∷ [] ≡ a ∷ b ∷ []
two_written a b h = ap₂ (λ x y. x ∷ y ∷ []) (div-mul-add a 256 b h) (mod-mul-add a 256 b h)

-- three bytes a cell
pub row_length : (r : Row) → length (row_bytes r) ≡ 3 * length r
row_length [] = refl
row_length (c ∷ cs) = go c.remaining (row_length cs)
  where
    go : (t : Span) → length (row_bytes cs) ≡ 3 * length cs → suc (length (span_bytes t ++ row_bytes cs)) ≡ 3 * suc (length cs)
    go (Ticks n) e = omega arith
    go Unlimited e = omega arith

-- a step
pub delay_read : (d : ℕ) → step_of 0 (d / 256) (d % 256) ≡ Some (Delay d)
delay_read d = ap (λ (v : ℕ). Some (Delay v)) (two_read d)

pub step_written : (k a b : ℕ) → b < 256 → (m : Move) → step_of k a b ≡ Some m → step_bytes m ≡ k ∷ a ∷ b ∷ []
step_written k a b l m =
    cond_both (eqb k 0) (Some (Delay (a * 256 + b)))
    (cond (eqb a 0) (cond (eqb k 1) (Some (Outer b)) (cond (eqb k 2) (Some (Internal b)) None)) None)
    (λ o. o ≡ Some m → step_bytes m ≡ k ∷ a ∷ b ∷ [])
    (λ e q.
    let n = eqb-true k 0 e in
    let d : Delay (a * 256 + b) ≡ m = cc in
    ap step_bytes (sym d) ∙ ap₂ (λ (x : ℕ) (y : List ℕ). x ∷ y) (sym n) (two_written a b l))
    (λ _. cond_both (eqb a 0) (cond (eqb k 1) (Some (Outer b)) (cond (eqb k 2) (Some (Internal b)) None)) None
    (λ o. o ≡ Some m → step_bytes m ≡ k ∷ a ∷ b ∷ [])
    (λ ea. cond_both (eqb k 1) (Some (Outer b)) (cond (eqb k 2) (Some (Internal b)) None)
    (λ o. o ≡ Some m → step_bytes m ≡ k ∷ a ∷ b ∷ [])
    (λ e q.
    let x = eqb-true k 1 e in
    let y = eqb-true a 0 ea in
    let d : Outer b ≡ m = cc in
    ap step_bytes (sym d) ∙ ap₂ (λ (u v : ℕ). u ∷ v ∷ b ∷ []) (sym x) (sym y))
    (λ _. cond_both (eqb k 2) (Some (Internal b)) None (λ o. o ≡ Some m → step_bytes m ≡ k ∷ a ∷ b ∷ [])
    (λ e q.
    let x = eqb-true k 2 e in
    let y = eqb-true a 0 ea in
    let d : Internal b ≡ m = cc in
    ap step_bytes (sym d) ∙ ap₂ (λ (u v : ℕ). u ∷ v ∷ b ∷ []) (sym x) (sym y))
    (λ _ q. let z : ◌≡◌ {A = ℕ} 0 1 = cc in absurd (omega arith))))
    (λ _ q. let z : ◌≡◌ {A = ℕ} 0 1 = cc in absurd (omega arith)))
