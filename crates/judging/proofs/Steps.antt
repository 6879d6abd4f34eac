-- The steps of a witness, one after another.
use Rattle.std.proofs.Common.{◌≡◌, ℕ, ◌+◌, ◌-◌, ◌≤◌, true, cond, List, [], ◌∷◌, length, get_or, take, drop, replicate, Some, Err, sym, refl, ap, ◌∙◌, ap₂, arith, length-append, length-drop}
use Rattle.std.proofs.lemmas.List.{length-map, length-replicate, take_rest}
use Rattle.fddevs.specs.declared.refusal.Refusal.TheVariants.{StepNotAllowed}
use Rattle.fddevs.specs.declared.scheme.Move.{Move}
use Rattle.fddevs.specs.Machine.{Family, WithinLimits}
use Rattle.fddevs.specs.Part.{begin}
use Rattle.fddevs.specs.Rows.{Row, cell, row, row_after}
use Rattle.fddevs.specs.Scheme.{Wiring, scheme, start}
use Rattle.stepping.specs.Stepping.{no_cell, start_cells, cells_after, cells_allow}
use Rattle.stepping.proofs.Fronts.{take_after, length_after, take_start}
use Rattle.stepping.proofs.Made.{count_parts}
use Rattle.wiring.specs.Meaning.{no_wiring}
use Rattle.proof_rules.specs.Judging.{step_of, taken, walk}
use Rattle.proof_rules.specs.Rules.{Bars}

module _ (F : Family) (limits : WithinLimits F) (W : Wiring) (bars : Bars) (body : List ℕ) where
  -- after so many steps, what is left to walk from these cells gives what the whole gives
  pub record Walking (k : ℕ) (cs : Row) (left : List ℕ) : Type 0 where
    pub walked : walk (scheme F W) bars k (take F.count cs) left ≡ walk (scheme F W) bars 0 (row (start (scheme F W))) body
    pub whole : length cs ≡ 16
    pub counted : k + length left ≤ length body

  start_length : length (start_cells F) ≡ 16
  start_length =
      let few = limits.few in
      length-append (row (start (scheme F no_wiring))) (replicate (16 - F.count) no_cell)
      ∙ omega (
        arith,
        length-map (start (scheme F no_wiring)) cell,
        length-map (scheme F no_wiring).parts begin,
        count_parts F no_wiring,
        length-replicate (16 - F.count) no_cell,
      )

  pub walk_begins : (cs : Row) → cs ≡ start_cells F → Walking 0 cs body
  walk_begins cs e = record {
    walked = ap (λ r. walk (scheme F W) bars 0 r body) (ap (take F.count) e ∙ take_start F W);
    whole = ap length e ∙ start_length;
    counted = omega arith;
  }

  module _ (k : ℕ) (cs : Row) (left : List ℕ) (h : Walking k cs left) where
    three : 3 ≤ length left →
        walk (scheme F W) bars k (take F.count cs) left
        ≡ taken (scheme F W) k (take F.count cs) (step_of (get_or left 0 0) (get_or left 1 0) (get_or left 2 0))
        (λ q. walk (scheme F W) bars (k + 1) q (drop 3 left))
    three l = go left l
      where
        go : (left : List ℕ) → 3 ≤ length left →
            walk (scheme F W) bars k (take F.count cs) left
            ≡ taken (scheme F W) k (take F.count cs) (step_of (get_or left 0 0) (get_or left 1 0) (get_or left 2 0))
            (λ q. walk (scheme F W) bars (k + 1) q (drop 3 left))
        go [] l = absurd (omega arith)
        go (a ∷ []) l = absurd (omega arith)
        go (a ∷ b ∷ []) l = absurd (omega arith)
        go (a ∷ b ∷ c ∷ bs) l = refl

    pub walk_more : (a : Move) (ds : Row) → 3 ≤ length left → Some a ≡ step_of (get_or left 0 0) (get_or left 1 0) (get_or left 2 0) →
        true ≡ cells_allow F W cs a → ds ≡ cells_after F W a cs → Walking (k + 1) ds (take (length left - 3) (drop 3 left))
    walk_more a ds l e t d =
        let r = take_rest left 3 in
        let few = limits.few in
        let whole = h.whole in
        let counted = h.counted in
        let n = length-drop 3 left in
        record {
          walked =
              ap₂ (λ q bs. walk (scheme F W) bars (k + 1) q bs) (ap (take F.count) d ∙ take_after F W cs (omega arith) a) r
              ∙ ap (λ b. cond b (walk (scheme F W) bars (k + 1) (row_after (scheme F W) (take F.count cs) a) (drop 3 left)) (Err (StepNotAllowed k))) t
              ∙ ap (λ o. taken (scheme F W) k (take F.count cs) o (λ q. walk (scheme F W) bars (k + 1) q (drop 3 left))) e
              ∙ sym (three l) ∙ h.walked;
          whole = ap length d ∙ length_after F W cs (omega arith) a ∙ whole;
          counted = omega (arith, ap length r);
        }
