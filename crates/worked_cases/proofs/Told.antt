-- The cases hold: every answer computes.
use Rattle.std.proofs.Common.{◌≡◌, ℕ, true, ltb, List, [], ◌∷◌, Ok, Err, refl}
use Rattle.std.specs.List.{AllByRecursion}
use Rattle.std.proofs.lemmas.Bool.{ltb-true, and_parts}
use Rattle.fddevs.specs.declared.refusal.Refusal.TheVariants.{RowBarred, RowLeaves, StartAbsent, StepNotAllowed, EndNotBarred}
use Rattle.fddevs.specs.Machine.{Family}
use Rattle.fddevs.specs.Rows.{every}
use Rattle.bars.specs.declared.condition.Condition.{Condition}
use Rattle.proof_rules.specs.declared.evidence.Evidence.TheVariants.{Set, Witness}
use Rattle.proof_rules.specs.Files.{Bytes}
use Rattle.history.specs.Held.{begun}
use Rattle.history.specs.History.{wire_call, bar_call, offer_call, verdict_call}
use Rattle.history.specs.Led.{Led, begins, goes}
use Rattle.history.specs.declared.verdict.Verdict.TheVariants.{Open, Clear, Reached}
use Rattle.worked_cases.specs.Cases.{Holds, cases, one_timer, one_wiring, six_rows, without_reset, without_start, two_timers, two_wiring, race, race_after, race_cut, kept_part, kept_wiring, kept_after}

bytes : (xs : List ℕ) → every (λ b. ltb b 256) xs ≡ true → Bytes xs
bytes [] h = tt
bytes (x ∷ xs) h = let p = and_parts (ltb x 256) _ h in (ltb-true x 256 p.0, bytes xs p.1)

abbrev at : ℕ → ℕ → List Condition
at p s = record { part = p; phase = s } ∷ []

fresh : (F : Family) → Led F [] begun
fresh F = begins

pub cases_hold : AllByRecursion Holds cases
cases_hold =
    let one = goes (wire_call one_wiring (Ok tt)) (fresh one_timer) (bytes one_wiring refl, refl) in
    let set = goes (verdict_call Clear) (goes (offer_call six_rows (Ok Set)) one (bytes six_rows refl, refl)) refl in
    let opened = goes (verdict_call Open) (goes (bar_call (at 0 3) (Ok tt)) set refl) refl in
    let operated = goes (bar_call (at 0 2) (Ok tt)) one refl in
    let barred = goes (verdict_call Open) (goes (offer_call six_rows (Err (RowBarred 3))) operated (bytes six_rows refl, refl)) refl in
    let leaves = goes (offer_call without_reset (Err (RowLeaves 4))) one (bytes without_reset refl, refl) in
    let absent = goes (offer_call without_start (Err StartAbsent)) leaves (bytes without_start refl, refl) in
    let two = goes (wire_call two_wiring (Ok tt)) (fresh two_timers) (bytes two_wiring refl, refl) in
    let raced = goes (bar_call race (Ok tt)) two refl in
    let hit = goes (verdict_call Reached) (goes (offer_call (race_after 2) (Ok Witness)) raced (bytes (race_after 2) refl, refl)) refl in
    let still = goes (verdict_call Reached) (goes (bar_call (at 0 3) (Ok tt)) hit refl) refl in
    let short = goes (offer_call race_cut (Err EndNotBarred)) raced (bytes race_cut refl, refl) in
    let late = goes (offer_call (race_after 3) (Err (StepNotAllowed 1))) short (bytes (race_after 3) refl, refl) in
    let never = goes (offer_call (race_after 0) (Err (StepNotAllowed 1))) late (bytes (race_after 0) refl, refl) in
    let part = goes (wire_call kept_wiring (Ok tt)) (fresh kept_part) (bytes kept_wiring refl, refl) in
    let ended = goes (bar_call (at 0 2) (Ok tt)) part refl in
    let early = goes (offer_call (kept_after 2) (Err (StepNotAllowed 3))) ended (bytes (kept_after 2) refl, refl) in
    let past = goes (offer_call (kept_after 4) (Err (StepNotAllowed 2))) early (bytes (kept_after 4) refl, refl) in
    let due = goes (offer_call (kept_after 3) (Ok Witness)) past (bytes (kept_after 3) refl, refl) in (
      (_, opened),
      (
        (_, barred),
        (
          (_, goes (verdict_call Open) absent refl),
          (
            (_, still),
            (
              (_, goes (verdict_call Open) never refl),
              ((_, goes (verdict_call Reached) due refl), tt),
            ),
          ),
        ),
      ),
    )
