use Rattle.std.proofs.Common.{◌≡◌, ℕ, ◌<◌, true, take}
use Rattle.fddevs.specs.declared.scheme.Move.{Move}
use Rattle.fddevs.specs.Scheme.{scheme}
use Rattle.stepping.specs.RowBytes.{cells_of}
use Rattle.wiring.specs.Meaning.{wiring_of}
use Rattle.proof_rules.specs.Judging.{rows_in, stays}
use Rattle.judging.specs.Set.{IsSet}
use Rattle.reasons.proofs.leaving.Leaver.first.Given as goal

abbrev pub invariant-loop-x : goal.invariant-loop-x
invariant-loop-x g l =
    let S = l.self.scheme in
    let F = g.B.Bank.family S.bank.now in
    IsSet F l.self.rows.now → (m : ℕ → Move) → ((x : ℕ) (a : Move) → goal.F-post g l.step x a → a ≡ m x) → (j : ℕ) → j < l.x →
    stays (scheme F (wiring_of S.wiring.now)) (rows_in F.count l.self.rows.now.body.now) (take F.count (cells_of l.self.row.now.bytes)) (m j) ≡ true
