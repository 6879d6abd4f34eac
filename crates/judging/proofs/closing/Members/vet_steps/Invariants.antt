use Rattle.std.proofs.Common.{◌≡◌, ℕ, ◌<◌, true}
use Rattle.fddevs.specs.Scheme.{scheme}
use Rattle.wiring.specs.Meaning.{wiring_of}
use Rattle.proof_rules.specs.Judging.{row_at, rows_in, all_stay}
use Rattle.judging.proofs.closing.Members.vet_steps.Given as goal

abbrev pub invariant-loop-k : goal.invariant-loop-k
invariant-loop-k g l =
    let S = l.self.scheme in
    let F = g.B.Bank.family S.bank.now in
    let body = l.self.rows.body.now in
    (j : ℕ) → j < l.k →
    all_stay (scheme F (wiring_of S.wiring.now)) (rows_in F.count body) (row_at F.count body j) ≡ true
