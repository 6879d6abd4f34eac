use Rattle.std.proofs.Common.{◌≡◌, ℕ, Bool, true, false, not, Some, None, ap, ◌∙◌, rules}
use Rattle.std.proofs.lemmas.Iterator.{first_from_Range}
use Rattle.fddevs.specs.Vetting.{found, seek}
use Rattle.fddevs.proofs.Ranges.{first_is}
use Rattle.fddevs.specs.declared.refusal.Refusal.TheVariants.{RowBarred}
use Rattle.bars.specs.Bars.{barred}
use Rattle.bars.specs.Meaning.{all_conditions}
use Rattle.proof_rules.specs.Rules.{row_phases}
use Rattle.proof_rules.specs.Judging.{row_at}
use Rattle.judging.proofs.Loaded.{count_of}
use Rattle.judging.proofs.Members.{some_of}
use Rattle.judging.proofs.set.Candidate.vet_bars.Goals as goal

pub returns-in-None : goal.returns-in-None
returns-in-None g c =
    let x = c.args.self.now in
    let F = g.B.Bank.family x.bank.now in
    let body = x.rows.body.now in
    let t : ℕ → Bool = λ k. not (barred (all_conditions c.args.bars.now) (row_phases (row_at F.count body k))) in
    ap (found RowBarred)
    (first_is t c.count.result None
    (first_from_Range _ _ _ None (λ k. t k ≡ false) (λ k. t k ≡ true) c.in-None.ensures.ran (λ k q h. search rules) (λ k q h. search rules))
    ∙ ap (seek t 0) (c.count.ensures ∙ count_of F.count (some_of F (g.met.B.Bank.limits x.bank.now)) body x.rows x.parts))

pub returns-in-Some : goal.returns-in-Some
returns-in-Some g c =
    let x = c.args.self.now in
    let F = g.B.Bank.family x.bank.now in
    let body = x.rows.body.now in
    let t : ℕ → Bool = λ k. not (barred (all_conditions c.args.bars.now) (row_phases (row_at F.count body k))) in
    ap (found RowBarred)
    (first_is t c.count.result (Some c.in-Some.k)
    (first_from_Range _ _ _ (Some c.in-Some.k) (λ k. t k ≡ false) (λ k. t k ≡ true) c.in-Some.ensures.ran (λ k q h. search rules) (λ k q h. search rules))
    ∙ ap (seek t 0) (c.count.ensures ∙ count_of F.count (some_of F (g.met.B.Bank.limits x.bank.now)) body x.rows x.parts))
