use Rattle.std.proofs.Common.{◌≡◌, ℕ, Bool, true, false, length, Some, None, Err, ap, ◌∙◌, rules}
use Rattle.std.proofs.lemmas.Iterator.{first_from_Range}
use Rattle.fddevs.specs.Vetting.{found}
use Rattle.fddevs.proofs.Ranges.{first_is}
use Rattle.wiring.specs.Reading.{keeps, breach, draft}
use Rattle.wiring.proofs.check.Draft.check_rule.Goals as goal

pub returns-in-None : goal.returns-in-None
returns-in-None g c =
    let x = c.args.self.now in
    let t : ℕ → Bool = keeps c.args.rule (g.B.Bank.family x.bank.now) (draft x.outer x.wires.now) in
    ap (found (breach c.args.rule))
    (first_is t (length x.wires.now) None
    (first_from_Range _ _ _ None (λ k. t k ≡ false) (λ k. t k ≡ true) c.in-None.ensures.ran (λ k q h. search rules) (λ k q h. search rules)))

pub returns-in-Some : goal.returns-in-Some
returns-in-Some g c =
    let x = c.args.self.now in
    let t : ℕ → Bool = keeps c.args.rule (g.B.Bank.family x.bank.now) (draft x.outer x.wires.now) in
    ap Err c.refusal.ensures ∙ ap (found (breach c.args.rule))
    (first_is t (length x.wires.now) (Some c.in-Some.wire)
    (first_from_Range _ _ _ (Some c.in-Some.wire) (λ k. t k ≡ false) (λ k. t k ≡ true) c.in-Some.ensures.ran (λ k q h. search rules) (λ k q h. search rules)))
