use Rattle.std.proofs.Common.{◌≡◌, ◌<◌, get_or, Ok, sym, ap, ◌∙◌, subst, rules}
use Rattle.lookup.specs.Shape.{shape_of}
use Rattle.proof_rules.specs.Judging.{order_vetting}
use Rattle.stepping.proofs.Typed.{typed_bytes}
use Rattle.judging.proofs.Members.{some_of, set_of, same_body}
use Rattle.judging.proofs.judging.Examined.vet_rows.Goals as goal

pub invariant_of-members : goal.invariant_of-members
invariant_of-members g c =
    let F = g.B.Bank.family c.args.self.now.scheme.bank.now in
    let body = c.args.body.now in
    let e = c.new-rows.ensures ∙ ap (λ n. shape_of n body) c.part_count.ensures in
    let passed : order_vetting F.count body ≡ Ok tt = search rules in
    let set = set_of F (g.met.B.Bank.limits c.args.self.now.scheme.bank.now) body c.new-rows.result e (typed_bytes body c.type_inv.body) passed in
    let same = same_body F.count (some_of F (g.met.B.Bank.limits c.args.self.now.scheme.bank.now)) c.new-rows.result body e in
    record {
      parts = set.parts;
      bytes = λ k. subst (λ xs. get_or xs k 0 < 256) (sym same) (c.type_inv.body k).fits;
      rising = set.rising;
    }
