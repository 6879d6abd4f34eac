use Rattle.std.proofs.Common.{ℕ, Err, sym, ap, ◌∙◌, arith, below_more}
use Rattle.fddevs.specs.Vetting.{found}
use Rattle.fddevs.proofs.Vetting.{first_some, first_none}
use Rattle.scheme_file.specs.File.{head, part_count}
use Rattle.scheme_file.specs.Vetting.{passes, refusal}
use Rattle.scheme_file.specs.Heads.{head_more, inside, not_short, measured}
use Rattle.scheme_file.proofs.vetting.check_sections.Goals as goal

pub passes-requires : goal.passes-requires
passes-requires c =
    let f = c.args.file.now in
    let l = c.loop-k in
    record {
      inside = inside f c.requires.whole l.k l.at l.invariant.0 (omega arith);
      ready = measured f c.args.test c.requires.ready l.k l.at l.invariant.0 (omega arith);
    }

pub returns-then-not-passes : goal.returns-then-not-passes
returns-then-not-passes c =
    let f = c.args.file.now in
    let l = c.loop-k in
    let t = λ (h : ℕ). passes c.args.test f h in
    ap Err c.refusal.ensures ∙
    ap (found (refusal c.args.test))
    (sym
    (first_some (λ k. t (head f k)) (part_count f) l.k (omega arith) l.invariant.1
    (sym (ap t l.invariant.0) ∙ sym c.if-not-passes.ensures)))

pub returns : goal.returns
returns c =
    let f = c.args.file.now in
    ap (found (refusal c.args.test))
    (sym
    (first_none (λ k. passes c.args.test f (head f k)) (part_count f) (λ j h. c.loop-k.invariant.1 j (omega arith))))
