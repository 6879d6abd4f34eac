use Rattle.std.proofs.Common.{sym, ap, ◌∙◌, lit<, take, ℕ}
use Rattle.std.proofs.Math.Seq.{take-length}
use Rattle.std.proofs.lemmas.Str.Pattern.{split_once_first}
use Rattle.std.proofs.lemmas.Option.{MatchOption-at_some, MatchOption-at_none}
use Rattle.session.proofs.parse.first_word.Goals as goal

pub returns-in-Some : goal.returns-in-Some
returns-in-Some c =
    let cut = split_once_first 32 c.args.text.now c.split_once.result c.split_once.ensures.cases (lit< tt) in
    let q = MatchOption-at_some _ _ (c.in-Some.word, c.in-Some.rest) c.in-Some.is cut in
    q.1

pub returns-in-None : goal.returns-in-None
returns-in-None c =
    let cut = split_once_first 32 c.args.text.now c.split_once.result c.split_once.ensures.cases (lit< tt) in
    let whole = MatchOption-at_none _ _ c.in-None.is cut in
    sym (ap (λ (n : ℕ). take n c.args.text.now) whole ∙ take-length c.args.text.now)
