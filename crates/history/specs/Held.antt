-- What an examination holds besides its bank, and what each call leaves. Assumes nothing.
use Rattle.std.specs.Prelude.{List, [], ◌∷◌, ◌++◌, Ok, Err, Result}
use Rattle.fddevs.specs.declared.refusal.Refusal.{Refusal}
use Rattle.fddevs.specs.Scheme.{Wiring}
use Rattle.fddevs.specs.Vetting.{Vetted}
use Rattle.wiring.specs.Meaning.{no_wiring}
use Rattle.bars.specs.declared.condition.Condition.{Condition}
use Rattle.proof_rules.specs.declared.evidence.Evidence.{Evidence}
use Rattle.proof_rules.specs.Rules.{Bars}
use Rattle.history.specs.Verdicts.{verdict_after}
use Rattle.history.specs.declared.verdict.Event.TheVariants.{Wired, BarAdded, Accepted}
use Rattle.history.specs.declared.verdict.Verdict.{Verdict}
use Rattle.history.specs.declared.verdict.Verdict.TheVariants.{Open}

pub record Held : Type 0 where
  pub wiring : Wiring
  pub bars : Bars
  pub verdict : Verdict

abbrev pub begun : Held
begun = record { wiring = no_wiring; bars = []; verdict = Open }

-- a wiring file is accepted where it is read as a wiring
abbrev pub answer_of : Result Wiring Refusal → Vetted
answer_of (Ok W) = Ok tt
answer_of (Err e) = Err e

abbrev pub after_wire : Result Wiring Refusal → Held → Held
after_wire (Ok W) x = record { wiring = W; bars = x.bars; verdict = verdict_after x.verdict Wired }
after_wire (Err e) x = x

abbrev pub after_bar : Vetted → List Condition → Held → Held
after_bar (Ok _) cs x =
    record { wiring = x.wiring; bars = x.bars ++ (cs ∷ []); verdict = verdict_after x.verdict BarAdded }
after_bar (Err e) cs x = x

abbrev pub after_offer : Result Evidence Refusal → Held → Held
after_offer (Ok shown) x =
    record { wiring = x.wiring; bars = x.bars; verdict = verdict_after x.verdict (Accepted shown) }
after_offer (Err e) x = x
