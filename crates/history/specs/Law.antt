-- The law over every order of calls on an examination. Assumes nothing.
use Rattle.std.specs.Prelude.{◌≡◌, ◌↔◌, Ok}
use Rattle.fddevs.specs.Machine.{Family, WithinLimits}
use Rattle.wiring.specs.File.{held}
use Rattle.wiring.specs.Laws.{file_of, KeepsWiringRules}
use Rattle.bars.specs.Rules.{KeepsBarRules}
use Rattle.proof_rules.specs.Laws.{ByTheRules, NeverEntered, SomeEntered}
use Rattle.history.specs.Held.{Held}
use Rattle.history.specs.History.{Call, wire_call, bar_call, offer_call, verdict_call, History, wiring_held, bars_held, Gives, Throughout}
use Rattle.history.specs.Led.{Led}
use Rattle.history.specs.declared.verdict.Verdict.TheVariants.{Clear, Reached}

-- The call's answer is what the rules give for the calls before it: a wiring is accepted exactly when the file is its
-- file and it keeps the rules, a bar exactly when it keeps the rules beside the bars that stand, a proof file exactly
-- when it keeps the rules of sets, or of witnesses, under the wiring and the bars it met.
abbrev pub Right : Family → Call → History → Type 0
Right F (wire_call file a) h = (a ≡ Ok tt) ↔ ((file ≡ file_of (held file)) × KeepsWiringRules F (held file))
Right F (bar_call cs a) h = (a ≡ Ok tt) ↔ KeepsBarRules F (bars_held h) cs
Right F (offer_call file a) h = ByTheRules F (wiring_held h) (bars_held h) file a
Right F (verdict_call v) h = Gives h v

-- After the calls h, an examination over F holds x: the wiring, the bars and the verdict are those of the calls, every
-- answer was right, where it reads clear no run enters a barred state, and where it reads reached some run does.
pub record Law (F : Family) (h : History) (x : Held) : Type 0 where
  pub wiring : x.wiring ≡ wiring_held h
  pub bars : x.bars ≡ bars_held h
  pub reads : Gives h x.verdict
  pub answers : Throughout (Right F) h
  pub clear : x.verdict ≡ Clear → NeverEntered F x.wiring x.bars
  pub reached : x.verdict ≡ Reached → SomeEntered F x.wiring x.bars

-- for every family of parts and every order of calls, at every point
abbrev pub LawfulThroughout : Type 0
LawfulThroughout = (F : Family) → WithinLimits F → (h : History) (x : Held) → Led F h x → Law F h x
