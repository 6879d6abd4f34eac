-- Where calls lead: what each call answers and leaves, by what it met. Assumes nothing.
use Rattle.std.specs.Prelude.{◌≡◌, [], ◌∷◌}
use Rattle.fddevs.specs.Machine.{Family}
use Rattle.wiring.specs.Reading.{reading}
use Rattle.bars.specs.Vetting.{vetting}
use Rattle.proof_rules.specs.Files.{Bytes}
use Rattle.proof_rules.specs.Judging.{judgement}
use Rattle.history.specs.Held.{Held, begun, answer_of, after_wire, after_bar, after_offer}
use Rattle.history.specs.History.{Call, wire_call, bar_call, offer_call, verdict_call, History}

-- the call was answered as it is due where the examination holds x
abbrev pub Answered : Family → Held → Call → Type 0
Answered F x (wire_call file a) = Bytes file × (a ≡ answer_of (reading F file))
Answered F x (bar_call cs a) = a ≡ vetting F x.bars cs
Answered F x (offer_call file a) = Bytes file × (a ≡ judgement F x.wiring x.bars file)
Answered F x (verdict_call v) = v ≡ x.verdict

-- what the call leaves
abbrev pub leaves : Family → Call → Held → Held
leaves F (wire_call file a) x = after_wire (reading F file) x
leaves F (bar_call cs a) x = after_bar (vetting F x.bars cs) cs x
leaves F (offer_call file a) x = after_offer (judgement F x.wiring x.bars file) x
leaves F (verdict_call v) x = x

-- the calls h, on a fresh examination over F, lead to one that holds x
pub data Led (F : Family) : History → Held → Type 0 where
  begins : Led F [] begun
  goes : {h : History} {x : Held} (e : Call) → Led F h x → Answered F x e → Led F (e ∷ h) (leaves F e x)
