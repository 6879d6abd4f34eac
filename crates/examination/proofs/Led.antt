-- The calls of an examination by the calls that led to it.
use Rattle.std.proofs.Common.{◌≡◌, ◌∷◌, sym, refl, subst}
use Rattle.fddevs.specs.Machine.{Family, WithinLimits}
use Rattle.history.specs.Held.{Held}
use Rattle.history.specs.History.{Call, verdict_call}
use Rattle.history.specs.Led.{Answered, leaves, Led, goes}
use Rattle.history.proofs.Lawful.{law_of}
use Rattle.examination.specs.Leads.{Leads, HoldsTheLaw}
use Rattle.examination.specs.Meaning.{held}
use Rattle.examination.specs.declared.examination.Examination.{Examination}

-- a call that is answered as it is due, and leaves what is due
pub leads_by : {B : Type 0} (family : B → Family) (x y : Examination B) (e : Call) →
    held y ≡ leaves (family x.bank) e (held x) → Answered (family x.bank) (held x) e → Leads family x e y
leads_by family x y e state right =
    λ h led. subst (λ (z : Held). Led (family x.bank) (e ∷ h) z) (sym state) (goes e led right)

pub law_by : {B : Type 0} (family : B → Family) (x : Examination B) → WithinLimits (family x.bank) →
    HoldsTheLaw family x x.state.standing.verdict
law_by family x limits = λ h led. law_of (family x.bank) limits (goes (verdict_call x.state.standing.verdict) led refl)
