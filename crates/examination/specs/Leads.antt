-- What the calls of an examination promise of the calls before them. Assumes nothing.
use Rattle.std.specs.Prelude.{◌∷◌}
use Rattle.fddevs.specs.Machine.{Family}
use Rattle.history.specs.History.{Call, verdict_call, History}
use Rattle.history.specs.Law.{Law}
use Rattle.history.specs.Led.{Led}
use Rattle.history.specs.declared.verdict.Verdict.{Verdict}
use Rattle.examination.specs.Meaning.{held}
use Rattle.examination.specs.declared.examination.Examination.{Examination}

-- whatever calls led to x, those calls and then this one lead to y
abbrev pub Leads : {B : Type 0} → (B → Family) → Examination B → Call → Examination B → Type 0
Leads family x e y = (h : History) → Led (family x.bank) h (held x) → Led (family x.bank) (e ∷ h) (held y)

-- whatever calls led to x, the law holds of them and of this reading of the verdict
abbrev pub HoldsTheLaw : {B : Type 0} → (B → Family) → Examination B → Verdict → Type 0
HoldsTheLaw family x v =
    (h : History) → Led (family x.bank) h (held x) → Law (family x.bank) (verdict_call v ∷ h) (held x)
