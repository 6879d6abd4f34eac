use Rattle.std.proofs.Common.{◌≡◌, true, false, Some, None, ap, rules}
use Rattle.std.proofs.lemmas.Iterator.{YieldsList-from_slice, IsFirst-from_position}
use Rattle.fddevs.specs.Vetting.{found}
use Rattle.fddevs.specs.declared.refusal.Refusal.TheVariants.{TimerTime}
use Rattle.fddevs.proofs.Ranges.{first_item}
use Rattle.timers.specs.Timers.{short, no_setting}
use Rattle.timers.proofs.vetting.check_times.Goals as goal

pub returns-in-None : goal.returns-in-None
returns-in-None c =
    ap (found TimerTime)
    (first_item short no_setting c.args.settings.now None
    (IsFirst-from_position _ _ None (λ x. short x ≡ false) (λ x. short x ≡ true) c.in-None.ensures.ran
    (YieldsList-from_slice c.args.settings.now (search rules)) (λ x q h. search rules) (λ x q h. search rules)))

pub returns-in-Some : goal.returns-in-Some
returns-in-Some c =
    ap (found TimerTime)
    (first_item short no_setting c.args.settings.now (Some c.in-Some.k)
    (IsFirst-from_position _ _ (Some c.in-Some.k) (λ x. short x ≡ false) (λ x. short x ≡ true) c.in-Some.ensures.ran
    (YieldsList-from_slice c.args.settings.now (search rules)) (λ x q h. search rules) (λ x q h. search rules)))
