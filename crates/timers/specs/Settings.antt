-- What is known of settings that were vetted.
use Rattle.std.specs.Prelude.{◌≡◌, ℕ, ◌<◌, ◌≤◌, true, List, length, get_or, is_ok, slice_index_or}
use Rattle.std.proofs.Common.{◌∙◌, rules}
use Rattle.std.proofs.lemmas.List.{get_or_default}
use Rattle.std.proofs.lemmas.Bool.{and_parts, leb-true}
use Rattle.std.proofs.lemmas.Bool.Decides.{nat_tests}
use Rattle.fddevs.specs.Machine.{WithinLimits, PartWithin}
use Rattle.fddevs.specs.declared.refusal.Refusal.TheVariants.{TimerCount, TimerTime}
use Rattle.fddevs.proofs.Vetting.{then_ok, tested, found_none, none_first}
use Rattle.timers.specs.Timers.{short, count_fits, first_long, vetting, no_setting, timer_machine, timer_family}
use Rattle.timers.specs.declared.setting.Setting.{Setting}

pub record Vetted (ts : List Setting) : Type 0 where
  pub some : 1 ≤ length ts
  pub few : length ts ≤ 16
  pub all_short : (k : ℕ) → k < length ts → short (slice_index_or ts k no_setting) ≡ true

pub vetted : (ts : List Setting) → is_ok (vetting ts) ≡ true → Vetted ts
vetted ts e =
    let a = then_ok _ (first_long ts) e in
    let n = and_parts _ _ (tested (count_fits ts) TimerCount a.0) in
    record {
      some = leb-true _ _ n.0;
      few = leb-true _ _ n.1;
      all_short = none_first (λ k. short (slice_index_or ts k no_setting)) (length ts) (found_none TimerTime _ a.1);
    }

pub record Times (t : Setting) : Type 0 where
  pub operate_fits : t.operate ≤ 65534
  pub hold_fits : t.hold ≤ 65534

-- a setting that was read
pub times_read : (ts : List Setting) → is_ok (vetting ts) ≡ true → (k : ℕ) (t : Setting) → k < length ts → t ≡ slice_index_or ts k t → Times t
times_read ts e k t h r =
    let same : t ≡ get_or ts k no_setting = r ∙ get_or_default ts k t no_setting h in
    let b = and_parts _ _ ((vetted ts e).all_short k h) in
    rw same (record { operate_fits = leb-true _ _ b.0; hold_fits = leb-true _ _ b.1 })

timer_within : (t : Setting) → short t ≡ true → PartWithin (timer_machine t)
timer_within t e = search (rules, nat_tests)

pub timers_within : (ts : List Setting) → is_ok (vetting ts) ≡ true → WithinLimits (timer_family ts)
timers_within ts e =
    let v = vetted ts e in
    record { some = v.some; few = v.few; part = λ p h. timer_within (slice_index_or ts p no_setting) (v.all_short p h) }
