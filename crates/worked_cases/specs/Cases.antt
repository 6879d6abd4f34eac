-- Worked cases: a family of parts, and calls on an examination of it with the answers that they must get.
-- Assumes nothing.
use Rattle.std.specs.Prelude.{ℕ, List, [], ◌∷◌, reverse, Ok, Err}
use Rattle.fddevs.specs.declared.refusal.Refusal.TheVariants.{RowBarred, RowLeaves, StartAbsent, StepNotAllowed, EndNotBarred}
use Rattle.fddevs.specs.Machine.{Family}
use Rattle.timers.specs.Timers.{made_family}
use Rattle.timers.specs.declared.setting.Setting.{Setting}
use Rattle.scheme_file.specs.Vetting.{table_family}
use Rattle.bars.specs.declared.condition.Condition.{Condition}
use Rattle.proof_rules.specs.declared.evidence.Evidence.TheVariants.{Set, Witness}
use Rattle.history.specs.Held.{Held}
use Rattle.history.specs.History.{Call, wire_call, bar_call, offer_call, verdict_call}
use Rattle.history.specs.Led.{Led}
use Rattle.history.specs.declared.verdict.Verdict.TheVariants.{Open, Clear, Reached}

pub record Case : Type 0 where
  pub family : Family
  -- the calls in order
  pub calls : List Call

-- the calls, each with its answer, lead from a fresh examination to some examination
abbrev pub Holds : Case → Type 0
Holds c = (x : Held) × Led c.family (reverse c.calls) x

abbrev setting : ℕ → ℕ → Setting
setting t h = record { operate = t; hold = h }

abbrev at : ℕ → ℕ → Condition
at p s = record { part = p; phase = s }

-- One timer with operate time 1 and hold time 1; outer input 0 is its pickup, 1 its dropout.
abbrev pub one_timer : Family
one_timer = made_family (setting 1 1 ∷ [])

abbrev pub one_wiring : List ℕ
one_wiring = 1 ∷ 0 ∷ 10 ∷ 2 ∷ 0 ∷ 255 ∷ 0 ∷ 0 ∷ 0 ∷ 255 ∷ 1 ∷ 0 ∷ 1 ∷ []

-- its six rows, and the same without the row of a timer that is due to reset, and without the row of the start
abbrev pub six_rows : List ℕ
six_rows =
    1 ∷ 1 ∷ 0 ∷ 0 ∷ 0 ∷ 18 ∷ 0 ∷ 255 ∷ 255 ∷ 1 ∷ 0 ∷ 0 ∷ 1 ∷ 0 ∷ 1 ∷ 2 ∷ 255 ∷ 255 ∷ 3 ∷ 0 ∷ 0 ∷ 3 ∷ 0 ∷ 1 ∷ []

abbrev pub without_reset : List ℕ
without_reset = 1 ∷ 1 ∷ 0 ∷ 0 ∷ 0 ∷ 15 ∷ 0 ∷ 255 ∷ 255 ∷ 1 ∷ 0 ∷ 0 ∷ 1 ∷ 0 ∷ 1 ∷ 2 ∷ 255 ∷ 255 ∷ 3 ∷ 0 ∷ 1 ∷ []

abbrev pub without_start : List ℕ
without_start = 1 ∷ 1 ∷ 0 ∷ 0 ∷ 0 ∷ 15 ∷ 1 ∷ 0 ∷ 0 ∷ 1 ∷ 0 ∷ 1 ∷ 2 ∷ 255 ∷ 255 ∷ 3 ∷ 0 ∷ 0 ∷ 3 ∷ 0 ∷ 1 ∷ []

-- Two timers with operate times 2 and 3 and no hold time. Outer input 0 picks both up, outer input 1 drops both out, and
-- the first drops the second out when it operates.
abbrev pub two_timers : Family
two_timers = made_family (setting 2 0 ∷ setting 3 0 ∷ [])

abbrev pub two_wiring : List ℕ
two_wiring =
    1 ∷ 0 ∷ 22 ∷ 2 ∷ 0 ∷ 0 ∷ 0 ∷ 1 ∷ 1 ∷ 255 ∷ 0 ∷ 0 ∷ 0 ∷ 255 ∷ 0 ∷ 1 ∷ 0 ∷ 255 ∷ 1 ∷ 0 ∷ 1 ∷ 255 ∷ 1 ∷ 1 ∷ 1 ∷ []

-- the first is timing while the second has operated
abbrev pub race : List Condition
race = at 0 1 ∷ at 1 2 ∷ []

-- a witness of the race, by its first delay, and the same without its last step
abbrev pub race_after : ℕ → List ℕ
race_after d =
    1 ∷ 2 ∷ 0 ∷ 0 ∷ 0 ∷ 27 ∷ 1 ∷ 0 ∷ 0 ∷ 0 ∷ 0 ∷ d ∷ 2 ∷ 0 ∷ 0 ∷ 1 ∷ 0 ∷ 0 ∷ 0 ∷ 0 ∷ 3 ∷ 2 ∷ 0 ∷ 1 ∷ 1 ∷ 0 ∷ 1 ∷ 2 ∷ 0 ∷ 0 ∷ 1 ∷ 0 ∷ 0 ∷ []

abbrev pub race_cut : List ℕ
race_cut =
    1 ∷ 2 ∷ 0 ∷ 0 ∷ 0 ∷ 24 ∷ 1 ∷ 0 ∷ 0 ∷ 0 ∷ 0 ∷ 2 ∷ 2 ∷ 0 ∷ 0 ∷ 1 ∷ 0 ∷ 0 ∷ 0 ∷ 0 ∷ 3 ∷ 2 ∷ 0 ∷ 1 ∷ 1 ∷ 0 ∷ 1 ∷ 2 ∷ 0 ∷ 0 ∷ []

-- One part: phase 0 lasts 5 ticks, and its input leads with keep to phase 1, which is unlimited and ends in phase 2.
abbrev pub kept_part : Family
kept_part =
    table_family
    (1 ∷ 1 ∷ 0 ∷ 22 ∷ 3 ∷ 1 ∷ 0 ∷ 0 ∷ 0 ∷ 5 ∷ 0 ∷ 255 ∷ 1 ∷ 0 ∷ 255 ∷ 255 ∷ 2 ∷ 255 ∷ 1 ∷ 0 ∷ 255 ∷ 255 ∷ 2 ∷ 255 ∷ 2 ∷ 0 ∷ [])

abbrev pub kept_wiring : List ℕ
kept_wiring = 1 ∷ 0 ∷ 6 ∷ 1 ∷ 0 ∷ 255 ∷ 0 ∷ 0 ∷ 0 ∷ []

-- 2 ticks, the input, so many ticks, and the internal step of phase 1
abbrev pub kept_after : ℕ → List ℕ
kept_after d = 1 ∷ 2 ∷ 0 ∷ 0 ∷ 0 ∷ 12 ∷ 0 ∷ 0 ∷ 2 ∷ 1 ∷ 0 ∷ 0 ∷ 0 ∷ 0 ∷ d ∷ 2 ∷ 0 ∷ 0 ∷ []

abbrev pub cases : List Case
cases =
    -- a closed set is accepted, and a bar after it opens the verdict again
    record {
      family = one_timer;
      calls = wire_call one_wiring (Ok tt) ∷ offer_call six_rows (Ok Set) ∷ verdict_call Clear ∷ bar_call (at 0 3 ∷ []) (Ok tt) ∷ verdict_call Open ∷ [];
    }
    -- a barred row
    ∷ record {
      family = one_timer;
      calls = wire_call one_wiring (Ok tt) ∷ bar_call (at 0 2 ∷ []) (Ok tt) ∷ offer_call six_rows (Err (RowBarred 3)) ∷ verdict_call Open ∷ [];
    }
    -- a delay that leaves the set, and a set without the start
    ∷ record {
      family = one_timer;
      calls =
          wire_call one_wiring (Ok tt) ∷ offer_call without_reset (Err (RowLeaves 4)) ∷ offer_call without_start (Err StartAbsent)
          ∷ verdict_call Open ∷ [];
    }
    -- a race that every timer passes alone, reached in the one tick between two resets, and still reached under one more bar
    ∷ record {
      family = two_timers;
      calls =
          wire_call two_wiring (Ok tt) ∷ bar_call race (Ok tt) ∷ offer_call (race_after 2) (Ok Witness) ∷ verdict_call Reached
          ∷ bar_call (at 0 3 ∷ []) (Ok tt) ∷ verdict_call Reached ∷ [];
    }
    -- the same one step short, with a delay past a due step, and with no delay
    ∷ record {
      family = two_timers;
      calls =
          wire_call two_wiring (Ok tt) ∷ bar_call race (Ok tt) ∷ offer_call race_cut (Err EndNotBarred)
          ∷ offer_call (race_after 3) (Err (StepNotAllowed 1)) ∷ offer_call (race_after 0) (Err (StepNotAllowed 1)) ∷ verdict_call Open ∷ [];
    }
    -- a kept lifespan: the part is due in its unlimited phase after 5 ticks in all, neither earlier nor later
    ∷ record {
      family = kept_part;
      calls =
          wire_call kept_wiring (Ok tt) ∷ bar_call (at 0 2 ∷ []) (Ok tt) ∷ offer_call (kept_after 2) (Err (StepNotAllowed 3))
          ∷ offer_call (kept_after 4) (Err (StepNotAllowed 2)) ∷ offer_call (kept_after 3) (Ok Witness) ∷ verdict_call Reached ∷ [];
    }
    ∷ []
