-- The rules of bars, and what may be at fault in one.
use Rattle.std.specs.Prelude.{ℕ, ◌<◌, ◌≤◌, List, length}
use Rattle.std.specs.List.{ContainsAt as Has, AllByRecursion}
use Rattle.fddevs.specs.declared.refusal.Refusal.{Refusal}
use Rattle.fddevs.specs.declared.refusal.Refusal.TheVariants.{BarForm, BarStands, BarsFull}
use Rattle.fddevs.specs.Machine.{Family}
use Rattle.bars.specs.Vetting.{nth}
use Rattle.bars.specs.declared.condition.Condition.{Condition}

-- the part and the phase of a condition exist
pub record Exists (F : Family) (c : Condition) : Type 0 where
  pub part_exists : c.part < F.count
  pub phase_exists : c.phase < (F.part c.part).counts.phases

pub record WellFormed (F : Family) (cs : List Condition) : Type 0 where
  pub some : 1 ≤ length cs
  pub few : length cs ≤ 4
  pub ascending : (j k : ℕ) → j < k → k < length cs → (nth cs j).part < (nth cs k).part
  pub exist : AllByRecursion (Exists F) cs

-- what a bar is held to where these bars stand
pub record KeepsBarRules (F : Family) (bars : List (List Condition)) (cs : List Condition) : Type 0 where
  pub form : WellFormed F cs
  pub another : Has bars cs → ⊥
  pub room : length bars < 16

pub data Fault (F : Family) (bars : List (List Condition)) (cs : List Condition) : Refusal → Type 0 where
  ill_formed : (WellFormed F cs → ⊥) → Fault F bars cs BarForm
  stands_already : Has bars cs → Fault F bars cs BarStands
  no_room : 16 ≤ length bars → Fault F bars cs BarsFull
