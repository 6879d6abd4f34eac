-- Which bars are refused. Assumes nothing.
use Rattle.std.specs.Prelude.{ℕ, ◌-◌, Bool, not, ◌&&◌, ◌||◌, List, length, ◌==◌, nat_le, nat_lt, slice_index_or}
use Rattle.fddevs.specs.declared.refusal.Refusal.TheVariants.{BarForm, BarStands, BarsFull}
use Rattle.fddevs.specs.Machine.{Family, has_phase}
use Rattle.fddevs.specs.Vetting.{Vetted, then, unless, all_below}
use Rattle.bars.specs.Bars.{stands}
use Rattle.bars.specs.declared.condition.Condition.{Condition}

abbrev pub no_condition : Condition
no_condition = record { part = 0; phase = 0 }

abbrev pub nth : List Condition → ℕ → Condition
nth cs k = slice_index_or cs k no_condition

-- condition k names a higher part than the one before it
abbrev pub in_order : List Condition → ℕ → Bool
in_order cs k = k == 0 || nat_lt (nth cs (k - 1)).part (nth cs k).part

-- and the part has the phase
abbrev pub fits : Family → List Condition → ℕ → Bool
fits F cs k = in_order cs k && has_phase F (nth cs k).part (nth cs k).phase

abbrev pub well_formed : Family → List Condition → Bool
well_formed F cs = nat_le 1 (length cs) && (nat_le (length cs) 4 && all_below (fits F cs) (length cs))

-- the smallest number that holds, against the bars that stand
abbrev pub vetting : Family → List (List Condition) → List Condition → Vetted
vetting F bars cs =
    then (unless (well_formed F cs) BarForm)
    (then (unless (not (stands bars cs)) BarStands) (unless (nat_lt (length bars) 16) BarsFull))
