-- Every refusal's number, layer and place. Assumes nothing.
use Rattle.std.specs.Prelude.{ℕ}
use Rattle.fddevs.specs.declared.refusal.Layer.{Layer}
use Rattle.fddevs.specs.declared.refusal.Layer.TheVariants.{OutputList, Scheme, TimersAndPair, Wiring, Bars, Proof, BookAndPlayback}
use Rattle.fddevs.specs.declared.refusal.Refusal.{Refusal}
use Rattle.fddevs.specs.declared.refusal.Refusal.TheVariants.{NotWhole, Version, SectionLength, PartCount, SectionCounts, SectionNames, WiringCounts, WireOrder, WireTwice, WireNames, TimerCount, TimerTime, PairCount, BarForm, BarStands, BarsFull, NoRoom, RowParts, Kind, Body, RowBytes, RowOrder, RowPhase, StartAbsent, RowBarred, RowLeaves, StepNotAllowed, EndNotBarred}

abbrev pub layer_number : Layer → ℕ
layer_number OutputList = 1
layer_number Scheme = 2
layer_number TimersAndPair = 3
layer_number Wiring = 4
layer_number Bars = 5
layer_number Proof = 6
layer_number BookAndPlayback = 7

pub record Told : Type 0 where
  pub number : ℕ
  pub layer : Layer
  pub place : ℕ

abbrev told : ℕ → Layer → ℕ → Told
told n l p = record { number = n; layer = l; place = p }

-- the one table of refusals
abbrev pub table : Refusal → Told
table (NotWhole l) = told 1 l 0
table (Version l) = told 2 l 0
table (SectionLength k) = told 3 Scheme k
table PartCount = told 4 Scheme 0
table (SectionCounts k) = told 4 Scheme k
table WiringCounts = told 4 Wiring 0
table RowParts = told 4 BookAndPlayback 0
table (SectionNames k) = told 5 Scheme k
table (WireOrder k) = told 6 Wiring k
table (WireTwice k) = told 7 Wiring k
table (WireNames k) = told 8 Wiring k
table TimerCount = told 9 TimersAndPair 0
table (TimerTime k) = told 9 TimersAndPair k
table PairCount = told 10 TimersAndPair 0
table BarForm = told 11 Bars 0
table BarStands = told 12 Bars 0
table BarsFull = told 13 Bars 0
table NoRoom = told 14 OutputList 0
table (Kind l) = told 17 l 0
table (Body l) = told 18 l 0
table (RowBytes k) = told 19 BookAndPlayback k
table (RowPhase k) = told 19 Proof k
table (RowOrder l k) = told 20 l k
table StartAbsent = told 21 Proof 0
table (RowBarred k) = told 22 Proof k
table (RowLeaves k) = told 23 Proof k
table (StepNotAllowed k) = told 24 Proof k
table EndNotBarred = told 25 Proof 0

abbrev pub number_of : Refusal → ℕ
number_of r = (table r).number

abbrev pub layer_of : Refusal → Layer
layer_of r = (table r).layer

abbrev pub place_of : Refusal → ℕ
place_of r = (table r).place
