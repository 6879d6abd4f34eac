-- What an examination in memory holds. Assumes nothing.
use Rattle.wiring.specs.Meaning.{wiring_of}
use Rattle.bars.specs.Meaning.{bars_of}
use Rattle.history.specs.Held.{Held}
use Rattle.examination.specs.declared.examination.Examination.{Examination}
use Rattle.examination.specs.declared.state.State.{State}

abbrev pub held_in : State → Held
held_in x = record {
  wiring = wiring_of x.wiring;
  bars = bars_of x.standing.bars x.bars;
  verdict = x.standing.verdict;
}

abbrev pub held : {B : Type 0} → Examination B → Held
held x = held_in x.state
