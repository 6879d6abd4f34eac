-- The rows that a reader holds. Assumes nothing.
use Rattle.std.specs.Prelude.{ℕ, List, Ok, Err, Result}
use Rattle.fddevs.specs.declared.refusal.Refusal.{Refusal}
use Rattle.set_file.specs.declared.reader.SetReader.{SetReader}
use Rattle.set_file.specs.Reading.{rows_of}

abbrev pub held : SetReader → List (List ℕ)
held reader = rows_of reader.rows.width reader.rows.body.now

abbrev pub held_by : Result SetReader Refusal → Result (List (List ℕ)) Refusal
held_by (Ok reader) = Ok (held reader)
held_by (Err e) = Err e
