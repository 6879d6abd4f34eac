-- What the search among a set's rows rests on. Assumes nothing.
use Rattle.std.specs.Prelude.{◌≡◌}
use Rattle.fddevs.specs.Machine.{Family}
use Rattle.lookup.specs.Finding.{Rising}
use Rattle.lookup.specs.Shape.{shape, shape_of}
use Rattle.set_file.specs.declared.rows.Rows.{Rows}
use Rattle.proof_rules.specs.Files.{Bytes}

-- the rows are those of a family's parts, and ascend strictly
pub record IsSet (F : Family) (rows : Rows) : Type 0 where
  pub parts : shape rows ≡ shape_of F.count rows.body.now
  pub bytes : Bytes rows.body.now
  pub rising : Rising rows.width rows.body.now rows.count
