-- What is read of the head of a file. Assumes nothing.
use Rattle.std.specs.Prelude.{◌≡◌, ℕ, List, length, drop, slice_index}
use Rattle.set_file.specs.Layout.{said_length}
use Rattle.set_file.specs.declared.layout.Head.{Head}

-- the version, the kind and the body of a file that is its head and a body of the length that the head says
pub record IsHeadOf (file : List ℕ) (head : Head) : Type 0 where
  pub version : head.version ≡ slice_index file 0
  pub kind : head.kind ≡ slice_index file 1
  pub body : head.body.now ≡ drop 6 file
  pub said : said_length file ≡ length head.body.now
