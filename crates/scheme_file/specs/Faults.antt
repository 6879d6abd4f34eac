-- What may be at fault in a scheme file, and the refusal for it.
use Rattle.std.specs.Prelude.{◌≡◌, ℕ, ◌<◌, false, List}
use Rattle.fddevs.specs.declared.refusal.Layer.TheVariants.{Scheme}
use Rattle.fddevs.specs.declared.refusal.Refusal.{Refusal}
use Rattle.fddevs.specs.declared.refusal.Refusal.TheVariants.{NotWhole, Version, PartCount}
use Rattle.scheme_file.specs.File.{head, part_count}
use Rattle.scheme_file.specs.Vetting.{whole, version_fits, count_fits, passes, refusal}
use Rattle.scheme_file.specs.declared.section.Test.{Test}

pub data Fault (f : List ℕ) : Refusal → Type 0 where
  not_whole : whole f ≡ false → Fault f (NotWhole Scheme)
  other_version : version_fits f ≡ false → Fault f (Version Scheme)
  other_count : count_fits f ≡ false → Fault f PartCount
  -- section k fails the test of its length, of its limits, or of what it names
  in_section : (t : Test) (k : ℕ) → k < part_count f → passes t f (head f k) ≡ false → Fault f (refusal t k)
