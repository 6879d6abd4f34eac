-- The rows of a body lie within it.
use Rattle.std.proofs.Common.{◌≡◌, ℕ, ◌+◌, ◌*◌, ◌<◌, ◌≤◌, List, length, arith, length-drop, length-take}
use Rattle.set_file.specs.Layout.{stretch}
use Rattle.set_file.proofs.Numbered.{one_more}

pub inside : (w : ℕ) (body : List ℕ) (n k : ℕ) → k < n → n * w ≤ length body → k * w + w ≤ length body
inside w body n k h l = omega (arith, one_more k w n h)

pub stretch_length : (w : ℕ) (body : List ℕ) (n k : ℕ) → k < n → n * w ≤ length body → length (stretch w body k) ≡ w
stretch_length w body n k h l = let m = inside w body n k h l in simp (length-take, length-drop) (omega arith)
