-- A cell that is read from the bytes of a row, or written into them.
use Rattle.std.proofs.Common.{◌≡◌, ℕ, zero, suc, ◌+◌, ◌*◌, ◌<◌, List, [], ◌∷◌, length, get_or, set, replicate, sym, refl, ap, ◌∙◌, arith}
use Rattle.fddevs.specs.Rows.{Row}
use Rattle.stepping.specs.RowBytes.{cell_of, cells_of}
use Rattle.stepping.specs.Stepping.{no_cell, nth_cell}

-- the places of the next cell
on0 : (p : ℕ) → 3 * suc p ≡ suc (suc (suc (3 * p)))
on0 p = omega arith

on1 : (p : ℕ) → 3 * suc p + 1 ≡ suc (suc (suc (3 * p + 1)))
on1 p = omega arith

on2 : (p : ℕ) → 3 * suc p + 2 ≡ suc (suc (suc (3 * p + 2)))
on2 p = omega arith

pub read_cell : (p : ℕ) (bs : List ℕ) → 3 * p + 2 < length bs →
    nth_cell (cells_of bs) p ≡ cell_of (get_or bs (3 * p) 0) (get_or bs (3 * p + 1) 0) (get_or bs (3 * p + 2) 0)
read_cell p [] h = absurd (omega arith)
read_cell zero (x ∷ []) h = absurd (omega arith)
read_cell (suc p) (x ∷ []) h = absurd (omega arith)
read_cell zero (x ∷ y ∷ []) h = absurd (omega arith)
read_cell (suc p) (x ∷ y ∷ []) h = absurd (omega arith)
read_cell zero (x ∷ y ∷ z ∷ bs) h = refl
read_cell (suc p) (x ∷ y ∷ z ∷ bs) h =
    let l = x ∷ y ∷ z ∷ bs in
    read_cell p bs (omega arith) ∙ sym (λ i. cell_of (get_or l (on0 p i) 0) (get_or l (on1 p i) 0) (get_or l (on2 p i) 0))

pub put_cell : (p : ℕ) (bs : List ℕ) (a b d : ℕ) → 3 * p + 2 < length bs →
    cells_of (set (set (set bs (3 * p) a) (3 * p + 1) b) (3 * p + 2) d) ≡ set (cells_of bs) p (cell_of a b d)
put_cell p [] a b d h = absurd (omega arith)
put_cell zero (x ∷ []) a b d h = absurd (omega arith)
put_cell (suc p) (x ∷ []) a b d h = absurd (omega arith)
put_cell zero (x ∷ y ∷ []) a b d h = absurd (omega arith)
put_cell (suc p) (x ∷ y ∷ []) a b d h = absurd (omega arith)
put_cell zero (x ∷ y ∷ z ∷ bs) a b d h = refl
put_cell (suc p) (x ∷ y ∷ z ∷ bs) a b d h =
    let l = x ∷ y ∷ z ∷ bs in
    (λ i. cells_of (set (set (set l (on0 p i) a) (on1 p i) b) (on2 p i) d))
    ∙ ap (λ (cs : Row). cell_of x y z ∷ cs) (put_cell p bs a b d (omega arith))

-- a cell takes three bytes
count_cells : (n : ℕ) (bs : List ℕ) → length bs ≡ 3 * n → length (cells_of bs) ≡ n
count_cells zero [] h = refl
count_cells (suc n) [] h = absurd (omega arith)
count_cells n (x ∷ []) h = absurd (omega arith)
count_cells n (x ∷ y ∷ []) h = absurd (omega arith)
count_cells zero (x ∷ y ∷ z ∷ bs) h = absurd (omega arith)
count_cells (suc n) (x ∷ y ∷ z ∷ bs) h = ap suc (count_cells n bs (omega arith))

-- 48 bytes write 16 cells
pub sixteen_cells : (bs : List ℕ) → length bs ≡ 48 → length (cells_of bs) ≡ 16
sixteen_cells bs h = count_cells 16 bs h

pub zero_cells : cells_of (replicate 48 0) ≡ replicate 16 no_cell
zero_cells = refl
