-- The moves of a scheme on its cells.
use Rattle.std.proofs.Common.{◌≡◌, ℕ, ◌-◌, ◌<◌, ◌≤◌, Bool, true, false, cond, eqb, map, length, take, set, replicate, sym, refl, ap, ◌∙◌, ⊎_elim, arith}
use Rattle.std.proofs.lemmas.List.{length-set, length-map, length-append, length-replicate, get_or-map, get_or-set_same, get_or-set_other, get_or_append_left, get_or-append_right, get_or-replicate, get_or-take, get_or_default, length-take-le}
use Rattle.std.specs.List.{All}
use Rattle.std.proofs.lemmas.Bool.Decides.{same_from_decides, Decides-like, Decides-by_and}
use Rattle.fddevs.specs.Vetting.{all_below}
use Rattle.fddevs.proofs.Vetting.{below_true, true_below}
use Rattle.std.proofs.lemmas.Bool.{cases_eq, cond-true, cond-false, eq-eqb, ne_eqb}
use Rattle.fddevs.specs.declared.part.Cell.{Cell}
use Rattle.fddevs.specs.declared.part.Output.{Output}
use Rattle.fddevs.specs.declared.part.Output.TheVariants.{Silent, Sends}
use Rattle.fddevs.specs.declared.scheme.Move.TheVariants.{Internal}
use Rattle.fddevs.specs.Machine.{Family, idle_machine}
use Rattle.fddevs.specs.Part.{begin}
use Rattle.fddevs.specs.Rows.{Row, cell, cell_fresh, cell_given, cell_internal, is_due, every}
use Rattle.fddevs.specs.Scheme.{Wiring, start, scheme, heard, each}
use Rattle.fddevs.proofs.Cells.{of_fresh}
use Rattle.wiring.specs.Meaning.{no_wiring}
use Rattle.stepping.specs.Stepping.{on_first, no_cell, nth_cell, machine, start_cells, cells_after, cells_allow, cells_given}
use Rattle.stepping.proofs.Made.{Made, made_once, made_all, scheme_made, scheme_at, scheme_past, count_parts, part_at}

-- the cell in which a part begins
abbrev pub begun : Family → ℕ → Cell
begun F p = cell_fresh (machine F p) (machine F p).start

module _ (F : Family) (few : F.count ≤ 16) where
  begins : Row
  begins = map cell (start (scheme F no_wiring))

  begins_length : length begins ≡ F.count
  unfolding begins
  begins_length =
      length-map (start (scheme F no_wiring)) cell ∙ length-map (scheme F no_wiring).parts begin ∙ count_parts F no_wiring

  begins_at : (i : ℕ) → i < F.count → nth_cell begins i ≡ begun F i
  unfolding begins
  begins_at i h =
      let n = count_parts F no_wiring in
      let m = length-map (scheme F no_wiring).parts begin in
      get_or-map cell (start (scheme F no_wiring)) i (begin idle_machine) no_cell (omega arith)
      ∙ ap cell (get_or-map begin (scheme F no_wiring).parts i idle_machine (begin idle_machine) (omega arith))
      ∙ ap (λ p. cell (begin p)) (part_at F no_wiring i h) ∙ of_fresh (machine F i) (machine F i).start

  start_made : Made (λ i _. begun F i) F.count (replicate 16 no_cell) (start_cells F)
  unfolding begins
  start_made = record {
    same_length =
        let z = length-replicate (16 - F.count) no_cell in
        let a = length-append begins (replicate (16 - F.count) no_cell) in
        omega (arith, begins_length);
    inside = λ i h l.
        get_or_append_left begins (replicate (16 - F.count) no_cell) no_cell i (omega (arith, begins_length)) ∙ begins_at i h;
    outside = λ i h l.
        get_or-append_right begins (replicate (16 - F.count) no_cell) F.count i no_cell begins_length h
        ∙ get_or-replicate (16 - F.count) (i - F.count) no_cell no_cell (omega arith)
        ∙ sym (get_or-replicate 16 i no_cell no_cell (omega arith));
  }

  pub started : (k : ℕ) (cs : Row) → k ≡ F.count → Made (λ i _. begun F i) k (replicate 16 no_cell) cs → cs ≡ start_cells F
  started k cs e m = made_all (λ i _. begun F i) k F.count (replicate 16 no_cell) cs (start_cells F) e m start_made

-- an internal step: what the others hear, and then the part itself
module _ (F : Family) (W : Wiring) (p : ℕ) (cs : Row) where
  hears : Output → ℕ → Cell → Cell
  hears o i c = cell_given (machine F i) (heard W.wires p o i) c

  moves : Output → ℕ → Cell → Cell
  moves o i c = cond (eqb i p) (cell_internal (machine F i) c) (cell_given (machine F i) (heard W.wires p o i) c)

  moves_all : Output → Row
  moves_all o =
      on_first F.count
      (each (λ k m c. cond (eqb k p) (cell_internal m c) (cell_given m (heard W.wires p o k) c)) 0 (scheme F W).parts) cs

  moves_made : (o : Output) → Made (moves o) F.count cs (moves_all o)
  unfolding moves moves_all
  moves_made o =
      scheme_made F W (λ k m c. cond (eqb k p) (cell_internal m c) (cell_given m (heard W.wires p o k) c)) cs

  own_last : (o : Output) (ds : Row) → p < F.count → p < length cs → Made (hears o) F.count cs ds →
      Made (moves o) F.count cs (set ds p (cell_internal (machine F p) (nth_cell cs p)))
  unfolding hears moves
  own_last o ds h l m =
      let v = cell_internal (machine F p) (nth_cell cs p) in
      record {
        same_length = length-set ds p v ∙ m.same_length;
        inside = λ i b k.
            ⊎_elim
            (λ z.
            let here : p < length ds = omega (arith, m.same_length) in
            rw z (get_or-set_same ds p v no_cell here ∙ sym (cond-true (eqb p p) _ _ (eq-eqb p p refl))))
            (λ z.
            get_or-set_other ds p i v no_cell z ∙ m.inside i b k ∙ sym (cond-false (eqb i p) _ _ (ne_eqb i p z)))
            (cases_eq i p);
        outside = λ i b k. get_or-set_other ds p i v no_cell (λ z. omega arith) ∙ m.outside i b k;
      }

  -- the part's cell before its step and after it, which is written last
  module _ (old new : Cell) (was : old ≡ nth_cell cs p) (own : new ≡ cell_internal (machine F p) old)
      (h : p < F.count) (l : p < length cs) where
    stepped : (o : Output) (ds : Row) → o ≡ (machine F p).output old.phase → Made (hears o) F.count cs ds →
        set ds p new ≡ cells_after F W (Internal p) cs
    unfolding moves_all
    stepped o ds e m =
        ap (set ds p) (own ∙ ap (cell_internal (machine F p)) was)
        ∙ made_once (moves o) F.count cs _ (moves_all o) (own_last o ds h l m) (moves_made o)
        ∙ ap moves_all
        (e ∙ ap (λ c. (machine F p).output c.phase) was
        ∙ sym (scheme_at (λ q c. q.output c.phase) Silent F W cs p h l))

    pub silent_step : (ds es : Row) → Silent ≡ (machine F p).output old.phase → ds ≡ cs → es ≡ set ds p new →
        es ≡ cells_after F W (Internal p) cs
    unfolding hears
    silent_step ds es e same last =
        last ∙ ap (λ r. set r p new) same
        ∙ stepped Silent cs e (record { same_length = refl; inside = λ i b k. refl; outside = λ i b k. refl })

    pub sending_step : (o : ℕ) (fs ds es : Row) → Sends o ≡ (machine F p).output old.phase →
        fs ≡ cells_given F W p o cs → ds ≡ fs → es ≡ set ds p new → es ≡ cells_after F W (Internal p) cs
    unfolding hears
    sending_step o fs ds es e given same last =
        last ∙ ap (λ r. set r p new) (same ∙ given)
        ∙ stepped (Sends o) (cells_given F W p o cs) e
        (scheme_made F W (λ k m c. cell_given m (heard W.wires p (Sends o) k) c) cs)

  pub no_step : F.count ≤ p → cs ≡ cells_after F W (Internal p) cs
  unfolding moves moves_all
  no_step h =
      made_once (moves Silent) F.count cs cs (moves_all Silent)
      (record {
        same_length = refl;
        inside = λ i b k. sym (cond-false (eqb i p) _ _ (ne_eqb i p (λ z. omega arith)));
        outside = λ i b k. refl;
      })
      (moves_made Silent)
      ∙ ap moves_all (sym (scheme_past (λ q c. q.output c.phase) Silent F W cs p h))

-- a test of every one of the first cells
module _ (f : Cell → Bool) (n : ℕ) (cs : Row) (l : n ≤ length cs) where
  listed : ((k : ℕ) → k < n → f (nth_cell cs k) ≡ true) → All (λ c. f c ≡ true) (take n cs)
  listed h k d m =
      let b : k < n = omega (arith, length-take-le n cs l) in
      rw (get_or-take n cs k d b) (rw (get_or_default cs k d no_cell (omega arith)) (h k b))

  each_of : All (λ c. f c ≡ true) (take n cs) → (k : ℕ) → k < n → f (nth_cell cs k) ≡ true
  each_of h k b = rw (sym (get_or-take n cs k no_cell b)) (h k no_cell (omega (arith, length-take-le n cs l)))

  pub every_below : all_below (λ k. f (nth_cell cs k)) n ≡ every f (take n cs)
  every_below =
      same_from_decides _ _ (Decides-like _ listed each_of (true_below _ n, below_true _ n))
      (Decides-by_and f (λ c. f c ≡ true) (every f) (λ _. (λ e. e, λ e. e)) refl (λ _ _. refl) (take n cs))

-- whether a part is due, by the cell that was read
module _ (F : Family) (cs : Row) (p : ℕ) where
  pub due_here : (c : Cell) → c ≡ nth_cell cs p → p < F.count → p < length cs →
      is_due c.remaining ≡ cells_allow F no_wiring cs (Internal p)
  due_here c was h l =
      ap (λ d. is_due d.remaining) was ∙ sym (scheme_at (λ m d. is_due d.remaining) false F no_wiring cs p h l)

  pub due_past : F.count ≤ p → false ≡ cells_allow F no_wiring cs (Internal p)
  due_past h = sym (scheme_past (λ m d. is_due d.remaining) false F no_wiring cs p h)
