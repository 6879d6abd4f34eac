-- Rows by their cells: what a function makes of each of the first cells.
use Rattle.std.proofs.Common.{◌≡◌, ℕ, zero, suc, ◌+◌, ◌<◌, ◌≤◌, List, [], ◌∷◌, map, length, get_or, take, set, sym, refl, ap, ◌∙◌, subst, ⊎_elim, add-zero, zero-add, arith}
use Rattle.std.proofs.lemmas.List.FromFn.{length-map-range_with_len, get_or-map-range_with_len}
use Rattle.std.proofs.lemmas.List.{length-set, get_or-set_same, get_or-set_other, ext_get_or}
use Rattle.std.proofs.lemmas.Bool.{cases_eq, cases_lt}
use Rattle.fddevs.specs.declared.part.Cell.{Cell}
use Rattle.fddevs.specs.Machine.{Machine, Family, idle_machine}
use Rattle.fddevs.specs.Rows.{Row}
use Rattle.fddevs.specs.Scheme.{Wiring, scheme, each, at}
use Rattle.stepping.specs.Stepping.{on_first, nth_cell, no_cell, machine}

-- each of the first n cells is what f makes of it, by its number; the others stay
pub record Made (f : ℕ → Cell → Cell) (n : ℕ) (cs ds : Row) : Type 0 where
  pub same_length : length ds ≡ length cs
  pub inside : (i : ℕ) → i < n → i < length cs → nth_cell ds i ≡ f i (nth_cell cs i)
  pub outside : (i : ℕ) → n ≤ i → i < length cs → nth_cell ds i ≡ nth_cell cs i

-- there is only one such row
pub made_once : (f : ℕ → Cell → Cell) (n : ℕ) (cs ds es : Row) → Made f n cs ds → Made f n cs es → ds ≡ es
made_once f n cs ds es a b =
    ext_get_or no_cell ds es (a.same_length ∙ sym b.same_length)
    (λ i h.
    let l : i < length cs = omega (arith, a.same_length) in
    ⊎_elim (λ m. a.inside i m l ∙ sym (b.inside i m l)) (λ m. a.outside i m l ∙ sym (b.outside i m l)) (cases_lt i n))

-- made cell by cell
pub made_none : (f : ℕ → Cell → Cell) (cs : Row) → Made f 0 cs cs
made_none f cs = record { same_length = refl; inside = λ i h l. absurd (omega arith); outside = λ i h l. refl }

set_more : (f : ℕ → Cell → Cell) (k : ℕ) (cs ds : Row) (c : Cell) → Made f k cs ds → c ≡ f k (nth_cell ds k) →
    Made f (k + 1) cs (set ds k c)
set_more f k cs ds c m e = record {
  same_length = length-set ds k c ∙ m.same_length;
  inside = λ i h l.
      ⊎_elim
      (λ z.
      let here : k < length ds = omega (arith, m.same_length) in
      let there : k < length cs = omega arith in
      rw z (get_or-set_same ds k c no_cell here ∙ e ∙ ap (f k) (m.outside k (omega arith) there)))
      (λ z. get_or-set_other ds k i c no_cell z ∙ m.inside i (omega arith) l) (cases_eq i k);
  outside = λ i h l. get_or-set_other ds k i c no_cell (λ z. omega arith) ∙ m.outside i (omega arith) l;
}

pub made_more : (f : ℕ → Cell → Cell) (k : ℕ) (cs ds es : Row) (c : Cell) → Made f k cs ds → c ≡ f k (nth_cell ds k) →
    es ≡ set ds k c → Made f (k + 1) cs es
made_more f k cs ds es c m e z =
    let P : Row → Type 0 = λ r. Made f (k + 1) cs r in
    subst P (sym z) (set_more f k cs ds c m e)

pub made_all : (f : ℕ → Cell → Cell) (k n : ℕ) (cs ds es : Row) → k ≡ n → Made f k cs ds → Made f n cs es → ds ≡ es
made_all f k n cs ds es e a b =
    let P : ℕ → Type 0 = λ j. Made f j cs ds in
    made_once f n cs ds es (subst P e a) b

-- made at once: by a function of all cells
map_length : (f : Cell → Cell) (n : ℕ) (cs : Row) → length (on_first n (map f) cs) ≡ length cs
map_length f zero cs = refl
map_length f (suc n) [] = refl
map_length f (suc n) (c ∷ cs) = ap suc (map_length f n cs)

map_inside : (f : Cell → Cell) (n : ℕ) (cs : Row) (i : ℕ) → i < n → i < length cs →
    nth_cell (on_first n (map f) cs) i ≡ f (nth_cell cs i)
map_inside f zero cs i h l = absurd (omega arith)
map_inside f (suc n) [] i h l = absurd (omega arith)
map_inside f (suc n) (c ∷ cs) zero h l = refl
map_inside f (suc n) (c ∷ cs) (suc i) h l = map_inside f n cs i (omega arith) (omega arith)

map_outside : (f : Cell → Cell) (n : ℕ) (cs : Row) (i : ℕ) → n ≤ i → nth_cell (on_first n (map f) cs) i ≡ nth_cell cs i
map_outside f zero cs i h = refl
map_outside f (suc n) [] i h = refl
map_outside f (suc n) (c ∷ cs) zero h = absurd (omega arith)
map_outside f (suc n) (c ∷ cs) (suc i) h = map_outside f n cs i (omega arith)

pub map_made : (f : Cell → Cell) (n : ℕ) (cs : Row) → Made (λ _ c. f c) n cs (on_first n (map f) cs)
map_made f n cs =
    record { same_length = map_length f n cs; inside = map_inside f n cs; outside = λ i h l. map_outside f n cs i h }

-- and by a function of each part and its cell
module _ (f : ℕ → Machine → Cell → Cell) where
  each_length : (k : ℕ) (ms : List Machine) (cs : Row) → length (on_first (length ms) (each f k ms) cs) ≡ length cs
  each_length k [] cs = refl
  each_length k (m ∷ ms) [] = refl
  each_length k (m ∷ ms) (c ∷ cs) = ap suc (each_length (suc k) ms cs)

  each_inside : (k : ℕ) (ms : List Machine) (cs : Row) (i : ℕ) → i < length ms → i < length cs →
      nth_cell (on_first (length ms) (each f k ms) cs) i ≡ f (k + i) (get_or ms i idle_machine) (nth_cell cs i)
  each_inside k [] cs i h l = absurd (omega arith)
  each_inside k (m ∷ ms) [] i h l = absurd (omega arith)
  each_inside k (m ∷ ms) (c ∷ cs) zero h l = ap (λ j. f j m c) (sym (add-zero k))
  each_inside k (m ∷ ms) (c ∷ cs) (suc i) h l =
      let e : suc k + i ≡ k + suc i = omega arith in
      each_inside (suc k) ms cs i (omega arith) (omega arith) ∙ ap (λ j. f j (get_or ms i idle_machine) (nth_cell cs i)) e

  each_outside : (k : ℕ) (ms : List Machine) (cs : Row) (i : ℕ) → length ms ≤ i →
      nth_cell (on_first (length ms) (each f k ms) cs) i ≡ nth_cell cs i
  each_outside k [] cs i h = refl
  each_outside k (m ∷ ms) [] i h = refl
  each_outside k (m ∷ ms) (c ∷ cs) zero h = absurd (omega arith)
  each_outside k (m ∷ ms) (c ∷ cs) (suc i) h = each_outside (suc k) ms cs i (omega arith)

  each_made : (ms : List Machine) (cs : Row) (n : ℕ) → length ms ≡ n →
      Made (λ i c. f i (get_or ms i idle_machine) c) n cs (on_first n (each f 0 ms) cs)
  each_made ms cs n e =
      let P : ℕ → Type 0 = λ j. Made (λ i c. f i (get_or ms i idle_machine) c) j cs (on_first j (each f 0 ms) cs) in
      subst P e
      (record {
        same_length = each_length 0 ms cs;
        inside = λ i h l.
            each_inside 0 ms cs i h l ∙ ap (λ j. f j (get_or ms i idle_machine) (nth_cell cs i)) (zero-add i);
        outside = λ i h l. each_outside 0 ms cs i h;
      })

-- the parts of a scheme
pub count_parts : (F : Family) (W : Wiring) → length (scheme F W).parts ≡ F.count
count_parts F W = length-map-range_with_len (machine F) 0 F.count

pub part_at : (F : Family) (W : Wiring) (i : ℕ) → i < F.count → get_or (scheme F W).parts i idle_machine ≡ machine F i
part_at F W i h = get_or-map-range_with_len (machine F) 0 F.count i i idle_machine h (zero-add i)

pub scheme_made : (F : Family) (W : Wiring) (f : ℕ → Machine → Cell → Cell) (cs : Row) →
    Made (λ i c. f i (machine F i) c) F.count cs (on_first F.count (each f 0 (scheme F W).parts) cs)
scheme_made F W f cs =
    let m = each_made f (scheme F W).parts cs F.count (count_parts F W) in
    record {
      same_length = m.same_length;
      inside = λ i h l. m.inside i h l ∙ ap (λ p. f i p (nth_cell cs i)) (part_at F W i h);
      outside = m.outside;
    }

-- the first n cells
pub front_cell : (n : ℕ) (cs : Row) (p : ℕ) → p < n → nth_cell (take n cs) p ≡ nth_cell cs p
front_cell zero cs p h = absurd (omega arith)
front_cell (suc n) [] p h = refl
front_cell (suc n) (c ∷ cs) zero h = refl
front_cell (suc n) (c ∷ cs) (suc p) h = front_cell n cs p (omega arith)

pub front_length : (n : ℕ) (cs : Row) (p : ℕ) → p < n → p < length cs → p < length (take n cs)
front_length zero cs p h l = absurd (omega arith)
front_length (suc n) [] p h l = absurd (omega arith)
front_length (suc n) (c ∷ cs) zero h l = omega arith
front_length (suc n) (c ∷ cs) (suc p) h l = let r = front_length n cs p (omega arith) (omega arith) in omega arith

-- what is asked of one part
module _ {A : Type 0} (f : Machine → Cell → A) (none : A) where
  at_here : (ms : List Machine) (cs : Row) (p : ℕ) → p < length ms → p < length cs →
      at f none ms cs p ≡ f (get_or ms p idle_machine) (nth_cell cs p)
  at_here [] cs p h l = absurd (omega arith)
  at_here (m ∷ ms) [] p h l = absurd (omega arith)
  at_here (m ∷ ms) (c ∷ cs) zero h l = refl
  at_here (m ∷ ms) (c ∷ cs) (suc p) h l = at_here ms cs p (omega arith) (omega arith)

  at_past : (ms : List Machine) (cs : Row) (p : ℕ) → length ms ≤ p → at f none ms cs p ≡ none
  at_past [] cs p h = refl
  at_past (m ∷ ms) [] p h = refl
  at_past (m ∷ ms) (c ∷ cs) zero h = absurd (omega arith)
  at_past (m ∷ ms) (c ∷ cs) (suc p) h = at_past ms cs p (omega arith)

  pub scheme_at : (F : Family) (W : Wiring) (cs : Row) (p : ℕ) → p < F.count → p < length cs →
      at f none (scheme F W).parts (take F.count cs) p ≡ f (machine F p) (nth_cell cs p)
  scheme_at F W cs p h l =
      at_here (scheme F W).parts (take F.count cs) p (omega (arith, count_parts F W)) (front_length F.count cs p h l)
      ∙ ap (λ m. f m (nth_cell (take F.count cs) p)) (part_at F W p h)
      ∙ ap (f (machine F p)) (front_cell F.count cs p h)

  pub scheme_past : (F : Family) (W : Wiring) (cs : Row) (p : ℕ) → F.count ≤ p →
      at f none (scheme F W).parts (take F.count cs) p ≡ none
  scheme_past F W cs p h = at_past (scheme F W).parts (take F.count cs) p (omega (arith, count_parts F W))
