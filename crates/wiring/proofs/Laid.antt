-- The file of a wiring, and the wiring that it holds.
use Rattle.std.proofs.Common.{◌≡◌, ℕ, zero, suc, ◌+◌, ◌*◌, ◌≤◌, List, [], ◌∷◌, ◌++◌, map, length, get_or, drop, sym, refl, ap, ◌∙◌, arith}
use Rattle.std.specs.List.{range_with_len}
use Rattle.std.proofs.lemmas.List.{drop_more, drop_all}
use Rattle.std.proofs.lemmas.List.FromFn.{length-map-range_with_len}
use Rattle.fddevs.specs.declared.scheme.Wire.{Wire}
use Rattle.wiring.specs.File.{wire_at, wire_count, held}
use Rattle.wiring.specs.Laws.{laid}
use Rattle.wiring.specs.Wires.{bytes}

module _ (f : List ℕ) where
  one_wire : (i : ℕ) → i + 4 ≤ length f → bytes (wire_at f i) ++ drop (i + 4) f ≡ drop i f
  one_wire i h =
      let a = drop_more f i 0 (omega arith) in
      let b = drop_more f (i + 1) 0 (omega arith) in
      let c = drop_more f (i + 2) 0 (omega arith) in
      let d = drop_more f (i + 3) 0 (omega arith) in
      let p : i + 1 + 1 ≡ i + 2 = omega arith in
      let q : i + 2 + 1 ≡ i + 3 = omega arith in
      let r : i + 3 + 1 ≡ i + 4 = omega arith in
      sym
      (a ∙ ap (λ xs. get_or f i 0 ∷ xs)
      (b ∙ ap (λ xs. get_or f (i + 1) 0 ∷ xs)
      (ap (λ n. drop n f) p ∙ c ∙ ap (λ xs. get_or f (i + 2) 0 ∷ xs)
      (ap (λ n. drop n f) q ∙ d ∙ ap (λ xs. get_or f (i + 3) 0 ∷ xs) (ap (λ n. drop n f) r)))))

  laid_from : (n j : ℕ) → 5 + 4 * j + 4 * n ≡ length f →
      laid (map (λ k. wire_at f (5 + 4 * k)) (range_with_len j n)) ≡ drop (5 + 4 * j) f
  laid_from zero j h = sym (drop_all (5 + 4 * j) f (omega arith))
  laid_from (suc n) j h =
      let e : 5 + 4 * (j + 1) ≡ 5 + 4 * j + 4 = omega arith in
      ap (λ xs. bytes (wire_at f (5 + 4 * j)) ++ xs)
      (laid_from n (j + 1) (omega arith) ∙ ap (λ i. drop i f) e)
      ∙ one_wire (5 + 4 * j) (omega arith)

  pub laid_held : 5 + 4 * wire_count f ≡ length f → laid (held f).wires ≡ drop 5 f
  laid_held h = laid_from (wire_count f) 0 (omega arith)

  pub count_held : length (held f).wires ≡ wire_count f
  count_held = length-map-range_with_len (λ k. wire_at f (5 + 4 * k)) 0 (wire_count f)

pub heads : (f : List ℕ) → 5 ≤ length f →
    f ≡ get_or f 0 0 ∷ get_or f 1 0 ∷ get_or f 2 0 ∷ get_or f 3 0 ∷ get_or f 4 0 ∷ drop 5 f
heads [] h = absurd (omega arith)
heads (a ∷ []) h = absurd (omega arith)
heads (a ∷ b ∷ []) h = absurd (omega arith)
heads (a ∷ b ∷ c ∷ []) h = absurd (omega arith)
heads (a ∷ b ∷ c ∷ d ∷ []) h = absurd (omega arith)
heads (a ∷ b ∷ c ∷ d ∷ e ∷ f) h = refl

pub length_laid : (ws : List Wire) → length (laid ws) ≡ 4 * length ws
length_laid [] = refl
length_laid (w ∷ ws) = omega (arith, length_laid ws)

pub laid_one : (vs ws : List Wire) → laid vs ≡ laid ws → vs ≡ ws
laid_one [] [] e = refl
laid_one [] (w ∷ ws) e = let z : ◌≡◌ {A = ℕ} 0 1 = cc in absurd (omega arith)
laid_one (v ∷ vs) [] e = let z : ◌≡◌ {A = ℕ} 0 1 = cc in absurd (omega arith)
laid_one (v ∷ vs) (w ∷ ws) e =
    let rest : laid vs ≡ laid ws = cc in
    let a : v.source ≡ w.source = cc in
    let b : v.output ≡ w.output = cc in
    let c : v.target ≡ w.target = cc in
    let d : v.input ≡ w.input = cc in
    let same : v ≡ w = λ i. record { source = a i; output = b i; target = c i; input = d i } in
    let more : vs ≡ ws = laid_one vs ws rest in
    cc
