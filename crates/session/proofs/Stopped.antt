-- A fold over options that stops at the first None gives what the whole fold gives.
use Rattle.std.proofs.Common.{◌≡◌, List, [], ◌∷◌, Some, None, Option, fold, refl, sym, ap, subst, ◌∙◌}
use Rattle.std.specs.declared.ops.ControlFlow.{ControlFlow}
use Rattle.std.specs.declared.ops.ControlFlow.TheVariants.{Continue, Break}
use Rattle.std.specs.ControlFlow.{continue_value}
use Rattle.std.specs.Iterator.{AlwaysYields, Yields, TryFoldTurn, TryFoldsItems}
use Rattle.std.specs.List.{FoldsTo}
use Rattle.std.specs.Fn.{Called}
use Rattle.std.specs.Option.{MatchOption}
use Rattle.std.proofs.lemmas.Iterator.{YieldsList}
use denote.Param.Members.{Mut}

nothing : {B C : Type 0} (h : Option C → B → Option C) → ((y : B) → h None y ≡ None) → (ys : List B) → fold h None ys ≡ None
nothing h stays [] = refl
nothing h stays (y ∷ ys) = ap (λ o. fold h o ys) (stays y) ∙ nothing h stays ys

module _ {S A B C F : Type 0} (E : Type 0) (steps : S → Option A → S → Type 0) (v : A → B) (g : Mut F (C × (A × Unit {0})) (Option C)) (h : Option C → B → Option C) (f : F)
    (stays : (y : B) → h None y ≡ None)
    (k : (a : C) (x : A) (r : Option C) (q : F) → Called g f (a, (x, tt)) r q → (q ≡ f) × (r ≡ h (Some a) (v x))) where
  abbrev branches : Option C → ControlFlow E C → Type 0
  branches s r = s ≡ continue_value r

  -- what became of the item o that came behind the items that went on, with q: none came, or the call at it broke off
  abbrev Ended : Option C → Option A → F × C → Type 0
  Ended r o q = MatchOption o (branches r (Continue q.1))
      (λ x. (w : Option C) × (j : F) × (e : E) × Called g q.0 (q.1, (x, tt)) w j × branches w (Break e) × (r ≡ None))

  -- at the item that is not behind the others
  last : (r : Option C) (all : List B) (o : Option A) (s u : S) (p : F × C) → p.0 ≡ f → AlwaysYields steps v s all → steps s o u → Ended r o p →
      r ≡ fold h (Some p.1) all
  last r [] None s u p a road z d = d
  last r (y ∷ ys) None s u p a road z d = absurd (road.0 u z)
  last r [] (Some x) s u p a road z d = absurd (road x u z)
  last r (y ∷ ys) (Some x) s u p a road z d =
      let l = k p.1 x d.0 d.1 (subst (λ b. Called g b (p.1, (x, tt)) d.0 d.1) a d.3) in
      d.5 ∙ sym (ap (λ b. fold h (h (Some p.1) b) ys) (sym (road.1 x u z).0) ∙ ap (λ b. fold h b ys) (sym l.1 ∙ d.4) ∙ nothing h stays ys)

  stops : (r : Option C) (xs : List A) (all : List B) (o : Option A) (s t u : S) (p q : F × C) → p.0 ≡ f → AlwaysYields steps v s all →
      Yields steps s xs t → steps t o u → FoldsTo {P = F × C} (TryFoldTurn g branches) p xs q → Ended r o q → r ≡ fold h (Some p.1) all
  stops r [] all o s t u p q a road y z c d = last r all o s u p a road (subst (λ b. steps b o u) (sym y) z) (subst (Ended r o) (sym c) d)
  stops r (x ∷ xs) [] o s t u p q a road y z c d = absurd (road x y.0 y.1)
  stops r (x ∷ xs) (b ∷ all) o s t u p q a road y z c d =
      let m = k p.1 x c.1.0 c.0.0 (subst (λ w. Called g w (p.1, (x, tt)) c.1.0 c.0.0) a c.1.1) in
      let n = road.1 x y.0 y.1 in
      stops r xs all o y.0 t u c.0 q m.0 n.1 y.2 z c.2 d
      ∙ ap (λ e. fold h e all) (sym c.1.2 ∙ m.1 ∙ ap (h (Some p.1)) n.0)

  pub from_try_fold : (init : C) (r : Option C) (s u : S) (all : List B) →
      TryFoldsItems steps g branches (λ _ r. r ≡ None) s f init r u → YieldsList steps v s all → r ≡ fold h (Some init) all
  from_try_fold init r s u all d road = stops r d.0 all d.1 s d.4.0 u (f, init) (d.2, d.3) refl road.runs d.4.1 d.4.2 d.5 d.6
