-- A witness is refused for the first step at fault, or for its end; a proof file for the smallest of its faults.
use Rattle.std.proofs.Common.{◌≡◌, ℕ, suc, ◌+◌, ◌<◌, ◌≤◌, Bool, true, false, cond, eqb, ◌⊎◌, List, [], ◌∷◌, ◌++◌, get_or, drop, Some, None, Ok, Err, Option, Result, sym, refl, ap, ◌∙◌, subst, ap₂, inl, inr, ⊎_elim, le_refl, add-zero, arith}
use Rattle.std.proofs.lemmas.Bool.{cases_Bool, both_ways, eqb-true, eqb-false, ne_eqb}
use Rattle.fddevs.specs.declared.refusal.Layer.TheVariants.{Proof}
use Rattle.fddevs.specs.declared.refusal.Refusal.{Refusal}
use Rattle.fddevs.specs.declared.refusal.Refusal.TheVariants.{NotWhole, Version, Kind, Body, StepNotAllowed, EndNotBarred}
use Rattle.fddevs.specs.declared.scheme.Move.{Move}
use Rattle.fddevs.specs.Laws.{InTime, Allowed}
use Rattle.fddevs.specs.Refusals.{number_of}
use Rattle.fddevs.specs.Rows.{Row, row, row_after, row_allows}
use Rattle.fddevs.specs.Machine.{Family}
use Rattle.fddevs.specs.Scheme.{Wiring, Scheme, scheme, State, Step, Run, stop, step, start}
use Rattle.fddevs.specs.Vetting.{Vetted, vetted, then, unless, NotAfter, Tells}
use Rattle.fddevs.proofs.Steps.{forth, back, step_in_time, start_in_time}
use Rattle.fddevs.proofs.Vetting.{tells_unless, tells_then, tells_as}
use Rattle.bars.specs.Bars.{barred}
use Rattle.set_file.specs.Reading.{whole}
use Rattle.proof_rules.specs.declared.evidence.Evidence.{Evidence}
use Rattle.proof_rules.specs.declared.evidence.Evidence.TheVariants.{Set, Witness}
use Rattle.proof_rules.specs.Faults.{Stops, cut, cut_later, not_allowed, after, WitnessFault, not_steps, stops, ends_free, SetFault, not_rows, no_phase, not_above, no_start, is_barred, leaves, Fault, not_whole, other_version, other_kind, in_set, in_witness, vetting_of}
use Rattle.proof_rules.specs.Files.{Bytes, steps_bytes}
use Rattle.proof_rules.specs.Judging.{step_of, taken, walk, is_steps, set_vetting, witness_vetting, judged_as, unless_refused, head_vetting, judgement}
use Rattle.proof_rules.specs.Rules.{Bars, phases, row_phases}
use Rattle.proof_rules.proofs.Codec.{step_written}
use Rattle.proof_rules.proofs.Sound.{phases_of}
use Rattle.proof_rules.proofs.Walks.{walk_step}
use Rattle.proof_rules.proofs.Told.{smaller, in_turn, one, set_tells}

-- faults of the walk from a state, k steps on
pub data WalkFault (S : Scheme) (bars : Bars) (s : State) (k : ℕ) (body : List ℕ) : Refusal → Type 0 where
  stops_at : (j : ℕ) → Stops S s body j → WalkFault S bars s k body (StepNotAllowed (k + j))
  ends_so : (ms : List Move) (u : State) → steps_bytes ms ≡ body → Run S s ms u → barred bars (phases u) ≡ false →
      WalkFault S bars s k body EndNotBarred

refused : {A : Type 0} {e : Refusal} → ◌≡◌ {A = Vetted} (Ok tt) (Err e) → A
refused h = let z : ◌≡◌ {A = ℕ} 0 1 = cc in absurd (omega arith)

module _ (S : Scheme) (bars : Bars) where
  stuck : (k : ℕ) (s : State) → InTime s → (o : Option Move) (rest : Row → Vetted) →
      ((m : Move) → o ≡ Some m → Allowed S s m → ⊥) → taken S k (row s) o rest ≡ Err (StepNotAllowed k)
  stuck k s w None rest h = refl
  stuck k s w (Some m) rest h =
      ⊎_elim (λ e. absurd (h m refl (back S s w m e))) (λ e. ap (λ b. cond b (rest (row_after S (row s) m)) (Err (StepNotAllowed k))) e)
      (cases_Bool (row_allows S (row s) m))

  stops_walk : {s : State} {body : List ℕ} {j : ℕ} (k : ℕ) → InTime s → Stops S s body j →
      walk S bars k (row s) body ≡ Err (StepNotAllowed (k + j))
  stops_walk k w cut = ap (λ i. Err (StepNotAllowed i)) (sym (add-zero k))
  stops_walk k w cut_later = ap (λ i. Err (StepNotAllowed i)) (sym (add-zero k))
  stops_walk k w (not_allowed {s = s} {a = a} {b = b} {c = c} {bs = bs} h) =
      stuck k s w (step_of a b c) (λ q. walk S bars (k + 1) q bs) h ∙ ap (λ i. Err (StepNotAllowed i)) (sym (add-zero k))
  stops_walk k w (after {s = s} {t = t} {m = m} {k = j} {bs = bs} e h r) =
      let f = forth h in
      let on : k + 1 + j ≡ k + suc j = omega arith in
      ap (λ o. taken S k (row s) o (λ q. walk S bars (k + 1) q bs)) e
      ∙ ap (λ b. cond b (walk S bars (k + 1) (row_after S (row s) m) bs) (Err (StepNotAllowed k))) f.0
      ∙ ap (λ q. walk S bars (k + 1) q bs) (sym f.1)
      ∙ stops_walk (k + 1) (step_in_time h w) r ∙ ap (λ i. Err (StepNotAllowed i)) on

  free_walk : {s u : State} {ms : List Move} (k : ℕ) → Run S s ms u → barred bars (phases u) ≡ false →
      walk S bars k (row s) (steps_bytes ms) ≡ Err EndNotBarred
  free_walk {s} k stop h = ap (λ b. unless b EndNotBarred) (ap (barred bars) (phases_of s) ∙ h)
  free_walk k (step {s = s} {a = a} {ms = ms} m r) h =
      let f = forth m in
      walk_step S bars k (row s) a (steps_bytes ms) f.0 ∙ ap (λ q. walk S bars (k + 1) q (steps_bytes ms)) (sym f.1) ∙ free_walk (k + 1) r h

  fault_walk : {s : State} {k : ℕ} {body : List ℕ} {o : Refusal} → InTime s → WalkFault S bars s k body o → walk S bars k (row s) body ≡ Err o
  fault_walk {k = k} w (stops_at j h) = stops_walk k w h
  fault_walk {s} {k} w (ends_so ms u e r h) = ap (walk S bars k (row s)) (sym e) ∙ free_walk k r h

  -- from where a step leads, to where it was taken
  later : {s t : State} {m : Move} {a b c k : ℕ} {bs : List ℕ} {e : Refusal} → c < 256 → step_of a b c ≡ Some m → Step S s m t →
      WalkFault S bars t (k + 1) bs e → WalkFault S bars s k (a ∷ b ∷ c ∷ bs) e
  later {s} {t} {m} {a} {b} {c} {k} {bs} small is h (stops_at j r) =
      let on : k + suc j ≡ k + 1 + j = omega arith in
      subst (λ i. WalkFault S bars s k (a ∷ b ∷ c ∷ bs) (StepNotAllowed i)) on (stops_at (suc j) (after is h r))
  later {s} {t} {m} {a} {b} {c} {k} {bs} small is h (ends_so ms u e r f) =
      ends_so (m ∷ ms) u (ap₂ ◌++◌ (step_written a b c small m is) e) (step h r) f

  here : {s : State} {k : ℕ} {body : List ℕ} {e : Refusal} → Stops S s body 0 → ◌≡◌ {A = Vetted} (Err (StepNotAllowed k)) (Err e) →
      WalkFault S bars s k body e
  here {s} {k} {body} {e} h q =
      let same : StepNotAllowed k ≡ e = cc in
      subst (WalkFault S bars s k body) (ap StepNotAllowed (add-zero k) ∙ same) (stops_at 0 h)

  walk_fault : (body : List ℕ) → Bytes body → (k : ℕ) (s : State) → InTime s → (e : Refusal) → walk S bars k (row s) body ≡ Err e →
      WalkFault S bars s k body e
  walk_fault [] b k s w e h = go (barred bars (row_phases (row s))) refl h
    where
      go : (t : Bool) → barred bars (row_phases (row s)) ≡ t → unless t EndNotBarred ≡ Err e → WalkFault S bars s k [] e
      go true q h = refused h
      go false q h =
          let same : EndNotBarred ≡ e = cc in
          subst (WalkFault S bars s k []) same (ends_so [] s refl stop (ap (barred bars) (sym (phases_of s)) ∙ q))
  walk_fault (x ∷ []) b k s w e h = here cut h
  walk_fault (x ∷ y ∷ []) b k s w e h = here cut_later h
  walk_fault (x ∷ y ∷ z ∷ bs) b k s w e h = go (λ t v q. walk_fault bs b.1.1.1 (k + 1) t v e q) (step_of x y z) refl h
    where
      none_some : {A : Type 0} {m : Move} → None ≡ Some m → A
      none_some q = let n : ◌≡◌ {A = ℕ} 0 1 = cc in absurd (omega arith)

      went : ((t : State) → InTime t → walk S bars (k + 1) (row t) bs ≡ Err e → WalkFault S bars t (k + 1) bs e) → (m : Move) →
          step_of x y z ≡ Some m → (a : Bool) → row_allows S (row s) m ≡ a →
          cond a (walk S bars (k + 1) (row_after S (row s) m) bs) (Err (StepNotAllowed k)) ≡ Err e → WalkFault S bars s k (x ∷ y ∷ z ∷ bs) e
      went ih m is true q h =
          let r = back S s w m q in
          let f = forth r.1 in
          later b.1.1.0 is r.1 (ih r.0 (step_in_time r.1 w) (ap (λ p. walk S bars (k + 1) p bs) f.1 ∙ h))
      went ih m is false q h =
          here (not_allowed (λ m' is' a.
          let same : m ≡ m' = cc in
          both_ways (row_allows S (row s) m) q (ap (row_allows S (row s)) same ∙ (forth a.1).0))) h

      go : ((t : State) → InTime t → walk S bars (k + 1) (row t) bs ≡ Err e → WalkFault S bars t (k + 1) bs e) → (o : Option Move) →
          step_of x y z ≡ o → taken S k (row s) o (λ q. walk S bars (k + 1) q bs) ≡ Err e → WalkFault S bars s k (x ∷ y ∷ z ∷ bs) e
      go ih None is h = here (not_allowed (λ m q a. none_some (sym is ∙ q))) h
      go ih (Some m) is h = went ih m is (row_allows S (row s) m) refl h

  same_refusal : (e o : Refusal) → e ≡ o → NotAfter e o
  same_refusal e o q = subst (NotAfter e) q (record { smallest = le_refl _; earliest = λ _. le_refl _ })

  walk_tells : (body : List ℕ) → Bytes body → Tells (WalkFault S bars (start S) 0 body) (walk S bars 0 (row (start S)) body)
  walk_tells body b =
      let w = start_in_time S.parts in
      record {
        accepts = λ h o f. refused (sym h ∙ fault_walk w f);
        refuses = λ e h. (
          walk_fault body b 0 (start S) w e h,
          λ o f. let q = sym h ∙ fault_walk w f in let same : e ≡ o = cc in same_refusal e o same,
        );
      }

  abbrev Whole : List ℕ → Refusal → Type 0
  Whole body o = (is_steps body ≡ false) × (o ≡ Body Proof)

  from_24 : (body : List ℕ) (o : Refusal) → WalkFault S bars (start S) 0 body o → 19 ≤ number_of o
  from_24 body o (stops_at j h) = omega arith
  from_24 body o (ends_so ms u e r h) = omega arith

  to_witness : (body : List ℕ) (o : Refusal) → Whole body o ⊎ WalkFault S bars (start S) 0 body o → WitnessFault S bars body o
  to_witness body o (inl x) = subst (WitnessFault S bars body) (sym x.1) (not_steps x.0)
  to_witness body o (inr (stops_at j h)) = subst (λ i. WitnessFault S bars body (StepNotAllowed i)) (let q : j ≡ 0 + j = omega arith in q) (stops j h)
  to_witness body o (inr (ends_so ms u e r h)) = ends_free ms u e r h

  from_witness : (body : List ℕ) (o : Refusal) → WitnessFault S bars body o → Whole body o ⊎ WalkFault S bars (start S) 0 body o
  from_witness body o (not_steps h) = inl (h, refl)
  from_witness body o (stops k h) = inr (subst (λ i. WalkFault S bars (start S) 0 body (StepNotAllowed i)) (let q : 0 + k ≡ k = omega arith in q) (stops_at k h))
  from_witness body o (ends_free ms u e r h) = inr (ends_so ms u e r h)

  pub witness_tells : (body : List ℕ) → Bytes body → Tells (WitnessFault S bars body) (witness_vetting S bars body)
  witness_tells body b =
      tells_as _ (WitnessFault S bars body) (witness_vetting S bars body) (to_witness body) (from_witness body)
      (tells_then (Whole body) (WalkFault S bars (start S) 0 body) _ _ (tells_unless (is_steps body) (Body Proof)) (walk_tells body b)
      (in_turn 18 (Whole body) (WalkFault S bars (start S) 0 body) (one 18 _ (Body Proof) refl) (from_24 body)))

taken_for : (v : Vetted) (x : Evidence) → vetting_of (vetted v x) ≡ v
taken_for (Ok tt) x = refl
taken_for (Err e) x = refl

after_head : (v : Vetted) (r : Result Evidence Refusal) → vetting_of (unless_refused v r) ≡ then v (vetting_of r)
after_head (Ok tt) r = refl
after_head (Err e) r = refl

-- a proof file: its head, its kind, and then its body
module _ (F : Family) (W : Wiring) (bars : Bars) (file : List ℕ) (bytes : Bytes (drop 6 file)) where
  -- at fault in the kind or the body of a file of kind k
  data BodyFault (k : ℕ) : Refusal → Type 0 where
    no_kind : (k ≡ 1 → ⊥) → (k ≡ 2 → ⊥) → BodyFault k (Kind Proof)
    of_set : {o : Refusal} → k ≡ 1 → SetFault (scheme F W) bars F.count (drop 6 file) o → BodyFault k o
    of_witness : {o : Refusal} → k ≡ 2 → WitnessFault (scheme F W) bars (drop 6 file) o → BodyFault k o

  abbrev judged : ℕ → Result Evidence Refusal
  judged k = judged_as k (set_vetting (scheme F W) bars F.count (drop 6 file)) (witness_vetting (scheme F W) bars (drop 6 file))

  -- the same, by whether the kind is a set's or a witness's
  abbrev by_tests : Bool → Bool → Vetted
  by_tests a b =
      vetting_of (cond a (vetted (set_vetting (scheme F W) bars F.count (drop 6 file)) Set)
      (cond b (vetted (witness_vetting (scheme F W) bars (drop 6 file)) Witness) (Err (Kind Proof))))

  as_set : (k : ℕ) (o : Refusal) → k ≡ 1 → BodyFault k o → SetFault (scheme F W) bars F.count (drop 6 file) o
  as_set k o e (no_kind f g) = absurd (f e)
  as_set k o e (of_set _ f) = f
  as_set k o e (of_witness q f) = absurd (omega (arith, e, q))

  as_witness : (k : ℕ) (o : Refusal) → k ≡ 2 → BodyFault k o → WitnessFault (scheme F W) bars (drop 6 file) o
  as_witness k o e (no_kind f g) = absurd (g e)
  as_witness k o e (of_set q f) = absurd (omega (arith, e, q))
  as_witness k o e (of_witness _ f) = f

  as_none : (k : ℕ) (o : Refusal) → (k ≡ 1 → ⊥) → (k ≡ 2 → ⊥) → BodyFault k o → (false ≡ false) × (o ≡ Kind Proof)
  as_none k o f g (no_kind _ _) = (refl, refl)
  as_none k o f g (of_set q h) = absurd (f q)
  as_none k o f g (of_witness q h) = absurd (g q)

  body_tells : (k : ℕ) → Tells (BodyFault k) (vetting_of (judged k))
  body_tells k =
      ⊎_elim
      (λ e.
      let q = eqb-true k 1 e in
      let v : set_vetting (scheme F W) bars F.count (drop 6 file) ≡ vetting_of (judged k) = sym (taken_for _ Set) ∙ sym (ap (λ a. by_tests a (eqb k 2)) e) in
      subst (Tells (BodyFault k)) v
      (tells_as _ (BodyFault k) _ (λ o f. of_set q f) (λ o f. as_set k o q f) (set_tells (scheme F W) bars F.count (drop 6 file))))
      (λ n. ⊎_elim
      (λ e.
      let q = eqb-true k 2 e in
      let v : witness_vetting (scheme F W) bars (drop 6 file) ≡ vetting_of (judged k) = sym (taken_for _ Witness) ∙ sym (ap₂ by_tests n e) in
      subst (Tells (BodyFault k)) v
      (tells_as _ (BodyFault k) _ (λ o f. of_witness q f) (λ o f. as_witness k o q f) (witness_tells (scheme F W) bars (drop 6 file) bytes)))
      (λ m.
      let f = eqb-false k 1 n in
      let g = eqb-false k 2 m in
      let v : unless false (Kind Proof) ≡ vetting_of (judged k) = sym (ap₂ by_tests n m) in
      subst (Tells (BodyFault k)) v
      (tells_as _ (BodyFault k) _ (λ o x. subst (BodyFault k) (sym x.1) (no_kind f g)) (λ o x. as_none k o f g x) (tells_unless false (Kind Proof))))
      (cases_Bool (eqb k 2)))
      (cases_Bool (eqb k 1))

  from_18 : (S : Scheme) (n : ℕ) (body : List ℕ) (o : Refusal) → SetFault S bars n body o → 3 ≤ number_of o
  from_18 S n body o (not_rows h) = omega arith
  from_18 S n body o (no_phase k l h) = omega arith
  from_18 S n body o (not_above k l h) = omega arith
  from_18 S n body o (no_start h) = omega arith
  from_18 S n body o (is_barred k l h) = omega arith
  from_18 S n body o (leaves k l h) = omega arith

  late : (o : Refusal) → WitnessFault (scheme F W) bars (drop 6 file) o → 3 ≤ number_of o
  late o (not_steps h) = omega arith
  late o (stops k h) = omega arith
  late o (ends_free ms u e r h) = omega arith

  from_17 : (k : ℕ) (o : Refusal) → BodyFault k o → 3 ≤ number_of o
  from_17 k o (no_kind f g) = omega arith
  from_17 k o (of_set e f) = from_18 _ _ _ o f
  from_17 k o (of_witness e f) = late o f

  abbrev Cut : Refusal → Type 0
  Cut o = (whole file ≡ false) × (o ≡ NotWhole Proof)

  abbrev Other : Refusal → Type 0
  Other o = (eqb (get_or file 0 0) 1 ≡ false) × (o ≡ Version Proof)

  -- one fault after another, in the order of the numbers
  abbrev Tests : Refusal → Type 0
  Tests o = (Cut o ⊎ Other o) ⊎ BodyFault (get_or file 1 0) o

  head_tells : Tells (λ o. Cut o ⊎ Other o) (head_vetting file)
  head_tells =
      tells_then Cut Other _ _ (tells_unless (whole file) (NotWhole Proof)) (tells_unless _ (Version Proof))
      (in_turn 1 Cut Other (one 1 _ (NotWhole Proof) refl) (λ o x. let n = one 2 _ (Version Proof) refl o x in omega arith))

  head_first : (e o : Refusal) → Cut e ⊎ Other e → BodyFault (get_or file 1 0) o → NotAfter e o
  head_first e o (inl x) y = smaller e o (let n = one 1 _ (NotWhole Proof) refl e x in omega (arith, from_17 (get_or file 1 0) o y))
  head_first e o (inr x) y = smaller e o (let n = one 2 _ (Version Proof) refl e x in omega (arith, from_17 (get_or file 1 0) o y))

  tests_tell : Tells Tests (vetting_of (judgement F W bars file))
  tests_tell =
      subst (Tells Tests) (sym (after_head (head_vetting file) (judged (get_or file 1 0))))
      (tells_then (λ o. Cut o ⊎ Other o) (BodyFault (get_or file 1 0)) _ _ head_tells (body_tells (get_or file 1 0)) head_first)

  to_fault : (o : Refusal) → Tests o → Fault F W bars file o
  to_fault o (inl (inl x)) = subst (Fault F W bars file) (sym x.1) (not_whole x.0)
  to_fault o (inl (inr x)) = subst (Fault F W bars file) (sym x.1) (other_version (eqb-false (get_or file 0 0) 1 x.0))
  to_fault o (inr (no_kind f g)) = other_kind f g
  to_fault o (inr (of_set e f)) = in_set e f
  to_fault o (inr (of_witness e f)) = in_witness e f

  from_fault : (o : Refusal) → Fault F W bars file o → Tests o
  from_fault o (not_whole h) = inl (inl (h, refl))
  from_fault o (other_version h) = inl (inr (ne_eqb (get_or file 0 0) 1 h, refl))
  from_fault o (other_kind f g) = inr (no_kind f g)
  from_fault o (in_set e f) = inr (of_set e f)
  from_fault o (in_witness e f) = inr (of_witness e f)

  pub judging_tells : Tells (Fault F W bars file) (vetting_of (judgement F W bars file))
  judging_tells = tells_as Tests (Fault F W bars file) _ to_fault from_fault tests_tell
