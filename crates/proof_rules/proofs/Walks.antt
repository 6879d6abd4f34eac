-- A witness's body passes exactly where it is the steps of a run to a barred state.
use Rattle.std.proofs.Common.{◌≡◌, ℕ, ◌+◌, ◌*◌, ◌%◌, ◌≤◌, Bool, true, false, cond, leb, List, [], ◌∷◌, ◌++◌, length, Some, None, Ok, Err, Option, sym, refl, ap, ◌∙◌, ap₂, arith}
use Rattle.std.proofs.lemmas.Bool.{and_parts, and_from, eq-eqb, leb-true, le-leb}
use Rattle.fddevs.specs.declared.refusal.Layer.TheVariants.{Proof}
use Rattle.fddevs.specs.declared.refusal.Refusal.{Refusal}
use Rattle.fddevs.specs.declared.refusal.Refusal.TheVariants.{Body, StepNotAllowed, EndNotBarred}
use Rattle.fddevs.specs.declared.scheme.Move.{Move}
use Rattle.fddevs.specs.declared.scheme.Move.TheVariants.{Outer, Internal, Delay}
use Rattle.fddevs.specs.Laws.{InTime}
use Rattle.fddevs.specs.Rows.{Row, row, row_after, row_allows}
use Rattle.fddevs.specs.Scheme.{Scheme, State, Step, Run, stop, step, start}
use Rattle.fddevs.specs.Vetting.{Vetted, then, unless}
use Rattle.fddevs.proofs.Steps.{forth, back, step_in_time, start_in_time}
use Rattle.bars.specs.Bars.{barred}
use Rattle.set_file.proofs.Seeking.{then_passed, unless_passed}
use Rattle.proof_rules.specs.Files.{Bytes, step_bytes, steps_bytes}
use Rattle.proof_rules.specs.Judging.{step_of, taken, walk, is_steps, witness_vetting}
use Rattle.proof_rules.specs.Rules.{Bars, phases}
use Rattle.proof_rules.proofs.Codec.{delay_read, step_written}
use Rattle.proof_rules.proofs.Sound.{phases_of}

refused : {A : Type 0} {e : Refusal} → ◌≡◌ {A = Vetted} (Err e) (Ok tt) → A
refused h = let z : ◌≡◌ {A = ℕ} 0 1 = cc in absurd (omega arith)

pub unless_true : (b : Bool) (e : Refusal) → b ≡ true → unless b e ≡ Ok tt
unless_true b e h = rw h

steps_length : (ms : List Move) → length (steps_bytes ms) ≡ 3 * length ms
steps_length [] = refl
steps_length (Delay d ∷ ms) = omega (arith, steps_length ms)
steps_length (Outer x ∷ ms) = omega (arith, steps_length ms)
steps_length (Internal p ∷ ms) = omega (arith, steps_length ms)

-- the body is the steps of a run from the state to a barred one
pub record Walked (S : Scheme) (bars : Bars) (s : State) (body : List ℕ) : Type 0 where
  pub steps : List Move
  pub written : steps_bytes steps ≡ body
  pub end : State
  pub run : Run S s steps end
  pub ends_barred : barred bars (phases end) ≡ true

module _ (S : Scheme) (bars : Bars) where
  -- a step that is taken is allowed, and the rest passes from where it leads
  record Taken (s : State) (o : Option Move) (rest : Row → Vetted) : Type 0 where
    move : Move
    written : o ≡ Some move
    next : State
    allowed : Step S s move next
    passes : rest (row next) ≡ Ok tt

  taken_to : (k : ℕ) (s : State) → InTime s → (o : Option Move) (rest : Row → Vetted) → taken S k (row s) o rest ≡ Ok tt →
      Taken s o rest
  taken_to k s w None rest h = refused h
  taken_to k s w (Some a) rest h = go (row_allows S (row s) a) refl h
    where
      go : (b : Bool) → row_allows S (row s) a ≡ b →
          cond b (rest (row_after S (row s) a)) (Err (StepNotAllowed k)) ≡ Ok tt → Taken s (Some a) rest
      go true e h =
          let m = back S s w a e in
          let f = forth m.1 in
          record { move = a; written = refl; next = m.0; allowed = m.1; passes = ap rest f.1 ∙ h }
      go false e h = refused h

  pub walk_to : (body : List ℕ) → Bytes body → (k : ℕ) (s : State) → InTime s → walk S bars k (row s) body ≡ Ok tt →
      Walked S bars s body
  walk_to [] b k s w h = record {
    steps = [];
    written = refl;
    end = s;
    run = stop;
    ends_barred = ap (barred bars) (sym (phases_of s)) ∙ unless_passed _ EndNotBarred h;
  }
  walk_to (x ∷ []) b k s w h = refused h
  walk_to (x ∷ y ∷ []) b k s w h = refused h
  walk_to (x ∷ y ∷ z ∷ body) b k s w h =
      let t = taken_to k s w (step_of x y z) (λ q. walk S bars (k + 1) q body) h in
      let r = walk_to body b.1.1.1 (k + 1) t.next (step_in_time t.allowed w) t.passes in
      record {
        steps = t.move ∷ r.steps;
        written = ap₂ ◌++◌ (step_written x y z b.1.1.0 t.move t.written) r.written;
        end = r.end;
        run = step t.allowed r.run;
        ends_barred = r.ends_barred;
      }

  pub walk_step : (k : ℕ) (r : Row) (a : Move) (bs : List ℕ) → row_allows S r a ≡ true →
      walk S bars k r (step_bytes a ++ bs) ≡ walk S bars (k + 1) (row_after S r a) bs
  walk_step k r (Outer x) bs e = rw e
  walk_step k r (Internal p) bs e = rw e
  walk_step k r (Delay d) bs e = ap (λ o. taken S k r o (λ q. walk S bars (k + 1) q bs)) (delay_read d) ∙ rw e

  pub walk_from : {s u : State} {ms : List Move} (k : ℕ) → Run S s ms u → barred bars (phases u) ≡ true →
      walk S bars k (row s) (steps_bytes ms) ≡ Ok tt
  walk_from {s} k stop h = unless_true _ EndNotBarred (ap (barred bars) (phases_of s) ∙ h)
  walk_from k (step {s = s} {t = t} {a = a} {ms = ms} m r) h =
      let f = forth m in
      walk_step k (row s) a (steps_bytes ms) f.0
      ∙ ap (λ q. walk S bars (k + 1) q (steps_bytes ms)) (sym f.1)
      ∙ walk_from (k + 1) r h

  pub witness_to : (body : List ℕ) → Bytes body → witness_vetting S bars body ≡ Ok tt →
      Walked S bars (start S) body × (length body ≤ 4194304)
  witness_to body b h =
      let p = then_passed (unless (is_steps body) (Body Proof)) (walk S bars 0 (row (start S)) body) h in
      let q = and_parts (leb (length body) 4194304) _ (unless_passed (is_steps body) (Body Proof) p.0) in
      (walk_to body b 0 (start S) (start_in_time S.parts) p.1, leb-true (length body) 4194304 q.0)

  pub witness_from : (ms : List Move) (u : State) → Run S (start S) ms u → barred bars (phases u) ≡ true →
      length (steps_bytes ms) ≤ 4194304 → witness_vetting S bars (steps_bytes ms) ≡ Ok tt
  witness_from ms u r h l =
      let body = steps_bytes ms in
      let whole : length body % 3 ≡ 0 = omega (arith, steps_length ms) in
      ap (λ b. then (unless b (Body Proof)) (walk S bars 0 (row (start S)) body))
      (and_from _ _ (le-leb (length body) 4194304 l) (eq-eqb _ _ whole))
      ∙ walk_from 0 r h
