-- What a set and a witness show.
use Rattle.std.proofs.Common.{◌≡◌, ℕ, zero, suc, false, List, [], ◌∷◌, replicate, sym, refl, ap, ◌∙◌, subst, inl, inr}
use Rattle.std.specs.List.{ContainsAt as Has}
use Rattle.fddevs.specs.declared.scheme.Move.{Move}
use Rattle.fddevs.specs.declared.scheme.Move.TheVariants.{Outer, Internal, Delay}
use Rattle.fddevs.specs.Scheme.{Scheme, State, Step, comes, fires, elapses, Run, stop, step, Enters, Entered}
use Rattle.fddevs.specs.Rows.{Row, row}
use Rattle.fddevs.proofs.Delays.{first, ended, split}
use Rattle.bars.specs.Bars.{barred}
use Rattle.proof_rules.specs.Rules.{Bars, phases, row_phases, Closed}
use Rattle.proof_rules.specs.Laws.{SetsSound, WitnessesSound}

pub phases_of : (s : State) → row_phases (row s) ≡ phases s
phases_of [] = refl
phases_of (c ∷ cs) = ap (λ xs. c.phase ∷ xs) (phases_of cs)

module _ (S : Scheme) (bars : Bars) (rows : List Row) (proof : Closed S bars rows) where
  kept_delays : (d : ℕ) (s t : State) → Run S s (replicate d (Delay 1)) t → Has rows (row s) → Has rows (row t)
  kept_delays zero s t r i = subst (λ (u : State). Has rows (row u)) (sym (ended r)) i
  kept_delays (suc d) s t r i =
      let f = first r in
      kept_delays d f.0 t f.2 (proof.stays s f.0 (Delay 1) i refl f.1)

  kept : {s t : State} {a : Move} → Step S s a t → Has rows (row s) → Has rows (row t)
  kept (comes {s = s} x h) i = proof.stays s _ (Outer x) i refl (comes x h)
  kept (fires {s = s} p h) i = proof.stays s _ (Internal p) i refl (fires p h)
  kept (elapses {s = s} d h k) i = kept_delays d s _ (split S d s k) i

  kept_run : {s t : State} {ms : List Move} (r : Run S s ms t) (u : State) → Has rows (row s) → Enters r u → Has rows (row u)
  kept_run stop u i e = subst (λ (v : State). Has rows (row v)) (sym e) i
  kept_run (step h r) u i (inl e) = subst (λ (v : State). Has rows (row v)) (sym e) i
  kept_run (step h r) u i (inr e) = kept_run r u (kept h i) e

-- every state that a run enters has its row among closed rows, which are not barred
pub closed_sound : (S : Scheme) (bars : Bars) (rows : List Row) → Closed S bars rows → (u : State) → Entered S u →
    barred bars (phases u) ≡ false
closed_sound S bars rows proof u e =
    let i = kept_run S bars rows proof e.run u proof.starts e.enters in
    ap (barred bars) (sym (phases_of u)) ∙ proof.unbarred (row u) i

pub sets_sound : SetsSound
sets_sound F W bars file k u e = closed_sound _ bars k.rows k.closed u e

-- a run enters the state where it ends
pub enters_end : {S : Scheme} {s t : State} {ms : List Move} (r : Run S s ms t) → Enters r t
enters_end stop = refl
enters_end (step h r) = inr (enters_end r)

pub witnesses_sound : WitnessesSound
witnesses_sound F W bars file k =
    (k.end, record { moves = k.steps; end = k.end; run = k.run; enters = enters_end k.run }, k.ends_barred)
