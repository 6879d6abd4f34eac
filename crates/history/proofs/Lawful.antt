-- The law holds wherever calls lead.
use Rattle.std.proofs.Common.{◌≡◌, ℕ, true, ◌⊎◌, ◌↔◌, List, [], ◌∷◌, ◌++◌, Ok, Err, Result, sym, refl, ap, ◌∙◌, subst, inl, inr, ⊎_elim, arith}
use Rattle.std.proofs.lemmas.Bool.{or_cases, or_left, or_right, false≢true}
use Rattle.fddevs.specs.declared.refusal.Refusal.{Refusal}
use Rattle.fddevs.specs.Machine.{Family, WithinLimits}
use Rattle.fddevs.specs.Scheme.{Wiring}
use Rattle.fddevs.specs.Vetting.{Vetted}
use Rattle.bars.specs.Bars.{holds, barred}
use Rattle.bars.specs.Rules.{KeepsBarRules}
use Rattle.bars.specs.Vetting.{vetting}
use Rattle.bars.specs.declared.condition.Condition.{Condition}
use Rattle.bars.proofs.Told.{accepts_exactly as bar_exactly}
use Rattle.wiring.specs.File.{held}
use Rattle.wiring.specs.Laws.{file_of, KeepsWiringRules}
use Rattle.wiring.specs.Reading.{reading, vetting as wiring_vetting}
use Rattle.wiring.proofs.Accepted.{accepted_ok, accepts_exactly}
use Rattle.proof_rules.specs.declared.evidence.Evidence.{Evidence}
use Rattle.proof_rules.specs.declared.evidence.Evidence.TheVariants.{Set, Witness}
use Rattle.proof_rules.specs.Files.{Bytes}
use Rattle.proof_rules.specs.Judging.{judgement}
use Rattle.proof_rules.specs.Laws.{ByTheRules, NeverEntered, SomeEntered}
use Rattle.proof_rules.specs.Rules.{Bars, phases}
use Rattle.proof_rules.proofs.Judged.{judged_by_the_rules}
use Rattle.proof_rules.proofs.Sound.{sets_sound, witnesses_sound}
use Rattle.history.specs.Held.{Held, begun, answer_of, after_wire, after_bar, after_offer}
use Rattle.history.specs.History.{Call, wire_call, bar_call, offer_call, verdict_call, History, wiring_held, bars_held, NewWiring, NewBar, Accepts, Since, just, still, Gives}
use Rattle.history.specs.Law.{Right, Law, LawfulThroughout}
use Rattle.history.specs.Led.{Answered, leaves, Led, begins, goes}
use Rattle.history.specs.Verdicts.{with_bar}
use Rattle.history.specs.declared.verdict.Verdict.{Verdict}
use Rattle.history.specs.declared.verdict.Verdict.TheVariants.{Open, Clear, Reached}

-- values that differ
open_clear : {A : Type 0} → Open ≡ Clear → A
open_clear e = let z : ◌≡◌ {A = ℕ} 0 1 = cc in absurd (omega arith)

open_reached : {A : Type 0} → Open ≡ Reached → A
open_reached e = let z : ◌≡◌ {A = ℕ} 0 1 = cc in absurd (omega arith)

clear_reached : {A : Type 0} → Clear ≡ Reached → A
clear_reached e = let z : ◌≡◌ {A = ℕ} 0 1 = cc in absurd (omega arith)

reached_clear : {A : Type 0} → Reached ≡ Clear → A
reached_clear e = let z : ◌≡◌ {A = ℕ} 0 1 = cc in absurd (omega arith)

refused : {A X : Type 0} {x : X} {e : Refusal} → ◌≡◌ {A = Result X Refusal} (Err e) (Ok x) → A
refused e = let z : ◌≡◌ {A = ℕ} 0 1 = cc in absurd (omega arith)

set_witness : {A : Type 0} → ◌≡◌ {A = Result Evidence Refusal} (Ok Set) (Ok Witness) → A
set_witness e = let z : ◌≡◌ {A = ℕ} 0 1 = cc in absurd (omega arith)

-- since
since_split : {P Q : Call → Type 0} {e : Call} {h : History} → Since P Q (e ∷ h) → P e ⊎ ((Q e → ⊥) × Since P Q h)
since_split (just p) = inl p
since_split (still q s) = inr (q, s)

abbrev SomeCall : History → Type 0
SomeCall [] = ⊥
SomeCall (e ∷ h) = Unit {0}

none_since : {P Q : Call → Type 0} → Since P Q [] → ⊥
none_since s = elim s as (λ h _. SomeCall h) [ just p ↦ tt | still q s ↦ tt ]

-- what a call makes of the verdict that the calls give
gives_still : (e : Call) (h : History) (v : Verdict) → (NewWiring e → ⊥) → (NewBar e → ⊥) → (Accepts Set e → ⊥) →
    (Accepts Witness e → ⊥) → Gives h v → Gives (e ∷ h) v
gives_still e h v nw nb ns nt g = record {
  clear = (
    λ q. still (⊎_elim nw (⊎_elim nb nt)) (g.clear.0 q),
    λ s. ⊎_elim (λ p. absurd (ns p)) (λ r. g.clear.1 r.1) (since_split s),
  );
  reached = (
    λ q. still (⊎_elim nw ns) (g.reached.0 q),
    λ s. ⊎_elim (λ p. absurd (nt p)) (λ r. g.reached.1 r.1) (since_split s),
  );
}

gives_wire : (file : List ℕ) (h : History) → Gives (wire_call file (Ok tt) ∷ h) Open
gives_wire file h = record {
  clear = (open_clear, λ s. ⊎_elim (λ p. absurd p) (λ r. absurd (r.0 (inl refl))) (since_split s));
  reached = (open_reached, λ s. ⊎_elim (λ p. absurd p) (λ r. absurd (r.0 (inl refl))) (since_split s));
}

not_clear : {A : Type 0} (v : Verdict) → with_bar v ≡ Clear → A
not_clear Open e = open_clear e
not_clear Clear e = open_clear e
not_clear Reached e = reached_clear e

was_reached : (v : Verdict) → with_bar v ≡ Reached → v ≡ Reached
was_reached Open e = e
was_reached Clear e = open_reached e
was_reached Reached e = refl

gives_bar : (cs : List Condition) (h : History) (v : Verdict) → Gives h v → Gives (bar_call cs (Ok tt) ∷ h) (with_bar v)
gives_bar cs h v g = record {
  clear = (not_clear v, λ s. ⊎_elim (λ p. absurd p) (λ r. absurd (r.0 (inr (inl refl)))) (since_split s));
  reached = (
    λ q. still (⊎_elim (λ p. p) (λ p. p)) (g.reached.0 (was_reached v q)),
    λ s. ⊎_elim (λ p. absurd p) (λ r. ap with_bar (g.reached.1 r.1)) (since_split s),
  );
}

gives_set : (file : List ℕ) (h : History) → Gives (offer_call file (Ok Set) ∷ h) Clear
gives_set file h = record {
  clear = (λ _. just refl, λ _. refl);
  reached = (clear_reached, λ s. ⊎_elim set_witness (λ r. absurd (r.0 (inr refl))) (since_split s));
}

gives_witness : (file : List ℕ) (h : History) → Gives (offer_call file (Ok Witness) ∷ h) Reached
gives_witness file h = record {
  clear = (reached_clear, λ s. ⊎_elim (λ p. set_witness (sym p)) (λ r. absurd (r.0 (inr (inr refl)))) (since_split s));
  reached = (λ _. just refl, λ _. refl);
}

-- the answers
read_is_held : (F : Family) (file : List ℕ) (W : Wiring) → reading F file ≡ Ok W → W ≡ held file
read_is_held F file W e = sym (accepted_ok (wiring_vetting F file) (held file) W e).1

reads : (F : Family) (file : List ℕ) (r : Result Wiring Refusal) → reading F file ≡ r → answer_of r ≡ Ok tt → reading F file ≡ Ok (held file)
reads F file (Ok W) e h = e ∙ ap Ok (read_is_held F file W e)
reads F file (Err x) e h = refused h

right_wire : (F : Family) (file : List ℕ) → Bytes file →
    (answer_of (reading F file) ≡ Ok tt) ↔ ((file ≡ file_of (held file)) × KeepsWiringRules F (held file))
right_wire F file b =
    let x = accepts_exactly F file (held file) b in
    (λ h. x.0 (reads F file (reading F file) refl h), λ k. ap answer_of (x.1 k))

module _ (F : Family) (limits : WithinLimits F) where
  right : (e : Call) {h : History} {x : Held} → Law F h x → Answered F x e → Right F e h
  right (wire_call file a) l h =
      subst (λ (a : Vetted). (a ≡ Ok tt) ↔ ((file ≡ file_of (held file)) × KeepsWiringRules F (held file))) (sym h.1)
      (right_wire F file h.0)
  right (bar_call cs a) {h = k} {x = x} l h =
      subst (λ (B : Bars). (a ≡ Ok tt) ↔ KeepsBarRules F B cs) l.bars
      (subst (λ (a : Vetted). (a ≡ Ok tt) ↔ KeepsBarRules F x.bars cs) (sym h) (bar_exactly F x.bars cs))
  right (offer_call file a) {h = k} {x = x} l h =
      subst (λ (B : Bars). ByTheRules F (wiring_held k) B file a) l.bars
      (subst (λ (W : Wiring). ByTheRules F W x.bars file a) l.wiring
      (subst (ByTheRules F x.wiring x.bars file) (sym h.1)
      (judged_by_the_rules F limits x.wiring x.bars file h.0)))
  right (verdict_call v) {h = k} l h = subst (Gives k) (sym h) l.reads

  -- a bar more
  barred_more : (bars more : Bars) (ps : List ℕ) → barred bars ps ≡ true → barred (bars ++ more) ps ≡ true
  barred_more [] more ps h = absurd (false≢true h)
  barred_more (b ∷ bs) more ps h =
      ⊎_elim (λ e. or_left _ _ e) (λ e. or_right (holds b ps) _ (barred_more bs more ps e)) (or_cases (holds b ps) (barred bs ps) h)

  still_entered : (W : Wiring) (bars more : Bars) → SomeEntered F W bars → SomeEntered F W (bars ++ more)
  still_entered W bars more r = (r.0, r.1, barred_more bars more (phases r.0) r.2)

  -- a call that leaves all as it was
  same : (e : Call) {h : History} {x : Held} → (NewWiring e → ⊥) → (NewBar e → ⊥) → (Accepts Set e → ⊥) → (Accepts Witness e → ⊥) →
      wiring_held (e ∷ h) ≡ wiring_held h → bars_held (e ∷ h) ≡ bars_held h → Law F h x → Right F e h → Law F (e ∷ h) x
  same e {h} {x} nw nb ns nt w b l r = record {
    wiring = l.wiring ∙ sym w;
    bars = l.bars ∙ sym b;
    reads = gives_still e h x.verdict nw nb ns nt l.reads;
    answers = (r, l.answers);
    clear = l.clear;
    reached = l.reached;
  }

  no : {P : Type 0} → ⊥ → P
  no z = absurd z

  wired : (file : List ℕ) {h : History} {x : Held} (r : Result Wiring Refusal) → reading F file ≡ r → Law F h x →
      Right F (wire_call file (answer_of r)) h → Law F (wire_call file (answer_of r) ∷ h) (after_wire r x)
  wired file {h} {x} (Ok W) e l right = record {
    wiring = read_is_held F file W e;
    bars = l.bars;
    reads = gives_wire file h;
    answers = (right, l.answers);
    clear = open_clear;
    reached = open_reached;
  }
  wired file (Err y) e l right = same (wire_call file (Err y)) refused no no no refl refl l right

  added : (cs : List Condition) {h : History} {x : Held} (v : Vetted) → Law F h x → Right F (bar_call cs v) h →
      Law F (bar_call cs v ∷ h) (after_bar v cs x)
  added cs {h} {x} (Ok tt) l right = record {
    wiring = l.wiring;
    bars = ap (λ (B : Bars). B ++ (cs ∷ [])) l.bars;
    reads = gives_bar cs h x.verdict l.reads;
    answers = (right, l.answers);
    clear = not_clear x.verdict;
    reached = λ e. still_entered x.wiring x.bars (cs ∷ []) (l.reached (was_reached x.verdict e));
  }
  added cs (Err y) l right = same (bar_call cs (Err y)) no refused no no refl refl l right

  offered : (file : List ℕ) {h : History} {x : Held} (r : Result Evidence Refusal) → Law F h x → Right F (offer_call file r) h →
      Law F (offer_call file r ∷ h) (after_offer r x)
  offered file {h} {x} (Ok Set) l right = record {
    wiring = l.wiring;
    bars = l.bars;
    reads = gives_set file h;
    answers = (right, l.answers);
    clear = λ _.
        subst (λ (B : Bars). NeverEntered F x.wiring B) (sym l.bars)
        (subst (λ (W : Wiring). NeverEntered F W (bars_held h)) (sym l.wiring)
        (sets_sound F (wiring_held h) (bars_held h) file (right.sets.0 refl)));
    reached = clear_reached;
  }
  offered file {h} {x} (Ok Witness) l right = record {
    wiring = l.wiring;
    bars = l.bars;
    reads = gives_witness file h;
    answers = (right, l.answers);
    clear = reached_clear;
    reached = λ _.
        subst (λ (B : Bars). SomeEntered F x.wiring B) (sym l.bars)
        (subst (λ (W : Wiring). SomeEntered F W (bars_held h)) (sym l.wiring)
        (witnesses_sound F (wiring_held h) (bars_held h) file (right.witnesses.0 refl)));
  }
  offered file (Err y) l right = same (offer_call file (Err y)) no no refused refused refl refl l right

  law_more : (e : Call) {h : History} {x : Held} → Law F h x → Answered F x e → Right F e h → Law F (e ∷ h) (leaves F e x)
  law_more (wire_call file a) {h} {x} l answered r =
      subst (λ (v : Vetted). Law F (wire_call file v ∷ h) (after_wire (reading F file) x)) (sym answered.1)
      (wired file (reading F file) refl l (subst (λ (v : Vetted). Right F (wire_call file v) h) answered.1 r))
  law_more (bar_call cs a) {h} {x} l answered r =
      subst (λ (v : Vetted). Law F (bar_call cs v ∷ h) (after_bar (vetting F x.bars cs) cs x)) (sym answered)
      (added cs (vetting F x.bars cs) l (subst (λ (v : Vetted). Right F (bar_call cs v) h) answered r))
  law_more (offer_call file a) {h} {x} l answered r =
      subst (λ (v : Result Evidence Refusal). Law F (offer_call file v ∷ h) (after_offer (judgement F x.wiring x.bars file) x))
      (sym answered.1)
      (offered file (judgement F x.wiring x.bars file) l
      (subst (λ (v : Result Evidence Refusal). Right F (offer_call file v) h) answered.1 r))
  law_more (verdict_call v) l answered r = same (verdict_call v) no no no no refl refl l r

  at_first : Law F [] begun
  at_first = record {
    wiring = refl;
    bars = refl;
    reads = record { clear = (open_clear, λ s. absurd (none_since s)); reached = (open_reached, λ s. absurd (none_since s)) };
    answers = tt;
    clear = open_clear;
    reached = open_reached;
  }

  pub law_of : {h : History} {x : Held} → Led F h x → Law F h x
  law_of begins = at_first
  law_of (goes e led a) = let l = law_of led in law_more e l a (right e l a)

pub lawful : LawfulThroughout
lawful F limits h x led = law_of F limits led
