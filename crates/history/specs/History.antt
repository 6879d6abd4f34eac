-- The calls on an examination with their answers, and what is read off them. Assumes nothing.
use Rattle.std.specs.Prelude.{◌≡◌, ℕ, ◌⊎◌, ◌↔◌, List, [], ◌∷◌, ◌++◌, Ok, Err, Result}
use Rattle.fddevs.specs.declared.refusal.Refusal.{Refusal}
use Rattle.fddevs.specs.Scheme.{Wiring}
use Rattle.fddevs.specs.Vetting.{Vetted}
use Rattle.wiring.specs.File.{held}
use Rattle.wiring.specs.Meaning.{no_wiring}
use Rattle.bars.specs.declared.condition.Condition.{Condition}
use Rattle.proof_rules.specs.declared.evidence.Evidence.{Evidence}
use Rattle.proof_rules.specs.declared.evidence.Evidence.TheVariants.{Set, Witness}
use Rattle.proof_rules.specs.Rules.{Bars}
use Rattle.history.specs.declared.verdict.Verdict.{Verdict}
use Rattle.history.specs.declared.verdict.Verdict.TheVariants.{Clear, Reached}

-- a call, with what it was handed and what it answered
pub data Call : Type 0 where
  wire_call : List ℕ → Vetted → Call
  bar_call : List Condition → Vetted → Call
  offer_call : List ℕ → Result Evidence Refusal → Call
  verdict_call : Verdict → Call

-- the calls so far, the newest first
abbrev pub History : Type 0
History = List Call

-- the wiring of the last wiring file that was accepted, or none
abbrev pub wiring_held : History → Wiring
wiring_held [] = no_wiring
wiring_held (wire_call file (Ok _) ∷ h) = held file
wiring_held (wire_call file (Err e) ∷ h) = wiring_held h
wiring_held (bar_call cs a ∷ h) = wiring_held h
wiring_held (offer_call file a ∷ h) = wiring_held h
wiring_held (verdict_call v ∷ h) = wiring_held h

-- the bars that were accepted, in order
abbrev pub bars_held : History → Bars
bars_held [] = []
bars_held (wire_call file a ∷ h) = bars_held h
bars_held (bar_call cs (Ok _) ∷ h) = bars_held h ++ (cs ∷ [])
bars_held (bar_call cs (Err e) ∷ h) = bars_held h
bars_held (offer_call file a ∷ h) = bars_held h
bars_held (verdict_call v ∷ h) = bars_held h

-- the call put a new wiring in force, or a new bar; it had this evidence accepted
abbrev pub NewWiring : Call → Type 0
NewWiring (wire_call file a) = a ≡ Ok tt
NewWiring (bar_call cs a) = ⊥
NewWiring (offer_call file a) = ⊥
NewWiring (verdict_call v) = ⊥

abbrev pub NewBar : Call → Type 0
NewBar (wire_call file a) = ⊥
NewBar (bar_call cs a) = a ≡ Ok tt
NewBar (offer_call file a) = ⊥
NewBar (verdict_call v) = ⊥

abbrev pub Accepts : Evidence → Call → Type 0
Accepts shown (wire_call file a) = ⊥
Accepts shown (bar_call cs a) = ⊥
Accepts shown (offer_call file a) = a ≡ Ok shown
Accepts shown (verdict_call v) = ⊥

-- some call was P, and none since then was Q
pub data Since (P Q : Call → Type 0) : History → Type 0 where
  just : {e : Call} {h : History} → P e → Since P Q (e ∷ h)
  still : {e : Call} {h : History} → (Q e → ⊥) → Since P Q h → Since P Q (e ∷ h)

-- a set was accepted, and since then no wiring, bar or witness
abbrev pub ClearBy : History → Type 0
ClearBy h = Since (Accepts Set) (λ e. NewWiring e ⊎ (NewBar e ⊎ Accepts Witness e)) h

-- a witness was accepted, and since then no wiring or set
abbrev pub ReachedBy : History → Type 0
ReachedBy h = Since (Accepts Witness) (λ e. NewWiring e ⊎ Accepts Set e) h

-- the verdict that the calls so far give; open where it is neither of these
pub record Gives (h : History) (v : Verdict) : Type 0 where
  pub clear : (v ≡ Clear) ↔ ClearBy h
  pub reached : (v ≡ Reached) ↔ ReachedBy h

-- R holds of each call, given those before it
abbrev pub Throughout : (Call → History → Type 0) → History → Type 0
Throughout R [] = Unit {0}
Throughout R (e ∷ h) = R e h × Throughout R h
