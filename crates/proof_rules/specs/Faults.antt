-- What may be at fault in a proof file, and the refusal for it.
use Rattle.std.specs.Prelude.{◌≡◌, ℕ, zero, suc, ◌<◌, true, false, List, [], ◌∷◌, drop, Some, Ok, Err, Result, ◌≢◌, slice_index}
use Rattle.std.specs.List.{ContainsAt as Has}
use Rattle.fddevs.specs.declared.refusal.Layer.TheVariants.{Proof}
use Rattle.fddevs.specs.declared.refusal.Refusal.{Refusal}
use Rattle.fddevs.specs.declared.refusal.Refusal.TheVariants.{NotWhole, Version, Kind, Body, RowPhase, RowOrder, StartAbsent, RowBarred, RowLeaves, StepNotAllowed, EndNotBarred}
use Rattle.fddevs.specs.declared.scheme.Move.{Move}
use Rattle.fddevs.specs.Laws.{Allowed}
use Rattle.fddevs.specs.Machine.{Family}
use Rattle.fddevs.specs.Rows.{Row, row, row_after, row_allows}
use Rattle.fddevs.specs.Scheme.{Wiring, Scheme, scheme, State, start, Step, Run}
use Rattle.fddevs.specs.Vetting.{Vetted}
use Rattle.bars.specs.Bars.{barred}
use Rattle.set_file.specs.Layout.{width, row_count}
use Rattle.set_file.specs.Reading.{whole}
use Rattle.proof_rules.specs.declared.evidence.Evidence.{Evidence}
use Rattle.proof_rules.specs.Files.{steps_bytes}
use Rattle.proof_rules.specs.Judging.{row_at, rows_in, phases_exist, in_order, is_rows, is_steps, step_of}
use Rattle.proof_rules.specs.Rules.{Bars, phases, row_phases, single}

-- every single step from the row leads to one of the rows
abbrev pub Stays : Scheme → List Row → Row → Type 0
Stays S rows r = (a : Move) → single a ≡ true → row_allows S r a ≡ true → Has rows (row_after S r a)

-- at fault in the body of a set of rows of n parts
pub data SetFault (S : Scheme) (bars : Bars) (n : ℕ) (body : List ℕ) : Refusal → Type 0 where
  not_rows : is_rows n body ≡ false → SetFault S bars n body (Body Proof)
  no_phase : (k : ℕ) → k < row_count (width n) body → phases_exist S.parts (row_at n body k) ≡ false →
      SetFault S bars n body (RowPhase k)
  not_above : (k : ℕ) → k < row_count (width n) body → in_order n body k ≡ false → SetFault S bars n body (RowOrder Proof k)
  no_start : (Has (rows_in n body) (row (start S)) → ⊥) → SetFault S bars n body StartAbsent
  is_barred : (k : ℕ) → k < row_count (width n) body → barred bars (row_phases (row_at n body k)) ≡ true →
      SetFault S bars n body (RowBarred k)
  leaves : (k : ℕ) → k < row_count (width n) body → (Stays S (rows_in n body) (row_at n body k) → ⊥) →
      SetFault S bars n body (RowLeaves k)

-- the first k steps that the bytes write are taken from the state, and what follows is no step that is allowed there
pub data Stops (S : Scheme) : State → List ℕ → ℕ → Type 0 where
  cut : {s : State} {a : ℕ} → Stops S s (a ∷ []) zero
  cut_later : {s : State} {a b : ℕ} → Stops S s (a ∷ b ∷ []) zero
  not_allowed : {s : State} {a b c : ℕ} {bs : List ℕ} → ((m : Move) → step_of a b c ≡ Some m → Allowed S s m → ⊥) →
      Stops S s (a ∷ b ∷ c ∷ bs) zero
  after : {s t : State} {m : Move} {a b c k : ℕ} {bs : List ℕ} → step_of a b c ≡ Some m → Step S s m t → Stops S t bs k →
      Stops S s (a ∷ b ∷ c ∷ bs) (suc k)

-- at fault in the body of a witness
pub data WitnessFault (S : Scheme) (bars : Bars) (body : List ℕ) : Refusal → Type 0 where
  not_steps : is_steps body ≡ false → WitnessFault S bars body (Body Proof)
  stops : (k : ℕ) → Stops S (start S) body k → WitnessFault S bars body (StepNotAllowed k)
  ends_free : (ms : List Move) (u : State) → steps_bytes ms ≡ body → Run S (start S) ms u → barred bars (phases u) ≡ false →
      WitnessFault S bars body EndNotBarred

-- at fault in a proof file
pub data Fault (F : Family) (W : Wiring) (bars : Bars) (file : List ℕ) : Refusal → Type 0 where
  not_whole : whole file ≡ false → Fault F W bars file (NotWhole Proof)
  other_version : (slice_index file 0 ≢ 1) → Fault F W bars file (Version Proof)
  other_kind : (slice_index file 1 ≢ 1) → (slice_index file 1 ≢ 2) → Fault F W bars file (Kind Proof)
  in_set : {o : Refusal} → slice_index file 1 ≡ 1 → SetFault (scheme F W) bars F.count (drop 6 file) o → Fault F W bars file o
  in_witness : {o : Refusal} → slice_index file 1 ≡ 2 → WitnessFault (scheme F W) bars (drop 6 file) o → Fault F W bars file o

-- whether a file was accepted, or why not
abbrev pub vetting_of : Result Evidence Refusal → Vetted
vetting_of (Ok x) = Ok tt
vetting_of (Err e) = Err e
