-- How a proof file is judged: one finding for each number, the smallest number first. Assumes nothing.
use Rattle.std.specs.Prelude.{ℕ, ◌+◌, ◌*◌, ◌%◌, Bool, true, false, cond, not, ◌&&◌, ◌||◌, List, [], ◌∷◌, map, length, drop, Some, None, Ok, Err, Option, Result, ◌==◌, nat_le, nat_lt, slice_index}
use Rattle.std.specs.List.{range_with_len}
use Rattle.fddevs.specs.declared.part.Span.{Span}
use Rattle.fddevs.specs.declared.part.Span.TheVariants.{Ticks, Unlimited}
use Rattle.fddevs.specs.declared.refusal.Layer.TheVariants.{Proof}
use Rattle.fddevs.specs.declared.refusal.Refusal.{Refusal}
use Rattle.fddevs.specs.declared.refusal.Refusal.TheVariants.{NotWhole, Version, Kind, Body, RowPhase, RowOrder, StartAbsent, RowBarred, RowLeaves, StepNotAllowed, EndNotBarred}
use Rattle.fddevs.specs.declared.scheme.Move.{Move}
use Rattle.fddevs.specs.declared.scheme.Move.TheVariants.{Outer, Internal, Delay}
use Rattle.fddevs.specs.Machine.{Machine, Family}
use Rattle.fddevs.specs.Rows.{Row, row, row_after, row_allows}
use Rattle.fddevs.specs.Scheme.{Wiring, Scheme, scheme, start}
use Rattle.fddevs.specs.Vetting.{Vetted, vetted, then, unless, seek, found, all_below}
use Rattle.bars.specs.Bars.{barred}
use Rattle.set_file.specs.Layout.{width, body_fits, stretch, row_count}
use Rattle.set_file.specs.Reading.{whole, climbs}
use Rattle.stepping.specs.RowBytes.{cells_of}
use Rattle.proof_rules.specs.declared.evidence.Evidence.{Evidence}
use Rattle.proof_rules.specs.declared.evidence.Evidence.TheVariants.{Set, Witness}
use Rattle.proof_rules.specs.Rules.{Bars, row_phases}

-- row k of a body of rows of n parts, and all its rows
abbrev pub row_at : ℕ → List ℕ → ℕ → Row
row_at n body k = cells_of (stretch (width n) body k)

abbrev pub rows_in : ℕ → List ℕ → List Row
rows_in n body = map (row_at n body) (range_with_len 0 (row_count (width n) body))

-- the parts have these phases
abbrev pub phases_exist : List Machine → Row → Bool
phases_exist [] [] = true
phases_exist [] (c ∷ cs) = false
phases_exist (m ∷ ms) [] = false
phases_exist (m ∷ ms) (c ∷ cs) = nat_lt c.phase m.counts.phases && phases_exist ms cs

-- the row stands among the rows
abbrev pub same_span : Span → Span → Bool
same_span (Ticks m) (Ticks n) = m == n
same_span (Ticks m) Unlimited = false
same_span Unlimited (Ticks n) = false
same_span Unlimited Unlimited = true

abbrev pub same_row : Row → Row → Bool
same_row [] [] = true
same_row [] (d ∷ ds) = false
same_row (c ∷ cs) [] = false
same_row (c ∷ cs) (d ∷ ds) = (c.phase == d.phase && same_span c.remaining d.remaining) && same_row cs ds

abbrev pub among : List Row → Row → Bool
among [] r = false
among (x ∷ xs) r = same_row x r || among xs r

-- the step is not allowed, or leads to one of the rows
abbrev pub stays : Scheme → List Row → Row → Move → Bool
stays S rows r a = not (row_allows S r a) || among rows (row_after S r a)

-- so do all single steps
abbrev pub all_stay : Scheme → List Row → Row → Bool
all_stay S rows r =
    stays S rows r (Delay 1)
    && (all_below (λ x. stays S rows r (Outer x)) S.wiring.outer_inputs
    && all_below (λ p. stays S rows r (Internal p)) (length S.parts))

-- the findings on the rows of a set
abbrev pub phases_vetting : List Machine → ℕ → List ℕ → Vetted
phases_vetting ms n body =
    found RowPhase (seek (λ k. phases_exist ms (row_at n body k)) 0 (row_count (width n) body))

-- row k is the first, or above the one before it
abbrev pub in_order : ℕ → List ℕ → ℕ → Bool
in_order n body k = k == 0 || climbs (width n) body k

abbrev pub order_vetting : ℕ → List ℕ → Vetted
order_vetting n body = found (RowOrder Proof) (seek (in_order n body) 0 (row_count (width n) body))

abbrev pub start_vetting : Scheme → ℕ → List ℕ → Vetted
start_vetting S n body = unless (among (rows_in n body) (row (start S))) StartAbsent

abbrev pub bars_vetting : Bars → ℕ → List ℕ → Vetted
bars_vetting bars n body =
    found RowBarred (seek (λ k. not (barred bars (row_phases (row_at n body k)))) 0 (row_count (width n) body))

abbrev pub steps_vetting : Scheme → ℕ → List ℕ → Vetted
steps_vetting S n body =
    found RowLeaves (seek (λ k. all_stay S (rows_in n body) (row_at n body k)) 0 (row_count (width n) body))

abbrev pub rows_vetting : Scheme → Bars → ℕ → List ℕ → Vetted
rows_vetting S bars n body =
    then (phases_vetting S.parts n body)
    (then (order_vetting n body)
    (then (start_vetting S n body)
    (then (bars_vetting bars n body) (steps_vetting S n body))))

-- a set's body has rows, and only whole ones
abbrev pub is_rows : ℕ → List ℕ → Bool
is_rows n body = body_fits (length body) && length body % width n == 0

abbrev pub set_vetting : Scheme → Bars → ℕ → List ℕ → Vetted
set_vetting S bars n body = then (unless (is_rows n body) (Body Proof)) (rows_vetting S bars n body)

-- the step that three bytes write
abbrev pub step_of : ℕ → ℕ → ℕ → Option Move
step_of kind high low =
    cond (kind == 0) (Some (Delay (high * 256 + low)))
    (cond (high == 0) (cond (kind == 1) (Some (Outer low)) (cond (kind == 2) (Some (Internal low)) None)) None)

-- step k is taken from the row, and the rest goes on from where it leads
abbrev pub taken : Scheme → ℕ → Row → Option Move → (Row → Vetted) → Vetted
taken S k r None rest = Err (StepNotAllowed k)
taken S k r (Some a) rest = cond (row_allows S r a) (rest (row_after S r a)) (Err (StepNotAllowed k))

-- the steps from step k on, and then a barred row
abbrev pub walk : Scheme → Bars → ℕ → Row → List ℕ → Vetted
walk S bars k r [] = unless (barred bars (row_phases r)) EndNotBarred
walk S bars k r (a ∷ []) = Err (StepNotAllowed k)
walk S bars k r (a ∷ b ∷ []) = Err (StepNotAllowed k)
walk S bars k r (a ∷ b ∷ c ∷ bs) = taken S k r (step_of a b c) (λ q. walk S bars (k + 1) q bs)

-- a witness's body has whole steps
abbrev pub is_steps : List ℕ → Bool
is_steps body = nat_le (length body) 4194304 && length body % 3 == 0

abbrev pub witness_vetting : Scheme → Bars → List ℕ → Vetted
witness_vetting S bars body = then (unless (is_steps body) (Body Proof)) (walk S bars 0 (row (start S)) body)

-- the body of a file of this kind
abbrev pub judged_as : ℕ → Vetted → Vetted → Result Evidence Refusal
judged_as kind as_set as_witness =
    cond (kind == 1) (vetted as_set Set) (cond (kind == 2) (vetted as_witness Witness) (Err (Kind Proof)))

abbrev pub unless_refused : {A : Type 0} → Vetted → Result A Refusal → Result A Refusal
unless_refused (Ok _) r = r
unless_refused (Err e) r = Err e

abbrev pub head_vetting : List ℕ → Vetted
head_vetting file = then (unless (whole file) (NotWhole Proof)) (unless (slice_index file 0 == 1) (Version Proof))

-- what a proof file is taken for, with the wiring and the bars that stand, or why it is refused
abbrev pub judgement : Family → Wiring → Bars → List ℕ → Result Evidence Refusal
judgement F W bars file =
    unless_refused (head_vetting file)
    (judged_as (slice_index file 1) (set_vetting (scheme F W) bars F.count (drop 6 file))
    (witness_vetting (scheme F W) bars (drop 6 file)))
