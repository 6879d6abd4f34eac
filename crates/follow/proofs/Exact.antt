-- Each answer is a step of the part, and each step is answered.
use Rattle.std.proofs.Common.{◌≡◌, ℕ, ◌+◌, ◌^◌, ◌<◌, Bool, true, false, cond, ◌&&◌, ltb, Some, None, Ok, Err, Result, sym, refl, ◌∙◌, subst, arith}
use Rattle.std.specs.Option.{ok_or}
use Rattle.std.proofs.lemmas.Bool.{and_parts, eqb-true, eq-eqb, leb-true, le-leb, ltb-true, lt-ltb, false≢true}
use Rattle.fddevs.specs.Machine.{Family, WithinLimits, when, has_phase, lifespan_at, external_at}
use Rattle.fddevs.specs.Part.{Within, Spent, PartStep, takes, expires, waits, after_input, after_internal, after_delay}
use Rattle.fddevs.specs.declared.part.External.{External}
use Rattle.fddevs.specs.declared.part.PartMove.{PartMove}
use Rattle.fddevs.specs.declared.part.PartMove.TheVariants.{Input, Internal, Delay}
use Rattle.fddevs.specs.declared.part.PartState.{PartState}
use Rattle.fddevs.specs.declared.part.Span.{Span}
use Rattle.fddevs.specs.declared.part.Span.TheVariants.{Ticks, Unlimited}
use Rattle.fddevs.proofs.Queries.{external_asked}
use Rattle.follow.specs.Follow.{spent, within, moved}
use Rattle.follow.specs.Laws.{FollowsExactly}
use Rattle.follow.specs.declared.moves.Stuck.{Stuck}
use Rattle.follow.specs.declared.moves.Stuck.TheVariants.{NotAllowed, TooLong}

-- the phase that a bank names has a lifespan
pub lasts : (F : Family) → WithinLimits F → (p s i : ℕ) (x : External) → Some x ≡ external_at F p s i →
    None ≡ lifespan_at F p x.next → ⊥
lasts F w p s i x e n =
    let a = external_asked F w p s i x e in
    let n' = rw a.leads at n in
    let z : ◌≡◌ {A = ℕ} 0 1 = cc in
    omega arith

within_true : (l : Span) (e : ℕ) → within l e ≡ true → Within l e
within_true (Ticks l) e h = leb-true e l h
within_true Unlimited e h = tt

true_within : (l : Span) (e : ℕ) → Within l e → within l e ≡ true
true_within (Ticks l) e h = le-leb e l h
true_within Unlimited e h = refl

spent_true : (l : Span) (e : ℕ) → spent l e ≡ true → Spent l e
spent_true (Ticks l) e h = eqb-true e l h
spent_true Unlimited e h = absurd (false≢true h)

true_spent : (l : Span) (e : ℕ) → Spent l e → spent l e ≡ true
true_spent (Ticks l) e h = eq-eqb e l h
true_spent Unlimited e h = absurd h

-- an answer that is Ok passed its test
asked : {A E : Type 0} (b : Bool) (x t : A) (e : E) → ok_or (when b x) e ≡ Ok t → (b ≡ true) × (x ≡ t)
asked true x t e h = (refl, cc)
asked false x t e h = let z : ◌≡◌ {A = ℕ} 0 1 = cc in absurd (omega arith)

tested : {A E : Type 0} (b : Bool) (r : Result A E) (t : A) (e : E) → cond b r (Err e) ≡ Ok t → (b ≡ true) × (r ≡ Ok t)
tested true r t e h = (refl, h)
tested false r t e h = let z : ◌≡◌ {A = ℕ} 0 1 = cc in absurd (omega arith)

sound : (F : Family) (p : ℕ) (c : PartState) (a : PartMove) (t : PartState) → moved F p c a ≡ Ok t → PartStep (F.part p) c a t
sound F p c (Input i) t h =
    let a = asked (has_phase F p c.phase && ltb i (F.part p).counts.inputs) (after_input (F.part p) i c) t NotAllowed h in
    let b = and_parts _ _ a.0 in
    subst (PartStep (F.part p) c (Input i)) a.1 (takes i (ltb-true _ _ b.1))
sound F p c Internal t h =
    let a = asked (spent c.lifespan c.elapsed && has_phase F p c.phase) (after_internal (F.part p) c) t NotAllowed h in
    let b = and_parts _ _ a.0 in
    subst (PartStep (F.part p) c Internal) a.1 (expires (spent_true c.lifespan c.elapsed b.0))
sound F p c (Delay d) t h =
    let a = tested (within c.lifespan (c.elapsed + d)) _ t NotAllowed h in
    let b = tested (ltb (c.elapsed + d) (2 ^ 64)) (Ok (after_delay d c)) t TooLong a.1 in
    let e : after_delay d c ≡ t = let q = b.1 in cc in
    subst (PartStep (F.part p) c (Delay d)) e (waits d (within_true c.lifespan (c.elapsed + d) a.0))

complete : (F : Family) (p : ℕ) (c : PartState) (a : PartMove) → p < F.count → c.phase < (F.part p).counts.phases →
    (t : PartState) → PartStep (F.part p) c a t → t.elapsed < 2 ^ 64 → moved F p c a ≡ Ok t
complete F p c a h k t (takes i l) room =
    rw (lt-ltb p F.count h, lt-ltb c.phase (F.part p).counts.phases k, lt-ltb i (F.part p).counts.inputs l)
complete F p c a h k t (expires d) room =
    rw (true_spent c.lifespan c.elapsed d, lt-ltb p F.count h, lt-ltb c.phase (F.part p).counts.phases k)
complete F p c a h k t (waits d w) room =
    rw (true_within c.lifespan (c.elapsed + d) w, lt-ltb (c.elapsed + d) (2 ^ 64) room)

pub exactly : (F : Family) (p : ℕ) (c : PartState) (a : PartMove) (r : Result PartState Stuck) → r ≡ moved F p c a →
    FollowsExactly F p c a r
exactly F p c a r e =
    record { sound = λ t h. sound F p c a t (sym e ∙ h); complete = λ h k t s room. e ∙ complete F p c a h k t s room }
