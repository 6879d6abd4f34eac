-- What holds of one part: its cell keeps up with its state.
use Rattle.std.proofs.Common.{◌≡◌, ℕ, ◌+◌, ◌-◌, true, refl, ap, arith}
use native.Mathlib.Nat.{sub-zero}
use Rattle.std.proofs.lemmas.Bool.{leb-true, le-leb, eqb-true, eq-eqb, false≢true}
use Rattle.fddevs.specs.declared.part.Span.{Span}
use Rattle.fddevs.specs.declared.part.Span.TheVariants.{Ticks, Unlimited}
use Rattle.fddevs.specs.declared.part.Mark.{Mark}
use Rattle.fddevs.specs.declared.part.Mark.TheVariants.{Keep, Restart}
use Rattle.fddevs.specs.declared.part.PartState.{PartState}
use Rattle.fddevs.specs.Machine.{Machine}
use Rattle.fddevs.specs.Part.{Within, Spent, left, fresh, led, after_input, after_delay}
use Rattle.fddevs.specs.Rows.{cell, cell_fresh, cell_led, cell_input, cell_delay, lasts, is_due}

left_none : (l : Span) → left l 0 ≡ l
left_none (Ticks l) = ap Ticks (sub-zero l)
left_none Unlimited = refl

left_more : (l : Span) (e d : ℕ) → left l (e + d) ≡ left (left l e) d
left_more (Ticks l) e d = let h : l - (e + d) ≡ l - e - d = omega arith in ap Ticks h
left_more Unlimited e d = refl

pub of_fresh : (m : Machine) (s : ℕ) → cell (fresh m s) ≡ cell_fresh m s
of_fresh m s = λ i. record { phase = s; remaining = left_none (m.lifespan s) i }

of_led : (m : Machine) (k : Mark) (s : ℕ) (c : PartState) → cell (led m k s c) ≡ cell_led m k s (cell c)
of_led m Restart s c = of_fresh m s
of_led m Keep s c = refl

pub of_input : (m : Machine) (i : ℕ) (c : PartState) → cell (after_input m i c) ≡ cell_input m i (cell c)
of_input m i c = of_led m (m.external c.phase i).mark (m.external c.phase i).next c

pub of_delay : (d : ℕ) (c : PartState) → cell (after_delay d c) ≡ cell_delay d (cell c)
of_delay d c = λ i. record { phase = c.phase; remaining = left_more c.lifespan c.elapsed d i }

pub wait_forth : (l : Span) (e d : ℕ) → Within l (e + d) → lasts d (left l e) ≡ true
wait_forth (Ticks l) e d h = le-leb d (l - e) (omega arith)
wait_forth Unlimited e d h = refl

pub wait_back : (l : Span) (e d : ℕ) → Within l e → lasts d (left l e) ≡ true → Within l (e + d)
wait_back (Ticks l) e d w h = omega (arith, leb-true d (l - e) h)
wait_back Unlimited e d w h = tt

pub due_forth : (l : Span) (e : ℕ) → Spent l e → is_due (left l e) ≡ true
due_forth (Ticks l) e h = eq-eqb (l - e) 0 (omega arith)
due_forth Unlimited e h = absurd h

pub due_back : (l : Span) (e : ℕ) → Within l e → is_due (left l e) ≡ true → Spent l e
due_back (Ticks l) e w h = omega (arith, eqb-true (l - e) 0 h)
due_back Unlimited e w h = absurd (false≢true h)

-- no ticks are within any span
pub none_within : (l : Span) → Within l 0
none_within (Ticks l) = omega arith
none_within Unlimited = tt
