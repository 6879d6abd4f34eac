-- What remains is at most 65,534 ticks, so that bytes can write it.
use Rattle.std.proofs.Common.{◌≡◌, ℕ, ◌<◌, eqb, ltb, refl, sym, subst, ⊎_elim, arith}
use Rattle.std.proofs.lemmas.Bool.{cases_Bool, eqb-false, ne_eqb, ltb-true}
use Rattle.fddevs.specs.declared.part.Cell.{Cell}
use Rattle.fddevs.specs.declared.part.Span.{Span}
use Rattle.fddevs.specs.declared.part.Span.TheVariants.{Ticks, Unlimited}
use Rattle.fddevs.specs.Machine.{Family, Short, WithinLimits}
use Rattle.fddevs.specs.Part.{left}
use Rattle.fddevs.specs.Rows.{cell_fresh, cell_delay}
use Rattle.fddevs.specs.Bytes.{span_of, ticks_of}
use Rattle.stepping.specs.Stepping.{machine}

pub short_read : (v : ℕ) → v < 65536 → Short (span_of v)
short_read v h =
    ⊎_elim (λ y. rw y tt) (λ y. let n = eqb-false v 65535 y in rw y (omega arith)) (cases_Bool (eqb v 65535))

-- a short span is written by its ticks
pub span_ticks : (s : Span) → Short s → span_of (ticks_of s) ≡ s
span_ticks (Ticks n) h = rw (ne_eqb n 65535 (λ e. omega arith))
span_ticks Unlimited h = refl

left_short : (s : Span) (d : ℕ) → Short s → Short (left s d)
left_short (Ticks n) d h = omega arith
left_short Unlimited d h = tt

same_short : (c d : Cell) → c ≡ d → Short d.remaining → Short c.remaining
same_short c d e h = let P : Cell → Type 0 = λ x. Short x.remaining in subst P (sym e) h

-- a cell after a delay, and fresh in a phase
pub short_delayed : (d : ℕ) (old new : Cell) → new ≡ cell_delay d old → Short old.remaining → Short new.remaining
short_delayed d old new e l = same_short new (cell_delay d old) e (left_short old.remaining d l)

module _ (F : Family) (w : WithinLimits F) (p : ℕ) (h : p < F.count) where
  lifespan_short : (s : ℕ) → Short ((machine F p).lifespan s)
  lifespan_short s =
      ⊎_elim (λ y. rw y ((w.part p h).phase s (ltb-true s (F.part p).counts.phases y)).short) (λ y. rw y tt)
      (cases_Bool (ltb s (F.part p).counts.phases))

  pub short_fresh : (s : ℕ) (new : Cell) → new ≡ cell_fresh (machine F p) s → Short new.remaining
  short_fresh s new e = same_short new (cell_fresh (machine F p) s) e (lifespan_short s)
