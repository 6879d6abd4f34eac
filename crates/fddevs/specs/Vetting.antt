-- How files and settings are vetted: one finding for each number, the smallest number first. Assumes nothing.
use Rattle.std.specs.Prelude.{◌≡◌, ℕ, zero, suc, ◌+◌, ◌≤◌, Bool, true, cond, ◌&&◌, Some, None, Ok, Err, Option, Result}
use Rattle.fddevs.specs.declared.refusal.Refusal.{Refusal}
use Rattle.fddevs.specs.Refusals.{number_of, place_of}

abbrev pub Vetted : Type 0
Vetted = Result (Unit {0}) Refusal

-- a later finding counts only where the earlier ones found nothing
abbrev pub then : Vetted → Vetted → Vetted
then (Ok _) v = v
then (Err e) v = Err e

-- a value, unless the vetting refused
abbrev pub vetted : {A : Type 0} → Vetted → A → Result A Refusal
vetted (Ok _) x = Ok x
vetted (Err e) x = Err e

-- refused where the test fails
abbrev pub unless : Bool → Refusal → Vetted
unless b e = cond b (Ok tt) (Err e)

-- the first k, of the n numbers from a on, that fails the test
abbrev pub seek : (ℕ → Bool) → ℕ → ℕ → Option ℕ
seek t a zero = None
seek t a (suc n) = cond (t a) (seek t (a + 1) n) (Some a)

-- the first place at fault is the place of the refusal
abbrev pub found : (ℕ → Refusal) → Option ℕ → Vetted
found refusal None = Ok tt
found refusal (Some k) = Err (refusal k)

-- the test holds of every number below n
abbrev pub all_below : (ℕ → Bool) → ℕ → Bool
all_below t zero = true
all_below t (suc n) = t n && all_below t n

-- e does not come after o: it has a smaller number, or the same number and no later place
pub record NotAfter (e o : Refusal) : Type 0 where
  pub smallest : number_of e ≤ number_of o
  pub earliest : number_of o ≡ number_of e → place_of e ≤ place_of o

-- A vetting tells of the faults there are: it accepts where there is none, and else refuses for one that has the smallest
-- number, and of that number the first place.
pub record Tells (Fault : Refusal → Type 0) (v : Vetted) : Type 0 where
  pub accepts : v ≡ Ok tt → (o : Refusal) → Fault o → ⊥
  pub refuses : (e : Refusal) → v ≡ Err e → Fault e × ((o : Refusal) → Fault o → NotAfter e o)
