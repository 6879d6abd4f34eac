-- A delay of d ticks is d delays of one tick.
use Rattle.std.proofs.Common.{◌≡◌, ℕ, zero, suc, ◌+◌, ◌≤◌, List, [], ◌∷◌, map, replicate, sym, refl, ◌∙◌, subst, ap₂, add-zero, arith}
use Rattle.std.specs.List.{AllByRecursion}
use Rattle.fddevs.specs.declared.part.Span.{Span}
use Rattle.fddevs.specs.declared.part.Span.TheVariants.{Ticks, Unlimited}
use Rattle.fddevs.specs.declared.scheme.Move.{Move}
use Rattle.fddevs.specs.declared.scheme.Move.TheVariants.{Delay}
use Rattle.fddevs.specs.Part.{Within, CanDelay, after_delay}
use Rattle.fddevs.specs.Scheme.{Scheme, State, Step, elapses, Run, stop, step}
use Rattle.fddevs.specs.Laws.{InTime, DelaysSplit}
use Rattle.fddevs.proofs.Steps.{map_in_time}

pub first : {S : Scheme} {s u : State} {a : Move} {ms : List Move} → Run S s (a ∷ ms) u →
    (t : State) × Step S s a t × Run S t ms u
first (step {t = t} h r) = (t, h, r)

pub ended : {S : Scheme} {s u : State} → Run S s [] u → u ≡ s
ended stop = refl

pub delayed : {S : Scheme} {s : State} {d : ℕ} {t : State} → Step S s (Delay d) t →
    (1 ≤ d) × AllByRecursion (CanDelay d) s × (t ≡ map (after_delay d) s)
delayed (elapses d h k) = (h, k, refl)

less : (l : Span) (e a b : ℕ) → a ≤ b → Within l (e + b) → Within l (e + a)
less (Ticks l) e a b h w = omega arith
less Unlimited e a b h w = tt

-- delays add up
one_more : (e d : ℕ) → e + 1 + d ≡ e + suc d
one_more e d = omega arith

delay_none : (s : State) → map (after_delay 0) s ≡ s
delay_none [] = refl
delay_none (c ∷ cs) =
    ap₂ ◌∷◌ (λ i. record { phase = c.phase; lifespan = c.lifespan; elapsed = add-zero c.elapsed i }) (delay_none cs)

pub delay_more : (d : ℕ) (s : State) → map (after_delay d) (map (after_delay 1) s) ≡ map (after_delay (suc d)) s
delay_more d [] = refl
delay_more d (c ∷ cs) =
    ap₂ ◌∷◌ (λ i. record { phase = c.phase; lifespan = c.lifespan; elapsed = one_more c.elapsed d i })
    (delay_more d cs)

can_one : (d : ℕ) (s : State) → AllByRecursion (CanDelay (suc d)) s → AllByRecursion (CanDelay 1) s
can_one d [] h = tt
can_one d (c ∷ cs) h = (less c.lifespan c.elapsed 1 (suc d) (omega arith) h.0, can_one d cs h.1)

can_rest : (d : ℕ) (s : State) → AllByRecursion (CanDelay (suc d)) s → AllByRecursion (CanDelay d) (map (after_delay 1) s)
can_rest d [] h = tt
can_rest d (c ∷ cs) h = (subst (Within c.lifespan) (sym (one_more c.elapsed d)) h.0, can_rest d cs h.1)

can_more : (d : ℕ) (s : State) → AllByRecursion (CanDelay d) (map (after_delay 1) s) → AllByRecursion (CanDelay (suc d)) s
can_more d [] h = tt
can_more d (c ∷ cs) h = (subst (Within c.lifespan) (one_more c.elapsed d) h.0, can_more d cs h.1)

can_none : (s : State) → InTime s → AllByRecursion (CanDelay 0) s
can_none [] w = tt
can_none (c ∷ cs) w = (subst (Within c.lifespan) (sym (add-zero c.elapsed)) w.0, can_none cs w.1)

pub split : (S : Scheme) (d : ℕ) (s : State) → AllByRecursion (CanDelay d) s → Run S s (replicate d (Delay 1)) (map (after_delay d) s)
split S zero s h = subst (Run S s []) (sym (delay_none s)) stop
split S (suc d) s h =
    subst (Run S s (Delay 1 ∷ replicate d (Delay 1))) (delay_more d s)
    (step (elapses 1 (omega arith) (can_one d s h)) (split S d (map (after_delay 1) s) (can_rest d s h)))

join : (S : Scheme) (d : ℕ) (s t : State) → InTime s → Run S s (replicate d (Delay 1)) t →
    AllByRecursion (CanDelay d) s × (t ≡ map (after_delay d) s)
join S zero s t w r = (can_none s w, ended r ∙ sym (delay_none s))
join S (suc d) s t w r =
    let f = first r in
    let h = delayed f.1 in
    let r' = subst (λ (u : State). Run S u (replicate d (Delay 1)) t) h.2 f.2 in
    let j = join S d (map (after_delay 1) s) t (map_in_time 1 s h.1) r' in
    (can_more d s j.0, j.1 ∙ delay_more d s)

join_one : (S : Scheme) (d : ℕ) (s t : State) → Run S s (replicate (suc d) (Delay 1)) t → Step S s (Delay (suc d)) t
join_one S d s t r =
    let f = first r in
    let h = delayed f.1 in
    let r' = subst (λ (u : State). Run S u (replicate d (Delay 1)) t) h.2 f.2 in
    let j = join S d (map (after_delay 1) s) t (map_in_time 1 s h.1) r' in
    subst (Step S s (Delay (suc d))) (sym (j.1 ∙ delay_more d s)) (elapses (suc d) (omega arith) (can_more d s j.0))

pub delays_split : DelaysSplit
delays_split S s t d h = (there, here d h)
  where
    there : Step S s (Delay d) t → Run S s (replicate d (Delay 1)) t
    there k =
        let e = delayed k in
        subst (Run S s (replicate d (Delay 1))) (sym e.2) (split S d s e.1)

    here : (d : ℕ) → 1 ≤ d → Run S s (replicate d (Delay 1)) t → Step S s (Delay d) t
    here zero h r = absurd (omega arith)
    here (suc d) h r = join_one S d s t r
