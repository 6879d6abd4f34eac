-- Which refusal is given.
use Rattle.std.proofs.Common.{◌≡◌, ℕ, ◌<◌, ◌≤◌, Bool, true, false, cond, eqb, ◌⊎◌, List, length, is_ok, Some, None, Ok, Err, Option, Result, sym, refl, ap, ◌∙◌, subst, inl, inr, ⊎_elim, arith, lit≤}
use Rattle.std.proofs.lemmas.Bool.{both_ways, cases_lt}
use Rattle.fddevs.specs.declared.refusal.Layer.TheVariants.{Wiring as in_wiring}
use Rattle.fddevs.specs.declared.refusal.Refusal.{Refusal}
use Rattle.fddevs.specs.declared.refusal.Refusal.TheVariants.{NotWhole, Version, WiringCounts, WireOrder, WireTwice, WireNames}
use Rattle.fddevs.specs.Machine.{Family}
use Rattle.fddevs.specs.Refusals.{number_of, place_of}
use Rattle.fddevs.specs.Scheme.{Wiring}
use Rattle.fddevs.specs.Vetting.{Vetted, then, unless, seek, found}
use Rattle.fddevs.proofs.Vetting.{then_ok, tested}
use Rattle.wiring.specs.File.{held, is_whole, is_version_one, is_within}
use Rattle.wiring.specs.Laws.{Fault, not_whole, other_version, beyond_limits, broken, Smallest, RefusesSmallest}
use Rattle.wiring.specs.Reading.{keeps, breach, kept, head_vetting, wires_vetting, vetting, accepted, reading}
use Rattle.wiring.specs.declared.rule.Rule.{Rule}
use Rattle.wiring.specs.declared.rule.Rule.TheVariants.{Order, Apart, Names}
use Rattle.wiring.proofs.Accepted.{accepted_ok}
use Rattle.wiring.proofs.Kept.{some_first, kept_each, head_passed, vetted}

-- a refusal comes from the first finding, or from the second where the first found nothing
then_err : (a b : Vetted) (e : Refusal) → then a b ≡ Err e → (a ≡ Err e) ⊎ ((is_ok a ≡ true) × (b ≡ Err e))
then_err (Ok x) b e h = inr (refl, h)
then_err (Err x) b e h = inl h

unless_err : (t : Bool) (r e : Refusal) → unless t r ≡ Err e → (t ≡ false) × (r ≡ e)
unless_err true r e h = let z : ◌≡◌ {A = ℕ} 0 1 = cc in absurd (omega arith)
unless_err false r e h = (refl, cc)

found_err : (r : ℕ → Refusal) (o : Option ℕ) (e : Refusal) → found r o ≡ Err e → (k : ℕ) × ((o ≡ Some k) × (r k ≡ e))
found_err r None e h = let z : ◌≡◌ {A = ℕ} 0 1 = cc in absurd (omega arith)
found_err r (Some k) e h = (k, (refl, cc))

accepted_err : (v : Vetted) (W : Wiring) (e : Refusal) → accepted v W ≡ Err e → v ≡ Err e
accepted_err (Ok x) W e h = let z : ◌≡◌ {A = ℕ} 0 1 = cc in absurd (omega arith)
accepted_err (Err x) W e h = let z : x ≡ e = cc in ap Err z

-- the number of a rule's breach
abbrev rank : Rule → ℕ
rank Order = 6
rank Apart = 7
rank Names = 8

rule_number : (r : Rule) (k : ℕ) → number_of (breach r k) ≡ rank r
rule_number Order k = refl
rule_number Apart k = refl
rule_number Names k = refl

rule_place : (r : Rule) (k : ℕ) → place_of (breach r k) ≡ k
rule_place Order k = refl
rule_place Apart k = refl
rule_place Names k = refl

rule_late : (r : Rule) → 6 ≤ rank r
rule_late Order = lit≤ tt
rule_late Apart = lit≤ tt
rule_late Names = lit≤ tt

same_rule : (r s : Rule) → rank r ≡ rank s → r ≡ s
same_rule Order Order e = refl
same_rule Order Apart e = absurd (omega arith)
same_rule Order Names e = absurd (omega arith)
same_rule Apart Order e = absurd (omega arith)
same_rule Apart Apart e = refl
same_rule Apart Names e = absurd (omega arith)
same_rule Names Order e = absurd (omega arith)
same_rule Names Apart e = absurd (omega arith)
same_rule Names Names e = refl

module _ (F : Family) (f : List ℕ) where
  abbrev Each : Rule → Type 0
  Each r = (k : ℕ) → k < length (held f).wires → keeps r F (held f) k ≡ true

  -- the tests with a smaller number than n found nothing
  record Clear (n : ℕ) : Type 0 where
    pub whole : 1 < n → is_whole f ≡ true
    pub version : 2 < n → is_version_one f ≡ true
    pub within : 4 < n → is_within f ≡ true
    pub rule : (r : Rule) → rank r < n → Each r

  stays : (n m : ℕ) → (n < m → ⊥) → m ≤ n
  stays n m h = ⊎_elim (λ l. absurd (h l)) (λ g. g) (cases_lt n m)

  at_least : (n : ℕ) → Clear n → (o : Refusal) → Fault F f o → n ≤ number_of o
  at_least n c _ (not_whole h) = stays 1 n (λ l. both_ways _ h (c.whole l))
  at_least n c _ (other_version h) = stays 2 n (λ l. both_ways _ h (c.version l))
  at_least n c _ (beyond_limits h) = stays 4 n (λ l. both_ways _ h (c.within l))
  at_least n c _ (broken r k l h) =
      let e = rule_number r k in
      let g = stays (rank r) n (λ b. both_ways _ h (c.rule r b k l)) in
      omega arith

  -- the first wire that breaks a rule
  earliest_wire : (r : Rule) (k : ℕ) → ((j : ℕ) → j < k → keeps r F (held f) j ≡ true) → (o : Refusal) → Fault F f o →
      number_of o ≡ number_of (breach r k) → place_of (breach r k) ≤ place_of o
  earliest_wire r k all _ (not_whole h) e = absurd (omega (arith, rule_number r k, rule_late r))
  earliest_wire r k all _ (other_version h) e = absurd (omega (arith, rule_number r k, rule_late r))
  earliest_wire r k all _ (beyond_limits h) e = absurd (omega (arith, rule_number r k, rule_late r))
  earliest_wire r k all _ (broken s j l h) e =
      let same : s ≡ r = same_rule s r (sym (rule_number s j) ∙ e ∙ rule_number r k) in
      let g : keeps r F (held f) j ≡ false = subst (λ q. keeps q F (held f) j ≡ false) same h in
      let p : k ≤ j = stays j k (λ b. both_ways _ g (all j b)) in
      omega (arith, rule_place r k, rule_place s j)

  head_smallest : (n : ℕ) (e : Refusal) → number_of e ≡ n → place_of e ≡ 0 → Clear n → Fault F f e → Smallest F f e
  head_smallest n e p z c g = record {
    fault = g;
    smallest = λ o x. omega (arith, at_least n c o x);
    earliest = λ o x q. omega arith;
  }

  rule_smallest : (r : Rule) (e : Refusal) → Clear (rank r) → kept r F (held f) ≡ Err e → Smallest F f e
  rule_smallest r e c h =
      let p = found_err (breach r) (seek (keeps r F (held f)) 0 (length (held f).wires)) e h in
      let k = p.0 in
      let x = some_first (keeps r F (held f)) (length (held f).wires) 0 k p.1.0 in
      subst (λ q. Smallest F f q) p.1.1 (record {
        fault = broken r k (omega (arith, x.below)) x.fails;
        smallest = λ o y. omega (arith, rule_number r k, at_least (rank r) c o y);
        earliest = earliest_wire r k (λ j b. x.ahead j (omega arith) b);
      })

  no_rule : (n : ℕ) → n ≤ 6 → (r : Rule) → rank r < n → Each r
  no_rule n h r l = absurd (omega (arith, rule_late r))

  from_head : (e : Refusal) → head_vetting f ≡ Err e → Smallest F f e
  from_head e h =
      ⊎_elim
      (λ a.
      let p = unless_err (is_whole f) (NotWhole in_wiring) e a in
      subst (λ q. Smallest F f q) p.1 (head_smallest 1 _ refl refl (record {
        whole = λ l. absurd (omega arith);
        version = λ l. absurd (omega arith);
        within = λ l. absurd (omega arith);
        rule = no_rule 1 (lit≤ tt);
      }) (not_whole p.0)))
      (λ a.
      let w : is_whole f ≡ true = tested _ _ a.0 in
      ⊎_elim
      (λ b.
      let p = unless_err (is_version_one f) (Version in_wiring) e b in
      subst (λ q. Smallest F f q) p.1 (head_smallest 2 _ refl refl (record {
        whole = λ _. w;
        version = λ l. absurd (omega arith);
        within = λ l. absurd (omega arith);
        rule = no_rule 2 (lit≤ tt);
      }) (other_version p.0)))
      (λ b.
      let p = unless_err (is_within f) WiringCounts e b.1 in
      subst (λ q. Smallest F f q) p.1 (head_smallest 4 _ refl refl (record {
        whole = λ _. w;
        version = λ _. tested _ _ b.0;
        within = λ l. absurd (omega arith);
        rule = no_rule 4 (lit≤ tt);
      }) (beyond_limits p.0)))
      (then_err (unless (is_version_one f) (Version in_wiring)) (unless (is_within f) WiringCounts) e a.1))
      (then_err (unless (is_whole f) (NotWhole in_wiring)) _ e h)

  rules_before_apart : Each Order → (r : Rule) → rank r < 7 → Each r
  rules_before_apart o Order l = o
  rules_before_apart o Apart l = absurd (omega arith)
  rules_before_apart o Names l = absurd (omega arith)

  rules_before_names : Each Order → Each Apart → (r : Rule) → rank r < 8 → Each r
  rules_before_names o a Order l = o
  rules_before_names o a Apart l = a
  rules_before_names o a Names l = absurd (omega arith)

  module _ (ok : is_ok (head_vetting f) ≡ true) where
    past_head : (n : ℕ) → ((r : Rule) → rank r < n → Each r) → Clear n
    past_head n h =
        let p = head_passed f ok in
        record { whole = λ _. p.0; version = λ _. p.1; within = λ _. p.2; rule = h }

    from_wires : (e : Refusal) → wires_vetting F (held f) ≡ Err e → Smallest F f e
    from_wires e h =
        ⊎_elim (rule_smallest Order e (past_head 6 (no_rule 6 (lit≤ tt))))
        (λ a.
        let o = kept_each Order F (held f) a.0 in
        ⊎_elim (rule_smallest Apart e (past_head 7 (rules_before_apart o)))
        (λ b.
        rule_smallest Names e (past_head 8 (rules_before_names o (kept_each Apart F (held f) b.0))) b.1)
        (then_err (kept Apart F (held f)) (kept Names F (held f)) e a.1))
        (then_err (kept Order F (held f)) _ e h)

forth : (F : Family) (f : List ℕ) (e : Refusal) → reading F f ≡ Err e → Smallest F f e
forth F f e h =
    ⊎_elim (from_head F f e) (λ a. from_wires F f a.0 e a.1)
    (then_err (head_vetting f) (wires_vetting F (held f)) e (accepted_err (vetting F f) (held f) e h))

-- the refusal of a fault, by its number and its place
abbrev named : ℕ → ℕ → Refusal
named n k =
    cond (eqb n 1) (NotWhole in_wiring)
    (cond (eqb n 2) (Version in_wiring)
    (cond (eqb n 4) WiringCounts (cond (eqb n 6) (WireOrder k) (cond (eqb n 7) (WireTwice k) (WireNames k)))))

module _ (F : Family) (f : List ℕ) where
  fault_named : (o : Refusal) → Fault F f o → o ≡ named (number_of o) (place_of o)
  fault_named _ (not_whole h) = refl
  fault_named _ (other_version h) = refl
  fault_named _ (beyond_limits h) = refl
  fault_named _ (broken Order k l h) = refl
  fault_named _ (broken Apart k l h) = refl
  fault_named _ (broken Names k l h) = refl

  fault_few : (o : Refusal) → Fault F f o → number_of o ≤ 8
  fault_few _ (not_whole h) = lit≤ tt
  fault_few _ (other_version h) = lit≤ tt
  fault_few _ (beyond_limits h) = lit≤ tt
  fault_few _ (broken Order k l h) = lit≤ tt
  fault_few _ (broken Apart k l h) = lit≤ tt
  fault_few _ (broken Names k l h) = lit≤ tt

  no_fault : is_ok (vetting F f) ≡ true → (o : Refusal) → Fault F f o → ⊥
  no_fault ok o h =
      let a = then_ok (head_vetting f) (wires_vetting F (held f)) ok in
      omega (arith, fault_few o h, at_least F f 9 (past_head F f a.0 9 (λ r _. kept_each r F (held f) (vetted F (held f) a.1 r))) o h)

  told : (r : Result Wiring Refusal) (e : Refusal) → reading F f ≡ r → Smallest F f e → r ≡ Err e
  told (Ok W) e p s = absurd (no_fault (accepted_ok (vetting F f) (held f) W p).0 e s.fault)
  told (Err x) e p s =
      let t = forth F f x p in
      let a : number_of x ≡ number_of e =
      omega (arith, t.smallest e s.fault, s.smallest x t.fault) in
      let b : place_of x ≡ place_of e =
      omega (arith, t.earliest e s.fault (sym a), s.earliest x t.fault a) in
      let c = fault_named x t.fault in
      let d = fault_named e s.fault in
      ap Err (c ∙ ap (λ n. named n (place_of x)) a ∙ ap (named (number_of e)) b ∙ sym d)

pub refuses_smallest : RefusesSmallest
refuses_smallest F f e = (forth F f e, told F f (reading F f) e refl)
