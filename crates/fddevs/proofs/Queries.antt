-- What the answers of a bank tell of its family.
use Rattle.std.proofs.Common.{◌≡◌, ℕ, Bool, true, false, ◌&&◌, ltb, Some, refl, arith}
use Rattle.std.proofs.lemmas.Bool.{and_parts, and_from, ltb-true, lt-ltb}
use Rattle.fddevs.specs.declared.part.External.{External}
use Rattle.fddevs.specs.Machine.{Family, WithinLimits, when, has_phase, external_at}

pub when_some : {A : Type 0} (b : Bool) (x y : A) → Some x ≡ when b y → (b ≡ true) × (x ≡ y)
when_some true x y e = (refl, cc)
when_some false x y e = let w : ◌≡◌ {A = ℕ} 0 1 = cc in absurd (omega arith)

-- the part has the phase and the input, and the answer is the family's
pub record Asked (F : Family) (p s i : ℕ) (x : External) : Type 0 where
  pub has_it : has_phase F p s ≡ true
  pub has_input : ltb i (F.part p).counts.inputs ≡ true
  pub same : x ≡ (F.part p).external s i
  pub leads : has_phase F p x.next ≡ true

pub external_asked : (F : Family) → WithinLimits F → (p s i : ℕ) (x : External) → Some x ≡ external_at F p s i → Asked F p s i x
external_asked F w p s i x e =
    let a = when_some (has_phase F p s && ltb i (F.part p).counts.inputs) x ((F.part p).external s i) e in
    let b = and_parts _ _ a.0 in
    let h = and_parts _ _ b.0 in
    let y = a.1 in
    record {
      has_it = b.0;
      has_input = b.1;
      same = y;
      leads = rw y
          (and_from _ _ h.0
          (lt-ltb _ _ (((w.part p (ltb-true _ _ h.0)).phase s (ltb-true _ _ h.1)).external_exists i (ltb-true _ _ b.1))));
    }
