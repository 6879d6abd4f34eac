-- A proof file is accepted exactly when it keeps the rules.
use Rattle.std.proofs.Common.{◌≡◌, ℕ, ◌+◌, ◌*◌, ◌/◌, ◌%◌, ◌<◌, ◌≤◌, cond, eqb, leb, List, [], ◌∷◌, ◌++◌, length, get_or, drop, Ok, Err, Result, sym, refl, ap, ◌∙◌, subst, ap₂, arith}
use Rattle.std.proofs.lemmas.List.FromFn.{length-map-range_with_len}
use Rattle.std.proofs.lemmas.Bool.{cond_both, eqb-true, eq-eqb, leb-true, le-leb, and_parts}
use Rattle.fddevs.specs.declared.refusal.Layer.TheVariants.{Proof}
use Rattle.fddevs.specs.declared.refusal.Refusal.{Refusal}
use Rattle.fddevs.specs.declared.refusal.Refusal.TheVariants.{NotWhole, Version, Kind}
use Rattle.fddevs.specs.Machine.{Family, WithinLimits, bounded}
use Rattle.fddevs.specs.Scheme.{Wiring, scheme}
use Rattle.fddevs.specs.Vetting.{Vetted, vetted, unless}
use Rattle.set_file.specs.Layout.{big_endian, said_length}
use Rattle.set_file.specs.Reading.{whole}
use Rattle.set_file.proofs.Body.{said_head}
use Rattle.set_file.proofs.Seeking.{then_passed, unless_passed}
use Rattle.proof_rules.specs.declared.evidence.Evidence.{Evidence}
use Rattle.proof_rules.specs.declared.evidence.Evidence.TheVariants.{Set, Witness}
use Rattle.proof_rules.specs.Files.{Bytes, proof_file, rows_bytes, steps_bytes}
use Rattle.proof_rules.specs.Judging.{set_vetting, witness_vetting, judged_as, unless_refused, head_vetting, judgement}
use Rattle.proof_rules.specs.Laws.{JudgedByTheRules}
use Rattle.proof_rules.specs.Rules.{Bars, KeepsSetRules, KeepsWitnessRules}
use Rattle.proof_rules.proofs.Sets.{set_to, set_from}
use Rattle.proof_rules.proofs.Walks.{witness_to, witness_from}

never : {A : Type 0} {x : Evidence} {e : Refusal} → ◌≡◌ {A = Result Evidence Refusal} (Err e) (Ok x) → A
never h = let z : ◌≡◌ {A = ℕ} 0 1 = cc in absurd (omega arith)

passed : (v : Vetted) (r : Result Evidence Refusal) (x : Evidence) → unless_refused v r ≡ Ok x → (v ≡ Ok tt) × (r ≡ Ok x)
passed (Ok _) r x h = (refl, h)
passed (Err e) r x h = never h

taken_as : (v : Vetted) (y x : Evidence) → vetted v y ≡ Ok x → (v ≡ Ok tt) × (y ≡ x)
taken_as (Ok _) y x h = let e : y ≡ x = cc in (refl, e)
taken_as (Err e) y x h = never h

abbrev kind_byte : Evidence → ℕ
kind_byte Set = 1
kind_byte Witness = 2

-- the finding that decides for a kind
abbrev finding : Evidence → Vetted → Vetted → Vetted
finding Set a b = a
finding Witness a b = b

judged_to : (kind : ℕ) (a b : Vetted) (x : Evidence) → judged_as kind a b ≡ Ok x → (kind ≡ kind_byte x) × (finding x a b ≡ Ok tt)
judged_to kind a b x =
    cond_both (eqb kind 1) (vetted a Set) (cond (eqb kind 2) (vetted b Witness) (Err (Kind Proof)))
    (λ r. r ≡ Ok x → (kind ≡ kind_byte x) × (finding x a b ≡ Ok tt))
    (λ e h. let t = taken_as a Set x h in
    subst (λ y. (kind ≡ kind_byte y) × (finding y a b ≡ Ok tt)) t.1 (eqb-true kind 1 e, t.0))
    (λ _. cond_both (eqb kind 2) (vetted b Witness) (Err (Kind Proof))
    (λ r. r ≡ Ok x → (kind ≡ kind_byte x) × (finding x a b ≡ Ok tt))
    (λ e h. let t = taken_as b Witness x h in
    subst (λ y. (kind ≡ kind_byte y) × (finding y a b ≡ Ok tt)) t.1 (eqb-true kind 2 e, t.0))
    (λ _ h. never h))

-- the head
four_written : (v k a b c d : ℕ) (rest : List ℕ) → a < 256 → b < 256 → c < 256 → d < 256 →
    big_endian (said_length (v ∷ k ∷ a ∷ b ∷ c ∷ d ∷ rest)) ≡ a ∷ b ∷ c ∷ d ∷ []
four_written v k a b c d rest ha hb hc hd =
    let n = a * 16777216 + b * 65536 + c * 256 + d in
    let x : (n / 16777216) % 256 ≡ a = omega arith in
    let y : (n / 65536) % 256 ≡ b = omega arith in
    let z : (n / 256) % 256 ≡ c = omega arith in
    let w : n % 256 ≡ d = omega arith in
    rw (x, y, z, w)

head_to : (file : List ℕ) → Bytes file → head_vetting file ≡ Ok tt →
    (file ≡ proof_file (get_or file 1 0) (drop 6 file)) × Bytes (drop 6 file)
head_to file bytes h =
    let p = then_passed (unless (whole file) (NotWhole Proof)) (unless (eqb (get_or file 0 0) 1) (Version Proof)) h in
    let q = and_parts (leb 6 (length file)) _ (unless_passed (whole file) (NotWhole Proof) p.0) in
    go file bytes (leb-true 6 (length file) q.0) (eqb-true (6 + said_length file) (length file) q.1)
    (eqb-true (get_or file 0 0) 1 (unless_passed _ (Version Proof) p.1))
  where
    go : (file : List ℕ) → Bytes file → 6 ≤ length file → 6 + said_length file ≡ length file → get_or file 0 0 ≡ 1 →
        (file ≡ proof_file (get_or file 1 0) (drop 6 file)) × Bytes (drop 6 file)
    go [] b l e v = absurd (omega arith)
    go (u ∷ []) b l e v = absurd (omega arith)
    go (u ∷ k ∷ []) b l e v = absurd (omega arith)
    go (u ∷ k ∷ w ∷ []) b l e v = absurd (omega arith)
    go (u ∷ k ∷ w ∷ x ∷ []) b l e v = absurd (omega arith)
    go (u ∷ k ∷ w ∷ x ∷ y ∷ []) b l e v = absurd (omega arith)
    go (u ∷ k ∷ w ∷ x ∷ y ∷ z ∷ body) b l e v =
        let t = b.1.1 in
        let same : said_length (u ∷ k ∷ w ∷ x ∷ y ∷ z ∷ body) ≡ length body = omega arith in
        let four = ap big_endian (sym same) ∙ four_written u k w x y z body t.0 t.1.0 t.1.1.0 t.1.1.1.0 in
        (ap₂ (λ (i : ℕ) (j : List ℕ). i ∷ k ∷ (j ++ body)) v (sym four), t.1.1.1.1)

head_from : (kind : ℕ) (body : List ℕ) → length body ≤ 4194304 → head_vetting (proof_file kind body) ≡ Ok tt
head_from kind body h =
    let file = proof_file kind body in
    let said : said_length file ≡ length body = said_head (length body) body (omega arith) in
    let long : 6 + said_length file ≡ length file = omega arith in
    rw (le-leb 6 (length file) (omega arith), eq-eqb (6 + said_length file) (length file) long)

module _ (F : Family) (limits : WithinLimits F) (W : Wiring) (bars : Bars) where
  parts_count : length (scheme F W).parts ≡ F.count
  parts_count = length-map-range_with_len (λ p. bounded (F.part p)) 0 F.count

  -- a file that is taken for something is a proof file of that kind, and its body passes
  file_to : (file : List ℕ) → Bytes file → (x : Evidence) → judgement F W bars file ≡ Ok x →
      (file ≡ proof_file (kind_byte x) (drop 6 file)) × Bytes (drop 6 file)
      × (finding x (set_vetting (scheme F W) bars F.count (drop 6 file)) (witness_vetting (scheme F W) bars (drop 6 file)) ≡ Ok tt)
  file_to file bytes x h =
      let p = passed (head_vetting file) _ x h in
      let q = head_to file bytes p.0 in
      let r = judged_to (get_or file 1 0) _ _ x p.1 in
      (q.0 ∙ ap (λ k. proof_file k (drop 6 file)) r.0, q.1, r.1)

  set_rules : (file : List ℕ) → Bytes file → judgement F W bars file ≡ Ok Set → KeepsSetRules F W bars file
  set_rules file bytes h =
      let p = file_to file bytes Set h in
      let s = set_to (scheme F W) bars F.count limits.some (drop 6 file) p.1 p.2 in
      record {
        rows = s.rows;
        written = p.0 ∙ ap (proof_file 1) (sym s.written);
        limit = subst (λ (b : List ℕ). length b ≤ 4194304) (sym s.written) s.limit;
        some = s.some;
        exist = s.exist;
        ascending = s.ascending;
        closed = s.closed;
      }

  witness_rules : (file : List ℕ) → Bytes file → judgement F W bars file ≡ Ok Witness → KeepsWitnessRules F W bars file
  witness_rules file bytes h =
      let p = file_to file bytes Witness h in
      let q = witness_to (scheme F W) bars (drop 6 file) p.1 p.2 in
      let s = q.0 in
      record {
        steps = s.steps;
        written = p.0 ∙ ap (proof_file 2) (sym s.written);
        limit = subst (λ (b : List ℕ). length b ≤ 4194304) (sym s.written) q.1;
        end = s.end;
        run = s.run;
        ends_barred = s.ends_barred;
      }

  rules_set : (file : List ℕ) → KeepsSetRules F W bars file → judgement F W bars file ≡ Ok Set
  rules_set file k =
      let body = rows_bytes k.rows in
      let ok = set_from (scheme F W) bars F.count limits.some body parts_count (record {
        rows = k.rows;
        written = refl;
        limit = k.limit;
        some = k.some;
        exist = k.exist;
        ascending = k.ascending;
        closed = k.closed;
      }) in
      ap (judgement F W bars) k.written
      ∙ ap (λ v. unless_refused v (vetted (set_vetting (scheme F W) bars F.count body) Set)) (head_from 1 body k.limit)
      ∙ ap (λ v. vetted v Set) ok

  rules_witness : (file : List ℕ) → KeepsWitnessRules F W bars file → judgement F W bars file ≡ Ok Witness
  rules_witness file k =
      let body = steps_bytes k.steps in
      let ok = witness_from (scheme F W) bars k.steps k.end k.run k.ends_barred k.limit in
      ap (judgement F W bars) k.written
      ∙ ap (λ v. unless_refused v (vetted (witness_vetting (scheme F W) bars body) Witness)) (head_from 2 body k.limit)
      ∙ ap (λ v. vetted v Witness) ok

pub judged_by_the_rules : JudgedByTheRules
judged_by_the_rules F limits W bars file bytes = record {
  sets = (set_rules F limits W bars file bytes, rules_set F limits W bars file);
  witnesses = (witness_rules F limits W bars file bytes, rules_witness F limits W bars file);
}
