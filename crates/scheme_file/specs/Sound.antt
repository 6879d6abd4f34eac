-- What is known of a file that was vetted, and that its parts are within the limits.
use Rattle.std.specs.Prelude.{◌≡◌, ℕ, ◌+◌, ◌<◌, ◌≤◌, true, List, length, is_ok, Some, nat_lt, refl}
use Rattle.std.proofs.Common.{arith}
use Rattle.std.proofs.lemmas.Bool.{and_parts, eqb-true, leb-true, ltb-true, cond_both}
use Rattle.fddevs.specs.Machine.{Short, Exists, PartWithin, WithinLimits}
use Rattle.fddevs.specs.Vetting.{unless}
use Rattle.fddevs.specs.declared.part.Output.{Output}
use Rattle.fddevs.specs.declared.part.Output.TheVariants.{Silent, Sends}
use Rattle.fddevs.specs.declared.part.Span.TheVariants.{Ticks, Unlimited}
use Rattle.fddevs.specs.declared.refusal.Layer.TheVariants.{Scheme}
use Rattle.fddevs.specs.declared.refusal.Refusal.TheVariants.{NotWhole, Version, PartCount}
use Rattle.fddevs.proofs.Queries.{when_some}
use Rattle.fddevs.proofs.Vetting.{then_ok, found_none, tested, none_first, true_below, strides}
use Rattle.scheme_file.specs.Bank.{section_in}
use Rattle.fddevs.specs.Bytes.{two_at}
use Rattle.scheme_file.specs.File.{head, part_count, section_at, record_at, record_of, record_size, lifespan_of, section_machine, file_family}
use Rattle.scheme_file.specs.Vetting.{vetting, whole, version_fits, count_fits, sections_pass, refusal, passes, counts_fit, right_length, output_exists, external_exists, record_exists, section_exists}
use Rattle.scheme_file.specs.declared.section.Section.{Section}
use Rattle.scheme_file.specs.declared.section.Test.TheVariants.{Length, Limits, Names}
use Rattle.scheme_file.specs.Heads.{inside}

pub record Sound (f : List ℕ) : Type 0 where
  pub is_whole : whole f ≡ true
  pub some : 1 ≤ part_count f
  pub few : part_count f ≤ 16
  pub right : (k : ℕ) → k < part_count f → right_length f (head f k) ≡ true
  pub fit : (k : ℕ) → k < part_count f → counts_fit (section_at f k) ≡ true
  pub exist : (k : ℕ) → k < part_count f → section_exists f (section_at f k) ≡ true

pub sound : (f : List ℕ) → is_ok (vetting f) ≡ true → Sound f
sound f e =
    let a = then_ok (unless (whole f) (NotWhole Scheme)) _ e in
    let b = then_ok (unless (version_fits f) (Version Scheme)) _ a.1 in
    let c = then_ok (sections_pass Length f) _ b.1 in
    let d = then_ok (unless (count_fits f) PartCount) _ c.1 in
    let g = then_ok (sections_pass Limits f) (sections_pass Names f) d.1 in
    let n = and_parts _ _ (tested (count_fits f) PartCount d.0) in
    record {
      is_whole = tested (whole f) (NotWhole Scheme) a.0;
      some = leb-true _ _ n.0;
      few = leb-true _ _ n.1;
      right = none_first (λ k. passes Length f (head f k)) _ (found_none (refusal Length) _ c.0);
      fit = none_first (λ k. passes Limits f (head f k)) _ (found_none (refusal Limits) _ g.0);
      exist = none_first (λ k. passes Names f (head f k)) _ (found_none (refusal Names) _ g.1);
    }

module _ (f : List ℕ) (ok : Sound f) where
  section_inside : (k : ℕ) → k < part_count f → record_at (section_at f k) (section_at f k).counts.phases ≤ length f
  section_inside k h = omega (arith, inside f ok.is_whole k (head f k) refl h, eqb-true _ _ (ok.right k h))

  pub record_inside : (k s : ℕ) → k < part_count f → s < (section_at f k).counts.phases →
      record_at (section_at f k) s + record_size (section_at f k).counts ≤ length f
  record_inside k s h l =
      omega (arith, section_inside k h, strides (record_size (section_at f k).counts) s (section_at f k).counts.phases l)

-- the section whose length stands at byte h lies in the file
pub record Room (f : List ℕ) (h : ℕ) : Type 0 where
  pub counts_there : h + 6 ≤ length f
  pub all_there : h + 2 + two_at f h ≤ length f

pub room : (f : List ℕ) → is_ok (vetting f) ≡ true → (k h : ℕ) → h ≡ head f k → k < part_count f → Room f h
room f v k h e l =
    let ok = sound f v in
    let a = inside f ok.is_whole k h e l in
    let b : right_length f h ≡ true = rw e (ok.right k l) in
    record { counts_there = omega (arith, eqb-true _ _ b); all_there = a }

short : (n : ℕ) → Short (lifespan_of n)
short n = cond_both (nat_lt n 65535) (Ticks n) Unlimited Short (λ e. omega (arith, ltb-true n 65535 e)) (λ _. tt)

named : (n : ℕ) (o : Output) → output_exists n o ≡ true → Exists n o
named n Silent e = tt
named n (Sends o) e = ltb-true o n e

part_within : (f : List ℕ) (x : Section) → counts_fit x ≡ true → section_exists f x ≡ true → PartWithin (section_machine f x)
part_within f x w e =
    let a = and_parts _ _ w in
    let b = and_parts _ _ a.1 in
    let c = and_parts _ _ b.1 in
    let n = and_parts _ _ e in
    record {
      counts = record {
        some_phase = leb-true _ _ a.0;
        few_phases = leb-true _ _ b.0;
        few_inputs = leb-true _ _ c.0;
        few_outputs = leb-true _ _ c.1;
      };
      start_exists = ltb-true _ _ n.0;
      phase = λ s l.
          let r = and_parts _ _ (true_below (λ s. record_exists x (record_of f x s)) x.counts.phases n.1 s l) in
          let p = and_parts _ _ r.0 in
          record {
            short = short (two_at (record_of f x s) 0);
            next_exists = ltb-true _ _ p.0;
            output_exists = named x.counts.outputs _ p.1;
            external_exists = λ i h.
                ltb-true _ _ (and_parts _ _ (true_below (external_exists x (record_of f x s)) x.counts.inputs r.1 i h)).0;
          };
    }

pub file_within : (f : List ℕ) → Sound f → WithinLimits (file_family f)
file_within f ok =
    record { some = ok.some; few = ok.few; part = λ p h. part_within f (section_at f p) (ok.fit p h) (ok.exist p h) }

-- the record of a phase, of a section that a look-up gave
pub found_record : (f : List ℕ) (p s : ℕ) (x : Section) → Sound f → Some x ≡ section_in f p → s < x.counts.phases →
    record_at x s + record_size x.counts ≤ length f
found_record f p s x ok e h =
    let w = when_some (nat_lt p (part_count f)) x (section_at f p) e in
    let y = w.1 in
    rw y (record_inside f ok p s (ltb-true _ _ w.0) (rw y at h))
