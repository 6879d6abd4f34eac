-- A file whose head is in order is judged by its body.
use Rattle.std.proofs.Common.{◌≡◌, true, List, ℕ, get_or, drop, sym, ◌∙◌, ap₂}
use Rattle.std.proofs.lemmas.Bool.{eq-eqb}
use Rattle.fddevs.specs.declared.refusal.Layer.TheVariants.{Proof}
use Rattle.fddevs.specs.declared.refusal.Refusal.TheVariants.{NotWhole, Version}
use Rattle.fddevs.specs.Machine.{Family}
use Rattle.fddevs.specs.Scheme.{Wiring, scheme}
use Rattle.fddevs.specs.Vetting.{then, unless}
use Rattle.set_file.specs.Head.{IsHeadOf}
use Rattle.set_file.specs.Reading.{whole}
use Rattle.set_file.specs.declared.layout.Head.{Head}
use Rattle.proof_rules.specs.Judging.{set_vetting, witness_vetting, judged_as, unless_refused, judgement}
use Rattle.proof_rules.specs.Rules.{Bars}

module _ (F : Family) (W : Wiring) (bars : Bars) (file : List ℕ) (head : Head) where
  pub headed : IsHeadOf file head → true ≡ whole file → head.version ≡ 1 →
      judged_as head.kind (set_vetting (scheme F W) bars F.count head.body.now) (witness_vetting (scheme F W) bars head.body.now)
      ≡ judgement F W bars file
  headed h is_whole one =
      let body = λ (k : ℕ) (b : List ℕ). judged_as k (set_vetting (scheme F W) bars F.count b) (witness_vetting (scheme F W) bars b) in
      ap₂ body h.kind h.body
      ∙ sym
      (ap₂ (λ v w. unless_refused (then (unless v (NotWhole Proof)) (unless w (Version Proof))) (body (get_or file 1 0) (drop 6 file)))
      (sym is_whole) (eq-eqb (get_or file 0 0) 1 (sym h.version ∙ one)))
