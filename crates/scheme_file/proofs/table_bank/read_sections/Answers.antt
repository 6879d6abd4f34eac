use Rattle.std.proofs.Common.{◌≡◌, ℕ, ◌+◌, ap, ◌∙◌, arith}
use Rattle.std.proofs.lemmas.List.FromFn.{map-range_with_len_more}
use Rattle.scheme_file.specs.File.{section_at, section_of}
use Rattle.scheme_file.specs.Heads.{head_more, not_short}
use Rattle.scheme_file.specs.Sound.{sound, room}
use Rattle.scheme_file.proofs.table_bank.read_sections.Goals as goal

pub overflow_add-at : goal.overflow_add-at
overflow_add-at c = let r = room c.args.file.now c.requires _ c.loop-k.at c.loop-k.invariant.0 (omega arith) in omega arith

pub section-requires : goal.section-requires
section-requires c =
    let r = room c.args.file.now c.requires _ c.loop-k.at c.loop-k.invariant.0 (omega arith) in
    omega arith

pub two-requires : goal.two-requires
two-requires c =
    let r = room c.args.file.now c.requires _ c.loop-k.at c.loop-k.invariant.0 (omega arith) in
    omega arith

pub overflow_add-at-in-loop-k-2 : goal.overflow_add-at-in-loop-k-2
overflow_add-at-in-loop-k-2 c =
    let r = room c.args.file.now c.requires _ c.loop-k.at c.loop-k.invariant.0 (omega arith) in
    omega (arith, c.two.ensures)

pub loop-k-preserved : goal.loop-k-preserved
loop-k-preserved c =
    let f = c.args.file.now in
    let l = c.loop-k in
    let new : c.section.result ≡ section_at f l._k =
    c.section.ensures ∙ ap (λ (h : ℕ). section_of f (h + 2)) l.invariant.0 in
    let more = map-range_with_len_more (section_at f) 0 l._k l._k (omega arith) in
    let pushed = c.in_ok-push.ensures.items in
    (omega (arith, head_more f l._k l.at l.invariant.0, c.two.ensures, c.from.ensures), cc)
