-- The orders of rows and of stimuli are total, and `cmp` answers by them.
use Rattle.std.specs.Prelude.{◌≡◌, refl}
use Rattle.std.specs.declared.cmp.Ordering.TheVariants.{Less, Equal, Greater}
use Rattle.std.specs.declared.cmp.Ordering.{Ordering}
use Rattle.std.proofs.Common.{sym, ap, ◌∙◌}
use Rattle.std.specs.Ordering.{ordering_reverse, nat_cmp, ordering_then}
use Rattle.std.specs.Cmp.{IsTotalOrder, nat_cmp_total, then_total, on_total}
use Rattle.std.proofs.lemmas.Map.Lookups.{CmpEqualImpliesEq, exact_unsigned, exact_bytes, exact_pairs}
use Rattle.book.specs.Order.{TotalOrder}
use Rattle.book.specs.Records.{byte_order, row_order, key, stimulus_order}
use Rattle.std.specs.Cmp.Lexicographic.{lists_total}
use Rattle.book.specs.declared.row.Row.{Row}
use Rattle.book.specs.declared.stimulus.Stimulus.{Stimulus}
use Rattle.book.specs.contracts.row.RowOrd.TheImpl as row_ord
use Rattle.book.specs.contracts.stimulus.StimulusOrd.TheImpl as stimulus_ord

self_tied : (o : Ordering) → o ≡ ordering_reverse o → o ≡ Equal
self_tied Less e = e ∙ sym e ∙ cc
self_tied Equal e = refl
self_tied Greater e = cc

-- values are in a total order by what a function reads of them, where it tells them apart
total_by : {K J : Type 0} {R : J → J → Ordering} (o : IsTotalOrder R) → CmpEqualImpliesEq R → (f : K → J) →
    ((x y : K) → f x ≡ f y → x ≡ y) → TotalOrder (λ (x y : K). R (f x) (f y))
total_by o exact f one = record {
  same = λ x y e. one x y (exact (f x) (f y) e);
  itself = λ x. self_tied _ (o.antisymm (f x) (f x));
  turned = λ x y. o.antisymm (f x) (f y);
  passes = λ x y z. o.trans (f x) (f y) (f z);
}

pub bytes_total : TotalOrder byte_order
bytes_total = total_by (lists_total nat_cmp_total) exact_bytes (λ x. x) (λ x y e. e)

pub row_total : TotalOrder row_order
row_total = total_by (lists_total nat_cmp_total) exact_bytes (λ x. x.bytes) (λ x y e. ap (λ v. record { bytes = v }) e)

pub stimulus_total : TotalOrder stimulus_order
stimulus_total =
    total_by (then_total (on_total (λ p. p.0) nat_cmp_total) (on_total (λ p. p.1) (then_total (on_total (λ p. p.0) nat_cmp_total) (on_total (λ p. p.1) nat_cmp_total))))
    (exact_pairs nat_cmp (λ x y. ordering_then (nat_cmp x.0 y.0) (nat_cmp x.1 y.1)) exact_unsigned
    (exact_pairs nat_cmp nat_cmp exact_unsigned exact_unsigned))
    key (λ x y e i. record { tick = (e i).0; serial = (e i).1.0; input = (e i).1.1 })

pub row_cmp : (x y : Row) → (row_ord.ghosts).cmp x y ≡ row_order x y
row_cmp x y = refl

pub stimulus_cmp : (x y : Stimulus) → (stimulus_ord.ghosts).cmp x y ≡ stimulus_order x y
stimulus_cmp x y = refl
