-- Records put into a list one after another, the last first.
use Rattle.std.proofs.Common.{◌≡◌, ℕ, List, [], ◌∷◌, ◌++◌, reverse, Ok, Err, sym, ap, ◌∙◌}
use Rattle.std.proofs.lemmas.List.{reverse-append}
use Rattle.fddevs.specs.declared.refusal.Refusal.{Refusal}
use Rattle.book.specs.declared.row.Row.{Row}
use Rattle.book.specs.declared.keeping.Put.{Put}
use Rattle.book.specs.Records.{row_order}
use Rattle.book.specs.Putting.{Answer, answer, list_after, count_after, Puts}
use Rattle.rewriting.specs.Again.{put_then, keep_all}

pub last_first : (xs ys : List Row) (x : Row) → xs ≡ ys ++ x ∷ [] → reverse xs ≡ x ∷ reverse ys
last_first xs ys x e = ap reverse e ∙ reverse-append ys (x ∷ [])

-- a record was put: what is left to keep gives the same
pub goes_on : (x : Row) (rest list : List Row) (n : ℕ) (r : Answer) (ys : List Row) (m : ℕ) (p : Put) →
    Puts row_order x list n r ys m → r ≡ Ok p → keep_all (x ∷ rest) list n ≡ keep_all rest ys m
goes_on x rest list n r ys m p puts e =
    ap (λ (o : Answer). put_then o (keep_all rest (list_after row_order x list n) (count_after (answer row_order x list n) n))) (sym puts.answered ∙ e)
    ∙ ap (λ (o : Answer). keep_all rest (list_after row_order x list n) (count_after o n)) (sym puts.answered)
    ∙ ap (λ l. keep_all rest l (count_after r n)) (sym puts.listed)
    ∙ ap (λ k. keep_all rest ys k) (sym puts.counted)

-- a record was refused
pub is_refused : (x : Row) (rest list : List Row) (n : ℕ) (r : Answer) (ys : List Row) (m : ℕ) (e : Refusal) →
    Puts row_order x list n r ys m → r ≡ Err e → keep_all (x ∷ rest) list n ≡ Err e
is_refused x rest list n r ys m e puts q =
    ap (λ (o : Answer). put_then o (keep_all rest (list_after row_order x list n) (count_after (answer row_order x list n) n))) (sym puts.answered ∙ q)
