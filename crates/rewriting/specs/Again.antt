-- Records kept in a book, and the set of the book written. Assumes nothing.
use Rattle.std.specs.Prelude.{ℕ, List, [], ◌∷◌, take, Ok, Err, Result}
use Rattle.fddevs.specs.Vetting.{Vetted}
use Rattle.fddevs.specs.declared.refusal.Refusal.{Refusal}
use Rattle.book.specs.declared.row.Row.{Row}
use Rattle.book.specs.Records.{row_order}
use Rattle.book.specs.Putting.{Answer, answer, list_after, count_after}
use Rattle.set_file.specs.Writing.{written, left, ReadBack}

-- a list and the count of its records, or the refusal
abbrev pub Keeping : Type 0
Keeping = Result (List Row × ℕ) Refusal

-- what an answer says, with the list and the count that are left
abbrev pub kept_in : Vetted → List Row → ℕ → Keeping
kept_in (Ok _) list n = Ok (list, n)
kept_in (Err e) list n = Err e

-- where a record was put, the others follow
abbrev pub put_then : Answer → Keeping → Keeping
put_then (Ok _) rest = rest
put_then (Err e) rest = Err e

-- the records put one after another into a list of n records
abbrev pub keep_all : List Row → List Row → ℕ → Keeping
keep_all [] list n = Ok (list, n)
keep_all (x ∷ rest) list n =
    put_then (answer row_order x list n)
    (keep_all rest (list_after row_order x list n) (count_after (answer row_order x list n) n))

-- the records of the book are written: the answer, and what the output then is
abbrev pub written_again : ℕ → Keeping → ℕ → Result ℕ Refusal
written_again n (Ok kept) size = written n (take kept.1 kept.0) size
written_again n (Err e) size = Err e

abbrev pub left_again : ℕ → Keeping → List ℕ → List ℕ
left_again n (Ok kept) out = left n (take kept.1 kept.0) out
left_again n (Err e) out = out

-- where a length was answered, the bytes of that length are read as exactly the records of the book
abbrev pub ReadAgain : ℕ → Keeping → Result ℕ Refusal → List ℕ → Type 0
ReadAgain n (Ok kept) r out = ReadBack n (take kept.1 kept.0) r out
ReadAgain n (Err e) r out = Unit {0}
