use Rattle.std.proofs.Common.{◌≡◌, ◌<◌, length, arith, rules, ap, ◌∙◌}
use Rattle.std.specs.Int.Digits.{number_from_digits}
use Rattle.std.proofs.ByRecursion.{All-from_get_or}
use Rattle.book.proofs.Words.{word_number}
use Rattle.book.proofs.bytes.number.Goals as goal

pub returns : goal.returns
returns c =
    let bytes = c.args.bytes.now in
    let now = c.copy_from_slice.ensures.after in
    let long : length c.copy_from_slice.new.self ≡ length bytes = ap length now in
    record {
      value = word_number _ _ c.copy_from_slice.new.self (omega arith) (omega arith) _ c.from_be_bytes.ensures ∙ ap (number_from_digits 256) now;
      small = All-from_get_or (λ d. d < 256) bytes 0 (λ i _. (let f = c.type_inv.bytes i in search rules));
    }
