-- What a malformed line should have had, in plain words. Assumes nothing.
use Rattle.std.specs.Prelude.{ℕ, List, codes}
use Rattle.session.specs.declared.command.Malformed.{Malformed}
use Rattle.session.specs.declared.command.Malformed.TheVariants.{Command, NothingMore, Setting, Source, HexPair, Part, Move, PartCount, Condition, OneOfEach, BankFirst, Memory}

abbrev pub expected_text : Malformed → List ℕ
expected_text Command = codes "expected timers, scheme, sheet, follow, rows, wire, bar, offer, verdict or show"
expected_text NothingMore = codes "expected nothing more on this line"
expected_text Setting = codes "expected timer settings OPERATE/HOLD in decimal, as 20/5"
expected_text Source = codes "expected the path of a file, or hex and byte pairs"
expected_text HexPair = codes "expected pairs of hexadecimal digits, as 01 FF"
expected_text Part = codes "expected a part number, from 0 to 255, and a colon"
expected_text Move = codes "expected moves separated by commas: input K, delay D or inner"
expected_text PartCount = codes "expected a number of parts, from 0 to 255, and a set file"
expected_text Condition = codes "expected conditions PART:PHASE, each number from 0 to 255, as 0:2 1:3"
expected_text OneOfEach = codes "expected at most one timers line and one scheme line"
expected_text BankFirst = codes "expected the timers and scheme lines before all others"
expected_text Memory = codes "out of memory"
