-- What a line of a session is read as. Assumes nothing.
use Rattle.std.specs.Prelude.{◌≡◌, ℕ, Bool, true, false, List, [], ◌∷◌, take, drop, Some, None, Ok, Err, codes, Option, Result, ◌==◌}
use Rattle.std.specs.Str.{NoCharPasses, EmptyOrStartsWithPassing, EmptyOrEndsWithPassing}
use Rattle.std.specs.Char.{is_not_whitespace}
use Rattle.std.specs.List.{before_first}
use Rattle.session.specs.declared.command.Malformed.{Malformed}
use Rattle.session.specs.declared.command.Command.{Command}
use Rattle.session.specs.declared.command.Command.TheVariants.{Timers, Scheme, Sheet, Follow, Rows, Wire, Bar, Offer, Verdict, Show}

-- t is the line without the white space before and behind it
abbrev pub Trimmed : List ℕ → List ℕ → Type 0
Trimmed line t =
    (m : ℕ) × (n : ℕ) × (t ≡ take n (drop m line)) × NoCharPasses is_not_whitespace (take m line) × NoCharPasses is_not_whitespace (drop n (drop m line))
    × ((rest : List ℕ) × EmptyOrStartsWithPassing is_not_whitespace t rest) × EmptyOrEndsWithPassing is_not_whitespace t

-- nothing, or a comment: what begins with #
abbrev pub idle : List ℕ → Bool
idle [] = true
idle (b ∷ bs) = b == 35

-- what stands before the first space
abbrev pub first_word : List ℕ → List ℕ
first_word bs = before_first (λ b. b == 32) bs

-- the word with which a command begins
abbrev pub word_of : Command → List ℕ
word_of (Timers _) = codes "timers"
word_of (Scheme _) = codes "scheme"
word_of Sheet = codes "sheet"
word_of (Follow _ _) = codes "follow"
word_of (Rows _ _) = codes "rows"
word_of (Wire _) = codes "wire"
word_of (Bar _) = codes "bar"
word_of (Offer _) = codes "offer"
word_of Verdict = codes "verdict"
word_of Show = codes "show"

-- a text of a line is no command exactly where it is idle, and a command only by its first word
abbrev pub Reads : List ℕ → Result (Option Command) Malformed → Type 0
Reads t (Ok None) = idle t ≡ true
Reads t (Ok (Some c)) = (idle t ≡ false) × (word_of c ≡ first_word t)
Reads t (Err e) = idle t ≡ false
