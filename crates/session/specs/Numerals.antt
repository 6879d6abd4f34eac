-- Numbers in text, by the ASCII codes of their digits. Assumes nothing.
use Rattle.std.specs.Prelude.{ℕ, ◌+◌, ◌-◌, ◌*◌, ◌^◌, Bool, cond, ◌&&◌, List, [], ◌∷◌, Some, None, fold, Option, nat_le, nat_lt}

abbrev between : ℕ → ℕ → ℕ → Bool
between a b x = nat_le a x && nat_le x b

-- 0 to 9
abbrev pub digit_of : ℕ → Option ℕ
digit_of b = cond (between 48 57 b) (Some (b - 48)) None

-- the number below 2^64 that has one digit more
abbrev appended : ℕ → Option ℕ → Option ℕ
appended n None = None
appended n (Some d) = cond (nat_lt (n * 10 + d) (2 ^ 64)) (Some (n * 10 + d)) None

abbrev pub more : Option ℕ → ℕ → Option ℕ
more None b = None
more (Some n) b = appended n (digit_of b)

-- a decimal number has at least one digit
abbrev pub decimal : List ℕ → Option ℕ
decimal [] = None
decimal (b ∷ bs) = fold more (Some 0) (b ∷ bs)

-- 0 to 9, A to F, a to f
abbrev pub hex_digit : ℕ → Option ℕ
hex_digit b =
    cond (between 48 57 b) (Some (b - 48))
    (cond (between 65 70 b) (Some (b - 65 + 10)) (cond (between 97 102 b) (Some (b - 97 + 10)) None))

abbrev pair : Option ℕ → Option ℕ → Option ℕ
pair None low = None
pair (Some h) None = None
pair (Some h) (Some l) = Some (h * 16 + l)

abbrev pub hex_pair : List ℕ → Option ℕ
hex_pair [] = None
hex_pair (a ∷ []) = None
hex_pair (a ∷ b ∷ []) = pair (hex_digit a) (hex_digit b)
hex_pair (a ∷ b ∷ c ∷ cs) = None
