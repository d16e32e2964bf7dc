-- Numbers of a text: decimal, up to 65,535, without leading zeros.
use Rattle.std.specs.Prelude.{ℕ, ◌+◌, ◌*◌, ◌-◌, Bool, true, false, cond, not, ◌&&◌, leb, ◌==◌, List, [], ◌∷◌, fold, Option, Some, None}
use Rattle.std.specs.List.{list_all}
use Rattle.std.specs.Char.{is_ascii_digit}

-- the digits `0` to `9` are the bytes 48 to 57
abbrev pub digit_zero : ℕ
digit_zero = 48

-- digits and nothing else
abbrev pub all_digits : List ℕ → Bool
all_digits text = list_all is_ascii_digit text

-- one byte or more, and of more than one the first is no `0`
abbrev pub well_begun : List ℕ → Bool
well_begun [] = false
well_begun (byte ∷ []) = true
well_begun (byte ∷ next ∷ text) = not (byte == digit_zero)

-- ten times what the digits before are worth, and the digit
abbrev pub shifted : ℕ → ℕ → ℕ
shifted value byte = value * 10 + (byte - digit_zero)

-- what digits are worth
abbrev pub value_of : List ℕ → ℕ
value_of text = fold shifted 0 text

-- what a text of digits is worth, up to 65,535
unfoldable pub digits_value : List ℕ → Option ℕ
digits_value text = cond (all_digits text && leb (value_of text) 65535) (Some (value_of text)) None

-- the number that a text is, if it is one
unfoldable pub number_of : List ℕ → Option ℕ
number_of text = cond (well_begun text) (digits_value text) None
