-- Numbers as hexadecimal digits in lower case, and what such digits say.
use Rattle.std.specs.Prelude.{ℕ, zero, suc, ◌+◌, ◌-◌, ◌*◌, ◌/◌, ◌%◌, ◌^◌, nat_lt, if◌then◌else◌, List, [], ◌∷◌, ◌++◌}

-- the digit of a number below 16
unfoldable pub hex_digit : ℕ → ℕ
hex_digit d = if nat_lt d 10 then 48 + d else 87 + d

-- the last digits of a number
unfoldable pub hex_digits : ℕ → ℕ → List ℕ
hex_digits zero n = []
hex_digits (suc count) n = hex_digits count (n / 16) ++ hex_digit (n % 16) ∷ []

-- the number that a digit says
unfoldable pub digit_value : ℕ → ℕ
digit_value b = (if nat_lt b 58 then b - 48 else b - 87) % 16

-- the number that digits behind it say, its last 64 bits
abbrev pub number_after : ℕ → List ℕ → ℕ
number_after n [] = n
number_after n (b ∷ bs) = number_after (n % 2 ^ 60 * 16 + digit_value b) bs
