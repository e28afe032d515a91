-- Numbers by signed digits: digits -1, 0 and 1 in base 2. G. W. Reitwiesner, Binary arithmetic, 1960.
use Rattle.std.specs.Prelude.{◌≡◌, ℕ, ◌+◌, ◌-◌, ◌*◌, ◌%◌}
use Rattle.word_circuits.specs.declared.products.Digit.{Digit}
use Rattle.word_circuits.specs.declared.products.Digit.TheVariants as digit

-- a number is twice another and a digit
abbrev pub IsDigitOf : ℕ → Digit → ℕ → Type 0
IsDigitOf n digit.Zero left = n ≡ 2 * left
IsDigitOf n digit.One left = n ≡ 2 * left + 1
IsDigitOf n digit.MinusOne left = n + 1 ≡ 2 * left

-- a number below m with a digit's multiple of another added, modulo m
abbrev pub with_digit : Digit → ℕ → ℕ → ℕ → ℕ
with_digit digit.Zero m s t = s
with_digit digit.One m s t = (s + t) % m
with_digit digit.MinusOne m s t = (s + (m - t)) % m
