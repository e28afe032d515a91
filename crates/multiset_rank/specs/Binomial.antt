-- Binomial coefficients, by Pascal's rule. Knuth, The Art of Computer Programming, volume 1, 1.2.6.
use Rattle.std.specs.Prelude.{ℕ, zero, suc, ◌+◌}

-- in how many ways k of n things are chosen
unfoldable pub choose : ℕ → ℕ → ℕ
choose n zero = 1
choose zero (suc k) = 0
choose (suc n) (suc k) = choose n k + choose n (suc k)
