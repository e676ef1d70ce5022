-- Powers of two in order have exponents in order.
use Rattle.std.proofs.Common.{ℕ, ◌^◌, ◌<◌, ◌≤◌, lt_of_lt_of_le, lt_irrefl, lt_of_not-le, pow_mono}

pub pow_lt_back : (i j : ℕ) → 2 ^ i < 2 ^ j → i < j
pow_lt_back i j h = lt_of_not-le (λ (g : j ≤ i). lt_irrefl (2 ^ i) (lt_of_lt_of_le h (pow_mono g)))
