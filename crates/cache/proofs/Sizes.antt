-- The sizes of an access, as powers of two.
use Rattle.std.proofs.Common.{◌≡◌, ℕ, zero, suc, ◌≤◌, refl, arith}
use Rattle.std.specs.Int.{is_power_of_two}
use Rattle.rules.specs.Cache.{is_size}

pub power_is_size : (n : ℕ) → n ≤ 8 → is_power_of_two n ≡ is_size n
unfolding lib.Count.ones
power_is_size zero few = refl
power_is_size (suc zero) few = refl
power_is_size (suc (suc zero)) few = refl
power_is_size (suc (suc (suc zero))) few = refl
power_is_size (suc (suc (suc (suc zero)))) few = refl
power_is_size (suc (suc (suc (suc (suc zero))))) few = refl
power_is_size (suc (suc (suc (suc (suc (suc zero)))))) few = refl
power_is_size (suc (suc (suc (suc (suc (suc (suc zero))))))) few = refl
power_is_size (suc (suc (suc (suc (suc (suc (suc (suc zero)))))))) few = refl
power_is_size (suc (suc (suc (suc (suc (suc (suc (suc (suc n))))))))) few = absurd (omega arith)
