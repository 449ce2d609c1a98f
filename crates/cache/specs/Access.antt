-- Proper accesses and settings, or none.
use Rattle.std.specs.Prelude.{ℕ, Some, None, Option, if◌then◌else◌}
use Rattle.rules.specs.Cache.{is_proper, are_settings}
use Rattle.rules.specs.declared.cache.Settings.{Settings}

-- address and size
abbrev pub proper_access : ℕ → ℕ → ℕ → Option (ℕ × ℕ)
proper_access memory address size = if is_proper memory address size then Some (address, size) else None

abbrev pub proper_settings : Settings → Option Settings
proper_settings k = if are_settings k then Some k else None
