use Rattle.std.proofs.Common.{◌≡◌, ◌^◌, ◌<◌, drop}
use Rattle.text.specs.Hex.{digits_after}
use Rattle.text.proofs.hex.number.Given as goal

abbrev pub invariant-loop-c : goal.invariant-loop-c
invariant-loop-c l = (digits_after l.value (drop l.c-index l.word) ≡ digits_after 0 l.word) × (l.value < 16 ^ l.c-index)
