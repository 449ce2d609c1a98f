use Rattle.std.proofs.Common.{◌-◌, ◌*◌, ◌/◌, ◌%◌, ◌^◌, [], ◌∷◌, ◌++◌, ap, ◌∙◌, rules, arith}
use Rattle.std.proofs.Output.{has_written_append, has_written_of_eq, has_written_styled_append, has_written_styled_of_eq}
use Rattle.std.proofs.lemmas.Str.{encode_ascii}
use Rattle.text.specs.Hex.{digit_char}
use Rattle.text.proofs.Digits.{digits_more, nibble_char}
use Rattle.text.proofs.hex.DigitsDisplay.fmt.Goals as goal

pub loop-place-preserved : goal.loop-place-preserved
loop-place-preserved g c =
    let value = c.args.self.now.value in
    let k = c.loop-place.place - 1 in
    let digit = digit_char (value / 2 ^ (4 * k) % 16) in
    let so_far = c.loop-place.invariant in
    let added = ap (λ bs. so_far.0 ++ bs) (encode_ascii digit (nibble_char value k)) in (
      so_far.0 ++ digit ∷ [],
      digits_more so_far.0 c.loop-place.place k value (omega (arith, c.loop-place-test.true)) ∙ so_far.1,
      (λ plain. has_written_of_eq _ _ _ _ _ added (has_written_append _ _ _ _ _ _ (so_far.2 plain) (search rules))),
      (λ flush. has_written_styled_of_eq _ _ _ _ _ added (has_written_styled_append _ _ _ _ _ _ (so_far.3 flush) (search rules))),
    )
