use Rattle.std.proofs.Common.{◌≡◌, ◌+◌, ◌<◌, [], ◌∷◌, ◌++◌, length, get_or, take, sym, ap, ◌∙◌, rules, arith}
use Rattle.std.proofs.Output.{has_written_append, has_written_of_eq, has_written_styled_append, has_written_styled_of_eq}
use Rattle.std.proofs.lemmas.List.{flat_map_more, take_more}
use Rattle.text.specs.Hex.{hex_digits, hex_bytes}
use Rattle.text.proofs.hex.HexBytesDisplay.fmt.Goals as goal

pub loop-byte-preserved : goal.loop-byte-preserved
loop-byte-preserved g c =
    let bytes = c.args.self.now.0.now in
    let i = c.loop-byte.byte-index in
    let byte = c.from.result in
    let inside : i < length bytes = search (rules, arith) in
    let is : get_or bytes i 0 ≡ byte = search (rules, arith) in
    let more : hex_bytes (take i bytes) ++ hex_digits 2 byte ≡ hex_bytes (take (i + 1) bytes) =
    flat_map_more (hex_digits 2) [] (take i bytes) byte ∙ ap hex_bytes (sym (take_more bytes i 0 inside ∙ ap (λ b. take i bytes ++ b ∷ []) is)) in (
      (λ plain. has_written_of_eq _ _ _ _ _ more (has_written_append _ _ _ _ _ _ (c.loop-byte.invariant.0 plain) (search rules))),
      (λ flush. has_written_styled_of_eq _ _ _ _ _ more (has_written_styled_append _ _ _ _ _ _ (c.loop-byte.invariant.1 flush) (search rules))),
    )
