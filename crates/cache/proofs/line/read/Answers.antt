use Rattle.std.proofs.Common.{◌≡◌, ℕ, List, ◌++◌, length, take, drop, replicate, ap, ap₂, ◌∙◌, arith, length-append, length-drop}
use Rattle.rules.specs.Bytes.{number_of, stretch}
use Rattle.rules.proofs.Bytes.{length-stretch}
use Rattle.cache.proofs.Words.{eight_read, number_of-padded}
use Rattle.cache.proofs.line.read.Goals as goal

pub returns : goal.returns
returns c =
    let from = c.args.part.from in
    let size = c.args.part.size in
    let bytes = c.args.line.now.bytes in
    let copied : c.copy_from_slice.new.self ≡ stretch from size bytes = c.copy_from_slice.ensures.after ∙ ap₂ (λ n f. take n (drop f bytes)) (omega (arith, c.range.ensures.start, c.range.ensures.end)) c.range.ensures.start in
    let zeros : List ℕ = replicate 8 0 in
    let long : length (c.copy_from_slice.new.self ++ drop size zeros) ≡ 8 = omega (arith, length-append c.copy_from_slice.new.self (drop size zeros), length-drop size zeros, ap length copied, length-stretch from size bytes (omega (arith, c.args.part.inside)), c.args.part.few) in
    c.from_le_bytes.ensures ∙ eight_read _ long ∙ number_of-padded c.copy_from_slice.new.self size 8 ∙ ap number_of copied
