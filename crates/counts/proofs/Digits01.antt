-- Bits as 0s and 1s.
use Rattle.std.proofs.Common.{◌≡◌, ℕ, ◌+◌, ◌<◌, ◌≤◌, Bool, true, false, cond, List, [], ◌∷◌, ◌++◌, length, get_or, take, drop, decimal, sym, ap, ◌∙◌, arith, take_all}
use Rattle.std.proofs.lemmas.Fmt.{decimal_digit}
use Rattle.std.proofs.lemmas.List.{drop_more, map_more}
use Rattle.rules.specs.Bits.{value_of}
use Rattle.counts.specs.Report.{bits_text}

one_digit : (rest : List Bool) (b : Bool) → decimal (value_of (take 1 (b ∷ rest))) ≡ cond b 49 48 ∷ []
one_digit rest true = decimal_digit 1 (omega arith)
one_digit rest false = decimal_digit 0 (omega arith)

-- the text of one bit more
pub text_more : (bits : List Bool) (i : ℕ) → i < length bits → bits_text (take i bits) ++ decimal (value_of (take 1 (drop i bits))) ≡ bits_text (take (i + 1) bits)
text_more bits i h =
    let digit : decimal (value_of (take 1 (drop i bits))) ≡ cond (get_or bits i false) 49 48 ∷ [] =
    ap (λ l. decimal (value_of (take 1 l))) (drop_more bits i false h) ∙ one_digit (drop (i + 1) bits) (get_or bits i false) in
    ap (λ l. bits_text (take i bits) ++ l) digit ∙ sym (map_more (λ b. cond b 49 48) bits i false h)

pub text_end : (bits : List Bool) (i n : ℕ) → length bits ≤ i → i ≤ n → bits_text (take i bits) ≡ bits_text (take n bits)
text_end bits i n h l = ap bits_text (take_all i bits h ∙ sym (take_all n bits (omega arith)))
