-- The fixed code keeps the laws.
use Rattle.std.specs.Prelude.{◌≡◌, ℕ, ◌-◌, ◌^◌, ◌<◌, ◌≤◌, Bool, true, false, List, ◌++◌, length, take, drop, nat_le, refl}
use Rattle.std.proofs.Common.{sym, ap, ap₂, ◌∙◌, arith, length-append, length-take, take-append-drop, pow_pos, pow_mono, length-take-le, take_at}
use Rattle.std.proofs.lemmas.Bool.{cond-true, cond-false, le-leb, lt-leb, leb-true}
use Rattle.rules.specs.Bits.{low_bits, value_of}
use Rattle.rules.specs.Meaning.{number, cut, Begins, Sound}
use Rattle.rules.proofs.Bits.{length-low_bits, low_bits-value_of, value_of-take_below}
use Rattle.codes.specs.Spelled.{word_back}
use Rattle.codes.specs.Fixed.{fixed_reading, fixed_meaning}

whole : (w n : ℕ) → n ≤ 2 ^ w - 1 → (rest : List Bool) → fixed_reading w (low_bits w n ++ rest) ≡ number n (length (low_bits w n))
whole w n h rest =
    let long = length-low_bits w n in
    let enough : w ≤ length (low_bits w n ++ rest) = omega (arith, length-append (low_bits w n) rest) in
    let value = ap value_of (take_at (low_bits w n) rest w long) ∙ word_back w n (omega (arith, pow_pos w)) in
    cond-true (nat_le w (length (low_bits w n ++ rest))) _ _ (le-leb w _ enough) ∙ ap₂ number value (sym long)

cuts : (w n k : ℕ) → k < length (low_bits w n) → fixed_reading w (take k (low_bits w n)) ≡ cut
cuts w n k h =
    let few : length (take k (low_bits w n)) < w = omega (arith, length-take k (low_bits w n), length-low_bits w n) in
    cond-false (nat_le w (length (take k (low_bits w n)))) _ _ (lt-leb w _ few)

begins : (w : ℕ) (bs : List Bool) (n used : ℕ) → fixed_reading w bs ≡ number n used → Begins (fixed_meaning w) bs n used
begins w bs n used e = go (nat_le w (length bs)) refl
  where
    go : (b : Bool) → nat_le w (length bs) ≡ b → Begins (fixed_meaning w) bs n used
    go false no_more = let z : ◌≡◌ {A = ℕ} 0 1 = cc in absurd (omega arith)
    go true enough =
        let within = leb-true w (length bs) enough in
        let long = length-take-le w bs within in
        let same : number (value_of (take w bs)) w ≡ number n used = sym (cond-true (nat_le w (length bs)) _ _ enough) ∙ e in
        let value : value_of (take w bs) ≡ n = cc in
        let size : w ≡ used = cc in
        let spelt : low_bits w n ≡ take w bs = ap (low_bits w) (sym value) ∙ ap (λ k. low_bits k (value_of (take w bs))) (sym long) ∙ low_bits-value_of (take w bs) in
        record {
          in_range = omega (arith, value_of-take_below w bs within, value);
          length_is = sym size ∙ sym (length-low_bits w n);
          rest = drop w bs;
          split = sym (take-append-drop w bs) ∙ ap (λ l. l ++ drop w bs) (sym spelt);
        }

pub fixed_sound : (w : ℕ) → 4 ≤ w → w ≤ 32 → Sound (fixed_meaning w)
fixed_sound w lw mw = record {
  least = omega (arith, pow_mono {i = 4} {j = w} lw);
  most = omega (arith, pow_mono {i = w} {j = 32} mw);
  three = refl;
  bytes = (omega arith, (omega arith, (omega arith, tt)));
  short = λ n _. omega (arith, length-low_bits w n);
  whole = whole w;
  cuts = λ n _ k h. cuts w n k h;
  begins = begins w;
}
