-- A word read bit by bit.
use Rattle.std.proofs.Common.{inl, inr, ◌⊎◌, ◌≡◌, ℕ, suc, ◌+◌, ◌*◌, ◌^◌, ◌<◌, ◌≤◌, min, Bool, true, false, cond, leb, List, length, get_or, take, drop, Ok, Err, Result, sym, refl, ap, ◌∙◌, arith, drop-drop}
use Rattle.std.proofs.lemmas.List.{drop_more}
use Rattle.std.specs.Int.{from_bool}
use Rattle.std.proofs.lemmas.Bool.{cases_lt, cond-true, cond-false, le-leb, lt-leb}
use Rattle.rules.specs.declared.count.BytesEnd.{BytesEnd}
use Rattle.codes.specs.declared.reader.BitReader.{BitReader}
use Rattle.codes.specs.Reader.{bits_left, word_taken, moved}
use Rattle.rules.specs.Bits.{bit, value_of, bits_of, bits_in}
use Rattle.rules.proofs.Bits.{get_or-bits_in, value_of-take_below}

-- one bit more, below those that stand from the place after it on
pub word_more : (bytes : List ℕ) (at count : ℕ) (b : Bool) → at < length (bits_in bytes) → b ≡ get_or (bits_of bytes) at false
    → value_of (take (suc count) (drop at (bits_in bytes))) ≡ bit b + 2 * value_of (take count (drop (at + 1) (bits_in bytes)))
word_more bytes at count b h e =
    ap (λ l. value_of (take (suc count) l)) (drop_more (bits_in bytes) at false h)
    ∙ ap (λ x. bit x + 2 * value_of (take count (drop (at + 1) (bits_in bytes)))) (get_or-bits_in bytes at h ∙ sym e)

-- a bit as a number
pub bit_of : (b : Bool) → (from_bool b ≡ bit b) × (bit b ≤ 1)
bit_of true = (refl, omega arith)
bit_of false = (refl, omega arith)

-- either way of a taking
taken : (from n : ℕ) (bits : List Bool) → ((n ≤ length bits) × (word_taken from n bits ≡ Ok (value_of (take n bits)))) ⊎ ((length bits < n) × (word_taken from n bits ≡ Err (record { from = from })))
taken from n bits = elim (cases_lt (length bits) n) [
  | inl few ↦ inr (few, cond-false (leb n (length bits)) _ _ (lt-leb n (length bits) few))
  | inr enough ↦ inl (enough, cond-true (leb n (length bits)) _ _ (le-leb n (length bits) enough))
]

pub taken_below : (from n x : ℕ) (bits : List Bool) → word_taken from n bits ≡ Ok x → x < 2 ^ n
taken_below from n x bits e = elim (taken from n bits) [
  | inl t ↦ let is : value_of (take n bits) ≡ x = cc (t.1, e) in omega (arith, value_of-take_below n bits t.0, is)
  | inr t ↦ absurd (cc (t.1, e))
]

pub not_taken : (from n : ℕ) (bits : List Bool) (end : BytesEnd) → word_taken from n bits ≡ Err end → (length bits < n) × (end ≡ record { from = from })
not_taken from n bits end e = elim (taken from n bits) [
  | inl t ↦ absurd (cc (t.1, e))
  | inr t ↦ (t.0, cc (t.1, e))
]

-- what a taking that was answered by a word says of the reader
pub record Took (r r' : BitReader) (n x : ℕ) : Type 0 where
  pub enough : n ≤ length (bits_left r)
  pub value_is : x ≡ value_of (take n (bits_left r))
  pub from_is : r'.from ≡ r.from
  pub place_is : r'.place ≡ r.place + n
  pub left_is : bits_left r' ≡ drop n (bits_left r)

pub took : (r r' : BitReader) (n x : ℕ) (answer : Result ℕ BytesEnd) → n ≤ 64 → answer ≡ word_taken r.from (min n 64) (bits_left r) → r' ≡ moved r (min n 64) → answer ≡ Ok x → Took r r' n x
took r r' n x answer small is after ok =
    let all : min n 64 ≡ n = omega arith in
    let told : word_taken r.from n (bits_left r) ≡ Ok x = ap (λ k. word_taken r.from k (bits_left r)) (sym all) ∙ sym is ∙ ok in
    elim (taken r.from n (bits_left r)) [
      | inl t ↦
          let gone : r' ≡ record { bytes = r.bytes; from = r.from; place = r.place + n } =
          after ∙ ap (moved r) all ∙ ap (λ b. let y : BitReader = record { bytes = r.bytes; from = r.from; place = cond b (r.place + n) r.place } in y) (le-leb n (length (bits_left r)) t.0) in
          record {
            enough = t.0;
            value_is = cc (t.1, told);
            from_is = ap (λ y. y.from) gone;
            place_is = ap (λ y. y.place) gone;
            left_is = ap bits_left gone ∙ sym (drop-drop n r.place (bits_in r.bytes.now));
          }
      | inr t ↦ absurd (cc (t.1, told))
    ]
