-- One count of those that are listed.
use Rattle.std.proofs.Common.{◌≡◌, ℕ, ◌+◌, ◌-◌, ◌<◌, List, [], ◌∷◌, ◌++◌, length, get_or, take, drop, Ok, Err, Result, sym, refl, ap, ◌∙◌, subst, ap₂, append_assoc, arith, take_at}
use Rattle.std.proofs.lemmas.List.{drop_more}
use Rattle.rules.specs.Bits.{bits_in}
use Rattle.rules.specs.Calls.{answer_of, read_answer}
use Rattle.rules.specs.Meaning.{Meaning, Reading, number, cut, bad, Sound}
use Rattle.rules.specs.declared.count.CountFault.{CountFault}
use Rattle.rules.specs.declared.count.Counted.{Counted}
use Rattle.codes.specs.Series.{ReadBack}
use Rattle.counts.specs.Output.{count_lines, read_lines}
use Rattle.counts.specs.Report.{bits_between, count_line, read_line}

ok≢err : (x : Counted) (f : CountFault) → ◌≡◌ {A = Result Counted CountFault} (Err f) (Ok x) → ⊥
ok≢err x f e = let z : ◌≡◌ {A = ℕ} 0 1 = cc in omega arith

pub ok_same : (x y : Counted) → ◌≡◌ {A = Result Counted CountFault} (Ok x) (Ok y) → x ≡ y
ok_same x y e = cc

-- a number that is read stands there
pub record Seen (m : Meaning) (place n next : ℕ) (bytes : List ℕ) : Type 0 where
  pub next_is : next ≡ place + length (m.bits n)
  pub bits_are : bits_between place next bytes ≡ m.bits n

seen : (m : Meaning) → Sound m → (place : ℕ) (bytes : List ℕ) (n next : ℕ) → read_answer m place bytes ≡ Ok (record { number = n; next = next }) → Seen m place n next bytes
seen m sound place bytes n next e = go (m.reading (drop place (bits_in bytes))) refl
  where
    go : (r : Reading) → m.reading (drop place (bits_in bytes)) ≡ r → Seen m place n next bytes
    go cut is = absurd (ok≢err _ _ (sym (ap (answer_of place) is) ∙ e))
    go bad is = absurd (ok≢err _ _ (sym (ap (answer_of place) is) ∙ e))
    go (number k used) is =
        let same = ok_same _ _ (sym (ap (answer_of place) is) ∙ e) in
        let value : k ≡ n = ap (λ x. x.number) same in
        let far : place + used ≡ next = ap (λ x. x.next) same in
        let b = sound.begins (drop place (bits_in bytes)) k used is in
        let size : used ≡ length (m.bits n) = b.length_is ∙ ap (λ x. length (m.bits x)) value in
        let span : next - place ≡ length (m.bits n) = omega arith in
        record {
          next_is = omega arith;
          bits_are = ap₂ take span (b.split ∙ ap (λ x. m.bits x ++ b.rest) value) ∙ take_at (m.bits n) b.rest (length (m.bits n)) refl;
        }

-- the counts from an index on are read from a place on
abbrev pub Back : Meaning → List ℕ → ℕ → List ℕ → Type 0
Back m ns place bytes = (end : ℕ) × ReadBack m ns place end bytes

pub record Next (m : Meaning) (ns : List ℕ) (i place : ℕ) (bytes : List ℕ) : Type 0 where
  pub next : ℕ
  pub answer : read_answer m place bytes ≡ Ok (record { number = get_or ns i 0; next = next })
  pub stands : Seen m place (get_or ns i 0) next bytes
  pub back : Back m (drop (i + 1) ns) next bytes

pub next_count : (m : Meaning) → Sound m → (ns : List ℕ) (i place : ℕ) (bytes : List ℕ) → i < length ns → Back m (drop i ns) place bytes → Next m ns i place bytes
next_count m sound ns i place bytes h back =
    let cons = drop_more ns i 0 h in
    let b : Back m (get_or ns i 0 ∷ drop (i + 1) ns) place bytes = subst (λ l. Back m l place bytes) cons back in
    let r = b.1 in
    record {
      next = r.0;
      answer = r.1;
      stands = seen m sound place bytes (get_or ns i 0) r.0 r.1;
      back = (b.0, r.2);
    }

module _ (m : Meaning) (ns : List ℕ) (i place next : ℕ) (bytes : List ℕ) (h : i < length ns) (s : Seen m place (get_or ns i 0) next bytes) where
  line_added : (text line after : List ℕ) → (text ++ (line ++ 10 ∷ [])) ++ after ≡ text ++ (line ++ (10 ∷ after))
  line_added text line after = append_assoc text (line ++ 10 ∷ []) after ∙ ap (λ l. text ++ l) (append_assoc line (10 ∷ []) after)

  pub counts_more : (text : List ℕ) → (text ++ (count_line (get_or ns i 0) (bits_between place next bytes) next ++ 10 ∷ [])) ++ count_lines m (drop (i + 1) ns) next ≡ text ++ count_lines m (drop i ns) place
  counts_more text =
      line_added text (count_line (get_or ns i 0) (bits_between place next bytes) next) (count_lines m (drop (i + 1) ns) next)
      ∙ ap₂ (λ bits p. text ++ (count_line (get_or ns i 0) bits p ++ (10 ∷ count_lines m (drop (i + 1) ns) p))) s.bits_are s.next_is
      ∙ ap (λ l. text ++ count_lines m l place) (sym (drop_more ns i 0 h))

  pub reads_more : (text : List ℕ) → (text ++ (read_line (get_or ns i 0) next ++ 10 ∷ [])) ++ read_lines m (drop (i + 1) ns) next ≡ text ++ read_lines m (drop i ns) place
  reads_more text =
      line_added text (read_line (get_or ns i 0) next) (read_lines m (drop (i + 1) ns) next)
      ∙ ap (λ p. text ++ (read_line (get_or ns i 0) p ++ (10 ∷ read_lines m (drop (i + 1) ns) p))) s.next_is
      ∙ ap (λ l. text ++ read_lines m l place) (sym (drop_more ns i 0 h))
