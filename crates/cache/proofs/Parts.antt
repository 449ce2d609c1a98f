-- A part of a list written.
use Rattle.std.proofs.Common.{◌≡◌, ℕ, ◌+◌, List, ◌++◌, length, take, drop, sym, ap, ◌∙◌, ap₂}
use Rattle.std.proofs.lemmas.List.{drop-drop}
use Rattle.rules.specs.Overlay.{overlay}

-- the k elements from a place on have become ys
pub part_written : {X : Type 0} (from k : ℕ) (old ys new : List X) → ys ≡ new → length new ≡ k → take from old ++ (ys ++ drop k (drop from old)) ≡ overlay from new old
part_written from k old ys new is long =
    ap₂ (λ now rest. take from old ++ (now ++ rest)) is (drop-drop k from old ∙ ap (λ n. drop (from + n) old) (sym long))
