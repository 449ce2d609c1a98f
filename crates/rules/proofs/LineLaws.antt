-- The mark and the bytes of a line by the history.
use Rattle.std.proofs.Common.{◌≡◌, ℕ, ◌+◌, ◌-◌, ◌%◌, ◌≤◌, Bool, true, false, cond, not, ◌&&◌, eqb, ltb, leb, List, [], ◌∷◌, length, get_or, Some, None, Option, sym, refl, ap, ◌∙◌, inl, inr, mod-lt, arith}
use Rattle.std.proofs.lemmas.List.{get_or-replicate}
use Rattle.std.proofs.lemmas.Bool.{cond_both, cases_eq, eqb-true, eqb-false}
use Rattle.rules.specs.Bytes.{low_bytes}
use Rattle.rules.specs.Cache.{block_of, offset_of, new_line, forward, set_for, first, holds, Operation, load, store, invalidate}
use Rattle.rules.specs.CacheLaws.{after, fresh_line, line_for, block_of_operation, invalidated_since, MarksSince, found_byte, byte_since, BytesSince}
use Rattle.rules.specs.declared.cache.Line.{Line}
use Rattle.rules.specs.declared.cache.Settings.{Settings}
use Rattle.rules.proofs.Bytes.{length-low_bytes}
use Rattle.rules.proofs.Overlay.{get_or-overlay}
use Rattle.rules.proofs.Sets.{all_forward, forward_fresh, staled_line}
use Rattle.rules.proofs.Steps.{Sixteen, aligned_fits, sixteen_after, others_law, line_loaded, line_stored, line_staled}

some_same : {X : Type 0} {x y : X} → Some x ≡ Some y → x ≡ y
some_same e = cc

not_some : {X : Type 0} (x : X) (o : Option X) → o ≡ None → o ≡ Some x → ⊥
not_some x o none some = let z : ◌≡◌ {A = ℕ} 0 1 = cc in omega arith

module _ (k : Settings) (some-sets : 1 ≤ k.sets) where
  no_line : (block : ℕ) → line_for k block (after k []) ≡ None
  no_line block = ap (first (holds block)) (get_or-replicate k.sets (block % k.sets) [] [] (mod-lt block some-sets))

  -- what holds of a block's line, after an operation on another block
  other_since : (P : Line → Type 0) (op : Operation) (earlier : List Operation) (block : ℕ) → (block_of_operation op ≡ block → ⊥) → ((l : Line) → line_for k block (after k earlier) ≡ Some l → P l)
      → (l : Line) → line_for k block (after k (op ∷ earlier)) ≡ Some l → P l
  other_since P op earlier block ne before l e =
      elim (others_law k some-sets op earlier block ne) [ inl none ↦ absurd (not_some l (line_for k block (after k (op ∷ earlier))) none e) | inr same ↦ before l (sym same ∙ e) ]

  pub marks_law : MarksSince k
  marks_law [] block l e = absurd (not_some l (line_for k block (after k [])) (no_line block) e)
  marks_law (load fill address size ∷ earlier) block l e =
      cond_both (eqb (block_of address) block) false (invalidated_since block earlier) (λ z. l.stale ≡ z)
      (λ t. ap (λ (m : Line). m.stale) (some_same (sym e ∙ line_loaded k some-sets earlier block fill address size (eqb-true (block_of address) block t))) ∙ forward_fresh fill (block_of address) (line_for k block (after k earlier)))
      (λ f. other_since (λ m. m.stale ≡ invalidated_since block earlier) (load fill address size) earlier block (eqb-false (block_of address) block f) (marks_law earlier block) l e)
  marks_law (store fill address size value ∷ earlier) block l e =
      cond_both (eqb (block_of address) block) false (invalidated_since block earlier) (λ z. l.stale ≡ z)
      (λ t. ap (λ (m : Line). m.stale) (some_same (sym e ∙ line_stored k some-sets earlier block fill address size value (eqb-true (block_of address) block t))) ∙ forward_fresh fill (block_of address) (line_for k block (after k earlier)))
      (λ f. other_since (λ m. m.stale ≡ invalidated_since block earlier) (store fill address size value) earlier block (eqb-false (block_of address) block f) (marks_law earlier block) l e)
  marks_law (invalidate address ∷ earlier) block l e =
      cond_both (eqb (block_of address) block) true (invalidated_since block earlier) (λ z. l.stale ≡ z)
      (λ t. marked (line_for k block (after k earlier)) (sym (line_staled k some-sets earlier block address (eqb-true (block_of address) block t)) ∙ e))
      (λ f. other_since (λ m. m.stale ≡ invalidated_since block earlier) (invalidate address) earlier block (eqb-false (block_of address) block f) (marks_law earlier block) l e)
    where
      marked : (o : Option Line) → staled_line o ≡ Some l → l.stale ≡ true
      marked None e = absurd (not_some l None refl e)
      marked (Some m) e = sym (ap (λ (n : Line). n.stale) (some_same e))

-- byte p of the line that comes forward
forward_byte : (fill : List ℕ) (b p own : ℕ) (o : Option Line) → ((l : Line) → o ≡ Some l → get_or l.bytes p 0 ≡ own) → get_or (forward fill b o).bytes p 0 ≡ cond (fresh_line o) own (get_or fill p 0)
forward_byte fill b p own None before = refl
forward_byte fill b p own (Some l) before = go l.stale
  where
    go : (z : Bool) → get_or (cond z (new_line fill l.block) l).bytes p 0 ≡ cond (not z) own (get_or fill p 0)
    go true = refl
    go false = before l refl

module _ (k : Settings) (some-sets : 1 ≤ k.sets) where
  -- byte p after an operation on another block, and after an invalidation
  byte_kept : (op : Operation) (earlier : List Operation) (block p own : ℕ) → (block_of_operation op ≡ block → ⊥) → ((l : Line) → line_for k block (after k earlier) ≡ Some l → get_or l.bytes p 0 ≡ own)
      → (l : Line) → line_for k block (after k (op ∷ earlier)) ≡ Some l → get_or l.bytes p 0 ≡ own
  byte_kept op earlier block p own = other_since k some-sets (λ l. get_or l.bytes p 0 ≡ own) op earlier block

  byte_staled : (p own : ℕ) (o : Option Line) → ((l : Line) → o ≡ Some l → get_or l.bytes p 0 ≡ own) → (l : Line) → staled_line o ≡ Some l → get_or l.bytes p 0 ≡ own
  byte_staled p own None before l e = absurd (not_some l None refl e)
  byte_staled p own (Some m) before l e = sym (ap (λ (n : Line). get_or n.bytes p 0) (some_same e)) ∙ before m refl

  pub bytes_law : BytesSince k
  bytes_law [] given block p l h e = absurd (not_some l (line_for k block (after k [])) (no_line k some-sets block) e)
  bytes_law (load fill address size ∷ earlier) given block p l h e =
      let b = block_of address in
      let own = byte_since k block p earlier in
      let before = λ (m : Line). bytes_law earlier given.1 block p m h in
      cond_both (eqb b block) (found_byte k block p fill earlier own) own (λ n. get_or l.bytes p 0 ≡ n)
      (λ t. ap (λ (m : Line). get_or m.bytes p 0) (some_same (sym e ∙ line_loaded k some-sets earlier block fill address size (eqb-true b block t))) ∙ forward_byte fill b p own (line_for k block (after k earlier)) before)
      (λ f. byte_kept (load fill address size) earlier block p own (eqb-false b block f) before l e)
  bytes_law (store fill address size value ∷ earlier) given block p l h e =
      let b = block_of address in
      let own = byte_since k block p earlier in
      let before = λ (m : Line). bytes_law earlier given.1 block p m h in
      let from = offset_of address in
      let front = forward fill b (line_for k block (after k earlier)) in
      let long : length front.bytes ≡ 16 = all_forward Sixteen (holds block) fill b (λ c. given.0.0) (set_for k block (after k earlier)) (sixteen_after k some-sets earlier given.1 (block % k.sets) (mod-lt block some-sets)) in
      let fits = aligned_fits address size given.0.1 in
      let written = get_or (low_bytes size value) (p - from) 0 in
      cond_both (eqb b block) (cond (leb from p && ltb p (from + size)) written (found_byte k block p fill earlier own)) own (λ n. get_or l.bytes p 0 ≡ n)
      (λ t. ap (λ (m : Line). get_or m.bytes p 0) (some_same (sym e ∙ line_stored k some-sets earlier block fill address size value (eqb-true b block t)))
      ∙ get_or-overlay from size (low_bytes size value) front.bytes p 0 (length-low_bytes size value) (omega arith)
      ∙ ap (cond (leb from p && ltb p (from + size)) written) (forward_byte fill b p own (line_for k block (after k earlier)) before))
      (λ f. byte_kept (store fill address size value) earlier block p own (eqb-false b block f) before l e)
  bytes_law (invalidate address ∷ earlier) given block p l h e =
      let own = byte_since k block p earlier in
      let before = λ (m : Line). bytes_law earlier given.1 block p m h in
      elim (cases_eq (block_of address) block) [
        | inl same ↦ byte_staled p own (line_for k block (after k earlier)) before l (sym (line_staled k some-sets earlier block address same) ∙ e)
        | inr ne ↦ byte_kept (invalidate address) earlier block p own ne before l e
      ]
