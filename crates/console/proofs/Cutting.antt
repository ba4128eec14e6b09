-- The first word of a line, and what is behind it. Assumes nothing.
use Rattle.std.proofs.Common.{◌≡◌, ℕ, zero, suc, ◌+◌, ◌<◌, ◌≤◌, ltb, Some, None, Option, Bool, true, false, cond, not, List, [], ◌∷◌, length, take, drop, ◌⊎◌, inl, inr, refl, ap, sym, ◌∙◌, arith}
use Rattle.std.specs.List.{filter, onto_first, prefix_len, position_or_len, slice_split}
use Rattle.std.specs.Option.{unwrap_or}
use Rattle.std.proofs.lemmas.Bool.{ltb-false}
use Rattle.std.proofs.lemmas.List.Folds.{length-prefix_len}
use Rattle.std.proofs.lemmas.List.Sums.{prefix_len-le-length}
use Rattle.std.proofs.lemmas.List.Splits.{slice_split-cons_no, slice_split-cons_yes}
use Rattle.console.specs.Lines.{has_bytes}

one_more : (k n : ℕ) → n ≡ 1 + k → n ≡ suc k
one_more k n e = omega (arith, e)

module _ (p : ℕ → Bool) where
  abbrev parted : List ℕ → List (List ℕ)
  parted l = filter has_bytes (slice_split p l)

  passes : (b : ℕ) (l : List ℕ) → p b ≡ true → prefix_len p (b ∷ l) ≡ suc (prefix_len p l)
  passes b l e = one_more (prefix_len p l) (prefix_len p (b ∷ l)) (rw e refl)

  pub goes_on : (b : ℕ) (l : List ℕ) → p b ≡ false → position_or_len p (b ∷ l) ≡ suc (position_or_len p l)
  goes_on b l e = one_more (position_or_len p l) (position_or_len p (b ∷ l)) (rw e refl)

  pub stops : (b : ℕ) (l : List ℕ) → p b ≡ true → position_or_len p (b ∷ l) ≡ 0
  stops b l e = rw e refl

  -- the parts behind the first
  record Cut (s : List ℕ) : Type 0 where
    parts : List (List ℕ)
    first : slice_split p s ≡ take (position_or_len p s) s ∷ parts
    behind : filter has_bytes parts ≡ parted (drop (position_or_len p s) s)

  cut : (s : List ℕ) → Cut s
  cut [] = record { parts = []; first = refl; behind = refl }
  cut (b ∷ l) = go (p b) refl (cut l)
    where
      go : (w : Bool) → p b ≡ w → Cut l → Cut (b ∷ l)
      go true e c =
          record {
            parts = slice_split p l;
            first = slice_split-cons_yes p b l e ∙ ap (λ n. take n (b ∷ l) ∷ slice_split p l) (sym (stops b l e));
            behind = ap (filter has_bytes) (sym (slice_split-cons_yes p b l e)) ∙ ap (λ n. parted (drop n (b ∷ l))) (sym (stops b l e));
          }
      go false e c =
          record {
            parts = c.parts;
            first = slice_split-cons_no p b l e ∙ ap (onto_first b) c.first ∙ ap (λ n. take n (b ∷ l) ∷ c.parts) (sym (goes_on b l e));
            behind = c.behind ∙ ap (λ n. parted (drop n (b ∷ l))) (sym (goes_on b l e));
          }

  -- a part that is not empty is a word
  pub first_word : (s : List ℕ) → 0 < position_or_len p s → parted s ≡ take (position_or_len p s) s ∷ parted (drop (position_or_len p s) s)
  first_word s h = go (cut s) (take (position_or_len p s) s) refl (length-prefix_len (λ x. not (p x)) s)
    where
      go : Cut s → (w : List ℕ) → w ≡ take (position_or_len p s) s → length (take (position_or_len p s) s) ≡ position_or_len p s
          → parted s ≡ take (position_or_len p s) s ∷ parted (drop (position_or_len p s) s)
      go c [] e n = let z : length (take (position_or_len p s) s) ≡ 0 = sym (ap length e) in absurd (omega (arith, h, n, z))
      go c (b ∷ bs) e n =
          ap (filter has_bytes) c.first ∙ ap (λ w. filter has_bytes (w ∷ c.parts)) (sym e)
          ∙ ap (λ ws. (b ∷ bs) ∷ ws) c.behind ∙ ap (λ w. w ∷ parted (drop (position_or_len p s) s)) e

  -- what passes in front is no word
  pub no_word : (s : List ℕ) → parted s ≡ parted (drop (prefix_len p s) s)
  no_word [] = refl
  no_word (b ∷ l) = go (p b) refl (no_word l)
    where
      go : (w : Bool) → p b ≡ w → parted l ≡ parted (drop (prefix_len p l) l) → parted (b ∷ l) ≡ parted (drop (prefix_len p (b ∷ l)) (b ∷ l))
      go true e ih = ap (filter has_bytes) (slice_split-cons_yes p b l e) ∙ ih ∙ ap (λ n. parted (drop n (b ∷ l))) (sym (passes b l e))
      go false e ih = let z : 0 ≡ prefix_len p (b ∷ l) = rw e refl in ap (λ n. parted (drop n (b ∷ l))) z

  -- nothing is left where what passes in front is all
  pub all_passes : (l : List ℕ) → position_or_len p (drop (prefix_len p l) l) ≡ 0 → drop (prefix_len p l) l ≡ []
  all_passes [] h = refl
  all_passes (b ∷ l) h = go (p b) refl (all_passes l)
    where
      go : (w : Bool) → p b ≡ w → (position_or_len p (drop (prefix_len p l) l) ≡ 0 → drop (prefix_len p l) l ≡ []) → drop (prefix_len p (b ∷ l)) (b ∷ l) ≡ []
      go true e ih =
          let same : drop (prefix_len p (b ∷ l)) (b ∷ l) ≡ drop (prefix_len p l) l = ap (λ n. drop n (b ∷ l)) (passes b l e) in
          same ∙ ih (ap (position_or_len p) (sym same) ∙ h)
      go false e ih =
          let z : 0 ≡ prefix_len p (b ∷ l) = rw e refl in
          let same : b ∷ l ≡ drop (prefix_len p (b ∷ l)) (b ∷ l) = ap (λ n. drop n (b ∷ l)) z in
          let more = goes_on b l e in
          let none : position_or_len p (b ∷ l) ≡ 0 = ap (position_or_len p) same ∙ h in
          absurd (omega (arith, more, none))

  -- what taking a word off comes to
  pub word_taken : (l s w r : List ℕ) (k : ℕ) → s ≡ drop (prefix_len p l) l → k ≡ position_or_len p s → w ≡ take k s → r ≡ drop k s
      → ((length w ≡ 0) × (parted l ≡ []) × (parted r ≡ [])) ⊎ ((0 < length w) × (parted l ≡ w ∷ parted r))
  word_taken l s w r zero es ek ew er =
      let zed : position_or_len p s ≡ 0 = sym ek in
      let none : s ≡ [] = es ∙ all_passes l (ap (position_or_len p) (sym es) ∙ zed) in
      inl (ap length ew, no_word l ∙ ap parted (sym es ∙ none), ap parted (er ∙ none))
  word_taken l s w r (suc k) es ek ew er =
      let some : 0 < position_or_len p s = omega (arith, ek) in
      let long = length-prefix_len (λ x. not (p x)) s in
      let here : length w ≡ suc k = ap length ew ∙ ap (λ n. length (take n s)) ek ∙ long ∙ sym ek in
      inr (
        omega (arith, here),
        no_word l ∙ ap parted (sym es) ∙ first_word s some ∙ ap (λ n. take n s ∷ parted (drop n s)) (sym ek) ∙ ap (λ x. x ∷ parted (drop (suc k) s)) (sym ew) ∙ ap (λ x. w ∷ parted x) (sym er),
      )

-- there are no more words than bytes
pub few_words : (p : ℕ → Bool) (l : List ℕ) → length (parted p l) ≤ length l
few_words p [] = omega arith
few_words p (b ∷ l) = go (p b) refl (few_words p l)
  where
    onto : (parts : List (List ℕ)) → length (filter has_bytes (onto_first b parts)) ≤ suc (length (filter has_bytes parts))
    onto [] = omega arith
    onto ([] ∷ parts) = omega arith
    onto ((a ∷ part) ∷ parts) = omega arith

    go : (w : Bool) → p b ≡ w → length (parted p l) ≤ length l → length (parted p (b ∷ l)) ≤ suc (length l)
    go true e ih =
        let same : length (parted p (b ∷ l)) ≡ length (parted p l) = ap (λ parts. length (filter has_bytes parts)) (slice_split-cons_yes p b l e) in
        omega (arith, ih, same)
    go false e ih =
        let more : length (parted p (b ∷ l)) ≡ length (filter has_bytes (onto_first b (slice_split p l))) = ap (λ parts. length (filter has_bytes parts)) (slice_split-cons_no p b l e) in
        let here = onto (slice_split p l) in
        omega (arith, ih, more, here)

-- where a search finds nothing, it ends behind the last
pub end_is : (p : ℕ → Bool) (l : List ℕ) (found : Option ℕ) (n : ℕ) → found ≡ cond (ltb (position_or_len p l) (length l)) (Some (position_or_len p l)) None
    → n ≡ unwrap_or found (length l) → n ≡ position_or_len p l
end_is p l found n e h = go (ltb (position_or_len p l) (length l)) refl
  where
    go : (b : Bool) → ltb (position_or_len p l) (length l) ≡ b → n ≡ position_or_len p l
    go true t = h ∙ ap (λ o. unwrap_or o (length l)) e ∙ ap (λ (b : Bool). unwrap_or (cond b (Some (position_or_len p l)) None) (length l)) t
    go false f =
        let low = prefix_len-le-length (λ x. not (p x)) l in
        let high : length l ≤ position_or_len p l = ltb-false _ _ f in
        let same : n ≡ length l = h ∙ ap (λ o. unwrap_or o (length l)) e ∙ ap (λ (b : Bool). unwrap_or (cond b (Some (position_or_len p l)) None) (length l)) f in
        omega (arith, low, high, same)
