-- The drawing, place by place. Assumes nothing.
use Rattle.std.proofs.Common.{◌≡◌, ℕ, zero, suc, ◌+◌, ◌-◌, ◌*◌, ◌/◌, ◌%◌, ◌<◌, ◌≤◌, ◌⊎◌, List, [], ◌∷◌, ◌++◌, length, get_or, take, drop, replicate, decimal, sym, refl, ap, ◌∙◌, subst, inl, inr, ⊎_elim, arith, length-drop, length-take}
use Rattle.std.specs.List.{flat_map}
use Rattle.std.proofs.lemmas.Bool.{cases_lt}
use Rattle.std.proofs.lemmas.List.{append_assoc, drop-drop, drop_at, get_or-take, get_or-drop}
use Rattle.draw.specs.Rows.{Draws, cell, row_text, text}
use Rattle.draw.proofs.Digits.{cell_right}
use Rattle.draw.proofs.Texts.{length_cells, length_row, length_text, text_more}

-- a height in decimal, to the right of three places
abbrev right_three : ℕ → List ℕ
right_three h = replicate (3 - length (decimal h)) 32 ++ decimal h

-- each height is a byte
abbrev pub Bytes : List ℕ → Type 0
Bytes hs = (i : ℕ) → i < length hs → get_or hs i 0 < 256

-- the cell of a height in its row
in_row : (hs rest : List ℕ) (i : ℕ) → i < length hs → take 3 (drop (3 * i) (flat_map cell hs ++ rest)) ≡ cell (get_or hs i 0)
in_row [] rest i l = absurd (omega arith)
in_row (h ∷ hs) rest zero l = refl
in_row (h ∷ hs) rest (suc i) l =
    let e : 3 * suc i ≡ suc (suc (suc (3 * i))) = omega arith in
    ap (λ (n : ℕ). take 3 (drop n (flat_map cell (h ∷ hs) ++ rest))) e ∙ in_row hs rest i (omega arith)

-- what stands behind a list
behind : (xs ys : List ℕ) (n : ℕ) → length xs ≡ n → (m : ℕ) → drop (n + m) (xs ++ ys) ≡ drop m ys
behind xs ys n e m = sym (drop-drop m n (xs ++ ys)) ∙ ap (drop m) (drop_at xs ys n e)

at_behind : (xs ys : List ℕ) (n : ℕ) → length xs ≡ n → (m : ℕ) → get_or (xs ++ ys) (n + m) 0 ≡ get_or ys m 0
at_behind xs ys n e m = sym (get_or-drop n (xs ++ ys) m 0) ∙ ap (λ (l : List ℕ). get_or l m 0) (drop_at xs ys n e)

module _ (hs : List ℕ) (bytes : Bytes hs) where
  abbrev row : List ℕ
  row = take 16 hs

  abbrev rest : List ℕ
  rest = drop 16 hs

  whole : 0 < length hs → text hs ≡ flat_map cell row ++ ((10 ∷ []) ++ text rest)
  whole l = text_more hs l ∙ append_assoc (flat_map cell row) (10 ∷ []) (text rest)

  first_places : (i : ℕ) → i < length hs → i < 16 → take 3 (drop (3 * i + i / 16) (text hs)) ≡ right_three (get_or hs i 0)
  first_places i l low =
      let e : 3 * i + i / 16 ≡ 3 * i = omega arith in
      let n = length-take 16 hs in
      ap (λ (k : ℕ). take 3 (drop k (text hs))) e
      ∙ ap (λ (t : List ℕ). take 3 (drop (3 * i) t)) (whole (omega arith))
      ∙ in_row row ((10 ∷ []) ++ text rest) i (omega arith)
      ∙ ap cell (get_or-take 16 hs i 0 low)
      ∙ sym (cell_right (get_or hs i 0) (bytes i l))

  first_end : (i : ℕ) → i < length hs → i < 16 → (i % 16 ≡ 15) ⊎ (suc i ≡ length hs) → get_or (text hs) (3 * i + i / 16 + 3) 0 ≡ 10
  first_end i l low q =
      let n = length-take 16 hs in
      let last : length row ≡ suc i = ⊎_elim (λ (e : i % 16 ≡ 15). let p : length row ≡ suc i = omega arith in p) (λ (e : suc i ≡ length hs). let p : length row ≡ suc i = omega arith in p) q in
      let c = length_cells row in
      let e : 3 * i + i / 16 + 3 ≡ 3 * length row + 0 = omega arith in
      ap (λ (k : ℕ). get_or (text hs) k 0) e
      ∙ ap (λ (t : List ℕ). get_or t (3 * length row + 0) 0) (whole (omega arith))
      ∙ at_behind (flat_map cell row) ((10 ∷ []) ++ text rest) (3 * length row) c 0

  full : 16 < length hs → length (row_text row) ≡ 49
  full l = let n = length-take 16 hs in omega (arith, length_row row)

  next_places : (j : ℕ) → 16 + j < length hs → take 3 (drop (3 * j + j / 16) (text rest)) ≡ right_three (get_or rest j 0)
      → take 3 (drop (3 * (16 + j) + (16 + j) / 16) (text hs)) ≡ right_three (get_or hs (16 + j) 0)
  next_places j l ih =
      let e : 3 * (16 + j) + (16 + j) / 16 ≡ 49 + (3 * j + j / 16) = omega arith in
      ap (λ (k : ℕ). take 3 (drop k (text hs))) e
      ∙ ap (λ (t : List ℕ). take 3 (drop (49 + (3 * j + j / 16)) t)) (text_more hs (omega arith))
      ∙ ap (take 3) (behind (row_text row) (text rest) 49 (full (omega arith)) (3 * j + j / 16))
      ∙ ih ∙ ap right_three (get_or-drop 16 hs j 0)

  next_end : (j : ℕ) → 16 + j < length hs → get_or (text rest) (3 * j + j / 16 + 3) 0 ≡ 10 → get_or (text hs) (3 * (16 + j) + (16 + j) / 16 + 3) 0 ≡ 10
  next_end j l ih =
      let e : 3 * (16 + j) + (16 + j) / 16 + 3 ≡ 49 + (3 * j + j / 16 + 3) = omega arith in
      ap (λ (k : ℕ). get_or (text hs) k 0) e
      ∙ ap (λ (t : List ℕ). get_or t (49 + (3 * j + j / 16 + 3)) 0) (text_more hs (omega arith))
      ∙ at_behind (row_text row) (text rest) 49 (full (omega arith)) (3 * j + j / 16 + 3)
      ∙ ih

  bytes_rest : Bytes rest
  bytes_rest j l = let n = length-drop 16 hs in let b = bytes (16 + j) (omega arith) in omega (arith, get_or-drop 16 hs j 0)

-- of at most k heights
abbrev Places : List ℕ → ℕ → Type 0
Places hs i = take 3 (drop (3 * i + i / 16) (text hs)) ≡ right_three (get_or hs i 0)

abbrev Ends : List ℕ → ℕ → Type 0
Ends hs i = get_or (text hs) (3 * i + i / 16 + 3) 0 ≡ 10

places : (k : ℕ) (hs : List ℕ) → length hs ≤ k → Bytes hs → (i : ℕ) → i < length hs → Places hs i
places zero hs m b i l = absurd (omega arith)
places (suc k) hs m b i l = go (cases_lt i 16) (places k (drop 16 hs))
  where
    go : (i < 16) ⊎ (16 ≤ i) → (length (drop 16 hs) ≤ k → Bytes (drop 16 hs) → (j : ℕ) → j < length (drop 16 hs) → Places (drop 16 hs) j) → Places hs i
    go (inl low) ih = first_places hs b i l low
    go (inr high) ih =
        let n = length-drop 16 hs in
        let e : 16 + (i - 16) ≡ i = omega arith in
        subst (Places hs) e (next_places hs b (i - 16) (omega arith) (ih (omega arith) (bytes_rest hs b) (i - 16) (omega arith)))

ends : (k : ℕ) (hs : List ℕ) → length hs ≤ k → Bytes hs → (i : ℕ) → i < length hs → (i % 16 ≡ 15) ⊎ (suc i ≡ length hs) → Ends hs i
ends zero hs m b i l q = absurd (omega arith)
ends (suc k) hs m b i l q = go (cases_lt i 16) (ends k (drop 16 hs))
  where
    later : (length (drop 16 hs) ≡ length hs - 16) → 16 ≤ i → (i % 16 ≡ 15) ⊎ (suc i ≡ length hs) → ((i - 16) % 16 ≡ 15) ⊎ (suc (i - 16) ≡ length (drop 16 hs))
    later n high (inl e) = inl (omega arith)
    later n high (inr e) = inr (omega arith)

    go : (i < 16) ⊎ (16 ≤ i) → (length (drop 16 hs) ≤ k → Bytes (drop 16 hs) → (j : ℕ) → j < length (drop 16 hs) → (j % 16 ≡ 15) ⊎ (suc j ≡ length (drop 16 hs)) → Ends (drop 16 hs) j) → Ends hs i
    go (inl low) ih = first_end hs b i l low q
    go (inr high) ih =
        let n = length-drop 16 hs in
        let e : 16 + (i - 16) ≡ i = omega arith in
        subst (Ends hs) e (next_end hs b (i - 16) (omega arith) (ih (omega arith) (bytes_rest hs b) (i - 16) (omega arith) (later n high q)))

pub draws : (hs : List ℕ) → Bytes hs → Draws hs (text hs)
draws hs b = record { size = length_text hs; places = places (length hs) hs (omega arith) b; row_end = ends (length hs) hs (omega arith) b }
