-- Laws of the drawing: it is drawn row by row, and how long it is.
use Rattle.std.proofs.Common.{◌≡◌, ℕ, zero, suc, ◌+◌, ◌*◌, ◌/◌, ◌<◌, ◌≤◌, min, List, [], ◌∷◌, ◌++◌, length, take, drop, refl, ap, ◌∙◌, arith, length-append, length-drop, length-take}
use Rattle.std.specs.List.{flat_map}
use Rattle.std.proofs.lemmas.List.{take_at, drop_at, take_all, drop_all, append-nil}
use Rattle.draw.specs.Rows.{cell, row_text, rows_by, text}

-- More rows than there are make no difference.
enough : (k j : ℕ) (hs : List ℕ) → length hs ≤ k → length hs ≤ j → rows_by k hs ≡ rows_by j hs
enough zero zero [] p q = refl
enough zero (suc j) [] p q = refl
enough (suc k) zero [] p q = refl
enough (suc k) (suc j) [] p q = refl
enough zero j (h ∷ hs) p q = absurd (omega arith)
enough (suc k) zero (h ∷ hs) p q = absurd (omega arith)
enough (suc k) (suc j) (h ∷ hs) p q =
    ap (λ (t : List ℕ). row_text (take 16 (h ∷ hs)) ++ t)
    (enough k j (drop 16 (h ∷ hs)) (simp length-drop (omega arith)) (simp length-drop (omega arith)))

-- A row, and the drawing of the rest.
pub text_more : (hs : List ℕ) → 0 < length hs → text hs ≡ row_text (take 16 hs) ++ text (drop 16 hs)
unfolding text
text_more [] h = absurd (omega arith)
text_more (x ∷ hs) h =
    ap (λ (t : List ℕ). row_text (take 16 (x ∷ hs)) ++ t)
    (enough (length hs) (length (drop 16 (x ∷ hs))) (drop 16 (x ∷ hs)) (simp length-drop (omega arith)) (omega arith))

pub text_none : (hs : List ℕ) → length hs ≡ 0 → text hs ≡ []
unfolding text
text_none [] h = refl
text_none (x ∷ hs) h = absurd (omega arith)

-- The same where the first row is cut off already.
front : (x t : List ℕ) → length x ≡ min 16 (length (x ++ t)) → (take 16 (x ++ t) ≡ x) × (drop 16 (x ++ t) ≡ t)
front x [] e =
    let n : length (x ++ []) ≡ length x = ap length (append-nil x) in
    (rw append-nil (take_all 16 x (omega arith)), rw append-nil (drop_all 16 x (omega arith)))
front x (y ∷ t) e =
    let n = length-append x (y ∷ t) in
    let full : length x ≡ 16 = omega arith in
    (take_at x (y ∷ t) 16 full, drop_at x (y ∷ t) 16 full)

pub text_split : (hs x t : List ℕ) → hs ≡ x ++ t → length x ≡ min 16 (length hs) → 0 < length hs → text hs ≡ row_text x ++ text t
text_split hs x t e n h =
    let w = front x t (n ∙ ap (λ (l : List ℕ). min 16 (length l)) e) in
    let a : take 16 hs ≡ x = ap (take 16) e ∙ w.0 in
    let b : drop 16 hs ≡ t = ap (drop 16) e ∙ w.1 in
    text_more hs h ∙ cc

-- How long a row is, and the whole.
pub length_cells : (hs : List ℕ) → length (flat_map cell hs) ≡ 3 * length hs
length_cells [] = refl
length_cells (h ∷ hs) = omega (arith, length_cells hs, length-append (cell h) (flat_map cell hs))

pub length_row : (hs : List ℕ) → length (row_text hs) ≡ 3 * length hs + 1
length_row hs = length-append (flat_map cell hs) (10 ∷ []) ∙ omega (arith, length_cells hs)

long : (k : ℕ) (hs : List ℕ) → length hs ≤ k → length (rows_by k hs) ≡ 3 * length hs + (length hs + 15) / 16
long zero [] p = refl
long (suc k) [] p = refl
long zero (h ∷ hs) p = absurd (omega arith)
long (suc k) (h ∷ hs) p =
    let d = length-drop 16 (h ∷ hs) in
    let t = length-take 16 (h ∷ hs) in
    omega (arith, length-append (row_text (take 16 (h ∷ hs))) (rows_by k (drop 16 (h ∷ hs))), length_row (take 16 (h ∷ hs)), long k (drop 16 (h ∷ hs)) (omega arith))

pub length_text : (hs : List ℕ) → length (text hs) ≡ 3 * length hs + (length hs + 15) / 16
unfolding text
length_text hs = long (length hs) hs (omega arith)
