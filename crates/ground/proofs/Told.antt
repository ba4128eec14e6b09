-- A ground that means what the lists say has a border and links as they say. Assumes nothing.
use Rattle.std.proofs.Common.{◌≡◌, ℕ, zero, suc, ◌<◌, Bool, ◌&&◌, ◌||◌, eqb, ◌⊎◌, List, [], ◌∷◌, length, get_or, Decides, sym, ap, ◌∙◌, subst, inl, inr, ⊎_elim, arith}
use Rattle.std.proofs.lemmas.Bool.{true≢false}
use Rattle.std.proofs.lemmas.Bool.Decides.{Decides-and, Decides-or, Decides-eqb, Decides-like}
use Rattle.ground.specs.Meaning.{Meaning, Same}
use Rattle.ground.specs.Listing.{Link, Lists, IsListed, joins, listed, some_joins}

pair_is : (k : Link) (c d : ℕ) → (k.0 ≡ c) × (k.1 ≡ d) → k ≡ (c, d)
pair_is k c d p = ap (λ (x : ℕ). (x, k.1)) p.0 ∙ ap (λ (y : ℕ). (c, y)) p.1

decides_pair : (k : Link) (c d : ℕ) → Decides (eqb k.0 c && eqb k.1 d) (k ≡ (c, d))
decides_pair k c d =
    Decides-like (eqb k.0 c && eqb k.1 d) (pair_is k c d) (λ e. (ap (λ (x : Link). x.0) e, ap (λ (x : Link). x.1) e))
    (Decides-and (eqb k.0 c) (eqb k.1 d) (Decides-eqb _ _) (Decides-eqb _ _))

decides_joins : (k : Link) (c d : ℕ) → Decides (joins c d k) ((k ≡ (c, d)) ⊎ (k ≡ (d, c)))
decides_joins k c d = Decides-or (eqb k.0 c && eqb k.1 d) (eqb k.0 d && eqb k.1 c) (decides_pair k c d) (decides_pair k d c)

decides_listed : (links : List Link) (c d : ℕ) → Decides (some_joins c d links) (Lists links c d)
decides_listed [] c d = (λ e. absurd (true≢false (sym e)), λ h. absurd (omega (arith, h.1)))
decides_listed (k ∷ ks) c d =
    Decides-like (joins c d k || some_joins c d ks)
    (⊎_elim (λ h. (0, omega arith, h)) (λ h. (suc h.0, omega (arith, h.1), h.2)))
    (λ h. back h.0 h.1 h.2)
    (Decides-or (joins c d k) (some_joins c d ks) (decides_joins k c d) (decides_listed ks c d))
  where
    back : (i : ℕ) → i < length (k ∷ ks) → (get_or (k ∷ ks) i (0, 0) ≡ (c, d)) ⊎ (get_or (k ∷ ks) i (0, 0) ≡ (d, c)) → ((k ≡ (c, d)) ⊎ (k ≡ (d, c))) ⊎ Lists ks c d
    back zero l h = inl h
    back (suc i) l h = inr (i, omega arith, h)

pub is_listed : (n : ℕ) (bytes : List ℕ) (links : List Link) (m : Meaning) → Same m (listed n bytes links) → IsListed n bytes links m
is_listed n bytes links m same =
    record {
      columns = same.columns;
      border = λ c _. let P : Bool → Type 0 = λ b. Decides b (get_or bytes c 0 ≡ 1) in subst P (sym (same.border c)) (Decides-eqb (get_or bytes c 0) 1);
      linked = λ c d. let P : Bool → Type 0 = λ b. Decides b (Lists links c d) in subst P (sym (same.linked c d)) (decides_listed links c d);
    }
