-- The links of a list, one after the other from the front. Assumes nothing.
use Rattle.std.proofs.Common.{◌≡◌, ℕ, ◌+◌, ◌<◌, ◌≤◌, true, false, ◌&&◌, eqb, ltb, leb, List, length, get_or, drop, sym, ap, ◌∙◌}
use Rattle.std.specs.List.{list_all}
use Rattle.std.proofs.lemmas.List.{at_drop_all, at_drop_more}
use Rattle.std.proofs.lemmas.Bool.{and_from, and_left, and_right, eq-eqb, le-leb, le-ltb, lt-ltb}
use Rattle.ground.specs.Listing.{Link, above, ascends, border_fits}

pub border_fits_yes : (n : ℕ) (xs : List ℕ) → 1 ≤ n → n ≤ 256 → length xs ≡ n → list_all (λ b. leb b 1) xs ≡ border_fits n xs
border_fits_yes n xs low high long =
    sym (ap (λ b. b && (eqb (length xs) n && list_all (λ b. leb b 1) xs)) (and_from (leb 1 n) (leb n 256) (le-leb 1 n low) (le-leb n 256 high)) ∙ ap (λ b. b && list_all (λ b. leb b 1) xs) (eq-eqb (length xs) n long))

module _ (n : ℕ) (before : Link) (ks : List Link) (i : ℕ) where
  abbrev this : Link
  this = get_or ks i (0, 0)

  step : i < length ks → ascends n before (drop i ks) ≡ ((above this before && (ltb this.0 this.1 && ltb this.1 n)) && ascends n this (drop (i + 1) ks))
  step lt = at_drop_more (ascends n before) ks i (0, 0) lt

  order_no : i < length ks → (above this before && (ltb this.0 this.1 && ltb this.1 n)) ≡ false → ascends n before (drop i ks) ≡ false
  order_no lt h = step lt ∙ and_left _ (ascends n this (drop (i + 1) ks)) h

  pub order_no_above : i < length ks → above this before ≡ false → ascends n before (drop i ks) ≡ false
  order_no_above lt h = order_no lt (and_left (above this before) _ h)

  pub order_no_lower : i < length ks → this.1 ≤ this.0 → ascends n before (drop i ks) ≡ false
  order_no_lower lt h = order_no lt (and_right (above this before) _ (and_left (ltb this.0 this.1) _ (le-ltb this.0 this.1 h)))

  pub order_no_inside : i < length ks → n ≤ this.1 → ascends n before (drop i ks) ≡ false
  order_no_inside lt h = order_no lt (and_right (above this before) _ (and_right (ltb this.0 this.1) _ (le-ltb this.1 n h)))

  pub order_yes : i < length ks → above this before ≡ true → this.0 < this.1 → this.1 < n → ascends n before (drop i ks) ≡ ascends n this (drop (i + 1) ks)
  order_yes lt up low high =
      step lt ∙ ap (λ b. b && ascends n this (drop (i + 1) ks)) (and_from (above this before) (ltb this.0 this.1 && ltb this.1 n) up (and_from (ltb this.0 this.1) (ltb this.1 n) (lt-ltb this.0 this.1 low) (lt-ltb this.1 n high)))

  pub order_end : length ks ≤ i → ascends n before (drop i ks) ≡ true
  order_end h = at_drop_all (ascends n before) ks i h
