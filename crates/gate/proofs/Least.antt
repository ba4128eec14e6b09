-- The least of some pairs by what stands second, the first of them where several are as small: what `min_by_key` picks. Assumes nothing.
use Rattle.std.proofs.Common.{◌≡◌, ℕ, zero, suc, ◌+◌, Bool, true, false, cond, ltb, List, [], ◌∷◌, ◌++◌, map, Some, None, MatchOption, Option, Bor, sym, refl, ap, ◌∙◌, subst, add-one, arith}
use Rattle.std.specs.List.{fold, filter_map, cons_option, range_with_len, FoldsTo}
use Rattle.std.specs.Fn.{CalledAt}
use Rattle.std.specs.Iterator.{Drains, KeyTurn}
use Rattle.std.specs.Option.{option_map}
use Rattle.std.specs.Ordering.{nat_cmp, min_by_ordering}
use Rattle.std.specs.declared.cmp.Ordering.{Ordering}
use Rattle.std.specs.declared.cmp.Ordering.TheVariants.{Less, Equal, Greater}
use denote.Param.Members.{Mut}
use Rattle.std.proofs.lemmas.Bool.Decides.{nat_tests}
use Rattle.std.proofs.lemmas.Cmp.{ranked}
use Rattle.std.proofs.lemmas.Iterator.{YieldsList, items_from_drains}
use Rattle.std.proofs.lemmas.List.{map-id, append-nil}
use Rattle.std.proofs.lemmas.List.Sums.{fold_push}
use Rattle.std.proofs.lemmas.List.Elements.{filter_map-append}
use Rattle.std.proofs.lemmas.List.FromFn.{map-range_with_len_more}
use Rattle.gate.specs.Recall.{better, best_below}

-- of two pairs the one with less, the first where they have as much
abbrev pub fewer : ℕ × ℕ → ℕ × ℕ → ℕ × ℕ
fewer b x = cond (ltb x.1 b.1) x b

abbrev pub pick_of : List (ℕ × ℕ) → Option (ℕ × ℕ)
pick_of [] = None
pick_of (x ∷ xs) = Some (fold fewer x xs)

by_order : (o : Ordering) (b x : ℕ × ℕ) → o ≡ nat_cmp b.1 x.1 → min_by_ordering o b x ≡ fewer b x
by_order Less b x e = let r = ranked b.1 x.1 Less e in grind (arith, nat_tests)
by_order Equal b x e = let r = ranked b.1 x.1 Equal e in grind (arith, nat_tests)
by_order Greater b x e = let r = ranked b.1 x.1 Greater e in grind (arith, nat_tests)

key_of : (o : Ordering) (b x : ℕ × ℕ) → min_by_ordering o b.1 x.1 ≡ (min_by_ordering o b x).1
key_of Less b x = refl
key_of Equal b x = refl
key_of Greater b x = refl

module _ {F : Type 0} (g : Mut F (Bor (ℕ × ℕ) × Unit {0}) ℕ) (f : F) (calls : (x : ℕ × ℕ) (k : ℕ) (q : F) → CalledAt g f x k q → (q ≡ f) × (k ≡ x.1)) where
  picked : (xs : List (ℕ × ℕ)) (e : F) (k : ℕ) (b : ℕ × ℕ) (q : F × ℕ) (y : ℕ × ℕ) → e ≡ f → k ≡ b.1
      → FoldsTo {P = (F × ℕ) × (ℕ × ℕ)} (KeyTurn min_by_ordering min_by_ordering g nat_cmp) ((e, k), b) xs (q, y) → y ≡ fold fewer b xs
  picked [] e k b q y same key h = sym (ap (λ (p : (F × ℕ) × (ℕ × ℕ)). p.1) h)
  picked (x ∷ xs) e k b q y same key h =
      let j = h.0 in
      let t = h.1 in
      let P : F → Type 0 = λ s. CalledAt g s x t.0 j.0.0 in
      let called = calls x t.0 j.0.0 (subst P same t.2) in
      let order : t.1 ≡ nat_cmp b.1 x.1 = sym t.3 ∙ ap (λ n. nat_cmp n t.0) key ∙ ap (nat_cmp b.1) called.1 in
      let turn : j.1 ≡ fewer b x = t.5 ∙ by_order t.1 b x order in
      let next : j.0.1 ≡ j.1.1 = t.4 ∙ ap (λ n. min_by_ordering t.1 n t.0) key ∙ ap (min_by_ordering t.1 b.1) called.1 ∙ key_of t.1 b x
      ∙ sym (ap (λ (p : ℕ × ℕ). p.1) t.5) in
      picked xs j.0.0 j.0.1 j.1 q y called.0 next h.2 ∙ ap (λ z. fold fewer z xs) turn

  pub least_picked : {S : Type 0} {steps : S → Option (ℕ × ℕ) → S → Type 0} (s : S) (all : List (ℕ × ℕ)) (r : Option (ℕ × ℕ))
      → MatchOption r (Drains steps s []) (λ y. (x : ℕ × ℕ) × (xs : List (ℕ × ℕ)) × (k : ℕ) × (e : F) × (q : F × ℕ) × Drains steps s (x ∷ xs) × CalledAt g f x k e
      × FoldsTo {P = (F × ℕ) × (ℕ × ℕ)} (KeyTurn min_by_ordering min_by_ordering g nat_cmp) ((e, k), x) xs (q, y))
      → YieldsList steps (λ x. x) s all → r ≡ pick_of all
  least_picked s all None d road = ap pick_of (items_from_drains [] (d.1.0, d.1.1, λ _. (d.0, d.1.2)) road)
  least_picked s all (Some y) d road =
      let x = d.0 in
      let xs = d.1 in
      let called = calls x d.2 d.3 d.6 in
      let w = d.5 in
      let items : map (λ z. z) (x ∷ xs) ≡ all = items_from_drains (x ∷ xs) (w.1.0, w.1.1, λ _. (w.0, w.1.2)) road in
      ap Some (picked xs d.3 d.2 x d.4 y called.0 called.1 d.7) ∙ ap pick_of (sym (map-id (x ∷ xs)) ∙ items)

some_of : (b : Bool) (x y : ℕ × ℕ) → Some (cond b x y) ≡ cond b (Some x) (Some y)
some_of true x y = refl
some_of false x y = refl

-- one more at the end
one_more : (xs : List (ℕ × ℕ)) (c : ℕ) (o : Option ℕ) → pick_of (xs ++ cons_option (option_map (λ k. (c, k)) o) []) ≡ better (pick_of xs) c o
one_more [] c None = refl
one_more [] c (Some k) = refl
one_more (x ∷ xs) c None = ap pick_of (append-nil (x ∷ xs))
one_more (x ∷ xs) c (Some k) =
    let b = fold fewer x xs in
    ap Some (fold_push fewer x xs (c, k)) ∙ some_of (ltb k b.1) (c, k) b

module _ (f : ℕ → Option ℕ) where
  abbrev pub paired : ℕ → Option (ℕ × ℕ)
  paired c = option_map (λ k. (c, k)) (f c)

  pub least_ranged : (n : ℕ) → pick_of (filter_map paired (range_with_len 0 n)) ≡ best_below f n
  least_ranged zero = refl
  least_ranged (suc n) =
      let more : range_with_len 0 (suc n) ≡ range_with_len 0 n ++ n ∷ [] = ap (range_with_len 0) (sym (add-one n)) ∙ sym (map-id (range_with_len 0 (n + 1)))
      ∙ map-range_with_len_more (λ k. k) 0 n n (omega arith) ∙ ap (λ xs. xs ++ n ∷ []) (map-id (range_with_len 0 n)) in
      ap (λ xs. pick_of (filter_map paired xs)) more ∙ ap pick_of (filter_map-append paired (range_with_len 0 n) (n ∷ []))
      ∙ one_more (filter_map paired (range_with_len 0 n)) n (f n) ∙ ap (λ b. better b n (f n)) (least_ranged n)
