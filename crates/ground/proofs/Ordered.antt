-- The tests of a listed ground decide what they say in words. Assumes nothing.
use Rattle.std.proofs.Common.{◌≡◌, ℕ, zero, suc, ◌<◌, ◌≤◌, true, not, ◌&&◌, ltb, leb, List, [], ◌∷◌, length, get_or, Decides, count_by, refl, inl, inr, arith}
use Rattle.std.specs.List.{list_all}
use Rattle.std.proofs.ByRecursion.{All-from_get_or, All-get_or, Decides-by_and}
use Rattle.std.proofs.lemmas.Bool.{and_from, and_parts, lt-ltb, ltb-true}
use Rattle.std.proofs.lemmas.Bool.Decides.{Decides-and, Decides-below_or, Decides-eqb, Decides-like, Decides-ltb, Decides-not, Decides-or}
use Rattle.terms.specs.declared.refusal.Rule.TheVariants.{BorderList, LinkOrder, SeventhLink}
use Rattle.terms.specs.Refusals.{Settles, told}
use Rattle.terms.proofs.First.{first_settles}
use Rattle.terms.proofs.Tests.{decides_leb}
use Rattle.ground.specs.Listing.{Above, IsBorderList, Crowded, Inside, Link, IsLinkOrder, above, ascends, border_fits, crowded, listing_reasons, listing_refusal, touches}

decides_bits : (border : List ℕ) → Decides (list_all (λ b. leb b 1) border) ((c : ℕ) → c < length border → get_or border c 0 ≤ 1)
decides_bits border =
    Decides-like (list_all (λ b. leb b 1) border)
    (λ a c h. All-get_or (λ b. b ≤ 1) border c 0 h a)
    (λ f. All-from_get_or (λ b. b ≤ 1) border 0 f)
    (Decides-by_and (λ b. leb b 1) (λ b. b ≤ 1) (list_all (λ b. leb b 1)) (λ b. decides_leb b 1) refl (λ _ _. refl) border)

pub decides_border : (columns : ℕ) (border : List ℕ) → Decides (border_fits columns border) (IsBorderList columns border)
decides_border columns border =
    Decides-like (border_fits columns border)
    (λ t. record { low = t.0.0; high = t.0.1; long = t.1.0; bits = t.1.1 })
    (λ b. ((b.low, b.high), (b.long, b.bits)))
    (Decides-and _ _ (Decides-and _ _ (decides_leb 1 columns) (decides_leb columns 256)) (Decides-and _ _ (Decides-eqb (length border) columns) (decides_bits border)))

decides_above : (k before : Link) → Decides (above k before) (Above k before)
decides_above k before =
    Decides-or _ _ (Decides-ltb before.0 k.0) (Decides-and _ _ (Decides-eqb before.0 k.0) (Decides-ltb before.1 k.1))

-- what the test says of the first link and of those after it
pub record FirstLink (columns : ℕ) (before k : Link) (ks : List Link) : Type 0 where
  pub upward : Above k before
  pub lower : k.0 < k.1
  pub inside : k.1 < columns
  pub later : ascends columns k ks ≡ true

pub first_link : (columns : ℕ) (before k : Link) (ks : List Link) → ascends columns before (k ∷ ks) ≡ true → FirstLink columns before k ks
first_link columns before k ks h =
    let outer = and_parts (above k before && (ltb k.0 k.1 && ltb k.1 columns)) (ascends columns k ks) h in
    let inner = and_parts (above k before) (ltb k.0 k.1 && ltb k.1 columns) outer.0 in
    let ends = and_parts (ltb k.0 k.1) (ltb k.1 columns) inner.1 in
    record { upward = (decides_above k before).0 inner.0; lower = ltb-true k.0 k.1 ends.0; inside = ltb-true k.1 columns ends.1; later = outer.1 }

inside_of : (columns : ℕ) (before : Link) (links : List Link) → ascends columns before links ≡ true → Inside columns links
inside_of columns before [] h i lt = absurd (omega arith)
inside_of columns before (k ∷ ks) h zero lt = let f = first_link columns before k ks h in (f.lower, f.inside)
inside_of columns before (k ∷ ks) h (suc i) lt = inside_of columns k ks (first_link columns before k ks h).later i (omega arith)

upward_of : (columns : ℕ) (before : Link) (links : List Link) → ascends columns before links ≡ true → (i : ℕ) → suc i < length links → Above (get_or links (suc i) (0, 0)) (get_or links i (0, 0))
upward_of columns before [] h i lt = absurd (omega arith)
upward_of columns before (k ∷ []) h i lt = absurd (omega arith)
upward_of columns before (k ∷ (j ∷ ks)) h zero lt = (first_link columns k j ks (first_link columns before k (j ∷ ks) h).later).upward
upward_of columns before (k ∷ (j ∷ ks)) h (suc i) lt = upward_of columns k (j ∷ ks) (first_link columns before k (j ∷ ks) h).later i (omega arith)

ascends_from : (columns : ℕ) (before : Link) (links : List Link) → (0 < length links → Above (get_or links 0 (0, 0)) before) → Inside columns links → ((i : ℕ) → suc i < length links → Above (get_or links (suc i) (0, 0)) (get_or links i (0, 0))) → ascends columns before links ≡ true
ascends_from columns before [] first ins up = refl
ascends_from columns before (k ∷ ks) first ins up =
    let ends = ins 0 (omega arith) in
    and_from _ _
    (and_from _ _ ((decides_above k before).1 (first (omega arith))) (and_from _ _ (lt-ltb k.0 k.1 ends.0) (lt-ltb k.1 columns ends.1)))
    (ascends_from columns k ks (λ h. up 0 (omega arith)) (λ i h. ins (suc i) (omega arith)) (λ i h. up (suc i) (omega arith)))

above_none : (a b : ℕ) → a < b → Above (a, b) (0, 0)
above_none zero b h = inr (refl, h)
above_none (suc a) b h = inl (omega arith)

pub decides_order : (columns : ℕ) (links : List Link) → Decides (ascends columns (0, 0) links) (IsLinkOrder columns links)
decides_order columns links = (
  λ h. record { inside = inside_of columns (0, 0) links h; upward = upward_of columns (0, 0) links h },
  λ o. ascends_from columns (0, 0) links (λ some. above_none _ _ (o.inside 0 some).0) o.inside o.upward,
)

pub decides_crowded : (columns : ℕ) (links : List Link) → Decides (crowded columns links) (Crowded columns links)
decides_crowded columns links =
    Decides-below_or (λ c. ltb 6 (count_by (touches c) links)) (λ c. 6 < count_by (touches c) links) (λ c. crowded c links) (λ c. Decides-ltb 6 (count_by (touches c) links)) refl (λ _. refl) columns

pub listing_settles : (columns : ℕ) (border : List ℕ) (links : List Link) → Settles (listing_reasons columns border links) (listing_refusal columns border links)
listing_settles columns border links =
    first_settles ((not (border_fits columns border), told BorderList 0 0) ∷ (not (ascends columns (0, 0) links), told LinkOrder 0 0) ∷ (crowded columns links, told SeventhLink 0 0) ∷ []) (listing_reasons columns border links)
    (Decides-not (border_fits columns border) (decides_border columns border), refl, (Decides-not (ascends columns (0, 0) links) (decides_order columns links), refl, (decides_crowded columns links, refl, tt)))
