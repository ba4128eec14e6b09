-- The listed ground: a border list and a list of links, and which lists are refused. Assumes nothing.
use Rattle.std.specs.Prelude.{◌≡◌, ℕ, zero, suc, ◌<◌, ◌≤◌, Bool, true, false, not, ◌&&◌, ◌||◌, leb, ◌⊎◌, List, [], ◌∷◌, length, get_or, count_by, Decides, Option, ◌==◌, nat_le, nat_lt, slice_index, slice_index_or}
use Rattle.std.specs.List.{list_all}
use Rattle.terms.specs.declared.refusal.Rule.TheVariants.{BorderList, LinkOrder, SeventhLink}
use Rattle.terms.specs.Refusals.{Reason, Told, first_of, told}
use Rattle.ground.specs.Meaning.{Meaning}

-- a link, by its lower and its higher column
abbrev pub Link : Type 0
Link = ℕ × ℕ

-- whether a link is {c, d}
abbrev pub joins : ℕ → ℕ → Link → Bool
joins c d k = (k.0 == c && k.1 == d) || (k.0 == d && k.1 == c)

-- whether some link of a list is {c, d}
abbrev pub some_joins : ℕ → ℕ → List Link → Bool
some_joins c d [] = false
some_joins c d (k ∷ ks) = joins c d k || some_joins c d ks

-- column c is at the border where byte c is 1, and c and d are linked where some link is {c, d}
abbrev pub listed : ℕ → List ℕ → List Link → Meaning
listed columns border links = record {
  columns = columns;
  border = λ c. (slice_index border c == 1);
  linked = λ c d. some_joins c d links;
}

-- a link of the list joins c and d, one way or the other
abbrev pub Lists : List Link → ℕ → ℕ → Type 0
Lists links c d = (i : ℕ) × (i < length links) × ((get_or links i (0, 0) ≡ (c, d)) ⊎ (get_or links i (0, 0) ≡ (d, c)))

-- a meaning that is the listed ground of a border list and a list of links, told column by column
pub record IsListed (n : ℕ) (bytes : List ℕ) (links : List Link) (m : Meaning) : Type 0 where
  pub columns : m.columns ≡ n
  pub border : (c : ℕ) → c < n → Decides (m.border c) (slice_index bytes c ≡ 1)
  pub linked : (c d : ℕ) → Decides (m.linked c d) (Lists links c d)

-- 1 to 256 columns, and a byte of 0 or 1 for each
abbrev pub border_fits : ℕ → List ℕ → Bool
border_fits columns border =
    (nat_le 1 columns && nat_le columns 256) && (length border == columns && list_all (λ b. leb b 1) border)

pub record IsBorderList (columns : ℕ) (border : List ℕ) : Type 0 where
  pub low : 1 ≤ columns
  pub high : columns ≤ 256
  pub long : length border ≡ columns
  pub bits : (c : ℕ) → c < length border → slice_index border c ≤ 1

-- whether a link is above another, by its lower column and then by its higher one
abbrev pub above : Link → Link → Bool
above k before = nat_lt before.0 k.0 || (before.0 == k.0 && nat_lt before.1 k.1)

abbrev pub Above : Link → Link → Type 0
Above k before = (before.0 < k.0) ⊎ ((before.0 ≡ k.0) × (before.1 < k.1))

-- each link goes from a lower column to a higher one of the ground, and is above the one before it
abbrev pub ascends : ℕ → Link → List Link → Bool
ascends columns before [] = true
ascends columns before (k ∷ ks) = (above k before && (nat_lt k.0 k.1 && nat_lt k.1 columns)) && ascends columns k ks

-- every link goes from a lower column to a higher one of the ground
abbrev pub Inside : ℕ → List Link → Type 0
Inside columns links =
    (i : ℕ) → i < length links → ((get_or links i (0, 0)).0 < (get_or links i (0, 0)).1) × ((get_or links i (0, 0)).1 < columns)

pub record IsLinkOrder (columns : ℕ) (links : List Link) : Type 0 where
  pub inside : Inside columns links
  pub upward : (i : ℕ) → suc i < length links → Above (slice_index_or links (suc i) (0, 0)) (slice_index_or links i (0, 0))

-- whether a link is one of column c's
abbrev pub touches : ℕ → Link → Bool
touches c k = k.0 == c || k.1 == c

-- whether one of the first columns has a seventh link
abbrev pub crowded : ℕ → List Link → Bool
crowded zero links = false
crowded (suc c) links = nat_lt 6 (count_by (touches c) links) || crowded c links

-- some column has a seventh link
abbrev pub Crowded : ℕ → List Link → Type 0
Crowded columns links = (c : ℕ) × (c < columns) × (6 < count_by (touches c) links)

abbrev pub listing_refusal : ℕ → List ℕ → List Link → Option Told
listing_refusal columns border links =
    first_of ((not (border_fits columns border), told BorderList 0 0) ∷ (not (ascends columns (0, 0) links), told LinkOrder 0 0) ∷ (crowded columns links, told SeventhLink 0 0) ∷ [])

abbrev pub listing_reasons : ℕ → List ℕ → List Link → List Reason
listing_reasons columns border links =
    (record { holds = IsBorderList columns border → ⊥; tells = told BorderList 0 0 }) ∷ (record { holds = IsLinkOrder columns links → ⊥; tells = told LinkOrder 0 0 }) ∷ (record { holds = Crowded columns links; tells = told SeventhLink 0 0 }) ∷ []
