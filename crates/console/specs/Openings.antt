-- The line that opens a site: its ground and its settings. Assumes nothing.
use Rattle.std.specs.Prelude.{ℕ, cond, List, [], ◌∷◌, take, drop, Some, None, codes, Option, ◌==◌, option_and_then}
use Rattle.std.specs.List.{position_or_len}
use Rattle.std.specs.Option.{option_map}
use Rattle.std.specs.Str.{bytes_eq}
use Rattle.terms.specs.Durations.{SiteSettings}
use Rattle.terms.specs.Ranges.{settings_from, settings_refusal}
use Rattle.terms.specs.Refusals.{Told, or_else}
use Rattle.ground.specs.Meaning.{Meaning}
use Rattle.ground.specs.Listing.{Link, listed, listing_refusal}
use Rattle.ground.specs.Squared.{square_refusal, squared}
use Rattle.console.specs.declared.opening.Numbers.{Numbers}
use Rattle.console.specs.Commands.{at_end, behind, column_in, first_word, with_column, with_number}

-- a square ground of x by y columns, or a listed one of a border list and links; and the numbers of the settings
pub data Opening : Type 0 where
  square : ℕ → ℕ → Numbers → Opening
  listing : ℕ → Numbers → List ℕ → List Link → Opening

-- levels, robots and duration set, and what follows them
abbrev pub numbers_in : List (List ℕ) → Option Numbers
numbers_in ws =
    with_number ws (λ levels ws. with_number ws (λ robots ws. with_number ws (λ set ws.
    Some (record { levels = levels; robots = robots; set = set }))))

abbrev pub behind_three : List (List ℕ) → List (List ℕ)
behind_three ws = behind (behind (behind ws))

abbrev pub with_settings : {X : Type 0} → List (List ℕ) → (Numbers → List (List ℕ) → Option X) → Option X
with_settings ws f = option_and_then (λ s. f s (behind_three ws)) (numbers_in ws)

abbrev pub square_in : List (List ℕ) → Option Opening
square_in ws = with_number ws (λ x ws. with_number ws (λ y ws. with_settings ws (λ s ws. at_end ws (Opening.square x y s))))

-- a border list: a digit for each column, 1 for border and 0 for none
abbrev pub before : {X : Type 0} → X → Option (List X) → Option (List X)
before x o = option_map (λ xs. x ∷ xs) o

abbrev pub border_in : List ℕ → Option (List ℕ)
border_in [] = Some []
border_in (b ∷ bs) = cond (b == 48) (before 0 (border_in bs)) (cond (b == 49) (before 1 (border_in bs)) None)

-- a link: its lower and its higher column, with a dash between them
abbrev pub dash : List ℕ → ℕ
dash w = position_or_len (λ b. b == 45) w

abbrev pub ends_in : List ℕ → List ℕ → Option Link
ends_in low high = option_and_then (λ c. option_map (λ d. (c, d)) (column_in high)) (column_in low)

abbrev pub ends_around : List ℕ → List ℕ → Option Link
ends_around low [] = None
ends_around low (b ∷ high) = ends_in low high

abbrev pub link_in : List ℕ → Option Link
link_in w = ends_around (take (dash w) w) (drop (dash w) w)

abbrev pub links_in : List (List ℕ) → Option (List Link)
links_in [] = Some []
links_in (w ∷ ws) = option_and_then (λ k. before k (links_in ws)) (link_in w)

abbrev pub listing_of : ℕ → Numbers → Option (List ℕ) → Option (List Link) → Option Opening
listing_of n s border links = option_and_then (λ b. option_map (Opening.listing n s b) links) border

abbrev pub listing_in : List (List ℕ) → Option Opening
listing_in ws =
    with_column ws (λ n ws. with_settings ws (λ s ws.
    listing_of n s (option_and_then border_in (first_word ws)) (links_in (behind ws))))

-- the ground by the word behind `open`
abbrev pub kind_in : List ℕ → List (List ℕ) → Option Opening
kind_in w ws = cond (bytes_eq w (codes "square")) (square_in ws) (cond (bytes_eq w (codes "listed")) (listing_in ws) None)

abbrev pub opening_of : List ℕ → List (List ℕ) → Option Opening
opening_of w ws = cond (bytes_eq w (codes "open")) (option_and_then (λ k. kind_in k (behind ws)) (first_word ws)) None

abbrev pub opening_in : List (List ℕ) → Option Opening
opening_in ws = option_and_then (λ w. opening_of w (behind ws)) (first_word ws)

-- why it is refused: its ground, or else its settings
abbrev pub numbers_refusal : Numbers → Option Told
numbers_refusal s = settings_refusal s.levels s.robots s.set

abbrev pub opening_refusal : Opening → Option Told
opening_refusal (Opening.square x y s) = or_else (square_refusal x y) (numbers_refusal s)
opening_refusal (Opening.listing n s border links) = or_else (listing_refusal n border links) (numbers_refusal s)

-- what it opens, and how wide a row of its drawing is
abbrev pub numbers_settings : Numbers → SiteSettings
numbers_settings s = settings_from s.levels s.robots s.set

abbrev pub opened_ground : Opening → Meaning
opened_ground (Opening.square x y s) = squared x y
opened_ground (Opening.listing n s border links) = listed n border links

abbrev pub opened_settings : Opening → SiteSettings
opened_settings (Opening.square x y s) = numbers_settings s
opened_settings (Opening.listing n s border links) = numbers_settings s

abbrev pub opened_width : Opening → ℕ
opened_width (Opening.square x y s) = y
opened_width (Opening.listing n s border links) = 16
