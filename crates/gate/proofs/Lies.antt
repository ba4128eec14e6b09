-- The search is handed slices; the ground lies as their columns and marks say. Assumes nothing.
use Rattle.std.proofs.Common.{◌≡◌, ℕ, ◌<◌, not, ◌||◌, eqb, List, map, length, set, Option, sym, ap, ◌∙◌, inl, inr, arith}
use Rattle.std.proofs.lemmas.List.{get_or_past, get_or-map, length-map, get_or-set_same, get_or-set_other}
use Rattle.std.proofs.lemmas.Bool.{cases_lt, cases_eq, eq-eqb, ne_eqb}
use Rattle.ground.specs.Meaning.{Meaning}
use Rattle.ways.specs.Table.{first_below, steps}
use Rattle.ways.specs.View.{heights_by, marked, relief_by}
use Rattle.gate.specs.declared.column.Column.{Column}
use Rattle.gate.specs.Column.{fresh}
use Rattle.gate.specs.Scene.{Columns, height_at, lying}
use Rattle.gate.specs.Gate.{stranded_by, lowest_stranded}

pub heights_read : (xs : Columns) (c : ℕ) → heights_by (λ (x : Column). x.height) xs c ≡ height_at xs c
heights_read xs c = elim (cases_lt c (length xs)) [
  | inl l ↦ get_or-map (λ (x : Column). x.height) xs c fresh 0 l
  | inr g ↦ get_or_past (map (λ (x : Column). x.height) xs) c 0 (omega (arith, length-map xs (λ (x : Column). x.height))) ∙ ap (λ (x : Column). x.height) (sym (get_or_past xs c fresh g))
]

pub lies_as : (xs : Columns) (marks : List ℕ) → relief_by (λ (x : Column). x.height) xs marks ≡ lying xs (marked marks)
lies_as xs marks = λ i. record { heights = λ c. heights_read xs c i; changing = marked marks }

-- a mark that is set says that its column is changing too
set_marks : (marks : List ℕ) (d : ℕ) → d < length marks → (c : ℕ) → marked (set marks d 1) c ≡ (eqb c d || marked marks c)
set_marks marks d l c = elim (cases_eq c d) [
  | inl e ↦ ap (marked (set marks d 1)) e ∙ ap (λ x. not (eqb x 0)) (get_or-set_same marks d 1 0 l) ∙ sym (ap (λ b. b || marked marks c) (eq-eqb c d e))
  | inr e ↦ ap (λ x. not (eqb x 0)) (get_or-set_other marks d c 1 0 e) ∙ sym (ap (λ b. b || marked marks c) (ne_eqb c d e))
]

pub lies_tried : (xs : Columns) (marks : List ℕ) (d : ℕ) → d < length marks → lying xs (marked (set marks d 1)) ≡ lying xs (λ c. eqb c d || marked marks c)
lies_tried xs marks d l = ap (lying xs) (λ i c. set_marks marks d l c i)

-- the steps that a search found are those of the ground as it lies
pub steps_same : (m : Meaning) (xs : Columns) (marks : List ℕ) (found : ℕ → Option ℕ) → ((c : ℕ) → found c ≡ steps m (relief_by (λ (x : Column). x.height) xs marks) c)
    → found ≡ steps m (lying xs (marked marks))
steps_same m xs marks found h = λ i c. (h c ∙ ap (λ r. steps m r c) (lies_as xs marks)) i

-- so are the robots that it leaves stranded
pub stranded_same : (m : Meaning) (xs : Columns) (marks : List ℕ) (found : ℕ → Option ℕ) → ((c : ℕ) → found c ≡ steps m (relief_by (λ (x : Column). x.height) xs marks) c)
    → first_below (stranded_by xs found) m.columns ≡ lowest_stranded m xs (lying xs (marked marks))
stranded_same m xs marks found h = ap (λ (f : ℕ → Option ℕ). first_below (stranded_by xs f) m.columns) (steps_same m xs marks found h)
