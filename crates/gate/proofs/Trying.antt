-- A lay or a lift is refused by one of its first tests, or by the trial, or granted. Assumes nothing.
use Rattle.std.proofs.Common.{◌≡◌, ℕ, ◌<◌, Bool, true, false, cond, ◌||◌, ltb, List, [], ◌∷◌, ◌++◌, Some, None, Option, sym, refl, ap, ◌∙◌}
use Rattle.terms.specs.Durations.{SiteSettings}
use Rattle.terms.specs.Refusals.{Told, first_of, or_else}
use Rattle.terms.proofs.First.{first_append}
use Rattle.std.proofs.lemmas.Bool.{ltb-true, not-false, or_parts}
use Rattle.ground.specs.Meaning.{Meaning}
use Rattle.ways.proofs.Firsts.{none≢some}
use Rattle.gate.specs.Scene.{Columns}
use Rattle.gate.specs.Gate.{Test, off, strands, lay_tests, lift_tests}

module _ (ts : List Test) (o : Option ℕ) where
  after_tests : (e : Option Told) → e ≡ first_of ts → first_of (ts ++ strands o ∷ []) ≡ or_else e (first_of (strands o ∷ []))
  after_tests e h = first_append ts (strands o ∷ []) ∙ ap (λ x. or_else x (first_of (strands o ∷ []))) (sym h)

  pub by_tests : {t : Told} → Some t ≡ first_of ts → Some t ≡ first_of (ts ++ strands o ∷ [])
  by_tests {t} h = sym (after_tests (Some t) h)

  pub by_trial : (e : Option Told) → None ≡ first_of ts → e ≡ first_of (strands o ∷ []) → e ≡ first_of (ts ++ strands o ∷ [])
  by_trial e h i = i ∙ sym (after_tests None h)

-- the first test fails
abbrev FirstFails : List Test → Type 0
FirstFails [] = Unit {0}
FirstFails (t ∷ ts) = t.0 ≡ false

first_fails : (ts : List Test) → None ≡ first_of ts → FirstFails ts
first_fails [] e = tt
first_fails (t ∷ ts) e = go t.0 refl e
  where
    go : (b : Bool) → t.0 ≡ b → None ≡ cond b (Some t.1) (first_of ts) → t.0 ≡ false
    go true q f = absurd (none≢some f)
    go false q f = q

on_ground : (m : Meaning) (c d : ℕ) → (off m c || off m d) ≡ false → d < m.columns
on_ground m c d e = ltb-true d m.columns (not-false (ltb d m.columns) (or_parts (off m c) (off m d) e).1)

-- so both columns are on the ground
module _ (m : Meaning) (s : SiteSettings) (xs : Columns) (c d : ℕ) where
  pub lay_on : None ≡ first_of (lay_tests m s xs c d) → d < m.columns
  lay_on e = on_ground m c d (first_fails (lay_tests m s xs c d) e)

  pub lift_on : None ≡ first_of (lift_tests m xs c d) → d < m.columns
  lift_on e = on_ground m c d (first_fails (lift_tests m xs c d) e)
