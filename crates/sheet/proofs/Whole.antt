-- The refusal of a sheet, one line after another. Assumes nothing.
use Rattle.std.proofs.Common.{◌≡◌, ℕ, zero, suc, ◌+◌, ◌-◌, ◌*◌, ◌<◌, Bool, true, false, cond, eqb, List, ◌++◌, length, get_or, take, drop, Some, None, Option, sym, refl, ap, ◌∙◌, arith}
use Rattle.std.proofs.lemmas.List.{drop-drop}
use Rattle.std.specs.Simd.{first_chunks}
use Rattle.terms.specs.Durations.{SiteSettings}
use Rattle.terms.specs.Refusals.{Told, told, first_of, from_on, or_else}
use Rattle.terms.specs.declared.refusal.Rule.TheVariants.{SheetShape}
use Rattle.terms.proofs.First.{first_append, goes_on, none_left, stops_at}
use Rattle.ground.specs.Meaning.{Meaning}
use Rattle.sheet.specs.declared.record.ActLine.{ActLine}
use Rattle.sheet.specs.declared.target.Target.{Target}
use Rattle.sheet.specs.Kinds.{line_tests}
use Rattle.sheet.specs.Lines.{record_in}
use Rattle.sheet.specs.View.{Records, records_in}
use Rattle.sheet.specs.Reading.{bad_sheet, line_at, lines_in, place_tests, reading_refusal, shown_at, targets, acts, tests_at, goals_of, acts_of}

-- the lines of a sheet, as they are cut
pub line_cut : (k i : ℕ) (xs : List ℕ) (d : List ℕ) → i < k → get_or (first_chunks 35 k xs) i d ≡ line_at xs i
line_cut zero i xs d h = absurd (omega arith)
line_cut (suc k) zero xs d h = refl
line_cut (suc k) (suc i) xs d h =
    let on : 35 + 35 * i ≡ 35 * suc i = omega arith in
    line_cut k i (drop 35 xs) d (omega arith) ∙ ap (take 35) (drop-drop (35 * i) 35 xs) ∙ ap (λ (n : ℕ). take 35 (drop n xs)) on

-- the first i lines of a sheet show these targets and these actions, and none of them is refused
pub record SoFar (m : Meaning) (s : SiteSettings) (sheet : List ℕ) (i : ℕ) (ts : List Target) (ls : List ActLine) : Type 0 where
  pub targets_read : ts ≡ targets sheet i
  pub acts_read : ls ≡ acts sheet i
  pub rest : first_of (from_on (tests_at m s sheet) i (lines_in sheet - i)) ≡ first_of (from_on (tests_at m s sheet) 0 (lines_in sheet))

-- what refuses the line of a number, as the code finds it
abbrev pub refused_here : Meaning → SiteSettings → ℕ → List ℕ → Bool → List Target → ℕ → Option Told
refused_here m s number l last ts n = or_else (first_of (line_tests number l)) (first_of (place_tests m s number last ts n (record_in number l)))

module _ (m : Meaning) (s : SiteSettings) (sheet : List ℕ) where
  pub shape_refused : bad_sheet sheet ≡ true → reading_refusal m s sheet ≡ Some (told SheetShape 0 0)
  unfolding reading_refusal
  shape_refused h = ap (λ (b : Bool). cond b (Some (told SheetShape 0 0)) (first_of (from_on (tests_at m s sheet) 0 (lines_in sheet)))) h

  lines_refused : bad_sheet sheet ≡ false → reading_refusal m s sheet ≡ first_of (from_on (tests_at m s sheet) 0 (lines_in sheet))
  unfolding reading_refusal
  lines_refused h = ap (λ (b : Bool). cond b (Some (told SheetShape 0 0)) (first_of (from_on (tests_at m s sheet) 0 (lines_in sheet)))) h

  line_refused : (m' : Meaning) (s' : SiteSettings) (j i total : ℕ) (l : List ℕ) (ts : List Target) (n : ℕ) → m' ≡ m → s' ≡ s → j ≡ i → l ≡ line_at sheet i → total ≡ lines_in sheet
      → ts ≡ targets sheet i → n ≡ length (acts sheet i)
      → refused_here m' s' (j + 1) l (eqb (j + 1) total) ts n ≡ first_of (tests_at m s sheet i)
  line_refused m' s' j i total l ts n em es ej el ea et ec =
      let next : j + 1 ≡ suc i = omega arith in
      let last : eqb (j + 1) total ≡ eqb (suc i) (lines_in sheet) = cc in
      let same : refused_here m' s' (j + 1) l (eqb (j + 1) total) ts n ≡ refused_here m s (suc i) (line_at sheet i) (eqb (suc i) (lines_in sheet)) (targets sheet i) (length (acts sheet i)) = cc in
      same ∙ sym (first_append (line_tests (suc i) (line_at sheet i)) (place_tests m s (suc i) (eqb (suc i) (lines_in sheet)) (targets sheet i) (length (acts sheet i)) (record_in (suc i) (line_at sheet i))))

  -- line i, as the code reads it: behind j lines, and for m' and s'
  module _ (m' : Meaning) (s' : SiteSettings) (j i total : ℕ) (l : List ℕ) (ts : List Target) (ls : List ActLine) (n : ℕ) (em : m' ≡ m) (es : s' ≡ s) (ej : j ≡ i) (below : i < lines_in sheet)
      (el : l ≡ line_at sheet i) (ea : total ≡ lines_in sheet) (ec : n ≡ length ls) (so_far : SoFar m s sheet i ts ls) where
    here : refused_here m' s' (j + 1) l (eqb (j + 1) total) ts n ≡ first_of (tests_at m s sheet i)
    here = line_refused m' s' j i total l ts n em es ej el ea so_far.targets_read (ec ∙ ap length so_far.acts_read)

    pub one_more : (us : List Target) (vs : List ActLine) → refused_here m' s' (j + 1) l (eqb (j + 1) total) ts n ≡ None → us ≡ ts ++ goals_of (record_in (j + 1) l) → vs ≡ ls ++ acts_of (record_in (j + 1) l)
        → SoFar m s sheet (i + 1) us vs
    one_more us vs none eu ev =
        let next : j + 1 ≡ suc i = omega arith in
        let more : i + 1 ≡ suc i = omega arith in
        let shown : record_in (j + 1) l ≡ shown_at sheet i = cc in
        record {
          targets_read = eu ∙ same (λ ts r. ts ++ goals_of r) so_far.targets_read shown ∙ sym (ap (targets sheet) more);
          acts_read = ev ∙ same (λ ls r. ls ++ acts_of r) so_far.acts_read shown ∙ sym (ap (acts sheet) more);
          rest = goes_on (tests_at m s sheet) i (lines_in sheet) below (sym here ∙ none) ∙ so_far.rest;
        }
      where
        same : {A B C : Type 0} (f : A → B → C) {a a' : A} {b b' : B} → a ≡ a' → b ≡ b' → f a b ≡ f a' b'
        same f p q = cc

    pub stops_here : (t : Told) → bad_sheet sheet ≡ false → refused_here m' s' (j + 1) l (eqb (j + 1) total) ts n ≡ Some t → reading_refusal m s sheet ≡ Some t
    stops_here t good e = lines_refused good ∙ sym so_far.rest ∙ stops_at (tests_at m s sheet) i (lines_in sheet) t below (sym here ∙ e)

  pub all_read : (i lines : ℕ) (ts : List Target) (ls : List ActLine) → lines ≡ i → i ≡ lines_in sheet → SoFar m s sheet i ts ls → bad_sheet sheet ≡ false
      → (reading_refusal m s sheet ≡ None) × ◌≡◌ {A = Records} (record { targets = ts; acts = ls; lines = lines }) (records_in sheet)
  all_read i lines ts ls el end so_far good = (
    lines_refused good ∙ sym so_far.rest ∙ none_left (tests_at m s sheet) i (lines_in sheet) (omega arith),
    same (so_far.targets_read ∙ ap (targets sheet) end) (so_far.acts_read ∙ ap (acts sheet) end) (el ∙ end),
  )
    where
      same : {a b : List Target} {p q : List ActLine} {j k : ℕ} → a ≡ b → p ≡ q → j ≡ k
          → ◌≡◌ {A = Records} (record { targets = a; acts = p; lines = j }) (record { targets = b; acts = q; lines = k })
      same d e f = cc
