-- A sheet that is read is what its lines come to. Assumes nothing.
use Rattle.std.proofs.Common.{◌≡◌, ℕ, zero, suc, ◌+◌, ◌-◌, ◌*◌, ◌/◌, ◌%◌, ◌<◌, ◌≤◌, Bool, true, false, cond, not, ◌||◌, eqb, ltb, List, [], ◌∷◌, ◌++◌, length, get_or, take, drop, is_some, Some, None, Ok, Err, Option, Result, sym, refl, ap, ◌∙◌, subst, inl, inr, arith, length-append, length-drop, length-take}
use Rattle.std.specs.Prelude.{IfOk}
use Rattle.std.specs.Result.{result_err, result_ok}
use Rattle.std.proofs.lemmas.Bool.{cases_lt, eqb-true, not-false, or_parts, true≢false}
use Rattle.std.proofs.lemmas.List.{append-nil, get_or-append_right, get_or_append_left}
use Rattle.terms.specs.Durations.{SiteSettings}
use Rattle.terms.specs.Refusals.{Answers, Told, first_of, from_on, or_else}
use Rattle.terms.specs.declared.refusal.Refusal.{Refusal}
use Rattle.terms.proofs.First.{first_append}
use Rattle.ground.specs.Meaning.{Meaning}
use Rattle.sheet.specs.declared.record.ActLine.{ActLine}
use Rattle.sheet.specs.declared.record.Record.{Record}
use Rattle.sheet.specs.declared.record.Record.TheVariants.{Goal, Act, Note, End}
use Rattle.sheet.specs.declared.sheet.Sheet.{Sheet}
use Rattle.sheet.specs.declared.target.Target.{Target}
use Rattle.sheet.specs.Gathered.{Gathered, IsSheet}
use Rattle.sheet.specs.Kinds.{line_tests}
use Rattle.sheet.specs.Lines.{Word, bad_field, bad_shape, fields, misshapen, printable, read, record_in, shown, unread, word_in}
use Rattle.sheet.specs.Reading.{acts, acts_of, bad_sheet, goals_of, line_at, lines_in, place_tests, reading_refusal, shown_at, targets, tests_at}
use Rattle.sheet.specs.Records.{act_in, end_in, goal_in}
use Rattle.sheet.specs.View.{Records, records_in, sheet_of}
use Rattle.sheet.specs.Written.{Written}
use Rattle.sheet.proofs.Readable.{none_some}
use Rattle.sheet.proofs.Written.{reads}

-- ---- where nothing is refused, nothing is refused at any place

neither : (o p : Option Told) → or_else o p ≡ None → (o ≡ None) × (p ≡ None)
neither None p e = (refl, e)
neither (Some t) p e = cc

passed : (b : Bool) (t : Told) (rest : Option Told) → cond b (Some t) rest ≡ None → (b ≡ false) × (rest ≡ None)
passed true t rest e = cc
passed false t rest e = (refl, e)

all_pass : (f : ℕ → List (Bool × Told)) (k i : ℕ) → first_of (from_on f i k) ≡ None → (j : ℕ) → i ≤ j → j < i + k → first_of (f j) ≡ None
all_pass f zero i e j l h = absurd (omega arith)
all_pass f (suc k) i e j l h =
    let p = neither (first_of (f i)) (first_of (from_on f (suc i) k)) (sym (first_append (f i) (from_on f (suc i) k)) ∙ e) in
    elim (cases_lt i j) [
      | inl g ↦ all_pass f k (suc i) p.1 j (omega arith) (omega arith)
      | inr g ↦ let same : i ≡ j = omega arith in subst (λ (x : ℕ). first_of (f x) ≡ None) same p.0
    ]

-- ---- a line that is not refused shows a record

some_record : (x : Result Record ℕ) → result_err x ≡ None → (r : Record) × (result_ok x ≡ Some r)
some_record (Ok r) e = (r, refl)
some_record (Err k) e = absurd (none_some (sym e))

has_record : (n : ℕ) (o : Option Word) (fs : List ℕ) → misshapen o fs ≡ false → unread (shown n o fs) ≡ None → (r : Record) × (read (shown n o fs) ≡ Some r)
has_record n None fs p e = absurd (true≢false p)
has_record n (Some Word.goal) fs p e = some_record (goal_in fs) e
has_record n (Some Word.act) fs p e = some_record (act_in n fs) e
has_record n (Some Word.note) fs p e = (Note, refl)
has_record n (Some Word.end) fs p e = some_record (end_in fs) e

readable : (o : Option ℕ) → is_some o ≡ false → o ≡ None
readable None e = refl
readable (Some k) e = absurd (true≢false e)

-- one more record
gather_one : {rs : List Record} {ts : List Target} {ls : List ActLine} (r : Record) → Gathered rs ts ls
    → Gathered (rs ++ (r ∷ [])) (ts ++ goals_of (Some r)) (ls ++ acts_of (Some r))
gather_one {rs} {ts} {ls} (Goal c h) g = subst (λ (l : List ActLine). Gathered (rs ++ (Goal c h ∷ [])) (ts ++ (record { column = c; height = h } ∷ [])) l) (sym (append-nil ls)) (Gathered.goal c h g)
gather_one {rs} {ts} {ls} (Act a) g = subst (λ (t : List Target). Gathered (rs ++ (Act a ∷ [])) t (ls ++ (a ∷ []))) (sym (append-nil ts)) (Gathered.act a g)
gather_one {rs} {ts} {ls} Note g =
    subst (λ (t : List Target). Gathered (rs ++ (Note ∷ [])) t (ls ++ [])) (sym (append-nil ts))
    (subst (λ (l : List ActLine). Gathered (rs ++ (Note ∷ [])) ts l) (sym (append-nil ls)) (Gathered.note g))
gather_one {rs} {ts} {ls} (End k) g =
    subst (λ (t : List Target). Gathered (rs ++ (End k ∷ [])) t (ls ++ [])) (sym (append-nil ts))
    (subst (λ (l : List ActLine). Gathered (rs ++ (End k ∷ [])) ts l) (sym (append-nil ls)) (Gathered.end k g))

module _ (m : Meaning) (s : SiteSettings) (sheet : List ℕ) (fine : reading_refusal m s sheet ≡ None) where
  parts : (bad_sheet sheet ≡ false) × (first_of (from_on (tests_at m s sheet) 0 (lines_in sheet)) ≡ None)
  unfolding reading_refusal
  parts = passed (bad_sheet sheet) _ (first_of (from_on (tests_at m s sheet) 0 (lines_in sheet))) fine

  long : length sheet ≡ 35 * lines_in sheet
  long =
      let p = (or_parts (not (eqb (length sheet % 35) 0)) (ltb 1500 (lines_in sheet)) (or_parts (eqb (length sheet) 0) _ parts.0).1).0 in
      let none : length sheet % 35 ≡ 0 = eqb-true (length sheet % 35) 0 (not-false (eqb (length sheet % 35) 0) p) in
      omega arith

  line_long : (i : ℕ) → i < lines_in sheet → length (line_at sheet i) ≡ 35
  line_long i l =
      let t = length-take 35 (drop (35 * i) sheet) in
      let d = length-drop (35 * i) sheet in
      let w = long in
      omega arith

  -- line i shows a record
  record_at : (i : ℕ) → i < lines_in sheet → (r : Record) × (shown_at sheet i ≡ Some r) × Written (suc i) (line_at sheet i) r
  record_at i l =
      let tests = all_pass (tests_at m s sheet) (lines_in sheet) 0 parts.1 i (omega arith) (omega arith) in
      let here = line_tests (suc i) (line_at sheet i) in
      let place = place_tests m s (suc i) (eqb (suc i) (lines_in sheet)) (targets sheet i) (length (acts sheet i)) (shown_at sheet i) in
      let by_itself = (neither (first_of here) (first_of place) (sym (first_append here place) ∙ tests)).0 in
      let shape = passed (bad_shape (line_at sheet i)) _ _ by_itself in
      let field = passed (is_some (bad_field (suc i) (line_at sheet i))) _ _ shape.1 in
      let r = has_record (suc i) (word_in (line_at sheet i)) (fields (line_at sheet i)) shape.0 (readable (bad_field (suc i) (line_at sheet i)) field.0) in
      (r.0, r.1, reads (suc i) (line_at sheet i) (line_long i l) r.0 shape.0 r.1)

  record So (n : ℕ) : Type 0 where
    shows : List Record
    many : length shows ≡ n
    written : (i : ℕ) → i < n → Written (suc i) (line_at sheet i) (get_or shows i Note)
    gathered : Gathered shows (targets sheet n) (acts sheet n)

  so_far : (n : ℕ) → n ≤ lines_in sheet → So n
  so_far zero l = record { shows = []; many = refl; written = λ i h. absurd (omega arith); gathered = Gathered.none }
  so_far (suc n) l =
      let before = so_far n (omega arith) in
      let r = record_at n (omega arith) in
      let rs : List Record = before.shows ++ (r.0 ∷ []) in
      record {
        shows = rs;
        many = length-append before.shows (r.0 ∷ []) ∙ ap (λ (k : ℕ). k + 1) before.many ∙ omega arith;
        written = λ i h. elim (cases_lt i n) [
          | inl g ↦
              let e : get_or rs i Note ≡ get_or before.shows i Note = get_or_append_left before.shows (r.0 ∷ []) Note i (omega (arith, before.many)) in
              subst (Written (suc i) (line_at sheet i)) (sym e) (before.written i g)
          | inr g ↦
              let same : n ≡ i = omega arith in
              let z : n - n ≡ 0 = omega arith in
              let e : get_or rs n Note ≡ r.0 = get_or-append_right before.shows (r.0 ∷ []) n n Note before.many (omega arith) ∙ ap (λ (k : ℕ). get_or (r.0 ∷ []) k Note) z in
              subst (λ (k : ℕ). Written (suc k) (line_at sheet k) (get_or rs k Note)) same (subst (Written (suc n) (line_at sheet n)) (sym e) r.2)
        ];
        gathered =
            let P : Option Record → Type 0 = λ o. Gathered rs (targets sheet n ++ goals_of o) (acts sheet n ++ acts_of o) in
            subst P (sym r.1) (gather_one r.0 before.gathered);
      }

  pub is_sheet : IsSheet sheet (records_in sheet)
  is_sheet =
      let all = so_far (lines_in sheet) (omega arith) in
      record {
        shows = all.shows;
        whole = long ∙ ap (λ (k : ℕ). 35 * k) (sym all.many);
        written = λ i l. all.written i (omega (arith, all.many));
        gathered = all.gathered;
        lines = sym all.many;
      }

-- what an answer that is read says
pub sheets : (m : Meaning) (s : SiteSettings) (sheet : List ℕ) (r : Result Sheet Refusal) → Answers (reading_refusal m s sheet) (λ x. sheet_of x ≡ records_in sheet) r
    → IfOk r (λ x. IsSheet sheet (sheet_of x))
sheets m s sheet (Ok x) a = subst (IsSheet sheet) (sym a.1) (is_sheet m s sheet a.0)
sheets m s sheet (Err f) a = tt
