-- Each test of a job decides its reason in words, so the first that holds settles the job. Assumes nothing.
use Rattle.std.proofs.Common.{◌≡◌, ℕ, ◌<◌, ◌≤◌, not, ◌&&◌, eqb, leb, List, [], ◌∷◌, ◌++◌, length, get_or, take, is_some, Some, None, Ok, Err, codes, Decides, Option, Result, unwrap_or, refl, arith}
use Rattle.std.specs.Result.{result_err}
use Rattle.std.proofs.lemmas.Bool.Decides.{Decides-and, Decides-eqb, Decides-like, Decides-ltb, Decides-not}
use Rattle.terms.specs.Ranges.{settings_from, settings_reasons, settings_refusal, within}
use Rattle.terms.specs.Refusals.{Reason, Settles, Told, first_of, or_else, told}
use Rattle.terms.specs.declared.refusal.Rule.TheVariants.{SheetShape, LineShape, FieldUnreadable, SquareSize, SettingsRange}
use Rattle.terms.proofs.First.{first_settles}
use Rattle.terms.proofs.Tests.{decides_leb}
use Rattle.ground.specs.Squared.{square_reasons, square_refusal, squared}
use Rattle.sheet.specs.Lines.{spelt}
use Rattle.sheet.specs.Reading.{reading_refusal}
use Rattle.sheet.specs.Reasons.{reading_reasons}
use Rattle.sheet.proofs.Reasoned.{reading_settles}
use Rattle.judge.specs.Judging.{judging_refusal, sheet_tests}
use Rattle.judge.specs.Reasons.{judging_reasons, sheet_reasons}
use Rattle.judge.proofs.Reasoned.{sheet_settles}
use Rattle.judge.proofs.Silence.{settles_both}
use Rattle.sheet.specs.View.{records_in}
use Rattle.job.specs.declared.order.Order.{Order}
use Rattle.job.specs.Jobs.{first_line, is_job, job_refusal, making_refusal, order, order_tests, sheet_in, sheet_refusal}
use Rattle.job.specs.OrderLine.{JobLine}
use Rattle.job.specs.Words.{after_line, job_reasons, unread_field}

or_else_assoc : (a b c : Option Told) → or_else (or_else a b) c ≡ or_else a (or_else b c)
or_else_assoc None b c = refl
or_else_assoc (Some t) b c = refl

-- four bytes, one by one
four : (a b c d : ℕ) → Decides (eqb a 74 && (eqb b 79 && (eqb c 66 && eqb d 32))) ((a ≡ 74) × ((b ≡ 79) × ((c ≡ 66) × (d ≡ 32))))
four a b c d =
    Decides-and (eqb a 74) _ (Decides-eqb a 74) (Decides-and (eqb b 79) _ (Decides-eqb b 79) (Decides-and (eqb c 66) (eqb d 32) (Decides-eqb c 66) (Decides-eqb d 32)))

spelt_decides : (l : List ℕ) → Decides (spelt l 74 79 66 32) (take 4 l ≡ codes "JOB ")
spelt_decides [] = (λ e. let p = (four 0 0 0 0).0 e in absurd (omega arith), λ e. let z : ◌≡◌ {A = ℕ} 0 1 = cc in absurd (omega arith))
spelt_decides (a ∷ []) = (λ e. let p = ((four a 0 0 0).0 e).1 in absurd (omega arith), λ e. let z : ◌≡◌ {A = ℕ} 0 1 = cc in absurd (omega arith))
spelt_decides (a ∷ b ∷ []) = (λ e. let p = ((four a b 0 0).0 e).1.1 in absurd (omega arith), λ e. let z : ◌≡◌ {A = ℕ} 0 1 = cc in absurd (omega arith))
spelt_decides (a ∷ b ∷ c ∷ []) = (λ e. let p = ((four a b c 0).0 e).1.1.1 in absurd (omega arith), λ e. let z : ◌≡◌ {A = ℕ} 0 1 = cc in absurd (omega arith))
spelt_decides (a ∷ b ∷ c ∷ d ∷ l) = (
  λ e.
      let p = (four a b c d).0 e in
      let pa = p.0 in let pb = p.1.0 in let pc = p.1.1.0 in let pd = p.1.1.1 in
      cc,
  λ e.
      let pa : a ≡ 74 = cc in let pb : b ≡ 79 = cc in let pc : c ≡ 66 = cc in let pd : d ≡ 32 = cc in
      (four a b c d).1 (pa, (pb, (pc, pd))),
)

job_decides : (l : List ℕ) → Decides (is_job l) (JobLine l)
job_decides l =
    Decides-like (is_job l) (λ p. record { newline = p.0; word = p.1 }) (λ j. (j.newline, j.word))
    (Decides-and (eqb (get_or l 34 0) 10) (spelt l 74 79 66 32) (Decides-eqb (get_or l 34 0) 10) (spelt_decides l))

field_decides : (r : Result Order ℕ) → Decides (is_some (result_err r)) ((k : ℕ) × (r ≡ Err k))
field_decides (Ok o) = (λ e. let z : ◌≡◌ {A = ℕ} 0 1 = cc in absurd (omega arith), λ p. let q = p.1 in let z : ◌≡◌ {A = ℕ} 0 1 = cc in absurd (omega arith))
field_decides (Err k) = (λ _. (k, refl), λ _. refl)

field_tells : (r : Result Order ℕ) → told FieldUnreadable 0 (unwrap_or (result_err r) 0) ≡ told FieldUnreadable 0 (unread_field r)
field_tells (Ok o) = refl
field_tells (Err k) = refl

-- the reasons in a job's line alone
abbrev line_reasons : List ℕ → List Reason
line_reasons input =
    record { holds = length input < 35; tells = told SheetShape 0 0 }
    ∷ record { holds = JobLine (first_line input) → ⊥; tells = told LineShape 0 0 }
    ∷ record { holds = (k : ℕ) × (order input ≡ Err k); tells = told FieldUnreadable 0 (unread_field (order input)) }
    ∷ []

order_settles : (input : List ℕ) → Settles (line_reasons input) (first_of (order_tests input))
order_settles input =
    first_settles (order_tests input) (line_reasons input) (
      Decides-ltb (length input) 35,
      refl,
      (
        Decides-not (is_job (first_line input)) (job_decides (first_line input)),
        refl,
        (field_decides (order input), field_tells (order input), tt),
      ),
    )

within_decides : (low high n : ℕ) → Decides (within low high n) ((low ≤ n) × (n ≤ high))
within_decides low high n = Decides-and (leb low n) (leb n high) (decides_leb low n) (decides_leb n high)

size_settles : (x y : ℕ) → Settles (square_reasons x y) (square_refusal x y)
size_settles x y =
    first_settles ((not ((leb 1 x && leb x 16) && (leb 1 y && leb y 16)), told SquareSize 0 0) ∷ []) (square_reasons x y) (
      Decides-not (within 1 16 x && within 1 16 y)
          (Decides-like (within 1 16 x && within 1 16 y) (λ p. record { x_low = p.0.0; x_high = p.0.1; y_low = p.1.0; y_high = p.1.1 }) (λ s. ((s.x_low, s.x_high), (s.y_low, s.y_high)))
          (Decides-and (within 1 16 x) (within 1 16 y) (within_decides 1 16 x) (within_decides 1 16 y))),
      refl,
      tt,
    )

range_settles : (levels robots set : ℕ) → Settles (settings_reasons levels robots set) (settings_refusal levels robots set)
range_settles levels robots set =
    first_settles ((not (within 1 16 levels && (within 1 64 robots && leb set 3)), told SettingsRange 0 0) ∷ []) (settings_reasons levels robots set) (
      Decides-not (within 1 16 levels && (within 1 64 robots && leb set 3))
          (Decides-like (within 1 16 levels && (within 1 64 robots && leb set 3))
          (λ p. record { levels_low = p.0.0; levels_high = p.0.1; robots_low = p.1.0.0; robots_high = p.1.0.1; set_high = p.1.1 })
          (λ s. ((s.levels_low, s.levels_high), ((s.robots_low, s.robots_high), s.set_high)))
          (Decides-and (within 1 16 levels) _ (within_decides 1 16 levels) (Decides-and (within 1 64 robots) (leb set 3) (within_decides 1 64 robots) (decides_leb set 3)))),
      refl,
      tt,
    )

-- what is made of the line's numbers, and the sheet
after_settles : (r : Result Order ℕ) (sheet : List ℕ) → Settles (after_line r sheet) (or_else (making_refusal r) (sheet_refusal r sheet))
unfolding judging_reasons judging_refusal
after_settles (Err k) sheet = tt
after_settles (Ok o) sheet =
    let m = squared o.x o.y in
    let s = settings_from o.levels o.robots o.set in
    let judged : Settles (judging_reasons m s sheet) (judging_refusal m s sheet) =
    settles_both (reading_reasons m s sheet) (sheet_reasons m s (records_in sheet)) (reading_refusal m s sheet) (first_of (sheet_tests m s (records_in sheet)))
    (reading_settles m s sheet) (sheet_settles m s (records_in sheet)) in
    let ranges = settings_reasons o.levels o.robots o.set in
    let range = settings_refusal o.levels o.robots o.set in
    rw or_else_assoc
    (settles_both (square_reasons o.x o.y) (ranges ++ judging_reasons m s sheet) (square_refusal o.x o.y) (or_else range (judging_refusal m s sheet)) (size_settles o.x o.y)
    (settles_both ranges (judging_reasons m s sheet) range (judging_refusal m s sheet) (range_settles o.levels o.robots o.set) judged))

pub job_settles : (input : List ℕ) → Settles (job_reasons input) (job_refusal input)
unfolding job_reasons
job_settles input =
    settles_both (line_reasons input) (after_line (order input) (sheet_in input)) (first_of (order_tests input)) (or_else (making_refusal (order input)) (sheet_refusal (order input) (sheet_in input)))
    (order_settles input) (after_settles (order input) (sheet_in input))
