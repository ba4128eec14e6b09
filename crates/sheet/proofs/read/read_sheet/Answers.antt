use Rattle.std.proofs.Common.{◌≡◌, ℕ, List, [], Some, get_or, ap, ◌∙◌, sym, true, subst, arith, rules}
use Rattle.std.proofs.lemmas.Option.{MatchOption-at_some}
use Rattle.terms.specs.Refusals.{Answers, Settles, told, told_of}
use Rattle.terms.specs.View.{settings_of}
use Rattle.terms.specs.declared.refusal.Rule.TheVariants.{SheetShape}
use Rattle.terms.proofs.First.{answers_settle}
use Rattle.sheet.specs.declared.sheet.Sheet.{Sheet}
use Rattle.sheet.specs.Reading.{bad_sheet, line_at, reading_refusal}
use Rattle.sheet.specs.Reasons.{reading_reasons}
use Rattle.sheet.specs.View.{records_in, sheet_of}
use Rattle.sheet.proofs.Reasoned.{reading_settles}
use Rattle.sheet.specs.Gathered.{IsSheet}
use Rattle.sheet.proofs.Gathered.{is_sheet, sheets}
use Rattle.sheet.proofs.Written.{reads_as_written}
use Rattle.sheet.proofs.Whole.{all_read, line_cut, one_more, shape_refused, stops_here}
use Rattle.sheet.proofs.read.read_sheet.Goals as goal

pub returns-in_err-lines : goal.returns-in_err-lines
returns-in_err-lines g c =
    let m = g.G.Ground.meaning c.args.ground.now in
    let s = settings_of c.args.settings.now in
    let sheet = c.args.sheet.now in
    let bad : bad_sheet sheet ≡ true = search rules in
    let e : reading_refusal m s sheet ≡ Some (told SheetShape 0 0) = shape_refused m s sheet bad in
    let value : Answers (reading_refusal m s sheet) (λ (x : Sheet). sheet_of x ≡ records_in sheet) c.from_residual.result = search (rules, e) in
    record { value = value; words = answers_settle _ _ _ _ value (reading_settles m s sheet); shows = reads_as_written; gathers = sheets m s sheet _ value }

pub returns-in_err-take_line : goal.returns-in_err-take_line
returns-in_err-take_line g c =
    let m = g.G.Ground.meaning c.args.ground.now in
    let s = settings_of c.args.settings.now in
    let sheet = c.args.sheet.now in
    let reader = c.loop-line.reader in
    let i = c.loop-line.line-index in
    let l = get_or c.in_ok-lines.lines.now i [] in
    let inv = c.loop-line.invariant in
    let w = MatchOption-at_some _ _ c.in_ok-lines.lines c.in_ok-lines.ensures.ok_part c.lines_of.ensures in
    let cut : l ≡ line_at sheet i = ap (λ (ls : List (List ℕ)). get_or ls i []) w.1 ∙ line_cut _ i sheet [] (omega arith) in
    let e : reading_refusal m s sheet ≡ Some (told_of c.in_err-take_line.field-0.0) =
    stops_here m s sheet (g.G.Ground.meaning reader.ground.now) (settings_of reader.settings.now) reader.lines i reader.total l reader.targets.items reader.acts.items _
    (ap g.G.Ground.meaning inv.0) (ap settings_of inv.1) inv.3 (omega arith) cut inv.2 reader.acts.ok.0 inv.4 _ w.0 c.in_err-take_line.ensures.value in
    let value : Answers (reading_refusal m s sheet) (λ (x : Sheet). sheet_of x ≡ records_in sheet) c.from_residual-in_err-take_line.result = search (rules, e) in
    record { value = value; words = answers_settle _ _ _ _ value (reading_settles m s sheet); shows = reads_as_written; gathers = sheets m s sheet _ value }

pub loop-line-preserved : goal.loop-line-preserved
loop-line-preserved g c =
    let m = g.G.Ground.meaning c.args.ground.now in
    let s = settings_of c.args.settings.now in
    let sheet = c.args.sheet.now in
    let reader = c.loop-line.reader in
    let i = c.loop-line.line-index in
    let l = get_or c.in_ok-lines.lines.now i [] in
    let inv = c.loop-line.invariant in
    let taken = c.in_ok-take_line.ensures in
    let w = MatchOption-at_some _ _ c.in_ok-lines.lines c.in_ok-lines.ensures.ok_part c.lines_of.ensures in
    let cut : l ≡ line_at sheet i = ap (λ (ls : List (List ℕ)). get_or ls i []) w.1 ∙ line_cut _ i sheet [] (omega arith) in (
      taken.same.0 ∙ inv.0,
      taken.same.1 ∙ inv.1,
      taken.total ∙ inv.2,
      omega arith,
      one_more m s sheet (g.G.Ground.meaning reader.ground.now) (settings_of reader.settings.now) reader.lines i reader.total l reader.targets.items reader.acts.items _
          (ap g.G.Ground.meaning inv.0) (ap settings_of inv.1) inv.3 (omega arith) cut inv.2 reader.acts.ok.0 inv.4 _ _ taken.value.0 taken.value.1.0 taken.value.1.1,
    )

pub returns : goal.returns
returns g c =
    let m = g.G.Ground.meaning c.args.ground.now in
    let s = settings_of c.args.settings.now in
    let sheet = c.args.sheet.now in
    let reader = c.loop-line.reader in
    let inv = c.loop-line.invariant in
    let w = MatchOption-at_some _ _ c.in_ok-lines.lines c.in_ok-lines.ensures.ok_part c.lines_of.ensures in
    let all = all_read m s sheet c.loop-line.line-index reader.lines reader.targets.items reader.acts.items inv.3 (omega arith) inv.4 w.0 in
    record { value = all; words = subst (Settles (reading_reasons m s sheet)) all.0 (reading_settles m s sheet); shows = reads_as_written; gathers = subst (IsSheet sheet) (sym all.1) (is_sheet m s sheet all.0) }
