-- What a written ACT line stands for, and what refuses it by itself. Assumes nothing.
use Rattle.std.specs.Prelude.{ℕ, suc, ◌+◌, Bool, true, false, cond, not, ◌&&◌, List, [], ◌∷◌, ◌==◌, nat_lt}
use Rattle.terms.specs.Durations.{SiteSettings, duration_of}
use Rattle.terms.specs.Refusals.{Told, told}
use Rattle.terms.specs.declared.refusal.Rule.TheVariants.{MarksMixed, OffScale, NotConnected, WrongDuration}
use Rattle.terms.specs.declared.work.Work.{Work}
use Rattle.terms.specs.declared.work.Work.TheVariants.{Entry, Leave, Wait, Move, PickUp, Deliver}
use Rattle.ground.specs.Meaning.{Meaning}
use Rattle.sheet.specs.declared.record.ActLine.{ActLine}
use Rattle.sheet.specs.declared.record.Letter.{Letter}
use Rattle.sheet.specs.declared.record.Letter.TheVariants.{M, P, D}
use Rattle.sheet.specs.declared.record.Place.{Place}
use Rattle.sheet.specs.declared.record.Place.TheVariants.{Outside, At}
use Rattle.plan.specs.Plan.{Action}

-- whether a field holds a mark, S or E, in place of a number
abbrev pub marked : Place → Bool
marked Outside = true
marked (At n) = false

-- the number in a field, 0 for a mark
abbrev pub numbered : Place → ℕ
numbered Outside = 0
numbered (At n) = n

abbrev pub alike : Bool → Bool → Bool
alike true b = b
alike false b = not b

-- whether marks and carry suit a letter: marks only with M, P without a block, D with one
abbrev pub suits : Letter → Bool → Bool → Bool → Bool
suits M enters leaves carry = true
suits P enters leaves carry = not enters && (not leaves && not carry)
suits D enters leaves carry = not enters && (not leaves && carry)

-- whether the marks of a line fill both fields of their side, stand on one side at most, and suit its letter
abbrev pub marks_fit : ActLine → Bool
marks_fit l =
    alike (marked l.from.column) (marked l.from.height)
    && (alike (marked l.to.column) (marked l.to.height)
    && (not (marked l.from.column && marked l.to.column)
    && suits l.letter (marked l.from.column) (marked l.to.column) l.carry))

abbrev pub work_of : Letter → Bool → Bool → Bool → Work
work_of M enters leaves same = cond enters Entry (cond leaves Leave (cond same Wait Move))
work_of P enters leaves same = PickUp
work_of D enters leaves same = Deliver

-- what is written for a side, or else for the other where the side is outside
abbrev pub inside : Place → Place → Place → ℕ
inside column here other = cond (marked column) (numbered other) (numbered here)

-- what a line stands for
abbrev pub written_action : ActLine → Action
written_action l =
    record {
      line = l.line;
      work =
          work_of l.letter (marked l.from.column) (marked l.to.column)
          (numbered l.from.column == numbered l.to.column && numbered l.from.height == numbered l.to.height);
      from = inside l.from.column l.from.column l.to.column;
      to = inside l.to.column l.to.column l.from.column;
      from_height = inside l.from.column l.from.height l.to.height;
      to_height = inside l.to.column l.to.height l.from.height;
      carry = l.carry;
      start = l.start;
      end = l.end;
    }

-- how high a column comes, of which a height is written
abbrev pub top : Work → ℕ → ℕ
top Entry h = h
top Leave h = h
top Wait h = h
top Move h = h
top PickUp h = suc h
top Deliver h = suc h

-- whether the columns are on the ground, and come no higher than the highest height
abbrev pub on_scale : Meaning → SiteSettings → Action → Bool
on_scale m s a =
    (nat_lt a.from m.columns && nat_lt (top a.work a.from_height) s.levels)
    && (nat_lt a.to m.columns && nat_lt (top a.work a.to_height) s.levels)

-- whether the work can be done from a column f to another, o
abbrev pub joins : Meaning → Work → ℕ → ℕ → Bool
joins m Entry f o = m.border f
joins m Leave f o = m.border f
joins m Wait f o = true
joins m Move f o = m.linked f o
joins m PickUp f o = m.linked f o && not (m.border o)
joins m Deliver f o = m.linked f o && not (m.border o)

-- when an action that starts at its start has to end
abbrev pub due : SiteSettings → Action → ℕ
due s a = a.start + duration_of s.times a.work a.carry

-- what refuses a line by itself, in the order of precedence
abbrev pub line_tests : Meaning → SiteSettings → ActLine → List (Bool × Told)
line_tests m s l =
    (not (marks_fit l), told MarksMixed l.line 0)
    ∷ (not (on_scale m s (written_action l)), told OffScale l.line 0)
    ∷ (not (joins m (written_action l).work (written_action l).from (written_action l).to), told NotConnected l.line 0)
    ∷ (not (l.end == due s (written_action l)), told WrongDuration l.line 0)
    ∷ []
