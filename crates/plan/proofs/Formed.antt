-- An action whose line is well marked has one column where it should, and the right load. Assumes nothing.
use Rattle.std.proofs.Common.{◌≡◌, ℕ, Bool, true, false, cond, ◌&&◌, eqb, sym, refl}
use Rattle.std.proofs.lemmas.Bool.{and_parts, eqb-true}
use Rattle.terms.specs.declared.work.Work.TheVariants.{Wait, Move}
use Rattle.sheet.specs.declared.record.ActLine.{ActLine}
use Rattle.sheet.specs.declared.record.Letter.{Letter}
use Rattle.sheet.specs.declared.record.Letter.TheVariants.{M, P, D}
use Rattle.plan.specs.Lines.{written_action, marked, numbered, work_of}
use Rattle.plan.specs.Rules.{Loaded, Marks, OneColumn, Suited}

-- e, x: the sides are outside; f, o: what is written for them; h: the heights are the same
one_column : (l : Letter) (e x h : Bool) (f o : ℕ) → (e ≡ true → x ≡ true → ⊥) → OneColumn (work_of l e x (eqb f o && h)) (cond e o f) (cond x f o)
one_column P e x h f o n = tt
one_column D e x h f o n = tt
one_column M true true h f o n = absurd (n refl refl)
one_column M true false h f o n = refl
one_column M false true h f o n = refl
one_column M false false h f o n = go (eqb f o && h) refl
  where
    go : (b : Bool) → (eqb f o && h) ≡ b → OneColumn (cond b Wait Move) f o
    go true e = sym (eqb-true f o (and_parts (eqb f o) h e).0)
    go false e = tt

loaded : (l : Letter) (e x b c : Bool) → Suited l e x c → Loaded (work_of l e x b) c
loaded M true x b c s = tt
loaded M false true b c s = tt
loaded M false false true c s = tt
loaded M false false false c s = tt
loaded P e x b c s = s.1.1
loaded D e x b c s = s.1.1

pub formed : (l : ActLine) → Marks l → OneColumn (written_action l).work (written_action l).from (written_action l).to × Loaded (written_action l).work (written_action l).carry
formed l k = (
  one_column l.letter (marked l.from.column) (marked l.to.column) (eqb (numbered l.from.height) (numbered l.to.height))
      (numbered l.from.column) (numbered l.to.column) k.one_side,
  loaded l.letter (marked l.from.column) (marked l.to.column) (eqb (numbered l.from.column) (numbered l.to.column) && eqb (numbered l.from.height) (numbered l.to.height)) l.carry k.suited,
)
