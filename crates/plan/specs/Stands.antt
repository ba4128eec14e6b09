-- What a written ACT line stands for, case by case. Assumes nothing.
use Rattle.std.specs.Prelude.{◌≡◌, ℕ}
use Rattle.terms.specs.declared.work.Work.{Work}
use Rattle.terms.specs.declared.work.Work.TheVariants.{Entry, Leave, Wait, Move, PickUp, Deliver}
use Rattle.sheet.specs.declared.record.ActLine.{ActLine}
use Rattle.sheet.specs.declared.record.Letter.TheVariants.{M, P, D}
use Rattle.sheet.specs.declared.record.Place.TheVariants.{Outside, At}
use Rattle.sheet.specs.declared.record.Side.{Side}
use Rattle.plan.specs.Plan.{Action}

-- a side shows column c and height h
abbrev pub Shows : Side → ℕ → ℕ → Type 0
Shows side c h = (side.column ≡ At c) × (side.height ≡ At h)

-- a side shows the mark for outside
abbrev pub Away : Side → Type 0
Away side = (side.column ≡ Outside) × (side.height ≡ Outside)

-- the action is this work, from column c of height h to column d of height k, and otherwise what the line says
pub record Does (l : ActLine) (a : Action) (w : Work) (c h d k : ℕ) : Type 0 where
  pub work : a.work ≡ w
  pub from : a.from ≡ c
  pub from_height : a.from_height ≡ h
  pub to : a.to ≡ d
  pub to_height : a.to_height ≡ k
  pub line : a.line ≡ l.line
  pub carry : a.carry ≡ l.carry
  pub start : a.start ≡ l.start
  pub end : a.end ≡ l.end

-- M is an entry from outside, a leave to outside, a wait where both sides show the same, and else a move; P picks up, D delivers
pub data StandsFor (l : ActLine) (a : Action) : Type 0 where
  entry : (c h : ℕ) → l.letter ≡ M → Away l.from → Shows l.to c h → Does l a Entry c h c h → StandsFor l a
  leave : (c h : ℕ) → l.letter ≡ M → Shows l.from c h → Away l.to → Does l a Leave c h c h → StandsFor l a
  wait : (c h : ℕ) → l.letter ≡ M → Shows l.from c h → Shows l.to c h → Does l a Wait c h c h → StandsFor l a
  move : (c h d k : ℕ) → l.letter ≡ M → Shows l.from c h → Shows l.to d k → ((c ≡ d) × (h ≡ k) → ⊥) → Does l a Move c h d k → StandsFor l a
  pick_up : (c h d k : ℕ) → l.letter ≡ P → Shows l.from c h → Shows l.to d k → Does l a PickUp c h d k → StandsFor l a
  deliver : (c h d k : ℕ) → l.letter ≡ D → Shows l.from c h → Shows l.to d k → Does l a Deliver c h d k → StandsFor l a
