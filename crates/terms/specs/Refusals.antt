-- Refusals: each rule's number and layer, what a refusal tells, and the first that applies. Assumes nothing.
use Rattle.std.specs.Prelude.{◌≡◌, ℕ, zero, suc, Bool, cond, ◌⊎◌, List, [], ◌∷◌, ◌++◌, Some, None, Ok, Err, Option, Result}
use Rattle.terms.specs.declared.refusal.Layer.{Layer}
use Rattle.terms.specs.declared.refusal.Layer.TheVariants.{Making, Sheet, Line, Judge, SheetEnd, Gate, Recall, Play, Drawing}
use Rattle.terms.specs.declared.refusal.Rule.{Rule}
use Rattle.terms.specs.declared.refusal.Rule.TheVariants.{SquareSize, BorderList, LinkOrder, SeventhLink, SettingsRange, SheetShape, LineShape, FieldUnreadable, GoalMisplaced, EndMisplaced, MarksMixed, OffScale, NotConnected, WrongDuration, StartFalls, LeftStanding, WrongHeightsWritten, SpansCollide, FromNowhere, TooManySpans, LeftBehind, TargetMissed, NoColumn, NoStandingRobot, WrongLoad, NoLink, ColumnHeld, WrongHeights, SiteFull, NoWayHome, ActionRuns, NoRobot, NotFresh, BufferShort}
use Rattle.terms.specs.declared.refusal.Refusal.{Refusal}

abbrev pub number_of : Rule → ℕ
number_of SquareSize = 1
number_of BorderList = 2
number_of LinkOrder = 3
number_of SeventhLink = 4
number_of SettingsRange = 5
number_of SheetShape = 6
number_of LineShape = 7
number_of FieldUnreadable = 8
number_of GoalMisplaced = 9
number_of EndMisplaced = 10
number_of MarksMixed = 11
number_of OffScale = 12
number_of NotConnected = 13
number_of WrongDuration = 14
number_of StartFalls = 15
number_of LeftStanding = 16
number_of WrongHeightsWritten = 17
number_of SpansCollide = 18
number_of FromNowhere = 19
number_of TooManySpans = 20
number_of LeftBehind = 21
number_of TargetMissed = 22
number_of NoColumn = 23
number_of NoStandingRobot = 24
number_of WrongLoad = 25
number_of NoLink = 26
number_of ColumnHeld = 27
number_of WrongHeights = 28
number_of SiteFull = 29
number_of NoWayHome = 30
number_of ActionRuns = 31
number_of NoRobot = 32
number_of NotFresh = 33
number_of BufferShort = 34

abbrev pub layer_of : Rule → Layer
layer_of SquareSize = Making
layer_of BorderList = Making
layer_of LinkOrder = Making
layer_of SeventhLink = Making
layer_of SettingsRange = Making
layer_of SheetShape = Sheet
layer_of LineShape = Sheet
layer_of FieldUnreadable = Sheet
layer_of GoalMisplaced = Sheet
layer_of EndMisplaced = Sheet
layer_of MarksMixed = Line
layer_of OffScale = Line
layer_of NotConnected = Line
layer_of WrongDuration = Line
layer_of StartFalls = Judge
layer_of LeftStanding = Judge
layer_of WrongHeightsWritten = Judge
layer_of SpansCollide = Judge
layer_of FromNowhere = Judge
layer_of TooManySpans = Judge
layer_of LeftBehind = SheetEnd
layer_of TargetMissed = SheetEnd
layer_of NoColumn = Gate
layer_of NoStandingRobot = Gate
layer_of WrongLoad = Gate
layer_of NoLink = Gate
layer_of ColumnHeld = Gate
layer_of WrongHeights = Gate
layer_of SiteFull = Gate
layer_of NoWayHome = Gate
layer_of ActionRuns = Recall
layer_of NoRobot = Recall
layer_of NotFresh = Play
layer_of BufferShort = Drawing

-- what a refusal tells: a number, a layer, a line (0 where none) and a detail (0 unless named)
pub record Told : Type 0 where
  pub number : ℕ
  pub layer : Layer
  pub line : ℕ
  pub detail : ℕ

abbrev pub told : Rule → ℕ → ℕ → Told
told r l d = record { number = number_of r; layer = layer_of r; line = l; detail = d }

abbrev pub told_of : Refusal → Told
told_of f = told f.rule f.line f.detail

-- the first of a list of tests that holds names the refusal
abbrev pub first_of : List (Bool × Told) → Option Told
first_of [] = None
first_of (t ∷ ts) = cond t.0 (Some t.1) (first_of ts)

-- the first refusal of two
abbrev pub or_else : Option Told → Option Told → Option Told
or_else None o = o
or_else (Some t) o = Some t

-- what f lists of k places from place i on, one place after another
abbrev pub from_on {ℓ} : {X : Type ℓ} → (ℕ → List X) → ℕ → ℕ → List X
from_on f i zero = []
from_on f i (suc k) = f i ++ from_on f (suc i) k

-- a call that answers a value of which P holds where nothing is refused, and the refusal otherwise
abbrev pub Answers : {T : Type 0} → Option Told → (T → Type 0) → Result T Refusal → Type 0
Answers o P (Ok v) = (o ≡ None) × P v
Answers o P (Err f) = o ≡ Some (told_of f)

-- the refusal that a call answered, if it did
abbrev pub refusal_in : {T : Type 0} → Result T Refusal → Option Told
refusal_in (Ok v) = None
refusal_in (Err f) = Some (told_of f)

-- a reason for a refusal, in words: what has to be the case, and what is then told
pub record Reason : Type 1 where
  pub holds : Type 0
  pub tells : Told

-- none of the reasons holds
abbrev pub Silent : List Reason → Type 0
Silent [] = Unit {0}
Silent (r ∷ rs) = (r.holds → ⊥) × Silent rs

-- the first of the reasons that holds tells t
abbrev pub Speaks : List Reason → Told → Type 0
Speaks [] t = ⊥
Speaks (r ∷ rs) t = (r.holds × (t ≡ r.tells)) ⊎ ((r.holds → ⊥) × Speaks rs t)

-- nothing is refused exactly where no reason holds, and otherwise what the first that holds tells
abbrev pub Settles : List Reason → Option Told → Type 0
Settles rs None = Silent rs
Settles rs (Some t) = Speaks rs t
