-- Worked examples: what the definitions give, beside what is expected. Assumes nothing.
use Rattle.std.specs.Prelude.{ℕ, Bool, true, false, ◌&&◌, List, [], ◌∷◌, ◌++◌, replicate, Some, None, Ok, Err, codes, Option, Result, ◌==◌, slice_set}
use Rattle.terms.specs.Ranges.{settings_from}
use Rattle.terms.specs.Durations.{duration_of}
use Rattle.terms.specs.Refusals.{Told, told}
use Rattle.terms.specs.declared.refusal.Layer.{Layer}
use Rattle.terms.specs.declared.refusal.Layer.TheVariants.{Making, Sheet, Line, Judge, SheetEnd, Gate, Recall as RecallLayer, Play, Drawing}
use Rattle.terms.specs.declared.refusal.Rule.{Rule}
use Rattle.terms.specs.declared.refusal.Rule.TheVariants.{SquareSize, BorderList, LinkOrder, SeventhLink, SettingsRange, SheetShape, LineShape, FieldUnreadable, GoalMisplaced, EndMisplaced, MarksMixed, OffScale, NotConnected, WrongDuration, StartFalls, LeftStanding, WrongHeightsWritten, SpansCollide, FromNowhere, TooManySpans, LeftBehind, TargetMissed, NoColumn, NoStandingRobot, WrongLoad, NoLink, ColumnHeld, WrongHeights, SiteFull, NoWayHome, ActionRuns, NoRobot, NotFresh, BufferShort}
use Rattle.terms.specs.declared.work.Work.TheVariants.{Entry, Leave as LeaveWork, Wait, Move as MoveWork, PickUp, Deliver}
use Rattle.ground.specs.Squared.{square_refusal, squared}
use Rattle.gate.specs.declared.call.Call.{Call}
use Rattle.gate.specs.declared.call.Call.TheVariants.{Enter, Leave, Lift, Move, Tick}
use Rattle.gate.specs.declared.column.State.TheVariants.{Free, Standing}
use Rattle.gate.specs.declared.order.Next.{Next}
use Rattle.gate.specs.declared.order.Next.TheVariants.{Leaves, Moves}
use Rattle.gate.specs.declared.order.Order.{Order}
use Rattle.gate.specs.Column.{column, fresh}
use Rattle.gate.specs.Gate.{refusal}
use Rattle.gate.specs.Recall.{recall}
use Rattle.gate.specs.Scene.{Scene}
use Rattle.undertaking.specs.Runs.{run}
use Rattle.job.specs.Replies.{answered}

-- what is given, and what is expected, both as numbers
pub record Example : Type 0 where
  pub given : List ℕ
  pub expected : List ℕ

abbrev pub same : List ℕ → List ℕ → Bool
same [] [] = true
same [] (y ∷ ys) = false
same (x ∷ xs) [] = false
same (x ∷ xs) (y ∷ ys) = x == y && same xs ys

abbrev pub agree : List Example → Bool
agree [] = true
agree (e ∷ es) = same e.given e.expected && agree es

-- a refusal as its number, line and detail; nothing where none is
abbrev pub numbers : Option Told → List ℕ
numbers None = []
numbers (Some t) = t.number ∷ t.line ∷ t.detail ∷ []

-- what recall names: the column, the column moved to (256 where the robot leaves), the actions left; or a refusal
abbrev pub goes_to : Next → ℕ
goes_to Leaves = 256
goes_to (Moves d) = d

abbrev pub named : Result Order Told → List ℕ
named (Ok o) = o.column ∷ goes_to o.next ∷ o.left ∷ []
named (Err t) = numbers (Some t)

abbrev pub line : List ℕ → List ℕ
line text = text ++ (10 ∷ [])

-- a robot brings a block in at column 1, lays it on column 4 and leaves
abbrev pub one_block : List ℕ
one_block =
    line (codes "GOAL     4     1                  ")
    ++ line (codes "ACT      0     1   S  S 1 M   1  0")
    ++ line (codes "ACT      1     2   1  0 1 D   4  0")
    ++ line (codes "ACT      2     3   1  0 0 M   E  E")
    ++ line (codes "END      3                        ")

-- it does not leave
abbrev pub no_leave : List ℕ
no_leave =
    line (codes "GOAL     4     1                  ")
    ++ line (codes "ACT      0     1   S  S 1 M   1  0")
    ++ line (codes "ACT      1     2   1  0 1 D   4  0")
    ++ line (codes "END      2                        ")

-- it lays the block a timestep late
abbrev pub delayed : List ℕ
delayed =
    line (codes "GOAL     4     1                  ")
    ++ line (codes "ACT      0     1   S  S 1 M   1  0")
    ++ line (codes "ACT      2     3   1  0 1 D   4  0")
    ++ line (codes "ACT      3     4   1  0 0 M   E  E")
    ++ line (codes "END      3                        ")

abbrev pub nothing : List ℕ
nothing = line (codes "END      0                        ")

abbrev pub job_line : List ℕ
job_line = line (codes "JOB      3     3     2     1     0")

-- the same block on a site of 3 by 5 columns, on column 6; of 5 by 3 columns that one is at the border
abbrev pub oblong : List ℕ
oblong =
    line (codes "JOB      3     5     2     1     0")
    ++ line (codes "GOAL     6     1                  ")
    ++ line (codes "ACT      0     1   S  S 1 M   1  0")
    ++ line (codes "ACT      1     2   1  0 1 D   6  0")
    ++ line (codes "ACT      2     3   1  0 0 M   E  E")
    ++ line (codes "END      3                        ")

-- two towers, one of two blocks, which a robot on the other lays up
abbrev pub stair : List ℕ
stair =
    line (codes "JOB      3     5     3     1     0")
    ++ line (codes "GOAL     6     1                  ")
    ++ line (codes "GOAL     7     2                  ")
    ++ line (codes "ACT      0     1   S  S 1 M   2  0")
    ++ line (codes "ACT      1     2   2  0 1 D   7  0")
    ++ line (codes "ACT      2     3   2  0 0 M   E  E")
    ++ line (codes "ACT      3     4   S  S 1 M   1  0")
    ++ line (codes "ACT      4     5   1  0 1 D   6  0")
    ++ line (codes "ACT      5     6   1  0 0 M   E  E")
    ++ line (codes "ACT      6     7   S  S 1 M   1  0")
    ++ line (codes "ACT      7     8   1  0 1 M   6  1")
    ++ line (codes "ACT      8     9   6  1 1 D   7  1")
    ++ line (codes "ACT      9    10   6  1 0 M   1  0")
    ++ line (codes "ACT     10    11   1  0 0 M   E  E")
    ++ line (codes "END     11                        ")

-- two robots at once
abbrev pub crowded : List ℕ
crowded =
    line (codes "ACT      0     1   S  S 0 M   1  0")
    ++ line (codes "ACT      0     1   S  S 0 M   3  0")
    ++ line (codes "END      2                        ")

abbrev pub job_line_set_1 : List ℕ
job_line_set_1 = line (codes "JOB      3     3     2     1     1")

-- 3 by 5 columns: column 6 at height 1, 7 at 2, empty robots standing at 5 and 7
abbrev pub hill : Scene
hill =
    record {
      meaning = squared 3 5;
      settings = settings_from 3 2 0;
      columns = slice_set (slice_set (slice_set (replicate 15 fresh) 5 (column 0 (Standing false))) 6 (column 1 Free)) 7 (column 2 (Standing false));
      marks = replicate 256 0;
    }

-- the hill after calls
abbrev pub after : List Call → Scene
after calls = run hill calls

-- how long each work takes by a duration set: entry, leave and wait of a robot without and with a block, move with and without,
-- pick up and deliver without and with
abbrev pub lasting : ℕ → List ℕ
lasting set =
    let t = (settings_from 2 1 set).times in
    duration_of t Entry false ∷ duration_of t Entry true
    ∷ duration_of t LeaveWork false ∷ duration_of t LeaveWork true
    ∷ duration_of t Wait false ∷ duration_of t Wait true
    ∷ duration_of t MoveWork true ∷ duration_of t MoveWork false
    ∷ duration_of t PickUp false ∷ duration_of t PickUp true
    ∷ duration_of t Deliver false ∷ duration_of t Deliver true
    ∷ []

abbrev pub layer_text : Layer → List ℕ
layer_text Making = codes "making"
layer_text Sheet = codes "sheet"
layer_text Line = codes "line"
layer_text Judge = codes "judge"
layer_text SheetEnd = codes "sheet's end"
layer_text Gate = codes "gate"
layer_text RecallLayer = codes "recall"
layer_text Play = codes "play"
layer_text Drawing = codes "drawing"

-- a rule with the number and the layer that its refusals tell
abbrev pub tells : Rule → ℕ → List ℕ → Example
tells rule number layer = record { given = (told rule 0 0).number ∷ layer_text (told rule 0 0).layer; expected = number ∷ layer }

-- jobs are given as bytes, and expected as what is printed of them, the drawing after play too
abbrev pub examples : List Example
examples =
    record { given = answered (job_line ++ one_block); expected = line (codes "OK       3     3     1") ++ line (codes "  0  0  0  0  1  0  0  0  0") }
    ∷ record { given = answered (job_line ++ nothing); expected = line (codes "OK       0     0     0") ++ line (codes "  0  0  0  0  0  0  0  0  0") }
    ∷ record { given = answered (job_line ++ no_leave); expected = line (codes "BAD     21     3     0") }
    ∷ record { given = answered (job_line ++ delayed); expected = line (codes "BAD     16     3     1") }
    ∷ record { given = answered (job_line_set_1 ++ one_block); expected = line (codes "BAD     14     2     0") }
    ∷ record { given = answered oblong; expected = line (codes "OK       3     3     1") ++ line (codes "  0  0  0  0  0  0  1  0  0  0  0  0  0  0  0") }
    ∷ record { given = answered stair; expected = line (codes "OK      11    11     1") ++ line (codes "  0  0  0  0  0  0  1  2  0  0  0  0  0  0  0") }
    ∷ record { given = answered (job_line ++ crowded); expected = line (codes "BAD     20     2     0") }
    ∷ record { given = numbers (square_refusal 16 1); expected = [] }
    ∷ record { given = numbers (square_refusal 17 1); expected = 1 ∷ 0 ∷ 0 ∷ [] }
    ∷ record { given = numbers (refusal hill (Lift 5 6)); expected = 30 ∷ 0 ∷ 7 ∷ [] }
    ∷ record { given = numbers (refusal hill (Enter 0 false)); expected = 29 ∷ 0 ∷ 0 ∷ [] }
    ∷ record { given = named (recall hill); expected = 5 ∷ 256 ∷ 4 ∷ [] }
    ∷ record { given = named (recall (after (Leave 5 ∷ Tick ∷ []))); expected = 7 ∷ 6 ∷ 3 ∷ [] }
    ∷ record { given = named (recall (after (Leave 5 ∷ Tick ∷ Move 7 6 ∷ Tick ∷ []))); expected = 6 ∷ 1 ∷ 2 ∷ [] }
    ∷ record { given = named (recall (after (Leave 5 ∷ Tick ∷ Move 7 6 ∷ Tick ∷ Move 6 1 ∷ Tick ∷ []))); expected = 1 ∷ 256 ∷ 1 ∷ [] }
    ∷ record { given = named (recall (after (Leave 5 ∷ Tick ∷ Move 7 6 ∷ Tick ∷ Move 6 1 ∷ Tick ∷ Leave 1 ∷ Tick ∷ []))); expected = 32 ∷ 0 ∷ 0 ∷ [] }
    ∷ record { given = lasting 0; expected = 1 ∷ 1 ∷ 1 ∷ 1 ∷ 1 ∷ 1 ∷ 1 ∷ 1 ∷ 1 ∷ 1 ∷ 1 ∷ 1 ∷ [] }
    ∷ record { given = lasting 1; expected = 2 ∷ 2 ∷ 1 ∷ 1 ∷ 1 ∷ 1 ∷ 1 ∷ 1 ∷ 2 ∷ 2 ∷ 2 ∷ 2 ∷ [] }
    ∷ record { given = lasting 2; expected = 3 ∷ 3 ∷ 2 ∷ 2 ∷ 1 ∷ 1 ∷ 3 ∷ 1 ∷ 3 ∷ 3 ∷ 3 ∷ 3 ∷ [] }
    ∷ record { given = lasting 3; expected = 3 ∷ 3 ∷ 3 ∷ 3 ∷ 1 ∷ 1 ∷ 3 ∷ 2 ∷ 2 ∷ 2 ∷ 3 ∷ 3 ∷ [] }
    ∷ tells SquareSize 1 (codes "making")
    ∷ tells BorderList 2 (codes "making")
    ∷ tells LinkOrder 3 (codes "making")
    ∷ tells SeventhLink 4 (codes "making")
    ∷ tells SettingsRange 5 (codes "making")
    ∷ tells SheetShape 6 (codes "sheet")
    ∷ tells LineShape 7 (codes "sheet")
    ∷ tells FieldUnreadable 8 (codes "sheet")
    ∷ tells GoalMisplaced 9 (codes "sheet")
    ∷ tells EndMisplaced 10 (codes "sheet")
    ∷ tells MarksMixed 11 (codes "line")
    ∷ tells OffScale 12 (codes "line")
    ∷ tells NotConnected 13 (codes "line")
    ∷ tells WrongDuration 14 (codes "line")
    ∷ tells StartFalls 15 (codes "judge")
    ∷ tells LeftStanding 16 (codes "judge")
    ∷ tells WrongHeightsWritten 17 (codes "judge")
    ∷ tells SpansCollide 18 (codes "judge")
    ∷ tells FromNowhere 19 (codes "judge")
    ∷ tells TooManySpans 20 (codes "judge")
    ∷ tells LeftBehind 21 (codes "sheet's end")
    ∷ tells TargetMissed 22 (codes "sheet's end")
    ∷ tells NoColumn 23 (codes "gate")
    ∷ tells NoStandingRobot 24 (codes "gate")
    ∷ tells WrongLoad 25 (codes "gate")
    ∷ tells NoLink 26 (codes "gate")
    ∷ tells ColumnHeld 27 (codes "gate")
    ∷ tells WrongHeights 28 (codes "gate")
    ∷ tells SiteFull 29 (codes "gate")
    ∷ tells NoWayHome 30 (codes "gate")
    ∷ tells ActionRuns 31 (codes "recall")
    ∷ tells NoRobot 32 (codes "recall")
    ∷ tells NotFresh 33 (codes "play")
    ∷ tells BufferShort 34 (codes "drawing")
    ∷ []
