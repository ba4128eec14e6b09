-- What clauses read of a sheet. Assumes nothing.
use Rattle.std.specs.Prelude.{ℕ, ◌*◌, List, vec_items, sum_by}
use Rattle.sheet.specs.declared.record.ActLine.{ActLine}
use Rattle.sheet.specs.declared.sheet.Sheet.{Sheet}
use Rattle.sheet.specs.declared.target.Target.{Target}
use Rattle.sheet.specs.Reading.{acts, lines_in, targets}

-- the records of a sheet: its targets, its actions as written, and how many lines it has
pub record Records : Type 0 where
  pub targets : List Target
  pub acts : List ActLine
  pub lines : ℕ

abbrev pub sheet_of : Sheet → Records
sheet_of s = record { targets = vec_items s.targets; acts = vec_items s.acts; lines = s.lines }

-- what all lines of a sheet show
abbrev pub records_in : List ℕ → Records
records_in sheet = record { targets = targets sheet (lines_in sheet); acts = acts sheet (lines_in sheet); lines = lines_in sheet }

-- the work figure of targets: each height times itself, summed
abbrev pub work : List Target → ℕ
work ts = sum_by (λ t. t.height * t.height) ts
