use Rattle.std.proofs.Common.{◌≡◌}
use Rattle.terms.specs.View.{settings_of}
use Rattle.sheet.specs.Reading.{lines_in}
use Rattle.sheet.proofs.Whole.{SoFar}
use Rattle.sheet.proofs.read.read_sheet.Given as goal

-- the lines so far are read for this ground and these settings, and none of them was refused
abbrev pub invariant-loop-line : goal.invariant-loop-line
invariant-loop-line g l =
    (l.reader.ground.now ≡ l.ground) ×
    (l.reader.settings.now ≡ l.settings) ×
    (l.reader.total ≡ lines_in l.sheet) ×
    (l.reader.lines ≡ l.line-index) ×
    SoFar (g.G.Ground.meaning l.ground) (settings_of l.settings) l.sheet l.line-index l.reader.targets.items l.reader.acts.items
