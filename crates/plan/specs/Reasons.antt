-- Why a line is refused by itself, in words. Assumes nothing.
use Rattle.std.specs.Prelude.{◌≡◌, List, [], ◌∷◌}
use Rattle.terms.specs.Durations.{SiteSettings}
use Rattle.terms.specs.Refusals.{Reason, told}
use Rattle.terms.specs.declared.refusal.Rule.TheVariants.{MarksMixed, OffScale, NotConnected, WrongDuration}
use Rattle.ground.specs.Meaning.{Meaning}
use Rattle.sheet.specs.declared.record.ActLine.{ActLine}
use Rattle.plan.specs.Lines.{written_action, due}
use Rattle.plan.specs.Rules.{Joined, Marks, OnScale}

-- the rules that a line may break by itself, in the order of precedence
abbrev pub line_reasons : Meaning → SiteSettings → ActLine → List Reason
line_reasons m s l =
    record { holds = Marks l → ⊥; tells = told MarksMixed l.line 0 }
    ∷ record { holds = OnScale m s (written_action l) → ⊥; tells = told OffScale l.line 0 }
    ∷ record { holds = Joined m (written_action l).work (written_action l).from (written_action l).to → ⊥; tells = told NotConnected l.line 0 }
    ∷ record { holds = l.end ≡ due s (written_action l) → ⊥; tells = told WrongDuration l.line 0 }
    ∷ []
