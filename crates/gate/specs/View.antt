-- What clauses read of a site, and of a rule that refuses. Assumes nothing.
use Rattle.std.specs.Prelude.{ℕ, Some, None, Ok, Err, vec_items, Option, Result}
use Rattle.terms.specs.Refusals.{Told, told}
use Rattle.terms.specs.View.{settings_of}
use Rattle.terms.specs.declared.refusal.Rule.{Rule}
use Rattle.gate.specs.declared.site.Site.{Site}
use Rattle.gate.specs.declared.trial.Stranded.{Stranded}
use Rattle.gate.specs.Scene.{Scene}

abbrev pub scene_of : {G : Type 0} {g : _} → Site G g → Scene
scene_of {G} {g} site =
    record { meaning = g.meaning site.floor; settings = settings_of site.settings; columns = vec_items site.columns; marks = site.marks }

-- what a rule tells that names no line and no detail
abbrev pub ruled : {T : Type 0} → Result T Rule → Option Told
ruled (Ok x) = None
ruled (Err rule) = Some (told rule 0 0)

-- the column of a robot that a change would strand, if it would
abbrev pub stranded_in : {T : Type 0} → Result T Stranded → Option ℕ
stranded_in (Ok x) = None
stranded_in (Err stranded) = Some stranded.column
