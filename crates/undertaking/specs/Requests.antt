-- Lists of requests of any kind: what each answers, by what one answers and what it makes of the site. Assumes nothing.
use Rattle.std.specs.Prelude.{List, [], ◌∷◌}
use Rattle.gate.specs.Scene.{Scene}
use Rattle.undertaking.specs.Runs.{Reply}

abbrev pub each_answers : {R : Type 0} → (Scene → R → Reply) → (Scene → R → Scene) → Scene → List R → List Reply
each_answers answers becomes v [] = []
each_answers answers becomes v (r ∷ rs) = answers v r ∷ each_answers answers becomes (becomes v r) rs
