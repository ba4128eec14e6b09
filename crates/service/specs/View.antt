-- What clauses read of deeds, and of a stage. Assumes nothing.
use Rattle.std.specs.Prelude.{List, map, vec_items}
use Rattle.gate.specs.Scene.{Scene}
use Rattle.undertaking.specs.declared.stage.Stage.{Stage}
use Rattle.undertaking.specs.Runs.{Reply}
use Rattle.service.specs.declared.deed.Deed.{Deed as Given}
use Rattle.service.specs.declared.deed.Deed.TheVariants.{Call, Play}
use Rattle.service.specs.Deeds.{Deed, done, reply_to}

abbrev pub deed_of : Given → Deed
deed_of (Call k) = Deed.call k
deed_of (Play accepted) = Deed.plays accepted.plan

-- the site after a deed as it is given, and its answer
abbrev pub given_done : Scene → Given → Scene
given_done v d = done v (deed_of d)

abbrev pub given_reply : Scene → Given → Reply
given_reply v d = reply_to v (deed_of d)

-- the deeds on a stage
abbrev pub deeds_of : Stage Given → List Deed
deeds_of stage = map deed_of (vec_items stage.requests)
