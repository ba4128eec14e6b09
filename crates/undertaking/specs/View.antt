-- What clauses read of a stage. Assumes nothing.
use Rattle.std.specs.Prelude.{ℕ, List, vec_items}
use Rattle.undertaking.specs.declared.stage.Stage.{Stage}

-- the requests on a stage, and how many it has room for
abbrev pub requests_of : {R : Type 0} → Stage R → List R
requests_of stage = vec_items stage.requests

abbrev pub room_of : {R : Type 0} → Stage R → ℕ
room_of stage = stage.most
