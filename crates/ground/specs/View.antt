-- What a made ground means. Assumes nothing.
use Rattle.ground.specs.Meaning.{Meaning}
use Rattle.ground.specs.Squared.{squared}
use Rattle.ground.specs.Table.{tabled}
use Rattle.ground.specs.declared.listed.Listed.{Listed}
use Rattle.ground.specs.declared.square.Square.{Square}

abbrev pub square_of : Square → Meaning
square_of s = squared s.x s.y

abbrev pub listed_of : Listed → Meaning
listed_of l = tabled l.columns l.rows
