-- What clauses read of a console's values. Assumes nothing.
use Rattle.std.specs.Prelude.{◌≡◌, ℕ, ◌<◌, List, Some, None, Option, vec_len}
use Rattle.terms.specs.View.{settings_of}
use Rattle.ground.specs.View.{listed_of, square_of}
use Rattle.gate.specs.Scene.{opened}
use Rattle.gate.specs.View.{scene_of}
use Rattle.ground.specs.Listing.{Link}
use Rattle.console.specs.declared.entry.Entry.{Entry as Held}
use Rattle.console.specs.declared.made.Made.{Made}
use Rattle.console.specs.declared.made.Made.TheVariants.{Square as MadeSquare, Listed as MadeListed}
use Rattle.console.specs.declared.opening.Opening.{Opening as Read}
use Rattle.console.specs.declared.opening.Opening.TheVariants.{Square, Listed}
use Rattle.console.specs.declared.hall.Hall.{Hall as Open}
use Rattle.console.specs.Halls.{Hall}
use Rattle.console.specs.Lines.{Entry, said}
use Rattle.console.specs.Openings.{Opening}
use Rattle.console.specs.Printed.{opened_hall}

abbrev pub entry_of : Held → Entry
entry_of e = record { line = e.line; words = said e.text.now; sheet = e.sheet.now }

-- what was read of an opening, with a border list and links
abbrev pub opening_of : List ℕ → List Link → Read → Opening
opening_of border links (Square x y s) = Opening.square x y s
opening_of border links (Listed n s) = Opening.listing n s border links

abbrev pub hall_of : {G : Type 0} {g : _} → Open G g → Hall
hall_of h = record { scene = scene_of h.site; sheets = vec_len h.sheets; width = h.width }

-- the hall that a made ground and settings open
abbrev pub made_hall : Made → Hall
made_hall (MadeSquare floor settings width) = record { scene = opened (square_of floor) (settings_of settings); sheets = 16; width = width }
made_hall (MadeListed floor settings) = record { scene = opened (listed_of floor) (settings_of settings); sheets = 16; width = 16 }

-- what an opening makes opens its hall
pub record Makes (o : Opening) (m : Made) : Type 0 where
  pub hall : made_hall m ≡ opened_hall o
  pub wide : 0 < (made_hall m).width

-- what is made of the opening that a line makes, if it makes one
abbrev pub MadeBy : Option Opening → Option Made → Type 0
MadeBy o None = o ≡ None
MadeBy o (Some m) = (p : Opening) × (o ≡ Some p) × Makes p m
