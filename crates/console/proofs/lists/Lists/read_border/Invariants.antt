use Rattle.std.proofs.Common.{◌≡◌, ◌++◌, drop, vec_items, vec_len}
use Rattle.std.specs.Option.{option_map}
use Rattle.console.specs.Openings.{border_in}
use Rattle.console.proofs.lists.Lists.read_border.Given as goal

-- the digits so far are read, and the rest is still to be
abbrev pub invariant-loop-byte : goal.invariant-loop-byte
invariant-loop-byte l =
    (border_in l.word ≡ option_map (λ more. vec_items l.self.border ++ more) (border_in (drop l.byte-index l.word)))
    × (vec_len l.self.border ≡ l.byte-index)
    × (vec_items l.self.links ≡ vec_items l.initial.self.links)
