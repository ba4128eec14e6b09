use Rattle.std.proofs.Common.{◌≡◌, ◌+◌, ◌≤◌, ◌++◌, length, vec_items, vec_len}
use Rattle.std.specs.Option.{option_map}
use Rattle.console.specs.Openings.{links_in}
use Rattle.console.proofs.lists.Lists.read_links.Given as goal

-- the links so far are read, and the rest is still to be
abbrev pub invariant-loop-word : goal.invariant-loop-word
invariant-loop-word l =
    (links_in l.fn.words ≡ option_map (λ more. vec_items l.self.links ++ more) (links_in l.words))
    × (vec_len l.self.links + length l.words ≤ 65536)
    × (vec_items l.self.border ≡ vec_items l.initial.self.border)

abbrev pub decreases-loop-word : goal.decreases-loop-word
decreases-loop-word l = length l.words
