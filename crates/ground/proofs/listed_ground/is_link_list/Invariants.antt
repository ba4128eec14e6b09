-- What is left of the links, after the one before it, decides for all of them.
use Rattle.std.proofs.Common.{◌≡◌, drop}
use Rattle.ground.specs.Listing.{ascends}
use Rattle.ground.proofs.listed_ground.is_link_list.Given as goal

abbrev pub invariant-loop-link : goal.invariant-loop-link
invariant-loop-link l = ascends l.columns l.before (drop l.link-index l.links) ≡ ascends l.columns (0, 0) l.links
