-- Each row has the border byte of its column, and no links.
use Rattle.std.proofs.Common.{rules, refl, arith}
use Rattle.ground.specs.Table.{no_row}
use Rattle.ground.proofs.Filling.{bare, filled_none}
use Rattle.ground.proofs.Made.{made_at}
use Rattle.ground.proofs.listed_ground.bordered.Goals as goal

pub returns : goal.returns
returns c =
    let border = c.args.border.now in
    let rows = c.from_fn.result in
    filled_none border rows c.requires c.from_fn.ensures.items.long
    (λ k lt. (made_at _ _ (bare border) rows (λ i y q call. search rules) 0 256 _ refl c.from_fn.ensures.items.each k (omega arith) (omega arith)).1 no_row)
