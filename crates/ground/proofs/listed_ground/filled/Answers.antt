-- One link more is kept in both rows, or a full row names a column with a seventh link.
use Rattle.std.proofs.Common.{rules, ◌<◌, length, get_or, set, ap, arith}
use Rattle.std.proofs.lemmas.List.{get_or-set_other}
use Rattle.ground.specs.Table.{entries, no_row}
use Rattle.ground.proofs.Crowds.{crowd_higher, crowd_lower, filled_links, had_room, was_full}
use Rattle.ground.proofs.Filling.{filled_link}
use Rattle.ground.proofs.listed_ground.filled.Goals as goal

pub returns-in_err-rows : goal.returns-in_err-rows
returns-in_err-rows c =
    let ks = c.args.links.now in
    let i = c.loop-link.link-index in
    let rows = c.loop-link.rows in
    let k = get_or ks i (0, 0) in
    let ends = c.requires.1 i c.loop-link-test.true in
    let crowd = crowd_lower c.args.border.now ks rows i c.loop-link.invariant c.loop-link-test.true (omega (arith, ends.0, ends.1)) (was_full (get_or rows k.0 no_row) k.1 c.with_link.result c.with_link.ensures c.in_err-rows.was) in
    search (rules, crowd)

pub returns-in_err-rows-2 : goal.returns-in_err-rows-2
returns-in_err-rows-2 c =
    let ks = c.args.links.now in
    let i = c.loop-link.link-index in
    let rows = c.loop-link.rows in
    let k = get_or ks i (0, 0) in
    let ends = c.requires.1 i c.loop-link-test.true in
    let first = c.in_ok-rows.field-0 in
    let crowd = crowd_higher c.args.border.now ks rows i c.loop-link.invariant c.loop-link-test.true first ends.0 ends.1 (was_full (get_or (set rows k.0 first) k.1 no_row) k.0 c.with_link-in-loop-link.result c.with_link-in-loop-link.ensures c.in_err-rows-2.was) in
    search (rules, crowd)

pub loop-link-preserved : goal.loop-link-preserved
loop-link-preserved c =
    let ks = c.args.links.now in
    let i = c.loop-link.link-index in
    let rows = c.loop-link.rows in
    let k = get_or ks i (0, 0) in
    let ends = c.requires.1 i c.loop-link-test.true in
    let first = c.in_ok-rows.field-0 in
    let second = c.in_ok-rows-2.field-0 in
    let one = had_room (get_or rows k.0 no_row) first k.1 c.with_link.result c.with_link.ensures c.in_ok-rows.was in
    let two = had_room (get_or (set rows k.0 first) k.1 no_row) second k.0 c.with_link-in-loop-link.result c.with_link-in-loop-link.ensures c.in_ok-rows-2.was in
    let same = get_or-set_other rows k.0 k.1 first no_row (omega (arith, ends.0)) in
    let room : length (entries (get_or rows k.1 no_row)) < 6 = omega (arith, two.0, ap (λ r. length (entries r)) same) in
    filled_link c.args.border.now ks rows i c.loop-link.invariant c.loop-link-test.true first second ends.0 ends.1 one.0 room one.1 two.1

pub returns : goal.returns
returns c =
    filled_links c.args.border.now c.args.links.now c.loop-link.rows c.loop-link.link-index c.loop-link-test.false c.loop-link.invariant
