use Rattle.std.proofs.Common.{get_or, set, ap, ◌∙◌, arith}
use Rattle.std.proofs.lemmas.List.{get_or_default, take_all, drop_all, append-nil}
use Rattle.std.proofs.lemmas.List.Edits.{map_over_more}
use Rattle.gate.specs.Column.{ticked, fresh}
use Rattle.gate.proofs.calls.tick_all.Goals as goal

pub loop-column-preserved : goal.loop-column-preserved
loop-column-preserved c =
    let ys = c.loop-column.columns in
    let i = c.loop-column.column-index in
    ap (set ys i) c.tick.ensures
    ∙ map_over_more ticked c.args.columns.now ys i (get_or ys i fresh) (omega arith) c.loop-column.invariant (get_or_default ys i fresh (get_or ys i fresh) (omega arith))

pub returns : goal.returns
returns c = c.loop-column.invariant ∙ rw (take_all c.loop-column.column-index c.args.columns.now (omega arith), drop_all c.loop-column.column-index c.args.columns.now (omega arith), append-nil)
