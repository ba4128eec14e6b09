use Rattle.std.proofs.Common.{ℕ, List, ◌++◌, ap, ◌∙◌, arith}
use Rattle.gate.specs.Scene.{at}
use Rattle.gate.specs.declared.column.Column.{Column}
use Rattle.gate.specs.View.{scene_of}
use Rattle.console.specs.Drawing.{cell}
use Rattle.console.proofs.Writing.{one_piece}
use Rattle.console.proofs.page.Page.put_drawing.Goals as goal

pub loop-column-preserved : goal.loop-column-preserved
loop-column-preserved g c =
    let i = c.loop-column.invariant in
    let b = c.put_cell.ensures.bound in
    let cells : ℕ → List ℕ = λ k. cell c.args.width k (at (scene_of c.args.site.now).columns k) in (
      one_piece cells c.args.self.now c.loop-column.self c.put_cell.new.self c.loop-column.column i.0
          (c.put_cell.ensures.value ∙ ap (λ (x : Column). c.loop-column.self ++ cell c.args.width c.loop-column.column x) c.look.ensures),
      omega (arith, i.1, b),
    )
