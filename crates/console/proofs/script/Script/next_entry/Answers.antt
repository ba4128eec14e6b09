use Rattle.std.proofs.Common.{◌+◌, ◌≤◌, length, arith, ap, sym, ◌∙◌}
use Rattle.console.specs.Lines.{entries, lines}
use Rattle.console.proofs.Lining.{next_is, stays_within}
use Rattle.console.proofs.script.Script.next_entry.Goals as goal

stays : (c : goal.After-rest-2-1) → c.self.inside.line + 1 + c.cut_below-count.result.count + length (lines c.cut_below-count.result.rest.now) ≤ 8194
stays c =
    let long = ap length c.cut_line.ensures.lines in
    let inside = c.self.invariant.0 in
    stays_within c.self.inside.line c.cut_below-count.result.count 8194 c.cut_line.result.0.now (lines c.cut_line.result.1.now) (lines c.cut_below-count.result.rest.now)
    (omega (arith, long, inside)) c.cut_below-count.ensures.count c.cut_below-count.ensures.rest

pub overflow_add-self-2 : goal.overflow_add-self-2
overflow_add-self-2 c = let h = stays c in omega (arith, h)

pub invariant_of-self : goal.invariant_of-self
invariant_of-self c =
    let long = ap length c.cut_line.ensures.lines in
    let inside = c.self.invariant.0 in (
      stays_within c.self.inside.line c.cut_below-count.result.count 8194 c.cut_line.result.0.now (lines c.cut_line.result.1.now) (lines c.cut_below-count.result.rest.now)
          (omega (arith, long, inside)) c.cut_below-count.ensures.count c.cut_below-count.ensures.rest,
      (let whole = c.self.invariant.1 in let w = c.cut_below-count.ensures.within in let r = c.cut_line.ensures.shorter in omega (arith, whole, w, r)),
    )

pub returns : goal.returns
returns c =
    sym c.self.view_is ∙ ap (entries c.self.inside.line 0) c.cut_line.ensures.lines
    ∙ next_is c.self.inside.line c.cut_below-count.result.count c.cut_line.result.0.now (lines c.cut_line.result.1.now) c.cut_below-count.result.sheet.now
    (lines c.cut_below-count.result.rest.now) _ c.cut_below-count.ensures.count c.cut_below-count.ensures.sheet c.cut_below-count.ensures.rest (omega arith)
