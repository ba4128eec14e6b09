use Rattle.std.proofs.Common.{codes, ◌++◌, ap, sym, ◌∙◌}
use Rattle.console.specs.Halls.{printed}
use Rattle.console.specs.Lines.{entries_in}
use Rattle.console.specs.Printed.{behind_opening, first_part, found}
use Rattle.console.specs.View.{made_hall}
use Rattle.console.proofs.Opened.{opened_so, too_long_so, unopened_so}
use Rattle.console.proofs.answering.answer.Goals.{in-Some, in_default}
use Rattle.console.proofs.answering.answer.Goals as goal

pub returns-then-is_too_long-clause-words : goal.returns-then-is_too_long-clause-words
returns-then-is_too_long-clause-words c =
    too_long_so c.args.script.now c.into_vec.result.items (sym c.is_too_long.ensures ∙ c.if-is_too_long.true) (c.into_vec.ensures ∙ c.put.ensures ∙ ap (λ l. l ++ codes "a script has at most 65536 bytes and 8192 newlines\n") c.new-page.ensures)

pub returns-clause-words : goal.returns-clause-words
returns-clause-words c =
    let short = sym c.is_too_long.ensures ∙ c.if-is_too_long.false in
    let whole = c.of-script.ensures.value in
    let first = c.find_opening.ensures.page ∙ ap (λ l. l ++ first_part c.of-script.result) c.new-page.ensures ∙ ap first_part whole in
    elim c.match-find_opening.branch [
      | in-Some w ↦
          let o = w.in-Some.ensures.made in
          opened_so c.args.script.now c.into_vec-2.result.items o.0 w.in-Some.made short (sym (ap found whole) ∙ o.1) o.2
          (c.into_vec-2.ensures ∙ w.page-is ∙ w.serve_made.ensures ∙ ap (λ l. l ++ printed (made_hall w.in-Some.made) c.find_opening.new.script) first
          ∙ ap (λ es. first_part (entries_in c.args.script.now) ++ printed (made_hall w.in-Some.made) es) (w.in-Some.ensures.script ∙ ap behind_opening whole))
      | in_default w ↦ unopened_so c.args.script.now c.into_vec-2.result.items short (sym (ap found whole) ∙ w.in_default.ensures.made) (c.into_vec-2.ensures ∙ w.page-is ∙ first)
    ]
