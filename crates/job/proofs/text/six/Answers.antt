use Rattle.std.proofs.Common.{◌∙◌, rules}
use Rattle.job.proofs.Widths.{cells_justified, cells_wide}
use Rattle.job.proofs.text.six.Goals as goal

pub returns : goal.returns
returns c =
    let all = c.justified.ensures.value ∙ cells_justified c.args.n (search rules) in
    record { value = all; words = λ h. all ∙ cells_wide c.args.n h }
