use Rattle.std.proofs.Common.{codes, ap, sym, ◌∙◌, arith, rules}
use Rattle.std.proofs.lemmas.Slice.Eq.{text_from_reads}
use Rattle.console.specs.Openings.{kind_in}
use Rattle.console.proofs.lists.Lists.kind_in.Goals as goal

pub returns-in-square : goal.returns-in-square
returns-in-square c =
    let h = text_from_reads c.args.kind.now (codes "square") (omega arith) (search rules) in
    c.square_in.ensures _ _ ∙ ap (λ w. kind_in w c.args.words.now) (sym h)

pub returns-in-listed : goal.returns-in-listed
returns-in-listed c =
    let h = text_from_reads c.args.kind.now (codes "listed") (omega arith) (search rules) in
    c.listing_in.ensures ∙ ap (λ w. kind_in w c.args.words.now) (sym h)
