use Rattle.std.proofs.Common.{◌≡◌, length, take, drop, sym, ap, ◌∙◌, subst, arith}
use Rattle.std.proofs.lemmas.List.{drop_at, take_at}
use Rattle.draw.specs.Rows.{Draws, text}
use Rattle.draw.proofs.Drawn.{draws}
use Rattle.draw.proofs.Texts.{length_text}
use Rattle.draw.proofs.draw.Goals as goal

pub returns-clause-words : goal.returns-clause-words
returns-clause-words c =
    let hs = c.args.heights.now in
    let n = c.in_ok-size.size in
    let long : length (text hs) ≡ n = length_text hs ∙ sym c.in_ok-size.ensures.fits.0 in
    let old = c.args.out.now in
    let e : take n c.write_rows.new.out ≡ text hs = ap (take n) c.write_rows.ensures ∙ take_at (text hs) (drop (length (text hs)) c.args.out.now) n long in
    let behind : drop n c.write_rows.new.out ≡ drop n old =
    ap (drop n) c.write_rows.ensures ∙ drop_at (text hs) (drop (length (text hs)) old) n long ∙ ap (λ k. drop k old) long in
    (subst (Draws hs) (sym e) (draws hs (λ i _. omega (arith, c.type_inv.heights i))), behind)
