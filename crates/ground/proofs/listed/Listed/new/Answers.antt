-- The tests name the first reason to refuse; where there is none, the rows mean what the lists say.
use Rattle.std.proofs.Common.{rules, ◌≡◌, get_or, Some, sym, ap, ◌∙◌, subst, arith}
use Rattle.terms.specs.Refusals.{Settles, refusal_in}
use Rattle.std.specs.List.{flat_map}
use Rattle.ground.specs.Listing.{listing_reasons, listing_refusal}
use Rattle.ground.specs.Table.{Filled, no_row, other}
use Rattle.ground.proofs.Crowds.{crowded_within, not_crowded}
use Rattle.ground.proofs.Makes.{means_lists, rows_lawful, rows_tell}
use Rattle.ground.proofs.Picks.{packed_at}
use Rattle.ground.proofs.Ordered.{decides_border, decides_order, listing_settles}
use Rattle.ground.proofs.Refuses.{refuse_border, refuse_crowd, refuse_none, refuse_order}
use Rattle.ground.proofs.Told.{is_listed}
use Rattle.ground.proofs.listed.Listed.new.Goals as goal

pub returns-then-not-is_border_list-clause-words : goal.returns-then-not-is_border_list-clause-words
returns-then-not-is_border_list-clause-words c =
    let n = c.args.columns in
    let border = c.args.border.now in
    let ks = c.args.links.now in
    let e = refuse_border n border ks (sym c.is_border_list.ensures ∙ c.if-not-is_border_list.true) ∙ ap (λ t. Some t) (sym c.into.ensures) in
    subst (Settles (listing_reasons n border ks)) e (listing_settles n border ks)

pub returns-then-not-is_link_list-clause-words : goal.returns-then-not-is_link_list-clause-words
returns-then-not-is_link_list-clause-words c =
    let n = c.args.columns in
    let border = c.args.border.now in
    let ks = c.args.links.now in
    let e = refuse_order n border ks (sym c.is_border_list.ensures ∙ c.if-not-is_border_list.false) (sym c.is_link_list.ensures ∙ c.if-not-is_link_list.true) ∙ ap (λ t. Some t) (sym c.into-then-not-is_link_list.ensures) in
    subst (Settles (listing_reasons n border ks)) e (listing_settles n border ks)

pub filled-requires : goal.filled-requires
filled-requires c =
    let n = c.args.columns in
    let list = (decides_border n c.args.border.now).0 (sym c.is_border_list.ensures ∙ c.if-not-is_border_list.false) in
    let order = (decides_order n c.args.links.now).0 (sym c.is_link_list.ensures ∙ c.if-not-is_link_list.false) in
    (omega (arith, list.long, list.high), λ i lt. let ends = order.inside i lt in (ends.0, omega (arith, ends.1, list.high)))

pub returns-in_err-rows-clause-value : goal.returns-in_err-rows-clause-value
returns-in_err-rows-clause-value c =
    let n = c.args.columns in
    let border = c.args.border.now in
    let ks = c.args.links.now in
    let up = sym c.is_link_list.ensures ∙ c.if-not-is_link_list.false in
    let crowd = crowded_within n ks up (search rules) in
    let e = refuse_crowd n border ks (sym c.is_border_list.ensures ∙ c.if-not-is_border_list.false) up crowd in
    search (rules, e)

pub returns-in_err-rows-clause-words : goal.returns-in_err-rows-clause-words
returns-in_err-rows-clause-words c =
    let n = c.args.columns in
    let border = c.args.border.now in
    let ks = c.args.links.now in
    let up = sym c.is_link_list.ensures ∙ c.if-not-is_link_list.false in
    let crowd = crowded_within n ks up (search rules) in
    let e = refuse_crowd n border ks (sym c.is_border_list.ensures ∙ c.if-not-is_border_list.false) up crowd in
    let same : listing_refusal n border ks ≡ refusal_in c.from_residual.result = search (rules, e) in
    subst (Settles (listing_reasons n border ks)) same (listing_settles n border ks)

pub invariant_of-result : goal.invariant_of-result
invariant_of-result c =
    let n = c.args.columns in
    let border = c.args.border.now in
    let ks = c.args.links.now in
    let rows = c.in_ok-rows.rows in
    let list = (decides_border n border).0 (sym c.is_border_list.ensures ∙ c.if-not-is_border_list.false) in
    let up = sym c.is_link_list.ensures ∙ c.if-not-is_link_list.false in
    let full : Filled border (λ d. flat_map (other d) ks) rows = search rules in
    record {
      lawful = rows_lawful n border ks rows list up full;
      rows_wide = λ d lt. full.wide d (omega (arith, list.high));
      rows_packed = λ d k. packed_at (get_or rows d no_row).to k (full.packed d);
      rows_tell = rows_tell n border ks rows list up full;
    }

pub returns-clause-value : goal.returns-clause-value
returns-clause-value c =
    let n = c.args.columns in
    let border = c.args.border.now in
    let ks = c.args.links.now in
    let rows = c.in_ok-rows.rows in
    let fits = sym c.is_border_list.ensures ∙ c.if-not-is_border_list.false in
    let list = (decides_border n border).0 fits in
    let up = sym c.is_link_list.ensures ∙ c.if-not-is_link_list.false in
    let full : Filled border (λ d. flat_map (other d) ks) rows = search rules in
    (refuse_none n border ks fits up (not_crowded n border ks rows list.high full), means_lists n border ks rows list up full)

pub returns-clause-words : goal.returns-clause-words
returns-clause-words c =
    let n = c.args.columns in
    let border = c.args.border.now in
    let ks = c.args.links.now in
    let rows = c.in_ok-rows.rows in
    let fits = sym c.is_border_list.ensures ∙ c.if-not-is_border_list.false in
    let list = (decides_border n border).0 fits in
    let up = sym c.is_link_list.ensures ∙ c.if-not-is_link_list.false in
    let full : Filled border (λ d. flat_map (other d) ks) rows = search rules in
    let e = refuse_none n border ks fits up (not_crowded n border ks rows list.high full) in
    subst (Settles (listing_reasons n border ks)) e (listing_settles n border ks)

pub returns-clause-means : goal.returns-clause-means
returns-clause-means c =
    let n = c.args.columns in
    let border = c.args.border.now in
    let ks = c.args.links.now in
    let rows = c.in_ok-rows.rows in
    let list = (decides_border n border).0 (sym c.is_border_list.ensures ∙ c.if-not-is_border_list.false) in
    let up = sym c.is_link_list.ensures ∙ c.if-not-is_link_list.false in
    let full : Filled border (λ d. flat_map (other d) ks) rows = search rules in
    is_listed n border ks _ (means_lists n border ks rows list up full)
