-- A row without an empty place has six links, and any other gets the link in its first empty place.
use Rattle.std.proofs.Common.{rules, ◌≡◌, length, sym, ◌∙◌}
use Rattle.ground.proofs.EmptyPlaces.{full_row, row_with_room}
use Rattle.ground.proofs.row.Row.with_link.Goals as goal

pub returns-in_err-empty : goal.returns-in_err-empty
returns-in_err-empty c =
    let wide : length c.args.self.to ≡ 6 = search rules in
    search (rules, full_row c.args.self c.args.column wide (sym c.first_empty.ensures ∙ c.in_err-empty.was))

pub returns : goal.returns
returns c =
    let wide : length c.args.self.to ≡ 6 = search rules in
    sym (row_with_room c.args.self c.args.column wide c.in_ok-empty.empty (sym c.first_empty.ensures ∙ c.in_ok-empty.was))
