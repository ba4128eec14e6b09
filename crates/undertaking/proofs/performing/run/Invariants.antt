use Rattle.std.proofs.Common.{◌≡◌, ◌+◌, ◌≤◌, ◌++◌, map, length, vec_items, vec_len, vec_capacity}
use Rattle.std.specs.List.{fold}
use Rattle.std.specs.Vec.Iter.{into_iter_items}
use Rattle.gate.specs.View.{scene_of}
use Rattle.undertaking.specs.Requests.{each_answers}
use Rattle.undertaking.specs.Runs.{reply_of}
use Rattle.undertaking.proofs.performing.run.Given as goal

-- what the requests that are left make of the site, and answer, completes what all make of it; and there is room
abbrev pub invariant-loop-request : goal.invariant-loop-request
invariant-loop-request g l =
    let v = scene_of l.site in
    let w = scene_of l.initial.site in
    let left = into_iter_items l.request-iterator in
    let all = into_iter_items l.initial.request-iterator in
    let replies = each_answers g.R.Request.answers g.R.Request.becomes in
    record {
      site : fold g.R.Request.becomes v left ≡ fold g.R.Request.becomes w all;
      answers : map reply_of (vec_items l.answers) ++ replies v left ≡ map reply_of (vec_items l.initial.answers) ++ replies w all;
      room : vec_len l.answers + length left ≤ vec_capacity l.answers;
    }
