use Rattle.std.proofs.Common.{◌≡◌, map, vec_items, vec_len, vec_capacity}
use Rattle.std.specs.List.{range_with_len}
use Rattle.gate.specs.Scene.{height_at}
use Rattle.gate.specs.View.{scene_of}
use Rattle.job.proofs.playing.read_heights.Given as goal

-- the heights of the columns so far are read
abbrev pub invariant-loop-column : goal.invariant-loop-column
invariant-loop-column g l =
    (vec_items l.values ≡ map (height_at (scene_of l.site).columns) (range_with_len 0 l.column)) ×
    (vec_len l.values ≡ l.column) ×
    (vec_capacity l.values ≡ vec_capacity l.initial.values)
