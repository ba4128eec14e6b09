use Rattle.std.proofs.Common.{◌≡◌, ℕ, ◌+◌, List, [], ◌∷◌, ◌++◌, map, vec_items, sym, ap, ◌∙◌, arith}
use Rattle.std.specs.List.{range_with_len}
use Rattle.std.proofs.lemmas.List.FromFn.{map-range_with_len_more}
use Rattle.gate.specs.Scene.{height_at}
use Rattle.gate.specs.declared.column.Column.{Column}
use Rattle.job.proofs.playing.read_heights.Goals as goal

more : (f : ℕ → ℕ) (old new : List ℕ) (i h : ℕ) → old ≡ map f (range_with_len 0 i) → new ≡ old ++ h ∷ [] → h ≡ f i → new ≡ map f (range_with_len 0 (i + 1))
more f old new i h e n q =
    n ∙ ap (λ (l : List ℕ). l ++ h ∷ []) e ∙ ap (λ (x : ℕ). map f (range_with_len 0 i) ++ x ∷ []) q ∙ sym (map-range_with_len_more f 0 i i (omega arith))

pub loop-column-preserved : goal.loop-column-preserved
loop-column-preserved g c = (
  more (height_at (vec_items c.args.site.now.columns)) (vec_items c.loop-column.values) (vec_items c.push_reserved.new.self) c.loop-column.column c.look.result.height
      c.loop-column.invariant.0 c.push_reserved.ensures.items (ap (λ (x : Column). x.height) c.look.ensures),
  omega arith,
  c.push_reserved.ensures.capacity ∙ c.loop-column.invariant.2,
)
