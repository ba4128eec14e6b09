use Rattle.std.proofs.Common.{◌≡◌, ℕ, ◌*◌, ◌<◌, ◌≤◌, List, ◌++◌, length, take, drop}
use Rattle.std.specs.Slice.Iter.{chunks_rest, chunks_size}
use Rattle.std.specs.Iterator.Adapters.{enumerate_count, enumerate_source}
use Rattle.draw.specs.Rows.{text}
use Rattle.draw.proofs.write_rows.Given as goal

-- With n rows drawn and some left, what is drawn and what is left is the whole, and the buffer behind is as it was.
abbrev pub Going : List ℕ → List ℕ → List ℕ → List ℕ → ℕ → Type 0
Going hs was out rest n = (49 * n ≤ length out) × (take (49 * n) out ++ text rest ≡ text hs) × (drop (49 * n) out ≡ drop (49 * n) was)

-- With nothing left, the whole is drawn.
abbrev pub Whole : List ℕ → List ℕ → List ℕ → Type 0
Whole hs was out = out ≡ text hs ++ drop (length (text hs)) was

abbrev pub invariant-loop-i : goal.invariant-loop-i
invariant-loop-i l =
    (goal.iterator-loop-i).can_next l.i-iterator ×
    (goal.iterator-loop-i).is_finite l.i-iterator ×
    (chunks_size (enumerate_source l.i-iterator) ≡ 16) ×
    (0 < length (chunks_rest (enumerate_source l.i-iterator)) → Going l.heights l.initial.out l.out (chunks_rest (enumerate_source l.i-iterator)) (enumerate_count l.i-iterator)) ×
    (length (chunks_rest (enumerate_source l.i-iterator)) ≡ 0 → Whole l.heights l.initial.out l.out)
