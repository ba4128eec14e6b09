-- What the table's tests say: each test against the statement that it decides. Assumes nothing.
use Rattle.std.proofs.Common.{◌≡◌, ℕ, ◌<◌, Bool, true, false, not, ◌&&◌, is_some, Some, None, Decides, Option, sym, refl, arith}
use Rattle.std.proofs.lemmas.Bool.{false≢true, true≢false}
use Rattle.std.proofs.lemmas.Bool.Decides.{Decides-and, nat_tests}
use Rattle.terms.proofs.Tests.{decides_isnt}
use Rattle.ground.specs.Meaning.{Meaning}
use Rattle.ways.specs.Way.{Relief, Near, Settled}
use Rattle.ways.specs.Table.{near, is_label, lower, lowest_beside, gains}
use Rattle.ways.proofs.Firsts.{none≢some, first_decides}

pub near_decides : (a b : ℕ) → Decides (near a b) (Near a b)
near_decides a b = grind (arith, nat_tests)

label_decides : (o : Option ℕ) (n : ℕ) → Decides (is_label o n) (o ≡ Some n)
label_decides o n = (λ e. grind (arith, nat_tests), λ e. grind (arith, nat_tests))

none_decides : (o : Option ℕ) → Decides (not (is_some o)) (o ≡ None)
none_decides None = (λ _. refl, λ _. refl)
none_decides (Some n) = (λ e. absurd (false≢true e), λ e. absurd (none≢some (sym e)))

-- d is linked with c, within one height of it, and labelled n
abbrev pub Lower : Meaning → (ℕ → ℕ) → (ℕ → Option ℕ) → ℕ → ℕ → ℕ → Type 0
Lower m heights labels n c d = (m.linked c d ≡ true) × (Near (heights c) (heights d) × (labels d ≡ Some n))

pub lower_decides : (m : Meaning) (heights : ℕ → ℕ) (labels : ℕ → Option ℕ) (n c d : ℕ) → Decides (lower m heights labels n c d) (Lower m heights labels n c d)
lower_decides m heights labels n c d =
    Decides-and (m.linked c d) (near (heights c) (heights d) && is_label (labels d) n) (λ e. e, λ e. e)
    (Decides-and (near (heights c) (heights d)) (is_label (labels d) n) (near_decides (heights c) (heights d)) (label_decides (labels d) n))

pub gains_decides : (m : Meaning) (r : Relief) (labels : ℕ → Option ℕ) (n c : ℕ)
    → Decides (gains m r labels n c) ((labels c ≡ None) × (Settled r c × ((d : ℕ) × (d < m.columns) × Lower m r.heights labels n c d)))
gains_decides m r labels n c =
    Decides-and (not (is_some (labels c))) (not (r.changing c) && is_some (lowest_beside m r.heights labels n c)) (none_decides (labels c))
    (Decides-and (not (r.changing c)) (is_some (lowest_beside m r.heights labels n c)) (decides_isnt (r.changing c))
    (first_decides (lower m r.heights labels n c) (Lower m r.heights labels n c) (lower_decides m r.heights labels n c) m.columns))
