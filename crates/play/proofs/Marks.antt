-- The marks say what the states say: a column is marked exactly where it is changing. Assumes nothing.
use Rattle.std.proofs.Common.{◌≡◌, ℕ, ◌-◌, ◌<◌, ◌≤◌, Bool, true, false, cond, not, ◌&&◌, eqb, ltb, ◌≢◌, ◌⊎◌, List, length, get_or, set, sym, ap, ◌∙◌, inl, inr, arith, length-set, get_or-set_other, get_or-set_same}
use Rattle.std.proofs.lemmas.List.FromFn.{get_or-map-range_with_len, length-map-range_with_len}
use Rattle.std.proofs.lemmas.List.{get_or_past, length-map}
use Rattle.std.proofs.lemmas.Bool.{cases_eq, cases_lt, cond-false, cond-true, eq-eqb, le-ltb, lt-ltb, ne_eqb}
use Rattle.ground.specs.Meaning.{Meaning}
use Rattle.gate.specs.declared.call.Call.TheVariants.{Tick}
use Rattle.gate.specs.declared.column.Column.{Column}
use Rattle.gate.specs.declared.column.State.{State}
use Rattle.gate.specs.Column.{changes, fresh, ticked}
use Rattle.gate.specs.Gate.{granted_marks}
use Rattle.gate.specs.Scene.{Columns, mark_of, one_if, state_at, tick_all}
use Rattle.plan.specs.Plan.{Action, Touches}
use Rattle.play.specs.Shown.{changes_height}
use Rattle.play.proofs.Faces.{shown_changes}
use Rattle.play.proofs.Columns.{Placed, touches_or_not}

pub record Marked (xs : Columns) (ms : List ℕ) : Type 0 where
  pub room : length ms ≡ 256
  pub tells : (c : ℕ) → get_or ms c 0 ≡ mark_of xs c

-- past the columns nothing changes
past : (xs : Columns) (c : ℕ) → length xs ≤ c → mark_of xs c ≡ 0
past xs c g = ap (λ (x : Column). one_if (changes x.state)) (get_or_past xs c fresh g)

module _ (m : Meaning) {xs : Columns} {ms : List ℕ} (size : length xs ≡ m.columns) (few : m.columns ≤ 256) (mk : Marked xs ms) where
  mark_then : ℕ → ℕ
  mark_then c = cond (ltb c m.columns) (mark_of (tick_all xs) c) (get_or ms c 0)

  mark_is : (c : ℕ) → mark_then c ≡ mark_of (tick_all xs) c
  unfolding mark_then
  mark_is c = elim (cases_lt c m.columns) [
    | inl l ↦ cond-true (ltb c m.columns) (mark_of (tick_all xs) c) (get_or ms c 0) (lt-ltb c m.columns l)
    | inr g ↦
        cond-false (ltb c m.columns) (mark_of (tick_all xs) c) (get_or ms c 0) (le-ltb c m.columns g)
        ∙ mk.tells c ∙ past xs c (omega arith) ∙ sym (past (tick_all xs) c (omega (arith, length-map xs ticked)))
  ]

  pub marked_tick : Marked (tick_all xs) (granted_marks m xs ms Tick)
  unfolding mark_then
  marked_tick =
      record {
        room = length-map-range_with_len (λ (c : ℕ). cond (ltb c m.columns) (mark_of (tick_all xs) c) (get_or ms c 0)) 0 256;
        tells = λ c. elim (cases_lt c 256) [
          | inl l ↦ get_or-map-range_with_len mark_then 0 256 c c 0 l (omega arith) ∙ mark_is c
          | inr g ↦
              get_or_past (granted_marks m xs ms Tick) c 0 (omega (arith, length-map-range_with_len mark_then 0 256))
              ∙ sym (past (tick_all xs) c (omega (arith, length-map xs ticked)))
        ];
      }

module _ {a : Action} {t : ℕ} {xs ys : Columns} {ms : List ℕ} (mk : Marked xs ms) (pl : Placed a t xs ys)
    (still : (c : ℕ) → Touches a c → changes (state_at xs c) ≡ false) (few : a.to < 256) where
  -- what the columns of the action are marked
  marks_here : (c : ℕ) → Touches a c → mark_of ys c ≡ one_if (changes_height a.work && not (eqb a.from c))
  marks_here c w = ap (λ (z : State). one_if (changes z)) (pl.here c w) ∙ ap one_if (shown_changes a.work a.carry a.from a.to (a.end - t) (eqb a.from c))

  marks_there : (c : ℕ) → (Touches a c → ⊥) → mark_of ys c ≡ mark_of xs c
  marks_there c n = ap (λ (z : State). one_if (changes z)) (pl.there c n)

  none_marked : (c : ℕ) → Touches a c → mark_of xs c ≡ 0
  none_marked c w = ap one_if (still c w)

  -- a work that changes no height leaves the marks
  pub marked_same : changes_height a.work ≡ false → Marked ys ms
  marked_same e =
      record {
        room = mk.room;
        tells = λ c. mk.tells c ∙ elim (touches_or_not a c) [
          | inl w ↦ none_marked c w ∙ sym (marks_here c w ∙ ap (λ (b : Bool). one_if (b && not (eqb a.from c))) e)
          | inr n ↦ sym (marks_there c n)
        ];
      }

  -- one that does marks its to column
  pub marked_set : changes_height a.work ≡ true → a.from ≢ a.to → Marked ys (set ms a.to 1)
  marked_set e n = record { room = length-set ms a.to 1 ∙ mk.room; tells = λ c. elim (cases_eq c a.to) [ inl q ↦ here c q | inr o ↦ other c o ] }
    where
      by : (c : ℕ) (b : Bool) → eqb a.from c ≡ b → one_if (changes_height a.work && not (eqb a.from c)) ≡ one_if (not b)
      by c b q = ap (λ (x : Bool). one_if (x && not (eqb a.from c))) e ∙ ap (λ (x : Bool). one_if (not x)) q

      here : (c : ℕ) → c ≡ a.to → get_or (set ms a.to 1) c 0 ≡ mark_of ys c
      here c q =
          ap (λ (x : ℕ). get_or (set ms a.to 1) x 0) q ∙ get_or-set_same ms a.to 1 0 (omega (arith, mk.room))
          ∙ sym (marks_here c (inr (sym q)) ∙ by c false (ne_eqb a.from c (λ r. n (r ∙ q))))

      beside : (c : ℕ) → c ≢ a.to → Touches a c ⊎ (Touches a c → ⊥) → mark_of xs c ≡ mark_of ys c
      beside c o (inl (inl r)) = none_marked c (inl r) ∙ sym (marks_here c (inl r) ∙ by c true (eq-eqb a.from c r))
      beside c o (inl (inr r)) = absurd (o (sym r))
      beside c o (inr k) = sym (marks_there c k)

      other : (c : ℕ) → c ≢ a.to → get_or (set ms a.to 1) c 0 ≡ mark_of ys c
      other c o = get_or-set_other ms a.to c 1 0 o ∙ mk.tells c ∙ beside c o (touches_or_not a c)
