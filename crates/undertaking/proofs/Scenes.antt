-- A site that was opened and only called has the marks that its states say, so all that holds by its columns holds of it. Assumes nothing.
use Rattle.std.proofs.Common.{◌≡◌, ℕ, zero, suc, ◌<◌, ◌≤◌, Bool, true, false, cond, not, ◌||◌, eqb, ltb, ◌≢◌, List, [], ◌∷◌, map, length, get_or, set, replicate, Some, None, Option, sym, refl, ap, ◌∙◌, subst, inl, inr, arith}
use Rattle.std.specs.List.{range_with_len}
use Rattle.std.proofs.lemmas.List.FromFn.{get_or-map-range_with_len, length-map-range_with_len, fill_by_all}
use Rattle.std.proofs.lemmas.List.{get_or_past, get_or-replicate, length-replicate, length-map, length-set, get_or-set_same, get_or-set_other}
use Rattle.std.proofs.lemmas.Bool.{cases_lt, cases_eq, cond-true, cond-false, lt-ltb, le-ltb}
use Rattle.terms.specs.Durations.{SiteSettings}
use Rattle.terms.specs.Refusals.{Told, first_of}
use Rattle.ground.specs.Meaning.{Meaning, Lawful}
use Rattle.ways.specs.Way.{Relief}
use Rattle.ways.specs.Table.{steps}
use Rattle.ways.specs.View.{marked}
use Rattle.gate.specs.declared.call.Call.{Call}
use Rattle.gate.specs.declared.call.Call.TheVariants.{Enter, Move, Lay, Lift, Leave, Tick, Recall}
use Rattle.gate.specs.declared.column.Column.{Column}
use Rattle.gate.specs.declared.column.Part.{Part}
use Rattle.gate.specs.declared.column.Part.TheVariants.{Departing, Laying, Lifting}
use Rattle.gate.specs.Column.{fresh, facing, changes, changes_in, carries, ticked}
use Rattle.gate.specs.Scene.{Columns, Scene, state_at, begin, tick_all, lying, one_if, mark_of, renewed_marks, opened}
use Rattle.gate.specs.Scene.{relief as relief_of, tried as tried_of}
use Rattle.gate.specs.Gate.{refusal, granted, granted_marks, grant, settle}
use Rattle.gate.specs.Gate.{tests as gate_tests, step as scene_step}
use Rattle.gate.specs.Recall.{recall, recalled as gate_recalled}
use Rattle.undertaking.specs.Runs.{run as run_of, tally as tally_of}
use Rattle.gate.specs.Time.{after_ticks as after_ticks_of}
use Rattle.undertaking.specs.Obeying.{call_of, Rested as RestedOf, Obeyed as ObeyedOf}
use Rattle.undertaking.proofs.Plain.{Proper, opening, relief, tried, answer, step, run, tally, after_ticks, recalled, Rested, Obeyed}
use Rattle.undertaking.proofs.Seen.{at_opening, put_all, begun_all}
use Rattle.undertaking.proofs.Kept.{Kept}
use Rattle.undertaking.proofs.Ticks.{kept_tick}
use Rattle.undertaking.proofs.Grants.{Ready}
use Rattle.undertaking.proofs.Allowed.{move_time, ready_begun, enters, leaves, moves_ready, lays_ready, lifts_ready}
use Rattle.undertaking.proofs.Calls.{kept_step}

abbrev pub marks_of : Columns → List ℕ
marks_of xs = map (mark_of xs) (range_with_len 0 256)

abbrev pub scene : Meaning → SiteSettings → Columns → Scene
scene m s xs = record { meaning = m; settings = s; columns = xs; marks = marks_of xs }

mark_says : (b : Bool) → not (eqb (one_if b) 0) ≡ b
mark_says true = refl
mark_says false = refl

past_settled : (xs : Columns) (c : ℕ) → length xs ≤ c → changes (state_at xs c) ≡ false
past_settled xs c l = ap (λ (x : Column). changes x.state) (get_or_past xs c fresh l)

mark_at : (xs : Columns) (c : ℕ) → length xs ≤ 256 → get_or (marks_of xs) c 0 ≡ mark_of xs c
mark_at xs c few = elim (cases_lt c 256) [
  | inl l ↦ get_or-map-range_with_len (mark_of xs) 0 256 c c 0 l (omega arith)
  | inr g ↦ get_or_past (marks_of xs) c 0 (omega (arith, length-map-range_with_len (mark_of xs) 0 256)) ∙ sym (ap one_if (past_settled xs c (omega arith)))
]

marks_same : (xs ys : Columns) → ((c : ℕ) → changes (state_at ys c) ≡ changes (state_at xs c)) → marks_of xs ≡ marks_of ys
marks_same xs ys h = ap (λ (f : ℕ → ℕ). map f (range_with_len 0 256)) (λ i c. one_if (sym (h c) i))

-- one column more is changing
marks_set : (xs ys : Columns) (d : ℕ) → length xs ≤ 256 → d < 256 → changes (state_at ys d) ≡ true → ((c : ℕ) → c ≢ d → changes (state_at ys c) ≡ changes (state_at xs c))
    → set (marks_of xs) d 1 ≡ marks_of ys
marks_set xs ys d few l here else =
    let long = length-map-range_with_len (mark_of xs) 0 256 in
    fill_by_all (mark_of ys) (set (marks_of xs) d 1) 256 0 (length-set (marks_of xs) d 1 ∙ long)
    (λ c _. elim (cases_eq c d) [
      | inl e ↦ ap (λ k. get_or (set (marks_of xs) d 1) k 0) e ∙ get_or-set_same (marks_of xs) d 1 0 (omega arith) ∙ sym (ap one_if here) ∙ sym (ap (mark_of ys) e)
      | inr e ↦ get_or-set_other (marks_of xs) d c 1 0 e ∙ mark_at xs c few ∙ sym (ap one_if (else c e))
    ])

marks_renewed : (xs ys : Columns) (n : ℕ) → length xs ≤ n → length ys ≤ n → n ≤ 256 → renewed_marks n ys (marks_of xs) ≡ marks_of ys
marks_renewed xs ys n lx ly few = ap (λ (f : ℕ → ℕ). map f (range_with_len 0 256)) (λ i c. at c i)
  where
    at : (c : ℕ) → cond (ltb c n) (mark_of ys c) (get_or (marks_of xs) c 0) ≡ mark_of ys c
    at c = elim (cases_lt c n) [
      | inl l ↦ cond-true (ltb c n) (mark_of ys c) (get_or (marks_of xs) c 0) (lt-ltb c n l)
      | inr g ↦ cond-false (ltb c n) (mark_of ys c) (get_or (marks_of xs) c 0) (le-ltb c n g) ∙ mark_at xs c (omega arith)
          ∙ ap one_if (past_settled xs c (omega arith) ∙ sym (past_settled ys c (omega arith)))
    ]

pub opened_scene : (m : Meaning) (s : SiteSettings) → opened m s ≡ scene m s (opening m)
opened_scene m s = λ i. record { meaning = m; settings = s; columns = opening m; marks = same i }
  where
    same : replicate 256 0 ≡ marks_of (opening m)
    same =
        fill_by_all (mark_of (opening m)) (replicate 256 0) 256 0 (length-replicate {A = ℕ} 256 0)
        (λ c l. get_or-replicate 256 c 0 0 l ∙ sym (ap (λ (x : Column). one_if (changes x.state)) (at_opening m c)))

module _ (m : Meaning) (s : SiteSettings) (law : Lawful m) (ok : Proper s) (xs : Columns) (k : Kept m s xs) where
  few : length xs ≤ 256
  few = omega (arith, k.long, law.few)

  pub marks_say : (c : ℕ) → marked (marks_of xs) c ≡ changes (state_at xs c)
  marks_say c = ap (λ n. not (eqb n 0)) (mark_at xs c few) ∙ mark_says (changes (state_at xs c))

  pub lies : relief_of (scene m s xs) ≡ relief xs
  lies = ap (lying xs) (λ i c. marks_say c i)

  lies_tried : tried_of (scene m s xs) ≡ tried xs
  lies_tried = λ i d. lying xs (λ c. eqb c d || marks_say c i)

  pub same_refusal : (a : Call) → refusal (scene m s xs) a ≡ answer m s xs a
  same_refusal a = ap (λ (t : ℕ → Relief). first_of (gate_tests m s xs t a)) lies_tried

  pub same_recall : recall (scene m s xs) ≡ recalled m xs
  same_recall = ap (λ r. gate_recalled m xs (steps m r)) lies

  built_marks : (c d : ℕ) (p : Part) (n : ℕ) → Ready m s xs c d p n → changes_in p ≡ false → changes_in (facing c p) ≡ true → set (marks_of xs) d 1 ≡ marks_of (begin xs c d p n)
  built_marks c d p n y still rises =
      let b = ready_begun m s law ok xs k c d p n y in
      marks_set xs (begin xs c d p n) d few (omega (arith, y.in_there, law.few)) (ap (λ (x : Column). changes x.state) b.there ∙ rises)
      (begun_all b (λ e x. e ≢ d → changes x.state ≡ changes (state_at xs e)) (λ _. still ∙ sym (ap changes y.stood)) (λ ne. absurd (ne refl)) (λ _ _ _ _. refl))

  same_marks : (a : Call) → answer m s xs a ≡ None → granted_marks m xs (marks_of xs) a ≡ marks_of (granted s xs a)
  same_marks (Enter c b) e =
      let g = enters m s law ok xs k c b e in
      marks_same xs (granted s xs (Enter c b)) (put_all g.begun (λ i x. changes x.state ≡ changes (state_at xs i)) (sym (ap changes g.was)) (λ _ _. refl))
  same_marks (Move c d) e =
      let y = moves_ready m s law ok xs k c d e in
      let b = ready_begun m s law ok xs k c d (Departing (carries (state_at xs c)) d) (move_time s xs c) y in
      marks_same xs (granted s xs (Move c d))
      (begun_all b (λ i x. changes x.state ≡ changes (state_at xs i)) (sym (ap changes y.stood)) (sym (ap changes y.was_free)) (λ _ _ _. refl))
  same_marks (Lay c d) e = built_marks c d (Laying d) s.times.deliver (lays_ready m s law ok xs k c d e) refl refl
  same_marks (Lift c d) e = built_marks c d (Lifting d) s.times.pickup (lifts_ready m s law ok xs k c d e) refl refl
  same_marks (Leave c) e =
      let g = leaves m s law ok xs k c e in
      marks_same xs (granted s xs (Leave c)) (put_all g.begun (λ i x. changes x.state ≡ changes (state_at xs i)) (sym (ap changes g.was)) (λ _ _. refl))
  same_marks Tick e = marks_renewed xs (tick_all xs) m.columns (omega (arith, k.long)) (omega (arith, k.long, length-map xs ticked)) law.few
  same_marks Recall e = refl

  pub step_scene : (a : Call) → scene_step (scene m s xs) a ≡ scene m s (step m s xs a)
  step_scene a = ap (λ o. settle o (grant (scene m s xs) a) (scene m s xs)) (same_refusal a) ∙ go (answer m s xs a) refl
    where
      go : (o : Option Told) → answer m s xs a ≡ o → settle o (grant (scene m s xs) a) (scene m s xs) ≡ scene m s (settle o (granted s xs a) xs)
      go None e = λ i. record { meaning = m; settings = s; columns = granted s xs a; marks = same_marks a e i }
      go (Some t) e = refl

module _ (m : Meaning) (s : SiteSettings) (law : Lawful m) (ok : Proper s) where
  pub run_scene : (ks : List Call) (xs : Columns) → Kept m s xs → run_of (scene m s xs) ks ≡ scene m s (run m s xs ks)
  run_scene [] xs k = refl
  run_scene (a ∷ ks) xs k = ap (λ v. run_of v ks) (step_scene m s law ok xs k a) ∙ run_scene ks (step m s xs a) (kept_step m s law ok xs k a)

  pub ticks_scene : (n : ℕ) (xs : Columns) → Kept m s xs → after_ticks_of n (scene m s xs) ≡ scene m s (after_ticks n xs)
  ticks_scene zero xs k = refl
  ticks_scene (suc n) xs k = ap (after_ticks_of n) (step_scene m s law ok xs k Tick) ∙ ticks_scene n (tick_all xs) (kept_tick m s xs k)

  pub tally_scene : (f : Scene → Call → ℕ) (g : Columns → Call → ℕ) → ((xs : Columns) (a : Call) → f (scene m s xs) a ≡ g xs a)
      → (ks : List Call) (xs : Columns) → Kept m s xs → tally_of f (scene m s xs) ks ≡ tally g m s xs ks
  tally_scene f g same [] xs k = refl
  tally_scene f g same (a ∷ ks) xs k =
      let here : settle (refusal (scene m s xs) a) (f (scene m s xs) a) 0 ≡ settle (answer m s xs a) (g xs a) 0 =
      ap (λ o. settle o (f (scene m s xs) a) 0) (same_refusal m s law ok xs k a) ∙ ap (λ n. settle (answer m s xs a) n 0) (same xs a) in
      let rest : tally_of f (scene_step (scene m s xs) a) ks ≡ tally g m s (step m s xs a) ks =
      ap (λ v. tally_of f v ks) (step_scene m s law ok xs k a) ∙ tally_scene f g same ks (step m s xs a) (kept_step m s law ok xs k a) in
      omega arith

  kept_rested : {xs ys : Columns} → Rested xs ys → Kept m s xs → Kept m s ys
  kept_rested (Rested.quiet q) k = k
  kept_rested (Rested.tick {xs} {ys} not_yet r) k = kept_rested r (kept_tick m s xs k)

  rested_scene : {xs ys : Columns} → Rested xs ys → Kept m s xs → RestedOf (scene m s xs) (scene m s ys)
  rested_scene (Rested.quiet q) k = RestedOf.quiet q
  rested_scene (Rested.tick {xs} {ys} not_yet r) k =
      let P : Scene → Type 0 = λ v. RestedOf v (scene m s ys) in
      RestedOf.tick not_yet (subst P (sym (step_scene m s law ok xs k Tick)) (rested_scene r (kept_tick m s xs k)))

  pub obeyed_scene : {xs zs : Columns} {n : ℕ} → Obeyed m s xs n zs → Kept m s xs → ObeyedOf (scene m s xs) n (scene m s zs)
  obeyed_scene (Obeyed.done {xs} e) k = ObeyedOf.done (same_recall m s law ok xs k ∙ e)
  obeyed_scene (Obeyed.next {xs} {ys} {zs} {n} order e count grants r rest) k =
      let a = call_of order.column order.next in
      let k' = kept_step m s law ok xs k a in
      let P : Scene → Type 0 = λ v. RestedOf v (scene m s ys) in
      ObeyedOf.next {w = scene m s ys} {z = scene m s zs} order (same_recall m s law ok xs k ∙ e) count (same_refusal m s law ok xs k a ∙ grants)
      (subst P (sym (step_scene m s law ok xs k a)) (rested_scene r k')) (obeyed_scene rest (kept_rested r k'))
