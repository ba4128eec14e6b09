-- Each test of the gate decides its reason in words, so the first that holds decides the call. Assumes nothing.
use Rattle.std.proofs.Common.{◌≡◌, ℕ, suc, ◌<◌, ◌≤◌, Bool, true, false, not, ◌||◌, eqb, ltb, leb, is_some, Some, None, Decides, Option, unwrap_or, sym, refl, ap, ◌∙◌, subst, inl, inr, arith}
use Rattle.std.proofs.lemmas.Bool.{false≢true, true≢false, both_ways, cases_lt}
use Rattle.std.proofs.lemmas.Bool.Decides.{Decides-and, Decides-not, Decides-ltb, Decides-eqb, Decides-like, nat_tests}
use Rattle.terms.specs.Refusals.{Told}
use Rattle.terms.proofs.First.{Decide, first_settles}
use Rattle.terms.proofs.Tests.{decides_is, decides_isnt, decides_leb}
use Rattle.ground.specs.Meaning.{Meaning, Lawful}
use Rattle.ways.specs.Way.{Relief, NoWay}
use Rattle.ways.specs.Table.{near, steps}
use Rattle.ways.proofs.Firsts.{first_some, first_there, first_decides}
use Rattle.ways.proofs.Tests.{near_decides}
use Rattle.ways.proofs.Exactness.{steps_home}
use Rattle.gate.specs.declared.call.Call.{Call}
use Rattle.gate.specs.declared.call.Call.TheVariants.{Enter, Move, Lay, Lift, Leave, Tick, Recall}
use Rattle.gate.specs.declared.column.State.{State}
use Rattle.gate.specs.declared.column.State.TheVariants.{Free, Standing, Busy}
use Rattle.gate.specs.Column.{held, stands, robot, carries}
use Rattle.gate.specs.Scene.{Scene, height_at, state_at, tried, robots}
use Rattle.gate.specs.Gate.{off, stranded_by, lowest_stranded, tests, refusal, settle, grant}
use Rattle.gate.proofs.Crews.{decides_many}
use Rattle.gate.specs.Words.{Crew, OnGround, Robot, Stranded, LowestStranded, reasons, Details, Decided, Performed}

-- a part fails
not_both : {P Q : Type 0} (a b : Bool) → Decides a P → Decides b Q → Decides (not a || not b) (P × Q → ⊥)
not_both true true p q = (λ e. absurd (false≢true e), λ h. absurd (h (p.0 refl, q.0 refl)))
not_both true false p q = (λ _ h. false≢true (q.1 h.1), λ _. refl)
not_both false b p q = (λ _ h. false≢true (p.1 h.0), λ _. refl)

not_both_but : {P Q : Type 0} (a b : Bool) → Decides a P → Decides (not b) Q → Decides (not a || b) (P × Q → ⊥)
not_both_but true true p q = (λ _ h. false≢true (q.1 h.1), λ _. refl)
not_both_but true false p q = (λ e. absurd (false≢true e), λ h. absurd (h (p.0 refl, q.0 refl)))
not_both_but false b p q = (λ _ h. false≢true (p.1 h.0), λ _. refl)

stands_decides : (t : State) → Decides (stands t) ((block : Bool) × (t ≡ Standing block))
stands_decides Free = (λ e. absurd (false≢true e), λ h. ap stands h.1)
stands_decides (Standing b) = (λ _. (b, refl), λ _. refl)
stands_decides (Busy p n) = (λ e. absurd (false≢true e), λ h. ap stands h.1)

held_decides : (t : State) → Decides (held t) (t ≡ Free → ⊥)
held_decides Free = (λ e. absurd (false≢true e), λ h. absurd (h refl))
held_decides (Standing b) = (λ _ e. true≢false (ap held e), λ _. refl)
held_decides (Busy p n) = (λ _ e. true≢false (ap held e), λ _. refl)

room_decides : (levels h : ℕ) → Decides (not (leb levels h)) (h < levels)
room_decides levels h = grind (arith, nat_tests)

no_way_decides : (m : Meaning) (r : Relief) → Lawful m → (c : ℕ) → Decides (not (is_some (steps m r c))) (NoWay m r c)
no_way_decides m r law c = go (steps m r c) refl
  where
    go : (o : Option ℕ) → steps m r c ≡ o → Decides (not (is_some o)) (NoWay m r c)
    go None e = (λ _. steps_home m r law c None e, λ _. refl)
    go (Some n) e = (λ f. absurd (false≢true f), λ h. absurd (h n (steps_home m r law c (Some n) e).way))

module _ (v : Scene) (law : Lawful v.meaning) (d : ℕ) where
  abbrev Alone : ℕ → Type 0
  Alone c = Robot v c × NoWay v.meaning (tried v d) c

  alone_decides : (c : ℕ) → Decides (stranded_by v.columns (steps v.meaning (tried v d)) c) (Alone c)
  alone_decides c =
      Decides-and (robot (state_at v.columns c)) (not (is_some (steps v.meaning (tried v d) c))) (decides_is (robot (state_at v.columns c)))
      (no_way_decides v.meaning (tried v d) law c)

  strands_decides : Decides (is_some (lowest_stranded v.meaning v.columns (tried v d))) ((e : ℕ) × Stranded v d e)
  strands_decides =
      Decides-like (is_some (lowest_stranded v.meaning v.columns (tried v d))) (λ h. (h.0, (h.1, h.2.0, h.2.1))) (λ h. (h.0, h.1.0, (h.1.1, h.1.2)))
      (first_decides (stranded_by v.columns (steps v.meaning (tried v d))) Alone alone_decides v.meaning.columns)

  pub lowest_is : LowestStranded v d (unwrap_or (lowest_stranded v.meaning v.columns (tried v d)) 0)
  lowest_is c h =
      let test : ℕ → Bool = stranded_by v.columns (steps v.meaning (tried v d)) in
      let t = first_there test v.meaning.columns c h.0 ((alone_decides c).1 (h.1, h.2)) in
      let f = first_some test v.meaning.columns t.0 t.1 in
      let a = (alone_decides t.0).0 f.0 in
      let P : ℕ → Type 0 = λ x. Stranded v d x × (x ≤ c) in
      subst P (sym (ap (λ o. unwrap_or o 0) t.1)) (
        (f.1, a.0, a.1),
        elim (cases_lt c t.0) [ inl l ↦ absurd (both_ways (test c) (f.2 c l) ((alone_decides c).1 (h.1, h.2))) | inr g ↦ g ],
      )

module _ (v : Scene) (law : Lawful v.meaning) where
  on_decides : (c : ℕ) → Decides (ltb c v.meaning.columns) (OnGround v c)
  on_decides c = Decides-ltb c v.meaning.columns

  off_decides : (c : ℕ) → Decides (off v.meaning c) (OnGround v c → ⊥)
  off_decides c = Decides-not (ltb c v.meaning.columns) (on_decides c)

  both_on : (c d : ℕ) → Decides (off v.meaning c || off v.meaning d) (OnGround v c × OnGround v d → ⊥)
  both_on c d = not_both (ltb c v.meaning.columns) (ltb d v.meaning.columns) (on_decides c) (on_decides d)

  no_stand : (c : ℕ) → Decides (not (stands (state_at v.columns c))) (((block : Bool) × (state_at v.columns c ≡ Standing block)) → ⊥)
  no_stand c = Decides-not (stands (state_at v.columns c)) (stands_decides (state_at v.columns c))

  not_border : (c : ℕ) → Decides (not (v.meaning.border c)) (v.meaning.border c ≡ true → ⊥)
  not_border c = Decides-not (v.meaning.border c) (decides_is (v.meaning.border c))

  no_link : (c d : ℕ) → Decides (not (v.meaning.linked c d) || v.meaning.border d) ((v.meaning.linked c d ≡ true) × (v.meaning.border d ≡ false) → ⊥)
  no_link c d = not_both_but (v.meaning.linked c d) (v.meaning.border d) (decides_is (v.meaning.linked c d)) (decides_isnt (v.meaning.border d))

  crew_decides : Decides (leb v.settings.robots (robots v.meaning v.columns)) (Crew v v.settings.robots)
  crew_decides =
      Decides-like (leb v.settings.robots (robots v.meaning v.columns))
      (λ h. record { columns = h.0; different = h.1; with_robots = h.2; many = h.3 })
      (λ w. (w.columns, w.different, w.with_robots, w.many))
      (decides_many (λ c. robot (state_at v.columns c)) v.meaning.columns v.settings.robots (leb v.settings.robots (robots v.meaning v.columns)) (decides_leb v.settings.robots (robots v.meaning v.columns)))

  -- the detail of a call that is refused for want of a way home
  detail : Call → ℕ
  detail (Enter c b) = 0
  detail (Move c d) = 0
  detail (Lay c d) = unwrap_or (lowest_stranded v.meaning v.columns (tried v d)) 0
  detail (Lift c d) = unwrap_or (lowest_stranded v.meaning v.columns (tried v d)) 0
  detail (Leave c) = 0
  detail Tick = 0
  detail Recall = 0

  details : (k : Call) → Details v k (detail k)
  unfolding detail
  details (Enter c b) = tt
  details (Move c d) = tt
  details (Lay c d) = lowest_is v law d
  details (Lift c d) = lowest_is v law d
  details (Leave c) = tt
  details Tick = tt
  details Recall = tt

  decide : (k : Call) → Decide (tests v.meaning v.settings v.columns (tried v) k) (reasons v k (detail k))
  unfolding detail
  decide (Enter c b) =
      let full = crew_decides in
      (off_decides c, refl, (not_border c, refl, (held_decides (state_at v.columns c), refl, (full, refl, tt))))
  decide (Move c d) =
      let link = Decides-not (v.meaning.linked c d) (decides_is (v.meaning.linked c d)) in
      let far = Decides-not (near (height_at v.columns c) (height_at v.columns d)) (near_decides (height_at v.columns c) (height_at v.columns d)) in
      (both_on c d, refl, (no_stand c, refl, (link, refl, (held_decides (state_at v.columns d), refl, (far, refl, tt)))))
  decide (Lay c d) =
      let load = Decides-not (carries (state_at v.columns c)) (decides_is (carries (state_at v.columns c))) in
      let heights = not_both_but (eqb (height_at v.columns c) (height_at v.columns d)) (leb v.settings.levels (suc (height_at v.columns d)))
      (Decides-eqb (height_at v.columns c) (height_at v.columns d)) (room_decides v.settings.levels (suc (height_at v.columns d))) in
      (both_on c d, refl, (no_stand c, refl, (load, refl, (no_link c d, refl, (held_decides (state_at v.columns d), refl, (heights, refl, (strands_decides v law d, refl, tt)))))))
  decide (Lift c d) =
      let load = decides_is (carries (state_at v.columns c)) in
      let heights = Decides-not (eqb (height_at v.columns d) (suc (height_at v.columns c))) (Decides-eqb (height_at v.columns d) (suc (height_at v.columns c))) in
      (both_on c d, refl, (no_stand c, refl, (load, refl, (no_link c d, refl, (held_decides (state_at v.columns d), refl, (heights, refl, (strands_decides v law d, refl, tt)))))))
  decide (Leave c) = (off_decides c, refl, (no_stand c, refl, (not_border c, refl, tt)))
  decide Tick = tt
  decide Recall = tt

  pub decided : (k : Call) → Decided v k (refusal v k)
  decided k =
      record {
        lowest = detail k;
        is_lowest = details k;
        settles = first_settles (tests v.meaning v.settings v.columns (tried v) k) (reasons v k (detail k)) (decide k);
      }

  -- an answer and a site that are those of the definitions
  pub performed : (k : Call) (o : Option Told) (w : Scene) → o ≡ refusal v k → w ≡ settle o (grant v k) v → Performed v k o w
  performed k o w e f =
      let P : Option Told → Type 0 = Decided v k in
      record { value = e; after = f ∙ ap (λ x. settle x (grant v k) v) e; words = subst P (sym e) (decided k); unaltered = λ t i. f ∙ ap (λ x. settle x (grant v k) v) i }

  pub refused : (k : Call) (o : Option Told) (t : Told) → o ≡ Some t → Some t ≡ refusal v k → Performed v k o v
  refused k o t e f = performed k o v (e ∙ f) (ap (λ x. settle x (grant v k) v) (sym e))
