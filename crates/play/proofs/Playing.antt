-- Playing a plan that keeps the rules: action by action, and to the end. Assumes nothing.
use Rattle.std.proofs.Common.{◌≡◌, ℕ, zero, suc, ◌+◌, ◌-◌, ◌<◌, ◌≤◌, max, true, eqb, ◌≢◌, ◌⊎◌, List, [], length, drop, None, Option, sym, refl, ap, subst, inl, inr, arith, drop-cons}
use Rattle.std.proofs.lemmas.List.{drop_all}
use Rattle.std.proofs.lemmas.Bool.{cases_lt}
use Rattle.terms.specs.Durations.{SiteSettings}
use Rattle.terms.specs.Refusals.{Told}
use Rattle.terms.specs.declared.work.Work.{Work}
use Rattle.terms.specs.declared.work.Work.TheVariants.{Leave}
use Rattle.ground.specs.Meaning.{Meaning}
use Rattle.gate.specs.declared.call.Call.TheVariants.{Tick}
use Rattle.gate.specs.declared.column.State.TheVariants.{Free}
use Rattle.gate.specs.Gate.{granted_marks}
use Rattle.gate.specs.Scene.{Columns, Scene, state_at, tick_all}
use Rattle.gate.specs.Scene.{height_at as height_in}
use Rattle.gate.specs.Words.{Stranded}
use Rattle.plan.specs.Plan.{Action, line, no_action}
use Rattle.gate.specs.Time.{after_ticks, left, longest}
use Rattle.gate.proofs.Waiting.{longest_is}
use Rattle.play.specs.Play.{call_of, called, play, ready, refusal_of, unless}
use Rattle.play.specs.Shown.{Holder, changes_height, shown, shown_by}
use Rattle.play.specs.Shown.Holder.{by_running, by_ended}
use Rattle.play.specs.Strands.{Strands}
use Rattle.play.specs.Stands.{Comes}
use Rattle.play.specs.Stands.Comes.{ends, stops}
use Rattle.play.proofs.Faces.{leave_or_not}
use Rattle.play.proofs.Plans.{Obeys, goes_on}
use Rattle.play.proofs.Site.{Shows}
use Rattle.play.proofs.Ticking.{shows_tick}
use Rattle.play.proofs.Beginning.{shows_begun}
use Rattle.play.proofs.Marks.{Marked, marked_tick}
use Rattle.play.proofs.Readings.{described, site, stranded_here, strands_there}
use Rattle.play.proofs.Ready.{Ready, ready_so}
use Rattle.play.proofs.Grants.{Answer, answered, fits_so}
use Rattle.play.proofs.Grants.Answer.{grants, refuses}

-- the site shows the first k actions at the time t, marks and all
record Showing (m : Meaning) (s : SiteSettings) (plan : List Action) (k t : ℕ) (v : Scene) : Type 0 where
  columns : Columns
  marks : List ℕ
  is : v ≡ site m s columns marks
  shows : Shows m plan k t columns
  marked : Marked columns marks

module _ {m : Meaning} {s : SiteSettings} {plan : List Action} {targets : ℕ → ℕ} (ob : Obeys m s plan targets) where
  -- ---- time passes

  ticked : (d k t : ℕ) (xs : Columns) (ms : List ℕ) → Shows m plan k t xs → Marked xs ms → ((i : ℕ) → k ≤ i → i < length plan → t + d ≤ (line plan i).start)
      → Showing m s plan k (t + d) (after_ticks d (site m s xs ms))
  ticked zero k t xs ms sh mk h =
      let e : t ≡ t + 0 = omega arith in
      record { columns = xs; marks = ms; is = refl; shows = subst (λ (u : ℕ). Shows m plan k u xs) e sh; marked = mk }
  ticked (suc d) k t xs ms sh mk h =
      let e : suc t + d ≡ t + suc d = omega arith in
      subst (λ (u : ℕ). Showing m s plan k u (after_ticks d (site m s (tick_all xs) (granted_marks m xs ms Tick)))) e
      (ticked d k (suc t) (tick_all xs) (granted_marks m xs ms Tick) (shows_tick ob sh (λ i g l. omega (arith, h i g l)))
      (marked_tick m sh.size ob.law.few mk) (λ i g l. omega (arith, h i g l)))

  shows_ready : (k now : ℕ) (xs : Columns) (ms : List ℕ) → k < length plan → Shows m plan k now xs → Marked xs ms
      → Showing m s plan k (line plan k).start (ready (line plan k) now (site m s xs ms))
  shows_ready k now xs ms l sh mk =
      let e : now + ((line plan k).start - now) ≡ (line plan k).start = omega (arith, sh.coming k (omega arith) l) in
      subst (λ (u : ℕ). Showing m s plan k u (ready (line plan k) now (site m s xs ms))) e
      (ticked ((line plan k).start - now) k now xs ms sh mk (λ i g li. omega (arith, ob.rules.in_order k i g li)))

  -- ---- the end

  module _ (now : ℕ) (xs : Columns) (sh : Shows m plan (length plan) now xs) where
    -- the last actions to run are leaves, and the ticks see them through
    all_ended : (i : ℕ) → i < length plan → (line plan i).end ≤ now + longest xs
    all_ended i l = elim (cases_lt (now + longest xs) (line plan i).end) [ inl g ↦ absurd (go g (leave_or_not (line plan i).work)) | inr g ↦ g ]
      where
        go : now + longest xs < (line plan i).end → ((line plan i).work ≡ Leave) ⊎ ((line plan i).work ≢ Leave) → ⊥
        go g (inl e) =
            let f : ℕ = (line plan i).from in
            let seen = sh.running i f l (record { begun = sh.begun i l; before_end = omega arith }) (inl refl) in
            let rest : left (shown (line plan i) now f) ≡ max 1 ((line plan i).end - now) =
            ap (λ (w : Work). left (shown_by w (line plan i).carry f (line plan i).to ((line plan i).end - now) (eqb f f))) e in
            omega (arith, longest_is xs f, ap left seen, rest)
        go g (inr n) =
            let (j, lj, st) = ob.rules.carried_on i l n in
            omega (arith, sh.begun j lj, st.when)

    module _ (ys : Columns) (end : Shows m plan (length plan) (now + longest xs) ys) where
      free_end : (c : ℕ) → state_at ys c ≡ Free
      free_end c = go (end.explained c)
        where
          go : (state_at ys c ≡ Free) ⊎ Holder plan (length plan) (now + longest xs) c → state_at ys c ≡ Free
          go (inl e) = e
          go (inr (by_running i l r w)) = absurd (omega (arith, all_ended i l, r.before_end))
          go (inr (by_ended i l e n)) = let (j, lj, st) = goes_on ob i l e in absurd (n j lj st)

      high_end : (c : ℕ) → c < m.columns → height_in ys c ≡ targets c
      high_end c l = omega (arith, end.raised c, ob.rules.reached c (now + longest xs) l all_ended)

  -- ---- action by action

  -- none of the first k strands a robot
  abbrev NoneStrands : ℕ → Type 0
  NoneStrands k = (j c : ℕ) → j < k → Strands m plan j c → ⊥

  -- what comes of the actions from k on, from whatever site shows those above
  abbrev GoesOn : ℕ → Type 0
  GoesOn k = (now : ℕ) (xs : Columns) (ms : List ℕ) → Shows m plan k now xs → Marked xs ms → NoneStrands k
      → Comes m s plan targets (play (drop k plan) now (site m s xs ms))

  -- what play makes of an answer o and a site v, next being the site after the call
  abbrev Then : ℕ → Scene → Option Told → Scene → Type 0
  Then k v o next = Comes m s plan targets (unless o (line plan k).line v (play (drop (suc k) plan) (line plan k).start next))

  due : (k : ℕ) (xs : Columns) (ms : List ℕ) → k < length plan → Shows m plan k (line plan k).start xs → Marked xs ms → NoneStrands k → GoesOn (suc k)
      → Then k (site m s xs ms) (refusal_of (site m s xs ms) (call_of (line plan k))) (called (site m s xs ms) (call_of (line plan k)))
  due k xs ms l sh mk none rest = go (answered m s (line plan k) xs ms ob.law mk here)
    where
      here : Ready m s (line plan k) (line plan k).work xs
      here = ready_so ob sh l refl

      none_yet : (changes_height (line plan k).work ≡ true → (c : ℕ) → Stranded (site m s xs ms) (line plan k).to c → ⊥) → NoneStrands (suc k)
      none_yet h j c lj st =
          elim (cases_lt j k) [
            | inl b ↦ none j c b st
            | inr g ↦
                let e : j ≡ k = omega arith in
                let here : Strands m plan k c = subst (λ (x : ℕ). Strands m plan x c) e st in
                h here.changes c (stranded_here ob sh mk refl c here)
          ]

      go : Answer m s (line plan k) (line plan k).work xs ms
          → Then k (site m s xs ms) (refusal_of (site m s xs ms) (call_of (line plan k))) (called (site m s xs ms) (call_of (line plan k)))
      go (grants g h) =
          subst (λ (o : Option Told). Then k (site m s xs ms) o (called (site m s xs ms) (call_of (line plan k)))) (sym g.answer)
          (subst (Then k (site m s xs ms) None) (sym g.after)
          (rest (line plan k).start g.columns g.marks (shows_begun ob sh l refl g.placed (fits_so (line plan k).work here ob.usable.low)) g.marked (none_yet h)))
      go (refuses x f) =
          subst (λ (o : Option Told). Then k (site m s xs ms) o (called (site m s xs ms) (call_of (line plan k)))) (sym f.answer)
          (stops k x (site m s xs ms)
          (record {
            strands = strands_there ob sh mk l f.changes refl x f.stranded;
            lowest = λ d h. f.lowest d (stranded_here ob sh mk refl d h);
          }) none (described ob sh mk))

  pub from_line : (d k : ℕ) → d + k ≡ length plan → GoesOn k
  from_line zero k e now xs ms sh mk none =
      let no_more : drop k plan ≡ [] = drop_all k plan (omega arith) in
      let all : k ≡ length plan = omega arith in
      let sh' = subst (λ (x : ℕ). Shows m plan x now xs) all sh in
      let end = ticked (longest xs) (length plan) now xs ms sh' mk (λ i g l. absurd (omega arith)) in
      subst (λ (r : List Action). Comes m s plan targets (play r now (site m s xs ms))) (sym no_more)
      (subst (λ (v : Scene). Comes m s plan targets (record { answer = None; site = v })) (sym end.is)
      (ends (site m s end.columns end.marks) (λ j c st. none j c (omega (arith, st.there)) st)
      (free_end now xs sh' end.columns end.shows) (high_end now xs sh' end.columns end.shows)))
  from_line (suc d) k e now xs ms sh mk none =
      let l : k < length plan = omega arith in
      let at_start = shows_ready k now xs ms l sh mk in
      subst (λ (r : List Action). Comes m s plan targets (play r now (site m s xs ms))) (sym (drop-cons plan k no_action l))
      (subst (λ (v : Scene). Then k v (refusal_of v (call_of (line plan k))) (called v (call_of (line plan k)))) (sym at_start.is)
      (due k at_start.columns at_start.marks l at_start.shows at_start.marked none (from_line d (suc k) (omega arith))))
