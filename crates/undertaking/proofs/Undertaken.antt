-- The undertaking, of every lawful ground, all settings and every list of calls. Assumes nothing.
use Rattle.std.specs.List.{AllByRecursion}
use Rattle.std.proofs.Common.{◌≡◌, ℕ, ◌<◌, ◌≤◌, List, [], ◌∷◌, None, sym, refl, ap, ◌∙◌, subst, arith}
use Rattle.terms.specs.Durations.{SiteSettings}
use Rattle.ground.specs.Meaning.{Meaning, Lawful}
use Rattle.ways.specs.Way.{Relief, Way}
use Rattle.gate.specs.declared.call.Call.{Call}
use Rattle.gate.specs.declared.call.Call.TheVariants.{Enter, Move, Lay, Lift, Leave, Tick, Recall}
use Rattle.gate.specs.Column.{robot}
use Rattle.gate.specs.Scene.{Columns, Scene, state_at, blocks_standing, blocks_carried, opened}
use Rattle.gate.specs.Scene.{relief as relief_of}
use Rattle.gate.specs.Gate.{refusal}
use Rattle.gate.specs.Gate.{step as scene_step}
use Rattle.gate.specs.Recall.{recall, Homeward}
use Rattle.gate.proofs.Crews.{no_longer}
use Rattle.gate.proofs.Deciding.{performed}
use Rattle.gate.proofs.Recalling.{recall_rightly}
use Rattle.undertaking.specs.Runs.{reply, replies, Relates, Does, brought_by as brought_of, out_by as scene_out, toil_of as toiled, building_of as built_by}
use Rattle.undertaking.specs.Runs.{run as run_of, tally as tally_of}
use Rattle.undertaking.specs.Obeying.{Empty, Robot, Holds, Toll, Obeyed as ObeyedOf}
use Rattle.gate.specs.Time.{Quiet, after_ticks as after_ticks_of}
use Rattle.undertaking.specs.Lasting.{Lasts}
use Rattle.undertaking.specs.Undertaking.{Reads, Bounds, Undertaking}
use Rattle.undertaking.proofs.Plain.{Proper, opening, relief, run, tally, toll, after_ticks, brought_by, out_by, toil_of, building_of}
use Rattle.undertaking.proofs.Plain.{step}
use Rattle.undertaking.proofs.Kept.{Kept}
use Rattle.undertaking.proofs.Calls.{kept_opening, kept_step, kept_run, kept_ticks, sound_kept}
use Rattle.undertaking.proofs.Allowed.{robot_within}
use Rattle.undertaking.proofs.Apart.{apart}
use Rattle.undertaking.proofs.Ends.{ends}
use Rattle.undertaking.proofs.Due.{toll_due, quiet_calm}
use Rattle.undertaking.proofs.Tolls.{toll_is, tolled}
use Rattle.undertaking.proofs.Clears.{clears}
use Rattle.undertaking.proofs.Least.{least}
use Rattle.undertaking.proofs.Blocks.{blocks}
use Rattle.undertaking.proofs.Scenes.{scene, opened_scene, lies, step_scene, run_scene, ticks_scene, tally_scene, obeyed_scene}
use Rattle.undertaking.proofs.Lasted.{lasts}
use Rattle.undertaking.proofs.Reading.{reads}

module _ (m : Meaning) (s : SiteSettings) (law : Lawful m) (ok : Proper s) where
  home_of : (xs : Columns) → Kept m s xs → {c n : ℕ} → Way m (relief xs) c n → Way m (relief_of (scene m s xs)) c n
  home_of xs k {c} {n} w = let P : Relief → Type 0 = λ r. Way m r c n in subst P (sym (lies m s law ok xs k)) w

  homeward : (xs : Columns) → Kept m s xs → Homeward (scene m s xs)
  homeward xs k c l r = let w = k.ways c r in (w.0, home_of xs k w.1)

  pub relates : (xs : Columns) → Kept m s xs → (a : Call) → Relates (scene m s xs) a (reply (scene m s xs) a) (scene_step (scene m s xs) a)
  relates xs k (Enter c b) = let v = scene m s xs in (refusal v (Enter c b), refl, performed v law (Enter c b) (refusal v (Enter c b)) (scene_step v (Enter c b)) refl refl)
  relates xs k (Move c d) = let v = scene m s xs in (refusal v (Move c d), refl, performed v law (Move c d) (refusal v (Move c d)) (scene_step v (Move c d)) refl refl)
  relates xs k (Lay c d) = let v = scene m s xs in (refusal v (Lay c d), refl, performed v law (Lay c d) (refusal v (Lay c d)) (scene_step v (Lay c d)) refl refl)
  relates xs k (Lift c d) = let v = scene m s xs in (refusal v (Lift c d), refl, performed v law (Lift c d) (refusal v (Lift c d)) (scene_step v (Lift c d)) refl refl)
  relates xs k (Leave c) = let v = scene m s xs in (refusal v (Leave c), refl, performed v law (Leave c) (refusal v (Leave c)) (scene_step v (Leave c)) refl refl)
  relates xs k Tick = let v = scene m s xs in (None, refl, performed v law Tick None (scene_step v Tick) refl refl)
  relates xs k Recall = let v = scene m s xs in (recall v, refl, recall_rightly v law (homeward xs k), refl)

  does : (ks : List Call) (xs : Columns) → Kept m s xs → Does (scene m s xs) ks (replies (scene m s xs) ks) (run_of (scene m s xs) ks)
  does [] xs k = refl
  does (a ∷ ks) xs k =
      let P : Scene → Type 0 = λ v. Does v ks (replies v ks) (run_of v ks) in
      (scene_step (scene m s xs) a, relates xs k a, subst P (sym (step_scene m s law ok xs k a)) (does ks (step m s xs a) (kept_step m s law ok xs k a)))

  on_ground : (xs : Columns) → Kept m s xs → (rs : List ℕ) → AllByRecursion (Robot xs) rs → AllByRecursion (λ c. (c < m.columns) × Robot xs c) rs
  on_ground xs k [] h = tt
  on_ground xs k (c ∷ cs) h = ((robot_within m s law ok xs k c h.0, h.0), on_ground xs k cs h.1)

  bounds : (xs : Columns) → Kept m s xs → Bounds (scene m s xs)
  bounds xs k =
      record {
        low = λ c. (k.fits c).low;
        border_flat = λ c. (k.fits c).flat;
        not_full = λ rs r h. let w = no_longer (λ c. robot (state_at xs c)) m.columns rs r (on_ground xs k rs h) in omega (arith, w, k.not_full);
        ways_home = λ c r. let w = k.ways c r in (w.0, home_of xs k w.1);
      }

  abbrev Clearing : Scene → Type 0
  Clearing v = (t : ℕ) × (end : Scene) × Toll m (relief_of v) v.columns t × ObeyedOf v t end × Empty end.columns

  cleared : (xs : Columns) → Kept m s xs → Quiet xs → Clearing (scene m s xs)
  cleared xs k q =
      let c = clears m s law ok (toll m xs) xs k q refl in
      let P : Relief → Type 0 = λ r. Toll m r xs (toll m xs) in
      (toll m xs, scene m s c.0, subst P (sym (lies m s law ok xs k)) (tolled m law xs s k), obeyed_scene m s law ok c.1 k, c.2)

  toiled_same : (xs : Columns) (a : Call) → toiled (scene m s xs) a ≡ toil_of xs a
  toiled_same xs (Enter c b) = refl
  toiled_same xs (Move c d) = refl
  toiled_same xs (Lay c d) = refl
  toiled_same xs (Lift c d) = refl
  toiled_same xs (Leave c) = refl
  toiled_same xs Tick = refl
  toiled_same xs Recall = refl

  built_same : (xs : Columns) (a : Call) → built_by (scene m s xs) a ≡ building_of xs a
  built_same xs (Enter c b) = refl
  built_same xs (Move c d) = refl
  built_same xs (Lay c d) = refl
  built_same xs (Lift c d) = refl
  built_same xs (Leave c) = refl
  built_same xs Tick = refl
  built_same xs Recall = refl

  brought_same : (xs : Columns) (a : Call) → brought_of (scene m s xs) a ≡ brought_by xs a
  brought_same xs (Enter c b) = refl
  brought_same xs (Move c d) = refl
  brought_same xs (Lay c d) = refl
  brought_same xs (Lift c d) = refl
  brought_same xs (Leave c) = refl
  brought_same xs Tick = refl
  brought_same xs Recall = refl

  out_same : (xs : Columns) (a : Call) → scene_out (scene m s xs) a ≡ out_by m xs a
  out_same xs (Enter c b) = refl
  out_same xs (Move c d) = refl
  out_same xs (Lay c d) = refl
  out_same xs (Lift c d) = refl
  out_same xs (Leave c) = refl
  out_same xs Tick = refl
  out_same xs Recall = refl

  abbrev FewestCalls : Scene → Type 0
  FewestCalls v = (t : ℕ) → Toll m (relief_of v) v.columns t → (more : List Call) → Empty (run_of v more).columns → tally_of built_by v more ≡ 0 → t ≤ tally_of toiled v more

  fewest_calls : (xs : Columns) → Kept m s xs → Quiet xs → FewestCalls (scene m s xs)
  fewest_calls xs k q t l more h z =
      let P : Relief → Type 0 = λ r. Toll m r xs t in
      let E : Columns → Type 0 = Empty in
      let there = least m s law ok (relief xs) more xs k (quiet_calm xs q) refl
      (subst E (ap (λ (v : Scene). v.columns) (run_scene m s law ok more xs k)) h) (sym (tally_scene m s law ok built_by building_of built_same more xs k) ∙ z) in
      omega (
        arith,
        toll_is m law xs t (subst P (lies m s law ok xs k) l),
        toll_due m xs q,
        there,
        tally_scene m s law ok toiled toil_of toiled_same more xs k,
      )

  module _ (ks : List Call) where
    xs : Columns
    xs = run m s (opening m) ks

    k : Kept m s (run m s (opening m) ks)
    k = kept_run m s law ok (opening m) (kept_opening m s ok) ks

    is : run_of (opened m s) ks ≡ scene m s (run m s (opening m) ks)
    is = ap (λ v. run_of v ks) (opened_scene m s) ∙ run_scene m s law ok ks (opening m) (kept_opening m s ok)

    later : (n : ℕ) → Kept m s (after_ticks n (run m s (opening m) ks))
    later n = kept_ticks m s law ok n (run m s (opening m) ks) k

    is_later : (n : ℕ) → after_ticks_of n (run_of (opened m s) ks) ≡ scene m s (after_ticks n (run m s (opening m) ks))
    is_later n = ap (after_ticks_of n) is ∙ ticks_scene m s law ok n (run m s (opening m) ks) k

    -- what holds by the columns holds of the site
    of_site : (P : Scene → Type 0) → P (scene m s (run m s (opening m) ks)) → P (run_of (opened m s) ks)
    of_site P h = subst P (sym is) h

    of_later : (P : Scene → Type 0) (n : ℕ) → (Quiet (after_ticks n (run m s (opening m) ks)) → P (scene m s (after_ticks n (run m s (opening m) ks))))
        → Quiet (after_ticks_of n (run_of (opened m s) ks)).columns → P (after_ticks_of n (run_of (opened m s) ks))
    of_later P n h q =
        let Q : Columns → Type 0 = Quiet in
        subst P (sym (is_later n)) (h (subst Q (ap (λ (v : Scene). v.columns) (is_later n)) q))

    counted : (f : Scene → Call → ℕ) (g : Columns → Call → ℕ) → ((xs : Columns) (a : Call) → f (scene m s xs) a ≡ g xs a) → tally_of f (opened m s) ks ≡ tally g m s (opening m) ks
    counted f g same = ap (λ v. tally_of f v ks) (opened_scene m s) ∙ tally_scene m s law ok f g same ks (opening m) (kept_opening m s ok)

    pub undertaken : Undertaking m s ks (replies (opened m s) ks) (run_of (opened m s) ks)
    undertaken =
        let ys = run m s (opening m) ks in
        let D : Scene → Type 0 = λ v. Does v ks (replies v ks) (run_of v ks) in
        let E : Scene → Type 0 = λ v. (n : ℕ) × Quiet (after_ticks_of n v).columns in
        let e = ends ys in
        let Q : Scene → Type 0 = λ v. Quiet v.columns in
        record {
          is_run = refl;
          answered = refl;
          does = subst D (sym (opened_scene m s)) (does ks (opening m) (kept_opening m s ok));
          lasts = of_site Lasts (lasts m s law ok ys k);
          reads = of_site Reads (reads m s law ok ys k);
          bounds = of_site Bounds (bounds ys k);
          ends = (e.0, subst Q (sym (is_later e.0)) e.1);
          clears = λ n. of_later Clearing n (cleared (after_ticks n ys) (later n));
          least = λ n t q. of_later FewestCalls n (fewest_calls (after_ticks n ys) (later n)) q t;
          apart = of_site (λ v. (r q c : ℕ) → Holds v.columns r c → Holds v.columns q c → r ≡ q) (apart m s ys (sound_kept m s ys k));
          blocks = omega (
            arith,
            counted brought_of brought_by brought_same,
            counted scene_out (out_by m) out_same,
            blocks m s law ok (kept_opening m s ok) ks,
            ap (λ (v : Scene). blocks_standing m v.columns) is,
            ap (λ (v : Scene). blocks_carried m v.columns) is,
          );
        }
