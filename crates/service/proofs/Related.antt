-- Each deed of a list, its answer and the site after it stand in the deed's relation. Assumes nothing.
use Rattle.std.proofs.Common.{◌≡◌, Bool, true, false, cond, List, [], ◌∷◌, Some, sym, refl, ◌∙◌, subst}
use Rattle.std.proofs.lemmas.Bool.{both_ways}
use Rattle.terms.specs.Durations.{SiteSettings}
use Rattle.terms.specs.Refusals.{told}
use Rattle.terms.specs.declared.refusal.Rule.TheVariants.{NotFresh}
use Rattle.ground.specs.Meaning.{Lawful, Meaning}
use Rattle.gate.specs.Scene.{Columns, Scene}
use Rattle.undertaking.specs.Runs.{by_refusal}
use Rattle.undertaking.proofs.Plain.{Proper, run}
use Rattle.undertaking.proofs.Kept.{Kept}
use Rattle.undertaking.proofs.Calls.{kept_run}
use Rattle.undertaking.proofs.Scenes.{run_scene, scene}
use Rattle.undertaking.proofs.Undertaken.{relates}
use Rattle.plan.specs.Plan.{Action}
use Rattle.play.specs.Play.{Outcome, is_fresh, play}
use Rattle.play.proofs.Standing.{plays_stand}
use Rattle.service.specs.Deeds.{AllRelate, Deed, DeedRelates, reply_to, replies_to, done, runs, calls_by}
use Rattle.service.proofs.Unfolding.{done_run}

abbrev refused : Scene → Outcome
refused v = record { answer = Some (told NotFresh 0 0); site = v }

plays_relate : (v : Scene) (actions : List Action) → DeedRelates v (Deed.plays actions) (reply_to v (Deed.plays actions)) (done v (Deed.plays actions))
plays_relate v actions = go (is_fresh v) refl
  where
    go : (b : Bool) → is_fresh v ≡ b
        → DeedRelates v (Deed.plays actions) (by_refusal (cond b (play actions 0 v) (refused v)).answer) (cond b (play actions 0 v) (refused v)).site
    go true e = (λ u. ((play actions 0 v).answer, refl, plays_stand.played actions 0 v), λ n. absurd (n ((plays_stand.fresh_words v).0 e)))
    go false e = (λ u. absurd (both_ways (is_fresh v) e ((plays_stand.fresh_words v).1 u)), λ n. (refl, refl))

module _ (m : Meaning) (s : SiteSettings) (law : Lawful m) (ok : Proper s) where
  deed_relates : (xs : Columns) → Kept m s xs → (d : Deed) → DeedRelates (scene m s xs) d (reply_to (scene m s xs) d) (done (scene m s xs) d)
  deed_relates xs k (Deed.call a) = relates m s law ok xs k a
  deed_relates xs k (Deed.plays actions) = plays_relate (scene m s xs) actions

  pub all_relate : (ds : List Deed) (xs : Columns) → Kept m s xs
      → AllRelate (scene m s xs) ds (replies_to (scene m s xs) ds) (runs (scene m s xs) ds)
  all_relate [] xs k = refl
  all_relate (d ∷ ds) xs k =
      let ks = calls_by (scene m s xs) d in
      let P : Scene → Type 0 = λ v. AllRelate v ds (replies_to v ds) (runs v ds) in
      let is : done (scene m s xs) d ≡ scene m s (run m s xs ks) = done_run (scene m s xs) d ∙ run_scene m s law ok ks xs k in
      (done (scene m s xs) d, deed_relates xs k d, subst P (sym is) (all_relate ds (run m s xs ks) (kept_run m s law ok xs k ks)))
