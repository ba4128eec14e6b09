use Rattle.std.proofs.Common.{◌≡◌, ℕ, Bool, true, cond, ltb, List, [], ◌∷◌, ◌++◌, map, length, Some, None, vec_items, Option, Result, sym, ap, ◌∙◌, mul-le-mul, arith, rules}
use Rattle.std.specs.List.{range_with_len}
use Rattle.terms.specs.Refusals.{Told, refusal_in}
use Rattle.terms.specs.Durations.{SiteSettings}
use Rattle.terms.specs.View.{settings_of}
use Rattle.ground.specs.Meaning.{Meaning}
use Rattle.gate.specs.Column.{robot}
use Rattle.gate.specs.Scene.{Scene, height_at, opened}
use Rattle.plan.specs.Plan.{Action}
use Rattle.play.specs.Play.{Fresh, play_on}
use Rattle.play.proofs.Standing.{plays_stand}
use Rattle.ground.specs.View.{square_of}
use Rattle.gate.specs.declared.order.Order.{Order}
use Rattle.terms.specs.declared.refusal.Refusal.{Refusal}
use Rattle.undertaking.specs.Runs.{Reply, by_refusal, reply_of}
use Rattle.service.specs.Deeds.{Deed, replies_to, runs}
use Rattle.service.specs.declared.deed.Deed.{Deed as Given}
use Rattle.service.specs.View.{deed_of}
use Rattle.job.specs.Replies.{heights}
use Rattle.job.specs.View.{first_refusal, site_of}
use Rattle.job.proofs.playing.play_job.Goals as goal

-- one deed is put where there is room for one
one_deed : (ds new : List Given) (d : Given) (room : ℕ) (r : Bool) → length (map deed_of ds) ≡ 0 → room ≡ 1 → r ≡ ltb (length ds) room → new ≡ cond r (ds ++ d ∷ []) ds
    → map deed_of new ≡ deed_of d ∷ []
one_deed [] new d room r none one e n =
    let yes : r ≡ true = e ∙ ap (ltb 0) one in
    ap (map deed_of) (n ∙ ap (λ (b : Bool). cond b (d ∷ []) []) yes)
one_deed (x ∷ ds) new d room r none one e n = absurd (omega arith)

fresh : (m : Meaning) (s : SiteSettings) → Fresh (opened m s)
fresh m s =
    let b = plays_stand.opens_blank m s in
    record { no_robot = λ c h. ap robot (b.free c); flat = λ c h. b.flat c }

-- why the one deed was refused, if it was
told_first : (o : Option Told) (rs : List Reply) → rs ≡ by_refusal o ∷ [] → first_refusal rs ≡ o
told_first None rs e = ap first_refusal e
told_first (Some t) rs e = ap first_refusal e

-- so the play's refusal is what the one answer tells
told_of_play : (plan : List Action) (site : Scene) (t : Option Told) (answers read : List (Result (Option Order) Refusal)) (ds : List Deed)
    → ds ≡ Deed.plays plan ∷ [] → t ≡ first_refusal (map reply_of answers) → answers ≡ read → map reply_of read ≡ replies_to site ds → t ≡ (play_on plan site).answer
told_of_play plan site t answers read ds one told same answered =
    told ∙ ap (λ (l : List (Result (Option Order) Refusal)). first_refusal (map reply_of l)) same ∙ told_first (play_on plan site).answer _ (answered ∙ ap (replies_to site) one)

pub read_heights-requires : goal.read_heights-requires
read_heights-requires c =
    let ground = c.args.judged.job.ground in
    omega (arith, mul-le-mul ground.x_high ground.y_high, c.columns-columns.ensures)

pub returns : goal.returns
returns c =
    let site = site_of c.args.judged.job in
    let plan = c.args.judged.plan.plan in
    let m = square_of c.args.judged.job.ground in
    let s = settings_of c.args.judged.job.settings in
    let one = one_deed _ _ _ _ _ c.args.room.no_deeds c.args.room.one_fits c.add.ensures.taken c.add.ensures.requests in
    let told = told_of_play plan site _ _ _ _ one c.stopped.ensures c.deref.ensures.value c.perform-site.ensures.answered in
    record {
      answer = sym (ap refusal_in c.in_ok-stopped.was) ∙ told;
      comes = λ targets rules. c.perform-site.ensures.plays [] (Deed.plays plan ∷ []) (sym one) (fresh m s) plan targets rules;
      heights =
          c.read_heights.ensures
          ∙ ap (λ (k : ℕ). map (height_at (vec_items c.perform-site.result.site.columns)) (range_with_len 0 k)) c.columns-columns.ensures
          ∙ ap (heights m.columns) (c.perform-site.ensures.is_run ∙ ap (runs site) one);
    }

pub returns-in_err-stopped : goal.returns-in_err-stopped
returns-in_err-stopped c =
    let site = site_of c.args.judged.job in
    let plan = c.args.judged.plan.plan in
    let one = one_deed _ _ _ _ _ c.args.room.no_deeds c.args.room.one_fits c.add.ensures.taken c.add.ensures.requests in
    let told = told_of_play plan site _ _ _ _ one c.stopped.ensures c.deref.ensures.value c.perform-site.ensures.answered in
    let same : refusal_in c.from_residual.result ≡ refusal_in c.stopped.result = search rules in
    record {
      answer = same ∙ told;
      comes = λ targets rules. c.perform-site.ensures.plays [] (Deed.plays plan ∷ []) (sym one) (fresh (square_of c.args.judged.job.ground) (settings_of c.args.judged.job.settings)) plan targets rules;
      heights = search rules;
    }
