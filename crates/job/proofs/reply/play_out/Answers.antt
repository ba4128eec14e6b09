use Rattle.std.proofs.Common.{◌≡◌, ℕ, Ok, Err, MatchResult, rules, List, ◌++◌, Some, None, vec_items, codes, Option, Result, sym, ap, ◌∙◌, subst}
use Rattle.terms.specs.Refusals.{Answers, Settles, Silent, Told, refusal_in, told_of}
use Rattle.terms.specs.declared.refusal.Refusal.{Refusal}
use Rattle.terms.specs.View.{settings_of}
use Rattle.ground.specs.Meaning.{Meaning}
use Rattle.ground.specs.View.{square_of}
use Rattle.gate.specs.Scene.{Scene}
use Rattle.plan.specs.Plan.{Action, makespan}
use Rattle.plan.specs.Rules.{Rules, target_of}
use Rattle.sheet.specs.View.{records_in}
use Rattle.judge.specs.Figures.{Computed, Figures, costs_of}
use Rattle.play.specs.Play.{Outcome, play_on}
use Rattle.play.specs.Stands.{Comes}
use Rattle.draw.specs.Rows.{text as drawing}
use Rattle.job.specs.Jobs.{job_refusal, order, sheet_in}
use Rattle.job.specs.Replies.{answered, ground_of, heights, ok_row, outcome, plan_in, played_reply, reply, row}
use Rattle.job.specs.View.{Judges, site_of}
use Rattle.job.specs.Words.{Verdict, job_reasons}
use Rattle.job.specs.declared.opened.Judged.{Judged}
use Rattle.job.specs.declared.reply.Played.{Played}
use Rattle.job.specs.declared.reply.Stop.{Stop}
use Rattle.job.specs.Written.{written}
use Rattle.job.proofs.Played.{is_accepted, is_held}
use Rattle.job.proofs.Settled.{job_settles}
use Rattle.job.proofs.reply.play_out.Goals as goal

-- the row of an acceptance is the row of the figures that are computed
figured : (plan : List Action) (m c k : ℕ) → Computed plan m c k → row (codes "OK  ") m c k ≡ ok_row plan
figured plan m c k f =
    ap (λ (x : ℕ). row (codes "OK  ") x c k) f.makespan_so
    ∙ ap (λ (x : ℕ). row (codes "OK  ") (makespan plan) x k) f.costs_so
    ∙ ap (λ (x : ℕ). row (codes "OK  ") (makespan plan) (costs_of plan) x) f.most_so

-- what was judged and played is the job's
module _ (input : List ℕ) (j : Judged) (is : Judges input j) where
  played : play_on j.plan.plan (site_of j.job) ≡ outcome input
  played = ap (λ (p : List Action). play_on p (site_of j.job)) is.accepts.plan ∙ ap (play_on (plan_in input)) is.site

  came : ((targets : ℕ → ℕ) → Rules (square_of j.job.ground) (settings_of j.job.settings) j.plan.plan targets
      → Comes (square_of j.job.ground) (settings_of j.job.settings) j.plan.plan targets (play_on j.plan.plan (site_of j.job)))
      → Comes (ground_of (order input)) (settings_of j.job.settings) (plan_in input) (target_of (records_in (sheet_in input)).targets) (outcome input)
  came comes =
      let s = settings_of j.job.settings in
      let t = target_of (records_in (sheet_in input)).targets in
      let rules = subst (λ (p : List Action). Rules (square_of j.job.ground) s p t) (sym is.accepts.plan) is.keeps.rules.rules in
      let a = comes t rules in
      let b = subst (λ (m : Meaning). Comes m s j.plan.plan t (play_on j.plan.plan (site_of j.job))) is.ground a in
      let d = subst (λ (p : List Action). Comes (ground_of (order input)) s p t (play_on p (site_of j.job))) is.accepts.plan b in
      subst (λ (v : Scene). Comes (ground_of (order input)) s (plan_in input) t (play_on (plan_in input) v)) is.site d

  silent : job_refusal input ≡ None → Silent (job_reasons input)
  silent none = subst (Settles (job_reasons input)) none (job_settles input)

  computed : Computed (plan_in input) j.plan.makespan j.plan.costs j.plan.most
  computed = subst (λ (p : List Action). Computed p j.plan.makespan j.plan.costs j.plan.most) is.accepts.plan is.accepts.computed

  figures : Figures (plan_in input) j.plan.makespan j.plan.costs j.plan.most
  figures = subst (λ (p : List Action). Figures p j.plan.makespan j.plan.costs j.plan.most) is.accepts.plan is.accepts.figures

  -- the answer where nothing is refused
  goes_on : job_refusal input ≡ None → (a : Option Told) → (outcome input).answer ≡ a → answered input ≡ played_reply (ground_of (order input)).columns (plan_in input) a (outcome input).site
  unfolding answered
  goes_on none a e =
      ap (λ (o : Option Told). reply o (played_reply (ground_of (order input)).columns (plan_in input) (outcome input).answer (outcome input).site)) none
      ∙ ap (λ (o : Option Told). played_reply (ground_of (order input)).columns (plan_in input) o (outcome input).site) e

  abbrev On : Outcome
  On = play_on j.plan.plan (site_of j.job)

  -- it was stopped in play
  held : {T : Type 0} (r : Result T Refusal) (out : Result Played Stop) → job_refusal input ≡ None → refusal_in r ≡ On.answer
      → ((targets : ℕ → ℕ) → Rules (square_of j.job.ground) (settings_of j.job.settings) j.plan.plan targets
      → Comes (square_of j.job.ground) (settings_of j.job.settings) j.plan.plan targets On)
      → MatchResult r (λ _. ⊥) (λ f. out ≡ Err (Stop.Held f)) → (written out ≡ answered input) × Verdict input (written out)
  held (Ok x) out none a comes m = absurd m
  held (Err f) out none a comes e =
      let t = told_of f in
      let stops : (outcome input).answer ≡ Some t = ap (λ (o : Outcome). o.answer) (sym played) ∙ sym a in (
        ap written e ∙ sym (goes_on none (Some t) stops),
        subst (λ (o : Result Played Stop). Verdict input (written o)) (sym e) (is_held input (settings_of j.job.settings) (outcome input) t (silent none) (came comes) stops),
      )

  -- it was played to its end
  ended : (m c k : ℕ) (hs : List ℕ) → job_refusal input ≡ None → None ≡ On.answer
      → ((targets : ℕ → ℕ) → Rules (square_of j.job.ground) (settings_of j.job.settings) j.plan.plan targets
      → Comes (square_of j.job.ground) (settings_of j.job.settings) j.plan.plan targets On)
      → m ≡ j.plan.makespan → c ≡ j.plan.costs → k ≡ j.plan.most
      → hs ≡ heights (square_of j.job.ground).columns On.site
      → (row (codes "OK  ") m c k ++ drawing hs ≡ answered input) × Verdict input (row (codes "OK  ") m c k ++ drawing hs)
  ended m c k hs none a comes em ec ek eh =
      let plan = j.plan in
      let n = (ground_of (order input)).columns in
      let stays : (outcome input).answer ≡ None = ap (λ (o : Outcome). o.answer) (sym played) ∙ sym a in
      let drawn : hs ≡ heights n (outcome input).site =
      eh ∙ ap (λ (g : Meaning). heights g.columns On.site) is.ground ∙ ap (λ (o : Outcome). heights n o.site) played in
      let all : row (codes "OK  ") m c k ++ drawing hs ≡ row (codes "OK  ") plan.makespan plan.costs plan.most ++ drawing (heights n (outcome input).site) =
      ap (λ (x : ℕ). row (codes "OK  ") x c k ++ drawing hs) em ∙ ap (λ (x : ℕ). row (codes "OK  ") plan.makespan x k ++ drawing hs) ec
      ∙ ap (λ (x : ℕ). row (codes "OK  ") plan.makespan plan.costs x ++ drawing hs) ek
      ∙ ap (λ (l : List ℕ). row (codes "OK  ") plan.makespan plan.costs plan.most ++ drawing l) drawn in (
        all ∙ ap (λ (l : List ℕ). l ++ drawing (heights n (outcome input).site)) (figured (plan_in input) plan.makespan plan.costs plan.most computed) ∙ sym (goes_on none None stays),
        subst (Verdict input) (sym all) (is_accepted input (settings_of j.job.settings) (outcome input) plan.makespan plan.costs plan.most (silent none) figures (came comes) stays),
      )

-- it was refused
bad : (input : List ℕ) (r : Result Judged Refusal) (out : Result Played Stop) → Answers (job_refusal input) (Judges input) r
    → MatchResult r (λ _. ⊥) (λ f. out ≡ Err (Stop.Bad f)) → (written out ≡ answered input) × Verdict input (written out)
unfolding answered
bad input (Ok x) out a m = absurd m
bad input (Err f) out a e = (
  ap written e ∙ sym (ap (λ (o : Option Told). reply o (played_reply (ground_of (order input)).columns (plan_in input) (outcome input).answer (outcome input).site)) a),
  subst (λ (o : Result Played Stop). Verdict input (written o)) (sym e) (Verdict.refused (told_of f) (subst (Settles (job_reasons input)) a (job_settles input))),
)

-- or it was judged
judged : (input : List ℕ) (r : Result Judged Refusal) (j : Judged) → Answers (job_refusal input) (Judges input) r → MatchResult r (λ x. x ≡ j) (λ _. ⊥) → (job_refusal input ≡ None) × Judges input j
judged input (Ok x) j a e = (a.0, subst (Judges input) e a.1)
judged input (Err f) j a m = absurd m

pub returns-in_err-judged-clause-value : goal.returns-in_err-judged-clause-value
returns-in_err-judged-clause-value c = (bad c.args.input.now c.judge_job.result _ c.judge_job.ensures (search rules)).0

pub returns-in_err-judged-clause-words : goal.returns-in_err-judged-clause-words
returns-in_err-judged-clause-words c = (bad c.args.input.now c.judge_job.result _ c.judge_job.ensures (search rules)).1

pub returns-in_err-heights-clause-value : goal.returns-in_err-heights-clause-value
returns-in_err-heights-clause-value c =
    let j = judged c.args.input.now c.judge_job.result c.in_ok-judged.judged c.judge_job.ensures (search rules) in
    (held c.args.input.now c.in_ok-judged.judged j.1 c.play_job.result _ j.0 c.play_job.ensures.answer c.play_job.ensures.comes (search rules)).0

pub returns-in_err-heights-clause-words : goal.returns-in_err-heights-clause-words
returns-in_err-heights-clause-words c =
    let j = judged c.args.input.now c.judge_job.result c.in_ok-judged.judged c.judge_job.ensures (search rules) in
    (held c.args.input.now c.in_ok-judged.judged j.1 c.play_job.result _ j.0 c.play_job.ensures.answer c.play_job.ensures.comes (search rules)).1

pub returns : goal.returns
returns c =
    let j = judged c.args.input.now c.judge_job.result c.in_ok-judged.judged c.judge_job.ensures (search rules) in
    let came : c.play_job.result ≡ Ok c.in_ok-heights.heights = search rules in
    let all =
    ended c.args.input.now c.in_ok-judged.judged j.1 c.from-makespan.result c.costs-costs.result c.most-most.result (vec_items c.in_ok-heights.heights.values) j.0
    (rw came at c.play_job.ensures.answer) c.play_job.ensures.comes (c.from-makespan.ensures ∙ c.makespan.ensures) c.costs-costs.ensures c.most-most.ensures
    (rw came at c.play_job.ensures.heights) in
    record { value = all.0; words = all.1 }
