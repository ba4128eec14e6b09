-- A list of calls is a list of requests: its site and its answers are theirs. Assumes nothing.
use Rattle.std.proofs.Common.{◌≡◌, List, [], ◌∷◌, refl, sym, ap, ◌∙◌, subst}
use Rattle.std.specs.List.{fold}
use Rattle.terms.specs.Durations.{SiteSettings}
use Rattle.ground.specs.Meaning.{Lawful, Meaning}
use Rattle.gate.specs.declared.call.Call.{Call}
use Rattle.gate.specs.Scene.{Scene, opened}
use Rattle.gate.specs.Gate.{step}
use Rattle.undertaking.specs.Requests.{each_answers}
use Rattle.undertaking.specs.Runs.{Reply, run, reply, replies}
use Rattle.undertaking.specs.Undertaking.{Undertaking}
use Rattle.undertaking.proofs.Plain.{Proper}
use Rattle.undertaking.proofs.Undertaken.{undertaken}

pub run_folds : (v : Scene) (ks : List Call) → fold step v ks ≡ run v ks
run_folds v [] = refl
run_folds v (k ∷ ks) = run_folds (step v k) ks

pub replies_folds : (v : Scene) (ks : List Call) → each_answers reply step v ks ≡ replies v ks
replies_folds v [] = refl
replies_folds v (k ∷ ks) = ap (λ rs. reply v k ∷ rs) (replies_folds (step v k) ks)

-- what is undertaken, of a site and of answers that are those of the calls
pub undertaken_of : (m : Meaning) (s : SiteSettings) → Lawful m → Proper s → (ks : List Call) (rs : List Reply) (v : Scene)
    → v ≡ fold step (opened m s) ks → rs ≡ each_answers reply step (opened m s) ks → Undertaking m s ks rs v
undertaken_of m s law ok ks rs v after answers =
    let S : Scene → Type 0 = Undertaking m s ks (replies (opened m s) ks) in
    let A : List Reply → Type 0 = λ qs. Undertaking m s ks qs v in
    subst A (sym (answers ∙ replies_folds (opened m s) ks)) (subst S (sym (after ∙ run_folds (opened m s) ks)) (undertaken m s law ok ks))
