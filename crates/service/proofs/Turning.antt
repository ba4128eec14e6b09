-- A list of deeds is a list of requests: its site and its answers are theirs. Assumes nothing.
use Rattle.std.proofs.Common.{◌≡◌, List, [], ◌∷◌, map, refl, sym, ap, ◌∙◌, subst}
use Rattle.std.specs.List.{fold}
use Rattle.terms.specs.Durations.{SiteSettings}
use Rattle.ground.specs.Meaning.{Lawful, Meaning}
use Rattle.gate.specs.Scene.{Scene, opened}
use Rattle.undertaking.specs.Requests.{each_answers}
use Rattle.undertaking.specs.Runs.{Reply}
use Rattle.undertaking.proofs.Plain.{Proper}
use Rattle.service.specs.declared.deed.Deed.{Deed}
use Rattle.service.specs.Deeds.{replies_to, runs}
use Rattle.service.specs.View.{deed_of, given_done, given_reply}
use Rattle.service.specs.Whole.{Whole}
use Rattle.service.proofs.Standing.{whole}

pub runs_folds : (v : Scene) (ds : List Deed) → fold given_done v ds ≡ runs v (map deed_of ds)
runs_folds v [] = refl
runs_folds v (d ∷ ds) = runs_folds (given_done v d) ds

pub replies_folds : (v : Scene) (ds : List Deed) → each_answers given_reply given_done v ds ≡ replies_to v (map deed_of ds)
replies_folds v [] = refl
replies_folds v (d ∷ ds) = ap (λ rs. given_reply v d ∷ rs) (replies_folds (given_done v d) ds)

-- what is undertaken, of a site and of answers that are those of the deeds
pub whole_of : (m : Meaning) (s : SiteSettings) → Lawful m → Proper s → (ds : List Deed) (rs : List Reply) (v : Scene)
    → v ≡ fold given_done (opened m s) ds → rs ≡ each_answers given_reply given_done (opened m s) ds → Whole m s (map deed_of ds) rs v
whole_of m s law ok ds rs v after answers =
    let S : Scene → Type 0 = Whole m s (map deed_of ds) (replies_to (opened m s) (map deed_of ds)) in
    let A : List Reply → Type 0 = λ qs. Whole m s (map deed_of ds) qs v in
    subst A (sym (answers ∙ replies_folds (opened m s) ds)) (subst S (sym (after ∙ runs_folds (opened m s) ds)) (whole m s law ok (map deed_of ds)))
