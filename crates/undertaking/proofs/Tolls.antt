-- The toll by the table is the toll by the relation. Assumes nothing.
use Rattle.std.proofs.Common.{◌≡◌, ℕ, suc, true, cond, Some, None, unwrap_or, sym, ap, ◌∙◌, inl, inr}
use Rattle.std.proofs.lemmas.Bool.{cases_Bool, cond-true, cond-false}
use Rattle.gate.proofs.Sums.{sum_same}
use Rattle.gate.specs.Column.{robot}
use Rattle.gate.specs.Recall.{cost_of}
use Rattle.gate.specs.Scene.{Columns, state_at}
use Rattle.ground.specs.Meaning.{Meaning, Lawful}
use Rattle.terms.specs.Durations.{SiteSettings}
use Rattle.undertaking.proofs.Plain.{relief, toll, robot_steps}
use Rattle.undertaking.specs.Obeying.{Toll}
use Rattle.ways.proofs.Exactness.{ways_exact, in_table}
use Rattle.ways.specs.Table.{steps}
use Rattle.undertaking.proofs.Kept.{Kept}

module _ (m : Meaning) (law : Lawful m) (xs : Columns) where
  same_cost : (c n : ℕ) → (robot (state_at xs c) ≡ true → steps m (relief xs) c ≡ Some n) → cond (robot (state_at xs c)) (suc n) 0 ≡ cost_of (robot_steps m xs c)
  same_cost c n h = elim (cases_Bool (robot (state_at xs c))) [
    | inl r ↦ cond-true (robot (state_at xs c)) (suc n) 0 r ∙ sym (ap cost_of (cond-true (robot (state_at xs c)) (steps m (relief xs) c) None r ∙ h r))
    | inr r ↦ cond-false (robot (state_at xs c)) (suc n) 0 r ∙ sym (ap cost_of (cond-false (robot (state_at xs c)) (steps m (relief xs) c) None r))
  ]

  pub toll_is : (t : ℕ) → Toll m (relief xs) xs t → t ≡ toll m xs
  toll_is t k =
      k.is_sum
      ∙ sum_same (λ c. cond (robot (state_at xs c)) (suc (k.fewest c)) 0) (λ c. cost_of (robot_steps m xs c)) m.columns
      (λ c _. same_cost c (k.fewest c) (λ r. in_table m (relief xs) law c (k.fewest c) (k.are_fewest c r)))

  pub tolled : (s : SiteSettings) → Kept m s xs → Toll m (relief xs) xs (toll m xs)
  tolled s k =
      record {
        fewest = fewest;
        are_fewest = λ c r. let e = labelled c r in
            record { way = (ways_exact m (relief xs) law).sound c (fewest c) e; least = λ j w. (ways_exact m (relief xs) law).least c (fewest c) j e w };
        is_sum = sym (sum_same (λ c. cond (robot (state_at xs c)) (suc (fewest c)) 0) (λ c. cost_of (robot_steps m xs c)) m.columns (λ c _. same_cost c (fewest c) (labelled c)));
      }
    where
      fewest : ℕ → ℕ
      fewest c = unwrap_or (steps m (relief xs) c) 0

      labelled : (c : ℕ) → robot (state_at xs c) ≡ true → steps m (relief xs) c ≡ Some (fewest c)
      labelled c r =
          let w = k.ways c r in
          let e = (ways_exact m (relief xs) law).complete c w.0 w.1 in
          e.1 ∙ ap Some (sym (ap (λ o. unwrap_or o 0) e.1))
