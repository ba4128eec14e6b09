-- Each way out is the first test that holds, those before it having failed.
use Rattle.std.proofs.Common.{refl, arith}
use Rattle.std.proofs.lemmas.Grind.{common_steps}
use Rattle.terms.specs.View.{settings_of}
use Rattle.plan.specs.View.{action_of, plan_of}
use Rattle.judge.proofs.Tested.{in_turn, one_by_one}
use Rattle.judge.proofs.rules.Placed.check.Goals as goal

pub returns-then-is_falling : goal.returns-then-is_falling
returns-then-is_falling c m so =
    let tests = one_by_one m (settings_of c.args.settings.now) (plan_of c.args.self.now.above.now.list.items) (action_of c.args.self.now.action.now) in
    grind (arith, common_steps)

pub returns-in-Some : goal.returns-in-Some
returns-in-Some c m so =
    let tests = in_turn m (settings_of c.args.settings.now) _ (action_of c.args.self.now.action.now) so _ c.left_standing.ensures _ refl in
    grind (arith, common_steps)

pub returns-then-not-is_level : goal.returns-then-not-is_level
returns-then-not-is_level c m so =
    let tests = in_turn m (settings_of c.args.settings.now) _ (action_of c.args.self.now.action.now) so _ c.left_standing.ensures _ refl in
    grind (arith, common_steps)

pub returns-in-Some-first_collision : goal.returns-in-Some-first_collision
returns-in-Some-first_collision c m so =
    let tests = in_turn m (settings_of c.args.settings.now) _ (action_of c.args.self.now.action.now) so _ c.left_standing.ensures _ c.first_collision.ensures in
    grind (arith, common_steps)

pub returns-then-not-is_from_somewhere : goal.returns-then-not-is_from_somewhere
returns-then-not-is_from_somewhere c m so =
    let tests = in_turn m (settings_of c.args.settings.now) _ (action_of c.args.self.now.action.now) so _ c.left_standing.ensures _ c.first_collision.ensures in
    grind (arith, common_steps)

pub returns-then-is_crowded : goal.returns-then-is_crowded
returns-then-is_crowded c m so =
    let tests = in_turn m (settings_of c.args.settings.now) _ (action_of c.args.self.now.action.now) so _ c.left_standing.ensures _ c.first_collision.ensures in
    grind (arith, common_steps)

pub returns : goal.returns
returns c m so =
    let tests = in_turn m (settings_of c.args.settings.now) _ (action_of c.args.self.now.action.now) so _ c.left_standing.ensures _ c.first_collision.ensures in
    grind (arith, common_steps)
