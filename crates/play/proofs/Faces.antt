-- What a running action shows in the states of its columns, and what a tick makes of that. Assumes nothing.
use Rattle.std.proofs.Common.{◌≡◌, ℕ, zero, suc, pred, ◌+◌, ◌-◌, ◌<◌, min, Bool, true, false, not, ◌&&◌, eqb, leb, ◌≢◌, ◌⊎◌, sym, refl, ap, ◌∙◌, inl, inr, arith}
use Rattle.std.proofs.lemmas.Bool.{eq-eqb, ne_eqb, false≢true, both_ways, cases_eq}
use Rattle.std.proofs.lemmas.Bool.Decides.{nat_tests}
use Rattle.terms.specs.declared.work.Work.{Work}
use Rattle.terms.specs.declared.work.Work.TheVariants.{Entry, Leave, Wait, Move, PickUp, Deliver}
use Rattle.gate.specs.declared.column.Column.{Column}
use Rattle.gate.specs.declared.column.State.{State}
use Rattle.gate.specs.declared.column.State.TheVariants.{Free, Standing}
use Rattle.gate.specs.Column.{changes, column, held, next, next_height, robot}
use Rattle.plan.specs.Plan.{Action, carry_after_of, delivers, end_column_of, is_deliver, is_entry, is_leave, is_pick_up, picks}
use Rattle.plan.specs.Rules.{OneColumn}
use Rattle.plan.proofs.Counts.{unit}
use Rattle.play.specs.Shown.{changes_height, shown, shown_by}

-- the state after its last tick; x: the column is its from
abbrev pub rest_of : Work → Bool → Bool → State
rest_of Entry b x = Standing b
rest_of Leave b x = Free
rest_of Wait b x = Standing b
rest_of Move b true = Free
rest_of Move b false = Standing b
rest_of PickUp b true = Standing true
rest_of PickUp b false = Free
rest_of Deliver b true = Standing false
rest_of Deliver b false = Free

abbrev pub last_height : Work → Bool → ℕ → ℕ
last_height Entry x h = h
last_height Leave x h = h
last_height Wait x h = h
last_height Move x h = h
last_height PickUp true h = h
last_height PickUp false h = pred h
last_height Deliver true h = h
last_height Deliver false h = min (h + 1) 255

-- a column of height h and state z, one tick later
abbrev pub later : ℕ → State → Column
later h z = column (next_height z h) (next z)

pub shown_held : (w : Work) (b : Bool) (f o n : ℕ) (x : Bool) → held (shown_by w b f o n x) ≡ true
shown_held Entry b f o n x = refl
shown_held Leave b f o n x = refl
shown_held Wait b f o n x = refl
shown_held Move b f o n true = refl
shown_held Move b f o n false = refl
shown_held PickUp b f o n true = refl
shown_held PickUp b f o n false = refl
shown_held Deliver b f o n true = refl
shown_held Deliver b f o n false = refl

pub never_free : (a : Action) (t c : ℕ) (z : State) → z ≡ Free → z ≡ shown a t c → ⊥
never_free a t c z e f =
    both_ways (held z) (ap held e) (ap held f ∙ shown_held a.work a.carry a.from a.to (a.end - t) (eqb a.from c))

-- the to column of a lay or lift is changing, and no other
pub shown_changes : (w : Work) (b : Bool) (f o n : ℕ) (x : Bool) → changes (shown_by w b f o n x) ≡ (changes_height w && not x)
shown_changes Entry b f o n x = refl
shown_changes Leave b f o n x = refl
shown_changes Wait b f o n x = refl
shown_changes Move b f o n true = refl
shown_changes Move b f o n false = refl
shown_changes PickUp b f o n true = refl
shown_changes PickUp b f o n false = refl
shown_changes Deliver b f o n true = refl
shown_changes Deliver b f o n false = refl

next_more : (h : ℕ) (w : Work) (b : Bool) (f o n : ℕ) (x : Bool)
    → later h (shown_by w b f o (suc (suc n)) x) ≡ column h (shown_by w b f o (suc n) x)
next_more h Entry b f o n x = refl
next_more h Leave b f o n x = refl
next_more h Wait b f o n x = refl
next_more h Move b f o n true = refl
next_more h Move b f o n false = refl
next_more h PickUp b f o n true = refl
next_more h PickUp b f o n false = refl
next_more h Deliver b f o n true = refl
next_more h Deliver b f o n false = refl

next_last : (h : ℕ) (w : Work) (b : Bool) (f o : ℕ) (x : Bool)
    → later h (shown_by w b f o 1 x) ≡ column (last_height w x h) (rest_of w b x)
next_last h Entry b f o x = refl
next_last h Leave b f o x = refl
next_last h Wait b f o x = refl
next_last h Move b f o true = refl
next_last h Move b f o false = refl
next_last h PickUp b f o true = refl
next_last h PickUp b f o false = refl
next_last h Deliver b f o true = refl
next_last h Deliver b f o false = refl

-- a tick of an action that goes on, and its last one
pub shown_more : (a : Action) (h t c : ℕ) → suc t < a.end → later h (shown a t c) ≡ column h (shown a (suc t) c)
shown_more a h t c l =
    let e : a.end - t ≡ suc (suc (a.end - suc (suc t))) = omega arith in
    let f : suc (a.end - suc (suc t)) ≡ a.end - suc t = omega arith in
    ap (λ (r : ℕ). later h (shown_by a.work a.carry a.from a.to r (eqb a.from c))) e
    ∙ next_more h a.work a.carry a.from a.to (a.end - suc (suc t)) (eqb a.from c)
    ∙ ap (λ (r : ℕ). column h (shown_by a.work a.carry a.from a.to r (eqb a.from c))) f

pub shown_last : (a : Action) (h t c : ℕ) → suc t ≡ a.end
    → later h (shown a t c) ≡ column (last_height a.work (eqb a.from c) h) (rest_of a.work a.carry (eqb a.from c))
shown_last a h t c l =
    let e : a.end - t ≡ 1 = omega arith in
    ap (λ (r : ℕ). later h (shown_by a.work a.carry a.from a.to r (eqb a.from c))) e
    ∙ next_last h a.work a.carry a.from a.to (eqb a.from c)

pub not_leave : (w : Work) → is_leave w ≡ false → w ≢ Leave
not_leave w e f = false≢true (sym e ∙ ap is_leave f)

pub not_entry : (w : Work) → is_entry w ≡ false → w ≢ Entry
not_entry w e f = false≢true (sym e ∙ ap is_entry f)

pub leave_or_not : (w : Work) → (w ≡ Leave) ⊎ (w ≢ Leave)
leave_or_not Entry = inr (not_leave Entry refl)
leave_or_not Leave = inl refl
leave_or_not Wait = inr (not_leave Wait refl)
leave_or_not Move = inr (not_leave Move refl)
leave_or_not PickUp = inr (not_leave PickUp refl)
leave_or_not Deliver = inr (not_leave Deliver refl)

-- the columns of a move, a pick up and a deliver are two
abbrev pub TwoColumns : Work → ℕ → ℕ → Type 0
TwoColumns Entry f o = Unit {0}
TwoColumns Leave f o = Unit {0}
TwoColumns Wait f o = Unit {0}
TwoColumns Move f o = f ≢ o
TwoColumns PickUp f o = f ≢ o
TwoColumns Deliver f o = f ≢ o

-- an action that has ended at c leaves its robot standing there
pub rest_end : (w : Work) (b : Bool) (f o c : ℕ) → w ≢ Leave → TwoColumns w f o → end_column_of w f o ≡ c
    → rest_of w b (eqb f c) ≡ Standing (carry_after_of w b)
rest_end Entry b f o c n d e = refl
rest_end Leave b f o c n d e = absurd (n refl)
rest_end Wait b f o c n d e = refl
rest_end Move b f o c n d e = ap (rest_of Move b) (ne_eqb f c (λ q. d (q ∙ sym e)))
rest_end PickUp b f o c n d e = ap (rest_of PickUp b) (eq-eqb f c e)
rest_end Deliver b f o c n d e = ap (rest_of Deliver b) (eq-eqb f c e)

-- and its other columns free
one : (f o c : ℕ) → o ≡ f → (f ≡ c) ⊎ (o ≡ c) → f ≡ c
one f o c s (inl e) = e
one f o c s (inr e) = sym s ∙ e

pub rest_either : (w : Work) (b : Bool) (f o c : ℕ) → OneColumn w f o → (f ≡ c) ⊎ (o ≡ c)
    → ((w ≢ Leave) × (end_column_of w f o ≡ c)) ⊎ (rest_of w b (eqb f c) ≡ Free)
rest_either Entry b f o c s w = inl (not_leave Entry refl, one f o c s w)
rest_either Leave b f o c s w = inr refl
rest_either Wait b f o c s w = inl (not_leave Wait refl, one f o c s w)
rest_either Move b f o c s (inl e) = inr (ap (rest_of Move b) (eq-eqb f c e))
rest_either Move b f o c s (inr e) = inl (not_leave Move refl, e)
rest_either PickUp b f o c s w =
    elim (cases_eq f c) [ inl e ↦ inl (not_leave PickUp refl, e) | inr n ↦ inr (ap (rest_of PickUp b) (ne_eqb f c n)) ]
rest_either Deliver b f o c s w =
    elim (cases_eq f c) [ inl e ↦ inl (not_leave Deliver refl, e) | inr n ↦ inr (ap (rest_of Deliver b) (ne_eqb f c n)) ]

pub end_touches : (w : Work) (f o : ℕ) → (f ≡ end_column_of w f o) ⊎ (o ≡ end_column_of w f o)
end_touches Entry f o = inl refl
end_touches Leave f o = inl refl
end_touches Wait f o = inl refl
end_touches Move f o = inr refl
end_touches PickUp f o = inl refl
end_touches Deliver f o = inl refl

-- a robot is at the from of a running action
pub from_robot : (w : Work) (b : Bool) (f o n : ℕ) → robot (shown_by w b f o n true) ≡ true
from_robot Entry b f o n = refl
from_robot Leave b f o n = refl
from_robot Wait b f o n = refl
from_robot Move b f o n = refl
from_robot PickUp b f o n = refl
from_robot Deliver b f o n = refl

-- and nowhere else
elsewhere : (f c : ℕ) (p : Bool → Bool) → p false ≡ false → p (eqb f c) ≡ true → f ≡ c
elsewhere f c p e r = elim (cases_eq f c) [ inl q ↦ q | inr n ↦ absurd (both_ways (p (eqb f c)) (ap p (ne_eqb f c n) ∙ e) r) ]

pub robot_from : (w : Work) (b : Bool) (f o n c : ℕ) → OneColumn w f o → (f ≡ c) ⊎ (o ≡ c) → robot (shown_by w b f o n (eqb f c)) ≡ true → f ≡ c
robot_from Entry b f o n c s w r = one f o c s w
robot_from Leave b f o n c s w r = one f o c s w
robot_from Wait b f o n c s w r = one f o c s w
robot_from Move b f o n c s w r = elsewhere f c (λ x. robot (shown_by Move b f o n x)) refl r
robot_from PickUp b f o n c s w r = elsewhere f c (λ x. robot (shown_by PickUp b f o n x)) refl r
robot_from Deliver b f o n c s w r = elsewhere f c (λ x. robot (shown_by Deliver b f o n x)) refl r

-- the height of a column that an action changes lets it: there is a block to pick up, or a byte holds one more
abbrev pub Fits : Work → ℕ → Type 0
Fits Entry h = Unit {0}
Fits Leave h = Unit {0}
Fits Wait h = Unit {0}
Fits Move h = Unit {0}
Fits PickUp h = 0 < h
Fits Deliver h = h < 255

pred_is : (h : ℕ) → pred h ≡ h - 1
pred_is zero = refl
pred_is (suc h) = omega arith

-- heights after the last tick: D deliveries and P pick-ups before it, D' and P' after it
pub last_level : (w : Work) (f o c h D P D' P' : ℕ) → TwoColumns w f o → (f ≡ c) ⊎ (o ≡ c)
    → (o ≡ c → Fits w h) → D ≡ h + P → D' ≡ D + unit (is_deliver w && eqb o c) → P' ≡ P + unit (is_pick_up w && eqb o c)
    → D' ≡ last_height w (eqb f c) h + P'
last_level Entry f o c h D P D' P' n w g e d p = omega arith
last_level Leave f o c h D P D' P' n w g e d p = omega arith
last_level Wait f o c h D P D' P' n w g e d p = omega arith
last_level Move f o c h D P D' P' n w g e d p = omega arith
last_level PickUp f o c h D P D' P' n (inl w) g e d p =
    let m : o ≢ c = λ q. n (w ∙ sym q) in
    omega (arith, ap (λ (x : Bool). last_height PickUp x h) (eq-eqb f c w), ap unit (ne_eqb o c m))
last_level PickUp f o c h D P D' P' n (inr w) g e d p =
    let m : f ≢ c = λ q. n (q ∙ sym w) in
    omega (arith, g w, pred_is h, ap (λ (x : Bool). last_height PickUp x h) (ne_eqb f c m), ap unit (eq-eqb o c w))
last_level Deliver f o c h D P D' P' n (inl w) g e d p =
    let m : o ≢ c = λ q. n (w ∙ sym q) in
    omega (arith, ap (λ (x : Bool). last_height Deliver x h) (eq-eqb f c w), ap unit (ne_eqb o c m))
last_level Deliver f o c h D P D' P' n (inr w) g e d p =
    let m : f ≢ c = λ q. n (q ∙ sym w) in
    omega (arith, g w, ap (λ (x : Bool). last_height Deliver x h) (ne_eqb f c m), ap unit (eq-eqb o c w))

-- only an action that ends at suc t changes the counts from t to suc t
same : (x : Bool) (o c e t : ℕ) → (o ≡ c → e ≡ suc t → ⊥) → (x && (eqb o c && leb e (suc t))) ≡ (x && (eqb o c && leb e t))
same x o c e t n = ap (λ (y : Bool). x && y) (go o e n)
  where
    go : (o e : ℕ) → (o ≡ c → e ≡ suc t → ⊥) → (eqb o c && leb e (suc t)) ≡ (eqb o c && leb e t)
    go o e n = grind (arith, nat_tests)

pub delivers_same : (a : Action) (t c : ℕ) → (a.to ≡ c → a.end ≡ suc t → ⊥) → delivers (suc t) c a ≡ delivers t c a
delivers_same a t c n = same (is_deliver a.work) a.to c a.end t n

pub picks_same : (a : Action) (t c : ℕ) → (a.to ≡ c → a.end ≡ suc t → ⊥) → picks (suc t) c a ≡ picks t c a
picks_same a t c n = same (is_pick_up a.work) a.to c a.end t n
