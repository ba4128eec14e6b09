-- The gate grants the call of an action that the site is ready for, but for want of a way home. Assumes nothing.
use Rattle.std.proofs.Common.{◌≡◌, ℕ, zero, suc, ◌-◌, ◌<◌, ◌≤◌, Bool, true, false, eqb, ◌≢◌, ◌⊎◌, List, [], ◌∷◌, length, Some, None, Option, sym, refl, ap, ◌∙◌, subst, inl, inr, arith}
use Rattle.std.proofs.lemmas.Bool.{both_ways, cases_eq, eq-eqb, ne_eqb}
use Rattle.terms.specs.Durations.{SiteSettings, duration_of}
use Rattle.terms.specs.Refusals.{Reason, Settles, Silent, Told, told}
use Rattle.terms.specs.declared.refusal.Rule.TheVariants.{NoWayHome}
use Rattle.terms.specs.declared.work.Work.{Work}
use Rattle.terms.specs.declared.work.Work.TheVariants.{Entry, Leave as LeaveWork, Wait, Move as MoveWork, PickUp, Deliver}
use Rattle.ground.specs.Meaning.{Lawful, Meaning}
use Rattle.gate.specs.declared.call.Call.{Call}
use Rattle.gate.specs.declared.call.Call.TheVariants.{Enter, Lay, Leave, Lift, Move}
use Rattle.gate.specs.declared.column.Part.TheVariants.{Arriving, Departing, Entering, Laying, Leaving, Lifting, Rising, Sinking}
use Rattle.gate.specs.declared.column.State.{State}
use Rattle.gate.specs.declared.column.State.TheVariants.{Busy}
use Rattle.gate.specs.Column.{carries, changes, robot}
use Rattle.gate.specs.Gate.{grant, granted, granted_marks, refusal, settle}
use Rattle.gate.specs.Scene.{Columns, state_at}
use Rattle.gate.specs.Scene.{height_at as height_in}
use Rattle.gate.specs.Words.{Decided, LowestStranded, Stranded, reasons}
use Rattle.gate.proofs.Crews.{no_longer}
use Rattle.gate.proofs.Deciding.{decided}
use Rattle.plan.specs.Plan.{Action, Touches}
use Rattle.play.specs.Play.{call_for, called, refusal_of}
use Rattle.play.specs.Shown.{changes_height, shown, shown_by}
use Rattle.play.proofs.Faces.{Fits, not_entry}
use Rattle.play.proofs.Columns.{Placed, placed_none, placed_one, placed_two}
use Rattle.play.proofs.Marks.{Marked, marked_same, marked_set}
use Rattle.play.proofs.Readings.{site}
use Rattle.play.proofs.Ready.{Ready}

-- the first n reasons, and those after them
abbrev front : ℕ → List Reason → List Reason
front zero rs = []
front (suc n) [] = []
front (suc n) (r ∷ rs) = r ∷ front n rs

abbrev beyond : ℕ → List Reason → List Reason
beyond zero rs = rs
beyond (suc n) [] = []
beyond (suc n) (r ∷ rs) = beyond n rs

-- where the first reasons do not hold, the others decide
refuted : (n : ℕ) (rs : List Reason) (o : Option Told) → Silent (front n rs) → Settles rs o → Settles (beyond n rs) o
refuted zero rs o q s = s
refuted (suc n) [] o q s = s
refuted (suc n) (r ∷ rs) None q s = refuted n rs None q.1 s.1
refuted (suc n) (r ∷ rs) (Some t) q (inl h) = absurd (q.0 h.0)
refuted (suc n) (r ∷ rs) (Some t) q (inr h) = refuted n rs (Some t) q.1 h.1

silent : (o : Option Told) → Settles [] o → o ≡ None
silent None s = refl
silent (Some t) s = absurd s

-- one reason is left
alone : (r : Reason) (o : Option Told) → Settles (r ∷ []) o → ((o ≡ None) × (r.holds → ⊥)) ⊎ ((o ≡ Some r.tells) × r.holds)
alone r None s = inl (refl, s.0)
alone r (Some t) (inl h) = inr (ap Some h.1, h.0)
alone r (Some t) (inr h) = absurd h.1

-- the call of a work is granted, and the site shows the action then
pub record Granted (m : Meaning) (s : SiteSettings) (a : Action) (w : Work) (xs : Columns) (ms : List ℕ) : Type 0 where
  pub columns : Columns
  pub marks : List ℕ
  pub answer : refusal_of (site m s xs ms) (call_for w a.from a.to a.carry) ≡ None
  pub after : called (site m s xs ms) (call_for w a.from a.to a.carry) ≡ site m s columns marks
  pub placed : Placed a a.start xs columns
  pub marked : Marked columns marks

-- it is refused: x is the lowest column with a robot that has no way home
pub record Refused (m : Meaning) (s : SiteSettings) (a : Action) (w : Work) (xs : Columns) (ms : List ℕ) (x : ℕ) : Type 0 where
  pub answer : refusal_of (site m s xs ms) (call_for w a.from a.to a.carry) ≡ Some (told NoWayHome 0 x)
  pub changes : changes_height w ≡ true
  pub stranded : Stranded (site m s xs ms) a.to x
  pub lowest : (c : ℕ) → Stranded (site m s xs ms) a.to c → x ≤ c

pub data Answer (m : Meaning) (s : SiteSettings) (a : Action) (w : Work) (xs : Columns) (ms : List ℕ) : Type 0 where
  grants : Granted m s a w xs ms → (changes_height w ≡ true → (c : ℕ) → Stranded (site m s xs ms) a.to c → ⊥) → Answer m s a w xs ms
  refuses : (x : ℕ) → Refused m s a w xs ms x → Answer m s a w xs ms

module _ {m : Meaning} {s : SiteSettings} {a : Action} {xs : Columns} where
  -- what a column shows once the action has begun
  faced : (w : Work) → a.work ≡ w → Ready m s a w xs → (c : ℕ) (x : Bool) → eqb a.from c ≡ x
      → shown_by w a.carry a.from a.to (duration_of s.times w a.carry) x ≡ shown a a.start c
  faced w e r c x q =
      let l : a.end - a.start ≡ duration_of s.times w a.carry = omega (arith, r.lasts) in
      ap (λ (n : ℕ). shown_by w a.carry a.from a.to n x) (sym l)
      ∙ ap (λ (u : Work). shown_by u a.carry a.from a.to (a.end - a.start) x) (sym e)
      ∙ ap (λ (y : Bool). shown_by a.work a.carry a.from a.to (a.end - a.start) y) (sym q)

  -- no column of the action is changing before it begins
  from_still : (w : Work) → Ready m s a w xs → changes (state_at xs a.from) ≡ false
  from_still Entry r = ap changes (r.entry_free refl)
  from_still LeaveWork r = ap changes (r.stood (not_entry LeaveWork refl))
  from_still Wait r = ap changes (r.stood (not_entry Wait refl))
  from_still MoveWork r = ap changes (r.stood (not_entry MoveWork refl))
  from_still PickUp r = ap changes (r.stood (not_entry PickUp refl))
  from_still Deliver r = ap changes (r.stood (not_entry Deliver refl))

  still : (w : Work) → Ready m s a w xs → (c : ℕ) → Touches a c → changes (state_at xs c) ≡ false
  still w r c (inl e) = subst (λ (x : ℕ). changes (state_at xs x) ≡ false) e (from_still w r)
  still w r c (inr e) = elim (cases_eq a.from a.to) [
    | inl q ↦ subst (λ (x : ℕ). changes (state_at xs x) ≡ false) (q ∙ e) (from_still w r)
    | inr n ↦ subst (λ (x : ℕ). changes (state_at xs x) ≡ false) e (ap changes (r.to_free n))
  ]

  -- a byte holds the height to come, or there is a block to lift
  pub fits_so : (w : Work) → Ready m s a w xs → s.levels ≤ 256 → Fits w (height_in xs a.to)
  fits_so Entry r l = tt
  fits_so LeaveWork r l = tt
  fits_so Wait r l = tt
  fits_so MoveWork r l = tt
  fits_so PickUp r l = omega (arith, r.written.1.0)
  fits_so Deliver r l = omega (arith, r.written.1.0, r.to_level.room (inr refl))

module _ (m : Meaning) (s : SiteSettings) (a : Action) (xs : Columns) (ms : List ℕ) (law : Lawful m) (mk : Marked xs ms) where
  few : (w : Work) → Ready m s a w xs → a.to < 256
  few w r = omega (arith, r.to_ground, law.few)

  from_within : (w : Work) → Ready m s a w xs → a.from < length xs
  from_within w r = omega (arith, r.from_ground, r.size)

  to_within : (w : Work) → Ready m s a w xs → a.to < length xs
  to_within w r = omega (arith, r.to_ground, r.size)

  at_from : eqb a.from a.from ≡ true
  at_from = eq-eqb a.from a.from refl

  -- a call that is granted does what it does
  done : (k : Call) → refusal (site m s xs ms) k ≡ None
      → settle (refusal (site m s xs ms) k) (grant (site m s xs ms) k) (site m s xs ms) ≡ site m s (granted s xs k) (granted_marks m xs ms k)
  done k e = ap (λ (o : Option Told). settle o (grant (site m s xs ms) k) (site m s xs ms)) e

  -- the reasons of a call but for a last one do not hold, so nothing refuses it but that
  clear : (k : Call) (n : ℕ) → ((x : ℕ) → Silent (front n (reasons (site m s xs ms) k x)))
      → (d : Decided (site m s xs ms) k (refusal (site m s xs ms) k)) → Settles (beyond n (reasons (site m s xs ms) k d.lowest)) (refusal (site m s xs ms) k)
  clear k n q d = refuted n (reasons (site m s xs ms) k d.lowest) (refusal (site m s xs ms) k) (q d.lowest) d.settles

  begins_entry : a.work ≡ Entry → Ready m s a Entry xs → Answer m s a Entry xs ms
  begins_entry e r =
      let k : Call = Enter a.from a.carry in
      let none = silent (refusal (site m s xs ms) k) (clear k 4 (λ x. (
        λ h. h r.from_ground,
        (λ h. h r.joined, (λ h. h (r.entry_free refl), (λ h. let w = no_longer (λ c. robot (state_at xs c)) m.columns h.columns h.different h.with_robots in omega (arith, h.many, w, r.room_left refl), tt))),
      )) (decided (site m s xs ms) law k)) in
      let placed = placed_one a a.start xs (Busy (Entering a.carry) (duration_of s.times Entry a.carry))
      (from_within Entry r) r.one_column (faced Entry e r a.from true at_from) in
      grants (record {
        columns = granted s xs k;
        marks = ms;
        answer = none;
        after = done k none;
        placed = placed;
        marked = marked_same mk placed (still Entry r) (few Entry r) (ap changes_height e);
      }) (λ f. absurd (both_ways false refl f))

  begins_leave : a.work ≡ LeaveWork → Ready m s a LeaveWork xs → Answer m s a LeaveWork xs ms
  begins_leave e r =
      let k : Call = Leave a.from in
      let stood = r.stood (not_entry LeaveWork refl) in
      let none = silent (refusal (site m s xs ms) k) (clear k 3 (λ x. (
        λ h. h r.from_ground,
        (λ h. h (a.carry, stood), (λ h. h r.joined, tt)),
      )) (decided (site m s xs ms) law k)) in
      let placed = placed_one a a.start xs (Busy (Leaving (carries (state_at xs a.from))) (duration_of s.times LeaveWork (carries (state_at xs a.from))))
      (from_within LeaveWork r) r.one_column
      (ap (λ (z : State). Busy (Leaving (carries z)) (duration_of s.times LeaveWork (carries z))) stood ∙ faced LeaveWork e r a.from true at_from) in
      grants (record {
        columns = granted s xs k;
        marks = ms;
        answer = none;
        after = done k none;
        placed = placed;
        marked = marked_same mk placed (still LeaveWork r) (few LeaveWork r) (ap changes_height e);
      }) (λ f. absurd (both_ways false refl f))

  begins_wait : a.work ≡ Wait → Ready m s a Wait xs → Answer m s a Wait xs ms
  begins_wait e r =
      let placed = placed_none a a.start xs r.one_column (r.stood (not_entry Wait refl) ∙ faced Wait e r a.from true at_from) in
      grants (record {
        columns = xs;
        marks = ms;
        answer = refl;
        after = refl;
        placed = placed;
        marked = marked_same mk placed (still Wait r) (few Wait r) (ap changes_height e);
      }) (λ f. absurd (both_ways false refl f))

  begins_move : a.work ≡ MoveWork → Ready m s a MoveWork xs → Answer m s a MoveWork xs ms
  begins_move e r =
      let k : Call = Move a.from a.to in
      let n : a.from ≢ a.to = r.two_columns in
      let stood = r.stood (not_entry MoveWork refl) in
      let none = silent (refusal (site m s xs ms) k) (clear k 5 (λ x. (
        λ h. h (r.from_ground, r.to_ground),
        (
          λ h. h (a.carry, stood),
          (
            λ h. h r.joined,
            (
              λ h. h (r.to_free n),
              (
                λ h. h (record {
                  up = omega (arith, r.written.0, r.written.1.0, r.written.1.1.0);
                  down = omega (arith, r.written.0, r.written.1.0, r.written.1.1.1);
                }),
                tt,
              ),
            ),
          ),
        ),
      )) (decided (site m s xs ms) law k)) in
      let placed = placed_two a a.start xs
      (Busy (Departing (carries (state_at xs a.from)) a.to) (duration_of s.times MoveWork (carries (state_at xs a.from))))
      (Busy (Arriving (carries (state_at xs a.from)) a.from) (duration_of s.times MoveWork (carries (state_at xs a.from))))
      (from_within MoveWork r) (to_within MoveWork r) n
      (ap (λ (z : State). Busy (Departing (carries z) a.to) (duration_of s.times MoveWork (carries z))) stood ∙ faced MoveWork e r a.from true at_from)
      (ap (λ (z : State). Busy (Arriving (carries z) a.from) (duration_of s.times MoveWork (carries z))) stood
      ∙ faced MoveWork e r a.to false (ne_eqb a.from a.to n)) in
      grants (record {
        columns = granted s xs k;
        marks = ms;
        answer = none;
        after = done k none;
        placed = placed;
        marked = marked_same mk placed (still MoveWork r) (few MoveWork r) (ap changes_height e);
      }) (λ f. absurd (both_ways false refl f))

  -- the last reason of a lay and a lift: a robot has no way home
  abbrev Tried : Call → ℕ → Type 0
  Tried k x =
      ((refusal (site m s xs ms) k ≡ None) × ((c : ℕ) → Stranded (site m s xs ms) a.to c → ⊥))
      ⊎ ((refusal (site m s xs ms) k ≡ Some (told NoWayHome 0 x)) × (Stranded (site m s xs ms) a.to x × ((c : ℕ) → Stranded (site m s xs ms) a.to c → x ≤ c)))

  tried : (k : Call) (x : ℕ) → LowestStranded (site m s xs ms) a.to x
      → Settles (record { holds = (c : ℕ) × Stranded (site m s xs ms) a.to c; tells = told NoWayHome 0 x } ∷ []) (refusal (site m s xs ms) k) → Tried k x
  tried k x low q =
      elim (alone (record { holds = (c : ℕ) × Stranded (site m s xs ms) a.to c; tells = told NoWayHome 0 x }) (refusal (site m s xs ms) k) q) [
        | inl h ↦ inl (h.0, λ c f. h.1 (c, f))
        | inr h ↦ inr (h.0, ((low h.1.0 h.1.1).0, λ c f. (low c f).1))
      ]

  -- what follows from that
  after_trial : (w : Work) (k : Call) (x : ℕ) → changes_height w ≡ true → call_for w a.from a.to a.carry ≡ Some k
      → Placed a a.start xs (granted s xs k) → Marked (granted s xs k) (granted_marks m xs ms k) → Tried k x → Answer m s a w xs ms
  after_trial w k x e q pl mk' (inl h) =
      grants (record {
        columns = granted s xs k;
        marks = granted_marks m xs ms k;
        answer = ap (refusal_of (site m s xs ms)) q ∙ h.0;
        after = ap (called (site m s xs ms)) q ∙ done k h.0;
        placed = pl;
        marked = mk';
      }) (λ _. h.1)
  after_trial w k x e q pl mk' (inr h) =
      refuses x (record { answer = ap (refusal_of (site m s xs ms)) q ∙ h.0; changes = e; stranded = h.1.0; lowest = h.1.1 })

  begins_lift : a.work ≡ PickUp → Ready m s a PickUp xs → Answer m s a PickUp xs ms
  begins_lift e r =
      let k : Call = Lift a.from a.to in
      let n : a.from ≢ a.to = r.two_columns in
      let stood = r.stood (not_entry PickUp refl) in
      let d = decided (site m s xs ms) law k in
      let placed = placed_two a a.start xs
      (Busy (Lifting a.to) (duration_of s.times PickUp a.carry)) (Busy (Sinking a.from) (duration_of s.times PickUp a.carry))
      (from_within PickUp r) (to_within PickUp r) n
      (faced PickUp e r a.from true at_from) (faced PickUp e r a.to false (ne_eqb a.from a.to n)) in
      after_trial PickUp k d.lowest refl refl placed (marked_set mk placed (still PickUp r) (few PickUp r) (ap changes_height e) n)
      (tried k d.lowest d.is_lowest (clear k 6 (λ x. (
        λ h. h (r.from_ground, r.to_ground),
        (
          λ h. h (a.carry, stood),
          (
            λ h. both_ways (carries (state_at xs a.from)) (ap carries stood ∙ r.loaded) h,
            (
              λ h. h r.joined,
              (λ h. h (r.to_free n), (λ h. h (omega (arith, r.written.0, r.written.1.0, r.written.1.1)), tt)),
            ),
          ),
        ),
      )) d))

  begins_lay : a.work ≡ Deliver → Ready m s a Deliver xs → Answer m s a Deliver xs ms
  begins_lay e r =
      let k : Call = Lay a.from a.to in
      let n : a.from ≢ a.to = r.two_columns in
      let stood = r.stood (not_entry Deliver refl) in
      let d = decided (site m s xs ms) law k in
      let placed = placed_two a a.start xs
      (Busy (Laying a.to) (duration_of s.times Deliver a.carry)) (Busy (Rising a.from) (duration_of s.times Deliver a.carry))
      (from_within Deliver r) (to_within Deliver r) n
      (faced Deliver e r a.from true at_from) (faced Deliver e r a.to false (ne_eqb a.from a.to n)) in
      after_trial Deliver k d.lowest refl refl placed (marked_set mk placed (still Deliver r) (few Deliver r) (ap changes_height e) n)
      (tried k d.lowest d.is_lowest (clear k 6 (λ x. (
        λ h. h (r.from_ground, r.to_ground),
        (
          λ h. h (a.carry, stood),
          (
            λ h. h (ap carries stood ∙ r.loaded),
            (
              λ h. h r.joined,
              (
                λ h. h (r.to_free n),
                (λ h. h (omega (arith, r.written.0, r.written.1.0, r.written.1.1), omega (arith, r.written.1.0, r.to_level.room (inr refl))), tt),
              ),
            ),
          ),
        ),
      )) d))

  begins_as : (w : Work) → a.work ≡ w → Ready m s a w xs → Answer m s a w xs ms
  begins_as Entry e r = begins_entry e r
  begins_as LeaveWork e r = begins_leave e r
  begins_as Wait e r = begins_wait e r
  begins_as MoveWork e r = begins_move e r
  begins_as PickUp e r = begins_lift e r
  begins_as Deliver e r = begins_lay e r

  pub answered : Ready m s a a.work xs → Answer m s a a.work xs ms
  answered r = begins_as a.work refl r
