-- What one tick makes of one column's state, height and share. Assumes nothing.
use Rattle.std.proofs.Common.{◌≡◌, ℕ, zero, suc, ◌+◌, ◌<◌, ◌≤◌, Bool, true, false, leb, ◌⊎◌, Some, None, Option, sym, refl, ap, ◌∙◌, inl, inr, arith}
use Rattle.std.proofs.lemmas.Bool.{false≢true, true≢false, le-leb, lt-leb, cond-false}
use Rattle.std.proofs.lemmas.Bool.Decides.{nat_tests}
use Rattle.gate.specs.Column.{changes_in, stays, built, runs, robot, changes, rest, next, next_height}
use Rattle.gate.specs.Scene.{one_if}
use Rattle.gate.specs.declared.column.Part.{Part}
use Rattle.gate.specs.declared.column.Part.TheVariants.{Entering, Leaving, Departing, Arriving, Laying, Rising, Lifting, Sinking}
use Rattle.gate.specs.declared.column.State.{State}
use Rattle.gate.specs.declared.column.State.TheVariants.{Free, Standing, Busy}
use Rattle.ground.specs.Meaning.{Meaning}
use Rattle.terms.specs.Durations.{SiteSettings}
use Rattle.undertaking.proofs.Kept.{later, Fits, Kind, gives, takes, worth, share}

later_rest : (o : Option Bool) (h : ℕ) → later (rest o) h ≡ h
later_rest None h = refl
later_rest (Some b) h = refl

pub later_next : (t : State) (h : ℕ) → later (next t) (next_height t h) ≡ later t h
later_next Free h = refl
later_next (Standing b) h = refl
later_next (Busy p zero) h = later_rest (stays p) (built p h)
later_next (Busy p (suc zero)) h = later_rest (stays p) (built p h)
later_next (Busy p (suc (suc n))) h = refl

height_next : (t : State) (h : ℕ) → (next_height t h ≡ h) ⊎ (next_height t h ≡ later t h)
height_next Free h = inl refl
height_next (Standing b) h = inl refl
height_next (Busy p zero) h = inr refl
height_next (Busy p (suc zero)) h = inr refl
height_next (Busy p (suc (suc n))) h = inl refl

-- a busy column that a tick leaves had one tick more, and its height stays
pub record WentOn (t : State) (p : Part) (n : ℕ) : Type 0 where
  pub was : t ≡ Busy p (suc n)
  pub time : 1 ≤ n
  pub level : (h : ℕ) → next_height t h ≡ h

not_rest : (o : Option Bool) (p : Part) (n : ℕ) → rest o ≡ Busy p n → ⊥
not_rest None p n e = false≢true (ap runs e)
not_rest (Some b) p n e = false≢true (ap runs e)

pub went_on : (t : State) (p : Part) (n : ℕ) → next t ≡ Busy p n → WentOn t p n
went_on Free p n e = absurd (false≢true (ap runs e))
went_on (Standing b) p n e = absurd (false≢true (ap runs e))
went_on (Busy q zero) p n e = absurd (not_rest (stays q) p n e)
went_on (Busy q (suc zero)) p n e = absurd (not_rest (stays q) p n e)
went_on (Busy q (suc (suc k))) p n e = let i : suc k ≡ n = cc in record { was = cc; time = omega arith; level = λ h. refl }

pub next_busy : (p : Part) (n h : ℕ) → 1 ≤ n → (next (Busy p (suc n)) ≡ Busy p n) × (next_height (Busy p (suc n)) h ≡ h)
next_busy p zero h l = absurd (omega arith)
next_busy p (suc n) h l = (refl, refl)

pub fits_next : (m : Meaning) (s : SiteSettings) (c h : ℕ) (t : State) → Fits m s c h t → Fits m s c (next_height t h) (next t)
fits_next m s c h t f =
    let l = later_next t h in
    record {
      low = elim (height_next t h) [ inl e ↦ omega arith | inr e ↦ omega arith ];
      later_low = omega arith;
      flat = λ b. elim (height_next t h) [ inl e ↦ e ∙ f.flat b | inr e ↦ e ∙ f.later_flat b ];
      later_flat = λ b. l ∙ f.later_flat b;
      timed = λ p n e. (went_on t p n e).time;
      sunk = λ g n e. let w = went_on t (Sinking g) n e in omega (arith, f.sunk g (suc n) w.was, w.level h);
    }

changes_rest : (o : Option Bool) → changes (rest o) ≡ false
changes_rest None = refl
changes_rest (Some b) = refl

pub built_settled : (p : Part) (h : ℕ) → changes_in p ≡ false → built p h ≡ h
built_settled (Entering b) h e = refl
built_settled (Leaving b) h e = refl
built_settled (Departing b d) h e = refl
built_settled (Arriving b d) h e = refl
built_settled (Laying d) h e = refl
built_settled (Rising d) h e = absurd (true≢false e)
built_settled (Lifting d) h e = refl
built_settled (Sinking d) h e = absurd (true≢false e)

-- a settled column stays so, at its height
pub settled_next : (t : State) (h : ℕ) → changes t ≡ false → (changes (next t) ≡ false) × (next_height t h ≡ h)
settled_next Free h e = (refl, refl)
settled_next (Standing b) h e = (refl, refl)
settled_next (Busy p zero) h e = (changes_rest (stays p), built_settled p h e)
settled_next (Busy p (suc zero)) h e = (changes_rest (stays p), built_settled p h e)
settled_next (Busy p (suc (suc n))) h e = (e, refl)

-- the robot at a column was there, or has arrived
abbrev pub Came : State → Type 0
Came t = (robot t ≡ true) ⊎ ((b : Bool) × (d : ℕ) × (n : ℕ) × (t ≡ Busy (Arriving b d) n))

stood : (p : Part) (n : ℕ) → robot (rest (stays p)) ≡ true → Came (Busy p n)
stood (Entering b) n e = inl refl
stood (Leaving b) n e = inl refl
stood (Departing b d) n e = inl refl
stood (Arriving b d) n e = inr (b, d, n, refl)
stood (Laying d) n e = inl refl
stood (Rising d) n e = absurd (false≢true e)
stood (Lifting d) n e = inl refl
stood (Sinking d) n e = absurd (false≢true e)

pub came : (t : State) → robot (next t) ≡ true → Came t
came Free e = absurd (false≢true e)
came (Standing b) e = inl refl
came (Busy p zero) e = stood p zero e
came (Busy p (suc zero)) e = stood p (suc zero) e
came (Busy p (suc (suc n))) e = inl e

share_rest : (q : Kind → ℕ) (n : ℕ) (side : Part → Option Kind) (o : Option Bool) → share q n side (rest o) ≡ 0
share_rest q n side None = refl
share_rest q n side (Some b) = refl

pub worth_all : (q : Kind → ℕ) (n k : ℕ) (o : Option Kind) → n ≤ k → worth q (leb n k) o ≡ worth q true o
worth_all q n k o l = ap (λ t. worth q t o) (le-leb n k l)

worth_none : (q : Kind → ℕ) (n k : ℕ) (o : Option Kind) → k < n → worth q (leb n k) o ≡ 0
worth_none q n k None l = refl
worth_none q n k (Some x) l = cond-false (leb n k) (q x) 0 (lt-leb n k l)

leb_suc : (n k : ℕ) → leb n k ≡ leb (suc n) (suc k)
leb_suc n k = grind (arith, nat_tests)

pub share_next : (q : Kind → ℕ) (n : ℕ) (side : Part → Option Kind) (t : State) → share q (suc n) side (next t) ≡ share q (suc (suc n)) side t
share_next q n side Free = refl
share_next q n side (Standing b) = refl
share_next q n side (Busy p zero) = share_rest q (suc n) side (stays p) ∙ sym (worth_none q (suc (suc n)) 0 (side p) (omega arith))
share_next q n side (Busy p (suc zero)) = share_rest q (suc n) side (stays p) ∙ sym (worth_none q (suc (suc n)) 1 (side p) (omega arith))
share_next q n side (Busy p (suc (suc k))) = ap (λ t. worth q t (side p)) (leb_suc (suc n) (suc k))

pub share_next_all : (q : Kind → ℕ) (side : Part → Option Kind) (t : State) → share q 0 side (next t) ≡ share q 2 side t
share_next_all q side Free = refl
share_next_all q side (Standing b) = refl
share_next_all q side (Busy p zero) = share_rest q 0 side (stays p) ∙ sym (worth_none q 2 0 (side p) (omega arith))
share_next_all q side (Busy p (suc zero)) = share_rest q 0 side (stays p) ∙ sym (worth_none q 2 1 (side p) (omega arith))
share_next_all q side (Busy p (suc (suc k))) = worth_all q 0 (suc k) (side p) (omega arith) ∙ sym (worth_all q 2 (suc (suc k)) (side p) (omega arith))

-- a robot counted at the column to which it moves
abbrev pub lasting_in : Part → ℕ
lasting_in (Entering b) = 1
lasting_in (Leaving b) = 1
lasting_in (Departing b d) = 0
lasting_in (Arriving b d) = 1
lasting_in (Laying d) = 1
lasting_in (Rising d) = 0
lasting_in (Lifting d) = 1
lasting_in (Sinking d) = 0

abbrev pub lasting : State → ℕ
lasting Free = 0
lasting (Standing b) = 1
lasting (Busy p n) = lasting_in p

abbrev pub per_move : Kind → ℕ
per_move (Kind.moves b) = 1
per_move Kind.lays = 0
per_move Kind.lifts = 0

pub moving : (t : State) → one_if (robot t) + share per_move 0 takes t ≡ lasting t + share per_move 0 gives t
moving Free = refl
moving (Standing b) = refl
moving (Busy (Entering b) n) = refl
moving (Busy (Leaving b) n) = refl
moving (Busy (Departing b d) n) = omega (arith, worth_all per_move 0 n (Some (Kind.moves b)) (omega arith))
moving (Busy (Arriving b d) n) = omega (arith, worth_all per_move 0 n (Some (Kind.moves b)) (omega arith))
moving (Busy (Laying d) n) = omega (arith, worth_all per_move 0 n (Some Kind.lays) (omega arith))
moving (Busy (Rising d) n) = omega (arith, worth_all per_move 0 n (Some Kind.lays) (omega arith))
moving (Busy (Lifting d) n) = omega (arith, worth_all per_move 0 n (Some Kind.lifts) (omega arith))
moving (Busy (Sinking d) n) = omega (arith, worth_all per_move 0 n (Some Kind.lifts) (omega arith))

lasting_rest : (p : Part) → lasting (rest (stays p)) ≤ lasting_in p
lasting_rest (Entering b) = omega arith
lasting_rest (Leaving b) = omega arith
lasting_rest (Departing b d) = omega arith
lasting_rest (Arriving b d) = omega arith
lasting_rest (Laying d) = omega arith
lasting_rest (Rising d) = omega arith
lasting_rest (Lifting d) = omega arith
lasting_rest (Sinking d) = omega arith

pub lasting_next : (t : State) → lasting (next t) ≤ lasting t
lasting_next Free = omega arith
lasting_next (Standing b) = omega arith
lasting_next (Busy p zero) = lasting_rest p
lasting_next (Busy p (suc zero)) = lasting_rest p
lasting_next (Busy p (suc (suc n))) = omega arith
