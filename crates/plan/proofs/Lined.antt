-- Each rule of a line by itself decides its reason in words; and what the marks of a line say of its action. Assumes nothing.
use Rattle.std.proofs.Common.{◌≡◌, ℕ, Bool, true, false, not, ◌&&◌, eqb, ltb, suc, ◌≢◌, ◌⊎◌, Decides, sym, refl, inl, inr, arith}
use Rattle.std.proofs.lemmas.Bool.{not_from_false, not-true, true≢false}
use Rattle.std.proofs.lemmas.Bool.Decides.{Decides-and, Decides-eqb, Decides-like, Decides-ltb, Decides-not}
use Rattle.terms.specs.Durations.{SiteSettings}
use Rattle.terms.specs.declared.work.Work.{Work}
use Rattle.terms.specs.declared.work.Work.TheVariants.{Entry, Leave, Wait, Move, PickUp, Deliver}
use Rattle.terms.proofs.First.{Decide}
use Rattle.terms.proofs.Tests.{decides_is, decides_isnt}
use Rattle.ground.specs.Meaning.{Meaning}
use Rattle.sheet.specs.declared.record.ActLine.{ActLine}
use Rattle.sheet.specs.declared.record.Letter.{Letter}
use Rattle.sheet.specs.declared.record.Letter.TheVariants.{M, P, D}
use Rattle.plan.specs.Lines.{written_action, alike, due, joins, line_tests, marked, marks_fit, on_scale, suits, top}
use Rattle.plan.specs.Plan.{Action}
use Rattle.plan.specs.Reasons.{line_reasons}
use Rattle.plan.specs.Rules.{Joined, LevelFits, Marks, OnScale, Suited}
use Rattle.plan.proofs.Searches.{stable}

pub decides_alike : (a b : Bool) → Decides (alike a b) (a ≡ b)
decides_alike true b = (λ e. sym e, λ e. sym e)
decides_alike false b = (λ e. sym (not-true b e), λ e. not_from_false b (sym e))

always : Decides true (Unit {0})
always = (λ _. tt, λ _. refl)

decides_suits : (l : Letter) (enters leaves carry : Bool) → Decides (suits l enters leaves carry) (Suited l enters leaves carry)
decides_suits M e x c = always
decides_suits P e x c = Decides-and (not e) (not x && not c) (decides_isnt e) (Decides-and (not x) (not c) (decides_isnt x) (decides_isnt c))
decides_suits D e x c = Decides-and (not e) (not x && c) (decides_isnt e) (Decides-and (not x) c (decides_isnt x) (decides_is c))

decides_one_side : (a b : Bool) → Decides (not (a && b)) (a ≡ true → b ≡ true → ⊥)
decides_one_side true true = (λ e. absurd (true≢false (sym e)), λ n. absurd (n refl refl))
decides_one_side true false = (λ _ _ e. true≢false (sym e), λ _. refl)
decides_one_side false b = (λ _ e _. true≢false (sym e), λ _. refl)

pub decides_marks : (l : ActLine) → Decides (marks_fit l) (Marks l)
decides_marks l =
    let fc = marked l.from.column in
    let fh = marked l.from.height in
    let tc = marked l.to.column in
    let th = marked l.to.height in
    Decides-like (marks_fit l)
    (λ p. record { from_whole = p.0; to_whole = p.1.0; one_side = p.1.1.0; suited = p.1.1.1 })
    (λ r. (r.from_whole, (r.to_whole, (r.one_side, r.suited))))
    (Decides-and (alike fc fh) _ (decides_alike fc fh)
    (Decides-and (alike tc th) _ (decides_alike tc th)
    (Decides-and (not (fc && tc)) _ (decides_one_side fc tc) (decides_suits l.letter fc tc l.carry))))

-- of a work that neither picks up nor delivers
same_level : (s : SiteSettings) (w : Work) (h : ℕ) → (w ≢ PickUp) → (w ≢ Deliver) → Decides (ltb h s.levels) (LevelFits s w h)
same_level s w h p d =
    Decides-like (ltb h s.levels)
    (λ l. record { level = l; room = λ q. absurd (elim q [ inl e ↦ p e | inr e ↦ d e ]) })
    (λ f. f.level)
    (Decides-ltb h s.levels)

-- of one that does
higher_level : (s : SiteSettings) (w : Work) (h : ℕ) → (w ≡ PickUp) ⊎ (w ≡ Deliver) → Decides (ltb (suc h) s.levels) (LevelFits s w h)
higher_level s w h q =
    Decides-like (ltb (suc h) s.levels)
    (λ l. record { level = omega arith; room = λ _. l })
    (λ f. f.room q)
    (Decides-ltb (suc h) s.levels)

decides_level : (s : SiteSettings) (w : Work) (h : ℕ) → Decides (ltb (top w h) s.levels) (LevelFits s w h)
decides_level s Entry h = same_level s Entry h (λ e. cc) (λ e. cc)
decides_level s Leave h = same_level s Leave h (λ e. cc) (λ e. cc)
decides_level s Wait h = same_level s Wait h (λ e. cc) (λ e. cc)
decides_level s Move h = same_level s Move h (λ e. cc) (λ e. cc)
decides_level s PickUp h = higher_level s PickUp h (inl refl)
decides_level s Deliver h = higher_level s Deliver h (inr refl)

decides_scale : (m : Meaning) (s : SiteSettings) (a : Action) → Decides (on_scale m s a) (OnScale m s a)
decides_scale m s a =
    Decides-like (on_scale m s a)
    (λ p. record { from_ground = p.0.0; from_level = p.0.1; to_ground = p.1.0; to_level = p.1.1 })
    (λ r. ((r.from_ground, r.from_level), (r.to_ground, r.to_level)))
    (Decides-and (ltb a.from m.columns && ltb (top a.work a.from_height) s.levels) _
    (Decides-and (ltb a.from m.columns) _ (Decides-ltb _ _) (decides_level s a.work a.from_height))
    (Decides-and (ltb a.to m.columns) _ (Decides-ltb _ _) (decides_level s a.work a.to_height)))

decides_joins : (m : Meaning) (w : Work) (f o : ℕ) → Decides (joins m w f o) (Joined m w f o)
decides_joins m Entry f o = decides_is (m.border f)
decides_joins m Leave f o = decides_is (m.border f)
decides_joins m Wait f o = always
decides_joins m Move f o = decides_is (m.linked f o)
decides_joins m PickUp f o = Decides-and (m.linked f o) (not (m.border o)) (decides_is (m.linked f o)) (decides_isnt (m.border o))
decides_joins m Deliver f o = Decides-and (m.linked f o) (not (m.border o)) (decides_is (m.linked f o)) (decides_isnt (m.border o))

module _ (m : Meaning) (s : SiteSettings) (l : ActLine) where
  abbrev a : Action
  a = written_action l

  pub line_decides : Decide (line_tests m s l) (line_reasons m s l)
  line_decides = (
    Decides-not (marks_fit l) (decides_marks l),
    refl,
    (
      Decides-not (on_scale m s a) (decides_scale m s a),
      refl,
      (
        Decides-not (joins m a.work a.from a.to) (decides_joins m a.work a.from a.to),
        refl,
        (Decides-not (eqb l.end (due s a)) (Decides-eqb l.end (due s a)), refl, tt),
      ),
    ),
  )

-- the rules of a line by itself, where none is broken
pub record Kept (m : Meaning) (s : SiteSettings) (l : ActLine) : Type 0 where
  pub marks : Marks l
  pub on_scale : OnScale m s (written_action l)
  pub joined : Joined m (written_action l).work (written_action l).from (written_action l).to
  pub lasts : l.end ≡ due s (written_action l)

pub kept : (m : Meaning) (s : SiteSettings) (l : ActLine)
    → ((Marks l → ⊥) → ⊥) → ((OnScale m s (written_action l) → ⊥) → ⊥) → ((Joined m (written_action l).work (written_action l).from (written_action l).to → ⊥) → ⊥) → ((l.end ≡ due s (written_action l) → ⊥) → ⊥)
    → Kept m s l
kept m s l p q r t =
    record {
      marks = stable (marks_fit l) (decides_marks l) p;
      on_scale = stable (on_scale m s (written_action l)) (decides_scale m s (written_action l)) q;
      joined = stable (joins m (written_action l).work (written_action l).from (written_action l).to) (decides_joins m (written_action l).work (written_action l).from (written_action l).to) r;
      lasts = stable (eqb l.end (due s (written_action l))) (Decides-eqb l.end (due s (written_action l))) t;
    }
