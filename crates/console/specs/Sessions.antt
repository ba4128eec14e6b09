-- What comes of a script, in words: the deeds that its lines name, in order, what they answer, and what is printed of each. Assumes
-- nothing.
use Rattle.std.specs.Prelude.{◌≡◌, ℕ, ◌<◌, ◌≤◌, ◌⊎◌, List, [], ◌∷◌, ◌++◌, length, map, replicate, count_by, Some, None, Err, codes, ◌==◌}
use Rattle.terms.specs.Durations.{SiteSettings}
use Rattle.terms.specs.Refusals.{Told}
use Rattle.ground.specs.Meaning.{Meaning}
use Rattle.gate.specs.declared.call.Call.{Call}
use Rattle.gate.specs.declared.call.Call.TheVariants.{Tick}
use Rattle.gate.specs.Scene.{Scene, opened}
use Rattle.undertaking.specs.Obeying.{Empty, Obeyed}
use Rattle.gate.specs.Time.{Quiet, after_ticks}
use Rattle.undertaking.specs.Runs.{Reply, run}
use Rattle.service.specs.Deeds.{Deed, replies_to, runs}
use Rattle.service.specs.Whole.{Whole}
use Rattle.console.specs.declared.command.Command.{Command}
use Rattle.console.specs.declared.command.Command.TheVariants.{Makes, Ticks, Clear, Look, Play}
use Rattle.console.specs.declared.usage.Usage.{Usage}
use Rattle.console.specs.declared.usage.Usage.TheVariants.{Open, FewerSheets}
use Rattle.console.specs.Commands.{command_in}
use Rattle.console.specs.Drawing.{counts_text, drawing}
use Rattle.console.specs.Halls.{Hall, after_line, cleared_text, sheet_refusal}
use Rattle.judge.specs.Verdict.{sheet_plan}
use Rattle.console.specs.Lines.{Entry, entries_in}
use Rattle.console.specs.Openings.{Opening, opened_ground, opened_settings, opened_width, opening_in, opening_refusal}
use Rattle.console.specs.Printed.{open_text}
use Rattle.console.specs.Spelling.{Spells}
use Rattle.console.specs.Texts.{expected_text, labelled, refusal_text, reply_text}

-- clearing makes calls alone: by ticks nothing runs, then recall is obeyed, n actions are granted one after the other, and at the end
-- no robot is on the site
pub record Clears (v : Scene) (ks : List Call) (n : ℕ) : Type 0 where
  pub ticks : ℕ
  pub quiet : Quiet (after_ticks ticks v).columns
  pub end : Scene
  pub obeyed : Obeyed (after_ticks ticks v) n end
  pub empty : Empty end.columns
  pub comes_to : run v ks ≡ end

-- what a line with words does in a hall: its deeds, what they answer, and what is printed behind the line's number
pub data Line (h : Hall) (e : Entry) : List Deed → List Reply → List ℕ → Type 0 where
  unread : (u : Usage) → command_in e.words ≡ Err u → ((k : Command) → Spells e.words k → ⊥) → Line h e [] [] (expected_text u)
  makes : (k : Call) (r : Reply) → Spells e.words (Makes k) → Line h e (Deed.call k ∷ []) (r ∷ []) (reply_text r)
  ticks : (n : ℕ) → Spells e.words (Ticks n) → Line h e (replicate n (Deed.call Tick)) (replicate n Reply.granted) (codes "granted")
  clears : (ks : List Call) (rs : List Reply) (n : ℕ) → Spells e.words Clear → Clears h.scene ks n → Line h e (map Deed.call ks) rs (cleared_text n)
  looks : Spells e.words Look → Line h e [] [] (counts_text h.scene ++ drawing h.width h.scene)
  plays : (r : Reply) → Spells e.words Play → 0 < h.sheets → sheet_refusal h.scene e.sheet ≡ None
      → Line h e (Deed.plays (sheet_plan e.sheet) ∷ []) (r ∷ []) (reply_text r)
  bad_sheet : (t : Told) → Spells e.words Play → 0 < h.sheets → sheet_refusal h.scene e.sheet ≡ Some t → Line h e [] [] (refusal_text t)
  no_sheet_left : Spells e.words Play → h.sheets ≡ 0 → Line h e [] [] (expected_text FewerSheets)

-- what lines do in a hall, one after the other; each finds the site as the deeds above left it, and its answers are those to its deeds
pub data Lines : Hall → List Entry → List Deed → List Reply → List ℕ → Type 0 where
  end : {h : Hall} → Lines h [] [] [] []
  silent : {h : Hall} {e : Entry} {es : List Entry} {ds : List Deed} {rs : List Reply} {t : List ℕ} → e.words ≡ [] → Lines h es ds rs t → Lines h (e ∷ es) ds rs t
  line : {h : Hall} {e : Entry} {es : List Entry} {ds more : List Deed} {rs others : List Reply} {t rest : List ℕ}
      → (e.words ≡ [] → ⊥) → Line h e ds rs t → rs ≡ replies_to h.scene ds → (after_line h e).scene ≡ runs h.scene ds
      → Lines (after_line h e) es more others rest
      → Lines h (e ∷ es) (ds ++ more) (rs ++ others) (labelled e.line t ++ rest)

-- what lines do on a site from its opening: of their deeds and answers all holds that is undertaken of any list of the eight calls
pub record Session (m : Meaning) (s : SiteSettings) (width : ℕ) (es : List Entry) (t : List ℕ) : Type 0 where
  pub deeds : List Deed
  pub answers : List Reply
  pub end : Scene
  pub whole : Whole m s deeds answers end
  pub lines : Lines (record { scene = opened m s; sheets = 16; width = width }) es deeds answers t

-- what lines do while no site is open, until one opens it
pub data Opens : List Entry → List ℕ → Type 0 where
  end : Opens [] []
  silent : {e : Entry} {es : List Entry} {t : List ℕ} → e.words ≡ [] → Opens es t → Opens (e ∷ es) t
  unread : {e : Entry} {es : List Entry} {t : List ℕ} → (e.words ≡ [] → ⊥) → opening_in e.words ≡ None → Opens es t
      → Opens (e ∷ es) (labelled e.line (expected_text Open) ++ t)
  refused : {e : Entry} {es : List Entry} {t : List ℕ} → (e.words ≡ [] → ⊥) → (o : Opening) (why : Told) → opening_in e.words ≡ Some o
      → opening_refusal o ≡ Some why → Opens es t → Opens (e ∷ es) (labelled e.line (refusal_text why) ++ t)
  opens : {e : Entry} {es : List Entry} {t : List ℕ} → (e.words ≡ [] → ⊥) → (o : Opening) → opening_in e.words ≡ Some o → opening_refusal o ≡ None
      → Session (opened_ground o) (opened_settings o) (opened_width o) es t
      → Opens (e ∷ es) (labelled e.line (open_text (opened_ground o).columns) ++ t)

-- a script that is too long does nothing
pub data Answered (script : List ℕ) : List ℕ → Type 0 where
  too_long : (65536 < length script) ⊎ (8192 < count_by (λ b. b == 10) script)
      → Answered script (codes "a script has at most 65536 bytes and 8192 newlines\n")
  read : {t : List ℕ} → length script ≤ 65536 → count_by (λ b. b == 10) script ≤ 8192 → Opens (entries_in script) t → Answered script t
