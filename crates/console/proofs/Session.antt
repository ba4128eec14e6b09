-- What lines do in a hall is what is said of them. Assumes nothing.
use Rattle.std.proofs.Common.{◌≡◌, ℕ, zero, suc, ◌<◌, List, [], ◌∷◌, ◌++◌, length, replicate, codes, Some, None, Ok, Err, Option, Result, refl, ap, sym, ◌∙◌, subst, arith}
use Rattle.terms.specs.Durations.{SiteSettings}
use Rattle.terms.specs.Refusals.{Told}
use Rattle.ground.specs.Meaning.{Lawful, Meaning}
use Rattle.gate.specs.declared.call.Call.TheVariants.{Tick}
use Rattle.gate.specs.Gate.{step}
use Rattle.gate.specs.Recall.{recall}
use Rattle.gate.specs.Scene.{Scene, opened}
use Rattle.undertaking.specs.Obeying.{Obeyed}
use Rattle.gate.specs.Time.{after_ticks, longest, settled}
use Rattle.undertaking.specs.Runs.{Reply}
use Rattle.undertaking.proofs.Plain.{Proper}
use Rattle.gate.proofs.Waiting.{settles_so}
use Rattle.service.specs.Deeds.{Deed, done, replies_to, reply_to, runs}
use Rattle.service.proofs.Lasting.{runs_append}
use Rattle.service.proofs.Standing.{whole}
use Rattle.console.specs.declared.command.Command.{Command}
use Rattle.console.specs.declared.command.Command.TheVariants.{Makes, Ticks, Clear, Look, Play}
use Rattle.console.specs.declared.usage.Usage.{Usage}
use Rattle.console.specs.Commands.{command_in}
use Rattle.console.specs.Halls.{Hall, after_line, answer_text, clearing, deeds, deeds_of, home as home_of, left, line_deeds, playing, printed, reply_by, scene_after, scene_by, sheet_deeds, sheet_refusal, sheet_scene, sheet_text}
use Rattle.console.specs.Lines.{Entry}
use Rattle.console.specs.Texts.{reply_text}
use Rattle.console.specs.Sessions.{Clears, Line, Lines, Session}
use Rattle.console.specs.Spelling.{Spells}
use Rattle.console.proofs.Spelled.{spelled_so, unread_so}
use Rattle.console.proofs.Clearing.{calls_runs, clearing_runs, obeyed_home}

-- deeds one after the other
replies_append : (ds es : List Deed) (v : Scene) → replies_to v (ds ++ es) ≡ replies_to v ds ++ replies_to (runs v ds) es
replies_append [] es v = refl
replies_append (d ∷ ds) es v = ap (λ rs. reply_to v d ∷ rs) (replies_append ds es (done v d))

ticks_runs : (n : ℕ) (v : Scene) → runs v (replicate n (Deed.call Tick)) ≡ after_ticks n v
ticks_runs zero v = refl
ticks_runs (suc n) v = ticks_runs n (step v Tick)

ticks_granted : (n : ℕ) (v : Scene) → replies_to v (replicate n (Deed.call Tick)) ≡ replicate n Reply.granted
ticks_granted zero v = refl
ticks_granted (suc n) v = ap (λ rs. Reply.granted ∷ rs) (ticks_granted n (step v Tick))

module _ (m : Meaning) (s : SiteSettings) (law : Lawful m) (ok : Proper s) where
  -- clearing a site that was opened and only called
  clears_after : (before : List Deed) → Clears (runs (opened m s) before) (clearing (runs (opened m s) before)) (left (recall (settled (runs (opened m s) before))))
  clears_after before =
      let v = runs (opened m s) before in
      let n = longest v.columns in
      let quiet = (settles_so v).quiet in
      let c = (whole m s law ok before).clears n quiet in
      let home = obeyed_home (settled v) c.1 c.0 c.3 in
      record {
        ticks = n;
        quiet = quiet;
        end = c.1;
        obeyed = subst (λ k. Obeyed (after_ticks n v) k c.1) (sym home.0) c.3;
        empty = c.4;
        comes_to = clearing_runs v ∙ ap (λ k. home_of k (settled v)) home.0 ∙ home.1;
      }

  -- a line that is read, by what it asks
  abbrev Does : Hall → Entry → Result Command Usage → Type 0
  Does h e r =
      Line h e (deeds_of h e.sheet r) (replies_to h.scene (deeds_of h e.sheet r)) (answer_text h e.sheet r)
      × (scene_after h e.sheet r ≡ runs h.scene (deeds_of h e.sheet r))

  -- a sheet that is judged, and one more or one too many
  judged : (h : Hall) (e : Entry) → Spells e.words Play → 0 < h.sheets → (o : Option Told) → sheet_refusal h.scene e.sheet ≡ o
      → Line h e (playing o e.sheet) (replies_to h.scene (playing o e.sheet)) (reply_text (reply_by o h.scene e.sheet))
      × (scene_by o h.scene e.sheet ≡ runs h.scene (playing o e.sheet))
  judged h e c some None eo = (Line.plays (reply_by None h.scene e.sheet) c some eo, refl)
  judged h e c some (Some t) eo = (Line.bad_sheet t c some eo, refl)

  plays_sheet : (h : Hall) (e : Entry) → Spells e.words Play → (n : ℕ) → h.sheets ≡ n
      → Line h e (sheet_deeds n h.scene e.sheet) (replies_to h.scene (sheet_deeds n h.scene e.sheet)) (sheet_text n h.scene e.sheet)
      × (sheet_scene n h.scene e.sheet ≡ runs h.scene (sheet_deeds n h.scene e.sheet))
  plays_sheet h e c zero en = (Line.no_sheet_left c en, refl)
  plays_sheet h e c (suc n) en = judged h e c (omega (arith, en)) (sheet_refusal h.scene e.sheet) refl

  does : (before : List Deed) (h : Hall) → h.scene ≡ runs (opened m s) before → (e : Entry) (r : Result Command Usage) → command_in e.words ≡ r → Does h e r
  does before h eh e (Err u) c = (Line.unread u c (unread_so e.words u c), refl)
  does before h eh e (Ok (Makes k)) c = (Line.makes k (reply_to h.scene (Deed.call k)) (spelled_so e.words (Makes k) c), refl)
  does before h eh e (Ok (Ticks n)) c =
      (subst (λ rs. Line h e (replicate n (Deed.call Tick)) rs (codes "granted")) (sym (ticks_granted n h.scene)) (Line.ticks n (spelled_so e.words (Ticks n) c)), sym (ticks_runs n h.scene))
  does before h eh e (Ok Clear) c =
      let clears : Clears h.scene (clearing h.scene) (left (recall (settled h.scene))) =
      subst (λ u. Clears u (clearing u) (left (recall (settled u)))) (sym eh) (clears_after before) in
      (Line.clears (clearing h.scene) _ _ (spelled_so e.words Clear c) clears, sym (calls_runs (clearing h.scene) h.scene ∙ clearing_runs h.scene))
  does before h eh e (Ok Look) c = (Line.looks (spelled_so e.words Look c), refl)
  does before h eh e (Ok Play) c = plays_sheet h e (spelled_so e.words Play c) h.sheets refl

  -- lines, one after the other
  by_line : (before : List Deed) (h : Hall) → h.scene ≡ runs (opened m s) before → (k : ℕ) (ws : List (List ℕ)) (sheet : List ℕ) (es : List Entry)
      → ((more : List Deed) (g : Hall) → g.scene ≡ runs (opened m s) more → Lines g es (deeds g es) (replies_to g.scene (deeds g es)) (printed g es))
      → Lines h (record { line = k; words = ws; sheet = sheet } ∷ es) (deeds h (record { line = k; words = ws; sheet = sheet } ∷ es))
      (replies_to h.scene (deeds h (record { line = k; words = ws; sheet = sheet } ∷ es))) (printed h (record { line = k; words = ws; sheet = sheet } ∷ es))
  by_line before h eh k [] sheet es rest = Lines.silent refl (rest before h eh)
  by_line before h eh k (w ∷ ws) sheet es rest =
      let e : Entry = record { line = k; words = w ∷ ws; sheet = sheet } in
      let ds = line_deeds h e in
      let d = does before h eh e (command_in (w ∷ ws)) refl in
      let on = rest (before ++ ds) (after_line h e) (d.1 ∙ ap (λ v. runs v ds) eh ∙ sym (runs_append before ds (opened m s))) in
      let told : replies_to h.scene ds ++ replies_to (after_line h e).scene (deeds (after_line h e) es) ≡ replies_to h.scene (ds ++ deeds (after_line h e) es) =
      ap (λ v. replies_to h.scene ds ++ replies_to v (deeds (after_line h e) es)) d.1 ∙ sym (replies_append ds (deeds (after_line h e) es) h.scene) in
      subst (λ rs. Lines h (e ∷ es) (ds ++ deeds (after_line h e) es) rs (printed h (e ∷ es))) told
      (Lines.line (λ z. let n : suc (length ws) ≡ 0 = ap length z in absurd (omega (arith, n))) d.0 refl d.1 on)

  lines_so : (before : List Deed) (h : Hall) → h.scene ≡ runs (opened m s) before → (es : List Entry)
      → Lines h es (deeds h es) (replies_to h.scene (deeds h es)) (printed h es)
  lines_so before h eh [] = Lines.end
  lines_so before h eh (e ∷ es) = by_line before h eh e.line e.words e.sheet es (λ more g eg. lines_so more g eg es)

  pub session : (width : ℕ) (es : List Entry) → Session m s width es (printed (record { scene = opened m s; sheets = 16; width = width }) es)
  session width es =
      let h : Hall = record { scene = opened m s; sheets = 16; width = width } in
      record {
        deeds = deeds h es;
        answers = replies_to (opened m s) (deeds h es);
        end = runs (opened m s) (deeds h es);
        whole = whole m s law ok (deeds h es);
        lines = lines_so [] h refl es;
      }
