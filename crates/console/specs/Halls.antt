-- A hall's open site: what a line of a script does to it, and what is printed of that. Assumes nothing.
use Rattle.std.specs.Prelude.{ℕ, zero, suc, pred, List, [], ◌∷◌, ◌++◌, map, replicate, Some, None, Ok, Err, codes, decimal, Option, Result}
use Rattle.terms.specs.Refusals.{Told}
use Rattle.gate.specs.declared.call.Call.{Call}
use Rattle.gate.specs.declared.call.Call.TheVariants.{Tick, Recall}
use Rattle.gate.specs.declared.order.Order.{Order}
use Rattle.gate.specs.Scene.{Scene}
use Rattle.gate.specs.Gate.{step}
use Rattle.gate.specs.Recall.{recall}
use Rattle.undertaking.specs.Runs.{Reply, by_refusal, reply}
use Rattle.undertaking.specs.Obeying.{call_of}
use Rattle.judge.specs.Judging.{judging_refusal}
use Rattle.judge.specs.Verdict.{sheet_plan}
use Rattle.play.specs.Play.{play_on}
use Rattle.gate.specs.Time.{after_ticks, longest, settled}
use Rattle.service.specs.Deeds.{Deed}
use Rattle.console.specs.declared.command.Command.{Command}
use Rattle.console.specs.declared.command.Command.TheVariants.{Makes, Ticks, Clear, Look, Play}
use Rattle.console.specs.declared.usage.Usage.{Usage}
use Rattle.console.specs.declared.usage.Usage.TheVariants.{FewerSheets}
use Rattle.console.specs.Commands.{command_in}
use Rattle.console.specs.Drawing.{counts_text, drawing}
use Rattle.console.specs.Lines.{Entry}
use Rattle.console.specs.Texts.{expected_text, labelled, reply_text}

-- the site, how many sheets may still be judged, and how many columns a row of its drawing has
pub record Hall : Type 0 where
  pub scene : Scene
  pub sheets : ℕ
  pub width : ℕ

-- ticks until nothing runs
abbrev pub resting : Scene → List Call
resting v = replicate (longest v.columns) Tick

-- obeying recall once: it is asked, the action that it names is made, and ticks until nothing runs
abbrev pub made : Scene → Result Order Told → List Call
made v (Err t) = []
made v (Ok o) = call_of o.column o.next ∷ resting (step v (call_of o.column o.next))

abbrev pub obeying : Scene → List Call
obeying v = Recall ∷ made v (recall v)

abbrev pub obeyed : Scene → Result Order Told → Scene
obeyed v (Err t) = v
obeyed v (Ok o) = settled (step v (call_of o.column o.next))

-- and n times
abbrev pub homeward : ℕ → Scene → List Call
homeward zero v = []
homeward (suc n) v = obeying v ++ homeward n (obeyed v (recall v))

abbrev pub home : ℕ → Scene → Scene
home zero v = v
home (suc n) v = home n (obeyed v (recall v))

-- how many actions recall says are left
abbrev pub left : Result Order Told → ℕ
left (Err t) = 0
left (Ok o) = o.left

-- clearing: ticks until nothing runs, then recall says how many actions are left, and is obeyed as often
abbrev pub clearing : Scene → List Call
clearing v = resting v ++ Recall ∷ homeward (left (recall (settled v))) (settled v)

abbrev pub cleared : Scene → Scene
cleared v = home (left (recall (settled v))) (settled v)

-- why the sheet of a site is refused
abbrev pub sheet_refusal : Scene → List ℕ → Option Told
sheet_refusal v sheet = judging_refusal v.meaning v.settings sheet

-- what comes of a sheet: one that is accepted is played
abbrev pub reply_by : Option Told → Scene → List ℕ → Reply
reply_by None v sheet = by_refusal (play_on (sheet_plan sheet) v).answer
reply_by (Some t) v sheet = Reply.refused t

abbrev pub scene_by : Option Told → Scene → List ℕ → Scene
scene_by None v sheet = (play_on (sheet_plan sheet) v).site
scene_by (Some t) v sheet = v

abbrev pub played_reply : Scene → List ℕ → Reply
played_reply v sheet = reply_by (sheet_refusal v sheet) v sheet

abbrev pub played_scene : Scene → List ℕ → Scene
played_scene v sheet = scene_by (sheet_refusal v sheet) v sheet

-- a sheet that is accepted is played, and another is not; one too many is not judged
abbrev pub playing : Option Told → List ℕ → List Deed
playing None sheet = Deed.plays (sheet_plan sheet) ∷ []
playing (Some t) sheet = []

abbrev pub sheet_deeds : ℕ → Scene → List ℕ → List Deed
sheet_deeds zero v sheet = []
sheet_deeds (suc n) v sheet = playing (sheet_refusal v sheet) sheet

-- the deeds of a line
abbrev pub deeds_of : Hall → List ℕ → Result Command Usage → List Deed
deeds_of h sheet (Err u) = []
deeds_of h sheet (Ok (Makes k)) = Deed.call k ∷ []
deeds_of h sheet (Ok (Ticks n)) = replicate n (Deed.call Tick)
deeds_of h sheet (Ok Clear) = map Deed.call (clearing h.scene)
deeds_of h sheet (Ok Look) = []
deeds_of h sheet (Ok Play) = sheet_deeds h.sheets h.scene sheet

abbrev pub cleared_text : ℕ → List ℕ
cleared_text n = codes "cleared, " ++ (decimal n ++ codes " actions")

-- what is printed of a sheet; one too many is not judged
abbrev pub sheet_text : ℕ → Scene → List ℕ → List ℕ
sheet_text zero v sheet = expected_text FewerSheets
sheet_text (suc n) v sheet = reply_text (played_reply v sheet)

-- the site behind a line, and how many sheets may still be judged
abbrev pub sheet_scene : ℕ → Scene → List ℕ → Scene
sheet_scene zero v sheet = v
sheet_scene (suc n) v sheet = played_scene v sheet

abbrev pub scene_after : Hall → List ℕ → Result Command Usage → Scene
scene_after h sheet (Err u) = h.scene
scene_after h sheet (Ok (Makes k)) = step h.scene k
scene_after h sheet (Ok (Ticks n)) = after_ticks n h.scene
scene_after h sheet (Ok Clear) = cleared h.scene
scene_after h sheet (Ok Look) = h.scene
scene_after h sheet (Ok Play) = sheet_scene h.sheets h.scene sheet

abbrev pub sheets_after : ℕ → Result Command Usage → ℕ
sheets_after n (Err u) = n
sheets_after n (Ok (Makes k)) = n
sheets_after n (Ok (Ticks k)) = n
sheets_after n (Ok Clear) = n
sheets_after n (Ok Look) = n
sheets_after n (Ok Play) = pred n

abbrev pub hall_after : Hall → List ℕ → Result Command Usage → Hall
hall_after h sheet r = record { scene = scene_after h sheet r; sheets = sheets_after h.sheets r; width = h.width }

-- what is printed of a line
abbrev pub answer_text : Hall → List ℕ → Result Command Usage → List ℕ
answer_text h sheet (Err u) = expected_text u
answer_text h sheet (Ok (Makes k)) = reply_text (reply h.scene k)
answer_text h sheet (Ok (Ticks n)) = codes "granted"
answer_text h sheet (Ok Clear) = cleared_text (left (recall (settled h.scene)))
answer_text h sheet (Ok Look) = counts_text h.scene ++ drawing h.width h.scene
answer_text h sheet (Ok Play) = sheet_text h.sheets h.scene sheet

-- a line without words does nothing, and nothing is printed of it
abbrev pub worded : {X : Type 0} → List (List ℕ) → X → X → X
worded [] none some = none
worded (w ∷ ws) none some = some

abbrev pub line_deeds : Hall → Entry → List Deed
line_deeds h e = worded e.words [] (deeds_of h e.sheet (command_in e.words))

abbrev pub line_text : Hall → Entry → List ℕ
line_text h e = worded e.words [] (labelled e.line (answer_text h e.sheet (command_in e.words)))

abbrev pub after_line : Hall → Entry → Hall
after_line h e = worded e.words h (hall_after h e.sheet (command_in e.words))

-- what is printed of lines, and the deeds that they do
abbrev pub printed : Hall → List Entry → List ℕ
printed h [] = []
printed h (e ∷ es) = line_text h e ++ printed (after_line h e) es

abbrev pub deeds : Hall → List Entry → List Deed
deeds h [] = []
deeds h (e ∷ es) = line_deeds h e ++ deeds (after_line h e) es
