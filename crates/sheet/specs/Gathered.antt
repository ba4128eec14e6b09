-- What a sheet is made of: the records that its lines show, one after another, and what they come to. Assumes nothing.
use Rattle.std.specs.Prelude.{◌≡◌, ℕ, suc, ◌*◌, ◌<◌, List, [], ◌∷◌, ◌++◌, length, take, drop, slice_index_or}
use Rattle.sheet.specs.declared.record.ActLine.{ActLine}
use Rattle.sheet.specs.declared.record.Record.{Record}
use Rattle.sheet.specs.declared.record.Record.TheVariants.{Goal, Act, Note, End}
use Rattle.sheet.specs.declared.target.Target.{Target}
use Rattle.sheet.specs.View.{Records}
use Rattle.sheet.specs.Written.{Written}

-- records come to the targets of the GOAL lines and the actions of the ACT lines, in order
pub data Gathered : List Record → List Target → List ActLine → Type 0 where
  none : Gathered [] [] []
  goal : {rs : List Record} {ts : List Target} {acts : List ActLine} (c h : ℕ) → Gathered rs ts acts
      → Gathered (rs ++ (Goal c h ∷ [])) (ts ++ (record { column = c; height = h } ∷ [])) acts
  act : {rs : List Record} {ts : List Target} {acts : List ActLine} (a : ActLine) → Gathered rs ts acts
      → Gathered (rs ++ (Act a ∷ [])) ts (acts ++ (a ∷ []))
  note : {rs : List Record} {ts : List Target} {acts : List ActLine} → Gathered rs ts acts → Gathered (rs ++ (Note ∷ [])) ts acts
  end : {rs : List Record} {ts : List Target} {acts : List ActLine} (k : ℕ) → Gathered rs ts acts → Gathered (rs ++ (End k ∷ [])) ts acts

-- the bytes are lines of 35, each written so that it shows a record, and the records come to these targets and actions
pub record IsSheet (sheet : List ℕ) (r : Records) : Type 0 where
  pub shows : List Record
  pub whole : length sheet ≡ 35 * length shows
  pub written : (i : ℕ) → i < length shows → Written (suc i) (take 35 (drop (35 * i) sheet)) (slice_index_or shows i Note)
  pub gathered : Gathered shows r.targets r.acts
  pub lines : r.lines ≡ length shows
