-- How what is asked of an open site is written, word by word. Assumes nothing.
use Rattle.std.specs.Prelude.{◌≡◌, ℕ, ◌≤◌, true, false, List, [], ◌∷◌, Some, codes}
use Rattle.gate.specs.declared.call.Call.TheVariants.{Enter, Move, Lay, Lift, Leave, Recall}
use Rattle.sheet.specs.Fields.{number_in}
use Rattle.console.specs.declared.command.Command.{Command}
use Rattle.console.specs.declared.command.Command.TheVariants.{Makes, Ticks, Clear, Look, Play}

-- a word is the column number c
pub record Column (w : List ℕ) (c : ℕ) : Type 0 where
  pub is_number : number_in w ≡ Some c
  pub fits : c ≤ 65535

pub data Spells : List (List ℕ) → Command → Type 0 where
  enter : {w : List ℕ} {c : ℕ} → Column w c → Spells (codes "enter" ∷ w ∷ []) (Makes (Enter c false))
  enter_with_block : {w : List ℕ} {c : ℕ} → Column w c → Spells (codes "enter" ∷ w ∷ codes "block" ∷ []) (Makes (Enter c true))
  move : {v w : List ℕ} {c d : ℕ} → Column v c → Column w d → Spells (codes "move" ∷ v ∷ w ∷ []) (Makes (Move c d))
  lay : {v w : List ℕ} {c d : ℕ} → Column v c → Column w d → Spells (codes "lay" ∷ v ∷ w ∷ []) (Makes (Lay c d))
  lift : {v w : List ℕ} {c d : ℕ} → Column v c → Column w d → Spells (codes "lift" ∷ v ∷ w ∷ []) (Makes (Lift c d))
  leave : {w : List ℕ} {c : ℕ} → Column w c → Spells (codes "leave" ∷ w ∷ []) (Makes (Leave c))
  recall : Spells (codes "recall" ∷ []) (Makes Recall)
  tick : Spells (codes "tick" ∷ []) (Ticks 1)
  ticks : {w : List ℕ} {n : ℕ} → number_in w ≡ Some n → 1 ≤ n → n ≤ 999999 → Spells (codes "tick" ∷ w ∷ []) (Ticks n)
  clear : Spells (codes "clear" ∷ []) Clear
  look : Spells (codes "look" ∷ []) Look
  play : Spells (codes "play" ∷ []) Play
