-- A line is read as what its words spell, and no other line is read. Assumes nothing.
use Rattle.std.proofs.Common.{◌≡◌, ℕ, Bool, true, false, cond, ◌&&◌, leb, List, [], ◌∷◌, Some, None, Ok, Err, codes, Option, Result, refl, ap, sym, ◌∙◌, subst, arith}
use Rattle.std.specs.Option.{option_map, unwrap_or}
use Rattle.std.specs.Prelude.{option_and_then}
use Rattle.std.specs.Str.{bytes_eq}
use Rattle.std.proofs.lemmas.Bool.{and_from, and_parts, le-leb, leb-true}
use Rattle.std.proofs.lemmas.Slice.Eq.{bytes_eq-Decides}
use Rattle.gate.specs.declared.call.Call.TheVariants.{Enter, Move, Lay, Lift, Leave, Recall}
use Rattle.sheet.specs.Fields.{number_in}
use Rattle.console.specs.declared.command.Command.{Command}
use Rattle.console.specs.declared.command.Command.TheVariants.{Makes, Ticks, Clear, Look, Play}
use Rattle.console.specs.declared.command.Verb.{Verb}
use Rattle.console.specs.declared.command.Verb.TheVariants as verb
use Rattle.console.specs.declared.usage.Usage.{Usage}
use Rattle.console.specs.declared.usage.Usage.TheVariants as usage
use Rattle.console.specs.Commands.{asked, at_end, block_in, column_in, command_in, command_of, few, or_expects, times, two_columns, verb_in}
use Rattle.console.specs.Spelling.{Column, Spells}

-- the word that a verb is
abbrev name : Verb → List ℕ
name verb.Enter = codes "enter"
name verb.Move = codes "move"
name verb.Lay = codes "lay"
name verb.Lift = codes "lift"
name verb.Leave = codes "leave"
name verb.Tick = codes "tick"
name verb.Recall = codes "recall"
name verb.Clear = codes "clear"
name verb.Look = codes "look"
name verb.Play = codes "play"

-- the same, of two that are the same
some_same : {X : Type 0} (x y : X) → Some x ≡ Some y → x ≡ y
some_same x y e = ap (λ o. unwrap_or o x) e

not_some : {X : Type 0} (x : X) → ◌≡◌ {A = Option X} None (Some x) → ⊥
not_some x e = let z : ◌≡◌ {A = ℕ} 0 1 = ap (λ o. unwrap_or (option_map (λ y. 1) o) 0) e in absurd (omega (arith, z))

-- a word that is read as a verb is its name
passed : (w : List ℕ) (v u : Verb) (later : Option Verb) → (later ≡ Some u → w ≡ name u) → cond (bytes_eq w (name v)) (Some v) later ≡ Some u → w ≡ name u
passed w v u later more = go (bytes_eq w (name v)) refl
  where
    go : (b : Bool) → bytes_eq w (name v) ≡ b → cond b (Some v) later ≡ Some u → w ≡ name u
    go true t e = (bytes_eq-Decides w (name v)).0 t ∙ ap name (some_same v u e)
    go false f e = more e

verb_named : (w : List ℕ) (u : Verb) → verb_in w ≡ Some u → w ≡ name u
verb_named w u =
    passed w verb.Enter u _ (passed w verb.Move u _ (passed w verb.Lay u _ (passed w verb.Lift u _ (passed w verb.Leave u _
    (passed w verb.Tick u _ (passed w verb.Recall u _ (passed w verb.Clear u _ (passed w verb.Look u _ (passed w verb.Play u _
    (λ e. absurd (not_some u e)))))))))))

-- a word that is read as a column number is one
column_is : (w : List ℕ) (c : ℕ) → Column w c → column_in w ≡ Some c
column_is w c k = ap (option_and_then (few 65535)) k.is_number ∙ ap (λ (b : Bool). cond b (Some c) None) (le-leb c 65535 k.fits)

column_so : (w : List ℕ) (c : ℕ) → column_in w ≡ Some c → Column w c
column_so w c = go (number_in w) refl
  where
    within : (n : ℕ) (b : Bool) → number_in w ≡ Some n → leb n 65535 ≡ b → cond b (Some n) None ≡ Some c → Column w c
    within n true en l e = record { is_number = en ∙ ap Some (some_same n c e); fits = let s = some_same n c e in let h = leb-true n 65535 l in omega (arith, s, h) }
    within n false en l e = absurd (not_some c e)

    go : (o : Option ℕ) → number_in w ≡ o → option_and_then (few 65535) o ≡ Some c → Column w c
    go None en e = absurd (not_some c e)
    go (Some n) en e = within n (leb n 65535) en refl e

-- what is spelled is read
abbrev by_one : (ℕ → Option Command) → Verb → Option ℕ → Result Command Usage
by_one f v o = or_expects (usage.Form v) (option_and_then f o)

abbrev by_two : (ℕ → ℕ → Command) → Verb → Option ℕ → Option ℕ → Result Command Usage
by_two f v o p = or_expects (usage.Form v) (option_map (λ (q : ℕ × ℕ). f q.0 q.1) (option_and_then (λ c. option_and_then (λ d. at_end [] (c, d)) p) o))

both_read : (f : ℕ → ℕ → Command) (u : Verb) (v w : List ℕ) (c d : ℕ) → Column v c → Column w d → by_two f u (column_in v) (column_in w) ≡ Ok (f c d)
both_read f u v w c d h i = ap (λ o. by_two f u o (column_in w)) (column_is v c h) ∙ ap (λ p. by_two f u (Some c) p) (column_is w d i)

pub read_so : (ws : List (List ℕ)) (k : Command) → Spells ws k → command_in ws ≡ Ok k
read_so ws k (Spells.enter {w} {c} h) = ap (λ o. or_expects (usage.Form verb.Enter) (option_map Makes (option_and_then (λ n. option_map (Enter n) (block_in [])) o))) (column_is w c h)
read_so ws k (Spells.enter_with_block {w} {c} h) =
    ap (λ o. or_expects (usage.Form verb.Enter) (option_map Makes (option_and_then (λ n. option_map (Enter n) (block_in (codes "block" ∷ []))) o))) (column_is w c h)
read_so ws k (Spells.move {v} {w} {c} {d} h i) = both_read (λ x y. Makes (Move x y)) verb.Move v w c d h i
read_so ws k (Spells.lay {v} {w} {c} {d} h i) = both_read (λ x y. Makes (Lay x y)) verb.Lay v w c d h i
read_so ws k (Spells.lift {v} {w} {c} {d} h i) = both_read (λ x y. Makes (Lift x y)) verb.Lift v w c d h i
read_so ws k (Spells.leave {w} {c} h) = ap (λ o. or_expects (usage.Form verb.Leave) (option_map (λ n. Makes (Leave n)) (option_and_then (λ n. at_end [] n) o))) (column_is w c h)
read_so ws k Spells.recall = refl
read_so ws k Spells.tick = refl
read_so ws k (Spells.ticks {w} {n} e l h) =
    let in' : (leb 1 n && leb n 999999) ≡ true = and_from (leb 1 n) (leb n 999999) (le-leb 1 n l) (le-leb n 999999 h) in
    ap (λ o. or_expects (usage.Form verb.Tick) (option_map Ticks (option_and_then (λ m. at_end [] m) (option_and_then times o)))) e
    ∙ ap (λ (b : Bool). or_expects (usage.Form verb.Tick) (option_map Ticks (option_and_then (λ m. at_end [] m) (cond b (Some n) None)))) in'
read_so ws k Spells.clear = refl
read_so ws k Spells.look = refl
read_so ws k Spells.play = refl

-- what is read is spelled so
record One {X : Type 0} (g : X → Command) (f : ℕ → Option X) (w : List ℕ) (k : Command) : Type 0 where
  column : ℕ
  is_column : Column w column
  on : option_map g (f column) ≡ Some k

one_so : {X : Type 0} (g : X → Command) (f : ℕ → Option X) (w : List ℕ) (k : Command) → option_map g (option_and_then f (column_in w)) ≡ Some k → One g f w k
one_so g f w k = go (column_in w) refl
  where
    go : (o : Option ℕ) → column_in w ≡ o → option_map g (option_and_then f o) ≡ Some k → One g f w k
    go None eo e = absurd (not_some k e)
    go (Some c) eo e = record { column = c; is_column = column_so w c eo; on = e }

record Two (f : ℕ → ℕ → Command) (ws : List (List ℕ)) (k : Command) : Type 0 where
  first : List ℕ
  second : List ℕ
  from : ℕ
  to : ℕ
  words : ws ≡ first ∷ second ∷ []
  is_from : Column first from
  is_to : Column second to
  is : f from to ≡ k

two_so : (f : ℕ → ℕ → Command) (ws : List (List ℕ)) (k : Command) → option_map (λ (q : ℕ × ℕ). f q.0 q.1) (two_columns ws) ≡ Some k → Two f ws k
two_so f [] k e = absurd (not_some k e)
two_so f (v ∷ []) k e = let a = one_so (λ (q : ℕ × ℕ). f q.0 q.1) (λ c. None) v k e in absurd (not_some k a.on)
two_so f (v ∷ w ∷ []) k e =
    let a = one_so (λ (q : ℕ × ℕ). f q.0 q.1) (λ c. option_and_then (λ d. Some (c, d)) (column_in w)) v k e in
    let b = one_so (λ (q : ℕ × ℕ). f q.0 q.1) (λ d. Some (a.column, d)) w k a.on in
    record { first = v; second = w; from = a.column; to = b.column; words = refl; is_from = a.is_column; is_to = b.is_column; is = some_same (f a.column b.column) k b.on }
two_so f (v ∷ w ∷ x ∷ ws) k e =
    let a = one_so (λ (q : ℕ × ℕ). f q.0 q.1) (λ c. option_and_then (λ d. None) (column_in w)) v k e in
    let b = one_so (λ (q : ℕ × ℕ). f q.0 q.1) (λ (d : ℕ). None) w k a.on in
    absurd (not_some k b.on)

asked_so : (v : Verb) (ws : List (List ℕ)) (k : Command) → asked v ws ≡ Some k → Spells (name v ∷ ws) k
asked_so verb.Enter [] k e = absurd (not_some k e)
asked_so verb.Enter (w ∷ ws) k e = entered ws (one_so Makes (λ n. option_map (Enter n) (block_in ws)) w k e)
  where
    with_block : (b : List ℕ) (more : List (List ℕ)) (c : ℕ) → Column w c → (t : Bool) → bytes_eq b (codes "block") ≡ t
        → option_map Makes (option_map (Enter c) (cond t (at_end more true) None)) ≡ Some k → Spells (codes "enter" ∷ w ∷ b ∷ more) k
    with_block b [] c h true t on =
        subst (Spells (codes "enter" ∷ w ∷ b ∷ [])) (some_same (Makes (Enter c true)) k on)
        (subst (λ x. Spells (codes "enter" ∷ w ∷ x ∷ []) (Makes (Enter c true))) (sym ((bytes_eq-Decides b (codes "block")).0 t)) (Spells.enter_with_block h))
    with_block b (x ∷ more) c h true t on = absurd (not_some k on)
    with_block b more c h false t on = absurd (not_some k on)

    entered : (rest : List (List ℕ)) → One Makes (λ n. option_map (Enter n) (block_in rest)) w k → Spells (codes "enter" ∷ w ∷ rest) k
    entered [] a = subst (Spells (codes "enter" ∷ w ∷ [])) (some_same (Makes (Enter a.column false)) k a.on) (Spells.enter a.is_column)
    entered (b ∷ more) a = with_block b more a.column a.is_column (bytes_eq b (codes "block")) refl a.on
asked_so verb.Move ws k e =
    let t = two_so (λ c d. Makes (Move c d)) ws k e in
    subst (λ x. Spells (codes "move" ∷ x) k) (sym t.words) (subst (Spells (codes "move" ∷ t.first ∷ t.second ∷ [])) t.is (Spells.move t.is_from t.is_to))
asked_so verb.Lay ws k e =
    let t = two_so (λ c d. Makes (Lay c d)) ws k e in
    subst (λ x. Spells (codes "lay" ∷ x) k) (sym t.words) (subst (Spells (codes "lay" ∷ t.first ∷ t.second ∷ [])) t.is (Spells.lay t.is_from t.is_to))
asked_so verb.Lift ws k e =
    let t = two_so (λ c d. Makes (Lift c d)) ws k e in
    subst (λ x. Spells (codes "lift" ∷ x) k) (sym t.words) (subst (Spells (codes "lift" ∷ t.first ∷ t.second ∷ [])) t.is (Spells.lift t.is_from t.is_to))
asked_so verb.Leave [] k e = absurd (not_some k e)
asked_so verb.Leave (w ∷ []) k e =
    let a = one_so (λ n. Makes (Leave n)) (λ n. Some n) w k e in
    subst (Spells (codes "leave" ∷ w ∷ [])) (some_same (Makes (Leave a.column)) k a.on) (Spells.leave a.is_column)
asked_so verb.Leave (w ∷ x ∷ ws) k e = let a = one_so (λ (n : ℕ). Makes (Leave n)) (λ n. None) w k e in absurd (not_some k a.on)
asked_so verb.Tick [] k e = subst (Spells (codes "tick" ∷ [])) (some_same (Ticks 1) k e) Spells.tick
asked_so verb.Tick (w ∷ ws) k e = ticked ws (number_in w) refl e
  where
    within : (rest : List (List ℕ)) (n : ℕ) (b : Bool) → number_in w ≡ Some n → (leb 1 n && leb n 999999) ≡ b
        → option_map Ticks (option_and_then (λ m. at_end rest m) (cond b (Some n) None)) ≡ Some k → Spells (codes "tick" ∷ w ∷ rest) k
    within [] n true en l on =
        let p = and_parts (leb 1 n) (leb n 999999) l in
        subst (Spells (codes "tick" ∷ w ∷ [])) (some_same (Ticks n) k on) (Spells.ticks en (leb-true 1 n p.0) (leb-true n 999999 p.1))
    within (x ∷ rest) n true en l on = absurd (not_some k on)
    within rest n false en l on = absurd (not_some k on)

    ticked : (rest : List (List ℕ)) (o : Option ℕ) → number_in w ≡ o
        → option_map Ticks (option_and_then (λ m. at_end rest m) (option_and_then times o)) ≡ Some k → Spells (codes "tick" ∷ w ∷ rest) k
    ticked rest None en on = absurd (not_some k on)
    ticked rest (Some n) en on = within rest n (leb 1 n && leb n 999999) en refl on
asked_so verb.Recall [] k e = subst (Spells (codes "recall" ∷ [])) (some_same (Makes Recall) k e) Spells.recall
asked_so verb.Recall (w ∷ ws) k e = absurd (not_some k e)
asked_so verb.Clear [] k e = subst (Spells (codes "clear" ∷ [])) (some_same Clear k e) Spells.clear
asked_so verb.Clear (w ∷ ws) k e = absurd (not_some k e)
asked_so verb.Look [] k e = subst (Spells (codes "look" ∷ [])) (some_same Look k e) Spells.look
asked_so verb.Look (w ∷ ws) k e = absurd (not_some k e)
asked_so verb.Play [] k e = subst (Spells (codes "play" ∷ [])) (some_same Play k e) Spells.play
asked_so verb.Play (w ∷ ws) k e = absurd (not_some k e)

not_ok : (u : Usage) (k : Command) → ◌≡◌ {A = Result Command Usage} (Err u) (Ok k) → ⊥
not_ok u k e = let z : ◌≡◌ {A = ℕ} 0 1 = ap (λ (r : Result Command Usage). elim r [ Ok x ↦ 1 | Err y ↦ 0 ]) e in absurd (omega (arith, z))

ok_same : (x y : Command) → ◌≡◌ {A = Result Command Usage} (Ok x) (Ok y) → x ≡ y
ok_same x y e = ap (λ (r : Result Command Usage). elim r [ Ok z ↦ z | Err u ↦ x ]) e

pub spelled_so : (ws : List (List ℕ)) (k : Command) → command_in ws ≡ Ok k → Spells ws k
spelled_so [] k e = absurd (not_ok usage.Other k e)
spelled_so (w ∷ ws) k e = go (verb_in w) refl e
  where
    spelled : (v : Verb) (o : Option Command) → verb_in w ≡ Some v → asked v ws ≡ o → or_expects (usage.Form v) o ≡ Ok k → Spells (w ∷ ws) k
    spelled v None ev eo e = absurd (not_ok (usage.Form v) k e)
    spelled v (Some x) ev eo e = subst (λ n. Spells (n ∷ ws) k) (sym (verb_named w v ev)) (asked_so v ws k (eo ∙ ap Some (ok_same x k e)))

    go : (o : Option Verb) → verb_in w ≡ o → command_of o ws ≡ Ok k → Spells (w ∷ ws) k
    go None ev e = absurd (not_ok usage.Other k e)
    go (Some v) ev e = spelled v (asked v ws) ev refl e

pub unread_so : (ws : List (List ℕ)) (u : Usage) → command_in ws ≡ Err u → (k : Command) → Spells ws k → ⊥
unread_so ws u e k s = not_ok u k (sym e ∙ read_so ws k s)
