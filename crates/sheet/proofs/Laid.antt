-- A line of 35 bytes is its word, its thirty bytes of fields and a newline; and the fields are cut one after another. Assumes nothing.
use Rattle.std.proofs.Common.{◌≡◌, ℕ, ◌+◌, ◌≤◌, Bool, true, false, cond, ◌&&◌, eqb, List, [], ◌∷◌, ◌++◌, length, get_or, take, drop, Some, None, sym, refl, ap, ◌∙◌, arith, length-drop, length-take}
use Rattle.std.proofs.lemmas.Bool.{and_parts, eqb-true}
use Rattle.std.proofs.lemmas.List.{drop-drop, drop_all, drop_at, drop_more, get_or-drop, take-append-drop, take_at}
use Rattle.sheet.specs.Lines.{Word, fields, spelt, word, word_in}
use Rattle.sheet.specs.Records.{part}
use Rattle.sheet.specs.Written.{word_text}

spelt_is : (l : List ℕ) (w x y z : ℕ) → 4 ≤ length l → spelt l w x y z ≡ true → take 4 l ≡ w ∷ (x ∷ (y ∷ (z ∷ [])))
spelt_is [] w x y z h e = absurd (omega arith)
spelt_is (a ∷ []) w x y z h e = absurd (omega arith)
spelt_is (a ∷ b ∷ []) w x y z h e = absurd (omega arith)
spelt_is (a ∷ b ∷ c ∷ []) w x y z h e = absurd (omega arith)
spelt_is (a ∷ b ∷ c ∷ d ∷ t) w x y z h e =
    let p = and_parts (eqb a w) (eqb b x && (eqb c y && eqb d z)) e in
    let q = and_parts (eqb b x) (eqb c y && eqb d z) p.1 in
    let r = and_parts (eqb c y) (eqb d z) q.1 in
    let ea : a ≡ w = eqb-true a w p.0 in
    let eb : b ≡ x = eqb-true b x q.0 in
    let ec : c ≡ y = eqb-true c y r.0 in
    let ed : d ≡ z = eqb-true d z r.1 in
    cc

pub word_is : (l : List ℕ) (v : Word) → 4 ≤ length l → word l ≡ Some v → take 4 l ≡ word_text v
word_is l v h e = go (spelt l 71 79 65 76) (spelt l 65 67 84 32) (spelt l 78 79 84 69) (spelt l 69 78 68 32) refl refl refl refl e
  where
    done : (y : Word) → take 4 l ≡ word_text y → y ≡ v → take 4 l ≡ word_text v
    done y t i = t ∙ ap word_text i

    go : (p q r s : Bool) → spelt l 71 79 65 76 ≡ p → spelt l 65 67 84 32 ≡ q → spelt l 78 79 84 69 ≡ r → spelt l 69 78 68 32 ≡ s
        → cond p (Some Word.goal) (cond q (Some Word.act) (cond r (Some Word.note) (cond s (Some Word.end) None))) ≡ Some v → take 4 l ≡ word_text v
    go true q r s ep eq er es f = done Word.goal (spelt_is l 71 79 65 76 h ep) cc
    go false true r s ep eq er es f = done Word.act (spelt_is l 65 67 84 32 h eq) cc
    go false false true s ep eq er es f = done Word.note (spelt_is l 78 79 84 69 h er) cc
    go false false false true ep eq er es f = done Word.end (spelt_is l 69 78 68 32 h es) cc
    go false false false false ep eq er es f = cc

pub length_fields : (l : List ℕ) → length l ≡ 35 → length (fields l) ≡ 30
length_fields l n = let t = length-take 30 (drop 4 l) in let d = length-drop 4 l in omega arith

-- a line with a newline, in three pieces
pub three : (l text : List ℕ) → length l ≡ 35 → get_or l 34 0 ≡ 10 → take 4 l ≡ text → l ≡ text ++ (fields l ++ (10 ∷ []))
three l text n nl e =
    let last : drop 34 l ≡ 10 ∷ [] =
    drop_more l 34 0 (omega arith) ∙ ap (λ (t : List ℕ). get_or l 34 0 ∷ t) (drop_all 35 l (omega arith)) ∙ ap (λ (b : ℕ). b ∷ []) nl in
    sym (take-append-drop 4 l)
    ∙ ap (λ (t : List ℕ). t ++ drop 4 l) e
    ∙ ap (λ (t : List ℕ). text ++ t) (sym (take-append-drop 30 (drop 4 l)) ∙ ap (λ (t : List ℕ). fields l ++ t) (drop-drop 30 4 l ∙ last))

pub pieces : (l : List ℕ) (v : Word) → length l ≡ 35 → word_in l ≡ Some v → l ≡ word_text v ++ (fields l ++ (10 ∷ []))
pieces l v n e = go (eqb (get_or l 34 0) 10) refl e
  where
    go : (b : Bool) → eqb (get_or l 34 0) 10 ≡ b → cond b (word l) None ≡ Some v → l ≡ word_text v ++ (fields l ++ (10 ∷ []))
    go false eb f = cc
    go true eb f = three l (word_text v) n (eqb-true (get_or l 34 0) 10 eb) (word_is l v (omega arith) f)

pub at_end : (fs : List ℕ) → length fs ≡ 30 → get_or (fs ++ (10 ∷ [])) 30 0 ≡ 10
at_end fs n = sym (get_or-drop 30 (fs ++ (10 ∷ [])) 0 0) ∙ ap (λ (l : List ℕ). get_or l 0 0) (drop_at fs (10 ∷ []) 30 n)

-- and back
pub put_together : (v : Word) (fs : List ℕ) → length fs ≡ 30 → (word_in (word_text v ++ (fs ++ (10 ∷ []))) ≡ Some v) × (fields (word_text v ++ (fs ++ (10 ∷ []))) ≡ fs)
put_together Word.goal fs n = (ap (λ (b : ℕ). cond (eqb b 10) (Some Word.goal) None) (at_end fs n), take_at fs (10 ∷ []) 30 n)
put_together Word.act fs n = (ap (λ (b : ℕ). cond (eqb b 10) (Some Word.act) None) (at_end fs n), take_at fs (10 ∷ []) 30 n)
put_together Word.note fs n = (ap (λ (b : ℕ). cond (eqb b 10) (Some Word.note) None) (at_end fs n), take_at fs (10 ∷ []) 30 n)
put_together Word.end fs n = (ap (λ (b : ℕ). cond (eqb b 10) (Some Word.end) None) (at_end fs n), take_at fs (10 ∷ []) 30 n)

-- a part, and what is behind it
pub cut : (fs : List ℕ) (a n : ℕ) → drop a fs ≡ part a n fs ++ drop (a + n) fs
cut fs a n = sym (take-append-drop n (drop a fs)) ∙ ap (λ (t : List ℕ). part a n fs ++ t) (drop-drop n a fs)

pub length_part : (fs : List ℕ) (a n : ℕ) → a + n ≤ length fs → length (part a n fs) ≡ n
length_part fs a n l = let t = length-take n (drop a fs) in let d = length-drop a fs in omega arith

-- what stands at a place, and behind it
pub here : (fs x r : List ℕ) (a n : ℕ) → drop a fs ≡ x ++ r → length x ≡ n → part a n fs ≡ x
here fs x r a n e l = ap (take n) e ∙ take_at x r n l

pub next : (fs x r : List ℕ) (a n : ℕ) → drop a fs ≡ x ++ r → length x ≡ n → drop (a + n) fs ≡ r
next fs x r a n e l = sym (drop-drop n a fs) ∙ ap (drop n) e ∙ drop_at x r n l
