-- A line is read as a record exactly where it is that record written out. Assumes nothing.
use Rattle.std.proofs.Common.{◌≡◌, ℕ, ◌+◌, ◌^◌, ◌<◌, Bool, true, false, cond, not, List, [], ◌∷◌, ◌++◌, length, replicate, drop, decimal, codes, Some, None, Ok, Err, Option, Result, sym, refl, ap, ◌∙◌, subst, arith, length-append}
use Rattle.std.specs.Result.{result_ok}
use Rattle.std.proofs.lemmas.Bool.{true≢false}
use Rattle.std.proofs.lemmas.List.{append-nil, append_assoc, drop_all}
use Rattle.sheet.specs.declared.record.ActLine.{ActLine}
use Rattle.sheet.specs.declared.record.Letter.{Letter}
use Rattle.sheet.specs.declared.record.Place.{Place}
use Rattle.sheet.specs.declared.record.Record.{Record}
use Rattle.sheet.specs.declared.record.Record.TheVariants.{Goal, Act, Note, End}
use Rattle.sheet.specs.Fields.{blank, flag, letter_in, number_in, place_in}
use Rattle.sheet.specs.Lines.{Word, bad_shape, fields, misshapen, printable, read, record_in, shown, word_in}
use Rattle.sheet.specs.Reasons.{Printable}
use Rattle.sheet.specs.Records.{act_in, end_in, field, goal_in, part}
use Rattle.sheet.specs.Written.{FitsLine, Written, carry_text, letter_text, place_text, right, word_text}
use Rattle.sheet.specs.Readable.{ReadsAsWritten}
use Rattle.sheet.proofs.Justified.{blank_is, carry_right, is_blank, length_carry, length_letter, length_place, length_right, letter_right, narrow, number_right, place_right, right_carry, right_letter, right_number, right_place}
use Rattle.sheet.proofs.Laid.{cut, here, length_fields, length_part, next, pieces, put_together}
use Rattle.sheet.proofs.Readable.{first_unread, worded}
use Rattle.sheet.proofs.Reasoned.{printable_decides}

-- what the fields of a line show, by what each shows
goal_by : Option ℕ → Option ℕ → Bool → Result Record ℕ
goal_by p q b = field 1 p (λ c. field 2 q (λ h. cond b (Ok (Goal c h)) (Err 0)))

end_by : Option ℕ → Bool → Result Record ℕ
end_by p b = field 1 p (λ k. cond b (Ok (End k)) (Err 0))

act_by : ℕ → Option ℕ → Option ℕ → Option Place → Option Place → Option Bool → Option Letter → Option Place → Option Place → Result Record ℕ
act_by line s e fc fh b x tc th =
    field 1 s (λ start. field 2 e (λ end. field 3 fc (λ from_column. field 4 fh (λ from_height. field 5 b (λ carry. field 6 x (λ letter.
    field 7 tc (λ to_column. field 8 th (λ to_height.
    Ok (Act (record {
      line = line;
      start = start;
      end = end;
      from = record { column = from_column; height = from_height };
      carry = carry;
      letter = letter;
      to = record { column = to_column; height = to_height };
    }))))))))))

record GoalShown (p q : Option ℕ) (b : Bool) (r : Record) : Type 0 where
  column : ℕ
  height : ℕ
  shows_column : p ≡ Some column
  shows_height : q ≡ Some height
  rest : b ≡ true
  is : Goal column height ≡ r

goal_shown : (p q : Option ℕ) (b : Bool) (r : Record) → goal_by p q b ≡ Ok r → GoalShown p q b r
unfolding goal_by
goal_shown None q b r e = cc
goal_shown (Some c) None b r e = cc
goal_shown (Some c) (Some h) false r e = cc
goal_shown (Some c) (Some h) true r e = record { column = c; height = h; shows_column = refl; shows_height = refl; rest = refl; is = cc }

record EndShown (p : Option ℕ) (b : Bool) (r : Record) : Type 0 where
  count : ℕ
  shows_count : p ≡ Some count
  rest : b ≡ true
  is : End count ≡ r

end_shown : (p : Option ℕ) (b : Bool) (r : Record) → end_by p b ≡ Ok r → EndShown p b r
unfolding end_by
end_shown None b r e = cc
end_shown (Some k) false r e = cc
end_shown (Some k) true r e = record { count = k; shows_count = refl; rest = refl; is = cc }

record ActShown (line : ℕ) (s e : Option ℕ) (fc fh : Option Place) (b : Option Bool) (x : Option Letter) (tc th : Option Place) (r : Record) : Type 0 where
  act : ActLine
  at_line : act.line ≡ line
  start : s ≡ Some act.start
  end : e ≡ Some act.end
  from_column : fc ≡ Some act.from.column
  from_height : fh ≡ Some act.from.height
  carry : b ≡ Some act.carry
  letter : x ≡ Some act.letter
  to_column : tc ≡ Some act.to.column
  to_height : th ≡ Some act.to.height
  is : Act act ≡ r

act_shown : (line : ℕ) (s e : Option ℕ) (fc fh : Option Place) (b : Option Bool) (x : Option Letter) (tc th : Option Place) (r : Record)
    → act_by line s e fc fh b x tc th ≡ Ok r → ActShown line s e fc fh b x tc th r
unfolding act_by
act_shown line None e fc fh b x tc th r q = cc
act_shown line (Some s) None fc fh b x tc th r q = cc
act_shown line (Some s) (Some e) None fh b x tc th r q = cc
act_shown line (Some s) (Some e) (Some fc) None b x tc th r q = cc
act_shown line (Some s) (Some e) (Some fc) (Some fh) None x tc th r q = cc
act_shown line (Some s) (Some e) (Some fc) (Some fh) (Some b) None tc th r q = cc
act_shown line (Some s) (Some e) (Some fc) (Some fh) (Some b) (Some x) None th r q = cc
act_shown line (Some s) (Some e) (Some fc) (Some fh) (Some b) (Some x) (Some tc) None r q = cc
act_shown line (Some s) (Some e) (Some fc) (Some fh) (Some b) (Some x) (Some tc) (Some th) r q =
    record {
      act = record { line = line; start = s; end = e; from = record { column = fc; height = fh }; carry = b; letter = x; to = record { column = tc; height = th } };
      at_line = refl;
      start = refl;
      end = refl;
      from_column = refl;
      from_height = refl;
      carry = refl;
      letter = refl;
      to_column = refl;
      to_height = refl;
      is = cc;
    }

-- two lists in front of a third
pub ahead : (x r t : List ℕ) (u : List ℕ) → r ++ t ≡ u → (x ++ r) ++ t ≡ x ++ u
ahead x r t u e = append_assoc x r t ∙ ap (λ (y : List ℕ). x ++ y) e

-- thirty bytes that are read, written out
module _ (fs : List ℕ) (long : length fs ≡ 30) where
  blank_part : (a n : ℕ) → a + n ≡ 30 → blank (part a n fs) ≡ true → drop a fs ≡ replicate n 32
  blank_part a n l b =
      let w = length_part fs a n (omega arith) in
      cut fs a n ∙ ap (λ (t : List ℕ). part a n fs ++ t) (drop_all (a + n) fs (omega arith)) ∙ append-nil (part a n fs)
      ∙ blank_is (part a n fs) b ∙ ap (λ (k : ℕ). replicate k 32) w

  -- one more piece in front
  pub piece : (a n : ℕ) (x r : List ℕ) → part a n fs ≡ x → drop (a + n) fs ≡ r → drop a fs ≡ x ++ r
  piece a n x r e f = cut fs a n ∙ ap (λ (t : List ℕ). t ++ drop (a + n) fs) e ∙ ap (λ (t : List ℕ). x ++ t) f

  goal_text : (c h : ℕ) → number_in (part 0 6 fs) ≡ Some c → number_in (part 6 6 fs) ≡ Some h → blank (part 12 18 fs) ≡ true
      → (c < 10 ^ 6) × (h < 10 ^ 6) × (fs ≡ right 6 (decimal c) ++ (right 6 (decimal h) ++ replicate 18 32))
  goal_text c h ec eh eb =
      let c6 = number_right 6 (part 0 6 fs) c (length_part fs 0 6 (omega arith)) ec in
      let h6 = number_right 6 (part 6 6 fs) h (length_part fs 6 6 (omega arith)) eh in
      (c6.0, h6.0, piece 0 6 (right 6 (decimal c)) _ c6.1 (piece 6 6 (right 6 (decimal h)) _ h6.1 (blank_part 12 18 refl eb)))

  end_text : (k : ℕ) → number_in (part 0 6 fs) ≡ Some k → blank (part 6 24 fs) ≡ true → (k < 10 ^ 6) × (fs ≡ right 6 (decimal k) ++ replicate 24 32)
  end_text k ek eb =
      let k6 = number_right 6 (part 0 6 fs) k (length_part fs 0 6 (omega arith)) ek in
      (k6.0, piece 0 6 (right 6 (decimal k)) _ k6.1 (blank_part 6 24 refl eb))

-- the fields of an ACT line, written out, with a text behind them
abbrev act_text : ActLine → List ℕ → List ℕ
act_text a t =
    right 6 (decimal a.start) ++ (right 6 (decimal a.end) ++ (right 4 (place_text 83 a.from.column) ++ (right 3 (place_text 83 a.from.height)
    ++ (right 2 (carry_text a.carry) ++ (right 2 (letter_text a.letter) ++ (right 4 (place_text 69 a.to.column) ++ (right 3 (place_text 69 a.to.height) ++ t)))))))

joined : (a : ActLine) → act_text a [] ++ (10 ∷ []) ≡ act_text a (10 ∷ [])
joined a =
    ahead (right 6 (decimal a.start)) _ (10 ∷ []) _ (ahead (right 6 (decimal a.end)) _ (10 ∷ []) _
    (ahead (right 4 (place_text 83 a.from.column)) _ (10 ∷ []) _ (ahead (right 3 (place_text 83 a.from.height)) _ (10 ∷ []) _
    (ahead (right 2 (carry_text a.carry)) _ (10 ∷ []) _ (ahead (right 2 (letter_text a.letter)) _ (10 ∷ []) _
    (ahead (right 4 (place_text 69 a.to.column)) _ (10 ∷ []) _ (ahead (right 3 (place_text 69 a.to.height)) [] (10 ∷ []) _ refl)))))))

module _ (fs : List ℕ) (long : length fs ≡ 30) (line : ℕ) (r : Record)
    (w : ActShown line (number_in (part 0 6 fs)) (number_in (part 6 6 fs)) (place_in 83 (part 12 4 fs)) (place_in 83 (part 16 3 fs))
    (flag (number_in (part 19 2 fs))) (letter_in (part 21 2 fs)) (place_in 69 (part 23 4 fs)) (place_in 69 (part 27 3 fs)) r) where
  act_parts : FitsLine w.act × (fs ≡ act_text w.act [])
  act_parts =
      let s = number_right 6 (part 0 6 fs) w.act.start (length_part fs 0 6 (omega arith)) w.start in
      let e = number_right 6 (part 6 6 fs) w.act.end (length_part fs 6 6 (omega arith)) w.end in
      let fc = place_right 83 4 (part 12 4 fs) w.act.from.column (length_part fs 12 4 (omega arith)) w.from_column in
      let fh = place_right 83 3 (part 16 3 fs) w.act.from.height (length_part fs 16 3 (omega arith)) w.from_height in
      let b = carry_right 2 (part 19 2 fs) w.act.carry (length_part fs 19 2 (omega arith)) w.carry in
      let x = letter_right 2 (part 21 2 fs) w.act.letter (length_part fs 21 2 (omega arith)) w.letter in
      let tc = place_right 69 4 (part 23 4 fs) w.act.to.column (length_part fs 23 4 (omega arith)) w.to_column in
      let th = place_right 69 3 (part 27 3 fs) w.act.to.height (length_part fs 27 3 (omega arith)) w.to_height in (
        record { start = s.0; end = e.0; from_column = fc.0; from_height = fh.0; to_column = tc.0; to_height = th.0 },
        piece fs long 0 6 _ _ s.1 (piece fs long 6 6 _ _ e.1 (piece fs long 12 4 _ _ fc.1 (piece fs long 16 3 _ _ fh.1
            (piece fs long 19 2 _ _ b (piece fs long 21 2 _ _ x (piece fs long 23 4 _ _ tc.1 (piece fs long 27 3 _ _ th.1 (drop_all 30 fs (omega arith))))))))),
      )

ok_is : (x : Result Record ℕ) (r : Record) → result_ok x ≡ Some r → x ≡ Ok r
ok_is (Ok y) r e = let i : y ≡ r = cc in ap (λ (z : Record). Ok z) i
ok_is (Err k) r e = cc

-- a line that is read, written out
pub reads : (n : ℕ) (l : List ℕ) → length l ≡ 35 → (r : Record) → bad_shape l ≡ false → record_in n l ≡ Some r → Written n l r
unfolding goal_by end_by act_by
reads n l long r = go (word_in l) refl
  where
    fs : List ℕ
    fs = fields l

    whole : (v : Word) → word_in l ≡ Some v → (x : List ℕ) → fields l ≡ x → l ≡ word_text v ++ (x ++ (10 ∷ []))
    whole v ev x e = pieces l v long ev ∙ ap (λ (t : List ℕ). word_text v ++ (t ++ (10 ∷ []))) e

    as_goal : word_in l ≡ Some Word.goal → GoalShown (number_in (part 0 6 (fields l))) (number_in (part 6 6 (fields l))) (blank (part 12 18 (fields l))) r → Written n l r
    as_goal ev w =
        let t = goal_text (fields l) (length_fields l long) w.column w.height w.shows_column w.shows_height w.rest in
        subst (Written n l) w.is (Written.goal w.column w.height t.0 t.1 (whole Word.goal ev _ t.2
        ∙ ap (λ (y : List ℕ). codes "GOAL" ++ y) (ahead (right 6 (decimal w.column)) _ (10 ∷ []) _ (append_assoc (right 6 (decimal w.height)) (replicate 18 32) (10 ∷ [])))))

    as_end : word_in l ≡ Some Word.end → EndShown (number_in (part 0 6 (fields l))) (blank (part 6 24 (fields l))) r → Written n l r
    as_end ev w =
        let t = end_text (fields l) (length_fields l long) w.count w.shows_count w.rest in
        subst (Written n l) w.is (Written.end w.count t.0 (whole Word.end ev _ t.1
        ∙ ap (λ (y : List ℕ). codes "END " ++ y) (append_assoc (right 6 (decimal w.count)) (replicate 24 32) (10 ∷ []))))

    as_act : word_in l ≡ Some Word.act
        → ActShown n (number_in (part 0 6 (fields l))) (number_in (part 6 6 (fields l))) (place_in 83 (part 12 4 (fields l))) (place_in 83 (part 16 3 (fields l)))
        (flag (number_in (part 19 2 (fields l)))) (letter_in (part 21 2 (fields l))) (place_in 69 (part 23 4 (fields l))) (place_in 69 (part 27 3 (fields l))) r → Written n l r
    as_act ev w =
        let t = act_parts (fields l) (length_fields l long) n r w in
        subst (Written n l) w.is (Written.act w.act w.at_line t.0 (whole Word.act ev _ t.1 ∙ ap (λ (y : List ℕ). codes "ACT " ++ y) (joined w.act)))

    as_note : word_in l ≡ Some Word.note → not (printable (fields l)) ≡ false → Note ≡ r → Written n l r
    as_note ev p i =
        subst (Written n l) i (Written.note (fields l) (length_fields l long) ((printable_decides (fields l)).0 (plain (printable (fields l)) p)) (pieces l Word.note long ev))
      where
        plain : (b : Bool) → not b ≡ false → b ≡ true
        plain true e = refl
        plain false e = sym e

    go : (o : Option Word) → word_in l ≡ o → misshapen o (fields l) ≡ false → read (shown n o (fields l)) ≡ Some r → Written n l r
    go None ev p e = absurd (true≢false p)
    go (Some Word.goal) ev p e = as_goal ev (goal_shown _ _ _ r (ok_is (goal_in (fields l)) r e))
    go (Some Word.act) ev p e = as_act ev (act_shown n _ _ _ _ _ _ _ _ r (ok_is (act_in n (fields l)) r e))
    go (Some Word.note) ev p e = as_note ev p cc
    go (Some Word.end) ev p e = as_end ev (end_shown _ _ r (ok_is (end_in (fields l)) r e))

-- a line that is written so, read
goal_reads : (p q : Option ℕ) (b : Bool) (c h : ℕ) → p ≡ Some c → q ≡ Some h → b ≡ true → goal_by p q b ≡ Ok (Goal c h)
unfolding goal_by
goal_reads p q b c h ep eq eb =
    ap (λ (x : Option ℕ). goal_by x q b) ep ∙ ap (λ (x : Option ℕ). goal_by (Some c) x b) eq ∙ ap (λ (x : Bool). goal_by (Some c) (Some h) x) eb

end_reads : (p : Option ℕ) (b : Bool) (k : ℕ) → p ≡ Some k → b ≡ true → end_by p b ≡ Ok (End k)
unfolding end_by
end_reads p b k ep eb = ap (λ (x : Option ℕ). end_by x b) ep ∙ ap (λ (x : Bool). end_by (Some k) x) eb

act_reads : (s e : Option ℕ) (fc fh : Option Place) (b : Option Bool) (x : Option Letter) (tc th : Option Place) (a : ActLine)
    → s ≡ Some a.start → e ≡ Some a.end → fc ≡ Some a.from.column → fh ≡ Some a.from.height → b ≡ Some a.carry → x ≡ Some a.letter → tc ≡ Some a.to.column → th ≡ Some a.to.height
    → act_by a.line s e fc fh b x tc th ≡ Ok (Act a)
unfolding act_by
act_reads s e fc fh b x tc th a es ee efc efh eb ex etc eth =
    ap (λ (y : Option ℕ). act_by a.line y e fc fh b x tc th) es
    ∙ ap (λ (y : Option ℕ). act_by a.line (Some a.start) y fc fh b x tc th) ee
    ∙ ap (λ (y : Option Place). act_by a.line (Some a.start) (Some a.end) y fh b x tc th) efc
    ∙ ap (λ (y : Option Place). act_by a.line (Some a.start) (Some a.end) (Some a.from.column) y b x tc th) efh
    ∙ ap (λ (y : Option Bool). act_by a.line (Some a.start) (Some a.end) (Some a.from.column) (Some a.from.height) y x tc th) eb
    ∙ ap (λ (y : Option Letter). act_by a.line (Some a.start) (Some a.end) (Some a.from.column) (Some a.from.height) (Some a.carry) y tc th) ex
    ∙ ap (λ (y : Option Place). act_by a.line (Some a.start) (Some a.end) (Some a.from.column) (Some a.from.height) (Some a.carry) (Some a.letter) y th) etc
    ∙ ap (λ (y : Option Place). act_by a.line (Some a.start) (Some a.end) (Some a.from.column) (Some a.from.height) (Some a.carry) (Some a.letter) (Some a.to.column) y) eth

pub length_number : (n : ℕ) → n < 10 ^ 6 → length (right 6 (decimal n)) ≡ 6
length_number n l = length_right 6 (decimal n) (narrow 6 n (omega arith) l (omega arith))

pub number_reads : (n : ℕ) → n < 10 ^ 6 → number_in (right 6 (decimal n)) ≡ Some n
number_reads n l = right_number 6 n (omega arith) (omega arith) l (omega arith)

-- of a line with these thirty bytes
module _ (n : ℕ) (l : List ℕ) (v : Word) (fs : List ℕ) (long : length fs ≡ 30) (is : l ≡ word_text v ++ (fs ++ (10 ∷ []))) where
  has_word : word_in l ≡ Some v
  has_word = ap word_in is ∙ (put_together v fs long).0

  has_fields : fields l ≡ fs
  has_fields = ap fields is ∙ (put_together v fs long).1

  shape_by : bad_shape l ≡ misshapen (Some v) fs
  shape_by = ap (λ (o : Option Word). misshapen o (fields l)) has_word ∙ ap (λ (x : List ℕ). misshapen (Some v) x) has_fields

  record_by : record_in n l ≡ read (shown n (Some v) fs)
  record_by = ap (λ (o : Option Word). read (shown n o (fields l))) has_word ∙ ap (λ (x : List ℕ). read (shown n (Some v) x)) has_fields

abbrev Read : ℕ → List ℕ → Record → Type 0
Read n l r = (bad_shape l ≡ false) × (record_in n l ≡ Some r)

goal_written : (n : ℕ) (l : List ℕ) (c h : ℕ) → c < 10 ^ 6 → h < 10 ^ 6
    → l ≡ codes "GOAL" ++ (right 6 (decimal c) ++ (right 6 (decimal h) ++ (replicate 18 32 ++ (10 ∷ [])))) → Read n l (Goal c h)
unfolding goal_by
goal_written n l c h lc lh e =
    let x = right 6 (decimal c) in
    let y = right 6 (decimal h) in
    let z : List ℕ = replicate 18 32 in
    let fs : List ℕ = x ++ (y ++ z) in
    let nx = length_number c lc in
    let ny = length_number h lh in
    let long : length fs ≡ 30 = omega (arith, length-append x (y ++ z), length-append y z) in
    let is : l ≡ word_text Word.goal ++ (fs ++ (10 ∷ [])) =
    e ∙ ap (λ (t : List ℕ). codes "GOAL" ++ t) (sym (ahead x (y ++ z) (10 ∷ []) _ (append_assoc y z (10 ∷ [])))) in
    let d1 = next fs x (y ++ z) 0 6 refl nx in
    let d2 = next fs y z 6 6 d1 ny in
    let p1 = ap number_in (here fs x (y ++ z) 0 6 refl nx) ∙ number_reads c lc in
    let p2 = ap number_in (here fs y z 6 6 d1 ny) ∙ number_reads h lh in
    let p3 = ap blank (here fs z [] 12 18 (d2 ∙ sym (append-nil z)) refl) ∙ is_blank 18 in
    let w : goal_in fs ≡ Ok (Goal c h) = goal_reads _ _ _ c h p1 p2 p3 in
    (shape_by n l Word.goal fs long is, record_by n l Word.goal fs long is ∙ ap (λ (u : Result Record ℕ). result_ok u) w)

end_written : (n : ℕ) (l : List ℕ) (k : ℕ) → k < 10 ^ 6 → l ≡ codes "END " ++ (right 6 (decimal k) ++ (replicate 24 32 ++ (10 ∷ []))) → Read n l (End k)
unfolding end_by
end_written n l k lk e =
    let x = right 6 (decimal k) in
    let z : List ℕ = replicate 24 32 in
    let fs : List ℕ = x ++ z in
    let nx = length_number k lk in
    let long : length fs ≡ 30 = omega (arith, length-append x z) in
    let is : l ≡ word_text Word.end ++ (fs ++ (10 ∷ [])) = e ∙ ap (λ (t : List ℕ). codes "END " ++ t) (sym (append_assoc x z (10 ∷ []))) in
    let d1 = next fs x z 0 6 refl nx in
    let p1 = ap number_in (here fs x z 0 6 refl nx) ∙ number_reads k lk in
    let p2 = ap blank (here fs z [] 6 24 (d1 ∙ sym (append-nil z)) refl) ∙ is_blank 24 in
    let w : end_in fs ≡ Ok (End k) = end_reads _ _ k p1 p2 in
    (shape_by n l Word.end fs long is, record_by n l Word.end fs long is ∙ ap (λ (u : Result Record ℕ). result_ok u) w)

note_written : (n : ℕ) (l text : List ℕ) → length text ≡ 30 → Printable text → l ≡ codes "NOTE" ++ (text ++ (10 ∷ [])) → Read n l Note
note_written n l text long p e =
    (shape_by n l Word.note text long e ∙ ap not ((printable_decides text).1 p), record_by n l Word.note text long e)

module _ (n : ℕ) (l : List ℕ) (a : ActLine) (at : a.line ≡ n) (f : FitsLine a) (e : l ≡ codes "ACT " ++ act_text a (10 ∷ [])) where
  abbrev x1 : List ℕ
  x1 = right 6 (decimal a.start)

  abbrev x2 : List ℕ
  x2 = right 6 (decimal a.end)

  abbrev x3 : List ℕ
  x3 = right 4 (place_text 83 a.from.column)

  abbrev x4 : List ℕ
  x4 = right 3 (place_text 83 a.from.height)

  abbrev x5 : List ℕ
  x5 = right 2 (carry_text a.carry)

  abbrev x6 : List ℕ
  x6 = right 2 (letter_text a.letter)

  abbrev x7 : List ℕ
  x7 = right 4 (place_text 69 a.to.column)

  abbrev x8 : List ℕ
  x8 = right 3 (place_text 69 a.to.height)

  abbrev r7 : List ℕ
  r7 = x7 ++ (x8 ++ [])

  abbrev r6 : List ℕ
  r6 = x6 ++ r7

  abbrev r5 : List ℕ
  r5 = x5 ++ r6

  abbrev r4 : List ℕ
  r4 = x4 ++ r5

  abbrev r3 : List ℕ
  r3 = x3 ++ r4

  abbrev r2 : List ℕ
  r2 = x2 ++ r3

  abbrev whole_act : List ℕ
  whole_act = x1 ++ r2

  act_written : Read n l (Act a)
  unfolding act_by
  act_written =
      let fs : List ℕ = whole_act in
      let n1 = length_number a.start f.start in
      let n2 = length_number a.end f.end in
      let n3 = length_place 83 4 a.from.column (omega arith) (omega arith) f.from_column in
      let n4 = length_place 83 3 a.from.height (omega arith) (omega arith) f.from_height in
      let n5 = length_carry a.carry in
      let n6 = length_letter a.letter in
      let n7 = length_place 69 4 a.to.column (omega arith) (omega arith) f.to_column in
      let n8 = length_place 69 3 a.to.height (omega arith) (omega arith) f.to_height in
      let long : length fs ≡ 30 =
      omega (arith, length-append x1 r2, length-append x2 r3, length-append x3 r4, length-append x4 r5, length-append x5 r6, length-append x6 r7, length-append x7 (x8 ++ []), length-append x8 []) in
      let is : l ≡ word_text Word.act ++ (fs ++ (10 ∷ [])) = e ∙ ap (λ (t : List ℕ). codes "ACT " ++ t) (sym (joined a)) in
      let d1 = next fs x1 r2 0 6 refl n1 in
      let d2 = next fs x2 r3 6 6 d1 n2 in
      let d3 = next fs x3 r4 12 4 d2 n3 in
      let d4 = next fs x4 r5 16 3 d3 n4 in
      let d5 = next fs x5 r6 19 2 d4 n5 in
      let d6 = next fs x6 r7 21 2 d5 n6 in
      let d7 = next fs x7 (x8 ++ []) 23 4 d6 n7 in
      let p1 = ap number_in (here fs x1 r2 0 6 refl n1) ∙ number_reads a.start f.start in
      let p2 = ap number_in (here fs x2 r3 6 6 d1 n2) ∙ number_reads a.end f.end in
      let p3 = ap (place_in 83) (here fs x3 r4 12 4 d2 n3) ∙ right_place 83 4 a.from.column (omega arith) (omega arith) (omega arith) (omega arith) f.from_column in
      let p4 = ap (place_in 83) (here fs x4 r5 16 3 d3 n4) ∙ right_place 83 3 a.from.height (omega arith) (omega arith) (omega arith) (omega arith) f.from_height in
      let p5 = ap (λ (t : List ℕ). flag (number_in t)) (here fs x5 r6 19 2 d4 n5) ∙ right_carry a.carry in
      let p6 = ap letter_in (here fs x6 r7 21 2 d5 n6) ∙ right_letter 2 a.letter in
      let p7 = ap (place_in 69) (here fs x7 (x8 ++ []) 23 4 d6 n7) ∙ right_place 69 4 a.to.column (omega arith) (omega arith) (omega arith) (omega arith) f.to_column in
      let p8 = ap (place_in 69) (here fs x8 [] 27 3 d7 n8) ∙ right_place 69 3 a.to.height (omega arith) (omega arith) (omega arith) (omega arith) f.to_height in
      let w : act_in a.line fs ≡ Ok (Act a) = act_reads _ _ _ _ _ _ _ _ a p1 p2 p3 p4 p5 p6 p7 p8 in
      let v : act_in n fs ≡ Ok (Act a) = subst (λ (k : ℕ). act_in k fs ≡ Ok (Act a)) at w in
      (shape_by n l Word.act fs long is, record_by n l Word.act fs long is ∙ ap (λ (u : Result Record ℕ). result_ok u) v)

writes : (n : ℕ) (l : List ℕ) (r : Record) → Written n l r → Read n l r
writes n l r (Written.goal c h lc lh e) = goal_written n l c h lc lh e
writes n l r (Written.act a at f e) = act_written n l a at f e
writes n l r (Written.note text long p e) = note_written n l text long p e
writes n l r (Written.end k lk e) = end_written n l k lk e

pub reads_as_written : ReadsAsWritten
reads_as_written = record { words = worded; read = reads; written = writes; unread = first_unread }
