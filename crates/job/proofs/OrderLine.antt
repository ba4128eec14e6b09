-- A job line is read as an order exactly where it is that order written out. Assumes nothing.
use Rattle.std.proofs.Common.{◌≡◌, ℕ, List, [], ◌∷◌, ◌++◌, length, get_or, take, Some, None, Ok, Err, Option, Result, codes, decimal, sym, refl, ap, ◌∙◌, arith, length-append}
use Rattle.std.specs.Result.{result_err}
use Rattle.std.proofs.lemmas.List.{drop_all, take_at}
use Rattle.sheet.specs.Fields.{number_in}
use Rattle.sheet.specs.Lines.{fields}
use Rattle.sheet.specs.Readable.{FirstUnread, ShowsNumber}
use Rattle.sheet.specs.Records.{field, part}
use Rattle.sheet.specs.Written.{right}
use Rattle.sheet.proofs.Justified.{number_right}
use Rattle.sheet.proofs.Laid.{at_end, here, length_fields, length_part, next, three}
use Rattle.sheet.proofs.Readable.{Faults, no_rest, number_field}
use Rattle.sheet.proofs.Written.{ahead, length_number, number_reads, piece}
use Rattle.job.specs.declared.order.Order.{Order}
use Rattle.job.specs.Jobs.{order_in}
use Rattle.job.specs.OrderLine.{JobLine, OrderAsWritten, WritesOrder}

-- what five fields show, by what each shows
order_by : Option ℕ → Option ℕ → Option ℕ → Option ℕ → Option ℕ → Result Order ℕ
order_by p q r s t =
    field 1 p (λ x. field 2 q (λ y. field 3 r (λ levels. field 4 s (λ robots. field 5 t (λ set.
    Ok (record { x = x; y = y; levels = levels; robots = robots; set = set }))))))

record Shown (p q r s t : Option ℕ) (o : Order) : Type 0 where
  x : p ≡ Some o.x
  y : q ≡ Some o.y
  levels : r ≡ Some o.levels
  robots : s ≡ Some o.robots
  set : t ≡ Some o.set

shown : (p q r s t : Option ℕ) (o : Order) → order_by p q r s t ≡ Ok o → Shown p q r s t o
unfolding order_by
shown None q r s t o e = cc
shown (Some x) None r s t o e = cc
shown (Some x) (Some y) None s t o e = cc
shown (Some x) (Some y) (Some l) None t o e = cc
shown (Some x) (Some y) (Some l) (Some a) None o e = cc
shown (Some x) (Some y) (Some l) (Some a) (Some d) o e =
    let is : record { x = x; y = y; levels = l; robots = a; set = d } ≡ o = cc in
    record {
      x = ap (λ (z : Order). Some z.x) is;
      y = ap (λ (z : Order). Some z.y) is;
      levels = ap (λ (z : Order). Some z.levels) is;
      robots = ap (λ (z : Order). Some z.robots) is;
      set = ap (λ (z : Order). Some z.set) is;
    }

reads_by : (p q r s t : Option ℕ) (o : Order) → Shown p q r s t o → order_by p q r s t ≡ Ok o
unfolding order_by
reads_by p q r s t o w =
    ap (λ (z : Option ℕ). order_by z q r s t) w.x
    ∙ ap (λ (z : Option ℕ). order_by (Some o.x) z r s t) w.y
    ∙ ap (λ (z : Option ℕ). order_by (Some o.x) (Some o.y) z s t) w.levels
    ∙ ap (λ (z : Option ℕ). order_by (Some o.x) (Some o.y) (Some o.levels) z t) w.robots
    ∙ ap (λ (z : Option ℕ). order_by (Some o.x) (Some o.y) (Some o.levels) (Some o.robots) z) w.set

read : (l : List ℕ) → length l ≡ 35 → JobLine l → (o : Order) → order_in (fields l) ≡ Ok o → WritesOrder o l
unfolding order_by
read l long j o e =
    let fs = fields l in
    let n = length_fields l long in
    let w : Shown (number_in (part 0 6 fs)) (number_in (part 6 6 fs)) (number_in (part 12 6 fs)) (number_in (part 18 6 fs)) (number_in (part 24 6 fs)) o =
    shown _ _ _ _ _ o e in
    let x = number_right 6 (part 0 6 fs) o.x (length_part fs 0 6 (omega arith)) w.x in
    let y = number_right 6 (part 6 6 fs) o.y (length_part fs 6 6 (omega arith)) w.y in
    let v = number_right 6 (part 12 6 fs) o.levels (length_part fs 12 6 (omega arith)) w.levels in
    let a = number_right 6 (part 18 6 fs) o.robots (length_part fs 18 6 (omega arith)) w.robots in
    let d = number_right 6 (part 24 6 fs) o.set (length_part fs 24 6 (omega arith)) w.set in
    let text = piece fs n 0 6 _ _ x.1 (piece fs n 6 6 _ _ y.1 (piece fs n 12 6 _ _ v.1 (piece fs n 18 6 _ _ a.1 (piece fs n 24 6 _ _ d.1 (drop_all 30 fs (omega arith)))))) in
    record {
      x = x.0;
      y = y.0;
      levels = v.0;
      robots = a.0;
      set = d.0;
      text = three l (codes "JOB ") long j.newline j.word ∙ ap (λ (t : List ℕ). codes "JOB " ++ (t ++ (10 ∷ []))) text
          ∙ ap (λ (t : List ℕ). codes "JOB " ++ t)
          (ahead (right 6 (decimal o.x)) _ (10 ∷ []) _ (ahead (right 6 (decimal o.y)) _ (10 ∷ []) _ (ahead (right 6 (decimal o.levels)) _ (10 ∷ []) _
          (ahead (right 6 (decimal o.robots)) _ (10 ∷ []) _ (ahead (right 6 (decimal o.set)) [] (10 ∷ []) _ refl)))));
    }

module _ (l : List ℕ) (o : Order) (w : WritesOrder o l) where
  abbrev x1 : List ℕ
  x1 = right 6 (decimal o.x)

  abbrev x2 : List ℕ
  x2 = right 6 (decimal o.y)

  abbrev x3 : List ℕ
  x3 = right 6 (decimal o.levels)

  abbrev x4 : List ℕ
  x4 = right 6 (decimal o.robots)

  abbrev x5 : List ℕ
  x5 = right 6 (decimal o.set)

  abbrev whole : List ℕ
  whole = x1 ++ (x2 ++ (x3 ++ (x4 ++ (x5 ++ []))))

  written : JobLine l × (order_in (fields l) ≡ Ok o)
  unfolding order_by
  written =
      let fs : List ℕ = whole in
      let n1 = length_number o.x w.x in
      let n2 = length_number o.y w.y in
      let n3 = length_number o.levels w.levels in
      let n4 = length_number o.robots w.robots in
      let n5 = length_number o.set w.set in
      let long : length fs ≡ 30 =
      omega (arith, length-append x1 (x2 ++ (x3 ++ (x4 ++ (x5 ++ [])))), length-append x2 (x3 ++ (x4 ++ (x5 ++ []))), length-append x3 (x4 ++ (x5 ++ [])), length-append x4 (x5 ++ []), length-append x5 []) in
      let is : l ≡ codes "JOB " ++ (fs ++ (10 ∷ [])) =
      w.text ∙ ap (λ (t : List ℕ). codes "JOB " ++ t)
      (sym (ahead x1 _ (10 ∷ []) _ (ahead x2 _ (10 ∷ []) _ (ahead x3 _ (10 ∷ []) _ (ahead x4 _ (10 ∷ []) _ (ahead x5 [] (10 ∷ []) _ refl)))))) in
      let cut : fields l ≡ fs = ap fields is ∙ take_at fs (10 ∷ []) 30 long in
      let d1 = next fs x1 (x2 ++ (x3 ++ (x4 ++ (x5 ++ [])))) 0 6 refl n1 in
      let d2 = next fs x2 (x3 ++ (x4 ++ (x5 ++ []))) 6 6 d1 n2 in
      let d3 = next fs x3 (x4 ++ (x5 ++ [])) 12 6 d2 n3 in
      let d4 = next fs x4 (x5 ++ []) 18 6 d3 n4 in
      let p : Shown (number_in (part 0 6 fs)) (number_in (part 6 6 fs)) (number_in (part 12 6 fs)) (number_in (part 18 6 fs)) (number_in (part 24 6 fs)) o = record {
        x = ap number_in (here fs x1 (x2 ++ (x3 ++ (x4 ++ (x5 ++ [])))) 0 6 refl n1) ∙ number_reads o.x w.x;
        y = ap number_in (here fs x2 (x3 ++ (x4 ++ (x5 ++ []))) 6 6 d1 n2) ∙ number_reads o.y w.y;
        levels = ap number_in (here fs x3 (x4 ++ (x5 ++ [])) 12 6 d2 n3) ∙ number_reads o.levels w.levels;
        robots = ap number_in (here fs x4 (x5 ++ []) 18 6 d3 n4) ∙ number_reads o.robots w.robots;
        set = ap number_in (here fs x5 [] 24 6 d4 n5) ∙ number_reads o.set w.set;
      } in
      let order : order_in fs ≡ Ok o = reads_by _ _ _ _ _ o p in
      (record { newline = ap (λ (t : List ℕ). get_or t 34 0) is ∙ at_end fs long; word = ap (take 4) is }, ap order_in cut ∙ order)

err_is : {X : Type 0} (r : Result X ℕ) (k : ℕ) → (r ≡ Err k → result_err r ≡ Some k) × (result_err r ≡ Some k → r ≡ Err k)
err_is (Ok x) k = (λ e. cc, λ e. cc)
err_is (Err j) k = (λ e. let i : j ≡ k = cc in ap (λ (n : ℕ). Some n) i, λ e. let i : j ≡ k = cc in ap (λ (n : ℕ). Err n) i)

faults : (fs : List ℕ) → length fs ≡ 30 → Faults (order_in fs) (FirstUnread 1 (ShowsNumber 6 (part 0 6 fs) ∷ ShowsNumber 6 (part 6 6 fs) ∷ ShowsNumber 6 (part 12 6 fs)
    ∷ ShowsNumber 6 (part 18 6 fs) ∷ ShowsNumber 6 (part 24 6 fs) ∷ []) (Unit {0}))
faults fs n =
    number_field fs n 1 0 (omega arith) _ _ (λ x. number_field fs n 2 6 (omega arith) _ _ (λ y. number_field fs n 3 12 (omega arith) _ _ (λ v.
    number_field fs n 4 18 (omega arith) _ _ (λ a. number_field fs n 5 24 (omega arith) _ _ (λ d.
    no_rest {Y = Order} (record { x = x; y = y; levels = v; robots = a; set = d }))))))

pub order_as_written : OrderAsWritten
order_as_written =
    record {
      read = read;
      written = written;
      unread = λ l long k.
          let f = faults (fields l) (length_fields l long) k in
          let e = err_is (order_in (fields l)) k in
          (λ h. f.0 (e.0 h), λ h. e.1 (f.1 h));
    }
