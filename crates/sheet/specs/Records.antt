-- What the thirty bytes behind a line's word show, or which field cannot be read. Assumes nothing.
use Rattle.std.specs.Prelude.{ℕ, cond, List, take, drop, Some, None, Ok, Err, Option, Result}
use Rattle.sheet.specs.declared.record.Record.{Record}
use Rattle.sheet.specs.declared.record.Record.TheVariants.{Goal, Act, End}
use Rattle.sheet.specs.Fields.{number_in, letter_in, place_in, flag, blank}

-- n bytes from place a on
abbrev pub part : ℕ → ℕ → List ℕ → List ℕ
part a n fs = take n (drop a fs)

-- go on with field number k where it can be read; else it is the fault
abbrev pub field : {X Y : Type 0} → ℕ → Option X → (X → Result Y ℕ) → Result Y ℕ
field k None go = Err k
field k (Some x) go = go x

-- the bytes that are not used are spaces; else the fault is 0
abbrev pub unused : {Y : Type 0} → List ℕ → Y → Result Y ℕ
unused bs y = cond (blank bs) (Ok y) (Err 0)

-- column (6), height (6)
abbrev pub goal_in : List ℕ → Result Record ℕ
goal_in fs =
    field 1 (number_in (part 0 6 fs)) (λ column.
    field 2 (number_in (part 6 6 fs)) (λ height.
    unused (part 12 18 fs) (Goal column height)))

-- start (6), end (6), from column (4), from height (3), carry (2), letter (2), to column (4), to height (3)
abbrev pub act_in : ℕ → List ℕ → Result Record ℕ
act_in line fs =
    field 1 (number_in (part 0 6 fs)) (λ start.
    field 2 (number_in (part 6 6 fs)) (λ end.
    field 3 (place_in 83 (part 12 4 fs)) (λ from_column.
    field 4 (place_in 83 (part 16 3 fs)) (λ from_height.
    field 5 (flag (number_in (part 19 2 fs))) (λ carry.
    field 6 (letter_in (part 21 2 fs)) (λ letter.
    field 7 (place_in 69 (part 23 4 fs)) (λ to_column.
    field 8 (place_in 69 (part 27 3 fs)) (λ to_height.
    Ok (Act (record {
      line = line;
      start = start;
      end = end;
      from = record { column = from_column; height = from_height };
      carry = carry;
      letter = letter;
      to = record { column = to_column; height = to_height };
    }))))))))))

-- the number of ACT lines (6)
abbrev pub end_in : List ℕ → Result Record ℕ
end_in fs = field 1 (number_in (part 0 6 fs)) (λ count. unused (part 6 24 fs) (End count))
