-- A number below a million fills its six places as its decimal digits do. Assumes nothing.
use Rattle.std.proofs.Common.{◌≡◌, ℕ, ◌+◌, ◌-◌, ◌/◌, ◌%◌, ◌^◌, ◌<◌, ◌≤◌, List, [], ◌∷◌, ◌++◌, length, replicate, drop, decimal, refl, sym, ap, ◌∙◌, ⊎_elim, arith, length-append}
use Rattle.std.proofs.lemmas.Fmt.{decimal_step, length-decimal-le}
use Rattle.std.proofs.lemmas.Bool.{cases_lt}
use Rattle.std.proofs.lemmas.List.{append_assoc, append-nil, drop_at}
use Rattle.draw.specs.Places.{justified}
use Rattle.draw.proofs.Digits.{one, shows, spaced, three, two}
use Rattle.job.specs.Text.{cells, place, wide}

four : (n : ℕ) → 1000 ≤ n → n < 10000 → decimal n ≡ (48 + n / 1000 % 10) ∷ (48 + n / 100 % 10) ∷ (48 + n / 10 % 10) ∷ (48 + n % 10) ∷ []
four n low high =
    let e : n / 10 / 10 ≡ n / 100 = omega arith in
    let f : n / 10 / 100 ≡ n / 1000 = omega arith in
    decimal_step n (omega arith) (omega arith)
    ∙ ap (λ (l : List ℕ). l ++ ((48 + n % 10) ∷ [])) (three (n / 10) (omega arith) (omega arith))
    ∙ ap (λ (k : ℕ). (48 + n / 10 / 100 % 10) ∷ (48 + k % 10) ∷ (48 + n / 10 % 10) ∷ (48 + n % 10) ∷ []) e
    ∙ ap (λ (k : ℕ). (48 + k % 10) ∷ (48 + n / 100 % 10) ∷ (48 + n / 10 % 10) ∷ (48 + n % 10) ∷ []) f

five : (n : ℕ) → 10000 ≤ n → n < 100000
    → decimal n ≡ (48 + n / 10000 % 10) ∷ (48 + n / 1000 % 10) ∷ (48 + n / 100 % 10) ∷ (48 + n / 10 % 10) ∷ (48 + n % 10) ∷ []
five n low high =
    let e : n / 10 / 10 ≡ n / 100 = omega arith in
    let f : n / 10 / 100 ≡ n / 1000 = omega arith in
    let g : n / 10 / 1000 ≡ n / 10000 = omega arith in
    decimal_step n (omega arith) (omega arith)
    ∙ ap (λ (l : List ℕ). l ++ ((48 + n % 10) ∷ [])) (four (n / 10) (omega arith) (omega arith))
    ∙ cc

six : (n : ℕ) → 100000 ≤ n → n < 1000000
    → decimal n ≡ (48 + n / 100000 % 10) ∷ (48 + n / 10000 % 10) ∷ (48 + n / 1000 % 10) ∷ (48 + n / 100 % 10) ∷ (48 + n / 10 % 10) ∷ (48 + n % 10) ∷ []
six n low high =
    let e : n / 10 / 10 ≡ n / 100 = omega arith in
    let f : n / 10 / 100 ≡ n / 1000 = omega arith in
    let g : n / 10 / 1000 ≡ n / 10000 = omega arith in
    let h : n / 10 / 10000 ≡ n / 100000 = omega arith in
    decimal_step n (omega arith) (omega arith)
    ∙ ap (λ (l : List ℕ). l ++ ((48 + n % 10) ∷ [])) (five (n / 10) (omega arith) (omega arith))
    ∙ cc

-- the places one by one
cells_from : (n a b c d e : ℕ) → place 100000 n ≡ a → place 10000 n ≡ b → place 1000 n ≡ c → place 100 n ≡ d → place 10 n ≡ e
    → cells n ≡ a ∷ b ∷ c ∷ d ∷ e ∷ (48 + n % 10) ∷ []
cells_from n a b c d e p q r s t = cc

justified_by : List ℕ → List ℕ
justified_by l = replicate (6 - length l) 32 ++ l

pub cells_wide : (n : ℕ) → n < 1000000 → cells n ≡ wide n
unfolding justified_by
cells_wide n high =
    ⊎_elim (λ h. cells_from n 32 32 32 32 32 (spaced _ n _ (omega arith)) (spaced _ n _ (omega arith)) (spaced _ n _ (omega arith)) (spaced _ n _ (omega arith)) (spaced _ n _ h) ∙ sym (ap justified_by (one n h)))
    (λ h1. ⊎_elim (λ h. cells_from n 32 32 32 32 _ (spaced _ n _ (omega arith)) (spaced _ n _ (omega arith)) (spaced _ n _ (omega arith)) (spaced _ n _ h) (shows 10 n _ h1) ∙ sym (ap justified_by (two n h1 h)))
    (λ h2. ⊎_elim (λ h. cells_from n 32 32 32 _ _ (spaced _ n _ (omega arith)) (spaced _ n _ (omega arith)) (spaced _ n _ h) (shows 100 n _ h2) (shows 10 n _ h1) ∙ sym (ap justified_by (three n h2 h)))
    (λ h3. ⊎_elim (λ h. cells_from n 32 32 _ _ _ (spaced _ n _ (omega arith)) (spaced _ n _ h) (shows 1000 n _ h3) (shows 100 n _ h2) (shows 10 n _ h1) ∙ sym (ap justified_by (four n h3 h)))
    (λ h4. ⊎_elim (λ h. cells_from n 32 _ _ _ _ (spaced _ n _ h) (shows 10000 n _ h4) (shows 1000 n _ h3) (shows 100 n _ h2) (shows 10 n _ h1) ∙ sym (ap justified_by (five n h4 h)))
    (λ h5. cells_from n _ _ _ _ _ (shows 100000 n _ h5) (shows 10000 n _ h4) (shows 1000 n _ h3) (shows 100 n _ h2) (shows 10 n _ h1) ∙ sym (ap justified_by (six n h5 high)))
    (cases_lt n 100000)) (cases_lt n 10000)) (cases_lt n 1000)) (cases_lt n 100)) (cases_lt n 10)

-- the last digit but those that stand behind already
step : (n k j : ℕ) (ds : List ℕ) → decimal n ≡ decimal k ++ ds → 10 ≤ k → k < 2 ^ 64 → j ≡ k / 10 → decimal n ≡ decimal j ++ ((48 + k % 10) ∷ ds)
step n k j ds e low high h =
    e ∙ ap (λ (l : List ℕ). l ++ ds) (decimal_step k low high) ∙ append_assoc (decimal (k / 10)) ((48 + k % 10) ∷ []) ds
    ∙ ap (λ (m : ℕ). decimal m ++ ((48 + k % 10) ∷ ds)) (sym h)

last_six : (n : ℕ) → 1000000 ≤ n → n < 2 ^ 64 → decimal n ≡ decimal (n / 1000000) ++ cells n
last_six n low high =
    let a = step n n (n / 10) [] (sym (append-nil (decimal n))) (omega arith) high refl in
    let b = step n (n / 10) (n / 100) _ a (omega arith) (omega arith) (omega arith) in
    let c = step n (n / 100) (n / 1000) _ b (omega arith) (omega arith) (omega arith) in
    let d = step n (n / 1000) (n / 10000) _ c (omega arith) (omega arith) (omega arith) in
    let e = step n (n / 10000) (n / 100000) _ d (omega arith) (omega arith) (omega arith) in
    let f = step n (n / 100000) (n / 1000000) _ e (omega arith) (omega arith) (omega arith) in
    f ∙ ap (λ (l : List ℕ). decimal (n / 1000000) ++ l)
    (sym (cells_from n _ _ _ _ _ (shows 100000 n _ (omega arith)) (shows 10000 n _ (omega arith)) (shows 1000 n _ (omega arith)) (shows 100 n _ (omega arith)) (shows 10 n _ (omega arith))))

-- the last six digits of a long number
cut : (l front back : List ℕ) → l ≡ front ++ back → length back ≡ 6 → replicate (6 - length l) 32 ++ drop (length l - 6) l ≡ back
cut l front back e six =
    let long : length l ≡ length front + 6 = ap length e ∙ length-append front back ∙ ap (λ (n : ℕ). length front + n) six in
    let none : 6 - length l ≡ 0 = omega arith in
    let rest : length l - 6 ≡ length front = omega arith in
    ap (λ (n : ℕ). replicate n 32 ++ drop (length l - 6) l) none ∙ ap (λ (n : ℕ). drop n l) rest ∙ ap (drop (length front)) e ∙ drop_at front back (length front) refl

-- and of one that has no more
whole : (l : List ℕ) → length l ≤ 6 → replicate (6 - length l) 32 ++ drop (length l - 6) l ≡ justified_by l
unfolding justified_by
whole l short = let none : length l - 6 ≡ 0 = omega arith in ap (λ (n : ℕ). replicate (6 - length l) 32 ++ drop n l) none

pub cells_justified : (n : ℕ) → n < 2 ^ 64 → justified 6 n ≡ cells n
unfolding justified_by
cells_justified n high =
    ⊎_elim (λ h. whole (decimal n) (length-decimal-le 6 n (omega arith) h high) ∙ sym (cells_wide n h))
    (λ h. cut (decimal n) (decimal (n / 1000000)) (cells n) (last_six n h high) refl) (cases_lt n 1000000)
