use Rattle.std.proofs.Common.{◌≡◌, ◌≤◌, inl, inr, length, ap, sym, ◌∙◌, rules, arith}
use Rattle.std.specs.Char.{is_ascii_whitespace}
use Rattle.std.proofs.lemmas.Str.Ascii.{trim_ascii_start_is}
use Rattle.std.specs.List.{prefix_len}
use Rattle.std.proofs.lemmas.List.{length-drop}
use Rattle.console.proofs.Cutting.{few_words, word_taken}
use Rattle.console.specs.Lines.{words}
use Rattle.console.proofs.words.Words.next_word.Goals as goal

-- what is left after the white space in front is no longer
trimmed : (c : goal.After-then_some) → length c.trim_ascii_start-line.result.now ≤ 65536
trimmed c =
    let is = trim_ascii_start_is _ _ c.trim_ascii_start-line.ensures.value in
    let long = ap length is ∙ length-drop (prefix_len is_ascii_whitespace c.self.inside.rest.now) c.self.inside.rest.now in
    let inside = c.self.invariant in
    omega (arith, long, inside)

pub returns-clause-value : goal.returns-clause-value
returns-clause-value c =
    let t =
    word_taken is_ascii_whitespace c.self.inside.rest.now c.trim_ascii_start-line.result.now c.split_at.result.0.now c.split_at.result.1.now c.word_end.result
    (trim_ascii_start_is _ _ c.trim_ascii_start-line.ensures.value) c.word_end.ensures.value c.split_at.ensures.front c.split_at.ensures.back in
    elim t [ inl (z, e, r) ↦ search rules | inr (z, e) ↦ search rules ]

pub returns-clause-few : goal.returns-clause-few
returns-clause-few c =
    let few = few_words is_ascii_whitespace c.self.inside.rest.now in
    let inside = c.self.invariant in
    let here : length c.args.self.now ≡ length (words c.self.inside.rest.now) = ap length (sym c.self.view_is) in
    omega (arith, few, inside, here)

pub returns-clause-short : goal.returns-clause-short
returns-clause-short c =
    let t = trimmed c in
    let f = c.split_at.ensures.front_len in
    let b = c.split_at.ensures.back_len in
    let short : length c.split_at.result.0.now ≤ 65536 = omega (arith, t, f, b) in
    search rules

pub invariant_of-self : goal.invariant_of-self
invariant_of-self c = let t = trimmed c in let b = c.split_at.ensures.back_len in omega (arith, t, b)
