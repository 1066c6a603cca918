use Rattle.std.proofs.Common.{◌≡◌, ℕ, ◌+◌, ◌-◌, [], ◌∷◌, List, Bor, length, take, drop, not, Some, sym, refl, ap, ◌∙◌, arith}
use Rattle.std.specs.List.{position, position_or_len}
use Rattle.std.specs.Slice.{IsGetRangeResult}
use Rattle.std.proofs.lemmas.List.{length-take-le, take_rest, drop_all}
use Rattle.std.proofs.lemmas.List.Sums.{prefix_len-le-length}
use Rattle.words.specs.Words.{left, words_from}
use Rattle.words.proofs.Cutting.{space, other, no_word, next_word}
use Rattle.words.proofs.reader.WordsIterator.next.Goals as goal

-- what is not read yet
ahead_is : (line : List ℕ) (at : ℕ) (ahead : Bor (List ℕ)) → IsGetRangeResult line at (length line) (Some ahead) → ahead.now ≡ drop at line
ahead_is line at ahead h = h.0.2 ∙ take_rest line at

-- no word is left, and the reader goes to the end
pub returns-in_default-clause-steps : goal.returns-in_default-clause-steps
returns-in_default-clause-steps c =
    let s = c.args.self.now in
    let ahead = ahead_is s.line.now s.at c.in_ok-ahead.ahead c.in_ok-ahead.ensures.lookup in
    let none = no_word s.at (drop s.at s.line.now) (c.in_default.ensures ∙ ap (position other) ahead) in
    let end : left s.line.now (length s.line.now) ≡ [] = ap (words_from (length s.line.now) []) (drop_all (length s.line.now) s.line.now (omega arith)) in
    (refl, (none, end))

pub returns-clause-steps : goal.returns-clause-steps
returns-clause-steps c =
    let s = c.args.self.now in
    let line = s.line.now in
    let p = s.at in
    let k = c.in-Some.spaces in
    let n = c.length_before.result in
    let ws = drop (p + k) line in
    let ahead = ahead_is line p c.in_ok-ahead.ahead c.in_ok-ahead.ensures.lookup in
    let same : take (length line - (p + k)) ws ≡ ws = take_rest line (p + k) in
    let at : n ≡ position_or_len space ws = c.length_before.ensures ∙ ap (position_or_len space) same in
    let le = prefix_len-le-length (λ x. not (space x)) ws in
    let m : n ≡ length (take n ws) = sym (length-take-le n ws (omega arith)) in (
      refl,
      next_word line p k n (sym c.in-Some.is ∙ c.leading_spaces.ensures ∙ ap (position other) ahead) at
          ∙ ap (λ j. (p + k, take n ws) ∷ left line (p + k + j)) m
          ∙ ap (λ l. (p + k, take n l) ∷ left line (p + k + length (take n l))) (sym same),
    )

pub returns-clause-goes : goal.returns-clause-goes
returns-clause-goes c = let e = ap length (returns-clause-steps c).1 in record { on = λ _. (tt, tt, omega arith); keeps = tt; rests = λ _. tt }
