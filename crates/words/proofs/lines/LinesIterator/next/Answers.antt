use Rattle.std.proofs.Common.{◌≡◌, ◌<◌, [], ◌∷◌, length, take, drop, not, Bor, List, ℕ, Option, Some, None, sym, refl, ap, ◌∙◌, ⊎_elim, false-eqb, arith}
use Rattle.std.specs.Slice.{IsGetRangeResult}
use Rattle.std.specs.List.{position_or_len}
use Rattle.std.specs.Option.{unwrap_or}
use Rattle.std.proofs.lemmas.List.{take_rest}
use Rattle.std.proofs.lemmas.List.Sums.{prefix_len-le-length}
use Rattle.words.specs.Lines.{lines}
use Rattle.words.specs.Rest.{lines_left}
use Rattle.words.proofs.Cutting.{line_end, first_line}
use Rattle.words.proofs.lines.LinesIterator.next.Goals as goal

none_after : (l : List ℕ) → length l < 1 → l ≡ drop 1 l
none_after [] h = refl
none_after (b ∷ l) h = absurd (omega arith)

-- what stands after the end of a line
after_end : (on : Bor (List ℕ)) (o : Option (Bor (List ℕ))) → IsGetRangeResult on.now 1 (length on.now) o → (unwrap_or o on).now ≡ drop 1 on.now
after_end on None h = none_after on.now (⊎_elim (λ lt. lt) (λ lt. omega arith) h.0)
after_end on (Some x) h = h.0.2 ∙ take_rest on.now 1

cut : (c : goal.After-self-1) → lines_left c.args.self.now ≡ c.split_at.result.0.now ∷ lines_left (record { rest = c.unwrap_or-self.result })
cut c =
    let s = c.args.self.now.rest.now in
    let n : c.length_before-length.result ≡ position_or_len line_end s = c.length_before-length.ensures in
    let front : take (position_or_len line_end s) s ≡ c.split_at.result.0.now = ap (λ k. take k s) (sym n) ∙ sym c.split_at.ensures.front in
    let back : drop 1 (drop (position_or_len line_end s) s) ≡ c.unwrap_or-self.result.now =
    ap (λ k. drop 1 (drop k s)) (sym n) ∙ ap (drop 1) (sym c.split_at.ensures.back) ∙ sym (after_end c.split_at.result.1 c.get.result c.get.ensures.lookup) ∙ ap (λ b. b.now) (sym c.unwrap_or-self.ensures) in
    first_line [] s (omega (arith, false-eqb _ _ c.if-is_empty.ensures)) ∙ (λ i. front i ∷ lines (back i))

pub split_at-requires : goal.split_at-requires
split_at-requires c = omega (arith, c.length_before-length.ensures, prefix_len-le-length (λ b. not (line_end b)) c.args.self.now.rest.now)

pub returns-clause-steps : goal.returns-clause-steps
returns-clause-steps c = cut c

pub returns-clause-goes : goal.returns-clause-goes
returns-clause-goes c = let e = ap length (cut c) in record { on = λ _. (tt, tt, omega arith); keeps = tt; rests = λ _. tt }
