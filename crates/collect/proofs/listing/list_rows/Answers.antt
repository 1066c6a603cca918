use Rattle.std.proofs.Common.{◌≡◌, ℕ, ◌<◌, ◌≤◌, ◌++◌, map, length, get_or, take, drop, replicate, sym, ◌∙◌, subst, ap₂, arith}
use Rattle.std.specs.List.{AllByRecursion as AllOf}
use Rattle.std.proofs.ByRecursion.{All-get_or, All-from_get_or}
use Rattle.std.proofs.lemmas.List.{get_or-take, length-append, length-drop, length-take-le}
use Rattle.relation.specs.Rows.{Period, on, Lists}
use Rattle.collect.specs.Areas.{no_row, bare, Rises}
use Rattle.collect.specs.Keys.{key_of, listing}
use Rattle.collect.proofs.Arranged.{all_sorted}
use Rattle.collect.proofs.Listed.{rows_rise}
use Rattle.collect.proofs.Relisted.{holds_list, blank_behind}
use Rattle.collect.proofs.listing.list_rows.Goals as goal

pub coalesce-kept-requires : goal.coalesce-kept-requires
coalesce-kept-requires c =
    let n = c.args.n in
    let lent = take n c.args.rows.now in
    let long : length lent ≡ n = length-take-le n c.args.rows.now c.requires.wide in
    let periods : AllOf (λ w. Period (bare w)) lent =
    All-from_get_or (λ w. Period (bare w)) lent no_row (λ i lt. subst (λ w. Period (bare w)) (sym (get_or-take n c.args.rows.now i no_row (omega arith))) (c.requires.periods i (omega arith))) in
    record {
      sorted = λ i j l lt. subst (λ ws. Rises (get_or ws i no_row) (get_or ws j no_row)) (sym c.sort.ensures) (rows_rise lent i j l (omega (arith, c.sort.auto.rows)));
      periods = λ i lt. All-get_or (λ w. Period (bare w)) c.sort.new.rows i no_row lt (subst (AllOf (λ w. Period (bare w))) (sym c.sort.ensures) (all_sorted listing key_of lent (λ w. Period (bare w)) periods));
    }

pub returns : goal.returns
returns c k few neat =
    let n = c.args.n in
    let rows = c.args.rows.now in
    let lent = take n rows in
    let left = c.coalesce-kept.new.rows in
    let r = c.coalesce-kept.result in
    let e = c.coalesce-kept.ensures in
    let room : r ≤ length left = omega (arith, e.few, c.coalesce-kept.auto.rows) in
    let all : length rows ≡ length (left ++ drop n rows) = omega (arith, length-append left (drop n rows), length-drop n rows, c.coalesce-kept.auto.rows, c.sort.auto.rows, length-take-le n rows c.requires.wide) in
    let drawn = subst (λ ws. (j : ℕ) → j < r → (i : ℕ) × ((i < length ws) × ((get_or left j no_row).values ≡ (get_or ws i no_row).values))) c.sort.ensures e.drawn in
    let lists = subst (λ ws. Lists (map bare (take r left)) (on (map bare ws))) c.sort.ensures e.lists in
    holds_list k few lent neat left r room drawn lists (length rows) (length c.args.index.now) _ _ (blank_behind left (drop n rows) c.fill.new.self r (length rows) room all (c.fill.ensures.after (λ y h. h) ∙ ap₂ (λ k b. replicate k b) (omega (arith, all, length-drop r (left ++ drop n rows))) c.blank.ensures)) (c.fill-2.ensures.after (λ y h. h) ∙ ap₂ (λ k b. replicate k b) c.sort.auto.nodes c.blank-2.ensures)
