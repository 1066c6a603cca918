-- The steps of tallying a list put together: the rows are gathered, tallied, moved to the front and listed.
use Rattle.std.proofs.Common.{◌≡◌, ℕ, ◌+◌, ◌-◌, ◌<◌, ◌≤◌, List, ◌++◌, map, length, get_or, take, sym, ap, ◌∙◌, subst, arith}
use Rattle.std.specs.List.{AllByRecursion as AllOf}
use Rattle.std.proofs.lemmas.List.{ext_get_or, get_or-take, get_or-append_right, length-append, length-take-le}
use Rattle.relation.specs.declared.rows.Row.{Row}
use Rattle.relation.specs.Bounds.{most_columns}
use Rattle.relation.specs.Sets.{TupleSet, Same}
use Rattle.relation.specs.Rows.{SpecRow, Day, on, Lists}
use Rattle.relation.specs.Stored.{meant, stored}
use Rattle.tree.specs.declared.Node.{Node}
use Rattle.collect.specs.Areas.{no_row, Tidy}
use Rattle.collect.specs.Collects.{HoldsList}
use Rattle.tallies.specs.declared.rules.Tally.{Tally}
use Rattle.tallies.specs.Tallies.{tally, Disjoint}
use Rattle.tallies.proofs.RowsTallied.{disjoint_from_coalesced}
use Rattle.tally.specs.Gathered.{gathered, Together}
use Rattle.tally.specs.Results.{Narrow, Results}
use Rattle.tally.proofs.Gathering.{gathered_together, all_gathered, regrouped, gathered_stored, disjoint_regrouped, same_regrouped}
use Rattle.tally.proofs.DaySets.{made_tidy, same_sets}

-- the canonical list of some sets is that of sets with the same members
pub holds_for : (f g : ℕ → TupleSet) → ((d : ℕ) → Day d → Same (f d) (g d)) → (wide long n : ℕ) (rows : List Row) (index : List Node) → HoldsList f wide long n rows index → HoldsList g wide long n rows index
holds_for f g same wide long n rows index h = record {
  list = h.list;
  lists = record {
    canonical = h.lists.canonical;
    sets = λ d day t. ((λ m. (same d day t).0 ((h.lists.sets d day t).0 m)), λ m. (h.lists.sets d day t).1 ((same d day t).1 m));
  };
  count = h.count;
  rows_are = h.rows_are;
  index_are = h.index_are;
}

-- ---- the rows gathered

module _ (by : List ℕ) (rows back : List Row) (is : back ≡ gathered by rows) where
  pub back_together : length by < most_columns → Together by back
  back_together few = subst (Together by) (sym is) (gathered_together by rows (omega arith))

  pub all_back : (P : Row → Type 0) → AllOf P rows → AllOf P back
  all_back P all = subst (AllOf P) (sym is) (all_gathered by rows P all)

  -- ---- the results of the gathered rows

  module _ (xs : List SpecRow) (f : ℕ → TupleSet) (from : rows ≡ map stored xs) (lists : Lists xs f) (w : Tally) (narrow : Narrow w) (columns : AllOf (λ c. c ≤ most_columns) by) (few : length by < most_columns)
      (made : List Row) (results : Results w by back made) where
    disjoint : Disjoint (regrouped by xs)
    disjoint = disjoint_regrouped by xs (disjoint_from_coalesced xs lists.canonical.coalesced)

    same : (d : ℕ) → Day d → Same (on (regrouped by xs) d) (f d)
    same d day t = ((λ m. (lists.sets d day t).0 ((same_regrouped by xs d t).0 m)), λ m. (same_regrouped by xs d t).1 ((lists.sets d day t).1 m))

    of_stored : Results w by (map stored (regrouped by xs)) made
    of_stored = subst (λ ws. Results w by ws made) (is ∙ ap (gathered by) from ∙ gathered_stored by xs) results

    pub result_sets : (d : ℕ) → Day d → Same (on (map (meant (length by + 1)) made) d) (tally w by (f d))
    result_sets = same_sets w narrow by columns few (regrouped by xs) disjoint made of_stored f same

    pub result_tidy : AllOf (Tidy (length by + 1)) made
    result_tidy = made_tidy w narrow by columns few (regrouped by xs) disjoint made of_stored

-- ---- the results moved to the front

pub moved : (back out after : List Row) (n made : ℕ) → length back ≡ n → made ≤ length out → length after ≡ length (back ++ out) → ((k : ℕ) (d : Row) → 0 ≤ k → k < 0 + (n + made - n) → get_or after k d ≡ get_or (back ++ out) (n + (k - 0)) d) → take made after ≡ take made out
moved back out after n made size room long at =
    let front : length (take made after) ≡ made = length-take-le made after (omega (arith, length-append back out)) in
    let part : length (take made out) ≡ made = length-take-le made out room in
    ext_get_or no_row (take made after) (take made out) (front ∙ sym part)
    (λ i lt.
    let l : i < made = omega arith in
    let whole : n + (i - 0) ≡ n + i = omega arith in
    let behind : n + i - n ≡ i = omega arith in
    get_or-take made after i no_row l
    ∙ at i no_row (omega arith) (omega arith)
    ∙ ap (λ k. get_or (back ++ out) k no_row) whole
    ∙ get_or-append_right back out n (n + i) no_row size (omega arith)
    ∙ ap (λ k. get_or out k no_row) behind
    ∙ sym (get_or-take made out i no_row l))
