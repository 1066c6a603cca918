-- What tallying a source leaves and answers.
use Rattle.std.specs.List.{list_all}
use Rattle.std.specs.Prelude.{◌≡◌, ℕ, ◌*◌, Bool, true, false, cond, not, ◌&&◌, ◌⊎◌, List, length, take, drop, replicate, is_some, Some, None, Ok, Err, Option, Result, nat_le, nat_lt}
use Rattle.relation.specs.declared.kinds.Kind.{Kind}
use Rattle.relation.specs.declared.kinds.Kind.TheVariants.{Number, Word}
use Rattle.relation.specs.declared.refusals.Reason.{Reason}
use Rattle.relation.specs.declared.refusals.Reason.TheVariants.{Misfit, ShortWork, SumOutside}
use Rattle.relation.specs.declared.refusals.Refusal.{Refusal}
use Rattle.relation.specs.declared.rows.Row.{Row}
use Rattle.relation.specs.Bounds.{most_columns}
use Rattle.relation.specs.Refusals.{plain, plain?}
use Rattle.relation.specs.Sets.{TupleSet}
use Rattle.relation.specs.Stored.{blank_row}
use Rattle.source.specs.Meaning.{Meaning, kind_of, rows_of}
use Rattle.tree.specs.declared.Node.{Node}
use Rattle.tree.specs.Trees.{blank}
use Rattle.collect.specs.Collects.{counted, HoldsList, LeavesList}
use Rattle.tallies.specs.declared.rules.Tally.{Tally}
use Rattle.tallies.specs.declared.rules.Tally.TheVariants.{Count, Sum, Min, Max}
use Rattle.tallies.specs.Tallies.{tally, Exceeds}

abbrev pub is_number : Option Kind → Bool
is_number None = false
is_number (Some Number) = true
is_number (Some Word) = false

-- the column that a tally is of is there, and is of kind n where it is summed
abbrev pub measurable : Meaning → Tally → Bool
measurable m Count = true
measurable m (Sum c) = is_number (kind_of m c)
measurable m (Min c) = is_some (kind_of m c)
measurable m (Max c) = is_some (kind_of m c)

-- few enough grouping columns, each of them there, and the tally's column as well
abbrev pub fitting : Meaning → Tally → List ℕ → Bool
fitting m w by = nat_lt (length by) most_columns && (list_all (λ c. is_some (kind_of m c)) by && measurable m w)

-- both areas have three entries for each filled place
abbrev pub roomy : Meaning → List Row → List Node → Bool
roomy m rows index = nat_le (3 * length (rows_of m)) (counted rows) && nat_le (3 * length (rows_of m)) (counted index)

-- the reason why a source is not tallied, but for the sums
abbrev pub no_tally : Meaning → Tally → List ℕ → List Row → List Node → Option Reason
no_tally m w by rows index = cond (not (fitting m w by)) (Some Misfit) (cond (not (roomy m rows index)) (Some ShortWork) None)

-- on some day a group's sum lies outside kind n
abbrev pub Outside : Tally → List ℕ → (ℕ → TupleSet) → Type 0
Outside Count by f = ⊥
Outside (Sum c) by f = Exceeds c by f
Outside (Min c) by f = ⊥
Outside (Max c) by f = ⊥

-- what counts of both areas is blank, and what lies past it is untouched
pub record LeavesBlank (rows : List Row) (index : List Node) (rows' : List Row) (index' : List Node) : Type 0 where
  pub rows_blank : take (counted rows) rows' ≡ replicate (counted rows) blank_row
  pub index_blank : take (counted index) index' ≡ replicate (counted index) blank
  pub rows_rest : drop (counted rows) rows' ≡ drop (counted rows) rows
  pub index_rest : drop (counted index) index' ≡ drop (counted index) index

-- a call that leaves the canonical list of the tallies of the sets f; or is refused for the reason q and changes nothing; or finds that
-- a sum lies outside kind n and leaves both areas blank
abbrev pub Tallies : Option Reason → Tally → List ℕ → (ℕ → TupleSet) → List Row → List Node → Result ℕ Refusal → List Row → List Node → Type 0
Tallies q w by f rows index (Ok n) rows' index' = (q ≡ None) × (Outside w by f → ⊥) × LeavesList (λ d. tally w by (f d)) rows index n rows' index'
Tallies q w by f rows index (Err e) rows' index' = ((plain? q ≡ Some e) × (rows' ≡ rows) × (index' ≡ index)) ⊎ ((q ≡ None) × Outside w by f × (e ≡ plain SumOutside) × LeavesBlank rows index rows' index')

-- the same where nothing is refused but for a sum, in areas that count whole
abbrev pub TalliesSets : Tally → List ℕ → (ℕ → TupleSet) → ℕ → ℕ → Result ℕ Refusal → List Row → List Node → Type 0
TalliesSets w by f wide long (Ok n) rows index = (Outside w by f → ⊥) × HoldsList (λ d. tally w by (f d)) wide long n rows index
TalliesSets w by f wide long (Err e) rows index = Outside w by f × (e ≡ plain SumOutside) × (rows ≡ replicate wide blank_row) × (index ≡ replicate long blank)
