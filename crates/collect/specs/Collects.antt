-- What collecting leaves and answers.
use Rattle.std.specs.Prelude.{◌≡◌, ℕ, ◌-◌, min, cond, ◌&&◌, List, ◌++◌, map, length, take, drop, replicate, Some, None, Ok, Err, Option, Result, nat_le}
use Rattle.relation.specs.declared.refusals.Reason.{Reason}
use Rattle.relation.specs.declared.refusals.Reason.TheVariants.{ShortWork}
use Rattle.relation.specs.declared.refusals.Refusal.{Refusal}
use Rattle.relation.specs.declared.rows.Row.{Row}
use Rattle.relation.specs.Bounds.{most_work}
use Rattle.relation.specs.Refusals.{plain?}
use Rattle.relation.specs.Sets.{TupleSet}
use Rattle.relation.specs.Rows.{SpecRow, Lists}
use Rattle.relation.specs.Stored.{stored, blank_row}
use Rattle.relation.specs.declared.kinds.Kind.{Kind}
use Rattle.source.specs.Tables.{table, no_table}
use Rattle.source.specs.Meaning.{Meaning, rows_of}
use Rattle.tree.specs.declared.Node.{Node}
use Rattle.tree.specs.Trees.{blank}

-- of a work area only the first entries count
abbrev pub counted : {X : Type 0} → List X → ℕ
counted area = min (length area) most_work

-- the reason why a source is not collected: a work area has fewer entries than the source has filled places
abbrev pub no_collect : Meaning → List Row → List Node → Option Reason
no_collect m rows index = cond (nat_le (length (rows_of m)) (counted rows) && nat_le (length (rows_of m)) (counted index)) None (Some ShortWork)

-- the canonical list of the sets f, of n rows, stands at the start of as many rows as `wide` says, the others and `long` index entries are blank
pub record HoldsList (f : ℕ → TupleSet) (wide long n : ℕ) (rows : List Row) (index : List Node) : Type 0 where
  pub list : List SpecRow
  pub lists : Lists list f
  pub count : n ≡ length list
  pub rows_are : rows ≡ map stored list ++ replicate (wide - length list) blank_row
  pub index_are : index ≡ replicate long blank

-- the same in the part of two areas that counts, and what lies past it is untouched
pub record LeavesList (f : ℕ → TupleSet) (rows : List Row) (index : List Node) (n : ℕ) (rows' : List Row) (index' : List Node) : Type 0 where
  pub part : HoldsList f (counted rows) (counted index) n (take (counted rows) rows') (take (counted index) index')
  pub rows_rest : drop (counted rows) rows' ≡ drop (counted rows) rows
  pub index_rest : drop (counted index) index' ≡ drop (counted index) index

-- a call that leaves the canonical list of the sets f, or is refused for the reason q and changes nothing
abbrev pub Collects : Option Reason → (ℕ → TupleSet) → List Row → List Node → Result ℕ Refusal → List Row → List Node → Type 0
Collects q f rows index (Ok n) rows' index' = (q ≡ None) × LeavesList f rows index n rows' index'
Collects q f rows index (Err e) rows' index' = (plain? q ≡ Some e) × (rows' ≡ rows) × (index' ≡ index)

-- the first of two reasons, tested one after the other
abbrev pub first_of : Option Reason → Option Reason → Option Reason
first_of None q = q
first_of (Some o) q = Some o

-- the reason why rows of some kinds are not collected: they are no table, or a work area is too short
abbrev pub no_list : List Row → List Kind → List Row → List Node → Option Reason
no_list rows kinds work index = first_of (no_table rows kinds) (no_collect (table rows 0 (length rows) kinds) work index)
