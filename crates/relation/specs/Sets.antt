-- Tuples, their order, and sets of tuples. A set is a list of which only the members count, not their order or number.
use Rattle.std.specs.Prelude.{◌≡◌, ℕ, ◌-◌, Bool, false, ◌||◌, ◌↔◌, List, [], ◌∷◌, ℤ, pos, slice_index_or}
use Rattle.std.specs.declared.cmp.Ordering.TheVariants.{Less}
use Rattle.std.specs.Ordering.{is_eq, int_cmp}
use Rattle.std.specs.Cmp.Lexicographic.{slice_cmp}
use Rattle.relation.specs.Lists.{Member}

abbrev pub Tuple : Type 0
Tuple = List ℤ

-- the value of column c; columns count from 1
abbrev pub column : ℕ → Tuple → ℤ
column c t = slice_index_or t (c - 1) (pos 0)

-- ordered by the first column that differs
abbrev pub Below : Tuple → Tuple → Type 0
Below s t = slice_cmp int_cmp s t ≡ Less

abbrev pub equal : Tuple → Tuple → Bool
equal s t = is_eq (slice_cmp int_cmp s t)

abbrev pub TupleSet : Type 0
TupleSet = List Tuple

-- the same tuples are in both
abbrev pub Same : TupleSet → TupleSet → Type 0
Same S U = (t : Tuple) → Member S t ↔ Member U t

abbrev pub has : TupleSet → Tuple → Bool
has [] t = false
has (s ∷ S) t = equal s t || has S t
