-- The stretches between two cuts, as rows.
use Rattle.std.specs.Prelude.{ℕ, cond, ◌&&◌, List, [], ◌∷◌, pos, int_lt, nat_lt}
use Rattle.relation.specs.declared.rows.Row.{Row}
use Rattle.cuts.specs.Amounts.{value}
use Rattle.cuts.specs.Groups.{tuple_by}

-- from one cut to the next
abbrev pub stretch_by : Row → List ℕ → Row → Row → Row
stretch_by group by c next = record { first = c.first; end = next.first; values = tuple_by group by (value 1 c) }

-- the stretches that have a day and that some row holds
abbrev pub stretches_by : Row → List ℕ → List Row → List Row
stretches_by group by [] = []
stretches_by group by (c ∷ []) = []
stretches_by group by (c ∷ next ∷ cs) = cond (int_lt (pos 0) (value 0 c) && nat_lt c.first next.first) (stretch_by group by c next ∷ stretches_by group by (next ∷ cs)) (stretches_by group by (next ∷ cs))
