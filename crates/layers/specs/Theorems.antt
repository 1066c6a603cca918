-- The theorems on the day sets of the layers. Each is the contract of a function of src/theorems.rt.
use Rattle.std.specs.Prelude.{ℕ, List}
use Rattle.relation.specs.declared.conditions.Condition.{Condition}
use Rattle.source.specs.Meaning.{Meaning}
use Rattle.layers.specs.Selects.{Selects}
use Rattle.layers.specs.Projects.{Projects}
use Rattle.layers.specs.Windows.{Windows}
use Rattle.layers.specs.Unions.{Unites}

-- on every day a select's set is the selection from the set below
abbrev pub Selection : Type 0
Selection = (m : Meaning) (q : Condition) → Selects m q

-- on every day a project's set is the projection of the set below
abbrev pub Projection : Type 0
Projection = (m : Meaning) (cs : List ℕ) → Projects m cs

-- on every day a window's set is the set below if its period holds the day, else empty
abbrev pub Restriction : Type 0
Restriction = (m : Meaning) (first end : ℕ) → Windows m first end

-- on every day a union's set is the union of the two sets below
abbrev pub Union : Type 0
Union = (a b : Meaning) → Unites a b
