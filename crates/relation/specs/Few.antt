-- What a short list holds.
use Rattle.std.specs.Prelude.{ℕ, List, take}
use Rattle.relation.specs.declared.few.Few.{Few}

-- the elements in their order
abbrev pub items : {X : Type 0} {n : ℕ} → Few X n → List X
items f = take f.len f.at
