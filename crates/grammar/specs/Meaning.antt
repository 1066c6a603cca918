-- What a line says, with the names and numbers themselves in the place of parts of the script.
use Rattle.std.specs.Prelude.{ℕ, List, ℤ}
use Rattle.relation.specs.declared.kinds.Kind.{Kind}
use Rattle.relation.specs.declared.conditions.Condition.{Condition}
use Rattle.tallies.specs.declared.rules.Tally.{Tally}
use Rattle.takers.specs.Take.{Text, Val}

-- a relation, whole or during the days from one number up to another
pub data Operand : Type 0 where
  whole : Text → Operand
  part : Text → ℤ → ℤ → Operand

-- columns count from 1
pub data Query : Type 0 where
  select : Operand → Condition → Query
  project : Operand → List ℕ → Query
  union : Operand → Operand → Query
  except : Operand → Operand → Query
  join : Operand → Operand → List (ℕ × ℕ) → Query
  tally : Tally → Operand → List ℕ → Query

pub data Line : Type 0 where
  skip : Line
  load : Text → List Kind → Line
  row : ℤ → ℤ → List Val → Line
  end : Line
  drop : Text → Line
  show : Text → Line
  query : Text → Query → Line
