-- Plans: sources, and layers over plans, of any shape.
use Rattle.std.specs.Prelude.{◌≡◌, ℕ, List, None}
use Rattle.relation.specs.declared.conditions.Condition.{Condition}
use Rattle.relation.specs.Sets.{TupleSet, Same}
use Rattle.relation.specs.Operations as ordinary
use Rattle.source.specs.Meaning.{Meaning, Sound, day_set}
use Rattle.layers.specs.Selects.{selected, no_select}
use Rattle.layers.specs.Projects.{projected, no_project}
use Rattle.layers.specs.Windows.{windowed, no_window}
use Rattle.layers.specs.Unions.{united, no_union}
use Rattle.join.specs.Joins.{joined_of, no_join}
use Rattle.except.specs.Excepts.{excepted, no_except}

pub data Plan : Type 0 where
  source : Meaning → Plan
  select : Condition → Plan → Plan
  project : List ℕ → Plan → Plan
  window : ℕ → ℕ → Plan → Plan
  union : Plan → Plan → Plan
  join : List (ℕ × ℕ) → Plan → Plan → Plan
  except : Plan → Plan → Plan

-- what the plan means, each layer over the meanings below it
abbrev pub meant : Plan → Meaning
meant (source m) = m
meant (select q p) = selected (meant p) q
meant (project cs p) = projected (meant p) cs
meant (window first end p) = windowed (meant p) first end
meant (union p r) = united (meant p) (meant r)
meant (join ps p r) = joined_of ps (meant p) (meant r)
meant (except p r) = excepted (meant p) (meant r)

-- its sources keep their bounds, and no layer was refused
abbrev pub Accepted : Plan → Type 0
Accepted (source m) = Sound m
Accepted (select q p) = Accepted p × (no_select (meant p) q ≡ None)
Accepted (project cs p) = Accepted p × (no_project (meant p) cs ≡ None)
Accepted (window first end p) = Accepted p × (no_window first end ≡ None)
Accepted (union p r) = Accepted p × Accepted r × (no_union (meant p) (meant r) ≡ None)
Accepted (join ps p r) = Accepted p × Accepted r × (no_join ps (meant p) (meant r) ≡ None)
Accepted (except p r) = Accepted p × Accepted r × (no_except (meant p) (meant r) ≡ None)

-- what the ordinary operations give on day d, layer by layer, from the sets of its sources
abbrev pub given : Plan → ℕ → TupleSet
given (source m) d = day_set m d
given (select q p) d = ordinary.select q (given p d)
given (project cs p) d = ordinary.project cs (given p d)
given (window first end p) d = ordinary.window first end d (given p d)
given (union p r) d = ordinary.union (given p d) (given r d)
given (join ps p r) d = ordinary.join ps (given p d) (given r d)
given (except p r) d = ordinary.except (given p d) (given r d)

-- an accepted plan is again a source, and on each day its set is what the ordinary operations give
pub record Law (p : Plan) : Type 0 where
  pub sound : Sound (meant p)
  pub sets : (d : ℕ) → Same (day_set (meant p) d) (given p d)

abbrev pub LawOfPlans : Type 0
LawOfPlans = (p : Plan) → Accepted p → Law p
