-- What a project means: the rows below with some of their columns, in any order.
use Rattle.std.specs.Prelude.{ℕ, ◌-◌, cond, not, List, map, length, Some, None, Option, slice_index_or}
use Rattle.relation.specs.declared.kinds.Kind.{Kind}
use Rattle.relation.specs.declared.kinds.Kind.TheVariants.{Number}
use Rattle.relation.specs.declared.refusals.Reason.{Reason}
use Rattle.relation.specs.declared.refusals.Reason.TheVariants.{Misfit}
use Rattle.relation.specs.Rows.{SpecRow}
use Rattle.relation.specs.Sets.{Same}
use Rattle.relation.specs.Operations.{picked, project}
use Rattle.source.specs.Meaning.{Meaning, day_set}
use Rattle.layers.specs.Columns.{are_columns}

abbrev pub picked_kinds : List ℕ → List Kind → List Kind
picked_kinds cs ks = map (λ c. slice_index_or ks (c - 1) Number) cs

abbrev pub picked_row : List ℕ → Option SpecRow → Option SpecRow
picked_row cs None = None
picked_row cs (Some r) = Some (record { tuple = picked cs r.tuple; first = r.first; end = r.end })

abbrev pub projected : Meaning → List ℕ → Meaning
projected m cs = record { kinds = picked_kinds cs m.kinds; count = m.count; at = λ k. picked_row cs (m.at k) }

-- the reason against a project
abbrev pub no_project : Meaning → List ℕ → Option Reason
no_project m cs = cond (not (are_columns (length m.kinds) cs)) (Some Misfit) None

-- on every day, the chosen columns of each tuple below
abbrev pub Projects : Meaning → List ℕ → Type 0
Projects m cs = (d : ℕ) → Same (day_set (projected m cs) d) (project cs (day_set m d))
