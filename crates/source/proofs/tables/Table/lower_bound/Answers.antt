use Rattle.std.proofs.Common.{◌≡◌, List, ℕ, ◌+◌, ◌-◌, ◌<◌, ◌≤◌, min, length, get_or, take, drop, ◌∙◌, arith, rules}
use Rattle.std.proofs.lemmas.List.{length-take, length-drop, get_or-take, get_or-drop}
use Rattle.std.proofs.lemmas.List.Sorted.{IsPartitionPoint-from_clause}
use Rattle.relation.specs.declared.rows.Row.{Row}
use Rattle.relation.specs.Few.{items}
use Rattle.source.proofs.Risen.{below, parted, bound_found}
use Rattle.source.proofs.tables.Table.lower_bound.Goals as goal

pub returns : goal.returns
returns c =
    let s = c.args.self.now in
    let from = c.args.from in
    let order = s.ok.order c.requires.known in
    let xs : List Row = take (c.past.result - from) (drop from s.rows.now) in
    let long : length xs ≡ c.past.result - from = simp (length-take, length-drop) (omega arith) in
    let at : (i : ℕ) (d : Row) → i < length xs → get_or xs i d ≡ get_or s.rows.now (from + i) d = λ i d h. get_or-take (c.past.result - from) (drop from s.rows.now) i d (omega arith) ∙ get_or-drop from s.rows.now i d in
    let within : c.past.result ≤ min (length s.rows.now) (s.start + s.len) = omega (arith, c.past.ensures) in
    let sorted = parted s.rows.now s.start s.len (items s.kinds) c.args.lead.now from c.past.result xs order c.requires.after within long at in
    let point = IsPartitionPoint-from_clause (below s.rows.now s.start s.len (items s.kinds) c.args.lead.now from c.past.result xs order c.requires.after within long at) xs c.partition_point-below.result c.partition_point-below.ensures.partitioned sorted (λ a r q k. search rules) in
    rw (← c.past.ensures) (bound_found s.rows.now s.start s.len (items s.kinds) c.args.lead.now from c.past.result xs order c.requires.after within long at c.partition_point-below.result (omega (arith, c.partition_point-below.ensures.bound)) point (omega arith))
