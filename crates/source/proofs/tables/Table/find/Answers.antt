use Rattle.std.proofs.Common.{arith}
use Rattle.relation.specs.Few.{items}
use Rattle.source.proofs.Risen.{led_first, led_found, led_nowhere}
use Rattle.source.proofs.TableRows.{filled_at}
use Rattle.source.proofs.tables.Table.find.Goals as goal
use Rattle.source.proofs.tables.Table.find.Goals.{else-found-past-via-then-found-past+else-is_eq-2, else-found-past-via-else-found-past}

pub returns-then-is_eq : goal.returns-then-is_eq
returns-then-is_eq c = led_first _ _ _ _ c.compare.ensures c.if-is_eq.ensures

pub returns-then-is_eq-2 : goal.returns-then-is_eq-2
returns-then-is_eq-2 c = led_found _ _ _ _ _ c.lower_bound-found.ensures (omega arith) _ c.compare-then-found-past.ensures c.if-is_eq-2.ensures

pub returns-else-found-past : goal.returns-else-found-past
returns-else-found-past c =
    let s = c.args.self.now in
    led_nowhere _ _ _ _ _ c.lower_bound-found.ensures (c.args.self.now.ok.order c.requires.known) (omega arith)
    (λ p w e. let f = filled_at s.rows.now s.start s.len (items s.kinds) p w e in omega arith)
    (λ lt. elim c.else-found-past.branch [ else-found-past-via-then-found-past+else-is_eq-2 w ↦ (w.compare-then-found-past.result, (w.compare-then-found-past.ensures, w.if-is_eq-2.ensures)) | else-found-past-via-else-found-past w ↦ absurd (omega arith) ])
