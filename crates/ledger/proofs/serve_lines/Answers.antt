use Rattle.ledger.proofs.Going.{then_on}
use Rattle.ledger.proofs.serve_lines.Goals as goal

pub returns-in_err-print_answer : goal.returns-in_err-print_answer
returns-in_err-print_answer c = record {
  first = then_on _ _ _ c.loop-line.invariant.0 c.answer-answer.ensures.first;
  second = then_on _ _ _ c.loop-line.invariant.1 c.answer-answer.ensures.second;
}

pub loop-line-preserved : goal.loop-line-preserved
loop-line-preserved c = (then_on _ _ _ c.loop-line.invariant.0 c.answer-answer.ensures.first, then_on _ _ _ c.loop-line.invariant.1 c.answer-answer.ensures.second)

pub returns-in_err-print_shown : goal.returns-in_err-print_shown
returns-in_err-print_shown c = record {
  first = then_on _ _ _ c.loop-line.invariant.0 c.answer-answer.ensures.first;
  second = then_on _ _ _ c.loop-line.invariant.1 c.answer-answer.ensures.second;
}
