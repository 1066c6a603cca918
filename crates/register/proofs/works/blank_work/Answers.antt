use Rattle.register.proofs.Blanked.{filled_blank}
use Rattle.register.proofs.works.blank_work.Goals as goal

pub returns : goal.returns
returns c = record {
  work = filled_blank c.args.work.now _ _ _ _ (c.fill.ensures.after (λ y e. e)) c.min-rows_end.ensures c.blank.ensures;
  index = filled_blank c.args.index.now _ _ _ _ (c.fill-2.ensures.after (λ y e. e)) c.min-index_end.ensures c.blank-2.ensures;
}
