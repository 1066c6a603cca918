use Rattle.std.proofs.Common.{◌∙◌}
use Rattle.relation.specs.Stored.{blank_row}
use Rattle.tree.specs.Trees.{blank}
use Rattle.register.proofs.Blanked.{blanked_same}
use Rattle.register.proofs.store.Store.publish.Goals as goal

pub returns : goal.returns
returns c =
    let e = c.issue-kept.ensures in
    record {
      whole = e.whole;
      refused = e.refused;
      after = e.after;
      work = c.blank_work.ensures.work ∙ blanked_same blank_row c.args.work.now c.issue-kept.new.work c.issue-kept.auto.work e.work;
      index = c.blank_work.ensures.index ∙ blanked_same blank c.args.index.now c.issue-kept.new.index c.issue-kept.auto.index e.index;
    }
