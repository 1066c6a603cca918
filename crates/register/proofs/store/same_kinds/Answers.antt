use Rattle.std.proofs.Common.{refl, ◌∙◌}
use Rattle.register.proofs.Stored.{pointwise_kinds}
use Rattle.register.proofs.store.same_kinds.Goals as goal

pub returns : goal.returns
returns c = c.eq.ensures ∙ pointwise_kinds _ refl refl refl refl c.args.kinds.now c.args.given.now
