use Rattle.std.proofs.Common.{◌≡◌, ◌++◌, drop, replicate, pos, ap, ◌∙◌, arith, rules}
use Rattle.relation.specs.Bounds.{most_columns}
use Rattle.relation.specs.Stored.{firsts}
use Rattle.relation.proofs.Firsts.{firsts_copied, firsts_min}
use Rattle.relation.proofs.rows.Row.trimmed.Goals as goal

pub returns : goal.returns
returns c =
    let values : c.copy_from_slice.new.self ++ drop c.min-kept.result (replicate most_columns (pos 0)) ≡ firsts most_columns (firsts c.args.columns c.args.self.now.values (pos 0)) (pos 0) =
    ap (λ ys. ys ++ drop c.min-kept.result (replicate most_columns (pos 0))) c.copy_from_slice.ensures.after
    ∙ firsts_copied most_columns c.min-kept.result c.args.self.now.values (pos 0) (omega (arith, c.min-kept.ensures)) (search rules)
    ∙ ap (λ k. firsts most_columns (firsts k c.args.self.now.values (pos 0)) (pos 0)) c.min-kept.ensures ∙ firsts_min most_columns c.args.columns c.args.self.now.values (pos 0) in
    λ i. record { first = c.args.self.now.first; end = c.args.self.now.end; values = values i }
