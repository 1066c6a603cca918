use Rattle.std.proofs.Common.{◌≡◌, cond, not, true, false, Some, None, sym, refl, ap, ◌∙◌, subst}
use Rattle.std.specs.Option.{MatchOption}
use Rattle.std.specs.Result.{result_ok}
use Rattle.relation.specs.declared.refusals.Reason.TheVariants.{Misfit}
use Rattle.layers.specs.Columns.{are_columns}
use Rattle.layers.specs.Chosen.{chosen}
use Rattle.layers.specs.Projects.{no_project}
use Rattle.layers.proofs.DaySets.{projects}
use Rattle.layers.proofs.projects.Project.new.Goals as goal

pub returns : goal.returns
returns g c =
    let m = g.S.Source.meaning c.args.source in
    let cs = c.args.columns.now in
    let n = c.columns.result in
    let made = subst (λ o. MatchOption o (are_columns n cs ≡ false) (λ s. (are_columns n cs ≡ true) × (chosen s ≡ cs))) (c.ok_or.ensures.ok_part ∙ ap result_ok c.in_ok-columns.was) c.new.ensures in
    let allowed : no_project m cs ≡ None = ap (λ k. cond (not (are_columns k cs)) (Some Misfit) None) (sym c.columns.ensures) ∙ ap (λ b. cond (not b) (Some Misfit) None) made.0 in
    (allowed, (refl, made.1, projects m cs))
