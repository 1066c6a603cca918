use Rattle.std.proofs.Common.{sym, ◌∙◌, subst, inl, inr}
use Rattle.words.proofs.Listed.{error_of, value_of}
use Rattle.words.proofs.names.find.Goals as goal

pub returns-in_err-ok : goal.returns-in_err-ok
returns-in_err-ok g c = inr ((error_of _ _ c.from_utf8.result (sym c.ok.ensures.value ∙ c.in_err-ok.was) c.from_utf8.ensures.cases).1.0, c.from_residual.ensures)

pub returns : goal.returns
returns g c =
    let s = value_of _ _ c.from_utf8.result c.in_ok-ok.field-0 (sym c.ok.ensures.value ∙ c.in_ok-ok.was) c.from_utf8.ensures.cases in
    inl (c.parse.result, subst (λ t. g.T.FromStr.from_str_gives t c.parse.result) s.0 c.parse.ensures.value, c.ok-2.ensures.value)
