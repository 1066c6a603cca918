use Rattle.std.proofs.Common.{◌≡◌, ◌+◌, ◌-◌, ◌∷◌, ◌++◌, length, get_or, take, pos, sym, ap, ◌∙◌, ap₂, arith, w64, SFits, to_z, of_z}
use Rattle.std.proofs.lemmas.List.{take_all}
use Rattle.std.proofs.lemmas.Int.{to_z-of_z}
use Rattle.relation.specs.declared.kinds.Kind.TheVariants.{Number}
use Rattle.relation.specs.Stored.{firsts}
use Rattle.relation.proofs.Firsts.{length_firsts}
use Rattle.listing.specs.Text.{space, value_text, values_text}
use Rattle.listing.proofs.Parts.{taken_as, get_d_firsts, values_more}
use Rattle.listing.proofs.rows.put_values.Goals as goal

pub loop-column-preserved : goal.loop-column-preserved
loop-column-preserved g c =
    let both = g.met.S.Sink.both in
    let i = c.loop-column.column in
    let ks = c.args.kinds.now in
    let n = length ks in
    let zs = firsts n c.args.row.now.values (pos 0) in
    let at : i + 1 - 1 ≡ i = omega arith in
    let fits : SFits w64 c.column.result = record { sfits = c.column.type_inv } in
    let z : to_z w64 (of_z w64 c.column.result) ≡ get_or zs i (pos 0) = to_z-of_z w64 _ fits ∙ c.column.ensures ∙ ap (λ k. get_or c.args.row.now.values k (pos 0)) at ∙ sym (get_d_firsts n c.args.row.now.values (pos 0) i c.loop-column-test.true) in
    let wide : length zs ≡ n = length_firsts n _ _ in
    taken_as g.S.Sink.takes (both _ _ _ _ _ c.loop-column.invariant (both _ _ _ _ _ c.put.ensures c.put_value.ensures))
    (ap (λ y. values_text (take i ks) (take i zs) ++ (space ∷ value_text (get_or ks i Number) y)) z ∙ values_more ks zs i (omega arith) (omega arith))

pub returns : goal.returns
returns g c =
    let ks = c.args.kinds.now in
    let n = length ks in
    let zs = firsts n c.args.row.now.values (pos 0) in
    let wide : length zs ≡ n = length_firsts n _ _ in
    taken_as g.S.Sink.takes c.loop-column.invariant (ap₂ values_text (take_all c.loop-column.column ks (omega arith)) (take_all c.loop-column.column zs (omega arith)))
