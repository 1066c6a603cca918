-- What a row that passed its tests is.
use Rattle.std.proofs.Common.{◌≡◌, true, List, length, None}
use Rattle.std.proofs.lemmas.Bool.{and_from}
use Rattle.relation.specs.declared.kinds.Kind.{Kind}
use Rattle.relation.specs.declared.rows.Row.{Row}
use Rattle.relation.specs.Rows.{is_period}
use Rattle.relation.specs.Stored.{meant}
use Rattle.source.specs.Meaning.{fits}
use Rattle.layers.specs.Alike.{same_kinds}
use Rattle.layers.specs.Soundness.{passed}
use Rattle.register.specs.Layout.{good_row}
use Rattle.register.specs.Refusals.{row_no}

-- a row that is not refused may stand in the relation
pub row_good : (ks given : List Kind) (row : Row) → row_no ks given row ≡ None → good_row ks (meant (length ks) row) ≡ true
row_good ks given row h =
    let a = passed (same_kinds ks given) _ _ h in
    let b = passed (is_period row.first row.end) _ _ a.1 in
    let c = passed (fits ks (meant (length ks) row).tuple) _ _ b.1 in
    and_from (is_period row.first row.end) (fits ks (meant (length ks) row).tuple) b.0 c.0
