use Rattle.std.proofs.Common.{◌≡◌, [], ◌++◌, length, sym, ap, ◌∙◌, append-nil, arith}
use Rattle.relation.specs.Bounds.{most_work}
use Rattle.lists.specs.ListFiles.{read, row_in}
use Rattle.lists.proofs.Gathering.{refused, taken_in, take_full}
use Rattle.lists.proofs.files.next_row.Goals as goal

pub returns-in_err-row : goal.returns-in_err-row
returns-in_err-row c = λ few.
    let none = refused c.from_residual.result c.from_residual.ensures.0 in
    ap (λ rs. c.args.rows.now ++ rs) none ∙ taken_in most_work c.args.rows.now [] _ (ap read c.in_err-row.ensures.value) (omega (arith, few))

pub returns-then-rows-ge-MOST_WORK : goal.returns-then-rows-ge-MOST_WORK
returns-then-rows-ge-MOST_WORK c = λ few.
    let full : length c.args.rows.now ≡ most_work = omega (arith, few) in
    append-nil c.args.rows.now ∙ sym (take_full most_work c.args.rows.now (row_in c.args.kinds.now c.args.line.now) full)

pub returns : goal.returns
returns c = λ few. taken_in most_work c.args.rows.now _ _ (ap read c.in_ok-row.ensures.value) (omega (arith, few))
