use Rattle.std.proofs.Common.{◌+◌, ◌-◌, ◌<◌, ◌≤◌, length, ap, ◌∙◌, arith}
use borrow.Rule.Slice.PartMut.{put_mid}
use Rattle.std.proofs.lemmas.List.Sums.{sum_by-take-le}
use Rattle.register.specs.declared.entries.Entry.{Entry}
use Rattle.register.proofs.Changes.{add_result}
use Rattle.register.proofs.Moves.{opened_part}
use Rattle.register.proofs.store.Store.add.Goals as goal

pub returns : goal.returns
returns c =
    let s = c.args.self.now in
    let at = c.start-at.result in
    let u = c.sum-used.result in
    let low : at ≤ u = omega (arith, sum_by-take-le (λ (e : Entry). e.count) s.directory.entries (c.args.i + 1), c.start-at.ensures, c.sum-used.ensures) in
    let room : u < length s.rows.now = omega (arith, c.requires.room, c.sum-used.ensures) in
    let moved = ap (put_mid at (u + 1 - at) s.rows.now) c.open.ensures ∙ opened_part s.rows.now at u low c.args.row room in
    let r = add_result s _ c.args.i c.args.row at u
    c.requires.whole c.requires.within c.requires.draft c.requires.room c.requires.good c.start-at.ensures c.sum-used.ensures c.grow.ensures.after moved in
    record { whole = r.0; leaves = r.1; size = c.grow.ensures.count ∙ r.2 }
