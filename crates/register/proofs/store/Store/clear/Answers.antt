use Rattle.std.proofs.Common.{◌≡◌, ◌+◌, ◌-◌, ◌≤◌, length, get_or, ap, ◌∙◌, arith}
use borrow.Rule.Slice.PartMut.{put_mid}
use Rattle.relation.specs.Stored.{blank_row}
use Rattle.register.specs.Layout.{free}
use Rattle.register.proofs.Moves.{closed_part}
use Rattle.register.proofs.Others.{clear_result}
use Rattle.register.proofs.Storage.{total_split}
use Rattle.register.proofs.store.Store.clear.Goals as goal

pub returns : goal.returns
returns c =
    let s = c.args.self.now in
    let at = c.laid-at.result.0 in
    let u = c.sum-used.result in
    let n = c.laid-at.result.1.count in
    let a = c.clear.ensures in
    let here : n ≡ (get_or s.directory.entries c.args.i free).count = ap (λ x. x.count) c.laid-at.ensures.entry in
    let w = total_split s.directory.entries c.args.i free (omega (arith, c.requires.whole.all, c.requires.within)) in
    let less : at + n ≤ u = omega (arith, w, c.laid-at.ensures.start, c.sum-used.ensures, here) in
    let low : at ≤ u = omega (arith, less) in
    let room : u ≤ length s.rows.now = omega (arith, c.requires.whole.room, c.sum-used.ensures) in
    let moved = ap (put_mid at (u - at) s.rows.now) c.close.ensures ∙ closed_part s.rows.now at u low n blank_row less room in
    let r = clear_result s _ c.args.i at n u a.0 a.1
    c.requires.whole c.requires.within c.requires.stands c.laid-at.ensures.start here c.sum-used.ensures a.2 moved in
    record { whole = r.0; leaves = r.1; size = r.2 }
