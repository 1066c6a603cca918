use Rattle.std.proofs.Common.{◌≡◌, ℕ, ◌+◌, ◌-◌, ◌<◌, ◌≤◌, length, get_or, take, set, sym, ap, ◌∙◌, subst, arith}
use borrow.Rule.Slice.PartMut.{put_mid}
use Rattle.std.proofs.lemmas.List.{length-take, length-drop}
use Rattle.std.proofs.lemmas.Result.{err_from_is_err_and}
use Rattle.relation.specs.Refusals.{plain?}
use Rattle.relation.specs.Stored.{blank_row}
use Rattle.register.specs.declared.store.Store.{Store}
use Rattle.register.specs.Layout.{free, issued_entry}
use Rattle.register.specs.State.{size_of, code_at, Issued}
use Rattle.register.specs.Refusals.{work_no}
use Rattle.register.proofs.Changes.{held_at, draft_bears}
use Rattle.register.proofs.Moves.{replaced, replaced_part}
use Rattle.register.proofs.Publishing.{kept_in, publish_result}
use Rattle.register.proofs.Storage.{total_split}
use Rattle.register.proofs.store.Store.issue.Goals as goal

pub returns-in_err-kept-clause-refused : goal.returns-in_err-kept-clause-refused
returns-in_err-kept-clause-refused c =
    let s = c.args.self.now in
    let i = c.args.i in
    let p = err_from_is_err_and c.from_residual.result c.from_residual.ensures.1 in
    let b : i < length s.directory.entries = omega (arith, c.requires.whole.all, c.requires.within) in
    let o = held_at s.directory.entries s.rows.now i (code_at s i) c.requires.whole.apart b (draft_bears (get_or s.directory.entries i free) c.requires.draft) in
    rw (p.1, p.2) (sym (ap plain? (ap (λ x. work_no (size_of x) c.args.work.now c.args.index.now) o) ∙ c.in_err-kept.ensures.0))

pub slice_bounds-replace-end-2 : goal.slice_bounds-replace-end-2
slice_bounds-replace-end-2 c = (kept_in c.args.self.now c.args.i c.in_ok-kept.kept c.args.work.now c.coalesce.new.work c.args.index.now c.coalesce.new.index c.requires.whole c.requires.within c.requires.draft c.in_ok-kept.ensures.1).0

pub slice_bounds-replace-end-3 : goal.slice_bounds-replace-end-3
slice_bounds-replace-end-3 c =
    let k = kept_in c.args.self.now c.args.i c.in_ok-kept.kept c.args.work.now c.coalesce.new.work c.args.index.now c.coalesce.new.index c.requires.whole c.requires.within c.requires.draft c.in_ok-kept.ensures.1 in
    omega (arith, k.0, length-take c.in_ok-kept.kept c.coalesce.new.work)

pub replace-requires-clause-within : goal.replace-requires-clause-within
replace-requires-clause-within c =
    let s = c.args.self.now in
    let w = total_split s.directory.entries c.args.i free (omega (arith, c.requires.whole.all, c.requires.within)) in
    simp (length-take, length-drop) (omega (arith, w, ap (λ x. x.count) c.laid-at.ensures.entry, c.requires.whole.room, c.laid-at.ensures.start, c.sum-used.ensures))

pub replace-requires-clause-fits : goal.replace-requires-clause-fits
replace-requires-clause-fits c =
    let k = kept_in c.args.self.now c.args.i c.in_ok-kept.kept c.args.work.now c.coalesce.new.work c.args.index.now c.coalesce.new.index c.requires.whole c.requires.within c.requires.draft c.in_ok-kept.ensures.1 in
    omega (arith, k.2, ap (λ x. x.count) c.laid-at.ensures.entry)

pub returns : goal.returns
returns c =
    let s = c.args.self.now in
    let es = s.directory.entries in
    let i = c.args.i in
    let e = get_or es i free in
    let t : Store = record { rows = record { ref_ptr = s.rows.ref_ptr; ghost_name = s.rows.ghost_name; now = put_mid c.laid-at.result.0 (c.sum-used.result - c.laid-at.result.0) s.rows.now c.replace.new.rows }; directory = c.publish.new.self } in
    let l = c.in_ok-kept.ensures.1 in
    let k = kept_in s i c.in_ok-kept.kept c.args.work.now c.coalesce.new.work c.args.index.now c.coalesce.new.index c.requires.whole c.requires.within c.requires.draft l in
    let b : i < length es = omega (arith, c.requires.whole.all, c.requires.within) in
    let o = held_at es s.rows.now i (code_at s i) c.requires.whole.apart b (draft_bears e c.requires.draft) in
    let n : c.laid-at.result.1.count ≡ e.count = ap (λ x. x.count) c.laid-at.ensures.entry in
    let at = c.laid-at.result.0 in
    let u = c.sum-used.result in
    let m = c.laid-at.result.1.count in
    let new = take c.in_ok-kept.kept c.coalesce.new.work in
    let w = total_split es i free b in
    let less : at + m ≤ u = omega (arith, w, n, c.laid-at.ensures.start, c.sum-used.ensures) in
    let low : at ≤ u = omega (arith, less) in
    let fits : length new ≤ m = omega (arith, k.2, n) in
    let room : u ≤ length s.rows.now = omega (arith, c.requires.whole.room, c.sum-used.ensures) in
    let moved = ap (put_mid at (u - at) s.rows.now) c.replace.ensures ∙ replaced_part s.rows.now at u low m new blank_row less fits room in
    let r = publish_result s t i c.laid-at.result.0 c.sum-used.result l.part.list (take c.in_ok-kept.kept c.coalesce.new.work) c.requires.whole c.requires.within c.requires.draft c.laid-at.ensures.start c.sum-used.ensures k.1 l.part.lists
    (c.publish.ensures ∙ ap (λ m. set es i (issued_entry e m)) l.part.count) (moved ∙ ap (λ m. replaced s.rows.now at m new u blank_row) n) in
    record {
      whole = r.0;
      refused = sym (ap plain? (ap (λ x. work_no (size_of x) c.args.work.now c.args.index.now) o ∙ c.in_ok-kept.ensures.0));
      after = subst (λ (m : ℕ). Issued s t (code_at s i) m) (sym l.part.count) r.1;
      work = l.rows_rest;
      index = l.index_rest;
    }
