use Rattle.std.proofs.Common.{◌≡◌, ◌∷◌, [], ◌++◌, take, sym, ap, ◌∙◌, append-nil}
use Rattle.std.proofs.lemmas.List.{take_all}
use Rattle.relation.specs.Bounds.{most_work}
use Rattle.words.specs.Rest.{lines_left}
use Rattle.lists.specs.ListFiles.{row_in, rows_in}
use Rattle.lists.proofs.Gathering.{few_taken, line_read}
use Rattle.lists.proofs.files.read_rows.Goals as goal

pub loop-line-preserved-in-Continue-1 : goal.loop-line-preserved-in-Continue-1
loop-line-preserved-in-Continue-1 c =
    let rows = c.loop-line.rows.items in
    let row = row_in c.args.kinds.now c.in-Some.line.now in
    let same = c.as_slice.ensures.value in
    let is : c.push.new.self.items ≡ take most_work (rows ++ row) =
    c.in_ok-push-in-Ok.ensures.items ∙ ap (λ l. l ++ c.in-Ok.row ∷ []) (sym same) ∙ c.in-Ok.ensures (few_taken most_work rows _ (same ∙ sym (take_all most_work rows c.loop-line.invariant.few))) ∙ ap (λ l. take most_work (l ++ row)) same in
    record {
      few = few_taken most_work (rows ++ row) _ is;
      gathered = line_read most_work c.args.kinds.now rows _ _ (lines_left c.next.new.self) c.in-Some.line.now _ c.in-Some.ensures.steps (sym c.if-is_blank.ensures) is c.loop-line.invariant.gathered;
    }

pub loop-line-preserved : goal.loop-line-preserved
loop-line-preserved c =
    let rows = c.loop-line.rows.items in
    let row = row_in c.args.kinds.now c.in-Some.line.now in
    let same = c.as_slice.ensures.value in
    let is : rows ≡ take most_work (rows ++ row) =
    sym same ∙ sym (append-nil _) ∙ c.in-Err.ensures (few_taken most_work rows _ (same ∙ sym (take_all most_work rows c.loop-line.invariant.few))) ∙ ap (λ l. take most_work (l ++ row)) same in
    record {
      few = c.loop-line.invariant.few;
      gathered = line_read most_work c.args.kinds.now rows _ _ (lines_left c.next.new.self) c.in-Some.line.now _ c.in-Some.ensures.steps (sym c.if-is_blank.ensures) is c.loop-line.invariant.gathered;
    }

pub returns : goal.returns
returns c =
    let rows = c.loop-line.rows.items in
    sym (take_all most_work rows c.loop-line.invariant.few)
    ∙ ap (take most_work) (sym (append-nil rows))
    ∙ sym (ap (λ ls. take most_work (rows ++ rows_in c.args.kinds.now ls)) c.in_default.ensures.steps.0)
    ∙ c.loop-line.invariant.gathered
