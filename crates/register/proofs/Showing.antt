-- What showing a published relation writes.
use Rattle.std.proofs.Common.{◌≡◌, ℕ, ◌+◌, ◌-◌, ◌<◌, ◌≤◌, cond, leb, List, map, length, get_or, take, drop, Some, None, Ok, Err, Option, Result, sym, ap, ◌∙◌, subst, ap₂, arith, MatchResult}
use Rattle.std.proofs.lemmas.Bool.{cond-true, cond-false, le-leb, lt-leb}
use Rattle.relation.specs.declared.rows.Row.{Row}
use Rattle.relation.specs.declared.refusals.Reason.{Reason}
use Rattle.relation.specs.declared.refusals.Reason.TheVariants as no
use Rattle.relation.specs.declared.refusals.Refusal.{Refusal}
use Rattle.relation.specs.Bounds.{most_entries, most_stored}
use Rattle.relation.specs.Refusals.{plain?}
use Rattle.relation.specs.Few.{items}
use Rattle.relation.specs.Stored.{meant}
use Rattle.relation.specs.Values.{word}
use Rattle.listing.specs.Text.{list_text, Writes}
use Rattle.register.specs.declared.entries.Entry.{Entry}
use Rattle.register.specs.declared.entries.Mark.TheVariants.{Published}
use Rattle.register.specs.declared.store.Store.{Store}
use Rattle.register.specs.Layout.{total, free, bearer, Sound}
use Rattle.register.specs.State.{kinds_of, part_rows, Whole, mark_at, code_at}
use Rattle.register.specs.Refusals.{err_of, or_else, drop_no, show_no, show_text, Shown}
use Rattle.register.proofs.Storage.{total_split}
use Rattle.register.proofs.Fits.{held_place, published_bears}
use Rattle.register.proofs.Changes.{old}

-- the rows of an entry lie within the rows
pub place_in : (es : List Entry) (rs : List Row) (i at : ℕ) → Sound es rs → i < most_entries → at ≡ total (take i es) → (at + (get_or es i free).count ≤ length rs) × (at + (get_or es i free).count ≤ most_stored)
place_in es rs i at sound h a = let w = total_split es i free (omega (arith, sound.all)) in (omega (arith, sound.room), omega (arith, sound.room))

-- the text is that of the rows there
pub text_at : (s : Store) (name : List ℕ) (i at : ℕ) → Whole s → i < most_entries → mark_at s i ≡ Published → code_at s i ≡ word name → at ≡ total (take i s.directory.entries) →
    list_text name (items (get_or s.directory.entries i free).kinds) (map (meant (length (items (get_or s.directory.entries i free).kinds))) (take (at + (get_or s.directory.entries i free).count - at) (drop at s.rows.now))) ≡ show_text s name
text_at s name i at whole h mark code a =
    let es = s.directory.entries in
    let e = get_or es i free in
    let n : at + e.count - at ≡ e.count = omega arith in
    let rows : take (at + e.count - at) (drop at s.rows.now) ≡ old es s.rows.now i = ap₂ (λ x y. take x (drop y s.rows.now)) n a in
    let o = held_place s (word name) i whole (omega (arith, whole.all)) (ap (bearer e) (sym code) ∙ published_bears e mark) in
    ap (λ x. list_text name (items e.kinds) (map (meant (length (items e.kinds))) x)) rows ∙ sym (ap (λ x. list_text name (kinds_of x) (part_rows x)) o)

pub show_result : (s : Store) (name text output output' : List ℕ) (r : Result ℕ Refusal) → drop_no s name ≡ None → text ≡ show_text s name → Writes text r output output' →
    (err_of r ≡ plain? (show_no s name output)) × MatchResult r (λ k. Shown (show_text s name) k output output') (λ _. output' ≡ output)
show_result s name text output output' r there e w = subst (λ (x : List ℕ). (err_of r ≡ plain? (or_else (drop_no s name) (cond (leb (length x) (length output)) None (Some no.ShortOutput)))) × MatchResult r (λ k. Shown x k output output') (λ _. output' ≡ output)) e (go r w)
  where
    room : Option Reason
    room = cond (leb (length text) (length output)) None (Some no.ShortOutput)

    first : plain? (or_else (drop_no s name) (cond (leb (length text) (length output)) None (Some no.ShortOutput))) ≡ plain? (cond (leb (length text) (length output)) None (Some no.ShortOutput))
    first = ap (λ q. plain? (or_else q (cond (leb (length text) (length output)) None (Some no.ShortOutput)))) there

    go : (r : Result ℕ Refusal) → Writes text r output output' → (err_of r ≡ plain? (or_else (drop_no s name) (cond (leb (length text) (length output)) None (Some no.ShortOutput)))) × MatchResult r (λ k. Shown text k output output') (λ _. output' ≡ output)
    go (Ok n) w = (sym (first ∙ ap plain? (cond-true (leb (length text) (length output)) None (Some no.ShortOutput) (le-leb _ _ w.1))), record { size = w.0; bytes = w.2 })
    go (Err f) w = (ap Some w.0 ∙ sym (first ∙ ap plain? (cond-false (leb (length text) (length output)) None (Some no.ShortOutput) (lt-leb _ _ w.1))), w.2)

pub show_none : (s : Store) (name output : List ℕ) → drop_no s name ≡ Some no.Name → show_no s name output ≡ Some no.Name
show_none s name output e = ap (λ q. or_else q (cond (leb (length (show_text s name)) (length output)) None (Some no.ShortOutput))) e
