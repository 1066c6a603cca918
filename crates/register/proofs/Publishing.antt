-- What publishing a draft leaves of a store.
use Rattle.std.specs.List.{list_all}
use Rattle.std.proofs.Common.{◌≡◌, ℕ, suc, ◌+◌, ◌<◌, ◌≤◌, min, true, List, map, length, get_or, take, drop, set, Some, sym, refl, ap, ◌∙◌, subst, inl, inr, arith, rules}
use Rattle.std.proofs.lemmas.List.{length-map, length-take, same_lists, places}
use Rattle.std.proofs.lemmas.Bool.{cases_lt}
use Rattle.relation.specs.declared.rows.Row.{Row}
use Rattle.relation.specs.Bounds.{most_entries, most_stored}
use Rattle.relation.specs.Rows.{SpecRow, Lists, on}
use Rattle.relation.specs.Few.{items}
use Rattle.relation.specs.Stored.{meant, stored, blank_row}
use Rattle.register.specs.declared.entries.Mark.TheVariants.{Draft, Published}
use Rattle.register.specs.declared.entries.Entry.{Entry}
use Rattle.register.specs.declared.store.Store.{Store}
use Rattle.register.specs.Layout.{entry_part, parts, total, bears, bearer, free, capacity, is_free, is_listed, is_blank, good_row, good_part, issued_entry, Sound}
use Rattle.register.specs.State.{held, used, Whole, Leaves, code_at, mark_at, rows_at, part_rows, issued, Issued}
use Rattle.register.proofs.Storage.{few_items, total_split, parts_change}
use Rattle.register.proofs.Moves.{replaced, replaced_length, replaced_front, replaced_rest, replaced_past, replaced_at, replaced_blank}
use Rattle.register.proofs.Changes.{draft_bears, total_set, held_at, old, old_length, good_at, good_from, change_result}
use Rattle.collect.specs.Collects.{LeavesList, counted}
use Rattle.tree.specs.declared.Node.{Node}
use Rattle.register.proofs.Tabled.{list_short, list_good, every_all, stored_back, front_is, listed_test}

pub publish_result : (s t : Store) (i at u : ℕ) (list : List SpecRow) (new : List Row) → Whole s → i < most_entries → mark_at s i ≡ Draft →
    at ≡ total (take i s.directory.entries) → u ≡ used s → new ≡ map stored list →
    Lists list (on (map (meant (length (items (get_or s.directory.entries i free).kinds))) (old s.directory.entries s.rows.now i))) →
    t.directory.entries ≡ set s.directory.entries i (issued_entry (get_or s.directory.entries i free) (length list)) →
    t.rows.now ≡ replaced s.rows.now at (get_or s.directory.entries i free).count new u blank_row →
    (Whole t) × Issued s t (code_at s i) (length list)
publish_result s t i at u list new whole h draft a b n lists p q =
    let es = s.directory.entries in
    let rs = s.rows.now in
    let rs' = t.rows.now in
    let e = get_or es i free in
    let e' = issued_entry e (length list) in
    let ks = items e.kinds in
    let c = e.count in
    let f = total (take i es) in
    let r = total (drop (suc i) es) in
    let l : i < length es = omega (arith, whole.all) in
    let w : total es ≡ f + (c + r) = total_split es i free l in
    let b' : u ≡ f + (c + r) = b ∙ w in
    let k : u ≤ length rs = omega (arith, whole.room) in
    let g = good_at es rs i whole l (ap is_free draft) in
    let xs = map (meant (length (items e.kinds))) (old es rs i) in
    let fine = list_good ks (map (meant (length (items e.kinds))) (old es rs i)) list g.rows_good lists in
    let back : map (meant (length (items e.kinds))) (map stored list) ≡ list = stored_back ks (length (items e.kinds)) list refl (few_items e.kinds) fine in
    let size : length (map stored list) ≡ length list = length-map list stored in
    let short : length list ≤ c = let z = list_short ks (map (meant (length (items e.kinds))) (old es rs i)) list g.rows_good lists in let y : length (map (meant (length (items e.kinds))) (old es rs i)) ≡ c = length-map (old es rs i) (meant (length (items e.kinds))) ∙ old_length es rs i whole l in omega arith in
    let less : length new ≤ c = omega (arith, ap length n) in
    let news : length list ≡ length new = sym (ap length n ∙ size) in
    let changed : parts (set es i e') rs' ≡ set (parts es rs) i (entry_part e' new) =
    ap (parts (set es i e')) q ∙ parts_change es i rs (replaced rs at c new u blank_row) free e' new l news
    (replaced_front rs f c r at u new blank_row a b' k less) (replaced_rest rs f c r at u new blank_row a b' k less) in
    let long : length rs' ≡ length rs = ap length q ∙ replaced_length rs f c r at u new blank_row a b' k less in
    let past : drop most_stored rs' ≡ drop most_stored rs = ap (drop most_stored) q ∙ replaced_past rs f c r at u new blank_row a b' k less most_stored (omega (arith, whole.room)) in
    let t1 : total (set es i e') + c ≡ total es + length list = total_set es i e' l in
    let good : good_part (entry_part e' new) ≡ true = good_from e' new (record {
      few = g.few;
      rows_good = ap (λ x. list_all (good_row ks) (map (meant (length (items e.kinds))) x)) n ∙ (ap (list_all (good_row ks)) back ∙ every_all (good_row ks) list fine);
      ordered = ap (λ x. is_listed (map (meant (length (items e.kinds))) x)) n ∙ (ap is_listed back ∙ listed_test list lists.canonical.listed);
    }) in
    let stands : bearer e e.name.code ≡ true = draft_bears e draft in
    let made = change_result s t i e' new whole h stands refl (λ m. ap (λ x. bears x e.name.code m) (sym draft)) refl news p changed
    (omega (arith, t1, long, whole.room))
    (λ j lo hi. ap (λ x. is_blank (get_or x j blank_row)) q ∙ elim (cases_lt j u) [
      | inl m ↦ ap is_blank (replaced_blank rs f c r at u new blank_row a b' k less j blank_row (omega (arith, t1, w, news)) m)
      | inr m ↦ ap is_blank (replaced_at rs f c r at u new blank_row a b' k less j blank_row m) ∙ whole.blanks j (omega arith) (omega (arith, long))
    ])
    long past good in
    let o : held s e.name.code ≡ Some (entry_part e (old es rs i)) = held_at es rs i e.name.code whole.apart l stands in
    let same : issued list (held s e.name.code) ≡ Some (entry_part e' new) =
    ap (issued list) o ∙ (λ j. Some (record { name = e.name.code; mark = Published; kinds = ks; rows = (sym (ap (map (meant (length (items e.kinds)))) n ∙ back)) j })) in (
      made.0,
      record {
        list = list;
        lists = subst (λ x. Lists list (on (part_rows x))) (sym o) lists;
        leaves = subst (Leaves s t e.name.code) (sym same) made.1;
        size = refl;
      },
    )

-- ---- what is coalesced

-- the same rows in the part that counts
pub part_in : (es : List Entry) (rs : List Row) (i c at : ℕ) → Sound es rs → i < length es → c ≡ capacity rs → at ≡ total (take i es) →
    (at + (get_or es i free).count ≤ length (take c rs)) × (length (take c rs) ≤ most_stored) × (take (get_or es i free).count (drop at (take c rs)) ≡ old es rs i)
part_in es rs i c at sound l e a =
    let w = total_split es i free l in
    let n : length (take c rs) ≡ capacity rs = simp length-take (omega arith) in
    (omega (arith, sound.room), omega arith, cut rs at (get_or es i free).count c (omega (arith, sound.room)) ∙ ap (λ x. take (get_or es i free).count (drop x rs)) a)
  where
    cut : (xs : List Row) (s n c : ℕ) → s + n ≤ c → take n (drop s (take c xs)) ≡ take n (drop s xs)
    cut xs s n c h = same_lists _ _ (search (rules, places)) (λ k d g. grind (arith, places))

-- the list in the work area
pub kept_in : (s : Store) (i k : ℕ) (work work' : List Row) (index index' : List Node) → Whole s → i < most_entries → mark_at s i ≡ Draft →
    (l : LeavesList (on (rows_at s i)) work index k work' index') →
    (k ≤ length work') × (take k work' ≡ map stored l.part.list) × (length (take k work') ≤ (get_or s.directory.entries i free).count)
kept_in s i k work work' index index' whole h draft l =
    let es = s.directory.entries in
    let rs = s.rows.now in
    let e = get_or es i free in
    let list = l.part.list in
    let b : i < length es = omega (arith, whole.all) in
    let size : length (map stored list) ≡ length list = length-map list stored in
    let n : k ≡ length (map stored list) = l.part.count ∙ sym size in
    let f = front_is work' (map stored list) _ (counted work) k l.part.rows_are n in
    let z : length (take k work') ≡ k = ap length f ∙ sym n in
    let y : length (take k work') ≡ min k (length work') = length-take k work' in
    let g = good_at es rs i whole b (ap is_free draft) in
    let short = list_short (items e.kinds) (map (meant (length (items e.kinds))) (old es rs i)) list g.rows_good l.part.lists in
    let c : length (map (meant (length (items e.kinds))) (old es rs i)) ≡ e.count = length-map (old es rs i) (meant (length (items e.kinds))) ∙ old_length es rs i whole b in
    (omega arith, f, omega (arith, l.part.count))
