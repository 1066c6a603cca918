-- What a change of one entry leaves of a store.
use Rattle.std.specs.List.{list_all}
use Rattle.std.proofs.Common.{◌≡◌, ℕ, zero, suc, ◌+◌, ◌<◌, Bool, true, false, cond, ◌&&◌, List, [], ◌∷◌, ◌++◌, map, length, get_or, take, drop, set, Some, sym, refl, ap, ◌∙◌, subst, ap₂, inl, inr, arith}
use Rattle.std.proofs.lemmas.List.{length-set, get_or-set_same, get_or-set_other, length-take, length-drop, length-map, map_push, length_push}
use Rattle.std.proofs.lemmas.List.Sums.{sum_by_more}
use Rattle.std.proofs.lemmas.Bool.{both_ways, cases_Bool, cases_eq, cond-false, and_parts, and_from, eq-eqb}
use Rattle.relation.specs.declared.rows.Row.{Row}
use Rattle.relation.specs.Bounds.{most_entries, most_stored}
use Rattle.relation.specs.Rows.{SpecRow}
use Rattle.relation.specs.Few.{items}
use Rattle.relation.specs.Stored.{meant, blank_row}
use Rattle.relation.proofs.Every.{every_at}
use Rattle.register.specs.declared.entries.Mark.{Mark}
use Rattle.register.specs.declared.entries.Mark.TheVariants.{Free, Draft}
use Rattle.register.specs.declared.entries.Entry.{Entry}
use Rattle.register.specs.declared.store.Store.{Store}
use Rattle.register.specs.Layout.{Part, entry_part, parts, total, named, bears, bearer, bearing, free, is_free, is_published, is_listed, is_few, rivals, is_blank, good_row, good_part, Vacant, Apart, Room, Blanks, Sound, grown}
use Rattle.register.specs.State.{held, used, rows_of, Whole, Leaves, added, size_of, code_at, mark_at}
use Rattle.register.proofs.Storage.{total_cons, total_split, parts_change}
use Rattle.register.proofs.Naming.{length_parts, parts_at, bears_one, named_at, alone, only_here, apart_set}
use Rattle.register.proofs.Moves.{opened, opened_length, opened_front, opened_rest, opened_past, opened_at}

pub draft_bears : (e : Entry) → e.mark ≡ Draft → bearer e e.name.code ≡ true
draft_bears e h = ap (λ m. bears m e.name.code e.name.code) h ∙ eq-eqb e.name.code e.name.code refl

pub total_set : (es : List Entry) (i : ℕ) (e' : Entry) → i < length es → total (set es i e') + (get_or es i free).count ≡ total es + e'.count
total_set [] i e' h = absurd (omega arith)
total_set (e ∷ es) zero e' h = omega (arith, total_cons e es, total_cons e' es)
total_set (e ∷ es) (suc i) e' h = omega (arith, total_set es i e' (omega arith), total_cons e es, total_cons e (set es i e'))

nobody : Part
nobody = entry_part free []

-- the rows of the entry at a place
abbrev pub old : List Entry → List Row → ℕ → List Row
old es rs i = take (get_or es i free).count (drop (total (take i es)) rs)

pub old_length : (es : List Entry) (rs : List Row) (i : ℕ) → Sound es rs → i < length es → length (old es rs i) ≡ (get_or es i free).count
old_length es rs i sound h = let w = total_split es i free h in simp (length-take, length-drop) (omega (arith, sound.room))

-- what a name stands for, by its place
pub held_at : (es : List Entry) (rs : List Row) (i n : ℕ) → Apart es → i < length es → bearer (get_or es i free) n ≡ true → named (parts es rs) n ≡ Some (entry_part (get_or es i free) (old es rs i))
held_at es rs i n far h b =
    let l : i < length (parts es rs) = simp length_parts h in
    let p = parts_at es rs i nobody h in
    named_at (parts es rs) i n nobody l
    (λ k g. ap (λ p. bearing p n) (parts_at es rs k nobody (omega arith)) ∙ alone es i n far b k (omega arith))
    (ap (λ p. bearing p n) p ∙ b)
    ∙ ap Some p

pub not_rivals : (e f : Entry) → (rivals e f ≡ true → ⊥) → rivals e f ≡ false
not_rivals e f no_way = elim (cases_Bool (rivals e f)) [ inl t ↦ absurd (no_way t) | inr x ↦ x ]

-- ---- what is good stays so

pub every_set : {X : Type 0} (p : X → Bool) (xs : List X) (i : ℕ) (x : X) → list_all p xs ≡ true → p x ≡ true → list_all p (set xs i x) ≡ true
every_set p [] i x h g = refl
every_set p (y ∷ ys) zero x h g = and_from (p x) (list_all p ys) g (and_parts (p y) (list_all p ys) h).1
every_set p (y ∷ ys) (suc i) x h g = let q = and_parts (p y) (list_all p ys) h in and_from (p y) (list_all p (set ys i x)) q.0 (every_set p ys i x q.1 g)

pub every_push : {X : Type 0} (p : X → Bool) (xs : List X) (x : X) → list_all p xs ≡ true → p x ≡ true → list_all p (xs ++ x ∷ []) ≡ true
every_push p [] x h g = and_from (p x) true g refl
every_push p (y ∷ ys) x h g = let q = and_parts (p y) (list_all p ys) h in and_from (p y) (list_all p (ys ++ x ∷ [])) q.0 (every_push p ys x q.1 g)

-- what is known of the rows of an entry in use
pub record GoodAt (e : Entry) (rows : List SpecRow) : Type 0 where
  pub few : is_few (items e.kinds) ≡ true
  pub rows_good : list_all (good_row (items e.kinds)) rows ≡ true
  pub ordered : cond (is_published e.mark) (is_listed rows) true ≡ true

pub good_at : (es : List Entry) (rs : List Row) (i : ℕ) → Sound es rs → i < length es → is_free (get_or es i free).mark ≡ false →
    GoodAt (get_or es i free) (map (meant (length (items (get_or es i free).kinds))) (old es rs i))
good_at es rs i sound h busy =
    let e = get_or es i free in
    let rows = map (meant (length (items e.kinds))) (old es rs i) in
    let l : i < length (parts es rs) = simp length_parts h in
    let g : good_part (entry_part e (old es rs i)) ≡ true = sym (ap good_part (parts_at es rs i nobody h)) ∙ every_at good_part (parts es rs) nobody i sound.fitting l in
    let p = and_parts (is_few (items e.kinds)) _ (sym (cond-false (is_free e.mark) true _ busy) ∙ g) in
    let q = and_parts (list_all (good_row (items e.kinds)) (map (meant (length (items e.kinds))) (old es rs i))) _ p.1 in
    record { few = p.0; rows_good = q.0; ordered = q.1 }

pub good_from : (e : Entry) (rows : List Row) → GoodAt e (map (meant (length (items e.kinds))) rows) → good_part (entry_part e rows) ≡ true
good_from e rows g = go (is_free e.mark) _ (and_from (is_few (items e.kinds)) _ g.few (and_from (list_all (good_row (items e.kinds)) (map (meant (length (items e.kinds))) rows)) _ g.rows_good g.ordered))
  where
    go : (b x : Bool) → x ≡ true → cond b true x ≡ true
    go true x h = refl
    go false x h = h

pub vacant_good : (e : Entry) (rows : List Row) → Vacant e → good_part (entry_part e rows) ≡ true
vacant_good e rows v =
    let p = entry_part e rows in
    ap (λ m. cond (is_free m) true (is_few p.kinds && (list_all (good_row p.kinds) p.rows && cond (is_published m) (is_listed p.rows) true))) v.mark

-- a draft need not be in order
pub draft_order : (m : Mark) (b : Bool) → m ≡ Draft → cond (is_published m) b true ≡ true
draft_order m b h = ap (λ x. cond (is_published x) b true) h

-- a sound store with one entry changed
pub sound_set : (es : List Entry) (rs rs' : List Row) (i : ℕ) (e' : Entry) (new : List Row) → Sound es rs → i < length es →
    parts (set es i e') rs' ≡ set (parts es rs) i (entry_part e' new) →
    Room (set es i e') rs' → Blanks (set es i e') rs' → Apart (set es i e') → (e'.mark ≡ Free → e'.count ≡ 0) → good_part (entry_part e' new) ≡ true → Sound (set es i e') rs'
sound_set es rs rs' i e' new s h changed room blanks far empty good = record {
  all = length-set es i e' ∙ s.all;
  room = room;
  blanks = blanks;
  apart = far;
  empty = λ k m. elim (cases_eq k i) [
    | inl p ↦ let q : get_or (set es i e') k free ≡ e' = ap (λ x. get_or (set es i e') x free) p ∙ get_or-set_same es i e' free h in ap (λ x. x.count) q ∙ empty (sym (ap (λ x. x.mark) q) ∙ m)
    | inr ne ↦ let q = get_or-set_other es i k e' free ne in ap (λ x. x.count) q ∙ s.empty k (sym (ap (λ x. x.mark) q) ∙ m)
  ];
  fitting = ap (list_all good_part) changed ∙ every_set good_part (parts es rs) i (entry_part e' new) s.fitting good;
}

-- ---- an entry in use is changed, and keeps its name and its kinds

pub change_result : (s t : Store) (i : ℕ) (e' : Entry) (new : List Row) → Whole s → i < most_entries →
    bearer (get_or s.directory.entries i free) (code_at s i) ≡ true →
    e'.name.code ≡ code_at s i →
    ((m : ℕ) → bearer e' m ≡ bearer (get_or s.directory.entries i free) m) →
    e'.kinds ≡ (get_or s.directory.entries i free).kinds →
    e'.count ≡ length new →
    t.directory.entries ≡ set s.directory.entries i e' →
    parts (set s.directory.entries i e') t.rows.now ≡ set (parts s.directory.entries s.rows.now) i (entry_part e' new) →
    Room (set s.directory.entries i e') t.rows.now →
    Blanks (set s.directory.entries i e') t.rows.now →
    length t.rows.now ≡ length s.rows.now →
    drop most_stored t.rows.now ≡ drop most_stored s.rows.now →
    good_part (entry_part e' new) ≡ true →
    (Whole t) × Leaves s t (code_at s i) (Some (entry_part e' new))
change_result s t i e' new whole h stands code same kinds count p changed room blanks long past good =
    let es = s.directory.entries in
    let rs = s.rows.now in
    let rs' = t.rows.now in
    let e = get_or es i free in
    let n = e.name.code in
    let l : i < length es = omega (arith, whole.all) in
    let o = only_here es rs rs' i n e' new l changed
    (λ m ne. bears_one e.mark n m n stands ne)
    (λ m ne. same m ∙ bears_one e.mark n m n stands ne)
    (alone es i n whole.apart stands)
    (same n ∙ stands) in
    let far : Apart (set es i e') = apart_set es i e' l whole.apart
    (λ k ne. ap₂ (λ x y. cond x y false) (ap (bearer e') code ∙ same n) (ap (bearer (get_or es k free)) code) ∙ not_rivals e (get_or es k free) (λ r. ne (sym (whole.apart i k r))))
    (λ k ne. ap (λ x. cond (bearer (get_or es k free) (get_or es k free).name.code) x false) (same (get_or es k free).name.code) ∙ not_rivals (get_or es k free) e (λ r. ne (whole.apart k i r))) in
    let sound : Sound (set es i e') rs' = sound_set es rs rs' i e' new whole l changed room blanks far
    (λ m. absurd (both_ways (bearer e' n) (ap (λ x. bears x e'.name.code n) m) (same n ∙ stands)))
    good in
    let t' : held t ≡ named (parts (set es i e') rs') = ap (λ x. named (parts x rs')) p in
    let u0 : used t ≡ total (set es i e') = ap total p in
    let u1 = total_set es i e' l in
    let u2 : size_of (held s n) ≡ e.count = ap size_of (held_at es rs i n whole.apart l stands) ∙ (length-map (old es rs i) (meant (length (items e.kinds))) ∙ old_length es rs i whole l) in
    let u3 : size_of (Some (entry_part e' new)) ≡ e'.count = length-map new (meant (length (items e'.kinds))) ∙ sym count in (
      subst (λ x. Sound x rs') (sym p) sound,
      record {
        only = record { here = ap (λ f. f n) t' ∙ o.here; other = λ m ne. ap (λ f. f m) t' ∙ o.other m ne };
        usage = omega (arith, u0, u1, u2, u3);
        rest = subst (λ x. Blanks x rs') (sym p) blanks;
        long = long;
        past = past;
      },
    )

-- ---- a row is added

-- the part with one row more
added_is : (e : Entry) (rows : List Row) (row : Row) → added row (Some (entry_part e rows)) ≡ Some (entry_part (grown e) (rows ++ row ∷ []))
added_is e rows row =
    let m = meant (length (items e.kinds)) in
    λ j. Some (record { name = e.name.code; mark = e.mark; kinds = items e.kinds; rows = sym (map_push m rows row) j })

draft_busy : (m : Mark) → m ≡ Draft → is_free m ≡ false
draft_busy m h = ap is_free h

pub add_result : (s t : Store) (i : ℕ) (row : Row) (at u : ℕ) →
    Whole s → i < most_entries → mark_at s i ≡ Draft → used s < rows_of s →
    good_row (items (get_or s.directory.entries i free).kinds) (meant (length (items (get_or s.directory.entries i free).kinds)) row) ≡ true →
    at ≡ total (take (i + 1) s.directory.entries) → u ≡ used s →
    t.directory.entries ≡ set s.directory.entries i (grown (get_or s.directory.entries i free)) →
    t.rows.now ≡ opened s.rows.now at u row →
    (Whole t) × Leaves s t (code_at s i) (added row (held s (code_at s i))) × ((get_or s.directory.entries i free).count + 1 ≡ size_of (held t (code_at s i)))
add_result s t i row at u whole h draft room good here use' p q =
    let es = s.directory.entries in
    let rs = s.rows.now in
    let rs' = t.rows.now in
    let e = get_or es i free in
    let n = e.name.code in
    let f = total (take i es) in
    let c = e.count in
    let r = total (drop (suc i) es) in
    let l : i < length es = omega (arith, whole.all) in
    let w = total_split es i free l in
    let a : at ≡ f + c = here ∙ sum_by_more (λ (x : Entry). x.count) es i free l in
    let b : u ≡ at + r = omega arith in
    let k : u < length rs = omega arith in
    let stands : bearer e n ≡ true = draft_bears e draft in
    let new : List Row = old es rs i ++ row ∷ [] in
    let z : c + 1 ≡ length (old es rs i ++ row ∷ []) = sym (length_push (old es rs i) row ∙ ap (λ x. x + 1) (old_length es rs i whole l)) in
    let changed : parts (set es i (grown e)) rs' ≡ set (parts es rs) i (entry_part (grown e) (old es rs i ++ row ∷ [])) =
    ap (parts (set es i (grown e))) q ∙ parts_change es i rs (opened rs at u row) free (grown e) (old es rs i ++ row ∷ []) l z
    (opened_front rs f c r at u row a b k) (opened_rest rs f c r at u row a b k) in
    let long : length rs' ≡ length rs = ap length q ∙ opened_length rs f c r at u row a b k in
    let past : drop most_stored rs' ≡ drop most_stored rs = ap (drop most_stored) q ∙ opened_past rs f c r at u row a b k most_stored (omega arith) in
    let more : total (set es i (grown e)) ≡ total es + 1 = let t = total_set es i (grown e) l in omega arith in
    let g = good_at es rs i whole l (draft_busy e.mark draft) in
    let fine : good_part (entry_part (grown e) (old es rs i ++ row ∷ [])) ≡ true = good_from (grown e) (old es rs i ++ row ∷ []) (record {
      few = g.few;
      rows_good = ap (list_all (good_row (items e.kinds))) (map_push (meant (length (items e.kinds))) (old es rs i) row) ∙ every_push (good_row (items e.kinds)) (map (meant (length (items e.kinds))) (old es rs i)) (meant (length (items e.kinds)) row) g.rows_good good;
      ordered = draft_order e.mark _ draft;
    }) in
    let made = change_result s t i (grown e) (old es rs i ++ row ∷ []) whole h stands refl (λ m. refl) refl z p changed
    (omega (arith, more, long))
    (λ j lo hi. ap (λ x. is_blank (get_or x j blank_row)) q ∙ (ap is_blank (opened_at rs f c r at u row a b k j blank_row (omega (arith, more))) ∙ whole.blanks j (omega (arith, more)) (omega (arith, long))))
    long past fine in
    let o : added row (held s n) ≡ Some (entry_part (grown e) (old es rs i ++ row ∷ [])) = ap (added row) (held_at es rs i n whole.apart l stands) ∙ added_is e (old es rs i) row in (
      made.0,
      subst (Leaves s t n) (sym o) made.1,
      z ∙ sym (ap size_of made.1.only.here ∙ length-map (old es rs i ++ row ∷ []) (meant (length (items e.kinds)))),
    )
