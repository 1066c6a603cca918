-- What clearing an entry and beginning a draft leave of a store.
use Rattle.std.proofs.Common.{◌≡◌, ℕ, suc, ◌+◌, ◌<◌, ◌≤◌, Bool, true, false, cond, List, [], length, get_or, take, drop, set, Some, None, sym, refl, ap, ◌∙◌, subst, inl, inr, zero-add, arith}
use Rattle.std.proofs.lemmas.List.{length-map}
use Rattle.std.proofs.lemmas.Bool.{both_ways, cases_lt, eq-eqb}
use Rattle.relation.specs.declared.kinds.Kind.{Kind}
use Rattle.relation.specs.Bounds.{most_entries, most_stored}
use Rattle.relation.specs.Few.{items}
use Rattle.relation.specs.Stored.{meant, blank_row}
use Rattle.register.specs.declared.entries.Mark.TheVariants.{Free}
use Rattle.register.specs.declared.entries.Entry.{Entry}
use Rattle.register.specs.declared.store.Store.{Store}
use Rattle.register.specs.Layout.{entry_part, parts, total, named, bears, bearer, free, is_few, is_blank, Vacant, Blanks, Sound, Begun}
use Rattle.register.specs.State.{held, used, Whole, Leaves, size_of, code_at, mark_at, opened}
use Rattle.register.proofs.Storage.{total_split, parts_change}
use Rattle.register.proofs.Naming.{vacant_bears, bears_one, bears_name, alone, only_here, only_gone, apart_set}
use Rattle.register.proofs.Moves.{closed, closed_length, closed_front, closed_rest, closed_past, closed_at, closed_blank}
use Rattle.register.proofs.Changes.{vacant_good, total_set, held_at, old, old_length, not_rivals, sound_set, good_from, draft_order}

same_sum : (s c : ℕ) → c ≡ 0 → s ≡ s + c
same_sum s c h = omega arith

both_false : (b : Bool) → cond b false false ≡ false
both_false true = refl
both_false false = refl

first : (b x : Bool) → cond b x false ≡ true → (b ≡ true) × (x ≡ true)
first true x h = (refl, h)
first false x h = absurd (both_ways false refl h)

-- ---- an entry in use is given up

pub clear_result : (s t : Store) (i at c u : ℕ) (e0 : Entry) → Vacant e0 → Whole s → i < most_entries → bearer (get_or s.directory.entries i free) (code_at s i) ≡ true →
    at ≡ total (take i s.directory.entries) → c ≡ (get_or s.directory.entries i free).count → u ≡ used s →
    t.directory.entries ≡ set s.directory.entries i e0 → t.rows.now ≡ closed s.rows.now at c u blank_row →
    (Whole t) × Leaves s t (code_at s i) None × (c ≡ size_of (held s (code_at s i)))
clear_result s t i at c u e0 v whole h stands a b d p q =
    let es = s.directory.entries in
    let rs = s.rows.now in
    let rs' = t.rows.now in
    let e = get_or es i free in
    let n = e.name.code in
    let f = total (take i es) in
    let r = total (drop (suc i) es) in
    let l : i < length es = omega (arith, whole.all) in
    let w : total es ≡ f + (e.count + r) = total_split es i free l in
    let b' : u ≡ f + (c + r) = omega (arith, w) in
    let k : u ≤ length rs = omega (arith, whole.room) in
    let front : take f rs' ≡ take f rs = ap (take f) q ∙ closed_front rs f c r at u blank_row a b' k in
    let rest : take (0 + r) (drop f rs') ≡ take r (drop (f + e.count) rs) =
    ap (λ x. take x (drop f rs')) (zero-add r) ∙ (ap (λ x. take r (drop f x)) q ∙ (closed_rest rs f c r at u blank_row a b' k ∙ ap (λ x. take r (drop (f + x) rs)) b)) in
    let changed : parts (set es i e0) rs' ≡ set (parts es rs) i (entry_part e0 []) = parts_change es i rs rs' free e0 [] l v.count front rest in
    let long : length rs' ≡ length rs = ap length q ∙ closed_length rs f c r at u blank_row a b' k in
    let past : drop most_stored rs' ≡ drop most_stored rs = ap (drop most_stored) q ∙ closed_past rs f c r at u blank_row a b' k most_stored (omega (arith, whole.room)) in
    let less : total (set es i e0) + e.count ≡ total es = omega (arith, total_set es i e0 l, v.count) in
    let o = only_gone es rs rs' i n e0 [] l changed
    (λ m ne. bears_one e.mark n m n stands ne)
    (alone es i n whole.apart stands)
    (λ m. vacant_bears e0 m v) in
    let sound : Sound (set es i e0) rs' = sound_set es rs rs' i e0 [] whole l changed
    (omega (arith, less, long, whole.room))
    (λ j lo hi. ap (λ x. is_blank (get_or x j blank_row)) q ∙ elim (cases_lt j u) [
      | inl m ↦ ap is_blank (closed_blank rs f c r at u blank_row a b' k j blank_row (omega (arith, less, w)) m)
      | inr g ↦ ap is_blank (closed_at rs f c r at u blank_row a b' k j blank_row g) ∙ whole.blanks j (omega arith) (omega (arith, long))
    ])
    (apart_set es i e0 l whole.apart
    (λ k ne. ap (λ b. cond b (bearer (get_or es k free) e0.name.code) false) (vacant_bears e0 e0.name.code v))
    (λ k ne. ap (λ b. cond (bearer (get_or es k free) (get_or es k free).name.code) b false) (vacant_bears e0 (get_or es k free).name.code v) ∙ both_false (bearer (get_or es k free) (get_or es k free).name.code)))
    (λ _. v.count)
    (vacant_good e0 [] v) in
    let t' : held t ≡ named (parts (set es i e0) rs') = ap (λ x. named (parts x rs')) p in
    let u0 : used t ≡ total (set es i e0) = ap total p in
    let u2 : size_of (held s n) ≡ e.count = ap size_of (held_at es rs i n whole.apart l stands) ∙ (length-map (old es rs i) (meant (length (items e.kinds))) ∙ old_length es rs i whole l) in (
      subst (λ x. Sound x rs') (sym p) sound,
      record {
        only = record { here = ap (λ g. g n) t' ∙ o.here; other = λ m ne. ap (λ g. g m) t' ∙ o.other m ne };
        usage = omega (arith, u0, u2, less);
        rest = subst (λ x. Blanks x rs') (sym p) sound.blanks;
        long = long;
        past = past;
      },
      b ∙ sym u2,
    )

-- ---- a draft is begun

pub draft_result : (s t : Store) (i n : ℕ) (e' : Entry) (ks : List Kind) → Whole s → i < most_entries → mark_at s i ≡ Free →
    ((k : ℕ) → bearer (get_or s.directory.entries k free) n ≡ false) → held s n ≡ None → is_few ks ≡ true → Begun e' n ks →
    t.directory.entries ≡ set s.directory.entries i e' → t.rows.now ≡ s.rows.now →
    (Whole t) × Leaves s t n (Some (opened n ks))
draft_result s t i n e' ks whole h spare none f0 few b p q =
    let es = s.directory.entries in
    let rs = s.rows.now in
    let e = get_or es i free in
    let l : i < length es = omega (arith, whole.all) in
    let w = total_split es i free l in
    let z : e.count ≡ 0 = whole.empty i spare in
    let a : bearer e' n ≡ true = ap (λ m. bears m e'.name.code n) b.mark ∙ eq-eqb e'.name.code n b.name in
    let c : parts (set es i e') rs ≡ set (parts es rs) i (entry_part e' []) =
    parts_change es i rs rs free e' [] l b.count refl
    (ap (λ k. take k (drop (total (take i es)) rs)) (zero-add (total (drop (suc i) es))) ∙ ap (λ k. take (total (drop (suc i) es)) (drop k rs)) (same_sum (total (take i es)) e.count z)) in
    let o = only_here es rs rs i n e' [] l c
    (λ m ne. ap (λ x. bears x e.name.code m) spare)
    (λ m ne. bears_one e'.mark e'.name.code m n a ne)
    (λ k ne. none k)
    a in
    let sh : entry_part e' [] ≡ opened n ks = λ j. record { name = b.name j; mark = b.mark j; kinds = b.kinds j; rows = [] } in
    let t' : held t ≡ named (parts (set es i e') rs) = ap (λ x. named (parts x t.rows.now)) p ∙ ap (λ y. named (parts (set es i e') y)) q in
    let u1 = total_set es i e' l in
    let u0 : used t ≡ total (set es i e') = ap total p in
    let u2 : size_of (held s n) ≡ 0 = ap size_of f0 in
    let sound : Sound (set es i e') rs = sound_set es rs rs i e' [] whole l c
    (omega (arith, u1, b.count, whole.room))
    (λ k lo hi. whole.blanks k (omega (arith, u1, z)) hi)
    (apart_set es i e' l whole.apart
    (λ k ne. not_rivals e' (get_or es k free) (λ r.
    let f = first (bearer e' e'.name.code) (bearer (get_or es k free) e'.name.code) r in
    both_ways (bearer (get_or es k free) n) (none k) (ap (bearer (get_or es k free)) (sym b.name) ∙ f.1)))
    (λ k ne. not_rivals (get_or es k free) e' (λ r.
    let f = first (bearer (get_or es k free) (get_or es k free).name.code) (bearer e' (get_or es k free).name.code) r in
    let g : e'.name.code ≡ (get_or es k free).name.code = bears_name e'.mark e'.name.code (get_or es k free).name.code f.1 in
    both_ways (bearer (get_or es k free) n) (none k) (ap (bearer (get_or es k free)) (sym b.name ∙ g) ∙ f.0))))
    (λ m. b.count)
    (good_from e' [] (record { few = ap is_few b.kinds ∙ few; rows_good = refl; ordered = draft_order e'.mark true b.mark })) in (
      subst (λ x. Sound x t.rows.now) (sym p) (subst (λ y. Sound (set es i e') y) (sym q) sound),
      record {
        only = record { here = ap (λ g. g n) t' ∙ (o.here ∙ ap Some sh); other = λ m ne. ap (λ g. g m) t' ∙ o.other m ne };
        usage = omega (arith, u0, u1, u2, z, b.count);
        rest = subst (λ x. Blanks x t.rows.now) (sym p) (subst (λ y. Blanks (set es i e') y) (sym q) sound.blanks);
        long = ap length q;
        past = ap (drop most_stored) q;
      },
    )
