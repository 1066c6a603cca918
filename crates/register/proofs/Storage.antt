-- What a change of one entry and of its rows leaves of the parts.
use Rattle.std.proofs.Common.{◌≡◌, ℕ, zero, suc, ◌+◌, ◌<◌, ◌≤◌, true, false, List, [], ◌∷◌, ◌++◌, length, get_or, take, drop, set, Some, sym, refl, ap, ◌∙◌, add_assoc, zero-add, arith}
use Rattle.std.proofs.lemmas.List.Quantifiers.{position-Some}
use Rattle.std.proofs.lemmas.List.Sums.{sum_by-cons}
use Rattle.std.proofs.lemmas.List.{length-take, take-take, drop-drop, drop-take, take_at, drop_at}
use Rattle.relation.specs.declared.rows.Row.{Row}
use Rattle.relation.specs.declared.few.Few.{Few}
use Rattle.relation.specs.Few.{items}
use Rattle.register.specs.declared.entries.Entry.{Entry}
use Rattle.std.proofs.lemmas.Bool.{both_ways}
use Rattle.register.specs.declared.entries.Mark.{Mark}
use Rattle.register.specs.declared.entries.Mark.TheVariants.{Free, Draft, Published}
use Rattle.register.specs.Layout.{entry_part, parts, total, is_free, free, first_free}

-- one entry more
pub total_cons : (x : Entry) (xs : List Entry) → total (x ∷ xs) ≡ x.count + total xs
total_cons x xs = sum_by-cons (λ (e : Entry). e.count) x xs

pub total_split : (xs : List Entry) (i : ℕ) (d : Entry) → i < length xs → total xs ≡ total (take i xs) + ((get_or xs i d).count + total (drop (suc i) xs))
total_split [] i d h = absurd (omega arith)
total_split (x ∷ xs) zero d h = omega (arith, total_cons x xs)
total_split (x ∷ xs) (suc i) d h = omega (arith, total_split xs i d (omega arith), total_cons x xs, total_cons x (take i xs))

-- only the rows that belong to the entries matter
pub parts_front : (es : List Entry) (rs rs' : List Row) → take (total es) rs ≡ take (total es) rs' → parts es rs ≡ parts es rs'
parts_front [] rs rs' h = refl
parts_front (e ∷ es) rs rs' g =
    let h : take (e.count + total es) rs ≡ take (e.count + total es) rs' = rw (sym (total_cons e es)) g in
    let a : take e.count rs ≡ take e.count rs' = sym (take-take e.count (e.count + total es) rs (omega arith)) ∙ (ap (take e.count) h ∙ take-take e.count (e.count + total es) rs' (omega arith)) in
    let b : take (total es) (drop e.count rs) ≡ take (total es) (drop e.count rs') = sym (drop-take e.count (total es) rs) ∙ (ap (drop e.count) h ∙ drop-take e.count (total es) rs') in
    let r = parts_front es (drop e.count rs) (drop e.count rs') b in
    cc

-- one entry and its rows are changed, and the rows after them are moved
pub parts_change :
    (es : List Entry) (i : ℕ) (rs rs' : List Row) (d e' : Entry) (new : List Row) →
    i < length es →
    e'.count ≡ length new →
    take (total (take i es)) rs' ≡ take (total (take i es)) rs →
    take (length new + total (drop (suc i) es)) (drop (total (take i es)) rs') ≡ new ++ take (total (drop (suc i) es)) (drop (total (take i es) + (get_or es i d).count) rs) →
    parts (set es i e') rs' ≡ set (parts es rs) i (entry_part e' new)
parts_change [] i rs rs' d e' new h n t f = absurd (omega arith)
parts_change (e ∷ es) zero rs rs' d e' new h n t f =
    let q = total es in
    let l = length new in
    let X : List Row = take q (drop e.count rs) in
    let f' : take (l + q) rs' ≡ new ++ X = f ∙ ap (λ k. new ++ take q (drop k rs)) (zero-add e.count) in
    let a : take e'.count rs' ≡ new = ap (λ k. take k rs') n ∙ (sym (take-take l (l + q) rs' (omega arith)) ∙ (ap (take l) f' ∙ take_at new X l refl)) in
    let b : take q (drop l rs') ≡ X = sym (drop-take l q rs') ∙ (ap (drop l) f' ∙ drop_at new X l refl) in
    let r = parts_front es (drop l rs') (drop e.count rs) b in
    let m : drop e'.count rs' ≡ drop l rs' = ap (λ k. drop k rs') n in
    cc
parts_change (e ∷ es) (suc i) rs rs' d e' new h n t0 f0 =
    let c = e.count in
    let s = total (take i es) in
    let w = total_cons e (take i es) in
    let t : take (c + s) rs' ≡ take (c + s) rs = rw (sym w) t0 in
    let f : take (length new + total (drop (suc i) es)) (drop (c + s) rs') ≡ new ++ take (total (drop (suc i) es)) (drop (c + s + (get_or es i d).count) rs) = rw (sym w) f0 in
    let k = (get_or es i d).count in
    let q = total (drop (suc i) es) in
    let l = length new in
    let a : take c rs' ≡ take c rs = sym (take-take c (c + s) rs' (omega arith)) ∙ (ap (take c) t ∙ take-take c (c + s) rs (omega arith)) in
    let t' : take s (drop c rs') ≡ take s (drop c rs) = sym (drop-take c s rs') ∙ (ap (drop c) t ∙ drop-take c s rs) in
    let f' : take (l + q) (drop s (drop c rs')) ≡ new ++ take q (drop (s + k) (drop c rs)) =
    ap (take (l + q)) (drop-drop s c rs') ∙ (f ∙ ap (λ x. new ++ take q x) (ap (λ x. drop x rs) (add_assoc c s k) ∙ sym (drop-drop (s + k) c rs))) in
    let r = parts_change es i (drop c rs) (drop c rs') d e' new (omega arith) n t' f' in
    cc

pub free_from : (m : Mark) → is_free m ≡ true → m ≡ Free
free_from Free h = refl
free_from Draft h = absurd (both_ways false refl h)
free_from Published h = absurd (both_ways false refl h)

-- an entry's kinds are few
pub few_items : {X : Type 0} {n : ℕ} (f : Few X n) → length (items f) ≤ n
few_items f = let h = f.within in simp length-take (omega arith)

-- the first free entry
pub spare_at : (es : List Entry) (i : ℕ) → first_free es ≡ Some i → (i < length es) × ((get_or es i free).mark ≡ Free)
spare_at es i h = let p = position-Some (λ (e : Entry). is_free e.mark) es i free h in (p.0, free_from (get_or es i free).mark p.1)
