-- What a change of one part leaves of the names.
use Rattle.std.proofs.Common.{◌≡◌, ℕ, zero, suc, ◌<◌, true, false, cond, List, [], ◌∷◌, length, get_or, take, drop, set, Some, None, sym, refl, ap, ◌∙◌, inl, inr, arith}
use Rattle.std.proofs.lemmas.List.{drop-drop, length-set, get_or-set_same, get_or-set_other}
use Rattle.std.proofs.lemmas.Bool.{both_ways, cases_Bool, cases_eq, cond-true, cond-false, eqb-true, ne_eqb}
use Rattle.relation.specs.declared.rows.Row.{Row}
use Rattle.register.specs.declared.entries.Mark.{Mark}
use Rattle.register.specs.declared.entries.Mark.TheVariants.{Free, Draft, Published}
use Rattle.register.specs.declared.entries.Entry.{Entry}
use Rattle.register.proofs.Storage.{total_cons}
use Rattle.register.specs.Layout.{Part, entry_part, parts, total, named, bears, bearer, bearing, free, rivals, Vacant, Apart, Only}

pub length_parts : (es : List Entry) (rs : List Row) → length (parts es rs) ≡ length es
length_parts [] rs = refl
length_parts (e ∷ es) rs = ap suc (length_parts es (drop e.count rs))

pub parts_at : (es : List Entry) (rs : List Row) (k : ℕ) (d : Part) → k < length es → get_or (parts es rs) k d ≡ entry_part (get_or es k free) (take (get_or es k free).count (drop (total (take k es)) rs))
parts_at [] rs k d h = absurd (omega arith)
parts_at (e ∷ es) rs zero d h = refl
parts_at (e ∷ es) rs (suc k) d h =
    parts_at es (drop e.count rs) k d (omega arith)
    ∙ ap (λ x. entry_part (get_or es k free) (take (get_or es k free).count x)) (drop-drop (total (take k es)) e.count rs ∙ ap (λ n. drop n rs) (sym (total_cons e (take k es))))

-- an entry bears one name only
pub bears_one : (m : Mark) (a b n : ℕ) → bears m a n ≡ true → (b ≡ n → ⊥) → bears m a b ≡ false
bears_one Free a b n h ne = refl
bears_one Draft a b n h ne = ne_eqb a b (λ e. ne (sym e ∙ eqb-true a n h))
bears_one Published a b n h ne = ne_eqb a b (λ e. ne (sym e ∙ eqb-true a n h))

-- an entry that is not in use bears no name
pub vacant_bears : (e : Entry) (m : ℕ) → Vacant e → bearer e m ≡ false
vacant_bears e m v = ap (λ k. bears k e.name.code m) v.mark

pub named_at : (ps : List Part) (i n : ℕ) (d : Part) → i < length ps → ((k : ℕ) → k < i → bearing (get_or ps k d) n ≡ false) → bearing (get_or ps i d) n ≡ true → named ps n ≡ Some (get_or ps i d)
named_at [] i n d h none b = absurd (omega arith)
named_at (p ∷ ps) zero n d h none b = cond-true (bearing p n) (Some p) (named ps n) b
named_at (p ∷ ps) (suc i) n d h none b =
    cond-false (bearing p n) (Some p) (named ps n) (none 0 (omega arith))
    ∙ named_at ps i n d (omega arith) (λ k l. none (suc k) (omega arith)) b

pub named_none : (ps : List Part) (n : ℕ) (d : Part) → ((k : ℕ) → k < length ps → bearing (get_or ps k d) n ≡ false) → named ps n ≡ None
named_none [] n d none = refl
named_none (p ∷ ps) n d none =
    cond-false (bearing p n) (Some p) (named ps n) (none 0 (omega arith))
    ∙ named_none ps n d (λ k l. none (suc k) (omega arith))

pub named_other : (ps : List Part) (i m : ℕ) (p' d : Part) → i < length ps → bearing (get_or ps i d) m ≡ false → bearing p' m ≡ false → named (set ps i p') m ≡ named ps m
named_other [] i m p' d h a b = absurd (omega arith)
named_other (p ∷ ps) zero m p' d h a b = cond-false (bearing p' m) (Some p') (named ps m) b ∙ sym (cond-false (bearing p m) (Some p) (named ps m) a)
named_other (p ∷ ps) (suc i) m p' d h a b = ap (λ o. cond (bearing p m) (Some p) o) (named_other ps i m p' d (omega arith) a b)

pub bears_name : (m : Mark) (a n : ℕ) → bears m a n ≡ true → a ≡ n
bears_name Free a n h = absurd (both_ways false refl h)
bears_name Draft a n h = eqb-true a n h
bears_name Published a n h = eqb-true a n h

pub rivals_from : (e f : Entry) (n : ℕ) → bearer e n ≡ true → bearer f n ≡ true → rivals e f ≡ true
rivals_from e f n a b =
    let q = bears_name e.mark e.name.code n a in
    cond-true (bearer e e.name.code) (bearer f e.name.code) false (ap (bearer e) q ∙ a) ∙ (ap (bearer f) q ∙ b)

-- no other entry bears the name
pub alone : (es : List Entry) (i n : ℕ) → Apart es → bearer (get_or es i free) n ≡ true → (k : ℕ) → (k ≡ i → ⊥) → bearer (get_or es k free) n ≡ false
alone es i n far b k ne = elim (cases_Bool (bearer (get_or es k free) n)) [
  | inl t ↦ absurd (ne (far k i (rivals_from (get_or es k free) (get_or es i free) n t b)))
  | inr f ↦ f
]

module _ (es : List Entry) (rs rs' : List Row) (i n : ℕ) (e' : Entry) (new : List Row) (h : i < length es)
    (changed : parts (set es i e') rs' ≡ set (parts es rs) i (entry_part e' new)) where
  nobody : Part
  nobody = entry_part free []

  bearing_at : (k m : ℕ) → k < length es → bearing (get_or (parts es rs) k nobody) m ≡ bearer (get_or es k free) m
  bearing_at k m l = ap (λ p. bearing p m) (parts_at es rs k nobody l)

  others : (m : ℕ) → bearer (get_or es i free) m ≡ false → bearer e' m ≡ false → named (parts (set es i e') rs') m ≡ named (parts es rs) m
  others m a b =
      let l : i < length (parts es rs) = simp length_parts h in
      ap (λ ps. named ps m) changed ∙ named_other (parts es rs) i m (entry_part e' new) nobody l (bearing_at i m h ∙ a) b

  pub only_here :
      ((m : ℕ) → (m ≡ n → ⊥) → bearer (get_or es i free) m ≡ false) →
      ((m : ℕ) → (m ≡ n → ⊥) → bearer e' m ≡ false) →
      ((k : ℕ) → (k ≡ i → ⊥) → bearer (get_or es k free) n ≡ false) →
      bearer e' n ≡ true →
      Only (named (parts es rs)) (named (parts (set es i e') rs')) n (Some (entry_part e' new))
  only_here old fresh lone b =
      let l : i < length (parts es rs) = simp length_parts h in
      let l' : i < length (set (parts es rs) i (entry_part e' new)) = simp length-set l in
      let s : get_or (set (parts es rs) i (entry_part e' new)) i nobody ≡ entry_part e' new = get_or-set_same (parts es rs) i (entry_part e' new) nobody l in
      let before : (k : ℕ) → k < i → bearing (get_or (set (parts es rs) i (entry_part e' new)) k nobody) n ≡ false =
      λ k g. ap (λ p. bearing p n) (get_or-set_other (parts es rs) i k (entry_part e' new) nobody (omega arith)) ∙ (bearing_at k n (omega arith) ∙ lone k (omega arith)) in
      record {
        here = ap (λ ps. named ps n) changed ∙ (named_at (set (parts es rs) i (entry_part e' new)) i n nobody l' before (ap (λ p. bearing p n) s ∙ b) ∙ ap Some s);
        other = λ m ne. others m (old m ne) (fresh m ne);
      }

  pub only_gone :
      ((m : ℕ) → (m ≡ n → ⊥) → bearer (get_or es i free) m ≡ false) →
      ((k : ℕ) → (k ≡ i → ⊥) → bearer (get_or es k free) n ≡ false) →
      ((m : ℕ) → bearer e' m ≡ false) →
      Only (named (parts es rs)) (named (parts (set es i e') rs')) n None
  only_gone old lone b =
      let l : i < length (parts es rs) = simp length_parts h in
      let none : (k : ℕ) → k < length (set (parts es rs) i (entry_part e' new)) → bearing (get_or (set (parts es rs) i (entry_part e' new)) k nobody) n ≡ false =
      λ k g. elim (cases_eq k i) [
        | inl q ↦ ap (λ j. bearing (get_or (set (parts es rs) i (entry_part e' new)) j nobody) n) q ∙ (ap (λ p. bearing p n) (get_or-set_same (parts es rs) i (entry_part e' new) nobody l) ∙ b n)
        | inr ne ↦
            let g' : k < length es = omega (arith, g, length-set (parts es rs) i (entry_part e' new), length_parts es rs) in
            ap (λ p. bearing p n) (get_or-set_other (parts es rs) i k (entry_part e' new) nobody ne) ∙ (bearing_at k n g' ∙ lone k ne)
      ] in
      record {
        here = ap (λ ps. named ps n) changed ∙ named_none (set (parts es rs) i (entry_part e' new)) n nobody none;
        other = λ m ne. others m (old m ne) (b m);
      }

-- the entries stay apart where one is changed
pub apart_set : (es : List Entry) (i : ℕ) (e' : Entry) → i < length es → Apart es →
    ((k : ℕ) → (k ≡ i → ⊥) → rivals e' (get_or es k free) ≡ false) →
    ((k : ℕ) → (k ≡ i → ⊥) → rivals (get_or es k free) e' ≡ false) →
    Apart (set es i e')
apart_set es i e' h far from to j k r = elim (cases_eq j i) [
  | inl p ↦ elim (cases_eq k i) [
    | inl q ↦ p ∙ sym q
    | inr ne ↦
        let a : get_or (set es i e') j free ≡ e' = ap2 j p in
        let b : get_or (set es i e') k free ≡ get_or es k free = get_or-set_other es i k e' free ne in
        absurd (both_ways (rivals e' (get_or es k free)) (from k ne) (rw (a, b) at r))
  ]
  | inr ne ↦ elim (cases_eq k i) [
    | inl q ↦
        let a : get_or (set es i e') k free ≡ e' = ap2 k q in
        let b : get_or (set es i e') j free ≡ get_or es j free = get_or-set_other es i j e' free ne in
        absurd (both_ways (rivals (get_or es j free) e') (to j ne) (rw (b, a) at r))
    | inr nk ↦
        let a : get_or (set es i e') j free ≡ get_or es j free = get_or-set_other es i j e' free ne in
        let b : get_or (set es i e') k free ≡ get_or es k free = get_or-set_other es i k e' free nk in
        far j k (rw (a, b) at r)
  ]
]
  where
    ap2 : (x : ℕ) → x ≡ i → get_or (set es i e') x free ≡ e'
    ap2 x q = ap (λ y. get_or (set es i e') y free) q ∙ get_or-set_same es i e' free h
