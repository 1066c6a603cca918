-- The ordinary operations do not tell sets with the same members apart.
use Rattle.std.proofs.Common.{◌≡◌, ℕ, Bool, true, false, cond, not, ◌&&◌, ltb, leb, ◌⊎◌, List, [], ◌∷◌, ◌++◌, map, filter, sym, refl, ap, ◌∙◌, subst, inl, inr, ⊎_elim, true≢false}
use Rattle.std.specs.List.{flat_map}
use Rattle.relation.specs.declared.conditions.Condition.{Condition}
use Rattle.relation.specs.Lists.{Member}
use Rattle.relation.specs.Sets.{Tuple, TupleSet, Same, has}
use Rattle.relation.specs.Operations.{select, project, window, union, join, except, meets, picked, paired, unnamed}
use Rattle.relation.proofs.TupleSets.{has_decides}

abbrev Within : TupleSet → TupleSet → Type 0
Within S U = (t : Tuple) → Member S t → Member U t

same : (S U : TupleSet) → Within S U → Within U S → Same S U
same S U h k t = (h t, k t)

-- ---- a filter

kept_from : (p : Tuple → Bool) (S : TupleSet) (t : Tuple) → Member (filter p S) t → Member S t × (p t ≡ true)
kept_from p [] t m = absurd m
kept_from p (s ∷ S) t m = step (p s) refl m (kept_from p S t)
  where
    step : (b : Bool) → p s ≡ b → Member (cond b (s ∷ filter p S) (filter p S)) t → (Member (filter p S) t → Member S t × (p t ≡ true)) → ((s ≡ t) ⊎ Member S t) × (p t ≡ true)
    step true e (inl q) rec = (inl q, ap p (sym q) ∙ e)
    step true e (inr q) rec = (inr (rec q).0, (rec q).1)
    step false e q rec = (inr (rec q).0, (rec q).1)

kept_to : (p : Tuple → Bool) (S : TupleSet) (t : Tuple) → p t ≡ true → Member S t → Member (filter p S) t
kept_to p [] t e m = absurd m
kept_to p (s ∷ S) t e m = step (p s) refl m (kept_to p S t e)
  where
    step : (b : Bool) → p s ≡ b → (s ≡ t) ⊎ Member S t → (Member S t → Member (filter p S) t) → Member (cond b (s ∷ filter p S) (filter p S)) t
    step true f (inl q) rec = inl q
    step true f (inr q) rec = inr (rec q)
    step false f (inl q) rec = absurd (true≢false (sym e ∙ ap p (sym q) ∙ f))
    step false f (inr q) rec = rec q

kept_within : (p q : Tuple → Bool) → ((t : Tuple) → p t ≡ true → q t ≡ true) → (S U : TupleSet) → Within S U → Within (filter p S) (filter q U)
kept_within p q f S U h t m = let k = kept_from p S t m in kept_to q U t (f t k.1) (h t k.0)

-- ---- a map, and lists joined

map_from : (f : Tuple → Tuple) (S : TupleSet) (t : Tuple) → Member (map f S) t → (s : Tuple) × (Member S s × (f s ≡ t))
map_from f [] t m = absurd m
map_from f (s ∷ S) t (inl e) = (s, (inl refl, e))
map_from f (s ∷ S) t (inr m) = let k = map_from f S t m in (k.0, (inr k.1.0, k.1.1))

map_to : (f : Tuple → Tuple) (S : TupleSet) (s t : Tuple) → Member S s → f s ≡ t → Member (map f S) t
map_to f [] s t m e = absurd m
map_to f (r ∷ S) s t (inl g) e = inl (ap f g ∙ e)
map_to f (r ∷ S) s t (inr m) e = inr (map_to f S s t m e)

map_within : (f : Tuple → Tuple) (S U : TupleSet) → Within S U → Within (map f S) (map f U)
map_within f S U h t m = let k = map_from f S t m in map_to f U k.0 t (h k.0 k.1.0) k.1.1

append_left : (S U : TupleSet) (t : Tuple) → Member S t → Member (S ++ U) t
append_left [] U t m = absurd m
append_left (s ∷ S) U t (inl e) = inl e
append_left (s ∷ S) U t (inr m) = inr (append_left S U t m)

append_right : (S U : TupleSet) (t : Tuple) → Member U t → Member (S ++ U) t
append_right [] U t m = m
append_right (s ∷ S) U t m = inr (append_right S U t m)

append_parts : (S U : TupleSet) (t : Tuple) → Member (S ++ U) t → Member S t ⊎ Member U t
append_parts [] U t m = inr m
append_parts (s ∷ S) U t (inl e) = inl (inl e)
append_parts (s ∷ S) U t (inr m) = ⊎_elim (λ a. inl (inr a)) (λ b. inr b) (append_parts S U t m)

joined_from : (f : Tuple → TupleSet) (S : TupleSet) (t : Tuple) → Member (flat_map f S) t → (s : Tuple) × (Member S s × Member (f s) t)
joined_from f [] t m = absurd m
joined_from f (s ∷ S) t m = ⊎_elim (λ a. (s, (inl refl, a))) (λ b. let k = joined_from f S t b in (k.0, (inr k.1.0, k.1.1))) (append_parts (f s) (flat_map f S) t m)

joined_to : (f : Tuple → TupleSet) (S : TupleSet) (s t : Tuple) → Member S s → Member (f s) t → Member (flat_map f S) t
joined_to f [] s t m n = absurd m
joined_to f (r ∷ S) s t (inl e) n = append_left (f r) (flat_map f S) t (subst (λ x. Member (f x) t) (sym e) n)
joined_to f (r ∷ S) s t (inr m) n = append_right (f r) (flat_map f S) t (joined_to f S s t m n)

-- ---- the operations

pub select_same : (q : Condition) (S U : TupleSet) → Same S U → Same (select q S) (select q U)
select_same q S U h = same (select q S) (select q U) (kept_within (meets q) (meets q) (λ t e. e) S U (λ t. (h t).0)) (kept_within (meets q) (meets q) (λ t e. e) U S (λ t. (h t).1))

pub project_same : (cs : List ℕ) (S U : TupleSet) → Same S U → Same (project cs S) (project cs U)
project_same cs S U h = same (project cs S) (project cs U) (map_within (picked cs) S U (λ t. (h t).0)) (map_within (picked cs) U S (λ t. (h t).1))

cond_same : (b : Bool) (S U : TupleSet) → Same S U → Same (cond b S []) (cond b U [])
cond_same true S U h = h
cond_same false S U h = λ t. (λ m. m, λ m. m)

pub window_same : (first end d : ℕ) (S U : TupleSet) → Same S U → Same (window first end d S) (window first end d U)
window_same first end d S U h = cond_same (leb first d && ltb d end) S U h

union_within : (S S' U U' : TupleSet) → Within S S' → Within U U' → Within (union S U) (union S' U')
union_within S S' U U' h k t m = ⊎_elim (λ a. append_left S' U' t (h t a)) (λ b. append_right S' U' t (k t b)) (append_parts S U t m)

pub union_same : (S S' U U' : TupleSet) → Same S S' → Same U U' → Same (union S U) (union S' U')
union_same S S' U U' h k = same (union S U) (union S' U') (union_within S S' U U' (λ t. (h t).0) (λ t. (k t).0)) (union_within S' S U' U (λ t. (h t).1) (λ t. (k t).1))

lacks_within : (U V : TupleSet) → Within V U → (t : Tuple) → not (has U t) ≡ true → not (has V t) ≡ true
lacks_within U V h t e = step (has V t) refl
  where
    step : (b : Bool) → has V t ≡ b → not b ≡ true
    step true f = absurd (true≢false (sym e ∙ ap not ((has_decides U t).1 (h t ((has_decides V t).0 f)))))
    step false f = refl

pub except_same : (S S' U U' : TupleSet) → Same S S' → Same U U' → Same (except S U) (except S' U')
except_same S S' U U' h k =
    same (except S U) (except S' U')
    (kept_within (λ t. not (has U t)) (λ t. not (has U' t)) (lacks_within U U' (λ t. (k t).1)) S S' (λ t. (h t).0))
    (kept_within (λ t. not (has U' t)) (λ t. not (has U t)) (lacks_within U' U (λ t. (k t).0)) S' S (λ t. (h t).1))

join_within : (ps : List (ℕ × ℕ)) (S S' U U' : TupleSet) → Within S S' → Within U U' → Within (join ps S U) (join ps S' U')
join_within ps S S' U U' h k t m =
    let p = joined_from (λ s. map (λ u. s ++ unnamed ps 1 u) (filter (paired ps s) U)) S t m in
    joined_to (λ s. map (λ u. s ++ unnamed ps 1 u) (filter (paired ps s) U')) S' p.0 t (h p.0 p.1.0)
    (map_within (λ u. p.0 ++ unnamed ps 1 u) (filter (paired ps p.0) U) (filter (paired ps p.0) U') (kept_within (paired ps p.0) (paired ps p.0) (λ t e. e) U U' k) t p.1.1)

pub join_same : (ps : List (ℕ × ℕ)) (S S' U U' : TupleSet) → Same S S' → Same U U' → Same (join ps S U) (join ps S' U')
join_same ps S S' U U' h k = same (join ps S U) (join ps S' U') (join_within ps S S' U U' (λ t. (h t).0) (λ t. (k t).0)) (join_within ps S' S U' U (λ t. (h t).1) (λ t. (k t).1))
