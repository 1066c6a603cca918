-- A tally is what its rule says, and depends only on the set.
use Rattle.std.proofs.Common.{◌≡◌, ℕ, suc, Bool, true, false, cond, ◌⊎◌, List, [], ◌∷◌, ◌++◌, length, take, ℤ, pos, ◌+ℤ◌, ◌≤ℤ◌, sym, refl, ap, ◌∙◌, subst, ap₂, inl, inr, arith}
use mathlib.Core.Logic.{⊎_swap}
use Rattle.std.proofs.lemmas.List.{take_at, length-map}
use lib.Signed.{lt_z, ≤ℤ_refl}
use Rattle.std.specs.Int.{int_min, int_max}
use Rattle.std.proofs.lemmas.Int.{ints, clamps}
use Rattle.relation.specs.Lists.{Member}
use Rattle.tallies.specs.declared.rules.Tally.{Tally}
use Rattle.tallies.specs.declared.rules.Tally.TheVariants.{Count, Sum, Min, Max}
use Rattle.relation.specs.Sets.{Tuple, TupleSet, Same, column, equal}
use Rattle.relation.specs.Operations.{picked}
use Rattle.tallies.specs.Tallies.{once, total, best, value, group, tally, Value, Groups, Tallied}
use Rattle.tallies.specs.TallyTheorems as theorems
use Rattle.tallies.proofs.Folds.{over, same_over}
use Rattle.relation.proofs.TupleSets.{equal_decides}
use Rattle.tallies.proofs.Members.{once_same, once_distinct, member_kept_by, from_map, to_map}

-- ---- one value

lengths : {X : Type 0} (xs : List X) → over (λ _ n. suc n) (λ _ _ _. refl) 0 xs ≡ length xs
lengths [] = refl
lengths (x ∷ xs) = ap suc (lengths xs)

swapped : (c : ℕ) (x y : Tuple) (b : ℤ) → column c x +ℤ (column c y +ℤ b) ≡ column c y +ℤ (column c x +ℤ b)
swapped c x y b = omega (arith, ints)

totals : (c : ℕ) (xs : List Tuple) → over (λ t n. column c t +ℤ n) (swapped c) (pos 0) xs ≡ total c xs
totals c [] = refl
totals c (x ∷ xs) = ap (λ n. column c x +ℤ n) (totals c xs)

back : (S U : TupleSet) → Same S U → Same U S
back S U s t = ((s t).1, (s t).0)

chain : (S U V : TupleSet) → Same S U → Same U V → Same S V
chain S U V p q t = (λ m. (q t).0 ((p t).0 m), λ m. (p t).1 ((q t).1 m))

pub one_value : theorems.OneValue
one_value Count S v v' a b =
    let e = same_over (λ _ n. suc n) (λ _ _ _. refl) 0 a.0 b.0 a.1.0.0 b.1.0.0 (chain a.0 S b.0 a.1.0.1 (back b.0 S b.1.0.1)) in
    a.1.1 ∙ ap pos (sym (lengths a.0) ∙ e ∙ lengths b.0) ∙ sym b.1.1
one_value (Sum c) S v v' a b =
    let e = same_over (λ t n. column c t +ℤ n) (swapped c) (pos 0) a.0 b.0 a.1.0.0 b.1.0.0 (chain a.0 S b.0 a.1.0.1 (back b.0 S b.1.0.1)) in
    a.1.1 ∙ sym (totals c a.0) ∙ e ∙ totals c b.0 ∙ sym b.1.1
one_value (Min c) S v v' a b =
    let p : v ≤ℤ column c b.0.0 = a.1 b.0.0 b.0.1.0 in
    let q : v' ≤ℤ column c a.0.0 = b.1 a.0.0 a.0.1.0 in
    omega (arith, ints, a.0.1.1, b.0.1.1)
one_value (Max c) S v v' a b =
    let p : column c b.0.0 ≤ℤ v = a.1 b.0.0 b.0.1.0 in
    let q : column c a.0.0 ≤ℤ v' = b.1 a.0.0 a.0.1.0 in
    omega (arith, ints, a.0.1.1, b.0.1.1)

-- ---- the value of a set

pub valued : (w : Tally) (S U : TupleSet) → Same S U → (v : ℤ) → Value w S v → Value w U v
valued Count S U s v a = (a.0, ((a.1.0.0, chain a.0 S U a.1.0.1 s), a.1.1))
valued (Sum c) S U s v a = (a.0, ((a.1.0.0, chain a.0 S U a.1.0.1 s), a.1.1))
valued (Min c) S U s v a = ((a.0.0, ((s a.0.0).0 a.0.1.0, a.0.1.1)), λ t u. a.1 t ((s t).1 u))
valued (Max c) S U s v a = ((a.0.0, ((s a.0.0).0 a.0.1.0, a.0.1.1)), λ t u. a.1 t ((s t).1 u))

-- the best by f, which picks one of two that is nearest by L
module _ (f : ℤ → ℤ → ℤ) (L : ℤ → ℤ → Type 0) (itself : (x : ℤ) → L x x) (trans : (x y z : ℤ) → L x y → L y z → L x z) (law : (x y : ℤ) → L (f x y) x × L (f x y) y × ((f x y ≡ x) ⊎ (f x y ≡ y))) (c : ℕ) where
  best_is : (t : Tuple) (S : TupleSet) → ((u : Tuple) × (Member (t ∷ S) u × (column c u ≡ best f c t S))) × ((u : Tuple) → Member (t ∷ S) u → L (best f c t S) (column c u))
  best_is t [] = ((t, (inl refl, refl)), bound)
    where
      bound : (u : Tuple) → (t ≡ u) ⊎ ⊥ → L (column c t) (column c u)
      bound u (inl e) = subst (λ x. L (column c t) (column c x)) e (itself (column c t))
      bound u (inr m) = absurd m
  best_is t (s ∷ S) = step (best_is s S) (law (column c t) (best f c s S)).2
    where
      goal : ℤ → Type 0
      goal v = ((u : Tuple) × (Member (t ∷ s ∷ S) u × (column c u ≡ v))) × ((u : Tuple) → Member (t ∷ s ∷ S) u → L v (column c u))

      step : ((u : Tuple) × (Member (s ∷ S) u × (column c u ≡ best f c s S))) × ((u : Tuple) → Member (s ∷ S) u → L (best f c s S) (column c u)) → (f (column c t) (best f c s S) ≡ column c t) ⊎ (f (column c t) (best f c s S) ≡ best f c s S) → goal (f (column c t) (best f c s S))
      step r w = (found w, bound)
        where
          found : (f (column c t) (best f c s S) ≡ column c t) ⊎ (f (column c t) (best f c s S) ≡ best f c s S) → (u : Tuple) × (Member (t ∷ s ∷ S) u × (column c u ≡ f (column c t) (best f c s S)))
          found (inl e) = (t, (inl refl, sym e))
          found (inr e) = (r.0.0, (inr r.0.1.0, r.0.1.1 ∙ sym e))

          bound : (u : Tuple) → (t ≡ u) ⊎ Member (s ∷ S) u → L (f (column c t) (best f c s S)) (column c u)
          bound u (inl e) = subst (λ x. L (f (column c t) (best f c s S)) (column c x)) e (law (column c t) (best f c s S)).0
          bound u (inr m) = trans (f (column c t) (best f c s S)) (best f c s S) (column c u) (law (column c t) (best f c s S)).1 (r.1 u m)

either_of : (b : Bool) (x y : ℤ) → (cond b x y ≡ x) ⊎ (cond b x y ≡ y)
either_of true x y = inl refl
either_of false x y = inr refl

pub value_is : (w : Tally) (t : Tuple) (S : TupleSet) → Value w (t ∷ S) (value w t S)
value_is Count t S = (once (t ∷ S), ((once_distinct (t ∷ S), once_same (t ∷ S)), refl))
value_is (Sum c) t S = (once (t ∷ S), ((once_distinct (t ∷ S), once_same (t ∷ S)), refl))
value_is (Min c) t S = best_is int_min (λ x y. x ≤ℤ y) ≤ℤ_refl (λ x y z p q. omega (arith, ints)) (λ x y. (omega (arith, ints, clamps), omega (arith, ints, clamps), ⊎_swap (either_of (lt_z y x) y x))) c t S
value_is (Max c) t S = best_is int_max (λ x y. y ≤ℤ x) ≤ℤ_refl (λ x y z p q. omega (arith, ints)) (λ x y. (omega (arith, ints, clamps), omega (arith, ints, clamps), either_of (lt_z y x) x y)) c t S

-- ---- the groups

pub groups : (by : List ℕ) (S : TupleSet) (t : Tuple) → Groups by S t (group by S t)
groups by S t u = member_kept_by (λ x. equal (picked by x) (picked by t)) (λ x. picked by x ≡ picked by t) (λ x. equal_decides (picked by x) (picked by t)) S u

-- the group with its own tuple put in once more, and any other list of the group
level : (by : List ℕ) (S G : TupleSet) (t : Tuple) → Member S t → Groups by S t G → Same G (t ∷ group by S t)
level by S G t m g u = (λ n. inr ((groups by S t u).1 ((g u).0 n)), there)
  where
    there : (t ≡ u) ⊎ Member (group by S t) u → Member G u
    there (inl e) = (g u).1 (subst (Member S) e m, ap (picked by) (sym e))
    there (inr n) = (g u).1 ((groups by S t u).0 n)

pub tally_rule : theorems.TallyRule
tally_rule w by S u = (there, back')
  where
    there : Member (tally w by S) u → Tallied w by S u
    there m =
        let r = from_map (λ t. picked by t ++ (value w t (group by S t) ∷ [])) S u m in
        let t = r.0 in
        let G = group by S t in
        let v = value w t G in
        (t, (v, (G, (r.1.0, groups by S t, valued w (t ∷ G) G (back G (t ∷ G) (level by S G t r.1.0 (groups by S t))) v (value_is w t G), sym r.1.1))))

    back' : Tallied w by S u → Member (tally w by S) u
    back' h =
        let t = h.0 in
        let v = h.1.0 in
        let G = h.1.1.0 in
        let k = h.1.1.1 in
        let e = one_value w (t ∷ group by S t) (value w t (group by S t)) v (value_is w t (group by S t)) (valued w G (t ∷ group by S t) (level by S G t k.0 k.1) v k.2) in
        to_map (λ t. picked by t ++ (value w t (group by S t) ∷ [])) S t u k.0 (ap (λ x. picked by t ++ (x ∷ [])) e ∙ sym k.3)

tallied : (w : Tally) (by : List ℕ) (S U : TupleSet) → Same S U → (u : Tuple) → Tallied w by S u → Tallied w by U u
tallied w by S U s u h =
    let k = h.1.1.1 in
    (h.0, (h.1.0, (h.1.1.0, ((s h.0).0 k.0, (λ x. (λ m. ((s x).0 ((k.1 x).0 m).0, ((k.1 x).0 m).1), λ m. (k.1 x).1 ((s x).1 m.0, m.1))), k.2, k.3))))

pub set_tallied : theorems.SetTallied
set_tallied w by S U s u = (λ m. (tally_rule w by U u).1 (tallied w by S U s u ((tally_rule w by S u).0 m)), λ m. (tally_rule w by S u).1 (tallied w by U S (back S U s) u ((tally_rule w by U u).0 m)))

pub front : (by : List ℕ) (t u : Tuple) (v : ℤ) → u ≡ picked by t ++ (v ∷ []) → take (length by) u ≡ picked by t
front by t u v e = ap (take (length by)) e ∙ take_at (picked by t) (v ∷ []) (length by) (length-map by (λ c. column c t))

alike : (by : List ℕ) (S G H : TupleSet) (t u : Tuple) → picked by t ≡ picked by u → Groups by S t G → Groups by S u H → Same G H
alike by S G H t u e g h x = (λ m. let k = (g x).0 m in (h x).1 (k.0, k.1 ∙ e), λ m. let k = (h x).0 m in (g x).1 (k.0, k.1 ∙ sym e))

pub one_per_group : theorems.OnePerGroup
one_per_group w by S u v m n e =
    let a = (tally_rule w by S u).0 m in
    let b = (tally_rule w by S v).0 n in
    let k = a.1.1.1 in
    let l = b.1.1.1 in
    let p : picked by a.0 ≡ picked by b.0 = sym (front by a.0 u a.1.0 k.3) ∙ e ∙ front by b.0 v b.1.0 l.3 in
    let s = alike by S a.1.1.0 b.1.1.0 a.0 b.0 p k.1 l.1 in
    let q = one_value w b.1.1.0 a.1.0 b.1.0 (valued w a.1.1.0 b.1.1.0 s a.1.0 k.2) l.2 in
    k.3 ∙ ap₂ (λ x y. x ++ (y ∷ [])) p q ∙ sym l.3
