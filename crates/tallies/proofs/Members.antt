-- The members of two lists together, of a filter and of a map; each tuple of a set once.
use Rattle.std.proofs.Common.{◌≡◌, Bool, true, false, cond, ◌⊎◌, ◌↔◌, List, [], ◌∷◌, ◌++◌, map, Decides, filter, sym, refl, ap, ◌∙◌, subst, inl, inr}
use Rattle.std.specs.List.{AllByRecursion as AllOf}
use Rattle.std.proofs.lemmas.Bool.{false≢true}
use Rattle.relation.specs.Lists.{Any, Member, Distinct}
use Rattle.relation.specs.Sets.{Tuple, TupleSet, Same, has}
use Rattle.tallies.specs.Tallies.{once}
use Rattle.relation.proofs.TupleSets.{has_decides}

-- ---- two lists together

pub any_left : {X : Type 0} (P : X → Type 0) (xs ys : List X) → Any P xs → Any P (xs ++ ys)
any_left P [] ys a = absurd a
any_left P (x ∷ xs) ys (inl p) = inl p
any_left P (x ∷ xs) ys (inr a) = inr (any_left P xs ys a)

pub any_right : {X : Type 0} (P : X → Type 0) (xs ys : List X) → Any P ys → Any P (xs ++ ys)
any_right P [] ys a = a
any_right P (x ∷ xs) ys a = inr (any_right P xs ys a)

-- ---- a filter and a map

kept_more : {X : Type 0} (b : Bool) (s t : X) (S R : List X) (Q : X → Type 0) → Decides b (Q s) → (Member R t ↔ (Member S t × Q t)) → Member (cond b (s ∷ R) R) t ↔ (((s ≡ t) ⊎ Member S t) × Q t)
kept_more true s t S R Q h k = (there, back)
  where
    there : (s ≡ t) ⊎ Member R t → ((s ≡ t) ⊎ Member S t) × Q t
    there (inl e) = (inl e, subst Q e (h.0 refl))
    there (inr m) = (inr (k.0 m).0, (k.0 m).1)

    back : ((s ≡ t) ⊎ Member S t) × Q t → (s ≡ t) ⊎ Member R t
    back (inl e, q) = inl e
    back (inr m, q) = inr (k.1 (m, q))
kept_more false s t S R Q h k = (λ m. (inr (k.0 m).0, (k.0 m).1), back)
  where
    back : ((s ≡ t) ⊎ Member S t) × Q t → Member R t
    back (inl e, q) = absurd (false≢true (h.1 (subst Q (sym e) q)))
    back (inr m, q) = k.1 (m, q)

pub member_kept_by : {X : Type 0} (p : X → Bool) (Q : X → Type 0) → ((x : X) → Decides (p x) (Q x)) → (S : List X) (t : X) → Member (filter p S) t ↔ (Member S t × Q t)
member_kept_by p Q d [] t = (λ m. absurd m, λ m. m.0)
member_kept_by p Q d (s ∷ S) t = kept_more (p s) s t S (filter p S) Q (d s) (member_kept_by p Q d S t)

pub from_map : {X Y : Type 0} (f : X → Y) (xs : List X) (y : Y) → Member (map f xs) y → (x : X) × (Member xs x × (f x ≡ y))
from_map f [] y m = absurd m
from_map f (x ∷ xs) y (inl e) = (x, (inl refl, e))
from_map f (x ∷ xs) y (inr m) = let r = from_map f xs y m in (r.0, (inr r.1.0, r.1.1))

pub to_map : {X Y : Type 0} (f : X → Y) (xs : List X) (x : X) (y : Y) → Member xs x → f x ≡ y → Member (map f xs) y
to_map f [] x y m e = absurd m
to_map f (z ∷ xs) x y (inl g) e = inl (ap f g ∙ e)
to_map f (z ∷ xs) x y (inr m) e = inr (to_map f xs x y m e)

-- ---- each tuple once

once_more : (b : Bool) (s : Tuple) (S R : TupleSet) → Decides b (Member S s) → Same R S → Same (cond b R (s ∷ R)) (s ∷ S)
once_more true s S R h k t = (λ m. inr ((k t).0 m), back)
  where
    back : (s ≡ t) ⊎ Member S t → Member R t
    back (inl e) = (k t).1 (subst (Member S) e (h.0 refl))
    back (inr m) = (k t).1 m
once_more false s S R h k t = (there, back)
  where
    there : (s ≡ t) ⊎ Member R t → (s ≡ t) ⊎ Member S t
    there (inl e) = inl e
    there (inr m) = inr ((k t).0 m)

    back : (s ≡ t) ⊎ Member S t → (s ≡ t) ⊎ Member R t
    back (inl e) = inl e
    back (inr m) = inr ((k t).1 m)

pub once_same : (S : TupleSet) → Same (once S) S
once_same [] t = (λ m. m, λ m. m)
once_same (s ∷ S) t = once_more (has S s) s S (once S) (has_decides S s) (once_same S) t

pub not_in : (s : Tuple) (S : TupleSet) → (Member S s → ⊥) → AllOf (λ t. s ≡ t → ⊥) S
not_in s [] n = tt
not_in s (t ∷ S) n = (λ e. n (inl (sym e)), not_in s S λ m. n (inr m))

distinct_more : (b : Bool) (s : Tuple) (S R : TupleSet) → Decides b (Member S s) → Same R S → Distinct R → Distinct (cond b R (s ∷ R))
distinct_more true s S R h k d = d
distinct_more false s S R h k d = (not_in s R (λ m. false≢true (h.1 ((k s).0 m))), d)

pub once_distinct : (S : TupleSet) → Distinct (once S)
once_distinct [] = tt
once_distinct (s ∷ S) = distinct_more (has S s) s S (once S) (has_decides S s) (once_same S) (once_distinct S)
