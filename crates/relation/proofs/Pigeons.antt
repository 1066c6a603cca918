-- One element taken out of a list; and where each x has a y of its own, the ys are no fewer.
use Rattle.std.proofs.Common.{◌≡◌, suc, ◌≤◌, ◌⊎◌, List, [], ◌∷◌, length, sym, refl, ap, inl, inr, arith}
use Rattle.std.specs.List.{AllByRecursion as AllOf}
use Rattle.relation.specs.Lists.{Any, Pairwise, Member, Distinct}

pub all_both : {X : Type 0} {P Q S : X → Type 0} (f : (x : X) → P x → Q x → S x) (xs : List X) → AllOf P xs → AllOf Q xs → AllOf S xs
all_both f [] p q = tt
all_both f (x ∷ xs) p q = (f x p.0 q.0, all_both f xs p.1 q.1)

pub any_map : {X : Type 0} {P Q : X → Type 0} (f : (x : X) → P x → Q x) (xs : List X) → Any P xs → Any Q xs
any_map f [] a = a
any_map f (x ∷ xs) (inl p) = inl (f x p)
any_map f (x ∷ xs) (inr a) = inr (any_map f xs a)

-- with a fact of every element
pub any_with : {X : Type 0} {P Q S : X → Type 0} (f : (x : X) → P x → Q x → S x) (xs : List X) → AllOf P xs → Any Q xs → Any S xs
any_with f [] p a = a
any_with f (x ∷ xs) p (inl q) = inl (f x p.0 q)
any_with f (x ∷ xs) p (inr a) = inr (any_with f xs p.1 a)

pub never : {X : Type 0} {P Q : X → Type 0} (f : (x : X) → P x → Q x → ⊥) (xs : List X) → AllOf P xs → Any Q xs → ⊥
never f [] p a = a
never f (x ∷ xs) p (inl q) = f x p.0 q
never f (x ∷ xs) p (inr a) = never f xs p.1 a

module _ {X : Type 0} (P : X → Type 0) where
  abbrev pub chosen : (xs : List X) → Any P xs → X
  chosen [] a = absurd a
  chosen (x ∷ xs) (inl p) = x
  chosen (x ∷ xs) (inr a) = chosen xs a

  abbrev pub others : (xs : List X) → Any P xs → List X
  others [] a = absurd a
  others (x ∷ xs) (inl p) = xs
  others (x ∷ xs) (inr a) = x ∷ others xs a

  pub chosen_has : (xs : List X) (a : Any P xs) → P (chosen xs a)
  chosen_has [] a = absurd a
  chosen_has (x ∷ xs) (inl p) = p
  chosen_has (x ∷ xs) (inr a) = chosen_has xs a

  pub length_others : (xs : List X) (a : Any P xs) → length xs ≡ suc (length (others xs a))
  length_others [] a = absurd a
  length_others (x ∷ xs) (inl p) = refl
  length_others (x ∷ xs) (inr a) = ap suc (length_others xs a)

  pub any_others : (Q : X → Type 0) (xs : List X) (a : Any P xs) → Any Q xs → Q (chosen xs a) ⊎ Any Q (others xs a)
  any_others Q [] a b = absurd a
  any_others Q (x ∷ xs) (inl p) b = b
  any_others Q (x ∷ xs) (inr a) (inl q) = inr (inl q)
  any_others Q (x ∷ xs) (inr a) (inr b) = step (any_others Q xs a b)
    where
      step : Q (chosen xs a) ⊎ Any Q (others xs a) → Q (chosen xs a) ⊎ (Q x ⊎ Any Q (others xs a))
      step (inl q) = inl q
      step (inr c) = inr (inr c)

  pub others_any : (Q : X → Type 0) (xs : List X) (a : Any P xs) → Any Q (others xs a) → Any Q xs
  others_any Q [] a b = absurd a
  others_any Q (x ∷ xs) (inl p) b = inr b
  others_any Q (x ∷ xs) (inr a) (inl q) = inl q
  others_any Q (x ∷ xs) (inr a) (inr b) = inr (others_any Q xs a b)

  pub all_chosen : (Q : X → Type 0) (xs : List X) (a : Any P xs) → AllOf Q xs → Q (chosen xs a)
  all_chosen Q [] a q = absurd a
  all_chosen Q (x ∷ xs) (inl p) q = q.0
  all_chosen Q (x ∷ xs) (inr a) q = all_chosen Q xs a q.1

  pub all_others : (Q : X → Type 0) (xs : List X) (a : Any P xs) → AllOf Q xs → AllOf Q (others xs a)
  all_others Q [] a q = absurd a
  all_others Q (x ∷ xs) (inl p) q = q.1
  all_others Q (x ∷ xs) (inr a) q = (q.0, all_others Q xs a q.1)

  pub pairwise_others : (R : X → X → Type 0) (xs : List X) (a : Any P xs) → Pairwise R xs → Pairwise R (others xs a)
  pairwise_others R [] a r = absurd a
  pairwise_others R (x ∷ xs) (inl p) r = r.1
  pairwise_others R (x ∷ xs) (inr a) r = (all_others (R x) xs a r.0, pairwise_others R xs a r.1)

  -- what is taken out of a list without repeats is not in the others
  pub not_again : (xs : List X) (a : Any P xs) → Distinct xs → Member (others xs a) (chosen xs a) → ⊥
  not_again [] a d m = absurd a
  not_again (x ∷ xs) (inl p) d m = never (λ y n e. n (sym e)) xs d.0 m
  not_again (x ∷ xs) (inr a) d (inl e) = all_chosen (λ y. x ≡ y → ⊥) xs a d.0 e
  not_again (x ∷ xs) (inr a) d (inr m) = not_again xs a d.1 m

module _ {X Y : Type 0} (R : X → Y → Type 0) where
  pub no_fewer : (xs : List X) (ys : List Y) → AllOf (λ x. Any (R x) ys) xs → Pairwise (λ x z. (y : Y) → R x y → R z y → ⊥) xs → length xs ≤ length ys
  no_fewer [] ys a p = omega arith
  no_fewer (x ∷ xs) ys a p =
      let y : Y = chosen (R x) ys a.0 in
      let zs : List Y = others (R x) ys a.0 in
      let more : length xs ≤ length zs = no_fewer xs zs (all_both (λ z g n. moved z g n) xs a.1 p.0) p.1 in
      omega (arith, length_others (R x) ys a.0)
    where
      moved : (z : X) → Any (R z) ys → ((y : Y) → R x y → R z y → ⊥) → Any (R z) (others (R x) ys a.0)
      moved z g n = step (any_others (R x) (R z) ys a.0 g)
        where
          step : R z (chosen (R x) ys a.0) ⊎ Any (R z) (others (R x) ys a.0) → Any (R z) (others (R x) ys a.0)
          step (inl h) = absurd (n (chosen (R x) ys a.0) (chosen_has (R x) ys a.0) h)
          step (inr h) = h
