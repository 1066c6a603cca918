-- Two lists without repeats and with the same members: a fold over the one is that over the other.
use Rattle.std.proofs.Common.{◌≡◌, ◌⊎◌, ◌↔◌, List, [], ◌∷◌, sym, refl, ap, ◌∙◌, subst, inl, inr}
use Rattle.relation.specs.Lists.{Any, Member, Distinct}
use Rattle.relation.proofs.Pigeons.{chosen, others, chosen_has, any_others, others_any, pairwise_others, not_again, never}

pub member_at : {X : Type 0} (xs : List X) (x y : X) → x ≡ y → Member xs x → Member xs y
member_at xs x y e = subst (Member xs) e

module _ {X B : Type 0} (op : X → B → B) (swap : (x y : X) (b : B) → op x (op y b) ≡ op y (op x b)) (e : B) where
  abbrev pub over : List X → B
  over [] = e
  over (x ∷ xs) = op x (over xs)

  over_others : (P : X → Type 0) (xs : List X) (a : Any P xs) → over xs ≡ op (chosen P xs a) (over (others P xs a))
  over_others P [] a = absurd a
  over_others P (x ∷ xs) (inl p) = refl
  over_others P (x ∷ xs) (inr a) = ap (op x) (over_others P xs a) ∙ swap x (chosen P xs a) (over (others P xs a))

  pub same_over : (xs ys : List X) → Distinct xs → Distinct ys → ((t : X) → Member xs t ↔ Member ys t) → over xs ≡ over ys
  same_over [] [] dx dy s = refl
  same_over [] (y ∷ ys) dx dy s = absurd ((s y).1 (inl refl))
  same_over (x ∷ xs) ys dx dy s =
      ap (op x) (same_over xs rest dx.1 (pairwise_others (λ y. y ≡ x) (λ u v. u ≡ v → ⊥) ys found dy) (λ t. (there t, back t))) ∙ ap (λ u. op u (over rest)) (sym is) ∙ sym (over_others (λ y. y ≡ x) ys found)
    where
      found : Member ys x
      found = (s x).0 (inl refl)

      rest : List X
      rest = others (λ y. y ≡ x) ys found

      is : chosen (λ y. y ≡ x) ys found ≡ x
      is = chosen_has (λ y. y ≡ x) ys found

      there : (t : X) → Member xs t → Member rest t
      there t m = step (any_others (λ y. y ≡ x) (λ y. y ≡ t) ys found ((s t).0 (inr m)))
        where
          step : (chosen (λ y. y ≡ x) ys found ≡ t) ⊎ Member rest t → Member rest t
          step (inl h) = absurd (never (λ y n g. n (sym is ∙ h ∙ sym g)) xs dx.0 m)
          step (inr h) = h

      back : (t : X) → Member rest t → Member xs t
      back t m = step ((s t).1 (others_any (λ y. y ≡ x) (λ y. y ≡ t) ys found m))
        where
          step : (x ≡ t) ⊎ Member xs t → Member xs t
          step (inl h) = absurd (not_again (λ y. y ≡ x) ys found dy (member_at rest t (chosen (λ y. y ≡ x) ys found) (sym (is ∙ h)) m))
          step (inr h) = h
