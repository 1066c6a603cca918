-- Kinds compared one by one.
use Rattle.std.proofs.Common.{◌≡◌, ℕ, zero, suc, ◌+◌, Bool, false, ◌&&◌, List, [], ◌∷◌, length, refl, ap, ◌∙◌, ap₂, add-one, arith}
use Rattle.std.specs.List.{slice_get, list_all, range_with_len}
use Rattle.std.proofs.lemmas.Bool.{and_right}
use Rattle.relation.specs.declared.kinds.Kind.{Kind}
use Rattle.relation.specs.Kinds.{same_kind}
use Rattle.source.specs.Meaning.{cell}
use Rattle.layers.specs.Alike.{alike, same_kinds}

pub lengths_differ : (ks ls : List Kind) → (length ks ≡ length ls → ⊥) → same_kinds ks ls ≡ false
lengths_differ [] [] h = absurd (h refl)
lengths_differ [] (l ∷ ls) h = refl
lengths_differ (k ∷ ks) [] h = refl
lengths_differ (k ∷ ks) (l ∷ ls) h = and_right (same_kind k l) (same_kinds ks ls) (lengths_differ ks ls (λ e. h (ap suc e)))

list_all-by : (f h : ℕ → Bool) → ((i : ℕ) → f i ≡ h i) → (is : List ℕ) → list_all f is ≡ list_all h is
list_all-by f h e [] = refl
list_all-by f h e (i ∷ is) = ap₂ (λ a b. a && b) (e i) (list_all-by f h e is)

later : (f : ℕ → Bool) (a n : ℕ) → list_all f (range_with_len (a + 1) n) ≡ list_all (λ c. f (c + 1)) (range_with_len a n)
later f a zero = refl
later f a (suc n) = ap (λ b. f (a + 1) && b) (later f (a + 1) n)

by_places : (ks ls : List Kind) → length ks ≡ length ls → list_all (λ i. alike (slice_get ks i) (slice_get ls i)) (range_with_len 0 (length ks)) ≡ same_kinds ks ls
by_places [] [] e = refl
by_places [] (l ∷ ls) e = absurd (omega arith)
by_places (k ∷ ks) [] e = absurd (omega arith)
by_places (k ∷ ks) (l ∷ ls) e =
    ap (λ b. same_kind k l && b)
    (later (λ i. alike (slice_get (k ∷ ks) i) (slice_get (l ∷ ls) i)) 0 (length ks)
    ∙ list_all-by (λ i. alike (slice_get (k ∷ ks) (i + 1)) (slice_get (l ∷ ls) (i + 1))) (λ i. alike (slice_get ks i) (slice_get ls i)) (λ i. rw add-one refl) (range_with_len 0 (length ks))
    ∙ by_places ks ls (omega arith))

-- the columns counted from 1
pub by_columns : (ks ls : List Kind) → length ks ≡ length ls → list_all (λ c. alike (cell ks c) (cell ls c)) (range_with_len 1 (length ks)) ≡ same_kinds ks ls
by_columns ks ls e =
    later (λ c. alike (cell ks c) (cell ls c)) 0 (length ks)
    ∙ list_all-by (λ i. alike (cell ks (i + 1)) (cell ls (i + 1))) (λ i. alike (slice_get ks i) (slice_get ls i)) (λ i. rw add-one refl) (range_with_len 0 (length ks))
    ∙ by_places ks ls e
