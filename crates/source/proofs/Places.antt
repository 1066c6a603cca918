-- Lemmas on the rows of a source's places.
use Rattle.std.proofs.Common.{◌≡◌, ℕ, zero, suc, ◌<◌, ◌⊎◌, List, [], ◌∷◌, ◌++◌, Some, None, Option, sym, refl, ap, ◌∙◌, subst, inl, inr, ⊎_elim, arith}
use Rattle.std.proofs.lemmas.Bool.{cases_lt}
use Rattle.relation.specs.Lists.{Any}
use Rattle.relation.specs.Rows.{SpecRow, Holds}
use Rattle.relation.proofs.Held.{day_set as held}
use Rattle.source.specs.Meaning.{Meaning, filled?, rows_below, rows_of}
use Rattle.source.specs.Theorems as theorems

any_left : {X : Type 0} (P : X → Type 0) (xs ys : List X) → Any P xs → Any P (xs ++ ys)
any_left P [] ys a = absurd a
any_left P (x ∷ xs) ys (inl h) = inl h
any_left P (x ∷ xs) ys (inr a) = inr (any_left P xs ys a)

any_right : {X : Type 0} (P : X → Type 0) (xs ys : List X) → Any P ys → Any P (xs ++ ys)
any_right P [] ys a = a
any_right P (x ∷ xs) ys a = inr (any_right P xs ys a)

any_parts : {X : Type 0} (P : X → Type 0) (xs ys : List X) → Any P (xs ++ ys) → Any P xs ⊎ Any P ys
any_parts P [] ys a = inr a
any_parts P (x ∷ xs) ys (inl h) = inl (inl h)
any_parts P (x ∷ xs) ys (inr a) = ⊎_elim (λ l. inl (inr l)) (λ r. inr r) (any_parts P xs ys a)

-- what has P stands at a place below n
pub from_places : (P : SpecRow → Type 0) (m : Meaning) (n : ℕ) → Any P (rows_below m n) → (k : ℕ) × ((r : SpecRow) × ((k < n) × (m.at k ≡ Some r) × P r))
from_places P m zero a = absurd a
from_places P m (suc n) a = ⊎_elim
    (λ l. let t = from_places P m n l in (t.0, (t.1.0, (omega arith, t.1.1.1, t.1.1.2))))
    (λ q. let t = here (m.at n) q in (n, (t.0, (omega arith, t.1.0, t.1.1))))
    (any_parts P (rows_below m n) (filled? (m.at n)) a)
  where
    here : (o : Option SpecRow) → Any P (filled? o) → (r : SpecRow) × ((o ≡ Some r) × P r)
    here None q = absurd q
    here (Some r) (inl h) = (r, (refl, h))
    here (Some r) (inr q) = absurd q

pub to_places : (P : SpecRow → Type 0) (m : Meaning) (n k : ℕ) (r : SpecRow) → k < n → m.at k ≡ Some r → P r → Any P (rows_below m n)
to_places P m zero k r lt e h = absurd (omega arith)
to_places P m (suc n) k r lt e h = ⊎_elim
    (λ l. any_left P (rows_below m n) (filled? (m.at n)) (to_places P m n k r l e h))
    (λ g. let same : k ≡ n = omega arith in
    any_right P (rows_below m n) (filled? (m.at n)) (subst (λ o. Any P (filled? o)) (sym e ∙ ap m.at same) (inl h)))
    (cases_lt k n)

pub day_set_of_places : theorems.DaySetOfPlaces
day_set_of_places m s d t = (
  (λ i. let q = from_places (λ r. (r.tuple ≡ t) × Holds r d) m m.count ((held (rows_of m) d t).0 i) in
      record { place = q.0; row = q.1.0; there = q.1.1.1; same = q.1.1.2.0; from = q.1.1.2.1.0; upto = q.1.1.2.1.1 }),
  λ o. (held (rows_of m) d t).1 (to_places (λ r. (r.tuple ≡ t) × Holds r d) m m.count o.place o.row (s.filled o.place o.row o.there).below o.there (o.same, (o.from, o.upto))),
)
