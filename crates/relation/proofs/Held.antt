-- Day sets by the rows that hold the day.
use Rattle.std.proofs.Common.{◌≡◌, ℕ, Bool, true, false, cond, ltb, leb, ◌⊎◌, ◌↔◌, List, [], ◌∷◌, Decides, refl, ap₂, inl, inr, arith}
use Rattle.std.specs.List.{AllByRecursion as AllOf}
use Rattle.std.proofs.lemmas.Bool.{leb-true, le-leb}
use Rattle.std.proofs.lemmas.Bool.Decides.{Decides-and, Decides-ltb, Decides-like, same_from_decides}
use Rattle.relation.specs.Lists.{Any, Member}
use Rattle.relation.specs.Sets.{Tuple}
use Rattle.relation.specs.Rows.{SpecRow, Day, Holds, holds, on, Agree}
use Rattle.relation.specs.Theorems as theorems

abbrev pub In : List SpecRow → ℕ → Tuple → Type 0
In rows d t = Any (λ r. (r.tuple ≡ t) × Holds r d) rows

pub holds_decides : (r : SpecRow) (d : ℕ) → Decides (holds r d) (Holds r d)
holds_decides r d = Decides-and (leb r.first d) (ltb d r.end) (leb-true r.first d, le-leb r.first d) (Decides-ltb d r.end)

more : (b : Bool) (P : Type 0) (s t : Tuple) (S : List Tuple) (Q : Type 0) → Decides b P → (Member S t ↔ Q) → Member (cond b (s ∷ S) S) t ↔ (((s ≡ t) × P) ⊎ Q)
more true P s t S Q h k = (there, back)
  where
    there : (s ≡ t) ⊎ Member S t → ((s ≡ t) × P) ⊎ Q
    there (inl e) = inl (e, h.0 refl)
    there (inr m) = inr (k.0 m)

    back : ((s ≡ t) × P) ⊎ Q → (s ≡ t) ⊎ Member S t
    back (inl e) = inl e.0
    back (inr q) = inr (k.1 q)
more false P s t S Q h k = (λ m. inr (k.0 m), back)
  where
    back : ((s ≡ t) × P) ⊎ Q → Member S t
    back (inl e) = absurd (let z : ◌≡◌ {A = ℕ} 0 1 = cc (h.1 e.1) in omega arith)
    back (inr q) = k.1 q

pub day_set : theorems.DaySet
day_set [] d t = (λ m. m, λ m. m)
day_set (r ∷ rows) d t = more (holds r d) (Holds r d) r.tuple t (on rows d) (In rows d t) (holds_decides r d) (day_set rows d t)

abbrev pub Agreed : List SpecRow → List SpecRow → Type 0
Agreed l m = (d : ℕ) → Day d → (t : Tuple) → In l d t ↔ In m d t

pub agreed : (l m : List SpecRow) → Agree l m → Agreed l m
agreed l m a d h t = (λ i. (day_set m d t).0 ((a d h t).0 ((day_set l d t).1 i)), λ i. (day_set l d t).0 ((a d h t).1 ((day_set m d t).1 i)))

-- the set stays the same over days between which no row begins or ends
pub on_constant : (rows : List SpecRow) (d e : ℕ) → AllOf (λ r. Holds r d ↔ Holds r e) rows → on rows d ≡ on rows e
on_constant [] d e h = refl
on_constant (r ∷ rows) d e h = ap₂ (λ b S. cond b (r.tuple ∷ S) S) (same_from_decides (holds r d) (holds r e) (holds_decides r d) (Decides-like (holds r e) h.0.1 h.0.0 (holds_decides r e))) (on_constant rows d e h.1)
