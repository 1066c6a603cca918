-- Some element, by its index; and under a map.
use Rattle.std.proofs.Common.{◌≡◌, ℕ, zero, suc, ◌<◌, List, [], ◌∷◌, map, length, get_or, subst, inl, inr, arith}
use Rattle.relation.specs.Lists.{Any}
use Rattle.relation.specs.Rows.{SpecRow}

-- what is read past the end of a list of rows
abbrev pub no_spec : SpecRow
no_spec = record { tuple = []; first = 0; end = 0 }

pub any_to_index : {X : Type 0} (P : X → Type 0) (xs : List X) (d : X) → Any P xs → (i : ℕ) × ((i < length xs) × P (get_or xs i d))
any_to_index P [] d a = absurd a
any_to_index P (x ∷ xs) d (inl h) = (0, (omega arith, h))
any_to_index P (x ∷ xs) d (inr a) = let t = any_to_index P xs d a in (suc t.0, (omega arith, t.1.1))

pub any_from_index : {X : Type 0} (P : X → Type 0) (xs : List X) (d : X) (i : ℕ) → i < length xs → P (get_or xs i d) → Any P xs
any_from_index P [] d i lt h = absurd (omega arith)
any_from_index P (x ∷ xs) d zero lt h = inl h
any_from_index P (x ∷ xs) d (suc i) lt h = inr (any_from_index P xs d i (omega arith) h)

pub any_from_map : {X Y : Type 0} (f : X → Y) (P : Y → Type 0) (xs : List X) → Any P (map f xs) → Any (λ x. P (f x)) xs
any_from_map f P [] a = absurd a
any_from_map f P (x ∷ xs) (inl h) = inl h
any_from_map f P (x ∷ xs) (inr a) = inr (any_from_map f P xs a)

-- what holds of some element of xs holds of some element of ys, if each element of xs is one of ys
pub any_drawn : {X : Type 0} (P : X → Type 0) (xs ys : List X) (d : X) → ((i : ℕ) → i < length xs → (j : ℕ) × ((j < length ys) × (get_or xs i d ≡ get_or ys j d))) → Any P xs → Any P ys
any_drawn P xs ys d drawn a =
    let t = any_to_index P xs d a in
    let s = drawn t.0 t.1.0 in
    any_from_index P ys d s.0 s.1.0 (subst P s.1.1 t.1.1)
