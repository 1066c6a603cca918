-- Each row of a tally's canonical list begins where a row of its group begins or ends.
use Rattle.std.proofs.Common.{◌≡◌, ℕ, zero, suc, ◌*◌, ◌<◌, ◌≤◌, Bool, true, false, cond, ◌&&◌, ◌||◌, eqb, ◌⊎◌, ◌↔◌, List, [], ◌∷◌, ◌++◌, map, length, take, Decides, sym, refl, ap, ◌∙◌, subst, inl, inr, arith}
use Rattle.std.specs.List.{AllByRecursion as AllOf}
use Rattle.std.proofs.lemmas.List.{length-append, length-map}
use Rattle.std.proofs.lemmas.Bool.{false≢true}
use Rattle.std.proofs.lemmas.Bool.Decides.{Decides-and, Decides-or, Decides-eqb}
use Rattle.relation.specs.Lists.{Any, Pairwise, Member}
use Rattle.relation.specs.Sets.{Tuple, equal}
use Rattle.relation.specs.Rows.{SpecRow, Period, Holds, on, Coalesced, Lists}
use Rattle.tallies.specs.declared.rules.Tally.{Tally}
use Rattle.relation.specs.Operations.{picked}
use Rattle.tallies.specs.Tallies.{tally, Tallied}
use Rattle.tallies.specs.TallyTheorems as theorems
use Rattle.relation.proofs.Held.{In, day_set}
use Rattle.relation.proofs.Clear.{apart}
use Rattle.relation.proofs.Fewest.{Touchless}
use Rattle.relation.proofs.Pigeons.{all_both, any_with, any_map, no_fewer}
use Rattle.relation.proofs.TupleSets.{equal_decides}
use Rattle.tallies.proofs.Members.{any_left, any_right}
use Rattle.tallies.proofs.Grouped.{front, tally_rule, one_per_group}

any_or_all : {X : Type 0} (p : X → Bool) (P : X → Type 0) → ((x : X) → Decides (p x) (P x)) → (xs : List X) → Any P xs ⊎ AllOf (λ x. P x → ⊥) xs
any_or_all p P d [] = inr tt
any_or_all p P d (x ∷ xs) = step (p x) refl (any_or_all p P d xs)
  where
    step : (b : Bool) → p x ≡ b → Any P xs ⊎ AllOf (λ y. P y → ⊥) xs → (P x ⊎ Any P xs) ⊎ ((P x → ⊥) × AllOf (λ y. P y → ⊥) xs)
    step true e r = inl (inl ((d x).0 e))
    step false e (inl a) = inl (inr a)
    step false e (inr h) = inr ((λ q. false≢true (sym e ∙ (d x).1 q)), h)

-- ---- no row of a coalesced list holds the day before another row of its tuple

module _ (e : ℕ) where
  abbrev Fresh : List SpecRow → SpecRow → Type 0
  Fresh rows r = suc e ≡ r.first → In rows e r.tuple → ⊥

  by_later : (r : SpecRow) (rows : List SpecRow) → Period r → AllOf Period rows → AllOf (Touchless r) rows → Fresh rows r
  by_later r [] p ps cs f h = h
  by_later r (s ∷ rows) p ps cs f (inl h) = step (apart r s p ps.0 (cs.0 (sym h.0)))
    where
      step : (r.end < s.first) ⊎ (s.end < r.first) → ⊥
      step (inl k) = omega arith
      step (inr k) = omega arith
  by_later r (s ∷ rows) p ps cs f (inr h) = by_later r rows p ps.1 cs.1 f h

  by_earlier : (r s : SpecRow) (rows : List SpecRow) → Period r → Period s → Touchless r s → Fresh rows s → Fresh (r ∷ rows) s
  by_earlier r s rows p q c n f (inr h) = n f h
  by_earlier r s rows p q c n f (inl h) = step (apart r s p q (c h.0))
    where
      step : (r.end < s.first) ⊎ (s.end < r.first) → ⊥
      step (inl k) = omega arith
      step (inr k) = omega arith

  fresh : (rows : List SpecRow) → AllOf Period rows → Coalesced rows → AllOf (Fresh rows) rows
  fresh [] ps cs = tt
  fresh (r ∷ rows) ps cs = (here, all_both later rows ps.1 (all_both both rows cs.0 (fresh rows ps.1 cs.1)))
    where
      here : Fresh (r ∷ rows) r
      here f (inl h) = omega arith
      here f (inr h) = by_later r rows ps.0 ps.1 cs.0 f h

      both : (s : SpecRow) → Touchless r s → Fresh rows s → Touchless r s × Fresh rows s
      both s c n = (c, n)

      later : (s : SpecRow) → Period s → Touchless r s × Fresh rows s → Fresh (r ∷ rows) s
      later s q k = by_earlier r s rows ps.0 q k.0 k.1

-- ---- a group that no row begins or ends in stays as it is

module _ (w : Tally) (by : List ℕ) (rows : List SpecRow) where
  -- the row s of the group g begins or ends at f
  abbrev Event : ℕ → Tuple → SpecRow → Type 0
  Event f g s = (picked by s.tuple ≡ g) × ((s.first ≡ f) ⊎ (s.end ≡ f))

  event_decides : (f : ℕ) (g : Tuple) (s : SpecRow) → Decides (equal (picked by s.tuple) g && (eqb s.first f || eqb s.end f)) (Event f g s)
  event_decides f g s = Decides-and (equal (picked by s.tuple) g) (eqb s.first f || eqb s.end f) (equal_decides (picked by s.tuple) g) (Decides-or (eqb s.first f) (eqb s.end f) (Decides-eqb s.first f) (Decides-eqb s.end f))

  still : (e : ℕ) (g u : Tuple) → picked by u ≡ g → AllOf (λ s. Event (suc e) g s → ⊥) rows → Member (on rows (suc e)) u ↔ Member (on rows e) u
  still e g u k n = (λ m. (day_set rows e u).1 (any_with back rows n ((day_set rows (suc e) u).0 m)), λ m. (day_set rows (suc e) u).1 (any_with forth rows n ((day_set rows e u).0 m)))
    where
      back : (s : SpecRow) → (Event (suc e) g s → ⊥) → (s.tuple ≡ u) × Holds s (suc e) → (s.tuple ≡ u) × Holds s e
      back s n h = let q : s.first ≡ suc e → ⊥ = λ x. n (ap (picked by) h.0 ∙ k, inl x) in (h.0, omega arith)

      forth : (s : SpecRow) → (Event (suc e) g s → ⊥) → (s.tuple ≡ u) × Holds s e → (s.tuple ≡ u) × Holds s (suc e)
      forth s n h = let q : s.end ≡ suc e → ⊥ = λ x. n (ap (picked by) h.0 ∙ k, inr x) in (h.0, omega arith)

  as_before : (e : ℕ) (x : Tuple) → Tallied w by (on rows (suc e)) x → AllOf (λ s. Event (suc e) (take (length by) x) s → ⊥) rows → Tallied w by (on rows e) x
  as_before e x h n =
      let t = h.0 in
      let k = h.1.1.1 in
      let g : take (length by) x ≡ picked by t = front by t x h.1.0 k.3 in
      (t, (h.1.0, (h.1.1.0, ((still e (take (length by) x) t (sym g) n).0 k.0, (λ u. (λ m. let q = (k.1 u).0 m in ((still e (take (length by) x) u (q.1 ∙ sym g) n).0 q.0, q.1), λ q. (k.1 u).1 ((still e (take (length by) x) u (q.1 ∙ sym g) n).1 q.0, q.1))), k.2, k.3))))

  event_at : (f : ℕ) (x : Tuple) → Tallied w by (on rows f) x → ((e : ℕ) → f ≡ suc e → Tallied w by (on rows e) x → ⊥) → Any (Event f (take (length by) x)) rows
  event_at zero x h n =
      let t = h.0 in
      let k = h.1.1.1 in
      let g : take (length by) x ≡ picked by t = front by t x h.1.0 k.3 in
      any_map (λ s i. (ap (picked by) i.0 ∙ sym g, inl (omega arith))) rows ((day_set rows 0 t).0 k.0)
  event_at (suc e) x h n = step (any_or_all (λ s. equal (picked by s.tuple) (take (length by) x) && (eqb s.first (suc e) || eqb s.end (suc e))) (Event (suc e) (take (length by) x)) (event_decides (suc e) (take (length by) x)) rows)
    where
      step : Any (Event (suc e) (take (length by) x)) rows ⊎ AllOf (λ s. Event (suc e) (take (length by) x) s → ⊥) rows → Any (Event (suc e) (take (length by) x)) rows
      step (inl a) = a
      step (inr a) = absurd (n e refl (as_before e x h a))

all_swap : {X : Type 0} (P : ℕ → X → Type 0) (xs : List X) → ((e : ℕ) → AllOf (P e) xs) → AllOf (λ x. (e : ℕ) → P e x) xs
all_swap P [] h = tt
all_swap P (x ∷ xs) h = (λ e. (h e).0, all_swap P xs λ e. (h e).1)

-- ---- each row of the list has an event of its own

module _ (w : Tally) (by : List ℕ) (rows l : List SpecRow) (c : Lists l (λ d. tally w by (on rows d))) where
  ends : Bool → List SpecRow → List (Bool × SpecRow)
  ends b xs = map (λ s. (b, s)) xs

  Hit : SpecRow → Bool × SpecRow → Type 0
  Hit r y = ((picked by y.1.tuple ≡ take (length by) r.tuple) × (cond y.0 y.1.first y.1.end ≡ r.first)) × Member (tally w by (on rows r.first)) r.tuple

  sides : (r : SpecRow) → Member (tally w by (on rows r.first)) r.tuple → (xs : List SpecRow) → Any (Event w by rows r.first (take (length by) r.tuple)) xs → Any (Hit r) (ends true xs) ⊎ Any (Hit r) (ends false xs)
  unfolding ends Hit
  sides r m [] a = absurd a
  sides r m (s ∷ xs) (inl (g, inl e)) = inl (inl ((g, e), m))
  sides r m (s ∷ xs) (inl (g, inr e)) = inr (inl ((g, e), m))
  sides r m (s ∷ xs) (inr a) = step (sides r m xs a)
    where
      step : Any (Hit r) (ends true xs) ⊎ Any (Hit r) (ends false xs) → Any (Hit r) (ends true (s ∷ xs)) ⊎ Any (Hit r) (ends false (s ∷ xs))
      step (inl b) = inl (inr b)
      step (inr b) = inr (inr b)

  placed : (r : SpecRow) → Any (Hit r) (ends true rows) ⊎ Any (Hit r) (ends false rows) → Any (Hit r) (ends true rows ++ ends false rows)
  placed r (inl a) = any_left (Hit r) (ends true rows) (ends false rows) a
  placed r (inr a) = any_right (Hit r) (ends true rows) (ends false rows) a

  hit : (xs : List SpecRow) → AllOf Period xs → AllOf (λ r. (e : ℕ) → Fresh e l r) xs → ((d : ℕ) (t : Tuple) → In xs d t → In l d t) → AllOf (λ r. Any (Hit r) (ends true rows ++ ends false rows)) xs
  hit [] ps fs f = tt
  hit (r ∷ xs) ps fs f = (placed r (sides r m rows (event_at w by rows r.first r.tuple ((tally_rule w by (on rows r.first) r.tuple).0 m) before)), hit xs ps.1 fs.1 λ d t h. f d t (inr h))
    where
      m : Member (tally w by (on rows r.first)) r.tuple
      m = (c.sets r.first (omega arith) r.tuple).0 ((day_set l r.first r.tuple).1 (f r.first r.tuple (inl (refl, omega arith))))

      before : (e : ℕ) → r.first ≡ suc e → Tallied w by (on rows e) r.tuple → ⊥
      before e k h = fs.0 e (sym k) ((day_set l e r.tuple).0 ((c.sets e (omega arith) r.tuple).1 ((tally_rule w by (on rows e) r.tuple).1 h)))

  two : (r s : SpecRow) → Period r → Period s → Touchless r s → (y : Bool × SpecRow) → Hit r y → Hit s y → ⊥
  unfolding Hit
  two r s p q n y a b =
      let f : r.first ≡ s.first = sym a.0.1 ∙ b.0.1 in
      let m : Member (tally w by (on rows r.first)) s.tuple = subst (λ d. Member (tally w by (on rows d)) s.tuple) (sym f) b.1 in
      n (one_per_group w by (on rows r.first) r.tuple s.tuple a.1 m (sym a.0.0 ∙ b.0.0)) (inl (r.first, omega arith))

  pairs : (xs : List SpecRow) → AllOf Period xs → Coalesced xs → Pairwise (λ r s. (y : Bool × SpecRow) → Hit r y → Hit s y → ⊥) xs
  pairs [] ps cs = tt
  pairs (r ∷ xs) ps cs = (all_both (λ s q n. two r s ps.0 q n) xs ps.1 cs.0, pairs xs ps.1 cs.1)

  room : length l ≤ 2 * length rows
  unfolding ends
  room =
      let k = c.canonical in
      let g = no_fewer Hit l (ends true rows ++ ends false rows) (hit l k.periods (all_swap (λ e r. Fresh e l r) l (λ e. fresh e l k.periods k.coalesced)) (λ d t h. h)) (pairs l k.periods k.coalesced) in
      omega (arith, g, length-append (ends true rows) (ends false rows), length-map {B = Bool × SpecRow} rows (λ s. (true, s)), length-map {B = Bool × SpecRow} rows (λ s. (false, s)))

pub tally_room : theorems.TallyRoom
tally_room w by rows l c = room w by rows l c
