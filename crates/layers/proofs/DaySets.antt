-- The day sets of the layers.
use Rattle.std.proofs.Common.{◌≡◌, ℕ, zero, suc, ◌+◌, ◌-◌, ◌≤◌, min, max, Bool, true, false, cond, ◌&&◌, ltb, leb, List, [], ◌∷◌, ◌++◌, map, Some, None, filter, Option, sym, refl, ap, ◌∙◌, subst, ap₂, add-zero, add-suc, arith}
use Rattle.std.proofs.lemmas.List.Elements.{filter-append}
use Rattle.std.proofs.lemmas.List.{append-nil, append_assoc, map-append}
use Rattle.std.proofs.lemmas.Bool.{lt-ltb, le-ltb}
use Rattle.std.proofs.lemmas.Bool.Decides.{nat_tests}
use Rattle.relation.specs.declared.conditions.Condition.{Condition}
use Rattle.relation.specs.Sets.{TupleSet, Same}
use Rattle.relation.specs.Rows.{SpecRow, holds, on}
use Rattle.relation.specs.Operations.{meets, select, picked, project, window}
use Rattle.source.specs.Meaning.{Meaning, filled?, rows_below, rows_of}
use Rattle.layers.specs.Windows.{cut, windowed, Windows}
use Rattle.layers.specs.Selects.{kept, selected, Selects}
use Rattle.layers.specs.Projects.{picked_row, projected, Projects}
use Rattle.layers.specs.Unions.{united, Unites}

same : (S U : TupleSet) → S ≡ U → Same S U
same S U e = subst (Same S) e (λ t. (λ h. h, λ h. h))

on_append : (l m : List SpecRow) (d : ℕ) → on (l ++ m) d ≡ on l d ++ on m d
on_append [] m d = refl
on_append (r ∷ l) m d = step (holds r d) (on_append l m d)
  where
    step : (b : Bool) → on (l ++ m) d ≡ on l d ++ on m d → cond b (r.tuple ∷ on (l ++ m) d) (on (l ++ m) d) ≡ cond b (r.tuple ∷ on l d) (on l d) ++ on m d
    step true h = ap (λ (S : TupleSet). r.tuple ∷ S) h
    step false h = h

-- what a layer does to the set of each place, it does to the set of them all
module _ (a m : Meaning) (d : ℕ) (F : TupleSet → TupleSet) (none : F [] ≡ []) (parts : (S U : TupleSet) → F (S ++ U) ≡ F S ++ F U)
    (each : (k : ℕ) → on (filled? (m.at k)) d ≡ F (on (filled? (a.at k)) d)) where
  pub placewise : (n : ℕ) → on (rows_below m n) d ≡ F (on (rows_below a n) d)
  placewise zero = sym none
  placewise (suc k) =
      on_append (rows_below m k) (filled? (m.at k)) d ∙ ap₂ ◌++◌ (placewise k) (each k)
      ∙ sym (parts (on (rows_below a k) d) (on (filled? (a.at k)) d)) ∙ ap F (sym (on_append (rows_below a k) (filled? (a.at k)) d))

on_cond : (b : Bool) (r : SpecRow) (d : ℕ) → on (filled? (cond b (Some r) None)) d ≡ cond b (cond (holds r d) (r.tuple ∷ []) []) []
on_cond true r d = refl
on_cond false r d = refl

cond_none : (b : Bool) → cond {A = TupleSet} b [] [] ≡ []
cond_none true = refl
cond_none false = refl

-- ---- window

cond_append : (b : Bool) (S U : TupleSet) → cond b (S ++ U) [] ≡ cond b S [] ++ cond b U []
cond_append true S U = refl
cond_append false S U = refl

cond_and : (b c : Bool) (S : TupleSet) → cond (b && c) S [] ≡ cond b (cond c S []) []
cond_and true c S = refl
cond_and false c S = refl

shared : (f e g h d : ℕ) → (ltb (max f g) (min e h) && (leb (max f g) d && ltb d (min e h))) ≡ ((leb f d && ltb d e) && (leb g d && ltb d h))
shared f e g h d = grind (arith, nat_tests)

window_each : (first end d : ℕ) (o : Option SpecRow) → on (filled? (cut first end o)) d ≡ window first end d (on (filled? o) d)
window_each first end d None = sym (cond_none (leb first d && ltb d end))
window_each first end d (Some r) =
    let alone : TupleSet = r.tuple ∷ [] in
    let less : Bool = ltb (max first r.first) (min end r.end) in
    on_cond less (record { tuple = r.tuple; first = max first r.first; end = min end r.end }) d
    ∙ sym (cond_and less (leb (max first r.first) d && ltb d (min end r.end)) alone)
    ∙ ap (λ b. cond b alone []) (shared first end r.first r.end d)
    ∙ cond_and (leb first d && ltb d end) (holds r d) alone

pub windows : (m : Meaning) (first end : ℕ) → Windows m first end
windows m first end d = same _ _ (placewise m (windowed m first end) d (window first end d) (cond_none (leb first d && ltb d end)) (cond_append (leb first d && ltb d end)) (λ k. window_each first end d (m.at k)) m.count)

-- ---- select

select_each : (q : Condition) (d : ℕ) (o : Option SpecRow) → on (filled? (kept q o)) d ≡ select q (on (filled? o) d)
select_each q d None = refl
select_each q d (Some r) = on_cond (meets q r.tuple) r d ∙ step (holds r d)
  where
    step : (b : Bool) → cond (meets q r.tuple) (cond b (r.tuple ∷ []) []) [] ≡ filter (meets q) (cond b (r.tuple ∷ []) [])
    step true = refl
    step false = cond_none (meets q r.tuple)

pub selects : (m : Meaning) (q : Condition) → Selects m q
selects m q d = same _ _ (placewise m (selected m q) d (select q) refl (filter-append (meets q)) (λ k. select_each q d (m.at k)) m.count)

-- ---- project

project_each : (cs : List ℕ) (d : ℕ) (o : Option SpecRow) → on (filled? (picked_row cs o)) d ≡ project cs (on (filled? o) d)
project_each cs d None = refl
project_each cs d (Some r) = step (holds r d)
  where
    step : (b : Bool) → cond b (picked cs r.tuple ∷ []) [] ≡ map (picked cs) (cond b (r.tuple ∷ []) [])
    step true = refl
    step false = refl

pub projects : (m : Meaning) (cs : List ℕ) → Projects m cs
projects m cs d = same _ _ (placewise m (projected m cs) d (project cs) refl (map-append (picked cs)) (λ k. project_each cs d (m.at k)) m.count)

-- ---- union

module _ (a b : Meaning) where
  left_places : (n : ℕ) → n ≤ a.count → rows_below (united a b) n ≡ rows_below a n
  left_places zero h = refl
  left_places (suc k) h = ap₂ (λ x o. x ++ filled? (cond o (a.at k) (b.at (k - a.count)))) (left_places k (omega arith)) (lt-ltb k a.count h)

  right_places : (n : ℕ) → rows_below (united a b) (a.count + n) ≡ rows_of a ++ rows_below b n
  right_places zero = ap (rows_below (united a b)) (add-zero a.count) ∙ left_places a.count (omega arith) ∙ sym (append-nil (rows_of a))
  right_places (suc k) =
      let past : a.count ≤ a.count + k = omega arith in
      let back : a.count + k - a.count ≡ k = omega arith in
      ap (rows_below (united a b)) (add-suc a.count k)
      ∙ ap₂ (λ x o. x ++ filled? (cond o (a.at (a.count + k)) (b.at (a.count + k - a.count)))) (right_places k) (le-ltb (a.count + k) a.count past)
      ∙ append_assoc (rows_of a) (rows_below b k) (filled? (b.at (a.count + k - a.count)))
      ∙ ap (λ j. rows_of a ++ (rows_below b k ++ filled? (b.at j))) back

  pub unites : Unites a b
  unites d = same _ _ (ap (λ l. on l d) (right_places b.count) ∙ on_append (rows_of a) (rows_of b) d)
