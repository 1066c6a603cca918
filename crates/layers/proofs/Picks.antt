-- Columns picked from kinds, tuples and stored rows.
use Rattle.std.specs.List.{slice_get, list_all, enumerate_from, AllWithin, HoldsAt}
use Rattle.std.specs.Option.{MatchOption, unwrap_or, option_map}
use Rattle.std.proofs.lemmas.List.FromFn.{length-enumerate_from, get_or-enumerate_from}
use Rattle.std.proofs.Common.{◌≡◌, ℕ, zero, suc, ◌+◌, ◌-◌, ◌<◌, ◌≤◌, true, leb, ◌≢◌, List, [], ◌∷◌, map, length, get_or, take, pos, Some, None, Option, sym, refl, ap, ◌∙◌, subst, ap₂, ⊎_elim, arith}
use Rattle.std.proofs.lemmas.List.{length-take-le, get_or-take, get_or-map}
use Rattle.std.proofs.lemmas.Bool.{and_parts, cases_lt, le-leb, and_from}
use Rattle.relation.specs.declared.kinds.Kind.TheVariants.{Number}
use Rattle.relation.specs.declared.rows.Row.{Row}
use Rattle.relation.specs.Bounds.{most_columns}
use Rattle.relation.specs.Rows.{SpecRow}
use Rattle.relation.specs.Sets.{Tuple, column}
use Rattle.relation.specs.Stored.{firsts, stored}
use Rattle.relation.specs.Operations.{picked}
use Rattle.relation.proofs.Every.{every_at}
use Rattle.source.specs.Meaning.{Meaning, Sound, NoneLed, Begins, cell, value?, row?, kind_of, value_of, row_of}
use Rattle.std.proofs.lemmas.Option.{slice_get-get_or, slice_get-map}
use Rattle.source.proofs.Cells.{fits_length}
use Rattle.layers.specs.Columns.{is_column, are_columns, InPlace}
use Rattle.layers.specs.Projects.{picked_row, projected, no_project}
use Rattle.layers.specs.Soundness.{is_column_lem, Chosen, are_columns_lem}
use Rattle.layers.proofs.Leads.{led}
use Rattle.layers.proofs.Stores.{column_stored}

-- ---- columns that are looked at

pub all_columns_lem : (n : ℕ) (cs : List ℕ) → 0 < length cs → length cs ≤ most_columns → list_all (is_column n) cs ≡ true → are_columns n cs ≡ true
all_columns_lem n cs some few each = and_from (leb 1 (length cs)) _ (le-leb 1 (length cs) some) (and_from (leb (length cs) most_columns) _ (le-leb (length cs) most_columns few) each)

-- the columns before the first that is out of its place
module _ (cs : List ℕ) where
  at_own : (n : ℕ) → n ≤ length cs → AllWithin (λ p. p.1 ≡ p.0 + 1) (enumerate_from 0 cs) 0 n → (i : ℕ) → i < n → get_or cs i 0 ≡ i + 1
  at_own n few each i lt =
      let at = get_or-enumerate_from 0 cs i (0, 0) (omega arith) in
      omega (arith, ap (λ p. p.0) at, ap (λ p. p.1) at, each i (0, 0) (omega arith) lt)

  pub in_place : (r : Option ℕ) → MatchOption r (AllWithin (λ p. p.1 ≡ p.0 + 1) (enumerate_from 0 cs) 0 (length (enumerate_from 0 cs))) (λ i. (i < length (enumerate_from 0 cs)) × HoldsAt (λ p. p.1 ≢ p.0 + 1) (enumerate_from 0 cs) i × AllWithin (λ p. p.1 ≡ p.0 + 1) (enumerate_from 0 cs) 0 i)
      → InPlace cs (unwrap_or r (length cs))
  in_place None each = record {
    few = omega arith;
    each = at_own (length cs) (omega arith) (λ k d low lt. each k d low (omega (arith, length-enumerate_from 0 cs)));
    last = λ lt. absurd (omega arith);
  }
  in_place (Some i) first =
      let lt : i < length cs = omega (arith, first.0, length-enumerate_from 0 cs) in
      let at = get_or-enumerate_from 0 cs i (0, 0) lt in
      record {
        few = omega arith;
        each = at_own i (omega arith) first.2;
        last = λ _ own. first.1 (0, 0) (omega (arith, ap (λ p. p.0) at, ap (λ p. p.1) at, own));
      }

-- ---- picked values

cell_in : {X : Type 0} (xs : List X) (c : ℕ) (d : X) → 1 ≤ c → c ≤ length xs → cell xs c ≡ Some (get_or xs (c - 1) d)
cell_in xs zero d h k = absurd (omega arith)
cell_in xs (suc i) d h k = let same : i ≡ suc i - 1 = omega arith in slice_get-get_or xs i d (omega arith) ∙ ap (λ j. Some (get_or xs j d)) same

module _ {X : Type 0} (d : X) (xs : List X) where
  nth_picked : (cs : List ℕ) (i b : ℕ) → list_all (is_column (length xs)) cs ≡ true → Some b ≡ slice_get cs i → cell xs b ≡ slice_get (map (λ c. get_or xs (c - 1) d) cs) i
  nth_picked [] i b h e = let z : ◌≡◌ {A = ℕ} 0 1 = cc in absurd (omega arith)
  nth_picked (c ∷ cs) zero b h e =
      let same : b ≡ c = cc in
      let within = is_column_lem (length xs) c (and_parts (is_column (length xs) c) (list_all (is_column (length xs)) cs) h).0 in
      ap (cell xs) same ∙ cell_in xs c d within.0 within.1
  nth_picked (c ∷ cs) (suc i) b h e = nth_picked cs i b (and_parts (is_column (length xs) c) (list_all (is_column (length xs)) cs) h).1 e

  pub cell_picked : (cs : List ℕ) (c b : ℕ) → list_all (is_column (length xs)) cs ≡ true → Some b ≡ cell cs c → cell xs b ≡ cell (map (λ j. get_or xs (j - 1) d) cs) c
  cell_picked cs zero b h e = let z : ◌≡◌ {A = ℕ} 0 1 = cc in absurd (omega arith)
  cell_picked cs (suc c) b h e = nth_picked cs c b h e

pub cell_missing : {X Y : Type 0} (f : X → Y) (xs : List X) (c : ℕ) → None ≡ cell xs c → None ≡ cell (map f xs) c
cell_missing f xs zero e = refl
cell_missing f xs (suc c) e = sym (slice_get-map f xs c ∙ ap (option_map f) (sym e))

-- ---- the parts of a row

picked_value : (n : ℕ) (cs : List ℕ) (o : Option SpecRow) (c b : ℕ) → list_all (is_column n) cs ≡ true → ((r : SpecRow) → o ≡ Some r → length r.tuple ≡ n) → Some b ≡ cell cs c → value? o b ≡ value? (picked_row cs o) c
picked_value n cs None c b each long e = refl
picked_value n cs (Some r) c b each long e = cell_picked (pos 0) r.tuple cs c b (subst (λ k. list_all (is_column k) cs ≡ true) (sym (long r refl)) each) e

pub missing_value : (cs : List ℕ) (o : Option SpecRow) (c : ℕ) → None ≡ cell cs c → None ≡ value? (picked_row cs o) c
missing_value cs None c e = refl
missing_value cs (Some r) c e = cell_missing (λ j. column j r.tuple) cs c e

picked_stored : (n : ℕ) (cs : List ℕ) (t : Tuple) → n ≤ most_columns → list_all (is_column n) cs ≡ true → picked cs (firsts most_columns t (pos 0)) ≡ picked cs t
picked_stored n [] t h e = refl
picked_stored n (c ∷ cs) t h e =
    let both = and_parts (is_column n c) (list_all (is_column n) cs) e in
    let within = is_column_lem n c both.0 in
    ap₂ ◌∷◌ (column_stored c t (omega (arith, within.1))) (picked_stored n cs t h both.1)

picked_row_lem : (n : ℕ) (cs : List ℕ) (o : Option SpecRow) (w : Row) → n ≤ most_columns → list_all (is_column n) cs ≡ true → Some w ≡ row? o
    → Some (record { first = w.first; end = w.end; values = firsts most_columns (picked cs w.values) (pos 0) }) ≡ row? (picked_row cs o)
picked_row_lem n cs None w h e p = let z : ◌≡◌ {A = ℕ} 0 1 = cc in absurd (omega arith)
picked_row_lem n cs (Some r) w h e p =
    let same : w ≡ stored r = cc in
    ap (λ (v : Row). Some (record { first = v.first; end = v.end; values = firsts most_columns (picked cs v.values) (pos 0) })) same
    ∙ ap (λ t. Some (record { first = r.first; end = r.end; values = firsts most_columns t (pos 0) })) (picked_stored n cs r.tuple h e)

-- ---- what was sought below

begins_within : (lead t : Tuple) → Begins lead t → length lead ≤ length t
begins_within [] t h = omega arith
begins_within (z ∷ lead) [] h = absurd h
begins_within (z ∷ lead) (y ∷ t) h = let k = begins_within lead t h.1 in omega arith

begins_at : (lead t : Tuple) (i : ℕ) → Begins lead t → i < length lead → get_or lead i (pos 0) ≡ get_or t i (pos 0)
begins_at [] t i h lt = absurd (omega arith)
begins_at (z ∷ lead) [] i h lt = absurd h
begins_at (z ∷ lead) (y ∷ t) zero h lt = h.0
begins_at (z ∷ lead) (y ∷ t) (suc i) h lt = begins_at lead t i h.1 (omega arith)

begins_from : (lead t : Tuple) → length lead ≤ length t → ((i : ℕ) → i < length lead → get_or lead i (pos 0) ≡ get_or t i (pos 0)) → Begins lead t
begins_from [] t h each = tt
begins_from (z ∷ lead) [] h each = absurd (omega arith)
begins_from (z ∷ lead) (y ∷ t) h each = (each 0 (omega arith), begins_from lead t (omega arith) (λ i lt. each (suc i) (omega arith)))

module _ (cs : List ℕ) (t lead : Tuple) (n k : ℕ) (each : list_all (is_column (length t)) cs ≡ true) (own : InPlace cs n) (few : k ≤ n) (front : k ≤ length lead) where
  wide : k ≤ length t
  wide = ⊎_elim
      (λ some.
      let last : k - 1 < n = omega arith in
      let within = is_column_lem (length t) (get_or cs (k - 1) 0) (every_at (is_column (length t)) cs 0 (k - 1) each (omega (arith, own.few))) in
      omega (arith, own.each (k - 1) last, within.1))
      (λ none. omega arith) (cases_lt 0 k)

  begins_front : Begins lead (picked cs t) → Begins (take k lead) t
  begins_front h =
      let long = length-take-le k lead front in
      begins_from (take k lead) t (omega (arith, long, wide)) (λ i lt.
      let below : i < k = omega (arith, long) in
      let at : get_or cs i 0 - 1 ≡ i = omega (arith, own.each i (omega arith)) in
      get_or-take k lead i (pos 0) below ∙ begins_at lead (picked cs t) i h (omega arith)
      ∙ get_or-map (λ c. column c t) cs i 0 (pos 0) (omega (arith, own.few)) ∙ ap (λ j. get_or t j (pos 0)) at)

picked_from : (cs : List ℕ) (o : Option SpecRow) (w : SpecRow) → picked_row cs o ≡ Some w → (v : SpecRow) × ((o ≡ Some v) × (w.tuple ≡ picked cs v.tuple))
picked_from cs None w p = let z : ◌≡◌ {A = ℕ} 0 1 = cc in absurd (omega arith)
picked_from cs (Some r) w p =
    let same : w ≡ record { tuple = picked cs r.tuple; first = r.first; end = r.end } = cc in
    (r, (refl, ap (λ (v : SpecRow). v.tuple) same))

-- ---- the questions to a project that was not refused

module _ (m : Meaning) (cs : List ℕ) (sound : Sound m) (allowed : no_project m cs ≡ None) where
  rule : Chosen (length m.kinds) cs
  rule = are_columns_lem m cs allowed

  long : (k : ℕ) (r : SpecRow) → m.at k ≡ Some r → length r.tuple ≡ length m.kinds
  long k r e = fits_length m.kinds r.tuple (sound.filled k r e).fitting

  pub kind_picked : (c b : ℕ) → Some b ≡ cell cs c → kind_of m b ≡ kind_of (projected m cs) c
  kind_picked c b e = cell_picked Number m.kinds cs c b rule.each e

  pub value_picked : (k c b : ℕ) → Some b ≡ cell cs c → value_of m k b ≡ value_of (projected m cs) k c
  value_picked k c b e = picked_value (length m.kinds) cs (m.at k) c b rule.each (long k) e

  pub row_picked : (k : ℕ) (w : Row) (vs : Tuple) → Some w ≡ row_of m k → vs ≡ firsts most_columns (picked cs w.values) (pos 0) → Some (record { first = w.first; end = w.end; values = vs }) ≡ row_of (projected m cs) k
  row_picked k w vs e h = ap (λ zs. Some (record { first = w.first; end = w.end; values = zs })) h ∙ picked_row_lem (length m.kinds) cs (m.at k) w sound.few_kinds rule.each e

  pub seek_picked : (lead : Tuple) (n j k r : ℕ) → InPlace cs n → j ≤ n → j ≤ length lead → NoneLed m (take j lead) k r → NoneLed (projected m cs) lead k r
  seek_picked lead n j k r own few front = led m (projected m cs) lead (take j lead) k r refl (λ p w at h.
      let v = picked_from cs (m.at p) w at in
      let each : list_all (is_column (length v.0.tuple)) cs ≡ true = subst (λ c. list_all (is_column c) cs ≡ true) (sym (long p v.0 v.1.0)) rule.each in
      (v.0, (v.1.0, begins_front cs v.0.tuple lead n j each own few front (subst (Begins lead) v.1.1 h))))
