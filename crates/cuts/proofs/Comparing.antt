-- The values of one row after the other are taken into the cuts.
use Rattle.std.proofs.Common.{◌≡◌, ℕ, ◌+◌, ◌<◌, ◌≤◌, true, false, cond, List, [], ◌∷◌, map, length, get_or, take, ℤ, pos, sym, refl, ap, ◌∙◌, subst, arith}
use lib.ListN.{length-map}
use lib.Signed.{lt_z}
use Rattle.std.proofs.lemmas.List.{get_or-map, map-id, take_more, take_all}
use Rattle.std.proofs.lemmas.List.Sums.{fold_push}
use Rattle.relation.specs.declared.rows.Row.{Row}
use Rattle.relation.specs.Rows.{holds}
use Rattle.collect.specs.Areas.{no_row, bare}
use Rattle.cuts.specs.declared.bests.Extreme.{Extreme}
use Rattle.cuts.specs.Amounts.{value, valued}
use Rattle.cuts.specs.Bests.{better, kept_at, kept_by_row, kept_by_rows}
use Rattle.cuts.specs.Cuts.{cut_row}
use Rattle.cuts.specs.Days.{Rises}
use Rattle.cuts.proofs.Lists.{map_map, map_alike}

-- ---- the days stay as they are

day_at : (e : Extreme) (z : ℤ) (c : Row) → (kept_at e z c).first ≡ c.first
day_at e z c = elim (lt_z (pos 0) (value 0 c)) as (λ b. (cond b (cut_row c.first (pos 1) (better e (value 1 c) z)) (cut_row c.first (pos 1) z)).first ≡ c.first) [ true ↦ refl | false ↦ refl ]

day_by_row : (e : Extreme) (z : ℤ) (w c : Row) → (kept_by_row e z w c).first ≡ c.first
day_by_row e z w c = elim (holds (bare w) c.first) as (λ b. (cond b (kept_at e z c) c).first ≡ c.first) [ true ↦ day_at e z c | false ↦ refl ]

pub day_by_rows : (e : Extreme) (x : ℕ) (ws : List Row) (c : Row) → (kept_by_rows e x ws c).first ≡ c.first
day_by_rows e x [] c = refl
day_by_rows e x (w ∷ ws) c = day_by_rows e x ws (kept_by_row e (valued x w) w c) ∙ day_by_row e (valued x w) w c

pub rises_map : (f : Row → Row) → ((c : Row) → (f c).first ≡ c.first) → (cs : List Row) → Rises cs → Rises (map f cs)
rises_map f same cs rises i j le lt =
    let l : j < length cs = omega (arith, length-map cs f) in
    let at = λ (k : ℕ) (m : k < length cs). ap (λ r. r.first) (get_or-map f cs k no_row no_row m) ∙ same (get_or cs k no_row) in
    omega (arith, at i (omega arith), at j l, rises i j le l)

-- ---- from turn to turn

module _ (e : Extreme) (x : ℕ) (group cuts : List Row) where
  -- the cuts once the values of the first i rows are taken in
  abbrev pub compared : ℕ → List Row
  compared i = map (kept_by_rows e x (take i group)) cuts

  pub compared_none : cuts ≡ compared 0
  compared_none = sym (map-id cuts)

  pub compared_rises : (i : ℕ) (after : List Row) → after ≡ compared i → Rises cuts → Rises after
  compared_rises i after is rises = subst Rises (sym is) (rises_map (kept_by_rows e x (take i group)) (day_by_rows e x (take i group)) cuts rises)

  pub compared_more : (i : ℕ) (after part : List Row) (v : ℤ) → i < length group → after ≡ compared i → v ≡ valued x (get_or group i no_row) → part ≡ map (kept_by_row e v (get_or group i no_row)) after → part ≡ compared (i + 1)
  compared_more i after part v lt is v-is written =
      let w : Row = get_or group i no_row in
      written
      ∙ (λ k. map (kept_by_row e (v-is k) w) (is k))
      ∙ map_map (kept_by_row e (valued x w) w) (kept_by_rows e x (take i group)) cuts
      ∙ map_alike _ _ (λ c. sym (fold_push (λ b u. kept_by_row e (valued x u) u b) c (take i group) w)) cuts
      ∙ ap (λ ws. map (kept_by_rows e x ws) cuts) (sym (take_more group i no_row lt))

  pub compared_all : (i : ℕ) (after : List Row) → length group ≤ i → after ≡ compared i → after ≡ map (kept_by_rows e x group) cuts
  compared_all i after le is = is ∙ ap (λ ws. map (kept_by_rows e x ws) cuts) (take_all i group le)
