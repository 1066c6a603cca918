-- The value of a row is taken into the cuts that it holds, from turn to turn.
use Rattle.std.proofs.Common.{◌≡◌, ℕ, ◌+◌, ◌-◌, ◌<◌, ◌≤◌, true, false, ltb, leb, List, [], ◌∷◌, ◌++◌, map, length, get_or, take, drop, set, ℤ, sym, refl, ap, ◌∙◌, subst, ap₂, arith}
use borrow.Rule.Slice.PartMut.{put_mid}
use Rattle.std.specs.List.{AllByRecursion as AllOf}
use Rattle.std.proofs.ByRecursion.{All-from_get_or}
use Rattle.std.proofs.lemmas.List.Edits.{map_over_more}
use Rattle.std.proofs.lemmas.List.{append-nil, drop_all, take_all, take-append-drop, get_or-take, get_or-drop, get_or-append_right, get_or_default, length-take, length-take-le, length-drop, length-map, map-append}
use Rattle.std.proofs.lemmas.Bool.{and_left, and_right, lt-leb, le-leb, lt-ltb, le-ltb, and_from, cond-true, cond-false}
use Rattle.relation.specs.declared.rows.Row.{Row}
use Rattle.relation.specs.Rows.{holds}
use Rattle.collect.specs.Areas.{no_row, bare}
use Rattle.cuts.specs.declared.bests.Extreme.{Extreme}
use Rattle.cuts.specs.Days.{Rises}
use Rattle.cuts.specs.Bests.{kept_at, kept_by_row}

same_map : {X : Type 0} (f : X → X) (xs : List X) → AllOf (λ x. f x ≡ x) xs → map f xs ≡ xs
same_map f [] h = refl
same_map f (x ∷ xs) h = ap₂ (λ y ys. y ∷ ys) h.0 (same_map f xs h.1)

-- a row does not hold days before its first, nor its end and those after it
pub not_yet : (w : Row) (d : ℕ) → d < w.first → holds (bare w) d ≡ false
not_yet w d lt = and_left (leb w.first d) (ltb d w.end) (lt-leb w.first d lt)

pub no_more : (w : Row) (d : ℕ) → w.end ≤ d → holds (bare w) d ≡ false
no_more w d le = and_right (leb w.first d) (ltb d w.end) (le-ltb d w.end le)

module _ (e : Extreme) (z : ℤ) (w : Row) (before : List Row) where
  abbrev f : Row → Row
  f = kept_by_row e z w

  -- the first i cuts are done, and those in front of i do not fall short of the row
  pub record Keeping (after : List Row) (i : ℕ) : Type 0 where
    pub parts : after ≡ map f (take i before) ++ drop i before
    pub reached : (k : ℕ) → i ≤ k → k < length before → w.first ≤ (get_or before k no_row).first

  pub keeping_none : ((k : ℕ) → k < length before → w.first ≤ (get_or before k no_row).first) → Keeping before 0
  keeping_none high = record { parts = refl; reached = λ k le lt. high k lt }

  module _ (after : List Row) (i : ℕ) (a : Keeping after i) where
    -- what is not done stays as it is, from a cut at or after the end on
    pub keeping_all : Rises before → (i < length before → w.end ≤ (get_or before i no_row).first) → after ≡ map f before
    keeping_all rises past =
        a.parts ∙ ap (λ xs. map f (take i before) ++ xs) (sym (same_map f (drop i before) same)) ∙ sym (map-append f (take i before) (drop i before)) ∙ ap (map f) (take-append-drop i before)
      where
        same : AllOf (λ c. f c ≡ c) (drop i before)
        same =
            All-from_get_or (λ c. f c ≡ c) (drop i before) no_row
            (λ k lt. let l : i + k < length before = omega (arith, length-drop i before) in
            subst (λ c. f c ≡ c) (sym (get_or-drop i before k no_row)) (cond-false _ _ _ (no_more w (get_or before (i + k) no_row).first (omega (arith, past (omega arith), rises i (i + k) (omega arith) l)))))

    module _ (same : length after ≡ length before) (lt : i < length before) where
      abbrev c : Row
      c = get_or after i no_row

      -- the next cut is as it was
      pub next_still : c ≡ get_or before i no_row
      next_still =
          ap (λ ws. get_or ws i no_row) a.parts
          ∙ get_or-append_right (map f (take i before)) (drop i before) i i no_row (length-map (take i before) f ∙ length-take-le i before (omega arith)) (omega arith)
          ∙ get_or-drop i before (i - i) no_row ∙ ap (λ k. get_or before k no_row) (omega arith)

      pub keeping_more : (v : Row) → v ≡ kept_at e z c → c.first < w.end → Keeping (set after i v) (i + 1)
      keeping_more v is under = record {
        parts =
            ap (set after i) (is ∙ sym (cond-true _ _ _ held))
            ∙ map_over_more f before after i c lt a.parts (get_or_default after i no_row c (omega arith));
        reached = λ k le l. a.reached k (omega arith) l;
      }
        where
          held : holds (bare w) c.first ≡ true
          held = and_from (leb w.first c.first) (ltb c.first w.end) (le-leb w.first c.first (omega (arith, a.reached i (omega arith) lt, ap (λ r. r.first) next_still))) (lt-ltb c.first w.end under)

-- ---- the cuts that are not before the row

module _ (cuts : List Row) (begun : ℕ) (le : begun ≤ length cuts) where
  abbrev pub left : List Row
  left = take (length cuts - begun) (drop begun cuts)

  left_is : left ≡ drop begun cuts
  left_is = take_all (length cuts - begun) (drop begun cuts) (omega (arith, length-drop begun cuts))

  left_at : (k : ℕ) → get_or left k no_row ≡ get_or cuts (begun + k) no_row
  left_at k = ap (λ cs. get_or cs k no_row) left_is ∙ get_or-drop begun cuts k no_row

  left_long : length left ≡ length cuts - begun
  left_long = ap length left_is ∙ length-drop begun cuts

  pub left_reached : (w : Row) → ((k : ℕ) → begun ≤ k → k < length cuts → w.first ≤ (get_or cuts k no_row).first) → (k : ℕ) → k < length left → w.first ≤ (get_or left k no_row).first
  left_reached w high k lt = omega (arith, ap (λ c. c.first) (left_at k), high (begun + k) (omega arith) (omega (arith, left_long)))

  pub left_rises : Rises cuts → Rises left
  left_rises rises i j a lt = omega (arith, ap (λ c. c.first) (left_at i), ap (λ c. c.first) (left_at j), rises (begun + i) (begun + j) (omega arith) (omega (arith, left_long)))

  -- those before it stay as they are
  pub kept_whole : (e : Extreme) (z : ℤ) (w : Row) (items : List Row) → ((k : ℕ) → k < begun → (get_or cuts k no_row).first < w.first) → items ≡ map (kept_by_row e z w) left → put_mid begun (length cuts - begun) cuts items ≡ map (kept_by_row e z w) cuts
  kept_whole e z w items low is =
      ap₂ (λ xs ys. xs ++ ys) (sym (same_map (kept_by_row e z w) (take begun cuts) same))
      (ap (λ ys. items ++ ys) (drop_all (length cuts - begun) (drop begun cuts) (omega (arith, length-drop begun cuts))) ∙ append-nil items ∙ is ∙ ap (map (kept_by_row e z w)) left_is)
      ∙ sym (map-append (kept_by_row e z w) (take begun cuts) (drop begun cuts)) ∙ ap (map (kept_by_row e z w)) (take-append-drop begun cuts)
    where
      same : AllOf (λ c. kept_by_row e z w c ≡ c) (take begun cuts)
      same =
          All-from_get_or (λ c. kept_by_row e z w c ≡ c) (take begun cuts) no_row
          (λ k lt. let l : k < begun = omega (arith, length-take begun cuts) in
          subst (λ c. kept_by_row e z w c ≡ c) (sym (get_or-take begun cuts k no_row l)) (cond-false _ _ _ (not_yet w (get_or cuts k no_row).first (low k l))))
