-- From sorted rows to the list that is left of them.
use Rattle.std.proofs.Common.{◌≡◌, ℕ, ◌-◌, ◌<◌, ◌≤◌, ◌↔◌, List, [], ◌∷◌, ◌++◌, map, length, get_or, take, drop, replicate, pos, sym, refl, ap, ◌∙◌, subst, ap₂, arith}
use lib.ListN.{length-map}
use borrow.Rule.Slice.PartMut.{put_mid}
use Rattle.std.specs.List.{AllByRecursion as AllOf}
use Rattle.std.proofs.ByRecursion.{All-get_or, All-from_get_or}
use Rattle.std.proofs.lemmas.List.{append-nil, get_or-take, get_or-map, drop_all, length-drop, length-take-le, take-append-le}
use Rattle.relation.specs.declared.rows.Row.{Row}
use Rattle.relation.specs.Bounds.{most_columns}
use Rattle.relation.specs.Sets.{Tuple}
use Rattle.relation.specs.Rows.{Holds, on, Lists}
use Rattle.relation.specs.Stored.{firsts, meant, stored, blank_row}
use Rattle.relation.proofs.Held.{In, day_set}
use Rattle.tree.specs.declared.Node.{Node}
use Rattle.tree.specs.Trees.{blank}
use Rattle.collect.specs.Areas.{no_row, bare, Tidy}
use Rattle.collect.specs.Collects.{HoldsList}
use Rattle.collect.specs.Keys.{key_of, listing}
use Rattle.collect.specs.Sorted.{sorted_by}
use Rattle.collect.proofs.Indexed.{no_spec, any_drawn}
use Rattle.collect.proofs.Narrow.{narrow_lists}
use Rattle.collect.proofs.Arranged.{length_sorted, seat, seat_below, place_at, sorted_has, all_sorted}

stored_meant : (c : ℕ) (w : Row) → Tidy c w → stored (meant c w) ≡ w
stored_meant c w t = λ i. record { first = w.first; end = w.end; values = sym t i }

stored_all : (c : ℕ) (l : List Row) → AllOf (Tidy c) l → map stored (map (meant c) l) ≡ l
stored_all c [] h = refl
stored_all c (w ∷ l) h = λ i. stored_meant c w h.0 i ∷ stored_all c l h.1 i

tidy_like : (c : ℕ) (x y : Row) → x.values ≡ y.values → Tidy c y → Tidy c x
tidy_like c x y e t = subst (λ v. v ≡ firsts most_columns (firsts c v (pos 0)) (pos 0)) (sym e) t

-- rows that all stand among others
drawn_in : (c : ℕ) (xs ys : List Row) → ((i : ℕ) → i < length xs → (j : ℕ) × ((j < length ys) × (get_or xs i no_row ≡ get_or ys j no_row)))
    → (d : ℕ) (t : Tuple) → In (map (meant c) xs) d t → In (map (meant c) ys) d t
drawn_in c xs ys drawn d t =
    any_drawn (λ r. (r.tuple ≡ t) × Holds r d) (map (meant c) xs) (map (meant c) ys) no_spec
    (λ i lt. let l : i < length xs = omega (arith, length-map xs (meant c)) in
    let s = drawn i l in
    (s.0, (omega (arith, s.1.0, length-map ys (meant c)), get_or-map (meant c) xs i no_row no_spec l ∙ ap (meant c) s.1.1 ∙ sym (get_or-map (meant c) ys s.0 no_row no_spec s.1.0))))

-- the rows behind the first r blanked
pub blank_behind : (left rest filled : List Row) (r wide : ℕ) → r ≤ length left → wide ≡ length (left ++ rest) → filled ≡ replicate (wide - r) blank_row → put_mid r (length (left ++ rest) - r) (left ++ rest) filled ≡ take r left ++ replicate (wide - r) blank_row
blank_behind left rest filled r wide le all is =
    ap₂ (λ xs ys. xs ++ (filled ++ ys)) (take-append-le r left rest le) (drop_all (length (left ++ rest) - r) (drop r (left ++ rest)) (omega (arith, length-drop r (left ++ rest))))
    ∙ ap (λ xs. take r left ++ xs) (append-nil filled ∙ is)

module _ (c : ℕ) (few : c ≤ most_columns) (before : List Row) (neat : AllOf (Tidy c) before) where
  abbrev after : List Row
  after = sorted_by listing key_of before

  -- the rows in their new order have the same sets
  same_sets : (d : ℕ) (t : Tuple) → In (map (meant c) after) d t ↔ In (map (meant c) before) d t
  same_sets d t = (
    drawn_in c after before
        (λ i lt. let l : i < length before = omega (arith, length_sorted listing key_of before) in
        (seat listing key_of before i, (seat_below listing key_of before i l, place_at listing key_of before i l)))
        d t,
    drawn_in c before after
        (λ i lt. let s = sorted_has listing key_of before i lt in
        (s.0, (omega (arith, s.1.0, length_sorted listing key_of before), sym s.1.1)))
        d t,
  )

  tidy_after : AllOf (Tidy c) after
  tidy_after = all_sorted listing key_of before (Tidy c) neat

  module _ (left : List Row) (r : ℕ) (room : r ≤ length left)
      (drawn : (k : ℕ) → k < r → (j : ℕ) × ((j < length after) × ((get_or left k no_row).values ≡ (get_or after j no_row).values)))
      (lists : Lists (map bare (take r left)) (on (map bare after))) where
    left_size : length (take r left) ≡ r
    left_size = length-take-le r left room

    tidy : AllOf (Tidy c) (take r left)
    tidy =
        All-from_get_or (Tidy c) (take r left) no_row
        (λ k lt. let l : k < r = omega (arith, left_size) in
        let d = drawn k l in
        tidy_like c (get_or (take r left) k no_row) (get_or after d.0 no_row) (ap (λ w. w.values) (get_or-take r left k no_row l) ∙ d.1.1) (All-get_or (Tidy c) after d.0 no_row d.1.0 tidy_after))

    listed : Lists (map (meant c) (take r left)) (on (map (meant c) before))
    listed =
        let w = narrow_lists c few (take r left) after tidy lists in
        let xs = map (meant c) after in
        let ys = map (meant c) before in
        record {
          canonical = w.canonical;
          sets = λ d day t. (
            (λ i. (day_set ys d t).1 ((same_sets d t).0 ((day_set xs d t).0 ((w.sets d day t).0 i)))),
            λ i. (w.sets d day t).1 ((day_set xs d t).1 ((same_sets d t).1 ((day_set ys d t).0 i))),
          );
        }

    -- the list stands, and the rest is blank
    pub holds_list : (wide long : ℕ) (rows : List Row) (index : List Node) → rows ≡ take r left ++ replicate (wide - r) blank_row → index ≡ replicate long blank
        → HoldsList (on (map (meant c) before)) wide long r rows index
    holds_list wide long rows index e f =
        let size : length (map (meant c) (take r left)) ≡ r = length-map (take r left) (meant c) ∙ left_size in
        record {
          list = map (meant c) (take r left);
          lists = listed;
          count = sym size;
          rows_are = e ∙ ap₂ (λ ws k. ws ++ replicate (wide - k) blank_row) (sym (stored_all c (take r left) tidy)) (sym size);
          index_are = f;
        }
