-- The tuple of a stored row, and the test whether a row has a given one.
use Rattle.std.proofs.Common.{◌≡◌, ℕ, zero, suc, ◌≤◌, Bool, true, false, cond, List, [], ◌∷◌, length, take, pos, Some, None, Decides, Option, sym, refl, ap, ◌∙◌, subst, arith}
use Rattle.std.proofs.lemmas.Bool.{cond-true, cond-false}
use Rattle.std.proofs.lemmas.Bool.Decides.{same_from_decides}
use Rattle.relation.specs.declared.rows.Row.{Row}
use Rattle.relation.specs.Bounds.{most_columns}
use Rattle.relation.specs.Sets.{Tuple, equal}
use Rattle.relation.specs.Rows.{SpecRow}
use Rattle.relation.specs.Stored.{firsts, stored}
use Rattle.relation.proofs.TupleSets.{equal_decides}
use Rattle.source.specs.Meaning.{Meaning, Sound, row?, row_of}
use Rattle.source.proofs.Cells.{fits_length}
use Rattle.except.specs.Blockers.{span, having, blocker}

take_firsts : {X : Type 0} (xs : List X) (m : ℕ) (d : X) → length xs ≤ m → take (length xs) (firsts m xs d) ≡ xs
take_firsts [] m d h = refl
take_firsts (x ∷ xs) zero d h = absurd (omega arith)
take_firsts (x ∷ xs) (suc m) d h = ap (λ ys. x ∷ ys) (take_firsts xs m d (omega arith))

-- the first n values of a stored row are its tuple
pub tuple_of : (r : SpecRow) (n : ℕ) → length r.tuple ≡ n → n ≤ most_columns → take n (stored r).values ≡ r.tuple
tuple_of r n e h =
    ap (λ k. take k (stored r).values) (sym e) ∙ take_firsts r.tuple most_columns (pos 0) (omega arith)

-- whether the row w at place p of m has the tuple t is told by q
module _ (m : Meaning) (s : Sound m) (p : ℕ) (w : Row) (t : Tuple) (q : Bool) (at : row_of m p ≡ Some w) (whole : length t ≡ length m.kinds) (told : Decides q (take (length t) w.values ≡ t)) where
  blocker_is : cond q (Some (record { first = w.first; end = w.end })) None ≡ blocker m t p
  blocker_is = from (m.at p) refl at
    where
      from : (o : Option SpecRow) → m.at p ≡ o → row? o ≡ Some w → cond q (Some (record { first = w.first; end = w.end })) None ≡ having t o
      from None f e = let z : ◌≡◌ {A = ℕ} 0 1 = cc in absurd (omega arith)
      from (Some r) f e =
          let is : w ≡ stored r = cc in
          let wide : length r.tuple ≡ length t = fits_length m.kinds r.tuple (s.filled p r f).fitting ∙ sym whole in
          let same : take (length t) w.values ≡ r.tuple = ap (λ (v : Row). take (length t) v.values) is ∙ tuple_of r (length t) wide (omega (arith, s.few_kinds)) in
          let test = same_from_decides q (equal r.tuple t) (subst (λ u. Decides q (u ≡ t)) same told) (equal_decides r.tuple t) in
          ap (λ (v : Row). cond q (Some (record { first = v.first; end = v.end })) None) is ∙ ap (λ b. cond b (Some (span r)) None) test

  pub has_tuple : q ≡ true → Some (record { first = w.first; end = w.end }) ≡ blocker m t p
  has_tuple e = sym (cond-true q _ _ e) ∙ blocker_is

  pub lacks_tuple : q ≡ false → None ≡ blocker m t p
  lacks_tuple e = sym (cond-false q (Some (record { first = w.first; end = w.end })) None e) ∙ blocker_is
