-- The tails of a line are read just as they are written.
use Rattle.std.proofs.Common.{◌≡◌, ℕ, ◌≤◌, Bool, true, ◌&&◌, leb, List, [], ◌∷◌, length, is_some, Some, None, Option, sym, refl, ap, ◌∙◌, subst, inl, inr, arith}
use Rattle.std.specs.Str.{bytes_eq}
use Rattle.std.proofs.lemmas.Slice.Eq.{bytes_eq-Decides}
use Rattle.std.proofs.lemmas.Bool.{cond-true, and_parts, and_from, leb-true, le-leb, true≢false}
use Rattle.words.specs.declared.names.Reserved.{Reserved}
use Rattle.words.specs.declared.tokens.Position.TheVariants as position
use Rattle.words.specs.Token.{token, column}
use Rattle.takers.specs.Take.{Text, ◌then◌, Val, column_in, nothing, value_of, column_at, all_values}
use Rattle.takers.specs.Writing.{WritesValue, WritesColumn, spelled_reserved}
use Rattle.std.proofs.lemmas.Option.{same_Some, cond_some}
use Rattle.takers.proofs.Options.{absent, then_some, then_is}
use Rattle.takers.proofs.Spelling.{column_token}
use Rattle.takers.proofs.Taking.{nothing_read, value_of_lem, value_is, column_read, taken_take}
use Rattle.grammar.specs.Said.{also, gathered, pair_at, values_in, columns_in, pairs_in}
use Rattle.grammar.specs.Grammar.{take_reserved, all_columns, all_pairs, filled, optionally}
use Rattle.grammar.specs.Language.{Each, EachPair, Optional}

-- ---- reserved words

pub reserved_read : (r : Reserved) (ws on : List Text) → take_reserved r ws ≡ Some on → ws ≡ spelled_reserved r ∷ on
reserved_read r [] on e = absent on e
reserved_read r (w ∷ ws) on e =
    let h = cond_some (bytes_eq w (spelled_reserved r)) ws on e in
    λ i. (bytes_eq-Decides w (spelled_reserved r)).0 h.0 i ∷ h.1 i

pub reserved_take : (r : Reserved) (on : List Text) → take_reserved r (spelled_reserved r ∷ on) ≡ Some on
reserved_take r on = cond-true (bytes_eq (spelled_reserved r) (spelled_reserved r)) _ _ ((bytes_eq-Decides (spelled_reserved r) (spelled_reserved r)).1 refl)

-- ---- a tail of words that each say something

module _ {A : Type 0} (f : Text → Option A) (all : List Text → Bool) (none : all [] ≡ true) (step : (w : Text) (ws : List Text) → all (w ∷ ws) ≡ (is_some (f w) && all ws)) (R : Text → A → Type 0) (told : (w : Text) (x : A) → f w ≡ Some x → R w x) (is : (w : Text) (x : A) → R w x → f w ≡ Some x) where
  pub each_read : (ws : List Text) → all ws ≡ true → Each R ws (gathered f ws)
  each_read [] e = tt
  each_read (w ∷ ws) e =
      let p = and_parts (is_some (f w)) (all ws) (sym (step w ws) ∙ e) in
      one (f w) refl p.0 (each_read ws p.1)
    where
      one : (o : Option A) → f w ≡ o → is_some o ≡ true → Each R ws (gathered f ws) → Each R (w ∷ ws) (also (f w) (gathered f ws))
      one None h s rest = absurd (true≢false (sym s))
      one (Some x) h s rest = subst (λ o. Each R (w ∷ ws) (also o (gathered f ws))) (sym h) (told w x h, rest)

  pub each_is : (ws : List Text) (xs : List A) → Each R ws xs → (all ws ≡ true) × (gathered f ws ≡ xs)
  each_is [] [] h = (none, refl)
  each_is [] (x ∷ xs) h = absurd h
  each_is (w ∷ ws) [] h = absurd h
  each_is (w ∷ ws) (x ∷ xs) h =
      let e = is w x h.0 in
      let r = each_is ws xs h.1 in
      (step w ws ∙ and_from (is_some (f w)) (all ws) (ap is_some e) r.0, (λ i. also (e i) (r.1 i)))

pub each_length : {A : Type 0} (R : Text → A → Type 0) (ws : List Text) (xs : List A) → Each R ws xs → length ws ≡ length xs
each_length R [] [] h = refl
each_length R [] (x ∷ xs) h = absurd h
each_length R (w ∷ ws) [] h = absurd h
each_length R (w ∷ ws) (x ∷ xs) h = let e = each_length R ws xs h.1 in omega arith

-- ---- values and columns

pub values_read : (ws : List Text) → all_values ws ≡ true → Each WritesValue ws (values_in ws)
values_read = each_read value_of all_values refl (λ w ws. refl) WritesValue value_of_lem value_is

pub values_are : (ws : List Text) (vs : List Val) → Each WritesValue ws vs → (all_values ws ≡ true) × (values_in ws ≡ vs)
values_are = each_is value_of all_values refl (λ w ws. refl) WritesValue value_of_lem value_is

pub column_at_lem : (w : Text) (k : ℕ) → column_at w ≡ Some k → WritesColumn w k
column_at_lem w k e =
    let h = then_some (token position.Column w) column_in k e in
    let r = column_read (w ∷ []) (k, []) (taken_take position.Column column_in w h.0 k [] h.1 h.2) in
    let same : r.0 ≡ w = cc r.1 in
    subst (λ v. WritesColumn v k) same r.2

pub column_is : (w : Text) (k : ℕ) → WritesColumn w k → column_at w ≡ Some k
column_is w k h = then_is (token position.Column w) column_in (column k) (column_token w k h)

pub columns_read : (ws : List Text) → all_columns ws ≡ true → Each WritesColumn ws (columns_in ws)
columns_read = each_read column_at all_columns refl (λ w ws. refl) WritesColumn column_at_lem column_is

pub columns_are : (ws : List Text) (cs : List ℕ) → Each WritesColumn ws cs → (all_columns ws ≡ true) × (columns_in ws ≡ cs)
columns_are = each_is column_at all_columns refl (λ w ws. refl) WritesColumn column_at_lem column_is

-- ---- pairs

pair_told : (x y : Text) (p : ℕ × ℕ) → pair_at x y ≡ Some p → WritesColumn x p.0 × WritesColumn y p.1
pair_told x y p e =
    let l = then_some (column_at x) (λ l. column_at y then (λ r. Some (l, r))) p e in
    let r = then_some (column_at y) (λ r. Some (l.0, r)) p l.2 in
    let q : ◌≡◌ {A = ℕ × ℕ} (l.0, r.0) p = same_Some _ _ r.2 in
    let P : ℕ × ℕ → Type 0 = λ p. WritesColumn x p.0 × WritesColumn y p.1 in
    subst P q (column_at_lem x l.0 l.1, column_at_lem y r.0 r.1)

pair_is : (x y : Text) (p : ℕ × ℕ) → WritesColumn x p.0 → WritesColumn y p.1 → pair_at x y ≡ Some p
pair_is x y p l r =
    then_is (column_at x) (λ l. column_at y then (λ r. Some (l, r))) p.0 (column_is x p.0 l)
    ∙ then_is (column_at y) (λ r. Some (p.0, r)) p.1 (column_is y p.1 r)

pub pairs_read : (ws : List Text) → all_pairs ws ≡ true → EachPair ws (pairs_in ws)
pairs_read [] e = tt
pairs_read (x ∷ []) e = absurd (true≢false (sym e))
pairs_read (x ∷ y ∷ ws) e =
    let p = and_parts (is_some (pair_at x y)) (all_pairs ws) e in
    one (pair_at x y) refl p.0 (pairs_read ws p.1)
  where
    one : (o : Option (ℕ × ℕ)) → pair_at x y ≡ o → is_some o ≡ true → EachPair ws (pairs_in ws) → EachPair (x ∷ y ∷ ws) (also (pair_at x y) (pairs_in ws))
    one None h s rest = absurd (true≢false (sym s))
    one (Some p) h s rest = let t = pair_told x y p h in subst (λ o. EachPair (x ∷ y ∷ ws) (also o (pairs_in ws))) (sym h) (t.0, t.1, rest)

pub pairs_are : (ws : List Text) (ps : List (ℕ × ℕ)) → EachPair ws ps → (all_pairs ws ≡ true) × (pairs_in ws ≡ ps)
pairs_are [] [] h = (refl, refl)
pairs_are [] (p ∷ ps) h = absurd h
pairs_are (x ∷ []) ps h = absurd h
pairs_are (x ∷ y ∷ ws) [] h = absurd h
pairs_are (x ∷ y ∷ ws) (p ∷ ps) h =
    let e = pair_is x y p h.0 h.1 in
    let r = pairs_are ws ps h.2 in
    (and_from (is_some (pair_at x y)) (all_pairs ws) (ap is_some e) r.0, (λ i. also (e i) (r.1 i)))

pub pairs_some : (ws : List Text) (ps : List (ℕ × ℕ)) → EachPair ws ps → (1 ≤ length ws → 1 ≤ length ps) × (1 ≤ length ps → 1 ≤ length ws)
pairs_some [] [] h = ((λ n. n), λ n. n)
pairs_some [] (p ∷ ps) h = absurd h
pairs_some (x ∷ []) ps h = absurd h
pairs_some (x ∷ y ∷ ws) [] h = absurd h
pairs_some (x ∷ y ∷ ws) (p ∷ ps) h = ((λ n. omega arith), λ n. omega arith)

pub columns_some : (ws : List Text) (cs : List ℕ) → Each WritesColumn ws cs → (1 ≤ length ws → 1 ≤ length cs) × (1 ≤ length cs → 1 ≤ length ws)
columns_some ws cs h = let e = each_length WritesColumn ws cs h in ((λ n. omega arith), λ n. omega arith)

-- ---- one or more, after nothing or a reserved word

module _ {A : Type 0} (wanted : List Text → Bool) (gather : List Text → List A) (R : List Text → List A → Type 0) (empty : gather [] ≡ []) (read : (ws : List Text) → wanted ws ≡ true → R ws (gather ws)) (are : (ws : List Text) (xs : List A) → R ws xs → (wanted ws ≡ true) × (gather ws ≡ xs)) (some : (ws : List Text) (xs : List A) → R ws xs → (1 ≤ length ws → 1 ≤ length xs) × (1 ≤ length xs → 1 ≤ length ws)) where
  pub filled_read : (ws ts : List Text) → filled wanted ws ≡ Some ts → (ws ≡ ts) × (1 ≤ length (gather ts)) × R ts (gather ts)
  filled_read ws ts e =
      let h = cond_some (leb 1 (length ws) && wanted ws) ws ts e in
      let p = and_parts (leb 1 (length ws)) (wanted ws) h.0 in
      let r = read ws p.1 in
      let P : List Text → Type 0 = λ ts. (1 ≤ length (gather ts)) × R ts (gather ts) in
      let t = subst P h.1 ((some ws (gather ws) r).0 (leb-true _ _ p.0), r) in
      (h.1, t.0, t.1)

  pub filled_take : (ws : List Text) (xs : List A) → R ws xs → 1 ≤ length xs → (filled wanted ws ≡ Some ws) × (gather ws ≡ xs)
  filled_take ws xs h n =
      let a = are ws xs h in
      (cond-true (leb 1 (length ws) && wanted ws) _ _ (and_from _ _ (le-leb _ _ ((some ws xs h).1 n)) a.0), a.1)

  module _ (r : Reserved) where
    pub optional_read : (ws ts : List Text) (o : Option (List Text)) → take_reserved r ws ≡ o → optionally wanted ws o ≡ Some ts → Optional (spelled_reserved r) R ws (gather ts)
    optional_read ws ts None q e =
        let h = then_some (nothing ws) (λ _. Some ws) ts e in
        let n = nothing_read ws h.0 h.1 in
        inl (n, ap gather (sym (same_Some _ _ h.2) ∙ n) ∙ empty)
    optional_read ws ts (Some on) q e =
        let f = filled_read on ts e in
        inr (ts, reserved_read r ws on q ∙ ap (λ l. spelled_reserved r ∷ l) f.0, f.1, f.2)

    pub optional_take : (ws : List Text) (xs : List A) → Optional (spelled_reserved r) R ws xs → (ts : List Text) × (optionally wanted ws (take_reserved r ws) ≡ Some ts) × (gather ts ≡ xs)
    optional_take ws xs (inl h) = ([], ap (λ l. optionally wanted l (take_reserved r l)) h.0, empty ∙ sym h.1)
    optional_take ws xs (inr h) =
        let f = filled_take h.0 xs h.3 h.2 in
        (h.0, (λ i. optionally wanted (h.1 i) (take_reserved r (h.1 i))) ∙ ap (optionally wanted (spelled_reserved r ∷ h.0)) (reserved_take r h.0) ∙ f.0, f.1)
