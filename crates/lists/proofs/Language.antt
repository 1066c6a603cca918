-- The readers of a list's lines agree with what is written there.
use Rattle.std.proofs.Common.{◌≡◌, ℕ, ◌<◌, ◌≤◌, Bool, true, false, T, ltb, leb, List, [], ◌∷◌, map, length, ℤ, pos, negsuc, nat_abs, IfErr, Some, None, Ok, Err, Option, Result, sym, refl, ap, ◌∙◌, subst, ⊎_elim, arith, MatchResult}
use lib.Signed.{le_z}
use Rattle.std.specs.List.{AllByRecursion as AllOf}
use Rattle.std.proofs.lemmas.Bool.{cond-true, cond-false, and_parts, and_from, leb-true, le-leb, ltb-true, lt-ltb, cases_Bool, true≢false}
use Rattle.relation.specs.declared.kinds.Kind.{Kind}
use Rattle.relation.specs.declared.kinds.Kind.TheVariants as kind
use Rattle.relation.specs.declared.rows.Row.{Row}
use Rattle.relation.specs.declared.refusals.Reason.{Reason}
use Rattle.relation.specs.declared.refusals.Reason.TheVariants as reason
use Rattle.relation.specs.Bounds.{most_columns, end_of_days, smallest_number}
use Rattle.relation.specs.Rows.{SpecRow}
use Rattle.relation.specs.Values.{is_word, word}
use Rattle.words.specs.Name.{is_name}
use Rattle.words.specs.Kinds.{kind_of, is_kinds, kinds_of}
use Rattle.takers.specs.Take.{Text, ◌then◌, Val, number_val, word_val, take_value, RowText, take_row}
use Rattle.takers.specs.Writing.{Name, WritesValue, WritesValues}
use Rattle.std.proofs.lemmas.Option.{same_Some, cond_some}
use Rattle.takers.proofs.Options.{absent, then_some, then_is}
use Rattle.takers.proofs.Taking.{value_is, value_take, kinds_told, kinds_are, kinds_of_lem, kinds_is, row_read, row_take}
use Rattle.lists.specs.ListLines.{or_else, header_line, as_kind, take_as, fits, fitted, bounded, bounded_word, all_bounded, is_period, row_with, row_of, row_line}
use Rattle.lists.specs.ListLanguage.{HeaderSays, HeaderRefused, ReadsHeader, WritesRow, HeldAs, Held, Fits, InBounds, RowSays, RowRefused, ReadsRow}

-- ---- the header

pub header_said : (ws : List Text) (h : Text × List Kind) → HeaderSays ws h → header_line ws ≡ Ok h
header_said ws h s =
    let w = s.0.0 in
    ap header_line s.0.1
    ∙ cond-true (is_kinds w) _ _ (kinds_are w h.1 s.0.2).0
    ∙ cond-true (is_name h.0) _ _ s.1
    ∙ ap (λ o. or_else reason.Misfit o (λ ks. Ok (h.0, ks))) (kinds_is w h.1 s.0.2 s.2)

module _ (n k : Text) where
  of_kinds : (o : Option (List Kind)) → kinds_of k ≡ o → is_kinds k ≡ true → Name n → MatchResult (or_else reason.Misfit o (λ ks. Ok (n, ks))) (HeaderSays (n ∷ k ∷ [])) (HeaderRefused (n ∷ k ∷ []))
  of_kinds None e t m = (n, map kind_of k, (k, refl, kinds_told k t), m, λ le. absent (map kind_of k) (sym e ∙ kinds_is k (map kind_of k) (kinds_told k t) le))
  of_kinds (Some ks) e t m = let h = kinds_of_lem k ks e in ((k, refl, h.0), m, h.1)

  no_letters : is_kinds k ≡ false → HeaderRefused (n ∷ k ∷ []) reason.Form
  no_letters f m ks w =
      let same : k ≡ w.0 = cc w.1 in
      true≢false (sym (kinds_are w.0 ks w.2).0 ∙ ap is_kinds (sym same) ∙ f)

  two_words_lem : MatchResult (header_line (n ∷ k ∷ [])) (HeaderSays (n ∷ k ∷ [])) (HeaderRefused (n ∷ k ∷ []))
  two_words_lem =
      let C : Result (Text × List Kind) Reason → Type 0 = λ r. MatchResult r (HeaderSays (n ∷ k ∷ [])) (HeaderRefused (n ∷ k ∷ [])) in
      ⊎_elim
      (λ t. subst C (sym (cond-true (is_kinds k) _ _ t))
      (⊎_elim
      (λ m. subst C (sym (cond-true (is_name n) _ _ m)) (of_kinds (kinds_of k) refl t m))
      (λ m. subst C (sym (cond-false (is_name n) _ _ m)) (n, map kind_of k, (k, refl, kinds_told k t), λ y. true≢false (sym y ∙ m)))
      (cases_Bool (is_name n))))
      (λ f. subst C (sym (cond-false (is_kinds k) _ _ f)) (no_letters f))
      (cases_Bool (is_kinds k))

header_outcome : (ws : List Text) → MatchResult (header_line ws) (HeaderSays ws) (HeaderRefused ws)
header_outcome [] = λ n ks w. let l = ap length w.1 in omega arith
header_outcome (n ∷ []) = λ m ks w. let l = ap length w.1 in omega arith
header_outcome (n ∷ k ∷ []) = two_words_lem n k
header_outcome (n ∷ k ∷ v ∷ ws) = λ m ks w. let l = ap length w.1 in omega arith

-- the part of an outcome that is a refusal
refusal_of : {A : Type 0} (P : A → Type 0) (Q : Reason → Type 0) (r : Result A Reason) → MatchResult r P Q → IfErr r Q
refusal_of P Q (Ok x) h = tt
refusal_of P Q (Err e) h = h

pub header_reads : (ws : List Text) (r : Result (Text × List Kind) Reason) → r ≡ header_line ws → ReadsHeader ws r
header_reads ws r e =
    let o = subst (λ q. MatchResult q (HeaderSays ws) (HeaderRefused ws)) (sym e) (header_outcome ws) in
    ((λ h. ((λ s. e ∙ header_said ws h s), λ q. subst (λ v. MatchResult v (HeaderSays ws) (HeaderRefused ws)) q o)), refusal_of (HeaderSays ws) (HeaderRefused ws) r o)

-- ---- values

held_as : (k : Kind) (w : Text) (v : Val) (z : ℤ) → WritesValue w v → as_kind k v ≡ Some z → HeldAs k v z
held_as kind.Number w (number_val y) z h e = sym (same_Some _ _ e)
held_as kind.Number w (word_val q) z h e = absent z e
held_as kind.Word w (number_val y) z h e = absent z e
held_as kind.Word w (word_val q) z h e = sym (cond_some (is_word q) (pos (word q)) z e).1

as_held : (k : Kind) (w : Text) (v : Val) (z : ℤ) → WritesValue w v → HeldAs k v z → as_kind k v ≡ Some z
as_held kind.Number w (number_val y) z h e = ap (λ x. Some x) (sym e)
as_held kind.Number w (word_val q) z h e = absurd e
as_held kind.Word w (number_val y) z h e = absurd e
as_held kind.Word w (word_val q) z h e = cond-true (is_word q) _ _ h.1 ∙ ap (λ x. Some x) (sym e)

abbrev goes : Kind → List Kind → Option (ℤ × List Text) → Option (List ℤ)
goes k ks o = o then (λ r. fits ks r.1 then (λ zs. Some (r.0 ∷ zs)))

taken_as : (k : Kind) (w : Text) (v : Val) (on : List Text) → WritesValue w v → take_as k (w ∷ on) ≡ (as_kind k v then (λ z. Some (z, on)))
taken_as k w v on h = then_is (take_value (w ∷ on)) (λ v. as_kind k v.0 then (λ z. Some (z, v.1))) (v, on) (value_take w v on h)

fits_held : (ks : List Kind) (ts : List Text) (vs : List Val) (zs : List ℤ) → WritesValues ts vs → fits ks ts ≡ Some zs → Held ks vs zs
fits_held [] [] [] zs h e = subst (Held [] []) (same_Some _ _ e) tt
fits_held [] [] (v ∷ vs) zs h e = absurd h
fits_held [] (t ∷ ts) vs zs h e = absent zs e
fits_held (k ∷ ks) [] vs zs h e = absent zs e
fits_held (k ∷ ks) (t ∷ ts) [] zs h e = absurd h
fits_held (k ∷ ks) (t ∷ ts) (v ∷ vs) zs h e =
    let a = then_some (take_as k (t ∷ ts)) (λ r. fits ks r.1 then (λ zs. Some (r.0 ∷ zs))) zs e in
    let b = then_some (fits ks a.0.1) (λ zs. Some (a.0.0 ∷ zs)) zs a.2 in
    let c = then_some (as_kind k v) (λ z. Some (z, ts)) a.0 (sym (taken_as k t v ts h.0) ∙ a.1) in
    let p : ◌≡◌ {A = ℤ × List Text} (c.0, ts) a.0 = same_Some _ _ c.2 in
    subst (Held (k ∷ ks) (v ∷ vs)) (same_Some _ _ b.2)
    (held_as k t v a.0.0 h.0 (c.1 ∙ (λ i. Some (p i).0)), fits_held ks ts vs b.0 h.1 ((λ i. fits ks (p i).1) ∙ b.1))

held_fits : (ks : List Kind) (ts : List Text) (vs : List Val) (zs : List ℤ) → WritesValues ts vs → Held ks vs zs → fits ks ts ≡ Some zs
held_fits [] [] [] [] h e = refl
held_fits [] [] [] (z ∷ zs) h e = absurd e
held_fits [] ts (v ∷ vs) zs h e = absurd e
held_fits [] (t ∷ ts) [] zs h e = absurd h
held_fits (k ∷ ks) ts [] zs h e = absurd e
held_fits (k ∷ ks) ts (v ∷ vs) [] h e = absurd e
held_fits (k ∷ ks) [] (v ∷ vs) (z ∷ zs) h e = absurd h
held_fits (k ∷ ks) (t ∷ ts) (v ∷ vs) (z ∷ zs) h e =
    ap (goes k ks) (taken_as k t v ts h.0 ∙ then_is (as_kind k v) (λ z. Some (z, ts)) z (as_held k t v z h.0 e.0))
    ∙ then_is (fits ks ts) (λ zs. Some (z ∷ zs)) zs (held_fits ks ts vs zs h.1 e.1)

fitted_told : (ks : List Kind) (ts : List Text) (vs : List Val) (zs : List ℤ) → WritesValues ts vs → fitted ks ts ≡ Some zs → Fits ks vs zs
fitted_told ks ts vs zs h e =
    ⊎_elim
    (λ t. (leb-true _ _ t, fits_held ks ts vs zs h (sym (cond-true (leb (length ks) most_columns) (fits ks ts) None t) ∙ e)))
    (λ f. absent zs (sym (cond-false (leb (length ks) most_columns) (fits ks ts) None f) ∙ e))
    (cases_Bool (leb (length ks) most_columns))

fitted_is : (ks : List Kind) (ts : List Text) (vs : List Val) (zs : List ℤ) → WritesValues ts vs → Fits ks vs zs → fitted ks ts ≡ Some zs
fitted_is ks ts vs zs h f = cond-true (leb (length ks) most_columns) (fits ks ts) None (le-leb _ _ f.0) ∙ held_fits ks ts vs zs h f.1

-- ---- bounds

truth : (b : Bool) → T b → b ≡ true
truth true t = refl
truth false t = absurd t

bounded_told : (v : Val) → bounded (Some v) ≡ true → InBounds v
bounded_told (number_val z) e = let p = and_parts (le_z smallest_number z) _ e in (record { le = subst T (sym p.0) tt }, record { le = subst T (sym p.1) tt })
bounded_told (word_val q) e = tt

bounded_is : (v : Val) → InBounds v → bounded (Some v) ≡ true
bounded_is (number_val z) h = and_from _ _ (truth _ h.0.le) (truth _ h.1.le)
bounded_is (word_val q) h = refl

bounds_told : (ts : List Text) (vs : List Val) → WritesValues ts vs → all_bounded ts ≡ true → AllOf InBounds vs
bounds_told [] [] h e = tt
bounds_told [] (v ∷ vs) h e = absurd h
bounds_told (t ∷ ts) [] h e = absurd h
bounds_told (t ∷ ts) (v ∷ vs) h e =
    let p = and_parts (bounded_word t) _ e in
    (bounded_told v (sym (ap bounded (value_is t v h.0)) ∙ p.0), bounds_told ts vs h.1 p.1)

bounds_are : (ts : List Text) (vs : List Val) → WritesValues ts vs → AllOf InBounds vs → all_bounded ts ≡ true
bounds_are [] [] h e = refl
bounds_are [] (v ∷ vs) h e = absurd h
bounds_are (t ∷ ts) [] h e = absurd h
bounds_are (t ∷ ts) (v ∷ vs) h e = and_from _ _ (ap bounded (value_is t v h.0) ∙ bounded_is v e.0) (bounds_are ts vs h.1 e.1)

-- ---- periods

period_told : (f u : ℤ) → is_period f u ≡ true → (pos (nat_abs f) ≡ f) × (pos (nat_abs u) ≡ u) × (nat_abs f < nat_abs u) × (nat_abs u ≤ end_of_days)
period_told (pos a) (pos b) e = let p = and_parts (ltb a b) _ (and_parts (leb 0 a) _ e).1 in (refl, refl, ltb-true _ _ p.0, leb-true _ _ p.1)
period_told (pos a) (negsuc b) e = absurd (true≢false (sym (and_parts (leb 0 a) false e).1))
period_told (negsuc a) u e = absurd (true≢false (sym e))

period_is : (a b : ℕ) → a < b → b ≤ end_of_days → is_period (pos a) (pos b) ≡ true
period_is a b lt le = and_from _ _ (le-leb 0 a (omega arith)) (and_from _ _ (lt-ltb _ _ lt) (le-leb _ _ le))

-- ---- rows

same_length : (ts : List Text) (vs : List Val) → WritesValues ts vs → length ts ≡ length vs
same_length [] [] h = refl
same_length [] (v ∷ vs) h = absurd h
same_length (t ∷ ts) [] h = absurd h
same_length (t ∷ ts) (v ∷ vs) h = let e = same_length ts vs h.1 in omega arith

-- what a line that is written says, by the words of its values
row_taken : (ws : List Text) (f u : ℤ) (vs : List Val) → (w : WritesRow ws f u vs) → take_row ws ≡ Some (record { from = f; until = u; values = w.2 })
row_taken ws f u vs w =
    let n = same_length w.2 vs w.7 in
    let some = w.6 in
    ap take_row w.3 ∙ row_take w.0 w.1 f u w.2 vs w.4 w.5 (omega arith) w.7

pub row_said : (ks : List Kind) (ws : List Text) (row : Row) → RowSays ks ws row → row_line ks ws ≡ Ok row
row_said ks ws row s =
    let r = s.0 in
    let vs = s.1 in
    let w = s.2 in
    let p : RowText = record { from = pos r.first; until = pos r.end; values = w.2 } in
    ap (λ o. or_else reason.Form o (row_of ks)) (row_taken ws (pos r.first) (pos r.end) vs w)
    ∙ ap (λ o. or_else reason.Misfit o (row_with p)) (fitted_is ks w.2 vs r.tuple w.7 s.3)
    ∙ cond-true (is_period (pos r.first) (pos r.end)) _ _ (period_is r.first r.end s.4.0 s.4.1)
    ∙ cond-true (all_bounded w.2) _ _ (bounds_are w.2 vs w.7 s.5)
    ∙ ap (λ x. Ok x) s.6

module _ (ks : List Kind) (ws : List Text) where
  abbrev Outcome : Result Row Reason → Type 0
  Outcome r = MatchResult r (RowSays ks ws) (RowRefused ks ws)

  no_form : take_row ws ≡ None → RowRefused ks ws reason.Form
  no_form e f u vs w = absent (record { from = f; until = u; values = w.2 }) (sym e ∙ row_taken ws f u vs w)

  module _ (p : RowText) (vs : List Val) (w : WritesRow ws p.from p.until vs) (v : WritesValues p.values vs) where
    with_values : (zs : List ℤ) → Fits ks vs zs → Outcome (row_with p zs)
    with_values zs fit =
        ⊎_elim
        (λ t.
        let q = period_told p.from p.until t in
        let r : SpecRow = record { tuple = zs; first = nat_abs p.from; end = nat_abs p.until } in
        let written : WritesRow ws (pos r.first) (pos r.end) vs = subst (λ f. WritesRow ws f (pos r.end) vs) (sym q.0) (subst (λ u. WritesRow ws p.from u vs) (sym q.1) w) in
        subst Outcome (sym (cond-true (is_period p.from p.until) _ _ t))
        (⊎_elim
        (λ b. subst Outcome (sym (cond-true (all_bounded p.values) _ _ b)) (r, vs, written, fit, (q.2, q.3), bounds_told p.values vs v b, refl))
        (λ b. subst Outcome (sym (cond-false (all_bounded p.values) _ _ b)) (r, vs, written, fit, (q.2, q.3), λ y. true≢false (sym (bounds_are p.values vs v y) ∙ b)))
        (cases_Bool (all_bounded p.values))))
        (λ t. subst Outcome (sym (cond-false (is_period p.from p.until) _ _ t))
        (p.from, p.until, vs, zs, w, fit, λ r a b h. true≢false (sym (period_is r.first r.end h.0 h.1) ∙ (λ i. is_period (a i) (b i)) ∙ t)))
        (cases_Bool (is_period p.from p.until))

    with_fit : (o : Option (List ℤ)) → fitted ks p.values ≡ o → Outcome (or_else reason.Misfit o (row_with p))
    with_fit None e = (p.from, p.until, vs, w, λ zs fit. absent zs (sym e ∙ fitted_is ks p.values vs zs v fit))
    with_fit (Some zs) e = with_values zs (fitted_told ks p.values vs zs v e)

  with_form : (o : Option RowText) → take_row ws ≡ o → Outcome (or_else reason.Form o (row_of ks))
  with_form None e = no_form e
  with_form (Some p) e =
      let t = row_read ws p e in
      let n = same_length p.values t.2 t.7 in
      let some = t.6 in
      with_fit p t.2 (t.0, t.1, p.values, t.3, t.4, t.5, omega arith, t.7) t.7 (fitted ks p.values) refl

pub row_reads : (ks : List Kind) (ws : List Text) (r : Result Row Reason) → r ≡ row_line ks ws → ReadsRow ks ws r
row_reads ks ws r e =
    let o = subst (Outcome ks ws) (sym e) (with_form ks ws (take_row ws) refl) in
    ((λ row. ((λ s. e ∙ row_said ks ws row s), λ q. subst (Outcome ks ws) q o)), refusal_of (RowSays ks ws) (RowRefused ks ws) r o)
