-- Queries are read just as they are written.
use Rattle.std.proofs.Common.{◌≡◌, ℕ, ◌≤◌, List, [], ◌∷◌, ◌++◌, length, Some, None, codes, sym, refl, ap, ◌∙◌, subst, inl, inr, append-nil}
use Rattle.tallies.specs.declared.rules.Tally.{Tally}
use Rattle.tallies.specs.declared.rules.Tally.TheVariants as tallying
use Rattle.words.specs.declared.names.Reserved.TheVariants as reserved
use Rattle.takers.specs.Take.{Text, ◌then◌, take_column, take_sign, nothing}
use Rattle.takers.specs.Writing.{WritesColumn, spelled_sign}
use Rattle.std.proofs.lemmas.Option.{same_Some}
use Rattle.takers.proofs.Options.{then_some, then_is}
use Rattle.takers.proofs.Taking.{column_read, column_take, sign_read, sign_take, nothing_read}
use Rattle.grammar.specs.declared.keywords.Verb.{Verb}
use Rattle.grammar.specs.declared.keywords.Verb.TheVariants.{Select, Project, Union, Except, Join, Count, Sum, Min, Max}
use Rattle.grammar.specs.Meaning.{Operand, Query, select, project, union, except, join, tally}
use Rattle.grammar.specs.Said.{columns_in, pairs_in}
use Rattle.grammar.specs.Grammar.{take_reserved, operand, take_term, all_columns, all_pairs, filled, take_pairs, take_groups, Measured, measured, both, query_of}
use Rattle.grammar.specs.Language.{Each, EachPair, WritesOperand, Optional, WritesGroups, WritesOf, WritesTally, WritesQuery}
use Rattle.grammar.proofs.Tailing.{reserved_read, columns_read, columns_are, columns_some, pairs_read, pairs_are, pairs_some, filled_read, filled_take, optional_read, optional_take}
use Rattle.grammar.proofs.Parting.{spelled_verb, operand_read, operand_take, not_during, term_read, term_take}

-- ---- tails

columns_after : (ws ts : List Text) → filled all_columns ws ≡ Some ts → (ws ≡ ts) × (1 ≤ length (columns_in ts)) × Each WritesColumn ts (columns_in ts)
columns_after = filled_read all_columns columns_in (Each WritesColumn) refl columns_read columns_are columns_some

columns_found : (ws : List Text) (cs : List ℕ) → Each WritesColumn ws cs → 1 ≤ length cs → (filled all_columns ws ≡ Some ws) × (columns_in ws ≡ cs)
columns_found = filled_take all_columns columns_in (Each WritesColumn) refl columns_read columns_are columns_some

groups_read : (ws ts : List Text) → take_groups ws ≡ Some ts → WritesGroups ws (columns_in ts)
groups_read ws ts e = optional_read all_columns columns_in (Each WritesColumn) refl columns_read columns_are columns_some reserved.By ws ts (take_reserved reserved.By ws) refl e

groups_take : (ws : List Text) (cs : List ℕ) → WritesGroups ws cs → (ts : List Text) × (take_groups ws ≡ Some ts) × (columns_in ts ≡ cs)
groups_take = optional_take all_columns columns_in (Each WritesColumn) refl columns_read columns_are columns_some reserved.By

joined_read : (ws ts : List Text) → take_pairs ws ≡ Some ts → Optional (codes "on") EachPair ws (pairs_in ts)
joined_read ws ts e = optional_read all_pairs pairs_in EachPair refl pairs_read pairs_are pairs_some reserved.On ws ts (take_reserved reserved.On ws) refl e

joined_take : (ws : List Text) (ps : List (ℕ × ℕ)) → Optional (codes "on") EachPair ws ps → (ts : List Text) × (take_pairs ws ≡ Some ts) × (pairs_in ts ≡ ps)
joined_take = optional_take all_pairs pairs_in EachPair refl pairs_read pairs_are pairs_some reserved.On

-- `on` and `by` are not `during`
on_no_window : (ws : List Text) (ps : List (ℕ × ℕ)) → Optional (codes "on") EachPair ws ps → take_reserved reserved.During ws ≡ None
on_no_window ws ps (inl h) = ap (take_reserved reserved.During) h.0
on_no_window ws ps (inr h) = ap (take_reserved reserved.During) h.1

by_no_window : (ws : List Text) (cs : List ℕ) → WritesGroups ws cs → take_reserved reserved.During ws ≡ None
by_no_window ws cs (inl h) = ap (take_reserved reserved.During) h.0
by_no_window ws cs (inr h) = ap (take_reserved reserved.During) h.1

-- ---- what the reader finds is written there

measured_read : (ws : List Text) (m : Measured) → measured ws ≡ Some m → (xs : List Text) × (ts : List Text) × (us : List Text) × (ws ≡ xs ++ (ts ++ us)) × WritesOperand xs m.operand × WritesOf ts m.column × WritesGroups us (columns_in m.groups)
measured_read ws m e =
    let a = then_some (operand ws) _ m e in
    let o = then_some (take_reserved reserved.Of a.0.1) _ m a.2 in
    let c = then_some (take_column o.0) _ m o.2 in
    let g = then_some (take_groups c.0.1) _ m c.2 in
    let x = operand_read ws a.0 a.1 in
    let y = reserved_read reserved.Of a.0.1 o.0 o.1 in
    let k = column_read o.0 c.0 c.1 in
    let P : Measured → Type 0 = λ m. (xs : List Text) × (ts : List Text) × (us : List Text) × (ws ≡ xs ++ (ts ++ us)) × WritesOperand xs m.operand × WritesOf ts m.column × WritesGroups us (columns_in m.groups) in
    subst P (same_Some _ _ g.2)
    (x.0, codes "of" ∷ k.0 ∷ [], c.0.1, x.1 ∙ ap (λ l. x.0 ++ l) (y ∙ ap (λ l. codes "of" ∷ l) k.1), x.2, (k.0, refl, k.2), groups_read c.0.1 g.0 g.1)

tallied_read : (v : Text) (ws : List Text) (q : Query) (make : ℕ → Tally) → ((ts : List Text) (c : ℕ) → WritesOf ts c → WritesTally v ts (make c)) → (measured ws then (λ m. Some (tally (make m.column) m.operand (columns_in m.groups)))) ≡ Some q → WritesQuery v ws q
tallied_read v ws q make told e =
    let m = then_some (measured ws) (λ m. Some (tally (make m.column) m.operand (columns_in m.groups))) q e in
    let r = measured_read ws m.0 m.1 in
    subst (WritesQuery v ws) (same_Some _ _ m.2) (r.0, r.1, r.2, r.3, r.4, told r.1 m.0.column r.5, r.6)

both_read : (ws : List Text) (r : Operand × Operand) → both ws ≡ Some r → (xs : List Text) × (ys : List Text) × (ws ≡ xs ++ ys) × WritesOperand xs r.0 × WritesOperand ys r.1
both_read ws r e =
    let a = then_some (operand ws) _ r e in
    let b = then_some (operand a.0.1) _ r a.2 in
    let n = then_some (nothing b.0.1) _ r b.2 in
    let x = operand_read ws a.0 a.1 in
    let y = operand_read a.0.1 b.0 b.1 in
    let P : Operand × Operand → Type 0 = λ r. (xs : List Text) × (ys : List Text) × (ws ≡ xs ++ ys) × WritesOperand xs r.0 × WritesOperand ys r.1 in
    subst P (same_Some _ _ n.2) (x.0, y.0, x.1 ∙ ap (λ l. x.0 ++ l) (y.1 ∙ ap (λ l. y.0 ++ l) (nothing_read b.0.1 n.0 n.1) ∙ append-nil y.0), x.2, y.2)

-- four words after an operand, and nothing after them
lined_up : (ws xs l₀ l₁ l₂ l₃ l₄ : List Text) (a b c d : Text) → ws ≡ xs ++ l₀ → l₀ ≡ a ∷ l₁ → l₁ ≡ b ∷ l₂ → l₂ ≡ c ∷ l₃ → l₃ ≡ d ∷ l₄ → l₄ ≡ [] → ws ≡ xs ++ a ∷ b ∷ c ∷ d ∷ []
lined_up ws xs l₀ l₁ l₂ l₃ l₄ a b c d e₀ e₁ e₂ e₃ e₄ e₅ =
    e₀ ∙ ap (λ l. xs ++ l) (e₁ ∙ ap (λ l. a ∷ l) (e₂ ∙ ap (λ l. b ∷ l) (e₃ ∙ ap (λ l. c ∷ l) (e₄ ∙ ap (λ l. d ∷ l) e₅))))

pub query_read : (v : Text) (k : Verb) (ws : List Text) (q : Query) → v ≡ spelled_verb k → query_of k ws ≡ Some q → WritesQuery v ws q
query_read v Select ws q s e =
    let a = then_some (operand ws) _ q e in
    let o = then_some (take_reserved reserved.Where a.0.1) _ q a.2 in
    let c = then_some (take_column o.0) _ q o.2 in
    let g = then_some (take_sign c.0.1) _ q c.2 in
    let t = then_some (take_term g.0.1) _ q g.2 in
    let n = then_some (nothing t.0.1) _ q t.2 in
    let x = operand_read ws a.0 a.1 in
    let y = reserved_read reserved.Where a.0.1 o.0 o.1 in
    let j = column_read o.0 c.0 c.1 in
    let r = sign_read c.0.1 g.0 g.1 in
    let u = term_read g.0.1 t.0 t.1 in
    let z = nothing_read t.0.1 n.0 n.1 in
    subst (WritesQuery v ws) (same_Some (select a.0.0 (record { column = c.0.0; sign = g.0.0; term = t.0.0 })) q n.2)
    (s, (x.0, j.0, u.0, lined_up ws x.0 a.0.1 o.0 c.0.1 g.0.1 t.0.1 (codes "where") j.0 (spelled_sign g.0.0) u.0 x.1 y j.1 r u.1 z, x.2, j.2, u.2))
query_read v Project ws q s e =
    let a = then_some (operand ws) _ q e in
    let o = then_some (take_reserved reserved.On a.0.1) _ q a.2 in
    let c = then_some (filled all_columns o.0) _ q o.2 in
    let x = operand_read ws a.0 a.1 in
    let y = reserved_read reserved.On a.0.1 o.0 o.1 in
    let f = columns_after o.0 c.0 c.1 in
    subst (WritesQuery v ws) (same_Some _ _ c.2) (s, (x.0, c.0, x.1 ∙ ap (λ l. x.0 ++ l) (y ∙ ap (λ l. codes "on" ∷ l) f.0), x.2, f.1, f.2))
query_read v Union ws q s e = let p = then_some (both ws) (λ p. Some (union p.0 p.1)) q e in subst (WritesQuery v ws) (same_Some _ _ p.2) (s, both_read ws p.0 p.1)
query_read v Except ws q s e = let p = then_some (both ws) (λ p. Some (except p.0 p.1)) q e in subst (WritesQuery v ws) (same_Some _ _ p.2) (s, both_read ws p.0 p.1)
query_read v Join ws q s e =
    let a = then_some (operand ws) _ q e in
    let b = then_some (operand a.0.1) _ q a.2 in
    let p = then_some (take_pairs b.0.1) _ q b.2 in
    let x = operand_read ws a.0 a.1 in
    let y = operand_read a.0.1 b.0 b.1 in
    subst (WritesQuery v ws) (same_Some _ _ p.2) (s, (x.0, y.0, b.0.1, x.1 ∙ ap (λ l. x.0 ++ l) y.1, x.2, y.2, joined_read b.0.1 p.0 p.1))
query_read v Count ws q s e =
    let a = then_some (operand ws) _ q e in
    let g = then_some (take_groups a.0.1) _ q a.2 in
    let x = operand_read ws a.0 a.1 in
    subst (WritesQuery v ws) (same_Some _ _ g.2) (x.0, [], a.0.1, x.1, x.2, (s, refl), groups_read a.0.1 g.0 g.1)
query_read v Sum ws q s e = tallied_read v ws q tallying.Sum (λ ts c h. (s, h)) e
query_read v Min ws q s e = tallied_read v ws q tallying.Min (λ ts c h. (s, h)) e
query_read v Max ws q s e = tallied_read v ws q tallying.Max (λ ts c h. (s, h)) e

-- ---- what is written there, the reader finds

both_take : (ws xs ys : List Text) (a b : Operand) → ws ≡ xs ++ ys → WritesOperand xs a → WritesOperand ys b → both ws ≡ Some (a, b)
both_take ws xs ys a b e x y =
    then_is (operand ws) (λ a. operand a.1 then (λ b. nothing b.1 then (λ _. Some (a.0, b.0)))) (a, ys) (ap operand e ∙ operand_take xs a ys x (ap (take_reserved reserved.During) (sym (append-nil ys)) ∙ not_during ys b [] y))
    ∙ then_is (operand ys) (λ b. nothing b.1 then (λ _. Some (a, b.0))) (b, []) (ap operand (sym (append-nil ys)) ∙ operand_take ys b [] y refl)

measured_take : (ws xs ts us : List Text) (a : Operand) (c : ℕ) (cs : List ℕ) → ws ≡ xs ++ (ts ++ us) → WritesOperand xs a → WritesOf ts c → WritesGroups us cs → (m : Measured) × (measured ws ≡ Some m) × (m.operand ≡ a) × (m.column ≡ c) × (columns_in m.groups ≡ cs)
measured_take ws xs ts us a c cs e x t g =
    let w = t.0 in
    let gs = groups_take us cs g in
    let m : Measured = record { operand = a; column = c; groups = gs.0 } in
    let on : List Text = codes "of" ∷ w ∷ us in (
      m,
      ap measured (e ∙ ap (λ l. xs ++ (l ++ us)) t.1)
          ∙ then_is (operand (xs ++ on)) (λ a. take_reserved reserved.Of a.1 then (λ on. take_column on then (λ c. take_groups c.1 then (λ gs. Some (record { operand = a.0; column = c.0; groups = gs }))))) (a, on) (operand_take xs a on x refl)
          ∙ then_is (take_column (w ∷ us)) (λ c. take_groups c.1 then (λ gs. Some (record { operand = a; column = c.0; groups = gs }))) (c, us) (column_take w c us t.2)
          ∙ then_is (take_groups us) (λ gs. Some (record { operand = a; column = c; groups = gs })) gs.0 gs.1,
      refl,
      refl,
      gs.2,
    )

tallied_take : (ws xs ts us : List Text) (a : Operand) (c : ℕ) (cs : List ℕ) (make : ℕ → Tally) → ws ≡ xs ++ (ts ++ us) → WritesOperand xs a → WritesOf ts c → WritesGroups us cs → (measured ws then (λ m. Some (tally (make m.column) m.operand (columns_in m.groups)))) ≡ Some (tally (make c) a cs)
tallied_take ws xs ts us a c cs make e x t g =
    let m = measured_take ws xs ts us a c cs e x t g in
    then_is (measured ws) (λ m. Some (tally (make m.column) m.operand (columns_in m.groups))) m.0 m.1
    ∙ (λ i. Some (tally (make (m.3 i)) (m.2 i) (m.4 i)))

-- the verb of a query that is written
abbrev pub verb_of : Query → Verb
verb_of (select a q) = Select
verb_of (project a cs) = Project
verb_of (union a b) = Union
verb_of (except a b) = Except
verb_of (join a b ps) = Join
verb_of (tally tallying.Count a cs) = Count
verb_of (tally (tallying.Sum c) a cs) = Sum
verb_of (tally (tallying.Min c) a cs) = Min
verb_of (tally (tallying.Max c) a cs) = Max

pub query_verb : (v : Text) (ws : List Text) (q : Query) → WritesQuery v ws q → v ≡ spelled_verb (verb_of q)
query_verb v ws (select a q) h = h.0
query_verb v ws (project a cs) h = h.0
query_verb v ws (union a b) h = h.0
query_verb v ws (except a b) h = h.0
query_verb v ws (join a b ps) h = h.0
query_verb v ws (tally tallying.Count a cs) h = h.5.0
query_verb v ws (tally (tallying.Sum c) a cs) h = h.5.0
query_verb v ws (tally (tallying.Min c) a cs) h = h.5.0
query_verb v ws (tally (tallying.Max c) a cs) h = h.5.0

pub query_take : (v : Text) (ws : List Text) (q : Query) → WritesQuery v ws q → query_of (verb_of q) ws ≡ Some q
query_take v ws (select a q) g =
    let h = g.1 in
    let on : List Text = codes "where" ∷ h.1 ∷ spelled_sign q.sign ∷ h.2 ∷ [] in
    ap (query_of Select) h.3
    ∙ then_is (operand (h.0 ++ on)) (λ a. take_reserved reserved.Where a.1 then (λ on. take_column on then (λ c. take_sign c.1 then (λ s. take_term s.1 then (λ x. nothing x.1 then (λ _. Some (select a.0 (record { column = c.0; sign = s.0; term = x.0 })))))))) (a, on) (operand_take h.0 a on h.4 refl)
    ∙ then_is (take_column (h.1 ∷ spelled_sign q.sign ∷ h.2 ∷ [])) (λ c. take_sign c.1 then (λ s. take_term s.1 then (λ x. nothing x.1 then (λ _. Some (select a (record { column = c.0; sign = s.0; term = x.0 })))))) (q.column, spelled_sign q.sign ∷ h.2 ∷ []) (column_take h.1 q.column (spelled_sign q.sign ∷ h.2 ∷ []) h.5)
    ∙ then_is (take_sign (spelled_sign q.sign ∷ h.2 ∷ [])) (λ s. take_term s.1 then (λ x. nothing x.1 then (λ _. Some (select a (record { column = q.column; sign = s.0; term = x.0 }))))) (q.sign, h.2 ∷ []) (sign_take q.sign (h.2 ∷ []))
    ∙ then_is (take_term (h.2 ∷ [])) (λ x. nothing x.1 then (λ _. Some (select a (record { column = q.column; sign = q.sign; term = x.0 })))) (q.term, []) (term_take h.2 q.term [] h.6)
query_take v ws (project a cs) g =
    let h = g.1 in
    let f = columns_found h.1 cs h.5 h.4 in
    ap (query_of Project) h.2
    ∙ then_is (operand (h.0 ++ codes "on" ∷ h.1)) (λ a. take_reserved reserved.On a.1 then (λ on. filled all_columns on then (λ cs. Some (project a.0 (columns_in cs))))) (a, codes "on" ∷ h.1) (operand_take h.0 a (codes "on" ∷ h.1) h.3 refl)
    ∙ then_is (filled all_columns h.1) (λ cs. Some (project a (columns_in cs))) h.1 f.0
    ∙ ap (λ l. Some (project a l)) f.1
query_take v ws (union a b) g = let h = g.1 in then_is (both ws) (λ p. Some (union p.0 p.1)) (a, b) (both_take ws h.0 h.1 a b h.2 h.3 h.4)
query_take v ws (except a b) g = let h = g.1 in then_is (both ws) (λ p. Some (except p.0 p.1)) (a, b) (both_take ws h.0 h.1 a b h.2 h.3 h.4)
query_take v ws (join a b ps) g =
    let h = g.1 in
    let p = joined_take h.2 ps h.6 in
    let on = h.1 ++ h.2 in
    ap (query_of Join) h.3
    ∙ then_is (operand (h.0 ++ on)) (λ a. operand a.1 then (λ b. take_pairs b.1 then (λ ps. Some (join a.0 b.0 (pairs_in ps))))) (a, on) (operand_take h.0 a on h.4 (not_during h.1 b h.2 h.5))
    ∙ then_is (operand on) (λ b. take_pairs b.1 then (λ ps. Some (join a b.0 (pairs_in ps)))) (b, h.2) (operand_take h.1 b h.2 h.5 (on_no_window h.2 ps h.6))
    ∙ then_is (take_pairs h.2) (λ ps. Some (join a b (pairs_in ps))) p.0 p.1
    ∙ ap (λ l. Some (join a b l)) p.2
query_take v ws (tally tallying.Count a cs) h =
    let g = groups_take h.2 cs h.6 in
    ap (query_of Count) (h.3 ∙ ap (λ l. h.0 ++ (l ++ h.2)) h.5.1)
    ∙ then_is (operand (h.0 ++ h.2)) (λ a. take_groups a.1 then (λ gs. Some (tally tallying.Count a.0 (columns_in gs)))) (a, h.2) (operand_take h.0 a h.2 h.4 (by_no_window h.2 cs h.6))
    ∙ then_is (take_groups h.2) (λ gs. Some (tally tallying.Count a (columns_in gs))) g.0 g.1
    ∙ ap (λ l. Some (tally tallying.Count a l)) g.2
query_take v ws (tally (tallying.Sum c) a cs) h = tallied_take ws h.0 h.1 h.2 a c cs tallying.Sum h.3 h.4 h.5.1 h.6
query_take v ws (tally (tallying.Min c) a cs) h = tallied_take ws h.0 h.1 h.2 a c cs tallying.Min h.3 h.4 h.5.1 h.6
query_take v ws (tally (tallying.Max c) a cs) h = tallied_take ws h.0 h.1 h.2 a c cs tallying.Max h.3 h.4 h.5.1 h.6
