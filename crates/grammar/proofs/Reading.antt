-- Lines are read just as they are written.
use Rattle.std.proofs.Common.{◌≡◌, ◌≤◌, true, cond, ◌&&◌, leb, List, [], ◌∷◌, length, Some, None, codes, Option, sym, refl, ap, ◌∙◌, subst, inl, inr, ⊎_elim, arith}
use Rattle.std.proofs.lemmas.Bool.{cond-true, cond-false, cases_Bool, eqb-true, and_parts, and_from, leb-true, le-leb, true≢false}
use Rattle.relation.specs.declared.kinds.Kind.{Kind}
use Rattle.relation.specs.Bounds.{most_columns}
use Rattle.words.specs.Kinds.{kinds_of}
use Rattle.takers.specs.Take.{Text, ◌then◌, take_name, take_number, take_equals, take_kinds, nothing, all_values, RowText, take_row, is_blank}
use Rattle.takers.specs.Writing.{Name, WritesKinds, WritesValue}
use Rattle.std.proofs.lemmas.Option.{same_Some, cond_some}
use Rattle.takers.proofs.Options.{absent, then_some, then_is}
use Rattle.takers.proofs.Taking.{name_read, name_take, number_read, number_take, equals_read, equals_take, kinds_of_lem, kinds_is, nothing_read}
use Rattle.grammar.specs.declared.keywords.Verb.{Verb}
use Rattle.grammar.specs.declared.keywords.Verb.TheVariants.{Select, Project, Union, Except, Join, Count, Sum, Min, Max}
use Rattle.grammar.specs.declared.keywords.Keyword.{Keyword}
use Rattle.grammar.specs.declared.keywords.Keyword.TheVariants.{Load, Row, End, Drop, Show, Query}
use Rattle.grammar.specs.Keywords.{keyword}
use Rattle.grammar.specs.Meaning.{Line, skip, load, row, end, drop, show, query}
use Rattle.grammar.specs.Said.{values_in}
use Rattle.grammar.specs.Grammar.{query_of, only_name, form, worded, line_of}
use Rattle.grammar.specs.Language.{Writes, Reads, OneReading}
use Rattle.grammar.proofs.Tailing.{values_read, values_are, each_length}
use Rattle.grammar.proofs.Parting.{spelled_verb, spelled, keyword_spelled}
use Rattle.grammar.proofs.Asking.{verb_of, query_read, query_verb, query_take}

-- ---- kinds

kinds_read : (ws : List Text) (r : List Kind × List Text) → take_kinds ws ≡ Some r → (w : Text) × (ws ≡ w ∷ r.1) × WritesKinds w r.0 × (length r.0 ≤ most_columns)
kinds_read [] r e = absent r e
kinds_read (w ∷ ws) r e =
    let h = then_some (kinds_of w) (λ ks. Some (ks, ws)) r e in
    let k = kinds_of_lem w h.0 h.1 in
    let P : List Kind × List Text → Type 0 = λ r. (x : Text) × (w ∷ ws ≡ x ∷ r.1) × WritesKinds x r.0 × (length r.0 ≤ most_columns) in
    subst P (same_Some _ _ h.2) (w, refl, k.0, k.1)

kinds_take : (w : Text) (ks : List Kind) (on : List Text) → WritesKinds w ks → length ks ≤ most_columns → take_kinds (w ∷ on) ≡ Some (ks, on)
kinds_take w ks on h le = then_is (kinds_of w) (λ ks. Some (ks, on)) ks (kinds_is w ks h le)

-- ---- blank lines

blank_read : (ws : List Text) → is_blank ws ≡ true → Writes ws skip
blank_read [] e = inl refl
blank_read ([] ∷ vs) e = absurd (true≢false (sym e))
blank_read ((b ∷ bs) ∷ vs) e = inr (bs, vs, ap (λ c. (c ∷ bs) ∷ vs) (eqb-true _ _ e))

blank_is : (ws : List Text) → Writes ws skip → is_blank ws ≡ true
blank_is ws (inl e) = ap is_blank e
blank_is ws (inr h) = ap is_blank h.2

-- ---- what the reader finds is written there

row_read : (ws : List Text) (p : RowText) → take_row ws ≡ Some p → Writes (codes "row" ∷ ws) (row p.from p.until (values_in p.values))
row_read ws p e =
    let f = then_some (take_number ws) _ p e in
    let u = then_some (take_number f.0.1) _ p f.2 in
    let ts = u.0.1 in
    let made : RowText = record { from = f.0.0; until = u.0.0; values = ts } in
    let c = cond_some (leb 1 (length ts) && all_values ts) made p u.2 in
    let b = and_parts (leb 1 (length ts)) _ c.0 in
    let x = number_read ws f.0 f.1 in
    let y = number_read f.0.1 u.0 u.1 in
    let v = values_read ts b.1 in
    let n = each_length WritesValue ts (values_in ts) v in
    let some = leb-true _ _ b.0 in
    subst (λ p. Writes (codes "row" ∷ ws) (row p.from p.until (values_in p.values))) c.1
    (x.0, y.0, ts, ap (λ l. codes "row" ∷ l) (x.1 ∙ ap (λ l. x.0 ∷ l) y.1), x.2, y.2, omega arith, v)

only_name_read : (ws : List Text) (n : Text) → only_name ws ≡ Some n → (ws ≡ n ∷ []) × Name n
only_name_read ws n e =
    let a = then_some (take_name ws) _ n e in
    let z = then_some (nothing a.0.1) _ n a.2 in
    let r = name_read ws a.0 a.1 in
    subst (λ n. (ws ≡ n ∷ []) × Name n) (same_Some _ _ z.2) (r.0 ∙ ap (λ x. a.0.0 ∷ x) (nothing_read a.0.1 z.0 z.1), r.1)

only_name_take : (n : Text) → Name n → only_name (n ∷ []) ≡ Some n
only_name_take n h = then_is (take_name (n ∷ [])) (λ n. nothing n.1 then (λ _. Some n.0)) (n, []) (name_take n [] h)

form_read : (ws : List Text) (l : Line) (k : Keyword) → form (Some k) ws ≡ Some l → Writes (spelled k ∷ ws) l
form_read ws l Load e =
    let n = then_some (take_name ws) _ l e in
    let k = then_some (take_kinds n.0.1) _ l n.2 in
    let z = then_some (nothing k.0.1) _ l k.2 in
    let a = name_read ws n.0 n.1 in
    let b = kinds_read n.0.1 k.0 k.1 in
    let c = nothing_read k.0.1 z.0 z.1 in
    subst (Writes (codes "load" ∷ ws)) (same_Some _ _ z.2) (b.0, ap (λ x. codes "load" ∷ x) (a.0 ∙ ap (λ x. n.0.0 ∷ x) (b.1 ∙ ap (λ x. b.0 ∷ x) c)), a.1, b.2, b.3)
form_read ws l Row e =
    let p = then_some (take_row ws) (λ p. Some (row p.from p.until (values_in p.values))) l e in
    subst (Writes (codes "row" ∷ ws)) (same_Some _ _ p.2) (row_read ws p.0 p.1)
form_read ws l End e =
    let z = then_some (nothing ws) _ l e in
    subst (Writes (codes "end" ∷ ws)) (same_Some _ _ z.2) (ap (λ x. codes "end" ∷ x) (nothing_read ws z.0 z.1))
form_read ws l Drop e =
    let n = then_some (only_name ws) (λ n. Some (drop n)) l e in
    let a = only_name_read ws n.0 n.1 in
    subst (Writes (codes "drop" ∷ ws)) (same_Some _ _ n.2) (ap (λ x. codes "drop" ∷ x) a.0, a.1)
form_read ws l Show e =
    let n = then_some (only_name ws) (λ n. Some (show n)) l e in
    let a = only_name_read ws n.0 n.1 in
    subst (Writes (codes "show" ∷ ws)) (same_Some _ _ n.2) (ap (λ x. codes "show" ∷ x) a.0, a.1)
form_read ws l (Query v) e =
    let n = then_some (take_name ws) _ l e in
    let s = then_some (take_equals n.0.1) _ l n.2 in
    let q = then_some (query_of v s.0) _ l s.2 in
    let a = name_read ws n.0 n.1 in
    let b = equals_read n.0.1 s.0 s.1 in
    subst (Writes (spelled_verb v ∷ ws)) (same_Some _ _ q.2)
    (spelled_verb v, s.0, ap (λ x. spelled_verb v ∷ x) (a.0 ∙ ap (λ x. n.0.0 ∷ x) b), a.1, query_read (spelled_verb v) v s.0 q.0 refl q.1)

by_keyword : (w : Text) (ws : List Text) (l : Line) (k : Option Keyword) → keyword w ≡ k → form k ws ≡ Some l → Writes (w ∷ ws) l
by_keyword w ws l None q e = absent l e
by_keyword w ws l (Some k) q e = subst (λ v. Writes (v ∷ ws) l) (sym (keyword_spelled w k q)) (form_read ws l k e)

worded_read : (ws : List Text) (l : Line) → worded ws ≡ Some l → Writes ws l
worded_read [] l e = absent l e
worded_read (w ∷ ws) l e = by_keyword w ws l (keyword w) refl e

pub line_read : (ws : List Text) (l : Line) → line_of ws ≡ Some l → Writes ws l
line_read ws l e =
    ⊎_elim
    (λ t. subst (Writes ws) (same_Some skip l (sym (cond-true (is_blank ws) (Some skip) (worded ws) t) ∙ e)) (blank_read ws t))
    (λ f. worded_read ws l (sym (cond-false (is_blank ws) (Some skip) (worded ws) f) ∙ e))
    (cases_Bool (is_blank ws))

-- ---- what is written there, the reader finds

verb_decides : (v : Verb) (ws : List Text) → line_of (spelled_verb v ∷ ws) ≡ form (Some (Query v)) ws
verb_decides Select ws = refl
verb_decides Project ws = refl
verb_decides Union ws = refl
verb_decides Except ws = refl
verb_decides Join ws = refl
verb_decides Count ws = refl
verb_decides Sum ws = refl
verb_decides Min ws = refl
verb_decides Max ws = refl

pub line_written : (ws : List Text) (l : Line) → Writes ws l → line_of ws ≡ Some l
line_written ws skip h = cond-true (is_blank ws) _ _ (blank_is ws h)
line_written ws (load n ks) h =
    let w = h.0 in
    ap line_of h.1
    ∙ then_is (take_name (n ∷ w ∷ [])) (λ n. take_kinds n.1 then (λ k. nothing k.1 then (λ _. Some (load n.0 k.0)))) (n, w ∷ []) (name_take n (w ∷ []) h.2)
    ∙ then_is (take_kinds (w ∷ [])) (λ k. nothing k.1 then (λ _. Some (load n k.0))) (ks, []) (kinds_take w ks [] h.3 h.4)
line_written ws (row f u vs) h =
    let x = h.0 in
    let y = h.1 in
    let ts = h.2 in
    let v = values_are ts vs h.7 in
    let n = each_length WritesValue ts vs h.7 in
    let some = h.6 in
    let p : RowText = record { from = f; until = u; values = ts } in
    let taken : take_row (x ∷ y ∷ ts) ≡ Some p =
    then_is (take_number (x ∷ y ∷ ts)) (λ f. take_number f.1 then (λ u. cond (leb 1 (length u.1) && all_values u.1) (Some (record { from = f.0; until = u.0; values = u.1 })) None)) (f, y ∷ ts) (number_take x f (y ∷ ts) h.4)
    ∙ then_is (take_number (y ∷ ts)) (λ u. cond (leb 1 (length u.1) && all_values u.1) (Some (record { from = f; until = u.0; values = u.1 })) None) (u, ts) (number_take y u ts h.5)
    ∙ cond-true (leb 1 (length ts) && all_values ts) (Some p) None (and_from _ _ (le-leb 1 (length ts) (omega arith)) v.0)
    in
    ap line_of h.3 ∙ then_is (take_row (x ∷ y ∷ ts)) (λ p. Some (row p.from p.until (values_in p.values))) p taken ∙ ap (λ l. Some (row f u l)) v.1
line_written ws end h = ap line_of h
line_written ws (drop n) h = ap line_of h.0 ∙ then_is (only_name (n ∷ [])) (λ n. Some (drop n)) n (only_name_take n h.1)
line_written ws (show n) h = ap line_of h.0 ∙ then_is (only_name (n ∷ [])) (λ n. Some (show n)) n (only_name_take n h.1)
line_written ws (query n q) h =
    let v = h.0 in
    let vs = h.1 in
    let on : List Text = n ∷ codes "=" ∷ vs in
    ap line_of (h.2 ∙ ap (λ w. w ∷ on) (query_verb v vs q h.4))
    ∙ verb_decides (verb_of q) on
    ∙ then_is (take_name on) (λ n. take_equals n.1 then (λ on. query_of (verb_of q) on then (λ q. Some (query n.0 q)))) (n, codes "=" ∷ vs) (name_take n (codes "=" ∷ vs) h.3)
    ∙ then_is (take_equals (codes "=" ∷ vs)) (λ on. query_of (verb_of q) on then (λ q. Some (query n q))) vs (equals_take vs)
    ∙ then_is (query_of (verb_of q) vs) (λ q. Some (query n q)) q (query_take v vs q h.4)

pub reads : (ws : List Text) (o : Option Line) → o ≡ line_of ws → Reads ws o
reads ws o e l = ((λ h. e ∙ line_written ws l h), λ h. line_read ws l (sym e ∙ h))

pub one_reading : OneReading
one_reading ws l m h k = same_Some l m (sym (line_written ws l h) ∙ line_written ws m k)
