-- Keywords, operands and terms are read just as they are written.
use Rattle.std.specs.List.{list_all}
use Rattle.std.proofs.Common.{◌≡◌, true, false, not, leb, List, [], ◌∷◌, ◌++◌, length, get_or, pos, is_some, Some, None, codes, Option, sym, refl, ap, ◌∙◌, subst, ⊎_elim}
use Rattle.std.specs.Char.{is_ascii_lowercase}
use Rattle.std.specs.Str.{bytes_eq}
use Rattle.std.proofs.lemmas.Slice.Eq.{bytes_eq-Decides}
use Rattle.std.proofs.lemmas.Bool.{cond-true, cond-false, cases_Bool, and_parts, not-true, true≢false}
use Rattle.relation.specs.declared.conditions.Term.{Term}
use Rattle.relation.specs.declared.conditions.Term.TheVariants as term
use Rattle.relation.specs.Values.{is_word, word, word_value}
use Rattle.words.specs.declared.names.Reserved.{Reserved}
use Rattle.words.specs.declared.names.Reserved.TheVariants.{During}
use Rattle.words.specs.declared.tokens.Position.TheVariants as position
use Rattle.words.specs.Name.{meant_by, reserved, name_byte}
use Rattle.words.specs.Token.{Tok, name, numeral, quoted, column, sign, token}
use Rattle.takers.specs.Take.{Text, ◌then◌, take_name, take_number}
use Rattle.takers.specs.Writing.{Name, spelled_reserved}
use Rattle.words.proofs.Listed.{other_bytes}
use Rattle.std.proofs.lemmas.Option.{same_Some}
use Rattle.takers.proofs.Options.{absent, then_some, then_is}
use Rattle.takers.proofs.Spelling.{number_token, quoted_token, column_token, Told, told}
use Rattle.takers.proofs.Taking.{taken_read, taken_take, name_read, name_take, number_read, number_take}
use Rattle.grammar.specs.declared.keywords.Verb.{Verb}
use Rattle.grammar.specs.declared.keywords.Verb.TheVariants.{Select, Project, Union, Except, Join, Count, Sum, Min, Max}
use Rattle.grammar.specs.declared.keywords.Keyword.{Keyword}
use Rattle.grammar.specs.declared.keywords.Keyword.TheVariants.{Load, Row, End, Drop, Show, Query}
use Rattle.grammar.specs.Keywords.{keywords, keyword}
use Rattle.grammar.specs.Meaning.{Operand, whole, part}
use Rattle.grammar.specs.Said.{windowed}
use Rattle.grammar.specs.Grammar.{take_reserved, window_after, window, operand, term_in, take_term}
use Rattle.grammar.specs.Language.{WritesOperand, WritesTerm}
use Rattle.grammar.proofs.Listed.{reserved_is}
use Rattle.grammar.proofs.Tailing.{reserved_read}

-- ---- keywords

-- how a keyword is written
abbrev pub spelled_verb : Verb → Text
spelled_verb Select = codes "select"
spelled_verb Project = codes "project"
spelled_verb Union = codes "union"
spelled_verb Except = codes "except"
spelled_verb Join = codes "join"
spelled_verb Count = codes "count"
spelled_verb Sum = codes "sum"
spelled_verb Min = codes "min"
spelled_verb Max = codes "max"

abbrev pub spelled : Keyword → Text
spelled Load = codes "load"
spelled Row = codes "row"
spelled End = codes "end"
spelled Drop = codes "drop"
spelled Show = codes "show"
spelled (Query v) = spelled_verb v

abbrev Spelled : List (Text × Keyword) → Type 0
Spelled [] = Unit {0}
Spelled (e ∷ es) = (e.0 ≡ spelled e.1) × Spelled es

by_table : (w : Text) (k : Keyword) (es : List (Text × Keyword)) → Spelled es → meant_by w es ≡ Some k → w ≡ spelled k
by_table w k [] s e = absent k e
by_table w k (x ∷ es) s e =
    ⊎_elim
    (λ t. (bytes_eq-Decides w x.0).0 t ∙ s.0 ∙ ap spelled (same_Some x.1 k (sym (cond-true (bytes_eq w x.0) (Some x.1) (meant_by w es) t) ∙ e)))
    (λ f. by_table w k es s.1 (sym (cond-false (bytes_eq w x.0) (Some x.1) (meant_by w es) f) ∙ e))
    (cases_Bool (bytes_eq w x.0))

pub keyword_spelled : (w : Text) (k : Keyword) → keyword w ≡ Some k → w ≡ spelled k
keyword_spelled w k e = by_table w k keywords (refl, (refl, (refl, (refl, (refl, (refl, (refl, (refl, (refl, (refl, (refl, (refl, (refl, (refl, tt)))))))))))))) e

-- ---- names are not reserved

pub name_unreserved : (w : Text) (r : Reserved) → Name w → bytes_eq w (spelled_reserved r) ≡ false
name_unreserved w r e =
    let p = and_parts (leb 1 (length w)) _ e in
    let q = and_parts (leb (length w) 8) _ p.1 in
    let s = and_parts (is_ascii_lowercase (get_or w 0 0)) _ q.1 in
    let t = and_parts (list_all name_byte w) (not (is_some (reserved w))) s.1 in
    other_bytes w (spelled_reserved r) (λ same. true≢false (sym (ap (λ v. is_some (reserved v)) same ∙ ap is_some (reserved_is r)) ∙ not-true (is_some (reserved w)) t.1))

-- ---- operands

window_read : (a : Text) (ws : List Text) (o : Option (List Text)) → take_reserved During ws ≡ o → Name a → (r : Operand × List Text) → (window_after ws o then (λ d. Some (windowed a d.0, d.1))) ≡ Some r → (xs : List Text) × (a ∷ ws ≡ xs ++ r.1) × WritesOperand xs r.0
window_read a ws None d n r e =
    let p : ◌≡◌ {A = Operand × List Text} (whole a, ws) r = same_Some _ _ e in
    (a ∷ [], (λ i. a ∷ (p i).1), subst (λ q. WritesOperand (a ∷ []) q.0) p (refl, n))
window_read a ws (Some on) d n r e =
    let t = then_some (window_after ws (Some on)) (λ d. Some (windowed a d.0, d.1)) r e in
    let f = then_some (take_number on) _ t.0 t.1 in
    let u = then_some (take_number f.0.1) _ t.0 f.2 in
    let p : ◌≡◌ {A = Operand × List Text} (part a f.0.0 u.0.0, u.0.1) r = ap (λ d. (windowed a d.0, d.1)) (same_Some _ _ u.2) ∙ same_Some _ _ t.2 in
    let x = number_read on f.0 f.1 in
    let y = number_read f.0.1 u.0 u.1 in
    let xs : List Text = a ∷ codes "during" ∷ x.0 ∷ y.0 ∷ [] in (
      xs,
      ap (λ l. a ∷ l) (reserved_read During ws on d ∙ ap (λ l. codes "during" ∷ l) (x.1 ∙ ap (λ l. x.0 ∷ l) y.1)) ∙ (λ i. xs ++ (p i).1),
      subst (λ q. WritesOperand xs q.0) p (x.0, y.0, refl, n, x.2, y.2),
    )

pub operand_read : (ws : List Text) (r : Operand × List Text) → operand ws ≡ Some r → (xs : List Text) × (ws ≡ xs ++ r.1) × WritesOperand xs r.0
operand_read ws r e =
    let a = then_some (take_name ws) _ r e in
    let n = name_read ws a.0 a.1 in
    let w = window_read a.0.0 a.0.1 (take_reserved During a.0.1) refl n.1 r a.2 in
    (w.0, n.0 ∙ w.1, w.2)

pub operand_take : (xs : List Text) (a : Operand) (on : List Text) → WritesOperand xs a → take_reserved During on ≡ None → operand (xs ++ on) ≡ Some (a, on)
operand_take xs (whole a) on h d =
    ap (λ l. operand (l ++ on)) h.0
    ∙ then_is (take_name (a ∷ on)) (λ a. window a.1 then (λ d. Some (windowed a.0 d.0, d.1))) (a, on) (name_take a on h.1)
    ∙ ap (λ o. window_after on o then (λ d. Some (windowed a d.0, d.1))) d
operand_take xs (part a f u) on h d =
    let x = h.0 in
    let y = h.1 in
    let told : (take_number (x ∷ y ∷ on) then (λ f. take_number f.1 then (λ u. Some (Some (f.0, u.0), u.1)))) ≡ Some (Some (f, u), on) =
    then_is (take_number (x ∷ y ∷ on)) (λ f. take_number f.1 then (λ u. Some (Some (f.0, u.0), u.1))) (f, y ∷ on) (number_take x f (y ∷ on) h.4)
    ∙ then_is (take_number (y ∷ on)) (λ u. Some (Some (f, u.0), u.1)) (u, on) (number_take y u on h.5)
    in
    ap (λ l. operand (l ++ on)) h.2
    ∙ then_is (take_name (a ∷ codes "during" ∷ x ∷ y ∷ on)) (λ a. window a.1 then (λ d. Some (windowed a.0 d.0, d.1))) (a, codes "during" ∷ x ∷ y ∷ on) (name_take a (codes "during" ∷ x ∷ y ∷ on) h.3)
    ∙ ap (λ o. o then (λ d. Some (windowed a d.0, d.1))) told

-- an operand does not begin with `during`
pub not_during : (ys : List Text) (b : Operand) (on : List Text) → WritesOperand ys b → take_reserved During (ys ++ on) ≡ None
not_during ys (whole b) on h = ap (λ l. take_reserved During (l ++ on)) h.0 ∙ cond-false (bytes_eq b (codes "during")) _ _ (name_unreserved b During h.1)
not_during ys (part b f u) on h = ap (λ l. take_reserved During (l ++ on)) h.2 ∙ cond-false (bytes_eq b (codes "during")) _ _ (name_unreserved b During h.3)

-- ---- terms

word_is : (q : Text) → is_word q ≡ true → word_value q ≡ Some (pos (word q))
word_is q h = cond-true (is_word q) _ _ h

term_told : (w : Text) (t : Tok) (x : Term) → Told w t → term_in t ≡ Some x → WritesTerm w x
term_told w (name n) x h e = absent x e
term_told w (numeral z) x h e = subst (WritesTerm w) (same_Some _ _ e) h
term_told w (quoted q) x h e =
    let v = then_some (word_value q) (λ z. Some (term.Word z)) x e in
    subst (WritesTerm w) (same_Some _ _ v.2) (q, h.0, h.1, same_Some _ _ (sym v.1 ∙ word_is q h.1))
term_told w (column k) x h e = subst (WritesTerm w) (same_Some _ _ e) h
term_told w (sign s) x h e = absent x e

pub term_read : (ws : List Text) (r : Term × List Text) → take_term ws ≡ Some r → (w : Text) × (ws ≡ w ∷ r.1) × WritesTerm w r.0
term_read ws r e =
    let h = taken_read position.Column term_in ws r e in
    (h.0, h.2, term_told h.0 h.1 r.0 (told position.Column h.0 h.1 h.3) h.4)

pub term_take : (w : Text) (x : Term) (on : List Text) → WritesTerm w x → take_term (w ∷ on) ≡ Some (x, on)
term_take w (term.Number z) on h = taken_take position.Column term_in w (numeral z) (term.Number z) on (number_token position.Column w z h) refl
term_take w (term.Word z) on h =
    taken_take position.Column term_in w (quoted h.0) (term.Word z) on (ap (token position.Column) h.1 ∙ quoted_token position.Column h.0 h.2)
    (then_is (word_value h.0) (λ z. Some (term.Word z)) (pos (word h.0)) (word_is h.0 h.2) ∙ ap (λ z. Some (term.Word z)) (sym h.3))
term_take w (term.Column k) on h = taken_take position.Column term_in w (column k) (term.Column k) on (column_token w k h) refl
