-- What the takers read is written there, and what is written there they read.
use Rattle.std.specs.List.{list_all}
use Rattle.std.proofs.Common.{◌≡◌, ℕ, ◌≤◌, true, cond, ◌&&◌, leb, List, [], ◌∷◌, map, length, ℤ, is_some, Some, None, codes, Option, sym, refl, ap, ◌∙◌, subst, arith}
use Rattle.std.proofs.lemmas.List.{length-map}
use Rattle.std.proofs.lemmas.Bool.{cond-true, and_parts, and_from, leb-true, le-leb, true≢false}
use Rattle.std.proofs.lemmas.Bool.Decides.{nat_tests}
use Rattle.relation.specs.declared.kinds.Kind.{Kind}
use Rattle.relation.specs.declared.kinds.Kind.TheVariants as kind
use Rattle.relation.specs.Bounds.{most_columns}
use Rattle.words.specs.declared.tokens.Position.{Position}
use Rattle.words.specs.declared.tokens.Position.TheVariants as position
use Rattle.relation.specs.declared.conditions.Sign.{Sign}
use Rattle.relation.specs.declared.conditions.Sign.TheVariants.{Equal, NotEqual, Less, LessEqual, Greater, GreaterEqual}
use Rattle.words.specs.Token.{Tok, name, numeral, quoted, column, sign, token}
use Rattle.words.specs.Kinds.{kind_byte, kind_of, is_kinds, kinds_of}
use Rattle.takers.specs.Take.{Text, ◌then◌, Val, number_val, word_val, name_in, number_in, value_in, column_in, sign_in, is_equal, take_token, take_name, take_number, value_of, take_value, take_column, take_sign, take_equals, nothing, is_value, all_values, RowText, take_row}
use Rattle.takers.specs.Writing.{WritesNumber, Name, WritesValue, WritesValues, WritesColumn, spelled_sign, letter, WritesKinds}
use Rattle.std.proofs.lemmas.Option.{same_Some, cond_some}
use Rattle.takers.proofs.Options.{absent, then_some, then_is}
use Rattle.takers.proofs.Spelling.{number_token, quoted_token, sign_token, column_token, name_token, Told, told}

-- ---- which token a taker takes

name_in_lem : (t : Tok) (n : Text) → name_in t ≡ Some n → t ≡ name n
name_in_lem (name m) n e = ap name (same_Some _ _ e)
name_in_lem (numeral z) n e = absent n e
name_in_lem (quoted q) n e = absent n e
name_in_lem (column k) n e = absent n e
name_in_lem (sign s) n e = absent n e

number_in_lem : (t : Tok) (n : ℤ) → number_in t ≡ Some n → t ≡ numeral n
number_in_lem (name m) n e = absent n e
number_in_lem (numeral m) n e = ap numeral (same_Some _ _ e)
number_in_lem (quoted q) n e = absent n e
number_in_lem (column k) n e = absent n e
number_in_lem (sign s) n e = absent n e

column_in_lem : (t : Tok) (k : ℕ) → column_in t ≡ Some k → t ≡ column k
column_in_lem (name m) n e = absent n e
column_in_lem (numeral m) n e = absent n e
column_in_lem (quoted q) n e = absent n e
column_in_lem (column m) n e = ap column (same_Some _ _ e)
column_in_lem (sign s) n e = absent n e

sign_in_lem : (t : Tok) (s : Sign) → sign_in t ≡ Some s → t ≡ sign s
sign_in_lem (name m) n e = absent n e
sign_in_lem (numeral m) n e = absent n e
sign_in_lem (quoted q) n e = absent n e
sign_in_lem (column k) n e = absent n e
sign_in_lem (sign m) n e = ap sign (same_Some _ _ e)

value_told : (w : Text) (t : Tok) (v : Val) → Told w t → value_in t ≡ Some v → WritesValue w v
value_told w (name m) v h e = absent v e
value_told w (numeral z) v h e = subst (WritesValue w) (same_Some _ _ e) h
value_told w (quoted q) v h e = subst (WritesValue w) (same_Some _ _ e) h
value_told w (column k) v h e = absent v e
value_told w (sign s) v h e = absent v e

-- a token that is taken, and of it what a taker wants
module _ {X : Type 0} (p : Position) (wanted : Tok → Option X) where
  abbrev taken : List Text → Option (X × List Text)
  taken ws = take_token p ws then (λ t. wanted t.0 then (λ x. Some (x, t.1)))

  pub taken_read : (ws : List Text) (r : X × List Text) → taken ws ≡ Some r → (w : Text) × (t : Tok) × (ws ≡ w ∷ r.1) × (token p w ≡ Some t) × (wanted t ≡ Some r.0)
  taken_read [] r e = absent r e
  taken_read (w ∷ ws) r e =
      let a = then_some (take_token p (w ∷ ws)) (λ t. wanted t.0 then (λ x. Some (x, t.1))) r e in
      let b = then_some (wanted a.0.0) (λ x. Some (x, a.0.1)) r a.2 in
      let c = then_some (token p w) (λ t. Some (t, ws)) a.0 a.1 in
      let q : ◌≡◌ {A = X × List Text} (b.0, a.0.1) r = same_Some _ _ b.2 in
      let s : ◌≡◌ {A = Tok × List Text} (c.0, ws) a.0 = same_Some _ _ c.2 in
      (w, c.0, (λ i. w ∷ (s i).1) ∙ (λ i. w ∷ (q i).1), c.1, (λ i. wanted (s i).0) ∙ b.1 ∙ (λ i. Some (q i).0))

  pub taken_take : (w : Text) (t : Tok) (x : X) (on : List Text) → token p w ≡ Some t → wanted t ≡ Some x → taken (w ∷ on) ≡ Some (x, on)
  taken_take w t x on e f =
      then_is (take_token p (w ∷ on)) (λ t. wanted t.0 then (λ x. Some (x, t.1))) (t, on) (then_is (token p w) (λ t. Some (t, on)) t e)
      ∙ then_is (wanted t) (λ x. Some (x, on)) x f

-- ---- names

pub name_read : (ws : List Text) (r : Text × List Text) → take_name ws ≡ Some r → (ws ≡ r.0 ∷ r.1) × Name r.0
name_read ws r e =
    let h = taken_read position.Name name_in ws r e in
    let t = told position.Name h.0 (name r.0) (h.3 ∙ ap (λ x. Some x) (name_in_lem h.1 r.0 h.4)) in
    (h.2 ∙ ap (λ x. x ∷ r.1) t.0, subst Name t.0 t.1)

pub name_take : (n : Text) (on : List Text) → Name n → take_name (n ∷ on) ≡ Some (n, on)
name_take n on h = taken_take position.Name name_in n (name n) n on (name_token n h) refl

-- ---- numbers

pub number_read : (ws : List Text) (r : ℤ × List Text) → take_number ws ≡ Some r → (w : Text) × (ws ≡ w ∷ r.1) × WritesNumber w r.0
number_read ws r e =
    let h = taken_read position.Name number_in ws r e in
    (h.0, h.2, told position.Name h.0 (numeral r.0) (h.3 ∙ ap (λ x. Some x) (number_in_lem h.1 r.0 h.4)))

pub number_take : (w : Text) (z : ℤ) (on : List Text) → WritesNumber w z → take_number (w ∷ on) ≡ Some (z, on)
number_take w z on h = taken_take position.Name number_in w (numeral z) z on (number_token position.Name w z h) refl

-- ---- values

pub value_of_lem : (w : Text) (v : Val) → value_of w ≡ Some v → WritesValue w v
value_of_lem w v e = let h = then_some (token position.Name w) value_in v e in value_told w h.0 v (told position.Name w h.0 h.1) h.2

pub value_is : (w : Text) (v : Val) → WritesValue w v → value_of w ≡ Some v
value_is w (number_val z) h = then_is (token position.Name w) value_in (numeral z) (number_token position.Name w z h)
value_is w (word_val q) h = then_is (token position.Name w) value_in (quoted q) (ap (token position.Name) h.0 ∙ quoted_token position.Name q h.1)

pub value_take : (w : Text) (v : Val) (on : List Text) → WritesValue w v → take_value (w ∷ on) ≡ Some (v, on)
value_take w v on h =
    let t = then_some (token position.Name w) value_in v (value_is w v h) in
    taken_take position.Name value_in w t.0 v on t.1 t.2

pub values_read : (ws : List Text) → all_values ws ≡ true → (vs : List Val) × WritesValues ws vs
values_read [] e = ([], tt)
values_read (w ∷ ws) e =
    let p = and_parts (is_value w) _ e in
    let rest = values_read ws p.1 in
    one (value_of w) refl p.0 rest
  where
    one : (o : Option Val) → value_of w ≡ o → is_some o ≡ true → (vs : List Val) × WritesValues ws vs → (vs : List Val) × WritesValues (w ∷ ws) vs
    one None h s rest = absurd (true≢false (sym s))
    one (Some v) h s rest = (v ∷ rest.0, (value_of_lem w v h, rest.1))

pub values_are : (ws : List Text) (vs : List Val) → WritesValues ws vs → all_values ws ≡ true
values_are [] [] h = refl
values_are [] (v ∷ vs) h = absurd h
values_are (w ∷ ws) [] h = absurd h
values_are (w ∷ ws) (v ∷ vs) h = and_from _ _ (ap is_some (value_is w v h.0)) (values_are ws vs h.1)

-- ---- columns and signs

pub column_read : (ws : List Text) (r : ℕ × List Text) → take_column ws ≡ Some r → (w : Text) × (ws ≡ w ∷ r.1) × WritesColumn w r.0
column_read ws r e =
    let h = taken_read position.Column column_in ws r e in
    (h.0, h.2, told position.Column h.0 (column r.0) (h.3 ∙ ap (λ x. Some x) (column_in_lem h.1 r.0 h.4)))

pub column_take : (w : Text) (k : ℕ) (on : List Text) → WritesColumn w k → take_column (w ∷ on) ≡ Some (k, on)
column_take w k on h = taken_take position.Column column_in w (column k) k on (column_token w k h) refl

pub sign_read : (ws : List Text) (r : Sign × List Text) → take_sign ws ≡ Some r → ws ≡ spelled_sign r.0 ∷ r.1
sign_read ws r e =
    let h = taken_read position.Name sign_in ws r e in
    h.2 ∙ ap (λ w. w ∷ r.1) (told position.Name h.0 (sign r.0) (h.3 ∙ ap (λ x. Some x) (sign_in_lem h.1 r.0 h.4)))

pub sign_take : (s : Sign) (on : List Text) → take_sign (spelled_sign s ∷ on) ≡ Some (s, on)
sign_take s on = taken_take position.Name sign_in (spelled_sign s) (sign s) s on (sign_token position.Name s) refl

is_equal_lem : (s : Sign) → is_equal s ≡ true → spelled_sign s ≡ codes "="
is_equal_lem Equal e = refl
is_equal_lem NotEqual e = absurd (true≢false (sym e))
is_equal_lem Less e = absurd (true≢false (sym e))
is_equal_lem LessEqual e = absurd (true≢false (sym e))
is_equal_lem Greater e = absurd (true≢false (sym e))
is_equal_lem GreaterEqual e = absurd (true≢false (sym e))

pub equals_read : (ws on : List Text) → take_equals ws ≡ Some on → ws ≡ codes "=" ∷ on
equals_read ws on e =
    let h = then_some (take_sign ws) (λ s. cond (is_equal s.0) (Some s.1) None) on e in
    let c = cond_some (is_equal h.0.0) h.0.1 on h.2 in
    sign_read ws h.0 h.1 ∙ (λ i. is_equal_lem h.0.0 c.0 i ∷ c.1 i)

pub equals_take : (on : List Text) → take_equals (codes "=" ∷ on) ≡ Some on
equals_take on = then_is (take_sign (codes "=" ∷ on)) (λ s. cond (is_equal s.0) (Some s.1) None) (Equal, on) (sign_take Equal on)

-- ---- kinds

kind_letter : (b : ℕ) → kind_byte b ≡ true → b ≡ letter (kind_of b)
kind_letter b e = grind (arith, nat_tests)

letters : (w : Text) → list_all kind_byte w ≡ true → w ≡ map letter (map kind_of w)
letters [] e = refl
letters (b ∷ w) e = let p = and_parts (kind_byte b) _ e in λ i. kind_letter b p.0 i ∷ letters w p.1 i

pub kinds_told : (w : Text) → is_kinds w ≡ true → WritesKinds w (map kind_of w)
kinds_told w e = let p = and_parts (leb 1 (length w)) _ e in let n = length-map w kind_of in let some = leb-true _ _ p.0 in (letters w p.1, omega arith)

letter_kind : (k : Kind) → (kind_byte (letter k) ≡ true) × (kind_of (letter k) ≡ k)
letter_kind kind.Number = (refl, refl)
letter_kind kind.Word = (refl, refl)

all_letters : (ks : List Kind) → (list_all kind_byte (map letter ks) ≡ true) × (map kind_of (map letter ks) ≡ ks)
all_letters [] = (refl, refl)
all_letters (k ∷ ks) = let h = letter_kind k in let r = all_letters ks in (and_from _ _ h.0 r.0, λ i. h.1 i ∷ r.1 i)

pub kinds_are : (w : Text) (ks : List Kind) → WritesKinds w ks → (is_kinds w ≡ true) × (map kind_of w ≡ ks)
kinds_are w ks h =
    let a = all_letters ks in
    let n = length-map ks letter in
    let some = h.1 in
    (ap is_kinds h.0 ∙ and_from _ _ (le-leb _ _ (omega arith)) a.0, ap (map kind_of) h.0 ∙ a.1)

pub kinds_of_lem : (w : Text) (ks : List Kind) → kinds_of w ≡ Some ks → WritesKinds w ks × (length ks ≤ most_columns)
kinds_of_lem w ks e =
    let h = cond_some (is_kinds w && leb (length w) most_columns) (map kind_of w) ks e in
    let p = and_parts (is_kinds w) _ h.0 in
    let n = length-map w kind_of in
    let le = leb-true _ _ p.1 in
    subst (λ ks. WritesKinds w ks × (length ks ≤ most_columns)) h.1 (kinds_told w p.0, omega arith)

pub kinds_is : (w : Text) (ks : List Kind) → WritesKinds w ks → length ks ≤ most_columns → kinds_of w ≡ Some ks
kinds_is w ks h le =
    let a = kinds_are w ks h in
    let n = length-map w kind_of in
    let same = ap length a.1 in
    cond-true (is_kinds w && leb (length w) most_columns) _ _ (and_from _ _ a.0 (le-leb _ _ (omega arith))) ∙ ap (λ l. Some l) a.1

-- ---- the end

pub nothing_read : (ws : List Text) (u : Unit {0}) → nothing ws ≡ Some u → ws ≡ []
nothing_read [] u e = refl
nothing_read (w ∷ ws) u e = absent u e

-- ---- rows

pub row_read : (ws : List Text) (p : RowText) → take_row ws ≡ Some p → (x : Text) × (y : Text) × (vs : List Val) × (ws ≡ x ∷ y ∷ p.values) × WritesNumber x p.from × WritesNumber y p.until × (1 ≤ length p.values) × WritesValues p.values vs
row_read ws p e =
    let f = then_some (take_number ws) _ p e in
    let u = then_some (take_number f.0.1) _ p f.2 in
    let made : RowText = record { from = f.0.0; until = u.0.0; values = u.0.1 } in
    let c = cond_some (leb 1 (length u.0.1) && all_values u.0.1) made p u.2 in
    let b = and_parts (leb 1 (length u.0.1)) _ c.0 in
    let x = number_read ws f.0 f.1 in
    let y = number_read f.0.1 u.0 u.1 in
    let v = values_read u.0.1 b.1 in
    let P : RowText → Type 0 = λ p. (x : Text) × (y : Text) × (vs : List Val) × (ws ≡ x ∷ y ∷ p.values) × WritesNumber x p.from × WritesNumber y p.until × (1 ≤ length p.values) × WritesValues p.values vs in
    subst P c.1 (x.0, y.0, v.0, x.1 ∙ ap (λ l. x.0 ∷ l) y.1, x.2, y.2, leb-true _ _ b.0, v.1)

pub row_take : (x y : Text) (f u : ℤ) (ts : List Text) (vs : List Val) → WritesNumber x f → WritesNumber y u → 1 ≤ length ts → WritesValues ts vs → take_row (x ∷ y ∷ ts) ≡ Some (record { from = f; until = u; values = ts })
row_take x y f u ts vs a b n v =
    then_is (take_number (x ∷ y ∷ ts)) (λ f. take_number f.1 then (λ u. cond (leb 1 (length u.1) && all_values u.1) (Some (record { from = f.0; until = u.0; values = u.1 })) None)) (f, y ∷ ts) (number_take x f (y ∷ ts) a)
    ∙ then_is (take_number (y ∷ ts)) (λ u. cond (leb 1 (length u.1) && all_values u.1) (Some (record { from = f; until = u.0; values = u.1 })) None) (u, ts) (number_take y u ts b)
    ∙ cond-true (leb 1 (length ts) && all_values ts) _ _ (and_from _ _ (le-leb _ _ n) (values_are ts vs v))
