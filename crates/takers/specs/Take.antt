-- Reading a line's words from the front: each taker gives what it read and the words that are left.
use Rattle.std.specs.Prelude.{ℕ, Bool, true, false, cond, ◌&&◌, List, [], ◌∷◌, length, ℤ, is_some, Some, None, Option, ◌==◌, nat_le, slice_index}
use Rattle.std.specs.List.{list_all}
use Rattle.relation.specs.declared.kinds.Kind.{Kind}
use Rattle.takers.specs.declared.tails.RowParts.{RowParts}
use Rattle.words.specs.declared.tokens.Position.{Position}
use Rattle.words.specs.declared.tokens.Position.TheVariants as position
use Rattle.relation.specs.declared.conditions.Sign.{Sign}
use Rattle.relation.specs.declared.conditions.Sign.TheVariants.{Equal, NotEqual, Less, LessEqual, Greater, GreaterEqual}
use Rattle.words.specs.declared.tokens.Value.{Value}
use Rattle.words.specs.declared.tokens.Value.TheVariants as borrowed
use Rattle.words.specs.Token.{Tok, name, numeral, quoted, column, sign, token}
use Rattle.words.specs.Kinds.{kinds_of}
use Rattle.words.specs.Rest.{rest}

abbrev pub Text : Type 0
Text = List ℕ

infixr 20 ◌then◌
-- go on with what was read, if it was
abbrev pub ◌then◌ : {A B : Type 0} → Option A → (A → Option B) → Option B
None then f = None
(Some x) then f = f x

-- a value, with its bytes in the place of a part of the text
pub data Val : Type 0 where
  number_val : ℤ → Val
  word_val : Text → Val

abbrev pub means_value : Value → Val
means_value (borrowed.Number z) = number_val z
means_value (borrowed.Word q) = word_val q.now

abbrev pub name_in : Tok → Option Text
name_in (name n) = Some n
name_in (numeral z) = None
name_in (quoted q) = None
name_in (column k) = None
name_in (sign s) = None

abbrev pub number_in : Tok → Option ℤ
number_in (name n) = None
number_in (numeral z) = Some z
number_in (quoted q) = None
number_in (column k) = None
number_in (sign s) = None

-- a number, or a word in single quotes
abbrev pub value_in : Tok → Option Val
value_in (name n) = None
value_in (numeral z) = Some (number_val z)
value_in (quoted q) = Some (word_val q)
value_in (column k) = None
value_in (sign s) = None

abbrev pub column_in : Tok → Option ℕ
column_in (name n) = None
column_in (numeral z) = None
column_in (quoted q) = None
column_in (column k) = Some k
column_in (sign s) = None

abbrev pub sign_in : Tok → Option Sign
sign_in (name n) = None
sign_in (numeral z) = None
sign_in (quoted q) = None
sign_in (column k) = None
sign_in (sign s) = Some s

abbrev pub is_equal : Sign → Bool
is_equal Equal = true
is_equal NotEqual = false
is_equal Less = false
is_equal LessEqual = false
is_equal Greater = false
is_equal GreaterEqual = false

abbrev pub take_token : Position → List Text → Option (Tok × List Text)
take_token p [] = None
take_token p (w ∷ ws) = token p w then (λ t. Some (t, ws))

abbrev pub take_name : List Text → Option (Text × List Text)
take_name ws = take_token position.Name ws then (λ t. name_in t.0 then (λ n. Some (n, t.1)))

abbrev pub take_number : List Text → Option (ℤ × List Text)
take_number ws = take_token position.Name ws then (λ t. number_in t.0 then (λ z. Some (z, t.1)))

abbrev pub take_value : List Text → Option (Val × List Text)
take_value ws = take_token position.Name ws then (λ t. value_in t.0 then (λ v. Some (v, t.1)))

abbrev pub take_column : List Text → Option (ℕ × List Text)
take_column ws = take_token position.Column ws then (λ t. column_in t.0 then (λ k. Some (k, t.1)))

abbrev pub take_sign : List Text → Option (Sign × List Text)
take_sign ws = take_token position.Name ws then (λ t. sign_in t.0 then (λ s. Some (s, t.1)))

-- the sign =
abbrev pub take_equals : List Text → Option (List Text)
take_equals ws = take_sign ws then (λ s. cond (is_equal s.0) (Some s.1) None)

abbrev pub take_kinds : List Text → Option (List Kind × List Text)
take_kinds [] = None
take_kinds (w ∷ ws) = kinds_of w then (λ ks. Some (ks, ws))

-- nothing follows
abbrev pub nothing : List Text → Option (Unit {0})
nothing [] = Some tt
nothing (w ∷ ws) = None

-- the value that a word is
abbrev pub value_of : Text → Option Val
value_of w = token position.Name w then value_in

-- the column that a word is
abbrev pub column_at : Text → Option ℕ
column_at w = token position.Column w then column_in

abbrev pub is_value : Text → Bool
is_value w = is_some (value_of w)

-- every word that is left is a value
abbrev pub all_values : List Text → Bool
all_values ws = list_all is_value ws

-- what a row's line says: its days, and the words that are its values
pub record RowText : Type 0 where
  pub from : ℤ
  pub until : ℤ
  pub values : List Text

-- FROM UNTIL VALUE .., with one value or more
abbrev pub take_row : List Text → Option RowText
take_row ws =
    take_number ws then (λ f. take_number f.1 then (λ u.
    cond (nat_le 1 (length u.1) && all_values u.1) (Some (record { from = f.0; until = u.0; values = u.1 })) None))

abbrev pub says_row : RowParts → RowText
says_row p = record { from = p.from; until = p.until; values = rest p.values }

-- no word, or a first word that begins with #
abbrev pub is_blank : List Text → Bool
is_blank [] = true
is_blank (w ∷ ws) = slice_index w 0 == 35
