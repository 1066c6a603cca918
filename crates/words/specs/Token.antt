-- What a word is.
use Rattle.std.specs.Prelude.{ℕ, ◌-◌, Bool, cond, ◌&&◌, ◌||◌, List, [], ◌∷◌, length, take, ℤ, Some, None, Option, ◌==◌, nat_le, slice_index}
use Rattle.std.specs.Option.{option_map}
use Rattle.std.specs.Char.{is_ascii_digit}
use Rattle.relation.specs.Values.{is_word}
use Rattle.words.specs.declared.tokens.Position.{Position}
use Rattle.words.specs.declared.tokens.Position.TheVariants as position
use Rattle.relation.specs.declared.conditions.Sign.{Sign}
use Rattle.relation.specs.declared.conditions.Sign.TheVariants.{Equal, NotEqual, Less, LessEqual, Greater, GreaterEqual}
use Rattle.words.specs.declared.tokens.Token.{Token}
use Rattle.words.specs.declared.tokens.Token.TheVariants as borrowed
use Rattle.words.specs.Number.{number}
use Rattle.words.specs.Name.{is_name}

-- a token, with its bytes in the place of a part of the text
pub data Tok : Type 0 where
  name : List ℕ → Tok
  numeral : ℤ → Tok
  quoted : List ℕ → Tok
  column : ℕ → Tok
  sign : Sign → Tok

abbrev pub means : Token → Tok
means (borrowed.Name n) = name n.now
means (borrowed.Number z) = numeral z
means (borrowed.Quoted q) = quoted q.now
means (borrowed.Column k) = column k
means (borrowed.Sign s) = sign s

-- what stands between quotes, where bs stands after the first
abbrev pub quotation : List ℕ → Option Tok
quotation bs = cond (slice_index bs (length bs - 1) == 39 && is_word (take (length bs - 1) bs)) (Some (quoted (take (length bs - 1) bs))) None

-- c1 to c6
abbrev pub column_of : List ℕ → Option Tok
column_of w = cond (length w == 2 && (slice_index w 0 == 99 && (nat_le 49 (slice_index w 1) && nat_le (slice_index w 1) 54))) (Some (column (slice_index w 1 - 48))) None

-- =, < and >
abbrev pub short_sign : ℕ → Option Sign
short_sign b = cond (b == 61) (Some Equal) (cond (b == 60) (Some Less) (cond (b == 62) (Some Greater) None))

-- !=, <= and >=, by the first byte
abbrev pub long_sign : ℕ → Option Sign
long_sign b = cond (b == 33) (Some NotEqual) (cond (b == 60) (Some LessEqual) (cond (b == 62) (Some GreaterEqual) None))

abbrev pub sign_of : List ℕ → Option Sign
sign_of [] = None
sign_of (b ∷ []) = short_sign b
sign_of (b ∷ c ∷ []) = cond (c == 61) (long_sign b) None
sign_of (b ∷ c ∷ d ∷ w) = None

-- the bytes that begin a sign
abbrev pub sign_byte : ℕ → Bool
sign_byte b = b == 61 || (b == 33 || (b == 60 || b == 62))

abbrev pub word_at : Position → List ℕ → Option Tok
word_at position.Name w = cond (is_name w) (Some (name w)) None
word_at position.Column w = column_of w

-- the token that a word is; where it could be a name or a column, its position decides
abbrev pub token : Position → List ℕ → Option Tok
token p [] = None
token p (c ∷ cs) =
    cond (c == 39) (quotation cs)
    (cond (c == 45 || is_ascii_digit c) (option_map (λ z. numeral z) (number (c ∷ cs)))
    (cond (sign_byte c) (option_map (λ s. sign s) (sign_of (c ∷ cs)))
    (word_at p (c ∷ cs))))
