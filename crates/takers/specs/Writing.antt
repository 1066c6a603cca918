-- How words are written: relations between a word and what it says.
use Rattle.std.specs.Prelude.{◌≡◌, ℕ, ◌+◌, ◌<◌, ◌≤◌, true, ◌⊎◌, List, [], ◌∷◌, ◌++◌, map, length, ℤ, pos, neg_ℤ, codes, ◌≢◌, slice_index}
use Rattle.std.specs.Str.{all_ascii_digits}
use Rattle.relation.specs.declared.kinds.Kind.{Kind}
use Rattle.relation.specs.declared.kinds.Kind.TheVariants as kind
use Rattle.relation.specs.Bounds.{most_columns}
use Rattle.relation.specs.Values.{is_word}
use Rattle.words.specs.declared.names.Reserved.{Reserved}
use Rattle.words.specs.declared.names.Reserved.TheVariants.{Base, During, Where, On, Of, By}
use Rattle.relation.specs.declared.conditions.Sign.{Sign}
use Rattle.relation.specs.declared.conditions.Sign.TheVariants.{Equal, NotEqual, Less, LessEqual, Greater, GreaterEqual}
use Rattle.words.specs.Number.{read_on}
use Rattle.words.specs.Name.{is_name}
use Rattle.takers.specs.Take.{Text, Val, number_val, word_val}

-- 1 to 13 digits, the first of several not 0
pub record Numeral (ds : Text) : Type 0 where
  pub some : 1 ≤ length ds
  pub few : length ds ≤ 13
  pub digits : all_ascii_digits ds ≡ true
  pub leading : (length ds ≡ 1) ⊎ (slice_index ds 0 ≢ 48)

-- digits, or digits of a number above 0 after a minus sign
abbrev pub WritesNumber : Text → ℤ → Type 0
WritesNumber w z =
    (Numeral w × (z ≡ pos (read_on 0 w)))
    ⊎ ((ds : Text) × (w ≡ 45 ∷ ds) × Numeral ds × (0 < read_on 0 ds) × (z ≡ neg_ℤ (pos (read_on 0 ds))))

abbrev pub Name : Text → Type 0
Name w = is_name w ≡ true

-- a number, or a word between single quotes
abbrev pub WritesValue : Text → Val → Type 0
WritesValue w (number_val z) = WritesNumber w z
WritesValue w (word_val q) = (w ≡ 39 ∷ (q ++ 39 ∷ [])) × (is_word q ≡ true)

abbrev pub WritesValues : List Text → List Val → Type 0
WritesValues [] [] = Unit {0}
WritesValues [] (v ∷ vs) = ⊥
WritesValues (w ∷ ws) [] = ⊥
WritesValues (w ∷ ws) (v ∷ vs) = WritesValue w v × WritesValues ws vs

-- c1 to c6
abbrev pub WritesColumn : Text → ℕ → Type 0
WritesColumn w k = (w ≡ 99 ∷ (48 + k) ∷ []) × (1 ≤ k) × (k ≤ most_columns)

abbrev pub spelled_sign : Sign → Text
spelled_sign Equal = codes "="
spelled_sign NotEqual = codes "!="
spelled_sign Less = codes "<"
spelled_sign LessEqual = codes "<="
spelled_sign Greater = codes ">"
spelled_sign GreaterEqual = codes ">="

abbrev pub spelled_reserved : Reserved → Text
spelled_reserved Base = codes "base"
spelled_reserved During = codes "during"
spelled_reserved Where = codes "where"
spelled_reserved On = codes "on"
spelled_reserved Of = codes "of"
spelled_reserved By = codes "by"

abbrev pub letter : Kind → ℕ
letter kind.Number = 110
letter kind.Word = 119

-- a letter for each of one kind or more
abbrev pub WritesKinds : Text → List Kind → Type 0
WritesKinds w ks = (w ≡ map letter ks) × (1 ≤ length ks)
