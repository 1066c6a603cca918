-- Names, and the words that are reserved.
use Rattle.std.specs.List.{list_all}
use Rattle.std.specs.Prelude.{◌≡◌, ◌⊎◌, ℕ, Bool, cond, not, ◌&&◌, ◌||◌, List, [], ◌∷◌, length, is_some, Some, None, codes, Option, Result, IsUtf8, nat_le, slice_index}
use Rattle.std.specs.Result.{result_ok}
use Rattle.std.specs.Char.{is_ascii_digit, is_ascii_lowercase}
use Rattle.std.specs.Str.{bytes_eq}
use Rattle.words.specs.declared.names.Reserved.{Reserved}
use Rattle.words.specs.declared.names.Reserved.TheVariants.{Base, During, Where, On, Of, By}

-- how each word is written
abbrev pub reserved_words : List (List ℕ × Reserved)
reserved_words = (codes "base", Base) ∷ (codes "during", During) ∷ (codes "where", Where) ∷ (codes "on", On) ∷ (codes "of", Of) ∷ (codes "by", By) ∷ []

-- what w stands for in a table of words
abbrev pub meant_by : {X : Type 0} → List ℕ → List (List ℕ × X) → Option X
meant_by w [] = None
meant_by w (e ∷ es) = cond (bytes_eq w e.0) (Some e.1) (meant_by w es)

abbrev pub reserved : List ℕ → Option Reserved
reserved w = meant_by w reserved_words

-- o is what a type's reading gives of w as text; nothing, where w is no text
abbrev pub FindsIn : {T E : Type 0} → (List ℕ → Result T E → Type 0) → List ℕ → Option T → Type 0
FindsIn {T} {E} gives w o = ((r : Result T E) × gives w r × (o ≡ result_ok r)) ⊎ ((¬ (IsUtf8 w)) × (o ≡ None))

abbrev pub name_byte : ℕ → Bool
name_byte b = is_ascii_lowercase b || is_ascii_digit b

-- 1 to 8 of a–z and 0–9, a letter first, and no reserved word
abbrev pub is_name : List ℕ → Bool
is_name w = nat_le 1 (length w) && (nat_le (length w) 8 && (is_ascii_lowercase (slice_index w 0) && (list_all name_byte w && not (is_some (reserved w)))))
