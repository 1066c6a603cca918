-- The values of the two kinds.
use Rattle.std.specs.List.{list_all}
use Rattle.std.specs.Prelude.{◌≡◌, ℕ, zero, suc, ◌+◌, ◌*◌, ◌/◌, ◌%◌, ◌^◌, Bool, true, cond, ◌&&◌, ◌||◌, ◌↔◌, List, [], ◌∷◌, length, ℤ, pos, negsuc, ◌≤ℤ◌, is_some, Some, None, codes, Option, ◌==◌, int_le, nat_le}
use Rattle.std.specs.Char.{is_ascii_alphanumeric}
use Rattle.relation.specs.declared.kinds.Kind.{Kind}
use Rattle.relation.specs.declared.kinds.Kind.TheVariants as kind
use Rattle.relation.specs.Bounds.{largest_number, smallest_number, word_bytes}

-- A–Z, a–z, 0–9, hyphen and underscore
abbrev pub word_byte : ℕ → Bool
word_byte b = is_ascii_alphanumeric b || (b == 45 || b == 95)

abbrev pub is_word : List ℕ → Bool
is_word bs = nat_le 1 (length bs) && (nat_le (length bs) word_bytes && list_all word_byte bs)

-- the bytes are digits in base 256, the first highest, then zeros up to n of them
abbrev pub digits : ℕ → List ℕ → ℕ
digits zero bs = 0
digits (suc n) [] = 0
digits (suc n) (b ∷ bs) = b * 256 ^ n + digits n bs

-- the number that a word is held as
abbrev pub word : List ℕ → ℕ
word bs = digits word_bytes bs

-- ---- the values of a kind, as a relation

abbrev pub Number : ℤ → Type 0
Number z = (smallest_number ≤ℤ z) × (z ≤ℤ largest_number)

abbrev pub Word : ℤ → Type 0
Word z = (bs : List ℕ) × ((is_word bs ≡ true) × (z ≡ pos (word bs)))

abbrev pub InKind : Kind → ℤ → Type 0
InKind kind.Number z = Number z
InKind kind.Word z = Word z

-- ---- the same as functions

-- the value of bytes that are a word
abbrev pub word_value : List ℕ → Option ℤ
word_value bs = cond (is_word bs) (Some (pos (word bs))) None

-- the n lowest digits of m in base 256, the highest first
abbrev pub lowest : ℕ → ℕ → List ℕ
lowest zero m = []
lowest (suc n) m = m / 256 ^ n % 256 ∷ lowest n m

-- the bytes up to the first zero
abbrev pub front : List ℕ → List ℕ
front [] = []
front (b ∷ bs) = cond (b == 0) [] (b ∷ front bs)

-- the bytes of the word that a number would be
abbrev pub spelling : ℕ → List ℕ
spelling n = front (lowest word_bytes n)

-- the bytes of the word that a value is
abbrev pub word_text : ℤ → Option (List ℕ)
word_text (pos n) = cond (is_word (spelling n) && word (spelling n) == n) (Some (spelling n)) None
word_text (negsuc n) = None

abbrev pub in_kind : Kind → ℤ → Bool
in_kind kind.Number z = int_le smallest_number z && int_le z largest_number
in_kind kind.Word z = is_some (word_text z)

-- ---- theorems

-- the test tells the values of each kind
abbrev pub KindsTold : Type 0
KindsTold = (k : Kind) (z : ℤ) → (in_kind k z ≡ true) ↔ InKind k z

-- reading a word from its bytes and writing its bytes are inverse to each other
pub record WordsInverse : Type 0 where
  pub inverse : (bs : List ℕ) (z : ℤ) → (word_value bs ≡ Some z) ↔ (word_text z ≡ Some bs)
  pub each_word : (bs : List ℕ) → is_word bs ≡ true → (word_value bs ≡ Some (pos (word bs))) × (word_text (pos (word bs)) ≡ Some bs)
  pub each_value : (z : ℤ) → InKind kind.Word z → (bs : List ℕ) × ((word_text z ≡ Some bs) × (word_value bs ≡ Some z))
  pub one_word : (bs cs : List ℕ) → is_word bs ≡ true → is_word cs ≡ true → word bs ≡ word cs → bs ≡ cs

-- the word a
abbrev pub WordA : Type 0
WordA = word_value (codes "a") ≡ Some (pos 6989586621679009792)
