-- What texts say. Each theorem is the contract of a function of src/theorems.rt.
use Rattle.std.specs.Prelude.{◌≡◌, ℕ, ◌+◌, ◌-◌, ◌*◌, ◌^◌, ◌<◌, true, List, [], ◌∷◌, length, ℤ, decimal, slice_index}
use Rattle.std.specs.Int.Signed.{mag}
use Rattle.std.specs.Str.{all_ascii_digits}
use Rattle.std.specs.List.{AllByRecursion as AllOf}
use Rattle.std.specs.Fmt.{signed_decimal}
use Rattle.relation.specs.declared.kinds.Kind.{Kind}
use Rattle.relation.specs.Rows.{SpecRow, Period}
use Rattle.relation.specs.Values.{InKind}
use Rattle.listing.specs.Text.{space, list_text}

-- the number that digits say, after the number n before them
abbrev pub read_on : ℕ → List ℕ → ℕ
read_on n [] = n
read_on n (d ∷ ds) = read_on (n * 10 + (d - 48)) ds

-- of a number below 2 ^ 64: one digit or more and nothing else, they say the number, and 0 stands first only in 0 itself
pub record DecimalsRead : Type 0 where
  pub some : (n : ℕ) → n < 2 ^ 64 → 0 < length (decimal n)
  pub digits : (n : ℕ) → n < 2 ^ 64 → all_ascii_digits (decimal n) ≡ true
  pub number : (n : ℕ) → n < 2 ^ 64 → read_on 0 (decimal n) ≡ n
  pub first : (n : ℕ) → 0 < n → n < 2 ^ 64 → 48 < slice_index (decimal n) 0
  pub zero : decimal 0 ≡ 48 ∷ []

-- two numbers of 64 bits with the same text are the same
abbrev pub NumbersDiffer : Type 0
NumbersDiffer = (y z : ℤ) → mag y < 2 ^ 63 → mag z < 2 ^ 63 → signed_decimal y ≡ signed_decimal z → y ≡ z

-- a value of each kind
abbrev pub Held : List Kind → List ℤ → Type 0
Held [] [] = Unit {0}
Held [] (z ∷ zs) = ⊥
Held (k ∷ ks) [] = ⊥
Held (k ∷ ks) (z ∷ zs) = InKind k z × Held ks zs

-- rows of a relation of the kinds, under a name whose bytes all come after the space
pub record Listable (name : List ℕ) (kinds : List Kind) (rows : List SpecRow) : Type 0 where
  pub named : AllOf (λ b. space < b) name
  pub few : length rows < 2 ^ 64
  pub each : AllOf (λ r. Period r × Held kinds r.tuple) rows

-- two lists with the same text are the same
abbrev pub ListsDiffer : Type 0
ListsDiffer =
    (n m : List ℕ) (ks ls : List Kind) (rs ss : List SpecRow)
    → Listable n ks rs → Listable m ls ss → list_text n ks rs ≡ list_text m ls ss
    → (n ≡ m) × (ks ≡ ls) × (rs ≡ ss)
