-- The numbers of a text.
use Rattle.std.specs.Prelude.{ℕ, ◌+◌, ◌-◌, ◌*◌, Bool, false, cond, not, ◌&&◌, ◌||◌, List, [], ◌∷◌, length, ℤ, pos, neg_ℤ, Some, None, Option, ◌==◌, nat_le}
use Rattle.std.specs.Str.{all_ascii_digits}

-- the number that digits write, after the number n before them
abbrev pub read_on : ℕ → List ℕ → ℕ
read_on n [] = n
read_on n (c ∷ cs) = read_on (n * 10 + (c - 48)) cs

-- 1 to 13 digits, the first of several not 0
abbrev pub plain : List ℕ → Bool
plain [] = false
plain (c ∷ cs) = nat_le (length cs) 12 && ((not (c == 48) || length cs == 0) && all_ascii_digits (c ∷ cs))

abbrev pub natural : List ℕ → Option ℕ
natural ds = cond (plain ds) (Some (read_on 0 ds)) None

-- a number, and one after a minus sign
abbrev pub plus : Option ℕ → Option ℤ
plus None = None
plus (Some n) = Some (pos n)

abbrev pub minus : Option ℕ → Option ℤ
minus None = None
minus (Some n) = cond (n == 0) None (Some (neg_ℤ (pos n)))

abbrev pub number : List ℕ → Option ℤ
number [] = None
number (c ∷ cs) = cond (c == 45) (minus (natural cs)) (plus (natural (c ∷ cs)))
