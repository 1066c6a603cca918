-- Kinds, written as letters.
use Rattle.std.specs.List.{list_all}
use Rattle.std.specs.Prelude.{ℕ, Bool, cond, ◌&&◌, ◌||◌, List, map, length, Some, None, Option, ◌==◌, nat_le}
use Rattle.relation.specs.declared.kinds.Kind.{Kind}
use Rattle.relation.specs.declared.kinds.Kind.TheVariants.{Number, Word}
use Rattle.relation.specs.Bounds.{most_columns}

-- n or w
abbrev pub kind_byte : ℕ → Bool
kind_byte b = b == 110 || b == 119

abbrev pub kind_of : ℕ → Kind
kind_of b = cond (b == 119) Word Number

-- one or more letters
abbrev pub is_kinds : List ℕ → Bool
is_kinds w = nat_le 1 (length w) && list_all kind_byte w

-- at most n letters, a kind each
abbrev pub letters_of : ℕ → List ℕ → Option (List Kind)
letters_of n w = cond (list_all kind_byte w && nat_le (length w) n) (Some (map kind_of w)) None

-- 1 to 6 letters, a kind each
abbrev pub kinds_of : List ℕ → Option (List Kind)
kinds_of w = cond (is_kinds w && nat_le (length w) most_columns) (Some (map kind_of w)) None
