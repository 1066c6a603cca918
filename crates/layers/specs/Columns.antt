-- Columns chosen from those of a source. Columns count from 1.
use Rattle.std.specs.List.{list_all}
use Rattle.std.specs.Prelude.{◌≡◌, ℕ, ◌+◌, ◌<◌, ◌≤◌, Bool, ◌&&◌, List, length, ◌≢◌, nat_le, slice_index}
use Rattle.relation.specs.Bounds.{most_columns}

-- c is one of n columns
abbrev pub is_column : ℕ → ℕ → Bool
is_column n c = nat_le 1 c && nat_le c n

-- one to six columns, each one of n
abbrev pub are_columns : ℕ → List ℕ → Bool
are_columns n cs = nat_le 1 (length cs) && (nat_le (length cs) most_columns && list_all (is_column n) cs)

-- the first n of the columns are 1, 2 and so on, and the next one is not
pub record InPlace (cs : List ℕ) (n : ℕ) : Type 0 where
  pub few : n ≤ length cs
  pub each : (i : ℕ) → i < n → slice_index cs i ≡ i + 1
  pub last : n < length cs → slice_index cs n ≢ n + 1
