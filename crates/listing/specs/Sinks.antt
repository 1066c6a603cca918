-- What the two sinks do with a text.
use Rattle.std.specs.Prelude.{◌≡◌, ℕ, ◌+◌, ◌-◌, ◌≤◌, cond, List, ◌++◌, length, take, drop, Some, None, Option, nat_le}
use Rattle.listing.specs.declared.sinks.Output.{Output}

-- the bytes with the text written from `at` on
abbrev pub written : List ℕ → ℕ → List ℕ → List ℕ
written bytes at text = take at bytes ++ (text ++ drop (at + length text) bytes)

-- how many bytes are left after a text; none where it has no room
abbrev pub left_of : Option ℕ → List ℕ → Option ℕ
left_of None text = None
left_of (Some left) text = cond (nat_le (length text) left) (Some (left - length text)) None

-- the text was written from where p stood, if it has room there
pub record Fills (p : Output) (text : List ℕ) (q : Output) : Type 0 where
  pub at : q.at ≡ p.at + length text
  pub bytes : q.bytes.now ≡ written p.bytes.now p.at text

-- q holds the same reference to the bytes as p
pub record Extends (p : Output) (text : List ℕ) (q : Output) : Type 0 where
  pub same_bytes : q.bytes.ghost_name ≡ p.bytes.ghost_name
  pub same_size : length q.bytes.now ≡ length p.bytes.now
  pub fills : p.at + length text ≤ length p.bytes.now → Fills p text q
