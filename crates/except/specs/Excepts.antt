-- Except: what is left of each row of a once the days of its blockers in b are taken out.
use Rattle.std.specs.Prelude.{◌≡◌, ℕ, ◌+◌, ◌*◌, ◌/◌, ◌%◌, ◌<◌, ◌≤◌, Some, None, Option}
use Rattle.relation.specs.declared.refusals.Reason.{Reason}
use Rattle.relation.specs.Sets.{Tuple}
use Rattle.relation.specs.Rows.{SpecRow}
use Rattle.layers.specs.Checks.{no_pair}
use Rattle.source.specs.Meaning.{Meaning}
use Rattle.relation.specs.declared.days.Span.{Span}
use Rattle.except.specs.Blockers.{span, piece}

-- the row with tuple t and these days
abbrev pub dated : Tuple → Option Span → Option SpecRow
dated t None = None
dated t (Some s) = Some (record { tuple = t; first = s.first; end = s.end })

-- piece j of a row: what stands at place j of the row's places
abbrev pub pieced : Meaning → Option SpecRow → ℕ → Option SpecRow
pieced b None j = None
pieced b (Some r) j = dated r.tuple (piece b r.tuple (span r) j)

-- each place of a gives one place more than b has
abbrev pub excepted : Meaning → Meaning → Meaning
excepted a b = record {
  kinds = a.kinds;
  count = a.count * (b.count + 1);
  at = λ k. pieced b (a.at (k / (b.count + 1))) (k % (b.count + 1));
}

-- the row at o has no piece of the blockers from place p up to r
pub record NoPieces (b : Meaning) (o : Option SpecRow) (p r : ℕ) : Type 0 where
  pub on : p ≤ r
  pub up : r ≤ b.count
  pub skipped : (q : ℕ) → p ≤ q → q < r → pieced b o (q + 1) ≡ None

-- ---- when an except is refused

-- the reason why a except b is not made, the first that applies
abbrev pub no_except : Meaning → Meaning → Option Reason
no_except a b = no_pair a b (a.count * (b.count + 1))
