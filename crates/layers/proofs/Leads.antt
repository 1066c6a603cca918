-- A layer whose places are those below takes over what was sought below.
use Rattle.std.proofs.Common.{◌≡◌, ℕ, ◌≤◌, max, Some, sym, subst}
use Rattle.relation.specs.Sets.{Tuple}
use Rattle.relation.specs.Rows.{SpecRow}
use Rattle.source.specs.Meaning.{Meaning, Begins, NoneLed}

-- each filled place of n that begins with lead lies over one of m that begins with under
pub led : (m n : Meaning) (lead under : Tuple) (k r : ℕ) → n.count ≡ m.count
    → ((p : ℕ) (w : SpecRow) → n.at p ≡ Some w → Begins lead w.tuple → (v : SpecRow) × ((m.at p ≡ Some v) × Begins under v.tuple))
    → NoneLed m under k r → NoneLed n lead k r
led m n lead under k r same over none = record {
  on = none.on;
  up = subst (λ c. r ≤ max k c) (sym same) none.up;
  skipped = λ p w kp pr at h. let v = over p w at h in none.skipped p v.0 kp pr v.1.0 v.1.1;
}
