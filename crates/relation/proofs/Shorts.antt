-- Short lists made from slices.
use Rattle.std.proofs.Common.{◌≡◌, ℕ, ◌<◌, ◌≤◌, List, length, Some, None, Option, ap, arith}
use Rattle.std.specs.Option.{MatchOption, option_map}
use Rattle.relation.specs.declared.few.Few.{Few}
use Rattle.relation.specs.Few.{items}

-- a slice that fits is kept whole
pub kept_whole : {X : Type 0} {n : ℕ} (o : Option (Few X n)) (xs : List X) → length xs ≤ n → MatchOption o (n < length xs) (λ f. (length xs ≤ n) × (items f ≡ xs)) → option_map items o ≡ Some xs
kept_whole None xs fits h = absurd (omega (arith, fits, h))
kept_whole (Some f) xs fits h = ap Some h.1
