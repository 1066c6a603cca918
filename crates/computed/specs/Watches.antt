-- What the watches mean. Place k has the watch that begins on day 10 * k and lasts 25 days. Every third place is empty.
-- Two watchmen, 0 and 1, take turns; the first column has the watchman, the second the number k.
use Rattle.std.specs.Prelude.{◌≡◌, ℕ, ◌+◌, ◌*◌, ◌%◌, ◌<◌, ◌≤◌, Bool, true, cond, not, ◌&&◌, [], ◌∷◌, pos, Some, None, Option, ◌==◌, nat_le, nat_lt, refl}
use Rattle.std.proofs.Common.{subst, arith}
use Rattle.std.proofs.lemmas.Bool.{ltb-true, le-leb, and_parts, and_from}
use Rattle.relation.specs.declared.kinds.Kind.TheVariants.{Number}
use Rattle.relation.specs.declared.refusals.Reason.{Reason}
use Rattle.relation.specs.declared.refusals.Reason.TheVariants.{NoPeriod}
use Rattle.relation.specs.Rows.{SpecRow}
use Rattle.relation.specs.Values.{in_kind}
use Rattle.source.specs.Meaning.{Meaning, Sound, SoundAt}
use Rattle.source.proofs.Cells.{cond_some}

-- with one more, the last watch would end on day 1,000,005
abbrev pub most_watches : ℕ
most_watches = 99998

abbrev pub watch : ℕ → SpecRow
watch k = record { tuple = pos (k % 2) ∷ pos k ∷ []; first = 10 * k; end = 10 * k + 25 }

abbrev pub filled : ℕ → ℕ → Bool
filled count k = nat_lt k count && not (k % 3 == 2)

abbrev pub watches : ℕ → Meaning
watches count = record { kinds = Number ∷ Number ∷ []; count = count; at = λ k. cond (filled count k) (Some (watch k)) None }

-- the reason against so many watches
abbrev pub no_watches : ℕ → Option Reason
no_watches count = cond (not (nat_le count most_watches)) (Some NoPeriod) None

-- ---- the watches keep the bounds of every source

number_fits : (n : ℕ) → n ≤ 1000000000000 → in_kind Number (pos n) ≡ true
number_fits n h = le-leb n 1000000000000 h

watch_sound : (count k : ℕ) → count ≤ most_watches → k < count → SoundAt (Number ∷ Number ∷ []) count k (watch k)
watch_sound count k few below = record {
  below = below;
  fitting = and_from (in_kind Number (pos (k % 2))) _ (number_fits (k % 2) (omega arith)) (and_from (in_kind Number (pos k)) _ (number_fits k (omega arith)) refl);
  period = (omega arith, omega arith);
}

pub watches_sound : (count : ℕ) → count ≤ most_watches → Sound (watches count)
watches_sound count few = record {
  some_kinds = omega arith;
  few_kinds = omega arith;
  few = omega arith;
  filled = λ k r there.
      let both = cond_some (filled count k) (Some (watch k)) r there in
      let same : watch k ≡ r = cc in
      subst (SoundAt (Number ∷ Number ∷ []) count k) same (watch_sound count k few (ltb-true k count (and_parts (nat_lt k count) _ both.0).0));
}
