-- A tallied group.
use Rattle.std.proofs.Common.{◌≡◌, ℕ, ◌<◌, ◌≤◌, List, ◌++◌, length, get_or, take, sym, ap, ◌∙◌, subst, arith}
use Rattle.std.specs.List.{AllByRecursion as AllOf}
use Rattle.std.proofs.ByRecursion.{All-weaker, All-from_get_or}
use Rattle.std.proofs.lemmas.List.{get_or-take, length-append, length-take-le, take-append-le}
use Rattle.relation.specs.declared.rows.Row.{Row}
use Rattle.relation.specs.Rows.{Period, Holds}
use Rattle.collect.specs.Areas.{no_row, bare}
use Rattle.tallies.specs.declared.rules.Tally.{Tally}
use Rattle.cuts.specs.Groups.{HeldIn, Gives}
use Rattle.cuts.specs.Measured.{cut_days}
use Rattle.cuts.specs.Stretches.{stretches_by}
use Rattle.cuts.proofs.Grouping.{stretch_says, stretch_period, day_covered}
use Rattle.cuts.proofs.Stretching.{From, stretch_from, stretches_rise}
use Rattle.cuts.proofs.Telling.{Told, cuts_tell}

-- what the first r rows of the area say
pub record Tallied (m : Tally) (by : List ℕ) (group : List Row) (r : ℕ) (after : List Row) : Type 0 where
  pub periods : AllOf (λ w. Period (bare w)) (take r after)
  pub rising : (i j : ℕ) → i < j → j < r → (get_or after i no_row).end ≤ (get_or after j no_row).first
  pub gives : (j d : ℕ) → j < r → Holds (bare (get_or after j no_row)) d → Gives m by group d (get_or after j no_row)
  pub all : (d : ℕ) → HeldIn group d → HeldIn (take r after) d

module _ (m : Tally) (by : List ℕ) (group : List Row) (periods : AllOf (λ w. Period (bare w)) group) (r : ℕ) (after : List Row) (long : r ≤ length after) where
  abbrev cs : List Row
  cs = cut_days m group

  abbrev first : Row
  first = get_or group 0 no_row

  abbrev out : List Row
  out = stretches_by first by cs

  told : Told m group cs
  told = cuts_tell m group (All-weaker (λ w. Period (bare w)) (λ w. w.first < w.end) (λ w p. p.0) group periods)

  module _ (made : take r after ≡ out) where
    out_long : length out ≡ r
    out_long = ap length (sym made) ∙ length-take-le r after long

    row_at : (j : ℕ) → j < r → get_or after j no_row ≡ get_or out j no_row
    row_at j lt = sym (get_or-take r after j no_row lt) ∙ ap (λ t. get_or t j no_row) made

    from_at : (j : ℕ) → j < r → From first by cs (get_or after j no_row)
    from_at j lt = subst (From first by cs) (sym (row_at j lt)) (stretch_from first by cs j (omega (arith, out_long)))

    rows_period : AllOf (λ w. Period (bare w)) (take r after)
    rows_period =
        All-from_get_or (λ w. Period (bare w)) (take r after) no_row
        (λ j lt. let l : j < r = omega (arith, length-take-le r after long) in
        subst (λ w. Period (bare w)) (sym (get_or-take r after j no_row l)) (stretch_period m group cs told first by (get_or after j no_row) (from_at j l) periods))

    rows_rise : (i j : ℕ) → i < j → j < r → (get_or after i no_row).end ≤ (get_or after j no_row).first
    rows_rise i j a lt =
        omega (arith, stretches_rise first by cs told.rises i j a (omega (arith, out_long)), ap (λ w. w.end) (row_at i (omega arith)), ap (λ w. w.first) (row_at j lt))

    rows_give : (j d : ℕ) → j < r → Holds (bare (get_or after j no_row)) d → Gives m by group d (get_or after j no_row)
    rows_give j d lt h =
        let s = stretch_says m group cs told first by (get_or after j no_row) (from_at j lt) d h in
        record { some = s.0; values = s.1 }

    days_covered : (d : ℕ) → HeldIn group d → HeldIn (take r after) d
    days_covered d h = subst (λ t. HeldIn t d) (sym made) (day_covered m group cs told first by d h)

    tallied_rows : Tallied m by group r after
    tallied_rows = record { periods = rows_period; rising = rows_rise; gives = rows_give; all = days_covered }

-- the stretches stand at the start of the area
pub tallied : (m : Tally) (by : List ℕ) (group : List Row) → AllOf (λ w. Period (bare w)) group → (r : ℕ) (cuts rest : List Row) → r ≤ length cuts → take r cuts ≡ stretches_by (get_or group 0 no_row) by (cut_days m group) → Tallied m by group r (cuts ++ rest)
tallied m by group periods r cuts rest le made = tallied_rows m by group periods r (cuts ++ rest) (omega (arith, length-append cuts rest)) (take-append-le r cuts rest le ∙ made)
