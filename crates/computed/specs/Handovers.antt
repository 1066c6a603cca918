-- The handovers: two watches of one watchman that share a day, the earlier one outside the days from first to end.
use Rattle.std.specs.Prelude.{ℕ, List, [], ◌∷◌, Option}
use Rattle.relation.specs.declared.conditions.Condition.{Condition}
use Rattle.relation.specs.declared.conditions.Sign.TheVariants.{Less}
use Rattle.relation.specs.declared.conditions.Term.TheVariants.{Column}
use Rattle.relation.specs.declared.refusals.Reason.{Reason}
use Rattle.relation.specs.Operations as ordinary
use Rattle.relation.specs.Sets.{TupleSet}
use Rattle.source.specs.Meaning.{Meaning, day_set}
use Rattle.collect.specs.Collects.{first_of}
use Rattle.layers.specs.Selects.{no_select}
use Rattle.layers.specs.Windows.{no_window}
use Rattle.join.specs.Joins.{no_join}
use Rattle.except.specs.Excepts.{no_except}
use Rattle.plans.specs.Plans.{Plan, source, select, window, join, except, meant}
use Rattle.computed.specs.Watches.{watches, no_watches}

abbrev pub by_watchman : List (ℕ × ℕ)
by_watchman = (1, 1) ∷ []

-- the second watch has the larger number
abbrev pub later : Condition
later = record { column = 2; sign = Less; term = Column 3 }

-- ---- the sets, on day d, from the sets of the watches

abbrev pub outside : Meaning → ℕ → ℕ → ℕ → TupleSet
outside m first end d = ordinary.except (day_set m d) (ordinary.window first end d (day_set m d))

abbrev pub handovers : Meaning → ℕ → ℕ → ℕ → TupleSet
handovers m first end d = ordinary.select later (ordinary.join by_watchman (outside m first end d) (day_set m d))

-- ---- the plans

abbrev pub inside_plan : Meaning → ℕ → ℕ → Plan
inside_plan m first end = window first end (source m)

abbrev pub outside_plan : Meaning → ℕ → ℕ → Plan
outside_plan m first end = except (source m) (inside_plan m first end)

abbrev pub pairs_plan : Meaning → ℕ → ℕ → Plan
pairs_plan m first end = join by_watchman (outside_plan m first end) (source m)

abbrev pub handovers_plan : Meaning → ℕ → ℕ → Plan
handovers_plan m first end = select later (pairs_plan m first end)

-- ---- when they are refused: so many watches, then the layers from the lowest on

abbrev pub no_outside : ℕ → ℕ → ℕ → Option Reason
no_outside count first end = first_of (no_watches count) (first_of (no_window first end) (no_except (watches count) (meant (inside_plan (watches count) first end))))

abbrev pub no_pairs : ℕ → ℕ → ℕ → Option Reason
no_pairs count first end = first_of (no_outside count first end) (no_join by_watchman (meant (outside_plan (watches count) first end)) (watches count))

abbrev pub no_handovers : ℕ → ℕ → ℕ → Option Reason
no_handovers count first end = first_of (no_pairs count first end) (no_select (meant (pairs_plan (watches count) first end)) later)
