-- Which instruments were out on a day without cover, and at what value? The instrument stands in the first column of each list.
use Rattle.std.specs.Prelude.{◌≡◌, ℕ, List, [], ◌∷◌, Option}
use Rattle.relation.specs.declared.refusals.Reason.{Reason}
use Rattle.relation.specs.declared.rows.Row.{Row}
use Rattle.relation.specs.Operations as ordinary
use Rattle.relation.specs.Sets.{TupleSet}
use Rattle.source.specs.Meaning.{Meaning, day_set}
use Rattle.tree.specs.declared.Node.{Node}
use Rattle.collect.specs.Collects.{first_of, no_collect}
use Rattle.layers.specs.Projects.{no_project}
use Rattle.layers.specs.Windows.{no_window}
use Rattle.join.specs.Joins.{no_join}
use Rattle.except.specs.Excepts.{no_except}
use Rattle.tally.specs.Tallying.{no_tally}
use Rattle.tallies.specs.declared.rules.Tally.{Tally}
use Rattle.tallies.specs.declared.rules.Tally.TheVariants.{Sum}
use Rattle.plans.specs.Plans.{Plan, source, project, window, join, except, meant, Accepted}

abbrev pub instrument : List ℕ
instrument = 1 ∷ []

abbrev pub by_instrument : List (ℕ × ℕ)
by_instrument = (1, 1) ∷ []

-- ---- the sets, on day d, from the sets of hires, covers and values

abbrev pub out : Meaning → ℕ → TupleSet
out hires d = ordinary.project instrument (day_set hires d)

abbrev pub bare : Meaning → Meaning → ℕ → TupleSet
bare hires covers d = ordinary.except (out hires d) (out covers d)

abbrev pub valued : Meaning → Meaning → Meaning → ℕ → TupleSet
valued hires covers values d = ordinary.join by_instrument (bare hires covers d) (day_set values d)

abbrev pub uncovered : Meaning → Meaning → Meaning → ℕ → ℕ → ℕ → TupleSet
uncovered hires covers values first end d = ordinary.window first end d (valued hires covers values d)

-- ---- the plans

abbrev pub out_plan : Meaning → Plan
out_plan hires = project instrument (source hires)

abbrev pub bare_plan : Meaning → Meaning → Plan
bare_plan hires covers = except (out_plan hires) (out_plan covers)

abbrev pub valued_plan : Meaning → Meaning → Meaning → Plan
valued_plan hires covers values = join by_instrument (bare_plan hires covers) (source values)

abbrev pub uncovered_plan : Meaning → Meaning → Meaning → ℕ → ℕ → Plan
uncovered_plan hires covers values first end = window first end (valued_plan hires covers values)

-- ---- when the question is refused: by its layers from the lowest on, then for want of work area

abbrev pub no_out : Meaning → Option Reason
no_out hires = no_project hires instrument

abbrev pub no_bare : Meaning → Meaning → Option Reason
no_bare hires covers = first_of (no_out hires) (first_of (no_out covers) (no_except (meant (out_plan hires)) (meant (out_plan covers))))

abbrev pub no_valued : Meaning → Meaning → Meaning → Option Reason
no_valued hires covers values = first_of (no_bare hires covers) (no_join by_instrument (meant (bare_plan hires covers)) values)

abbrev pub no_uncovered : Meaning → Meaning → Meaning → ℕ → ℕ → Option Reason
no_uncovered hires covers values first end = first_of (no_valued hires covers values) (no_window first end)

-- a plan that is made, and then collected
abbrev pub collected : Option Reason → Plan → List Row → List Node → Option Reason
collected q p rows index = first_of q (no_collect (meant p) rows index)

-- layers of the meaning m are the plan, and it is accepted
pub record IsPlan (m : Meaning) (p : Plan) : Type 0 where
  pub means : m ≡ meant p
  pub accepted : Accepted p

-- ---- the totals

-- the value stands in the second column of the list of values
abbrev pub total_value : Tally
total_value = Sum 2

-- the plan is made, and then tallied
abbrev pub totalled : Option Reason → Plan → List ℕ → List Row → List Node → Option Reason
totalled q p by rows index = first_of q (no_tally (meant p) total_value by rows index)
