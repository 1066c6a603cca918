-- The cuts of a group, each with the number and the amount of the rows that hold its day.
use Rattle.std.specs.Prelude.{List, map, pos}
use Rattle.relation.specs.declared.rows.Row.{Row}
use Rattle.tallies.specs.declared.rules.Tally.{Tally}
use Rattle.tallies.specs.declared.rules.Tally.TheVariants.{Count, Sum, Min, Max}
use Rattle.cuts.specs.declared.bests.Extreme.TheVariants.{Least, Greatest}
use Rattle.cuts.specs.Bests.{kept_by_rows}
use Rattle.cuts.specs.Cuts.{cuts_of}
use Rattle.cuts.specs.Days.{sorted}
use Rattle.cuts.specs.Totals.{totals}

-- sorted cuts, by their changes or by the rows ws themselves
abbrev pub measured : Tally → List Row → List Row → List Row
measured Count ws cs = totals (pos 0) (pos 0) cs
measured (Sum c) ws cs = totals (pos 0) (pos 0) cs
measured (Min c) ws cs = map (kept_by_rows Least c ws) cs
measured (Max c) ws cs = map (kept_by_rows Greatest c ws) cs

-- the same from the rows of the group
abbrev pub cut_days : Tally → List Row → List Row
cut_days m ws = measured m ws (sorted (cuts_of m ws))
