-- Small tables, as one fact about the definitions.
use Rattle.std.specs.Prelude.{◌≡◌, ℕ, List, [], ◌∷◌, pos, negsuc, Some, codes}
use Rattle.tallies.specs.declared.rules.Tally.TheVariants.{Count, Sum}
use Rattle.relation.specs.Sets.{Tuple}
use Rattle.relation.specs.Rows.{SpecRow, Period, on, Lists}
use Rattle.relation.specs.Operations.{project, except, join}
use Rattle.tallies.specs.Tallies.{tally, Exceeds}
use Rattle.relation.specs.Values.{word_value}

-- a row, from its first day to its end
abbrev pub row : ℕ → ℕ → Tuple → SpecRow
row first end tuple = record { tuple = tuple; first = first; end = end }

abbrev pub one : ℕ → Tuple
one n = pos n ∷ []

abbrev pub touching : List SpecRow
touching = row 0 5 (one 7) ∷ row 5 9 (one 7) ∷ []

abbrev pub parted : List SpecRow
parted = row 0 5 (one 7) ∷ row 6 9 (one 7) ∷ []

abbrev pub seven : List SpecRow
seven = row 0 10 (one 7) ∷ []

abbrev pub blockers : List SpecRow
blockers = row 3 5 (one 7) ∷ row 4 6 (one 7) ∷ []

abbrev pub left_5 : List SpecRow
left_5 = row 0 5 (one 7) ∷ []

abbrev pub left_6 : List SpecRow
left_6 = row 0 6 (one 7) ∷ []

abbrev pub right : List SpecRow
right = row 5 9 (one 8) ∷ []

abbrev pub overlapping : List SpecRow
overlapping = row 0 4 (one 1) ∷ row 2 6 (one 2) ∷ []

abbrev pub wide : List SpecRow
wide = row 0 4 (pos 1 ∷ pos 10 ∷ []) ∷ row 2 6 (pos 1 ∷ pos 20 ∷ []) ∷ []

abbrev pub falling : List SpecRow
falling = row 0 5 (one 1000000000000) ∷ row 0 5 (negsuc 0 ∷ []) ∷ []

abbrev pub rising : List SpecRow
rising = row 0 5 (one 1000000000000) ∷ row 0 5 (one 1) ∷ []

pub record Tables : Type 0 where
  pub met : Lists (row 0 9 (one 7) ∷ []) (on touching)
  pub kept_apart : Lists parted (on parted)
  pub cut : Lists (row 0 3 (one 7) ∷ row 6 10 (one 7) ∷ []) (λ d. except (on seven d) (on blockers d))
  pub all_cut : Lists [] (λ d. except (on seven d) (on seven d))
  pub no_shared_day : Lists [] (λ d. join [] (on left_5 d) (on right d))
  pub shared_day : Lists (row 5 6 (pos 7 ∷ pos 8 ∷ []) ∷ []) (λ d. join [] (on left_6 d) (on right d))
  pub counted : Lists (row 0 2 (one 1) ∷ row 4 6 (one 1) ∷ row 2 4 (one 2) ∷ []) (λ d. tally Count [] (on overlapping d))
  pub summed : Lists (row 0 2 (one 1) ∷ row 4 6 (one 2) ∷ row 2 4 (one 3) ∷ []) (λ d. tally (Sum 1) [] (on overlapping d))
  pub tuples_counted : Lists (row 0 6 (one 1) ∷ []) (λ d. tally Count [] (project (1 ∷ []) (on wide d)))
  pub large_sum : Lists (row 0 5 (one 999999999999) ∷ []) (λ d. tally (Sum 1) [] (on falling d))
  pub too_large_sum : Exceeds 1 [] (on rising)
  pub last_day : Period (row 999999 1000000 (one 7))
  pub no_days : Period (row 5 5 (one 7)) → ⊥
  pub past_days : Period (row 5 1000001 (one 7)) → ⊥
  pub word_a : word_value (codes "a") ≡ Some (pos 6989586621679009792)
