-- The cuts of a group tell the amounts on the days up to the next cut.
use Rattle.std.proofs.Common.{◌≡◌, ℕ, suc, ◌+◌, ◌<◌, Bool, true, false, List, [], ◌∷◌, map, length, get_or, ℤ, pos, sym, refl, ap, ◌∙◌, subst, arith}
use lib.ListN.{length-map}
use lib.Signed.{lt_z}
use Rattle.std.specs.List.{AllByRecursion as AllOf}
use Rattle.std.proofs.ByRecursion.{All-get_or, All-weaker}
use Rattle.std.proofs.lemmas.List.{get_or-map}
use Rattle.std.proofs.lemmas.Int.{ints}
use Rattle.std.proofs.lemmas.Bool.{lt-ltb}
use Rattle.relation.specs.declared.rows.Row.{Row}
use Rattle.collect.specs.Areas.{no_row}
use Rattle.tallies.specs.declared.rules.Tally.{Tally}
use Rattle.tallies.specs.declared.rules.Tally.TheVariants.{Count, Sum, Min, Max}
use Rattle.cuts.specs.declared.bests.Extreme.{Extreme}
use Rattle.cuts.specs.declared.bests.Extreme.TheVariants.{Least, Greatest}
use Rattle.cuts.specs.Amounts.{value, valued, held, total, best, amount}
use Rattle.cuts.specs.Bests.{better, kept_by_rows}
use Rattle.cuts.specs.Cuts.{cut_row, changed, opened, closed, cuts_of}
use Rattle.cuts.specs.Days.{Rises, sorted}
use Rattle.cuts.specs.Measured.{measured, cut_days}
use Rattle.cuts.specs.Totals.{totals}
use Rattle.cuts.proofs.Besting.{mark, bests_are}
use Rattle.cuts.proofs.Comparing.{day_by_rows}
use Rattle.cuts.proofs.Lists.{map_alike}
use Rattle.cuts.proofs.Sorting.{length_sorted, sorted_rises, sorted_has, all_sorted}
use Rattle.cuts.proofs.Summing.{length_totals, totals_at, summed}

abbrev pub some? : List Row → Bool
some? [] = false
some? (w ∷ ws) = true

-- a cut is at the day
abbrev pub CutAt : List Row → ℕ → Type 0
CutAt cs d = (k : ℕ) × ((k < length cs) × ((get_or cs k no_row).first ≡ d))

-- what a cut says of the day
pub record Says (m : Tally) (ws : List Row) (c : Row) : Type 0 where
  pub rows : lt_z (pos 0) (value 0 c) ≡ some? (held ws c.first)
  pub amount_is : value 1 c ≡ amount m (held ws c.first)

pub record Told (m : Tally) (ws cs : List Row) : Type 0 where
  pub rises : Rises cs
  pub begins : AllOf (λ w. CutAt cs w.first) ws
  pub ends : AllOf (λ w. CutAt cs w.end) ws
  pub says : (j : ℕ) → j + 1 < length cs → (get_or cs j no_row).first < (get_or cs (j + 1) no_row).first → Says m ws (get_or cs j no_row)

-- ---- the days

cut_behind : (c b : Row) (cs : List Row) (d : ℕ) → CutAt cs d → CutAt (c ∷ b ∷ cs) d
cut_behind c b cs d h = (suc (suc h.0), (omega (arith, h.1.0), h.1.1))

opened_in : (m : Tally) (ws : List Row) → AllOf (λ w. CutAt (cuts_of m ws) w.first) ws
opened_in m [] = tt
opened_in m (w ∷ ws) = ((0, (omega arith, refl)), All-weaker _ _ (λ u h. cut_behind (opened m w) (closed m w) (cuts_of m ws) u.first h) ws (opened_in m ws))

closed_in : (m : Tally) (ws : List Row) → AllOf (λ w. CutAt (cuts_of m ws) w.end) ws
closed_in m [] = tt
closed_in m (w ∷ ws) = ((1, (omega arith, refl)), All-weaker _ _ (λ u h. cut_behind (opened m w) (closed m w) (cuts_of m ws) u.end h) ws (closed_in m ws))

cut_sorted : (cs : List Row) (d : ℕ) → CutAt cs d → CutAt (sorted cs) d
cut_sorted cs d h =
    let s = sorted_has cs h.0 h.1.0 in
    (s.0, (omega (arith, s.1.0, length_sorted cs), ap (λ c. c.first) s.1.1 ∙ h.1.1))

-- cuts at the same days
pub record SameDays (cs bs : List Row) : Type 0 where
  pub long : length bs ≡ length cs
  pub day : (j : ℕ) → j < length cs → (get_or bs j no_row).first ≡ (get_or cs j no_row).first

totals_days : (cs : List Row) → SameDays cs (totals (pos 0) (pos 0) cs)
totals_days cs = record { long = length_totals (pos 0) (pos 0) cs; day = λ j lt. ap (λ c. c.first) (totals_at cs j lt) }

bests_days : (e : Extreme) (x : ℕ) (ws cs : List Row) → SameDays cs (map (kept_by_rows e x ws) cs)
bests_days e x ws cs = record { long = length-map cs (kept_by_rows e x ws); day = λ j lt. ap (λ c. c.first) (get_or-map (kept_by_rows e x ws) cs j no_row no_row lt) ∙ day_by_rows e x ws (get_or cs j no_row) }

pub measured_days : (m : Tally) (ws cs : List Row) → SameDays cs (measured m ws cs)
measured_days Count ws cs = totals_days cs
measured_days (Sum i) ws cs = totals_days cs
measured_days (Min i) ws cs = bests_days Least i ws cs
measured_days (Max i) ws cs = bests_days Greatest i ws cs

cut_same : (cs bs : List Row) (d : ℕ) → SameDays cs bs → CutAt cs d → CutAt bs d
cut_same cs bs d s h = (h.0, (omega (arith, h.1.0, s.long), s.day h.0 h.1.0 ∙ h.1.1))

rises_same : (cs bs : List Row) → SameDays cs bs → Rises cs → Rises bs
rises_same cs bs s rises i j le lt =
    let l : j < length cs = omega (arith, s.long) in
    omega (arith, s.day i (omega arith), s.day j l, rises i j le l)

-- ---- the amounts

some_length : (hs : List Row) → lt_z (pos 0) (pos (length hs)) ≡ some? hs
some_length [] = refl
some_length (h ∷ hs) = lt-ltb 0 (suc (length hs)) (omega arith)

some_mark : (hs : List Row) → lt_z (pos 0) (mark hs) ≡ some? hs
some_mark [] = refl
some_mark (h ∷ hs) = refl

ones : (hs : List Row) → total (map (λ w. pos 1) hs) ≡ pos (length hs)
ones [] = refl
ones (h ∷ hs) = let e = ones hs in omega (arith, ints)

-- a cut and what it says
says_from : (m : Tally) (ws : List Row) (c : Row) (d : ℕ) (n z : ℤ) → c ≡ cut_row d n z → lt_z (pos 0) n ≡ some? (held ws d) → z ≡ amount m (held ws d) → Says m ws c
says_from m ws c d n z is rows amounts = subst (Says m ws) (sym is) (record { rows = rows; amount_is = amounts })

-- what changes comes to the number and the amount of the rows
module _ (m : Tally) (ws : List Row) (ahead : AllOf (λ w. w.first < w.end) ws) (each : (w : Row) → (changed m w).rows ≡ pos 1) (adds : (hs : List Row) → total (map (λ w. (changed m w).amount) hs) ≡ amount m hs) where
  abbrev cs : List Row
  cs = sorted (cuts_of m ws)

  says_totals : (j : ℕ) → j + 1 < length cs → (get_or cs j no_row).first < (get_or cs (j + 1) no_row).first → Says m ws (get_or (totals (pos 0) (pos 0) cs) j no_row)
  says_totals j lt step =
      let d : ℕ = (get_or cs j no_row).first in
      let count = summed m (value 0) (λ w. (changed m w).rows) (λ w. refl) (λ w. refl) ws ahead j lt step in
      let sum = summed m (value 1) (λ w. (changed m w).amount) (λ w. refl) (λ w. refl) ws ahead j lt step in
      says_from m ws _ d _ _ (totals_at cs j (omega arith)) (ap (lt_z (pos 0)) (count ∙ ap total (map_alike _ _ each (held ws d)) ∙ ones (held ws d)) ∙ some_length (held ws d)) (sum ∙ adds (held ws d))

-- no change, so the least or the greatest is taken in from the start
module _ (m : Tally) (e : Extreme) (x : ℕ) (ws : List Row) (bare-cuts : AllOf (λ c. c ≡ cut_row c.first (pos 0) (pos 0)) (cuts_of m ws)) (means : (hs : List Row) → best (better e) (map (valued x) hs) ≡ amount m hs) where
  says_bests : (j : ℕ) → j < length (sorted (cuts_of m ws)) → Says m ws (get_or (map (kept_by_rows e x ws) (sorted (cuts_of m ws))) j no_row)
  says_bests j lt =
      let cs = sorted (cuts_of m ws) in
      let d : ℕ = (get_or cs j no_row).first in
      let start = All-get_or (λ c. c ≡ cut_row c.first (pos 0) (pos 0)) cs j no_row lt (all_sorted (cuts_of m ws) (λ c. c ≡ cut_row c.first (pos 0) (pos 0)) bare-cuts) in
      says_from m ws _ d (mark (held ws d)) (best (better e) (map (valued x) (held ws d)))
      (get_or-map (kept_by_rows e x ws) cs j no_row no_row lt ∙ ap (kept_by_rows e x ws) start ∙ bests_are e x d ws)
      (some_mark (held ws d)) (means (held ws d))

bare_min : (i : ℕ) (ws : List Row) → AllOf (λ c. c ≡ cut_row c.first (pos 0) (pos 0)) (cuts_of (Min i) ws)
bare_min i [] = tt
bare_min i (w ∷ ws) = (refl, (refl, bare_min i ws))

bare_max : (i : ℕ) (ws : List Row) → AllOf (λ c. c ≡ cut_row c.first (pos 0) (pos 0)) (cuts_of (Max i) ws)
bare_max i [] = tt
bare_max i (w ∷ ws) = (refl, (refl, bare_max i ws))

says_at : (m : Tally) (ws : List Row) → AllOf (λ w. w.first < w.end) ws → (j : ℕ) → j + 1 < length (sorted (cuts_of m ws)) → (get_or (sorted (cuts_of m ws)) j no_row).first < (get_or (sorted (cuts_of m ws)) (j + 1) no_row).first → Says m ws (get_or (cut_days m ws) j no_row)
says_at Count ws h j lt step = says_totals Count ws h (λ w. refl) ones j lt step
says_at (Sum i) ws h j lt step = says_totals (Sum i) ws h (λ w. refl) (λ hs. refl) j lt step
says_at (Min i) ws h j lt step = says_bests (Min i) Least i ws (bare_min i ws) (λ hs. refl) j (omega arith)
says_at (Max i) ws h j lt step = says_bests (Max i) Greatest i ws (bare_max i ws) (λ hs. refl) j (omega arith)

pub cuts_tell : (m : Tally) (ws : List Row) → AllOf (λ w. w.first < w.end) ws → Told m ws (cut_days m ws)
cuts_tell m ws h =
    let cs = sorted (cuts_of m ws) in
    let s = measured_days m ws cs in
    record {
      rises = rises_same cs (cut_days m ws) s (sorted_rises (cuts_of m ws));
      begins = All-weaker _ _ (λ w at. cut_same cs (cut_days m ws) w.first s (cut_sorted (cuts_of m ws) w.first at)) ws (opened_in m ws);
      ends = All-weaker _ _ (λ w at. cut_same cs (cut_days m ws) w.end s (cut_sorted (cuts_of m ws) w.end at)) ws (closed_in m ws);
      says = λ j lt step. says_at m ws h j (omega (arith, s.long)) (omega (arith, s.long, s.day j (omega (arith, s.long)), s.day (j + 1) (omega (arith, s.long))));
    }
