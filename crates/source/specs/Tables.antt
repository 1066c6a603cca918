-- What a table means: rows that lie beside each other in a lent area, one place for each row of the area.
use Rattle.std.specs.List.{slice_get}
use Rattle.std.specs.List.{list_all}
use Rattle.std.specs.Prelude.{◌≡◌, ℕ, ◌+◌, ◌<◌, ◌≤◌, Bool, true, cond, not, ◌&&◌, List, [], length, take, drop, Some, None, Option, ◌≢◌, nat_le, nat_lt}
use Rattle.std.specs.declared.cmp.Ordering.TheVariants.{Less}
use Rattle.std.specs.declared.cmp.Ordering.{Ordering}
use Rattle.std.specs.Cmp.Lexicographic.{slice_cmp}
use Rattle.relation.specs.declared.kinds.Kind.{Kind}
use Rattle.relation.specs.declared.rows.Row.{Row}
use Rattle.relation.specs.declared.refusals.Reason.{Reason}
use Rattle.relation.specs.declared.refusals.Reason.TheVariants.{Misfit, NoPeriod, OutOfBounds, TooManyPlaces}
use Rattle.relation.specs.Bounds.{most_columns, most_places}
use Rattle.relation.specs.Sets.{Tuple, Below}
use Rattle.relation.specs.Rows.{SpecRow, Period, is_period}
use Rattle.relation.specs.Stored.{meant}
use Rattle.source.specs.Meaning.{Meaning, Sound, NoneLed, Begins, fits}
use Rattle.std.specs.Ordering.{int_cmp}

abbrev pub meant? : ℕ → Option Row → Option SpecRow
meant? n None = None
meant? n (Some w) = Some (meant n w)

-- the rows from start on, len of them, are the table's
abbrev pub table : List Row → ℕ → ℕ → List Kind → Meaning
table rows start len kinds = record {
  kinds = kinds;
  count = length rows;
  at = λ k. cond (nat_le start k && nat_lt k (start + len)) (meant? (length kinds) (slice_get rows k)) None;
}

-- a row that may stand in a table of these kinds
pub record Good (ks : List Kind) (r : SpecRow) : Type 0 where
  pub fitting : fits ks r.tuple ≡ true
  pub period : Period r

-- what a read past the end of rows gives
abbrev pub no_row : Row
no_row = record { first = 0; end = 0; values = [] }

-- ---- tables in listing order

-- from place to place the tuples rise or stay equal
pub record Rising (m : Meaning) : Type 0 where
  pub rise : (i j : ℕ) (r s : SpecRow) → i < j → m.at i ≡ Some r → m.at j ≡ Some s → Below s.tuple r.tuple → ⊥

-- what an accepted table keeps to; `ordered` says that its tuples are known to rise
pub record TableOk (rows : List Row) (start len : ℕ) (kinds : List Kind) (ordered : Bool) : Type 0 where
  pub sound : Sound (table rows start len kinds)
  pub order : ordered ≡ true → Rising (table rows start len kinds)

-- how the first values of the tuple t, as many as lead has, stand to lead
abbrev pub leading : Tuple → Tuple → Ordering
leading t lead = slice_cmp int_cmp (take (length lead) t) lead

-- place k is filled, and o is how it stands to lead by its first values
pub record Leads (m : Meaning) (lead : Tuple) (k : ℕ) (o : Ordering) : Type 0 where
  pub row : SpecRow
  pub there : m.at k ≡ Some row
  pub order : o ≡ leading row.tuple lead

-- from low up to high the places before r lead with less than lead, and those from r on do not
pub record LowerBound (m : Meaning) (lead : Tuple) (low high r : ℕ) : Type 0 where
  pub from : low ≤ r
  pub upto : r ≤ high
  pub before : (p : ℕ) (w : SpecRow) → low ≤ p → p < r → m.at p ≡ Some w → leading w.tuple lead ≡ Less
  pub after : (p : ℕ) (w : SpecRow) → r ≤ p → p < high → m.at p ≡ Some w → leading w.tuple lead ≢ Less

-- r is the first place from k on that begins with lead, or no place if there is none
pub record NextLed (m : Meaning) (lead : Tuple) (k r : ℕ) : Type 0 where
  pub none : NoneLed m lead k r
  pub led : r < m.count → (w : SpecRow) × ((m.at r ≡ Some w) × Begins lead w.tuple)

-- ---- when a table is refused

abbrev pub all_periods : List Row → Bool
all_periods rows = list_all (λ w. is_period w.first w.end) rows

abbrev pub all_fit : List Kind → List Row → Bool
all_fit ks rows = list_all (λ w. fits ks (meant (length ks) w).tuple) rows

-- the reason why some rows of an area of so many are no table of these kinds, the first that applies
abbrev pub no_rows : ℕ → List Row → List Kind → Option Reason
no_rows places rows ks =
    cond (not (nat_le 1 (length ks) && nat_le (length ks) most_columns)) (Some Misfit)
    (cond (not (all_periods rows)) (Some NoPeriod)
    (cond (not (all_fit ks rows)) (Some OutOfBounds)
    (cond (not (nat_le places most_places)) (Some TooManyPlaces) None)))

-- the same of all rows
abbrev pub no_table : List Row → List Kind → Option Reason
no_table rows ks = no_rows (length rows) rows ks

-- the same of the rows from start on, len of them
abbrev pub no_part : List Row → ℕ → ℕ → List Kind → Option Reason
no_part rows start len ks = no_rows (length rows) (take len (drop start rows)) ks
