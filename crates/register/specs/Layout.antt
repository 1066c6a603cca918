-- How the entries of a directory share the rows of a register.
use Rattle.std.specs.List.{list_all, sum_by, position}
use Rattle.std.specs.Prelude.{◌≡◌, ℕ, zero, suc, ◌+◌, ◌<◌, ◌≤◌, min, Bool, true, false, cond, ◌&&◌, ◌||◌, List, [], ◌∷◌, map, length, get_or, take, drop, replicate, ℤ, pos, negsuc, is_some, Some, None, Option, ◌==◌, ◌≢◌, nat_le, nat_lt, slice_index_or, refl}
use Rattle.std.proofs.lemmas.Bool.{leb-true}
use Rattle.std.specs.Cmp.Lexicographic.{slice_cmp}
use Rattle.std.specs.Ordering.{is_lt, int_cmp}
use Rattle.relation.specs.declared.rows.Row.{Row}
use Rattle.relation.specs.declared.few.Few.{Few}
use Rattle.relation.specs.declared.kinds.Kind.{Kind}
use Rattle.relation.specs.Bounds.{most_columns, most_entries, most_stored}
use Rattle.relation.specs.Rows.{SpecRow, is_period}
use Rattle.relation.specs.Sets.{equal}
use Rattle.relation.specs.Few.{items}
use Rattle.relation.specs.Stored.{meant, blank_row}
use Rattle.source.specs.Meaning.{fits}
use Rattle.register.specs.declared.entries.Mark.{Mark}
use Rattle.register.specs.declared.entries.Mark.TheVariants.{Free, Draft, Published}
use Rattle.register.specs.declared.entries.Entry.{Entry}

-- what an entry stands for: a name, held as a number, with its mark, its kinds and its rows
pub record Part : Type 0 where
  pub name : ℕ
  pub mark : Mark
  pub kinds : List Kind
  pub rows : List SpecRow

-- what the rows from start on, len of them, mean
abbrev pub part_of : List Kind → ℕ → ℕ → List Row → List SpecRow
part_of kinds start len rows = map (meant (length kinds)) (take len (drop start rows))

abbrev pub entry_part : Entry → List Row → Part
entry_part e rs = record { name = e.name.code; mark = e.mark; kinds = items e.kinds; rows = map (meant (length (items e.kinds))) rs }

-- the rows of the entries lie one after another, in the order of the entries
abbrev pub parts : List Entry → List Row → List Part
parts [] rs = []
parts (e ∷ es) rs = entry_part e (take e.count rs) ∷ parts es (drop e.count rs)

-- how many rows they have together
abbrev pub total : List Entry → ℕ
total es = sum_by (λ (e : Entry). e.count) es

abbrev pub is_free : Mark → Bool
is_free Free = true
is_free Draft = false
is_free Published = false

abbrev pub is_draft : Mark → Bool
is_draft Free = false
is_draft Draft = true
is_draft Published = false

abbrev pub is_published : Mark → Bool
is_published Free = false
is_published Draft = false
is_published Published = true

abbrev pub bears : Mark → ℕ → ℕ → Bool
bears Free m n = false
bears Draft m n = m == n
bears Published m n = m == n

abbrev pub bearer : Entry → ℕ → Bool
bearer e n = bears e.mark e.name.code n

abbrev pub bearing : Part → ℕ → Bool
bearing p n = bears p.mark p.name n

-- what a name stands for
abbrev pub named : List Part → ℕ → Option Part
named [] n = None
named (p ∷ ps) n = cond (bearing p n) (Some p) (named ps n)

abbrev pub is_zero : ℤ → Bool
is_zero (pos zero) = true
is_zero (pos (suc n)) = false
is_zero (negsuc n) = false

abbrev pub is_blank : Row → Bool
is_blank r = r.first == 0 && (r.end == 0 && list_all is_zero r.values)

abbrev no_kinds : Few Kind most_columns
no_kinds = record { at = []; len = 0; within = leb-true 0 most_columns refl }

-- what is read past the end of a directory
abbrev pub free : Entry
free = record { name = record { code = 0 }; mark = Free; kinds = no_kinds; count = 0 }

-- an entry that is not in use
pub record Vacant (e : Entry) : Type 0 where
  pub name : e.name.code ≡ 0
  pub mark : e.mark ≡ Free
  pub kinds : items e.kinds ≡ []
  pub count : e.count ≡ 0

-- the entries of a directory that holds nothing
abbrev pub EachVacant : List Entry → Type 0
EachVacant es = (e : Entry) × Vacant e × (es ≡ replicate most_entries e)

-- ---- changes of one entry

abbrev pub grown : Entry → Entry
grown e = record { name = e.name; mark = e.mark; kinds = e.kinds; count = e.count + 1 }

abbrev pub issued_entry : Entry → ℕ → Entry
issued_entry e n = record { name = e.name; mark = Published; kinds = e.kinds; count = n }

-- an entry for a new draft
pub record Begun (e : Entry) (n : ℕ) (ks : List Kind) : Type 0 where
  pub name : e.name.code ≡ n
  pub mark : e.mark ≡ Draft
  pub kinds : items e.kinds ≡ ks
  pub count : e.count ≡ 0

-- ---- places of a directory

-- a place that bears a name; at most one does
abbrev pub Finds : List Entry → ℕ → Option ℕ → Type 0
Finds es n None = (k : ℕ) → bearer (slice_index_or es k free) n ≡ false
Finds es n (Some i) = (i < length es) × (bearer (slice_index_or es i free) n ≡ true)

-- the first place that is not in use
abbrev pub first_free : List Entry → Option ℕ
first_free es = position (λ (e : Entry). is_free e.mark) es

-- some place is free
abbrev pub vacancy : List Entry → Bool
vacancy es = is_some (first_free es)

-- ---- what a register keeps to

-- how many of the lent rows it uses at the most
abbrev pub capacity : List Row → ℕ
capacity rs = min (length rs) most_stored

-- the kinds of one to six columns
abbrev pub is_few : List Kind → Bool
is_few kinds = nat_le 1 (length kinds) && nat_le (length kinds) most_columns

-- the row has a period, and values within the bounds of the kinds
abbrev pub good_row : List Kind → SpecRow → Bool
good_row kinds r = is_period r.first r.end && fits kinds r.tuple

-- r comes before s in listing order
abbrev pub is_ahead : SpecRow → SpecRow → Bool
is_ahead r s = is_lt (slice_cmp int_cmp r.tuple s.tuple) || (equal r.tuple s.tuple && nat_lt r.first s.first)

abbrev pub is_listed : List SpecRow → Bool
is_listed [] = true
is_listed (r ∷ rows) = list_all (is_ahead r) rows && is_listed rows

-- one to six kinds, rows that may stand in a table of them, and in listing order where they are published
abbrev pub good_part : Part → Bool
good_part p = cond (is_free p.mark) true (is_few p.kinds && (list_all (good_row p.kinds) p.rows && cond (is_published p.mark) (is_listed p.rows) true))

abbrev pub Room : List Entry → List Row → Type 0
Room es rs = total es ≤ capacity rs

-- the rows past those of the entries are blank
abbrev pub Blanks : List Entry → List Row → Type 0
Blanks es rs = (k : ℕ) → total es ≤ k → k < capacity rs → is_blank (slice_index_or rs k blank_row) ≡ true

abbrev pub rivals : Entry → Entry → Bool
rivals e f = cond (bearer e e.name.code) (bearer f e.name.code) false

-- no two entries bear one name
abbrev pub Apart : List Entry → Type 0
Apart es = (j k : ℕ) → rivals (slice_index_or es j free) (slice_index_or es k free) ≡ true → j ≡ k

-- a free entry has no rows
abbrev pub Empty : List Entry → Type 0
Empty es = (k : ℕ) → (get_or es k free).mark ≡ Free → (get_or es k free).count ≡ 0

-- each entry in use is good
abbrev pub Fitting : List Entry → List Row → Type 0
Fitting es rs = list_all good_part (parts es rs) ≡ true

pub record Sound (es : List Entry) (rs : List Row) : Type 0 where
  pub all : length es ≡ most_entries
  pub room : Room es rs
  pub blanks : Blanks es rs
  pub apart : Apart es
  pub empty : Empty es
  pub fitting : Fitting es rs

-- one name stands for another thing than before, and each other name for the same
pub record Only (s t : ℕ → Option Part) (n : ℕ) (o : Option Part) : Type 0 where
  pub here : t n ≡ o
  pub other : (m : ℕ) → (m ≢ n) → t m ≡ s m
