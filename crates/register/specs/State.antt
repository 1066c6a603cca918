-- What a store holds, by name, and what each call leaves of it.
use Rattle.std.specs.Prelude.{◌≡◌, ℕ, ◌+◌, Bool, true, false, List, [], ◌∷◌, ◌++◌, length, take, drop, replicate, Some, None, Option, slice_index_or}
use Rattle.relation.specs.declared.rows.Row.{Row}
use Rattle.relation.specs.declared.kinds.Kind.{Kind}
use Rattle.relation.specs.Bounds.{most_stored}
use Rattle.relation.specs.Rows.{SpecRow, Lists, on}
use Rattle.relation.specs.Few.{items}
use Rattle.relation.specs.Stored.{meant}
use Rattle.collect.specs.Collects.{counted}
use Rattle.register.specs.declared.entries.Mark.{Mark}
use Rattle.register.specs.declared.entries.Mark.TheVariants.{Draft, Published}
use Rattle.register.specs.declared.store.Store.{Store}
use Rattle.register.specs.Layout.{Part, part_of, parts, named, total, capacity, is_draft, is_published, Blanks, Sound, Only, free}

-- what a name, held as a number, stands for
abbrev pub held : Store → ℕ → Option Part
held s = named (parts s.directory.entries s.rows.now)

-- how many rows are in use, and how many there are
abbrev pub used : Store → ℕ
used s = total s.directory.entries

abbrev pub rows_of : Store → ℕ
rows_of s = capacity s.rows.now

abbrev pub Whole : Store → Type 0
Whole s = Sound s.directory.entries s.rows.now

-- the name and the mark at a place of the directory
abbrev pub code_at : Store → ℕ → ℕ
code_at s i = (slice_index_or s.directory.entries i free).name.code

abbrev pub mark_at : Store → ℕ → Mark
mark_at s i = (slice_index_or s.directory.entries i free).mark

-- what the rows of the entry there mean
abbrev pub rows_at : Store → ℕ → List SpecRow
rows_at s i =
    let e = slice_index_or s.directory.entries i free in
    part_of (items e.kinds) (total (take i s.directory.entries)) e.count s.rows.now

-- ---- what is known of a name

abbrev pub is_there : Option Part → Bool
is_there None = false
is_there (Some p) = true

abbrev pub mark_of : Option Part → Option Mark
mark_of None = None
mark_of (Some p) = Some p.mark

abbrev pub drafted : Option Part → Bool
drafted None = false
drafted (Some p) = is_draft p.mark

abbrev pub published : Option Part → Bool
published None = false
published (Some p) = is_published p.mark

abbrev pub kinds_of : Option Part → List Kind
kinds_of None = []
kinds_of (Some p) = p.kinds

abbrev pub part_rows : Option Part → List SpecRow
part_rows None = []
part_rows (Some p) = p.rows

abbrev pub size_of : Option Part → ℕ
size_of o = length (part_rows o)

-- ---- what a name stands for after a call

-- a relation that is begun
abbrev pub opened : ℕ → List Kind → Part
opened n kinds = record { name = n; mark = Draft; kinds = kinds; rows = [] }

-- one row more
abbrev pub added : Row → Option Part → Option Part
added row None = None
added row (Some p) = Some (record { name = p.name; mark = p.mark; kinds = p.kinds; rows = p.rows ++ meant (length p.kinds) row ∷ [] })

-- published, with these rows
abbrev pub issued : List SpecRow → Option Part → Option Part
issued rows None = None
issued rows (Some p) = Some (record { name = p.name; mark = Published; kinds = p.kinds; rows = rows })

-- ---- what a call leaves

-- the named thing and no other is changed; how many rows are in use; the others are blank; the rows beyond those that count are untouched
pub record Leaves (s t : Store) (n : ℕ) (o : Option Part) : Type 0 where
  pub only : Only (held s) (held t) n o
  pub usage : used t + size_of (held s n) ≡ used s + size_of o
  pub rest : Blanks t.directory.entries t.rows.now
  pub long : length t.rows.now ≡ length s.rows.now
  pub past : drop most_stored t.rows.now ≡ drop most_stored s.rows.now

pub record Drafted (s t : Store) (n : ℕ) (kinds : List Kind) : Type 0 where
  pub leaves : Leaves s t n (Some (opened n kinds))

-- with the number of rows that is answered
pub record Put (s t : Store) (n : ℕ) (row : Row) (k : ℕ) : Type 0 where
  pub draft : drafted (held s n) ≡ true
  pub leaves : Leaves s t n (added row (held s n))
  pub size : k ≡ size_of (held t n)

-- the new rows are the canonical list of the old rows' sets
pub record Issued (s t : Store) (n k : ℕ) : Type 0 where
  pub list : List SpecRow
  pub lists : Lists list (on (part_rows (held s n)))
  pub leaves : Leaves s t n (issued list (held s n))
  pub size : k ≡ length list

-- the name stands for nothing, and its rows are free
pub record Removed (s t : Store) (n k : ℕ) : Type 0 where
  pub leaves : Leaves s t n None
  pub size : k ≡ size_of (held s n)

-- ---- work areas

-- the part of a work area that counts is blank, and the rest untouched
abbrev pub blanked : {X : Type 0} → X → List X → List X
blanked b area = replicate (counted area) b ++ drop (counted area) area
