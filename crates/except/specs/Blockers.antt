-- Blockers of a row: the rows of a source b with its tuple t. Only their days matter.
use Rattle.std.specs.Prelude.{ℕ, zero, suc, ◌+◌, ◌-◌, min, Bool, false, cond, ◌&&◌, ◌||◌, Some, None, Option, ◌==◌, nat_le, nat_lt}
use Rattle.relation.specs.Sets.{Tuple, equal}
use Rattle.relation.specs.Rows.{SpecRow}
use Rattle.source.specs.Meaning.{Meaning}
use Rattle.relation.specs.declared.days.Span.{Span}

abbrev pub span : SpecRow → Span
span r = record { first = r.first; end = r.end }

-- the row's days, if it has the tuple t
abbrev pub having : Tuple → Option SpecRow → Option Span
having t None = None
having t (Some s) = cond (equal s.tuple t) (Some (span s)) None

-- the days of the blocker at place p
abbrev pub blocker : Meaning → Tuple → ℕ → Option Span
blocker b t p = having t (b.at p)

-- the end of a blocker, if it lies after the first day and before the end of the row's days
abbrev pub within : Span → Option Span → Option ℕ
within r None = None
within r (Some s) = cond (nat_lt r.first s.end && nat_lt s.end r.end) (Some s.end) None

-- the candidate of place j of the row
abbrev pub candidate : Meaning → Tuple → Span → ℕ → Option ℕ
candidate b t r j = cond (j == 0) (Some r.first) (within r (blocker b t (j - 1)))

abbrev pub holds? : ℕ → Option Span → Bool
holds? d None = false
holds? d (Some s) = nat_le s.first d && nat_lt d s.end

-- a blocker below place n holds day d
abbrev pub blocked : Meaning → Tuple → ℕ → ℕ → Bool
blocked b t d zero = false
blocked b t d (suc n) = holds? d (blocker b t n) || blocked b t d n

abbrev pub is? : ℕ → Option ℕ → Bool
is? c None = false
is? c (Some d) = c == d

-- a place below j has the candidate c
abbrev pub repeated : Meaning → Tuple → Span → ℕ → ℕ → Bool
repeated b t r c zero = false
repeated b t r c (suc j) = is? c (candidate b t r j) || repeated b t r c j

-- the blocker's first day, if it lies after day d and before the day e; else e
abbrev pub sooner : ℕ → Option Span → ℕ → ℕ
sooner d None e = e
sooner d (Some s) e = cond (nat_lt d s.first) (min s.first e) e

-- the earliest first day after d of the blockers below place n, or e if that comes sooner
abbrev pub stop : Meaning → Tuple → ℕ → ℕ → ℕ → ℕ
stop b t d e zero = e
stop b t d e (suc n) = sooner d (blocker b t n) (stop b t d e n)

-- the piece of the row's days that begins on the candidate of place j: none if a blocker holds that day or a lower place has it
abbrev pub piece_from : Meaning → Tuple → Span → ℕ → Option ℕ → Option Span
piece_from b t r j None = None
piece_from b t r j (Some c) =
    cond (blocked b t c b.count || repeated b t r c j) None (Some (record { first = c; end = stop b t c r.end b.count }))

-- piece j of the row's days
abbrev pub piece : Meaning → Tuple → Span → ℕ → Option Span
piece b t r j = piece_from b t r j (candidate b t r j)

-- ---- the same by one scan over the blockers

-- the blocker holds day c, or ends on c and is of a lower piece
abbrev pub bars? : ℕ → Bool → Option Span → Bool
bars? c lower None = false
bars? c lower (Some s) = holds? c (Some s) || (lower && s.end == c)

-- a blocker below place n holds day c, or ends on c and is of a piece lower than j: place p is of piece p + 1
abbrev pub barred : Meaning → Tuple → ℕ → ℕ → ℕ → Bool
barred b t c j zero = false
barred b t c j (suc n) = bars? c (nat_lt (n + 1) j) (blocker b t n) || barred b t c j n

-- the end of the piece from day c on, at e at the latest; none if c is barred
abbrev pub scanned : Meaning → Tuple → ℕ → ℕ → ℕ → Option ℕ
scanned b t c e j = cond (barred b t c j b.count) None (Some (stop b t c e b.count))
