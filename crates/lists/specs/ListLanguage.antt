-- The lines of a list as they are written, what they say, and what is wrong with a line that is refused.
use Rattle.std.specs.Prelude.{◌≡◌, ◌≤◌, ◌↔◌, List, [], ◌∷◌, length, ℤ, pos, IfErr, Ok, Result}
use Rattle.std.specs.List.{AllByRecursion as AllOf}
use Rattle.relation.specs.declared.kinds.Kind.{Kind}
use Rattle.relation.specs.declared.kinds.Kind.TheVariants as kind
use Rattle.relation.specs.declared.rows.Row.{Row}
use Rattle.relation.specs.declared.refusals.Reason.{Reason}
use Rattle.relation.specs.declared.refusals.Reason.TheVariants as reason
use Rattle.relation.specs.Bounds.{most_columns}
use Rattle.relation.specs.Rows.{SpecRow, Period}
use Rattle.relation.specs.Stored.{stored}
use Rattle.relation.specs.Values.{Number, word}
use Rattle.takers.specs.Take.{Text, Val, number_val, word_val}
use Rattle.takers.specs.Writing.{WritesNumber, Name, WritesValues, WritesKinds}

-- ---- the header

-- the words are a name and kinds
abbrev pub WritesHeader : List Text → Text → List Kind → Type 0
WritesHeader ws n ks = (w : Text) × (ws ≡ n ∷ w ∷ []) × WritesKinds w ks

abbrev pub HeaderSays : List Text → Text × List Kind → Type 0
HeaderSays ws h = WritesHeader ws h.0 h.1 × Name h.0 × (length h.1 ≤ most_columns)

abbrev pub HeaderRefused : List Text → Reason → Type 0
HeaderRefused ws reason.Form = (n : Text) (ks : List Kind) → WritesHeader ws n ks → ⊥
HeaderRefused ws reason.Name = (n : Text) × (ks : List Kind) × WritesHeader ws n ks × (Name n → ⊥)
HeaderRefused ws reason.Misfit = (n : Text) × (ks : List Kind) × WritesHeader ws n ks × Name n × (length ks ≤ most_columns → ⊥)
HeaderRefused ws reason.ScriptSize = ⊥
HeaderRefused ws reason.NoPeriod = ⊥
HeaderRefused ws reason.OutOfBounds = ⊥
HeaderRefused ws reason.NoEntry = ⊥
HeaderRefused ws reason.ShortWork = ⊥
HeaderRefused ws reason.NoRow = ⊥
HeaderRefused ws reason.SumOutside = ⊥
HeaderRefused ws reason.UnusedValue = ⊥
HeaderRefused ws reason.ShortOutput = ⊥
HeaderRefused ws reason.TooManyPlaces = ⊥
HeaderRefused ws reason.SlipMisfit = ⊥

-- r is what the words say, and the reason why they say nothing
abbrev pub ReadsHeader : List Text → Result (Text × List Kind) Reason → Type 0
ReadsHeader ws r = ((h : Text × List Kind) → HeaderSays ws h ↔ (r ≡ Ok h)) × IfErr r (HeaderRefused ws)

-- ---- a row

-- the words are two numbers and one value or more
abbrev pub WritesRow : List Text → ℤ → ℤ → List Val → Type 0
WritesRow ws f u vs =
    (x : Text) × (y : Text) × (ts : List Text) × (ws ≡ x ∷ y ∷ ts) × WritesNumber x f × WritesNumber y u × (1 ≤ length vs) × WritesValues ts vs

-- the number that a value of the kind is held as
abbrev pub HeldAs : Kind → Val → ℤ → Type 0
HeldAs kind.Number (number_val z) n = n ≡ z
HeldAs kind.Number (word_val q) n = ⊥
HeldAs kind.Word (number_val z) n = ⊥
HeldAs kind.Word (word_val q) n = n ≡ pos (word q)

-- a value for each kind, held as the numbers of the tuple
abbrev pub Held : List Kind → List Val → List ℤ → Type 0
Held [] [] [] = Unit {0}
Held [] [] (z ∷ zs) = ⊥
Held [] (v ∷ vs) zs = ⊥
Held (k ∷ ks) [] zs = ⊥
Held (k ∷ ks) (v ∷ vs) [] = ⊥
Held (k ∷ ks) (v ∷ vs) (z ∷ zs) = HeldAs k v z × Held ks vs zs

-- the values fit the kinds, of which there are six at most
abbrev pub Fits : List Kind → List Val → List ℤ → Type 0
Fits ks vs zs = (length ks ≤ most_columns) × Held ks vs zs

-- a number lies in the kind of numbers
abbrev pub InBounds : Val → Type 0
InBounds (number_val z) = Number z
InBounds (word_val q) = Unit {0}

abbrev pub RowSays : List Kind → List Text → Row → Type 0
RowSays ks ws row =
    (r : SpecRow) × (vs : List Val) × WritesRow ws (pos r.first) (pos r.end) vs × Fits ks vs r.tuple × Period r × AllOf InBounds vs × (stored r ≡ row)

abbrev pub RowRefused : List Kind → List Text → Reason → Type 0
RowRefused ks ws reason.Form = (f u : ℤ) (vs : List Val) → WritesRow ws f u vs → ⊥
RowRefused ks ws reason.Misfit = (f : ℤ) × (u : ℤ) × (vs : List Val) × WritesRow ws f u vs × ((zs : List ℤ) → Fits ks vs zs → ⊥)
RowRefused ks ws reason.NoPeriod =
    (f : ℤ) × (u : ℤ) × (vs : List Val) × (zs : List ℤ) × WritesRow ws f u vs × Fits ks vs zs × ((r : SpecRow) → pos r.first ≡ f → pos r.end ≡ u → Period r → ⊥)
RowRefused ks ws reason.OutOfBounds =
    (r : SpecRow) × (vs : List Val) × WritesRow ws (pos r.first) (pos r.end) vs × Fits ks vs r.tuple × Period r × (AllOf InBounds vs → ⊥)
RowRefused ks ws reason.Name = ⊥
RowRefused ks ws reason.ScriptSize = ⊥
RowRefused ks ws reason.NoEntry = ⊥
RowRefused ks ws reason.ShortWork = ⊥
RowRefused ks ws reason.NoRow = ⊥
RowRefused ks ws reason.SumOutside = ⊥
RowRefused ks ws reason.UnusedValue = ⊥
RowRefused ks ws reason.ShortOutput = ⊥
RowRefused ks ws reason.TooManyPlaces = ⊥
RowRefused ks ws reason.SlipMisfit = ⊥

-- r is the row that the words say, and the reason why they say none
abbrev pub ReadsRow : List Kind → List Text → Result Row Reason → Type 0
ReadsRow ks ws r = ((row : Row) → RowSays ks ws row ↔ (r ≡ Ok row)) × IfErr r (RowRefused ks ws)
