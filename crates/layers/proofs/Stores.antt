-- Conditions and columns on a stored row.
use Rattle.std.proofs.Common.{◌≡◌, ℕ, zero, suc, ◌-◌, ◌<◌, ◌≤◌, Bool, true, false, cond, List, [], ◌∷◌, length, get_or, pos, is_some, Some, None, Option, refl, ap, ◌∙◌, ap₂, arith}
use Rattle.std.specs.List.{slice_get}
use Rattle.std.specs.Option.{MatchOption}
use Rattle.std.specs.Bool.{then_some}
use Rattle.std.proofs.lemmas.Bool.{false≢true}
use Rattle.relation.specs.declared.conditions.Condition.{Condition}
use Rattle.relation.specs.declared.conditions.Term.{Term}
use Rattle.relation.specs.declared.conditions.Term.TheVariants.{Number, Word, Column}
use Rattle.relation.specs.declared.kinds.Kind.{Kind}
use Rattle.relation.specs.declared.rows.Row.{Row}
use Rattle.relation.specs.Bounds.{most_columns}
use Rattle.relation.specs.Sets.{Tuple, column}
use Rattle.relation.specs.Rows.{SpecRow}
use Rattle.relation.specs.Stored.{firsts, stored}
use Rattle.relation.specs.Operations.{compares, valued, meets}
use Rattle.source.specs.Meaning.{Meaning, Sound, cell, row?, row_of}
use Rattle.layers.specs.Alike.{alike}
use Rattle.layers.specs.Selects.{kept, selected, term_kind, no_select}
use Rattle.layers.specs.Soundness.{passed}

pub get_d_firsts : {X : Type 0} (n : ℕ) (xs : List X) (d : X) (i : ℕ) → i < n → get_or (firsts n xs d) i d ≡ get_or xs i d
get_d_firsts zero xs d i h = absurd (omega arith)
get_d_firsts (suc n) [] d zero h = refl
get_d_firsts (suc n) [] d (suc i) h = get_d_firsts n [] d i (omega arith)
get_d_firsts (suc n) (x ∷ xs) d zero h = refl
get_d_firsts (suc n) (x ∷ xs) d (suc i) h = get_d_firsts n xs d i (omega arith)

pub column_stored : (c : ℕ) (t : Tuple) → c ≤ most_columns → column c (firsts most_columns t (pos 0)) ≡ column c t
column_stored c t h = get_d_firsts most_columns t (pos 0) (c - 1) (omega arith)

-- ---- a condition

-- a row has room for the column
abbrev pub InRow : ℕ → Type 0
InRow c = (1 ≤ c) × (c ≤ most_columns)

-- a row has room for the columns that a term or a condition names
abbrev pub TermInRow : Term → Type 0
TermInRow (Number z) = Unit {0}
TermInRow (Word z) = Unit {0}
TermInRow (Column c) = InRow c

abbrev pub NamesInRow : Condition → Type 0
NamesInRow q = InRow q.column × TermInRow q.term

valued_stored : (o : Term) (t : Tuple) → TermInRow o → valued o (firsts most_columns t (pos 0)) ≡ valued o t
valued_stored (Number z) t h = refl
valued_stored (Word z) t h = refl
valued_stored (Column c) t h = column_stored c t h.1

meets_stored : (q : Condition) (t : Tuple) → NamesInRow q → meets q (firsts most_columns t (pos 0)) ≡ meets q t
meets_stored q t h = ap₂ (compares q.sign) (column_stored q.column t h.0.1) (valued_stored q.term t h.1)

kept_stored : (q : Condition) (o : Option SpecRow) (w : Row) (b : Bool) → NamesInRow q → Some w ≡ row? o → b ≡ meets q w.values → then_some b w ≡ row? (kept q o)
kept_stored q None w b h e t = let z : ◌≡◌ {A = ℕ} 0 1 = cc in absurd (omega arith)
kept_stored q (Some r) w b h e t =
    let same : w ≡ stored r = cc in
    ap₂ then_some (t ∙ ap (λ (v : Row). meets q v.values) same ∙ meets_stored q r.tuple h) same ∙ step (meets q r.tuple)
  where
    step : (b : Bool) → then_some b (stored r) ≡ row? (cond b (Some r) None)
    step true = refl
    step false = refl

-- what is kept is as it was
pub kept_whole : (q : Condition) (o : Option SpecRow) (w : Row) → Some w ≡ row? (kept q o) → kept q o ≡ o
kept_whole q None w h = refl
kept_whole q (Some r) w h = step (meets q r.tuple) h
  where
    step : (b : Bool) → Some w ≡ row? (cond b (Some r) None) → cond b (Some r) None ≡ Some r
    step true e = refl
    step false e = let z : ◌≡◌ {A = ℕ} 0 1 = cc in absurd (omega arith)

slice_some : {X : Type 0} (xs : List X) (i : ℕ) → is_some (slice_get xs i) ≡ true → i < length xs
slice_some [] i h = absurd (false≢true h)
slice_some (x ∷ xs) zero h = omega arith
slice_some (x ∷ xs) (suc i) h = let t = slice_some xs i h in omega arith

cell_some : {X : Type 0} (xs : List X) (c : ℕ) → is_some (cell xs c) ≡ true → (1 ≤ c) × (c ≤ length xs)
cell_some xs zero h = absurd (false≢true h)
cell_some xs (suc c) h = let t = slice_some xs c h in (omega arith, omega arith)

alike_some : (o p : Option Kind) → alike o p ≡ true → (is_some o ≡ true) × (is_some p ≡ true)
alike_some None p h = absurd (false≢true h)
alike_some (Some k) None h = absurd (false≢true h)
alike_some (Some k) (Some l) h = (refl, refl)

term_in_row : (m : Meaning) (o : Term) → Sound m → is_some (term_kind m o) ≡ true → TermInRow o
term_in_row m (Number z) s h = tt
term_in_row m (Word z) s h = tt
term_in_row m (Column c) s h = let t = cell_some m.kinds c h in (t.0, omega (arith, t.1, s.few_kinds))

-- the columns of a condition that is not refused
pub names_in_row : (m : Meaning) (q : Condition) → Sound m → no_select m q ≡ None → NamesInRow q
names_in_row m q s allowed =
    let there = alike_some (cell m.kinds q.column) (term_kind m q.term) (passed (alike (cell m.kinds q.column) (term_kind m q.term)) _ _ allowed).0 in
    let t = cell_some m.kinds q.column there.0 in
    ((t.0, omega (arith, t.1, s.few_kinds)), term_in_row m q.term s there.1)

none_kept : (q : Condition) (o : Option SpecRow) → None ≡ row? o → None ≡ row? (kept q o)
none_kept q None h = refl
none_kept q (Some r) h = let z : ◌≡◌ {A = ℕ} 0 1 = cc in absurd (omega arith)

-- the row of a place, kept or not
module _ (m : Meaning) (q : Condition) (sound : Sound m) (allowed : no_select m q ≡ None) (k : ℕ) (r : Option Row) (Tells : Row → Bool → Type 0) (told : (w : Row) (b : Bool) → Tells w b → b ≡ meets q w.values) where
  pub row_kept : (o : Option Row) → o ≡ row_of m k → MatchOption o (r ≡ None) (λ w. (b : Bool) × Tells w b × (r ≡ then_some b w)) → r ≡ row_of (selected m q) k
  row_kept None e none = none ∙ none_kept q (m.at k) e
  row_kept (Some w) e some = some.2 ∙ kept_stored q (m.at k) w some.0 (names_in_row m q sound allowed) e (told w some.0 some.1)
