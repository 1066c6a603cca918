-- The row at a place of an except is the left row with the days of a piece.
use Rattle.std.proofs.Common.{◌≡◌, ℕ, ◌+◌, ◌/◌, ◌%◌, length, take, Some, None, Option, sym, refl, ap, ◌∙◌, arith}
use Rattle.relation.specs.declared.rows.Row.{Row}
use Rattle.relation.specs.Rows.{SpecRow}
use Rattle.relation.specs.Stored.{stored}
use Rattle.source.specs.Meaning.{Meaning, Sound, row?, row_of}
use Rattle.source.proofs.Cells.{fits_length}
use Rattle.relation.specs.declared.days.Span.{Span}
use Rattle.relation.specs.Days.{days_of}
use Rattle.except.specs.Blockers.{span, piece}
use Rattle.except.specs.Excepts.{dated, pieced, excepted}
use Rattle.except.proofs.Tupled.{tuple_of}

-- the row w on other days, if there are any
abbrev pub on_days : Row → Option Span → Option Row
on_days w None = None
on_days w (Some s) = Some (record { first = s.first; end = s.end; values = w.values })

stored_days : (r : SpecRow) (o : Option Span) → row? (dated r.tuple o) ≡ on_days (stored r) o
stored_days r None = refl
stored_days r (Some s) = refl

module _ (a b : Meaning) (sa : Sound a) (columns : ℕ) (wide : columns ≡ length a.kinds) (w : Row) where
  abbrev held : Row → ℕ → Option Row
  held v j = on_days v (piece b (take columns v.values) (days_of v) j)

  at_row : (i j : ℕ) (o : Option SpecRow) → a.at i ≡ o → row? o ≡ Some w → row? (pieced b o j) ≡ held w j
  at_row i j None at e = let z : ◌≡◌ {A = ℕ} 0 1 = cc in absurd (omega arith)
  at_row i j (Some r) at e =
      let is : stored r ≡ w = cc in
      let size : length r.tuple ≡ columns = fits_length a.kinds r.tuple (sa.filled i r at).fitting ∙ sym wide in
      stored_days r (piece b r.tuple (span r) j)
      ∙ ap (λ t. on_days (stored r) (piece b t (span r) j)) (sym (tuple_of r columns size (omega (arith, sa.few_kinds))))
      ∙ ap (λ v. held v j) is

  -- a left row has as many places as that
  pub held_is : (k width : ℕ) (o : Option Span) → width ≡ b.count + 1 → row_of a (k / width) ≡ Some w → piece b (take columns w.values) (days_of w) (k % width) ≡ o → row_of (excepted a b) k ≡ on_days w o
  held_is k width o places e p =
      ap (λ m. row? (pieced b (a.at (k / m)) (k % m))) (sym places) ∙ at_row (k / width) (k % width) (a.at (k / width)) refl e ∙ ap (on_days w) p
