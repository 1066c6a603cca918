-- The rows of a source's filled places, as they are stored at the start of an area.
use Rattle.std.proofs.Common.{◌≡◌, ℕ, zero, suc, ◌+◌, ◌-◌, ◌<◌, ◌≤◌, List, [], ◌∷◌, ◌++◌, map, length, get_or, take, drop, pos, Some, None, Option, sym, refl, ap, ◌∙◌, subst, arith}
use lib.ListN.{length-map}
use Rattle.std.specs.List.{AllByRecursion as AllOf}
use Rattle.std.proofs.ByRecursion.{All-get_or, All-append, All-map, All-weaker}
use Rattle.std.proofs.lemmas.List.{get_or-take, take-take, drop-drop}
use Rattle.relation.specs.declared.rows.Row.{Row}
use Rattle.relation.specs.Bounds.{most_columns}
use Rattle.relation.specs.Rows.{SpecRow, Period}
use Rattle.relation.specs.Stored.{firsts, meant, stored}
use Rattle.relation.proofs.Firsts.{firsts_cut, firsts_all}
use Rattle.source.specs.Meaning.{Meaning, Sound, filled?, rows_below, rows_of}
use Rattle.source.proofs.Cells.{fits_length}
use Rattle.collect.specs.Areas.{no_row, bare, Tidy}
use Rattle.collect.proofs.Written.{take_front, drop_front}

-- ---- rows of c columns

abbrev Fitted : ℕ → SpecRow → Type 0
Fitted c x = (length x.tuple ≡ c) × Period x

columns : (c : ℕ) (x : SpecRow) → c ≤ most_columns → length x.tuple ≡ c → firsts c (firsts most_columns x.tuple (pos 0)) (pos 0) ≡ x.tuple
columns c x few e = firsts_cut c most_columns x.tuple (pos 0) few ∙ ap (λ k. firsts k x.tuple (pos 0)) (sym e) ∙ firsts_all x.tuple (pos 0)

tidy_stored : (c : ℕ) (x : SpecRow) → c ≤ most_columns → length x.tuple ≡ c → Tidy c (stored x)
tidy_stored c x few e = ap (λ t. firsts most_columns t (pos 0)) (sym (columns c x few e))

pub meant_stored : (c : ℕ) (x : SpecRow) → c ≤ most_columns → length x.tuple ≡ c → meant c (stored x) ≡ x
meant_stored c x few e = λ i. record { tuple = columns c x few e i; first = x.first; end = x.end }

meant_all : (c : ℕ) (xs : List SpecRow) → c ≤ most_columns → AllOf (Fitted c) xs → map (meant c) (map stored xs) ≡ xs
meant_all c [] few h = refl
meant_all c (x ∷ xs) few h = λ i. meant_stored c x few h.0.0 i ∷ meant_all c xs few h.1 i

-- ---- the rows of a source

one_fitted : (m : Meaning) → Sound m → (k : ℕ) (o : Option SpecRow) → m.at k ≡ o → AllOf (Fitted (length m.kinds)) (filled? o)
one_fitted m s k None e = tt
one_fitted m s k (Some r) e = ((fits_length m.kinds r.tuple (s.filled k r e).fitting, (s.filled k r e).period), tt)

fitted : (m : Meaning) → Sound m → (n : ℕ) → AllOf (Fitted (length m.kinds)) (rows_below m n)
fitted m s zero = tt
fitted m s (suc n) = All-append (Fitted (length m.kinds)) (rows_below m n) (filled? (m.at n)) (fitted m s n) (one_fitted m s n (m.at n) refl)

-- ---- the rows loaded, of which the part up to e is lent

module _ (m : Meaning) (s : Sound m) (entry rows : List Row) (is : rows ≡ map stored (rows_of m) ++ drop (length (rows_of m)) entry) (n e : ℕ) (all : n ≡ length (rows_of m)) (le : n ≤ e) where
  abbrev c : ℕ
  c = length m.kinds

  abbrev xs : List SpecRow
  xs = rows_of m

  size : length (map stored xs) ≡ n
  size = length-map xs stored ∙ sym all

  front : take n (take e rows) ≡ map stored xs
  front = take-take n e rows (omega arith) ∙ ap (take n) is ∙ take_front n (map stored xs) (drop (length xs) entry) size

  pub loaded_tidy : AllOf (Tidy c) (take n (take e rows))
  loaded_tidy = subst (AllOf (Tidy c)) (sym front) (All-map (Tidy c) stored xs (All-weaker (Fitted c) (λ x. Tidy c (stored x)) (λ x f. tidy_stored c x s.few_kinds f.0) xs (fitted m s m.count)))

  pub loaded_means : map (meant c) (take n (take e rows)) ≡ xs
  loaded_means = ap (map (meant c)) front ∙ meant_all c xs s.few_kinds (fitted m s m.count)

  pub loaded_periods : (i : ℕ) → i < n → Period (bare (get_or (take e rows) i no_row))
  loaded_periods i lt =
      let h : AllOf (λ w. Period (bare w)) (map stored xs) = All-map (λ w. Period (bare w)) stored xs (All-weaker (Fitted c) Period (λ x f. f.1) xs (fitted m s m.count)) in
      subst (λ w. Period (bare w)) (ap (λ ws. get_or ws i no_row) (sym front) ∙ get_or-take n (take e rows) i no_row lt) (All-get_or (λ w. Period (bare w)) (map stored xs) i no_row (omega (arith, size)) h)

  pub loaded_rest : drop e rows ≡ drop e entry
  loaded_rest =
      let split : e ≡ n + (e - n) = omega arith in
      ap (λ k. drop k rows) split
      ∙ sym (drop-drop (e - n) n rows)
      ∙ ap (drop (e - n)) (ap (drop n) is ∙ drop_front n (map stored xs) (drop (length xs) entry) size ∙ ap (λ k. drop k entry) (sym all))
      ∙ drop-drop (e - n) n entry
      ∙ ap (λ k. drop k entry) (sym split)
