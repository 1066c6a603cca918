-- As many rows as count, taken in one after the other.
use Rattle.std.proofs.Common.{◌≡◌, ℕ, zero, suc, Bool, true, false, cond, ◌+◌, ◌≤◌, List, [], ◌∷◌, ◌++◌, length, take, length-append, Ok, Err, Result, sym, refl, ap, ◌∙◌, append_assoc, arith}
use Rattle.std.proofs.lemmas.List.{take_all, take-append-le, length-take}
use Rattle.std.proofs.lemmas.Bool.{false≢true}
use Rattle.std.specs.Result.{IsErr}
use Rattle.relation.specs.declared.rows.Row.{Row}
use Rattle.relation.specs.declared.refusals.Reason.{Reason}
use Rattle.relation.specs.declared.kinds.Kind.{Kind}
use Rattle.words.specs.Words.{words}
use Rattle.words.specs.Rest.{texts}
use Rattle.takers.specs.Take.{is_blank}
use Rattle.lists.specs.ListFiles.{read, row_in, rows_in}

-- what is cut off early is cut off at the end too
pub take_early : {X : Type 0} (n : ℕ) (xs ys : List X) → take n (take n xs ++ ys) ≡ take n (xs ++ ys)
take_early zero xs ys = refl
take_early (suc n) [] ys = refl
take_early (suc n) (x ∷ xs) ys = ap (λ zs. x ∷ zs) (take_early n xs ys)

pub take_more : {X : Type 0} (n : ℕ) (xs ys zs : List X) → take n (take n (xs ++ ys) ++ zs) ≡ take n (xs ++ (ys ++ zs))
take_more n xs ys zs = take_early n (xs ++ ys) zs ∙ ap (take n) (append_assoc xs ys zs)

-- where nothing more fits, nothing more is taken
pub take_full : {X : Type 0} (n : ℕ) (xs ys : List X) → length xs ≡ n → take n (xs ++ ys) ≡ xs
take_full n xs ys e = take-append-le n xs ys (omega arith) ∙ take_all n xs (omega arith)

-- a line that says nothing, and one that says a row or none
module _ {X : Type 0} (n : ℕ) (items rest all : List X) where
  pub passed : (b : Bool) (more : List X) → b ≡ true → take n (items ++ cond b rest (more ++ rest)) ≡ all → take n (items ++ rest) ≡ all
  passed true more e h = h
  passed false more e h = absurd (false≢true e)

  pub taken : (b : Bool) (more items' : List X) → b ≡ false → items' ≡ take n (items ++ more) → take n (items ++ cond b rest (more ++ rest)) ≡ all → take n (items' ++ rest) ≡ all
  taken true more items' e is h = absurd (false≢true (sym e))
  taken false more items' e is h = ap (λ xs. take n (xs ++ rest)) is ∙ take_more n items more rest ∙ h

-- what fits is taken whole
pub taken_in : {X : Type 0} (n : ℕ) (xs ys zs : List X) → ys ≡ zs → length xs + length ys ≤ n → xs ++ ys ≡ take n (xs ++ zs)
taken_in n xs ys zs e h = sym (take_all n (xs ++ ys) (omega (arith, length-append xs ys))) ∙ ap (λ l. take n (xs ++ l)) e

-- a line that is refused says no row
pub refused : (r : Result Row Reason) → IsErr r → read r ≡ []
refused (Ok row) h = absurd (false≢true h)
refused (Err e) h = refl

pub few_taken : {X : Type 0} (n : ℕ) (xs ys : List X) → ys ≡ take n xs → length ys ≤ n
few_taken n xs ys e = omega (arith, ap length e, length-take n xs)

-- the rows after a line that is read
module _ (n : ℕ) (kinds : List Kind) (rows rows' : List Row) (before after : List (List ℕ)) (line : List ℕ) (all : List Row) where
  pub line_read : before ≡ line ∷ after → is_blank (texts (words line)) ≡ false → rows' ≡ take n (rows ++ row_in kinds line) → take n (rows ++ rows_in kinds before) ≡ all → take n (rows' ++ rows_in kinds after) ≡ all
  line_read e says is h = taken n rows (rows_in kinds after) all (is_blank (texts (words line))) (row_in kinds line) rows' says is (sym (ap (λ ls. take n (rows ++ rows_in kinds ls)) e) ∙ h)
