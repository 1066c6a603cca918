-- The call: when it is refused, and what it leaves in the whole areas.
use Rattle.std.proofs.Common.{◌≡◌, ℕ, ◌*◌, ◌<◌, ◌≤◌, Bool, true, false, cond, not, leb, ltb, ◌⊎◌, List, ◌++◌, length, take, drop, replicate, Some, None, Ok, Err, Option, Result, sym, refl, ap, ◌∙◌, ap₂, inl, inr, arith}
use native.Mathlib.Nat.{sub-zero}
use borrow.Rule.Slice.PartMut.{post_of, Post-is}
use Rattle.std.proofs.lemmas.List.{length-take-le}
use Rattle.std.proofs.lemmas.Bool.{and_from, and_left, and_right, le-leb, lt-leb, le-ltb, cases_lt}
use Rattle.std.proofs.lemmas.Result.{err_from_is_err_and}
use Rattle.std.specs.Option.{ok_or}
use Rattle.std.specs.Result.{IsErrAnd}
use Rattle.relation.specs.Bounds.{most_columns}
use Rattle.relation.specs.declared.refusals.Reason.{Reason}
use Rattle.relation.specs.declared.refusals.Reason.TheVariants.{Misfit, ShortWork}
use Rattle.relation.specs.declared.refusals.Refusal.{Refusal}
use Rattle.relation.specs.declared.rows.Row.{Row}
use Rattle.relation.specs.Refusals.{plain, plain?}
use Rattle.relation.specs.Stored.{blank_row}
use Rattle.source.specs.Meaning.{Meaning, rows_of, day_set}
use Rattle.tree.specs.declared.Node.{Node}
use Rattle.tree.specs.Trees.{blank}
use Rattle.collect.specs.Collects.{counted, no_collect}
use Rattle.collect.proofs.Parts.{leaves}
use Rattle.collect.proofs.Written.{take_front, drop_front}
use Rattle.tallies.specs.declared.rules.Tally.{Tally}
use Rattle.tally.specs.Tallying.{fitting, roomy, no_tally, Tallies, TalliesSets}
use Rattle.tallies.specs.Tallies.{tally}

-- ---- refusals

pub collectable : (m : Meaning) (rows : List Row) (index : List Node) → length (rows_of m) ≤ counted rows → length (rows_of m) ≤ counted index → no_collect m rows index ≡ None
collectable m rows index p q = rw (le-leb (length (rows_of m)) (counted rows) p, le-leb (length (rows_of m)) (counted index) q)

pub not_refused : (q : Option Reason) (e : Refusal) → q ≡ None → plain? q ≡ Some e → ⊥
not_refused q e p h = let n : plain? q ≡ None = ap plain? p in let z : ◌≡◌ {A = ℕ} 0 1 = cc in omega arith

module _ (m : Meaning) (w : Tally) (by : List ℕ) (rows : List Row) (index : List Node) where
  abbrev reason : Bool → Bool → Option Reason
  reason f r = cond (not f) (Some Misfit) (cond (not r) (Some ShortWork) None)

  pub misfit : fitting m w by ≡ false → plain? (no_tally m w by rows index) ≡ Some (plain Misfit)
  misfit e = ap (λ f. plain? (reason f (roomy m rows index))) e

  -- what a `?` answers where there are too many columns
  pub too_many : {Y : Type 0} (o : Option Y) (f : Reason) (r : Result ℕ Refusal) → most_columns ≤ length by → o ≡ None → ◌≡◌ {A = Result Y Reason} (Err f) (ok_or o Misfit) → IsErrAnd r (λ e. e ≡ plain f) → Tallies (no_tally m w by rows index) w by (day_set m) rows index r rows index
  too_many {Y} o f r many none e h =
      let p = err_from_is_err_and r h in
      let s : ◌≡◌ {A = Result Y Reason} (Err f) (Err Misfit) = e ∙ ap (λ x. ok_or x Misfit) none in
      let t : f ≡ Misfit = cc in
      rw (p.1 ∙ ap Err (p.2 ∙ ap plain t)) (inl (misfit (and_left (ltb (length by) most_columns) _ (le-ltb (length by) most_columns many)), refl, refl))

  abbrev need : ℕ
  need = 3 * length (rows_of m)

  pub short : fitting m w by ≡ true → (need ≤ counted rows → need ≤ counted index → ⊥) → plain? (no_tally m w by rows index) ≡ Some (plain ShortWork)
  short e lack = ap₂ (λ f r. plain? (reason f r)) e (step (cases_lt (counted rows) need) (cases_lt (counted index) need))
    where
      step : (counted rows < need) ⊎ (need ≤ counted rows) → (counted index < need) ⊎ (need ≤ counted index) → roomy m rows index ≡ false
      step (inl l) q = and_left (leb need (counted rows)) (leb need (counted index)) (lt-leb need (counted rows) l)
      step (inr l) (inl k) = and_right (leb need (counted rows)) (leb need (counted index)) (lt-leb need (counted index) k)
      step (inr l) (inr k) = absurd (lack l k)

  pub allowed : fitting m w by ≡ true → need ≤ counted rows → need ≤ counted index → no_tally m w by rows index ≡ None
  allowed e p q = ap₂ reason e (and_from (leb need (counted rows)) (leb need (counted index)) (le-leb need (counted rows) p) (le-leb need (counted index) q))

-- ---- the part of an area that counts, lent and given back

module _ {X : Type 0} (xs part : List X) (e : ℕ) (all : e ≡ counted xs) (same : length part ≡ length (take e xs)) where
  pub part_size : length (take e xs) ≡ counted xs
  part_size = length-take-le e xs (omega arith) ∙ omega arith

  part_back : take (counted xs) (part ++ post_of 0 e xs) ≡ part
  part_back = take_front (counted xs) part (post_of 0 e xs) (same ∙ part_size)

  rest_kept : drop (counted xs) (part ++ post_of 0 e xs) ≡ drop (counted xs) xs
  rest_kept = drop_front (counted xs) part (post_of 0 e xs) (same ∙ part_size) ∙ ap (λ k. post_of 0 k xs) (sym (sub-zero e)) ∙ Post-is 0 e xs (omega arith) ∙ ap (λ k. drop k xs) all

module _ (m : Meaning) (w : Tally) (by : List ℕ) (rows part-rows : List Row) (index part-index : List Node) (re ie : ℕ) (p : re ≡ counted rows) (q : ie ≡ counted index)
    (sr : length part-rows ≡ length (take re rows)) (si : length part-index ≡ length (take ie index)) (none : no_tally m w by rows index ≡ None) where
  pub tallied_whole : (r : Result ℕ Refusal) → TalliesSets w by (day_set m) (length (take re rows)) (length (take ie index)) r part-rows part-index
      → Tallies (no_tally m w by rows index) w by (day_set m) rows index r (part-rows ++ post_of 0 re rows) (part-index ++ post_of 0 ie index)
  tallied_whole (Ok n) h = (none, h.0, leaves (λ d. tally w by (day_set m d)) rows rows part-rows index part-index re ie n p q refl refl sr si h.1)
  tallied_whole (Err e) h = inr (
    none,
    h.0,
    h.1,
    record {
      rows_blank = part_back rows part-rows re p sr ∙ h.2 ∙ ap (λ k. replicate k blank_row) (part_size rows part-rows re p sr);
      index_blank = part_back index part-index ie q si ∙ h.3 ∙ ap (λ k. replicate k blank) (part_size index part-index ie q si);
      rows_rest = rest_kept rows part-rows re p sr;
      index_rest = rest_kept index part-index ie q si;
    },
  )
