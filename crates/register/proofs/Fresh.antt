-- What a new store is.
use Rattle.std.specs.List.{list_all}
use Rattle.std.proofs.Common.{◌≡◌, ℕ, zero, suc, ◌<◌, ◌≤◌, true, false, List, ◌++◌, length, get_or, take, drop, replicate, Some, None, sym, refl, ap, ◌∙◌, subst, arith, rules}
use Rattle.std.proofs.lemmas.List.{places, same_lists, length-take}
use Rattle.std.proofs.lemmas.Bool.{both_ways, cond-false, and_from}
use Rattle.relation.specs.declared.rows.Row.{Row}
use Rattle.register.specs.declared.entries.Entry.{Entry}
use Rattle.register.specs.declared.entries.Mark.TheVariants.{Free}
use Rattle.relation.specs.Bounds.{most_entries}
use Rattle.relation.specs.Stored.{blank_row}
use Rattle.register.specs.Layout.{entry_part, parts, named, total, bearing, rivals, free, is_blank, good_part, capacity, Vacant, EachVacant, Sound}
use Rattle.register.proofs.Storage.{total_cons}
use Rattle.register.proofs.Naming.{vacant_bears}
use Rattle.register.proofs.Changes.{vacant_good}

pub idle : (n k : ℕ) (e : Entry) → Vacant e → ((get_or (replicate n e) k free).mark ≡ Free) × ((get_or (replicate n e) k free).count ≡ 0)
idle zero k e v = (refl, refl)
idle (suc n) zero e v = (v.mark, v.count)
idle (suc n) (suc k) e v = idle n k e v

nothing_in : (n m : ℕ) (e : Entry) (rs : List Row) → Vacant e → named (parts (replicate n e) rs) m ≡ None
nothing_in zero m e rs v = refl
nothing_in (suc n) m e rs v =
    let p = entry_part e (take e.count rs) in
    cond-false (bearing p m) (Some p) (named (parts (replicate n e) (drop e.count rs)) m) (vacant_bears e m v) ∙ nothing_in n m e (drop e.count rs) v

pub nothing : (es : List Entry) (m : ℕ) (rs : List Row) → EachVacant es → named (parts es rs) m ≡ None
nothing es m rs v = ap (λ x. named (parts x rs) m) v.2 ∙ nothing_in most_entries m v.0 rs v.1

no_rows_in : (n : ℕ) (e : Entry) → Vacant e → total (replicate n e) ≡ 0
no_rows_in zero e v = refl
no_rows_in (suc n) e v = omega (arith, total_cons e (replicate n e), no_rows_in n e v, v.count)

pub no_rows : (es : List Entry) → EachVacant es → total es ≡ 0
no_rows es v = ap total v.2 ∙ no_rows_in most_entries v.0 v.1

no_rivals : (e f : Entry) → e.mark ≡ Free → rivals e f ≡ false
no_rivals e f h = subst (λ m. rivals (record { name = e.name; mark = m; kinds = e.kinds; count = e.count }) f ≡ false) (sym h) refl

abbrev pub wiped : List Row → ℕ → List Row
wiped rs n = replicate n blank_row ++ drop n rs

pub wiped_by : (rs part : List Row) (n : ℕ) (b : Row) → part ≡ replicate (length (take n rs)) b → n ≤ length rs → b ≡ blank_row → part ++ drop n rs ≡ wiped rs n
wiped_by rs part n b filled h e =
    let l : length (take n rs) ≡ n = simp length-take (omega arith) in
    ap (λ p. p ++ drop n rs) (filled ∙ (λ j. replicate (l j) (e j)))

module _ (rs : List Row) (n : ℕ) (h : n ≤ length rs) where
  pub wiped_length : length (wiped rs n) ≡ length rs
  wiped_length = search (rules, places)

  pub wiped_past : (m : ℕ) → n ≤ m → drop m (wiped rs n) ≡ drop m rs
  wiped_past m l = same_lists _ _ (search (rules, places)) (λ k d g. grind (arith, places))

  pub wiped_at : (k : ℕ) → k < n → get_or (wiped rs n) k blank_row ≡ blank_row
  wiped_at k l = grind (arith, places)

pub all_good : (n : ℕ) (e : Entry) (rs : List Row) → Vacant e → list_all good_part (parts (replicate n e) rs) ≡ true
all_good zero e rs v = refl
all_good (suc n) e rs v =
    and_from (good_part (entry_part e (take e.count rs))) (list_all good_part (parts (replicate n e) (drop e.count rs))) (vacant_good e (take e.count rs) v) (all_good n e (drop e.count rs) v)

fresh_is : (rs : List Row) (n : ℕ) (e : Entry) → n ≡ capacity rs → Vacant e → Sound (replicate most_entries e) (wiped rs n)
fresh_is rs n e c v =
    let es = replicate most_entries e in
    let z = no_rows_in most_entries e v in
    record {
      all = refl;
      room = omega (arith, z);
      blanks = λ k lo hi. ap is_blank (wiped_at rs n (omega arith) k (omega (arith, wiped_length rs n (omega arith))));
      apart = λ j k r. absurd (both_ways (rivals (get_or (replicate most_entries e) j free) (get_or (replicate most_entries e) k free)) (no_rivals (get_or (replicate most_entries e) j free) (get_or (replicate most_entries e) k free) (idle most_entries j e v).0) r);
      empty = λ k _. (idle most_entries k e v).1;
      fitting = all_good most_entries e (wiped rs n) v;
    }

pub fresh_sound : (rs rs' : List Row) (es : List Entry) (n : ℕ) → n ≡ capacity rs → rs' ≡ wiped rs n → EachVacant es → Sound es rs'
fresh_sound rs rs' es n c p v = subst (λ x. Sound x rs') (sym v.2) (subst (λ x. Sound (replicate most_entries v.0) x) (sym p) (fresh_is rs n v.0 c v.1))
