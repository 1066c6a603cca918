-- A scan from blocker to blocker sees all of them.
use Rattle.std.proofs.Common.{◌≡◌, ℕ, zero, suc, ◌+◌, ◌<◌, ◌≤◌, true, false, ◌||◌, ltb, [], ◌∷◌, Some, None, Decides, Option, sym, refl, ap, ◌∙◌, subst, ⊎_elim, add-one, arith}
use Rattle.std.proofs.lemmas.Bool.{cases_lt, cases_Bool, cond-false, or_from}
use Rattle.std.proofs.lemmas.Bool.Decides.{Decides-below_or}
use Rattle.relation.specs.Sets.{Tuple, equal}
use Rattle.relation.specs.Rows.{SpecRow}
use Rattle.relation.proofs.TupleSets.{equal_decides}
use Rattle.source.specs.Meaning.{Meaning, Begins, NoneLed}
use Rattle.except.specs.Blockers.{span, having, blocker, bars?, barred, sooner, stop}

begins_self : (t : Tuple) → Begins t t
begins_self [] = tt
begins_self (z ∷ zs) = (refl, begins_self zs)

none_having : (o : Option SpecRow) (t : Tuple) → ((w : SpecRow) → o ≡ Some w → Begins t w.tuple → ⊥) → having t o ≡ None
none_having None t h = refl
none_having (Some w) t h = ⊎_elim
    (λ e. absurd (h w refl (subst (Begins t) (sym ((equal_decides w.tuple t).0 e)) (begins_self t))))
    (λ e. cond-false (equal w.tuple t) (Some (span w)) None e)
    (cases_Bool (equal w.tuple t))

-- a value that stays at each place passed over
stays : {X : Type 0} (F : ℕ → X) (k r : ℕ) → k ≤ r → ((q : ℕ) → k ≤ q → q < r → F (suc q) ≡ F q) → F r ≡ F k
stays F k zero le h = let e : 0 ≡ k = omega arith in ap F e
stays F k (suc r) le h = ⊎_elim
    (λ lt. h r (omega arith) (omega arith) ∙ stays F k r (omega arith) (λ q a b. h q a (omega arith)))
    (λ ge. let e : suc r ≡ k = omega arith in ap F e)
    (cases_lt k (suc r))

-- the places from k up to r have no blocker
pub no_blocker : (b : Meaning) (t : Tuple) (k r q : ℕ) → NoneLed b t k r → k ≤ q → q < r → blocker b t q ≡ None
no_blocker b t k r q s kq qr = none_having (b.at q) t (λ w. s.skipped q w kq qr)

module _ (b : Meaning) (t : Tuple) (c : ℕ) where
  pub barred_skip : (j k r : ℕ) → NoneLed b t k r → barred b t c j r ≡ barred b t c j k
  barred_skip j k r s = stays (barred b t c j) k r s.on
      (λ q kq qr. ap (λ o. bars? c (ltb (q + 1) j) o || barred b t c j q) (no_blocker b t k r q s kq qr))

  pub stop_skip : (e k r : ℕ) → NoneLed b t k r → stop b t c e r ≡ stop b t c e k
  stop_skip e k r s = stays (stop b t c e) k r s.on (λ q kq qr. ap (λ o. sooner c o (stop b t c e q)) (no_blocker b t k r q s kq qr))

  pub barred_more : (j k : ℕ) → barred b t c j k ≡ false → bars? c (ltb (k + 1) j) (blocker b t k) ≡ false → barred b t c j (k + 1) ≡ false
  barred_more j k h e = rw add-one (or_from (bars? c (ltb (k + 1) j) (blocker b t k)) (barred b t c j k) e h)

  pub barred_decides : (j n : ℕ) → Decides (barred b t c j n) ((p : ℕ) × (p < n) × (bars? c (ltb (p + 1) j) (blocker b t p) ≡ true))
  barred_decides j = Decides-below_or (λ p. bars? c (ltb (p + 1) j) (blocker b t p)) (λ p. bars? c (ltb (p + 1) j) (blocker b t p) ≡ true) (barred b t c j) (λ p. (λ e. e, λ e. e)) refl (λ _. refl)

  pub stop_more : (e k : ℕ) → stop b t c e (k + 1) ≡ sooner c (blocker b t k) (stop b t c e k)
  stop_more e k = rw add-one
