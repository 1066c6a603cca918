-- On every day the set of an except is the left set without the right one.
use Rattle.std.proofs.Common.{◌≡◌, ℕ, ◌+◌, ◌*◌, ◌/◌, ◌%◌, ◌<◌, Bool, true, false, cond, not, ◌||◌, ◌⊎◌, ◌↔◌, List, [], ◌∷◌, Some, None, Decides, filter, sym, refl, ap, ◌∙◌, subst, inl, inr, ⊎_elim, arith}
use Rattle.std.proofs.lemmas.Nat.{div-mul-add, mod-mul-add}
use Rattle.std.proofs.lemmas.Bool.{cases_lt, or_from, cond-false, false≢true}
use Rattle.std.proofs.lemmas.Bool.Decides.{Decides-not}
use Rattle.relation.specs.Lists.{Member}
use Rattle.relation.specs.Sets.{Tuple, has}
use Rattle.relation.specs.Rows.{SpecRow}
use Rattle.relation.proofs.TupleSets.{has_decides}
use Rattle.source.specs.Meaning.{Meaning, Sound, On, day_set}
use Rattle.source.proofs.Places.{day_set_of_places}
use Rattle.except.specs.Blockers.{span, blocked, repeated, stop, piece_from}
use Rattle.except.specs.Excepts.{dated, pieced, excepted}
use Rattle.except.specs.Sounds.{pieced_parts, candidate_inside, stop_after, excepted_sound}
use Rattle.except.specs.Theorems.{DaySetsExcepted}
use Rattle.except.proofs.FreeDays.{Free, blocker_period, free_out, free_in, free_unblocked, unblocked, stop_first, stop_over}
use Rattle.except.proofs.Candidates.{latest, placed}

module _ (a b : Meaning) (sa : Sound a) (sb : Sound b) (d : ℕ) (t : Tuple) where
  -- a day of a piece is held by the row and by no blocker
  there : On (excepted a b) d t → On a d t × (On b d t → ⊥)
  there o =
      let n = b.count + 1 in
      let q = pieced_parts b (a.at (o.place / n)) (o.place % n) o.row o.there in
      let r = q.row in
      let c = o.row.first in
      let period = (sa.filled (o.place / n) r q.there).period in
      let inside = candidate_inside b r.tuple (span r) (o.place % n) c period.0 q.begins in
      let after = stop_after b r.tuple c r.end b.count inside.1 in
      let same : r.tuple ≡ t = sym q.same ∙ o.same in
      let before : d < stop b r.tuple c r.end b.count = omega (arith, o.upto, q.ends) in
      let free : Free b r.tuple d = λ p s k lo hi. ⊎_elim
      (λ lt. let h = stop_first b r.tuple c r.end b.count p s k lt in omega arith)
      (λ le. free_unblocked b r.tuple c q.free p s k le (omega (arith, o.from)))
      (cases_lt c s.first) in (
        record { place = o.place / n; row = r; there = q.there; same = same; from = omega (arith, o.from, inside.0); upto = omega (arith, after.1) },
        λ on. free_out b r.tuple sb d free (subst (On b d) (sym same) on),
      )

  -- a day of a row that no blocker holds is in the piece from the latest candidate on
  back : On a d t → (On b d t → ⊥) → On (excepted a b) d t
  back o none =
      let r = o.row in
      let n = b.count in
      let free : Free b r.tuple d = free_in b r.tuple d (λ on. none (subst (On b d) o.same on)) in
      let found = latest b r.tuple d r.first n o.from in
      let c = found.0 in
      let l = found.1 in
      let place = placed b r.tuple (span r) d n c o.upto l in
      let j = place.0 in
      let unheld : blocked b r.tuple c n ≡ false = unblocked b r.tuple c (λ p s k lo hi. ⊎_elim
      (λ far. free p s k (omega (arith, l.high)) far)
      (λ near. let h = l.above p s k near in omega arith)
      (cases_lt d s.end)) in
      let past : d < stop b r.tuple c r.end n = stop_over b r.tuple c d r.end n o.upto (λ p s k lt. ⊎_elim (λ h. h)
      (λ from. absurd (⊎_elim (λ far. free p s k from far)
      (λ near. let h = l.above p s k near in let m = blocker_period b r.tuple sb p s k.1 in omega arith) (cases_lt d s.end)))
      (cases_lt d s.first)) in
      let w : SpecRow = record { tuple = r.tuple; first = c; end = stop b r.tuple c r.end n } in
      let at : pieced b (Some r) j ≡ Some w =
      ap (λ q. dated r.tuple (piece_from b r.tuple (span r) j q)) place.2
      ∙ ap (dated r.tuple) (cond-false (blocked b r.tuple c n || repeated b r.tuple (span r) c j) None (Some (span w)) (or_from _ _ unheld place.3)) in
      let k = o.place * (n + 1) + j in
      record {
        place = k;
        row = w;
        there = ap (λ i. pieced b (a.at i) (k % (n + 1))) (div-mul-add o.place (n + 1) j place.1)
            ∙ ap (pieced b (a.at o.place)) (mod-mul-add o.place (n + 1) j place.1)
            ∙ ap (λ q. pieced b q j) o.there ∙ at;
        same = o.same;
        from = l.high;
        upto = past;
      }

-- ---- sets

kept : {X : Type 0} (p : X → Bool) (Q : X → Type 0) → ((x : X) → Decides (p x) (Q x)) → (S : List X) (t : X) → Member (filter p S) t ↔ (Member S t × Q t)
kept p Q dec [] t = (λ m. absurd m, λ m. m.0)
kept p Q dec (s ∷ S) t = from (p s) (dec s) (kept p Q dec S t)
  where
    from : (q : Bool) → Decides q (Q s) → Member (filter p S) t ↔ (Member S t × Q t) → Member (cond q (s ∷ filter p S) (filter p S)) t ↔ (((s ≡ t) ⊎ Member S t) × Q t)
    from true e k = (λ m. ⊎_elim (λ g. (inl g, subst Q g (e.0 refl))) (λ g. let h = k.0 g in (inr h.0, h.1)) m, λ m. ⊎_elim (λ g. inl g) (λ g. inr (k.1 (g, m.1))) m.0)
    from false e k = (λ m. let h = k.0 m in (inr h.0, h.1), λ m. ⊎_elim (λ g. absurd (false≢true (e.1 (subst Q (sym g) m.1)))) (λ g. k.1 (g, m.1)) m.0)

pub day_sets_excepted : DaySetsExcepted
day_sets_excepted a b sa sb few d t =
    let whole = day_set_of_places (excepted a b) (excepted_sound a b sa few) d t in
    let left = day_set_of_places a sa d t in
    let right = day_set_of_places b sb d t in
    let k = kept (λ u. not (has (day_set b d) u)) (λ u. Member (day_set b d) u → ⊥) (λ u. Decides-not (has (day_set b d) u) (has_decides (day_set b d) u)) (day_set a d) t in (
      (λ m. let h = there a b sa sb d t (whole.0 m) in k.1 (left.1 h.0, λ n. h.1 (right.0 n))),
      (λ m. let h = k.0 m in whole.1 (back a b sa sb d t (left.0 h.0) (λ on. h.1 (right.1 on)))),
    )
