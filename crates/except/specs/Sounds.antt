-- An except keeps the bounds of a source.
use Rattle.std.specs.Prelude.{◌≡◌, ℕ, zero, suc, ◌+◌, ◌-◌, ◌*◌, ◌/◌, ◌%◌, ◌<◌, ◌≤◌, min, Bool, true, false, cond, ◌&&◌, ◌||◌, Some, None, Option, ◌==◌, nat_lt, refl}
use Rattle.std.proofs.Common.{sym, subst, arith, div-lt_iff_lt-mul}
use Rattle.std.proofs.lemmas.Bool.{and_parts, or_parts, ltb-true}
use Rattle.relation.specs.Bounds.{most_places}
use Rattle.relation.specs.Sets.{Tuple}
use Rattle.relation.specs.Rows.{SpecRow}
use Rattle.source.specs.Meaning.{Meaning, Sound, fits}
use Rattle.relation.specs.declared.days.Span.{Span}
use Rattle.except.specs.Blockers.{span, blocker, within, candidate, blocked, repeated, sooner, stop, piece_from}
use Rattle.except.specs.Excepts.{dated, pieced, excepted}

-- the row w is the piece of the row at o that begins on the candidate of place j
pub record Pieced (b : Meaning) (o : Option SpecRow) (j : ℕ) (w : SpecRow) : Type 0 where
  pub row : SpecRow
  pub there : o ≡ Some row
  pub begins : candidate b row.tuple (span row) j ≡ Some w.first
  pub free : blocked b row.tuple w.first b.count ≡ false
  pub new : repeated b row.tuple (span row) w.first j ≡ false
  pub ends : w.end ≡ stop b row.tuple w.first row.end b.count
  pub same : w.tuple ≡ row.tuple

pub pieced_parts : (b : Meaning) (o : Option SpecRow) (j : ℕ) (w : SpecRow) → pieced b o j ≡ Some w → Pieced b o j w
pieced_parts b None j w h = let z : ◌≡◌ {A = ℕ} 0 1 = cc in absurd (omega arith)
pieced_parts b (Some r) j w h = from (candidate b r.tuple (span r) j) refl h
  where
    at : (c : ℕ) → candidate b r.tuple (span r) j ≡ Some c → (q : Bool) → (blocked b r.tuple c b.count || repeated b r.tuple (span r) c j) ≡ q
        → dated r.tuple (cond q None (Some (record { first = c; end = stop b r.tuple c r.end b.count }))) ≡ Some w → Pieced b (Some r) j w
    at c e true f p = let z : ◌≡◌ {A = ℕ} 0 1 = cc in absurd (omega arith)
    at c e false f p =
        let both = or_parts (blocked b r.tuple c b.count) (repeated b r.tuple (span r) c j) f in
        let is : record { tuple = r.tuple; first = c; end = stop b r.tuple c r.end b.count } ≡ w = cc in
        subst (Pieced b (Some r) j) is (record { row = r; there = refl; begins = e; free = both.0; new = both.1; ends = refl; same = refl })

    from : (q : Option ℕ) → candidate b r.tuple (span r) j ≡ q → dated r.tuple (piece_from b r.tuple (span r) j q) ≡ Some w → Pieced b (Some r) j w
    from None e p = let z : ◌≡◌ {A = ℕ} 0 1 = cc in absurd (omega arith)
    from (Some c) e p = at c e (blocked b r.tuple c b.count || repeated b r.tuple (span r) c j) refl p

pub within_inside : (r : Span) (o : Option Span) (c : ℕ) → within r o ≡ Some c → (r.first < c) × (c < r.end)
within_inside r None c h = let z : ◌≡◌ {A = ℕ} 0 1 = cc in absurd (omega arith)
within_inside r (Some s) c h = from (nat_lt r.first s.end && nat_lt s.end r.end) refl h
  where
    from : (q : Bool) → (nat_lt r.first s.end && nat_lt s.end r.end) ≡ q → cond q (Some s.end) None ≡ Some c → (r.first < c) × (c < r.end)
    from true e p =
        let both = and_parts (nat_lt r.first s.end) (nat_lt s.end r.end) e in
        let is : s.end ≡ c = cc in
        (omega (arith, ltb-true r.first s.end both.0), omega (arith, ltb-true s.end r.end both.1))
    from false e p = let z : ◌≡◌ {A = ℕ} 0 1 = cc in absurd (omega arith)

pub candidate_inside : (b : Meaning) (t : Tuple) (r : Span) (j c : ℕ) → r.first < r.end → candidate b t r j ≡ Some c → (r.first ≤ c) × (c < r.end)
candidate_inside b t r j c lt h = from (j == 0) h
  where
    from : (q : Bool) → cond q (Some r.first) (within r (blocker b t (j - 1))) ≡ Some c → (r.first ≤ c) × (c < r.end)
    from true p = let is : r.first ≡ c = cc in (omega arith, omega arith)
    from false p = let i = within_inside r (blocker b t (j - 1)) c p in (omega arith, omega arith)

-- a piece stops after its first day, and not after the row does
pub stop_after : (b : Meaning) (t : Tuple) (c e n : ℕ) → c < e → (c < stop b t c e n) × (stop b t c e n ≤ e)
stop_after b t c e zero lt = (lt, omega arith)
stop_after b t c e (suc n) lt = from (blocker b t n) (stop_after b t c e n lt)
  where
    from : (o : Option Span) → (c < stop b t c e n) × (stop b t c e n ≤ e) → (c < sooner c o (stop b t c e n)) × (sooner c o (stop b t c e n) ≤ e)
    from None h = h
    from (Some s) h = at (nat_lt c s.first) refl
      where
        at : (q : Bool) → nat_lt c s.first ≡ q → (c < cond q (min s.first (stop b t c e n)) (stop b t c e n)) × (cond q (min s.first (stop b t c e n)) (stop b t c e n) ≤ e)
        at true p = let lt = ltb-true c s.first p in (omega arith, omega arith)
        at false p = h

pub excepted_sound : (a b : Meaning) → Sound a → a.count * (b.count + 1) ≤ most_places → Sound (excepted a b)
excepted_sound a b s few = record {
  some_kinds = s.some_kinds;
  few_kinds = s.few_kinds;
  few = few;
  filled = λ k w p.
      let q = pieced_parts b (a.at (k / (b.count + 1))) (k % (b.count + 1)) w p in
      let r = s.filled (k / (b.count + 1)) q.row q.there in
      let inside = candidate_inside b q.row.tuple (span q.row) (k % (b.count + 1)) w.first r.period.0 q.begins in
      let after = stop_after b q.row.tuple w.first q.row.end b.count inside.1 in
      let some : 0 < b.count + 1 = omega arith in
      record {
        below = (div-lt_iff_lt-mul some).0 r.below;
        fitting = subst (λ t. fits a.kinds t ≡ true) (sym q.same) r.fitting;
        period = (omega (arith, q.ends, after.0), omega (arith, q.ends, after.1, r.period.1));
      };
}
