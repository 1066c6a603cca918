-- The stretches of a list of cuts: each lies between two neighbours, and each two such neighbours have one.
use Rattle.std.proofs.Common.{◌≡◌, ℕ, zero, suc, ◌<◌, ◌≤◌, Bool, true, false, cond, ◌&&◌, ltb, List, [], ◌∷◌, length, get_or, pos, sym, refl, subst, arith}
use lib.Signed.{lt_z}
use Rattle.std.proofs.lemmas.Bool.{and_parts, and_from, ltb-true, lt-ltb, cond-true}
use Rattle.relation.specs.declared.rows.Row.{Row}
use Rattle.collect.specs.Areas.{no_row}
use Rattle.cuts.specs.Amounts.{value}
use Rattle.cuts.specs.Days.{Rises}
use Rattle.cuts.specs.Stretches.{stretch_by, stretches_by}

module _ (group : Row) (by : List ℕ) where
  -- the row w is the stretch from the cut at j
  pub record From (cs : List Row) (w : Row) : Type 0 where
    pub j : ℕ
    pub within : suc j < length cs
    pub some : lt_z (pos 0) (value 0 (get_or cs j no_row)) ≡ true
    pub ahead : (get_or cs j no_row).first < (get_or cs (suc j) no_row).first
    pub is : w ≡ stretch_by group by (get_or cs j no_row) (get_or cs (suc j) no_row)

  behind : (c : Row) (cs : List Row) (w : Row) → From cs w → From (c ∷ cs) w
  behind c cs w f = record { j = suc f.j; within = omega (arith, f.within); some = f.some; ahead = f.ahead; is = f.is }

  abbrev test : Row → Row → Bool
  test c next = lt_z (pos 0) (value 0 c) && ltb c.first next.first

  at_front : (c next : Row) (cs out : List Row) → ((k : ℕ) → k < length out → From (next ∷ cs) (get_or out k no_row)) → (b : Bool) → test c next ≡ b → (i : ℕ) → i < length (cond b (stretch_by group by c next ∷ out) out) → From (c ∷ next ∷ cs) (get_or (cond b (stretch_by group by c next ∷ out) out) i no_row)
  at_front c next cs out more true e zero lt =
      let p = and_parts (lt_z (pos 0) (value 0 c)) (ltb c.first next.first) e in
      record { j = 0; within = omega arith; some = p.0; ahead = ltb-true c.first next.first p.1; is = refl }
  at_front c next cs out more true e (suc i) lt = behind c (next ∷ cs) (get_or out i no_row) (more i (omega arith))
  at_front c next cs out more false e i lt = behind c (next ∷ cs) (get_or out i no_row) (more i lt)

  pub stretch_from : (cs : List Row) (i : ℕ) → i < length (stretches_by group by cs) → From cs (get_or (stretches_by group by cs) i no_row)
  stretch_from [] i lt = absurd (omega arith)
  stretch_from (c ∷ []) i lt = absurd (omega arith)
  stretch_from (c ∷ next ∷ cs) i lt = at_front c next cs (stretches_by group by (next ∷ cs)) (stretch_from (next ∷ cs)) (test c next) refl i lt

  abbrev Listed : List Row → Row → Type 0
  Listed out w = (i : ℕ) × ((i < length out) × (get_or out i no_row ≡ w))

  either_way : (b : Bool) (s w : Row) (out : List Row) → Listed out w → Listed (cond b (s ∷ out) out) w
  either_way true s w out h = (suc h.0, (omega (arith, h.1.0), h.1.1))
  either_way false s w out h = h

  pub stretch_listed : (cs : List Row) (j : ℕ) → suc j < length cs → lt_z (pos 0) (value 0 (get_or cs j no_row)) ≡ true → (get_or cs j no_row).first < (get_or cs (suc j) no_row).first → Listed (stretches_by group by cs) (stretch_by group by (get_or cs j no_row) (get_or cs (suc j) no_row))
  stretch_listed [] j lt some ahead = absurd (omega arith)
  stretch_listed (c ∷ []) j lt some ahead = absurd (omega arith)
  stretch_listed (c ∷ next ∷ cs) zero lt some ahead =
      subst (λ out. Listed out (stretch_by group by c next)) (sym (cond-true (test c next) _ _ (and_from (lt_z (pos 0) (value 0 c)) (ltb c.first next.first) some (lt-ltb c.first next.first ahead)))) (0, (omega arith, refl))
  stretch_listed (c ∷ next ∷ cs) (suc j) lt some ahead = either_way (test c next) (stretch_by group by c next) _ (stretches_by group by (next ∷ cs)) (stretch_listed (next ∷ cs) j (omega arith) some ahead)

  -- ---- in rising order

  rises_behind : (c : Row) (cs : List Row) → Rises (c ∷ cs) → Rises cs
  rises_behind c cs rises i j le lt = rises (suc i) (suc j) (omega arith) (omega arith)

  abbrev pub Rising : List Row → Type 0
  Rising out = (i j : ℕ) → i < j → j < length out → (get_or out i no_row).end ≤ (get_or out j no_row).first

  one_more : (b : Bool) (s : Row) (out : List Row) → ((k : ℕ) → k < length out → s.end ≤ (get_or out k no_row).first) → Rising out → Rising (cond b (s ∷ out) out)
  one_more true s out low rising zero zero a lt = absurd (omega arith)
  one_more true s out low rising zero (suc j) a lt = low j (omega arith)
  one_more true s out low rising (suc i) zero a lt = absurd (omega arith)
  one_more true s out low rising (suc i) (suc j) a lt = rising i j (omega arith) (omega arith)
  one_more false s out low rising i j a lt = rising i j a lt

  pub stretches_rise : (cs : List Row) → Rises cs → Rising (stretches_by group by cs)
  stretches_rise [] rises = λ i j a lt. absurd (omega arith)
  stretches_rise (c ∷ []) rises = λ i j a lt. absurd (omega arith)
  stretches_rise (c ∷ next ∷ cs) rises = one_more (test c next) (stretch_by group by c next) (stretches_by group by (next ∷ cs)) low (stretches_rise (next ∷ cs) (rises_behind c (next ∷ cs) rises))
    where
      low : (k : ℕ) → k < length (stretches_by group by (next ∷ cs)) → next.first ≤ (get_or (stretches_by group by (next ∷ cs)) k no_row).first
      low k lt =
          let f = stretch_from (next ∷ cs) k lt in
          subst (λ w. next.first ≤ w.first) (sym f.is) (rises_behind c (next ∷ cs) rises 0 f.j (omega arith) (omega (arith, f.within)))
