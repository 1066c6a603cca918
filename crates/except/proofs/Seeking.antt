-- An except passes over left rows without the lead, and over right rows that are no blockers.
use Rattle.std.proofs.Common.{◌≡◌, ℕ, ◌+◌, ◌-◌, ◌*◌, ◌/◌, ◌%◌, ◌<◌, ◌≤◌, ◌⊎◌, length, take, Some, None, Option, sym, refl, ap, ◌∙◌, subst, ⊎_elim, mul-le-mul_right, add-mul, arith}
use Rattle.std.proofs.lemmas.Nat.{div-add-mod', div_below, le-div, mod_below}
use Rattle.std.proofs.lemmas.Bool.{cases_lt}
use Rattle.relation.specs.declared.rows.Row.{Row}
use Rattle.relation.specs.Sets.{Tuple}
use Rattle.relation.specs.Rows.{SpecRow}
use Rattle.relation.specs.Stored.{stored}
use Rattle.source.specs.Meaning.{Meaning, Sound, Begins, NoneLed, row?}
use Rattle.source.proofs.Cells.{fits_length}
use Rattle.except.specs.Blockers.{span, within, piece_from}
use Rattle.except.specs.Excepts.{dated, pieced, excepted, NoPieces}
use Rattle.except.specs.Sounds.{pieced_parts}
use Rattle.except.proofs.Tupled.{tuple_of}
use Rattle.except.proofs.Scanned.{no_blocker}
use Rattle.except.proofs.Pieces.{candidate_next}

-- the places of the right source that a seek by the tuple of a left row passes over give that row no piece
pub no_pieces : (a b : Meaning) (sa : Sound a) (i columns p r : ℕ) (w : Row) → columns ≡ length a.kinds → row? (a.at i) ≡ Some w → p ≤ b.count → NoneLed b (take columns w.values) p r → NoPieces b (a.at i) p r
no_pieces a b sa i columns p r w wide e low led = record { on = led.on; up = omega (arith, led.up); skipped = λ q pq qr. at (a.at i) refl e q pq qr }
  where
    at : (o : Option SpecRow) → a.at i ≡ o → row? o ≡ Some w → (q : ℕ) → p ≤ q → q < r → pieced b o (q + 1) ≡ None
    at None f g q pq qr = refl
    at (Some v) f g q pq qr =
        let is : w ≡ stored v = cc in
        let size : length v.tuple ≡ columns = fits_length a.kinds v.tuple (sa.filled i v f).fitting ∙ sym wide in
        let tuple : take columns w.values ≡ v.tuple = ap (λ (x : Row). take columns x.values) is ∙ tuple_of v columns size (omega (arith, sa.few_kinds)) in
        let none = no_blocker b v.tuple p r q (subst (λ t. NoneLed b t p r) tuple led) pq qr in
        ap (λ c. dated v.tuple (piece_from b v.tuple (span v) (q + 1) c)) (candidate_next b v.tuple (span v) q ∙ ap (within (span v)) none)

module _ (a b : Meaning) (lead : Tuple) where
  -- piece j of the left row at place i is empty or does not begin with the lead
  abbrev Unled : ℕ → ℕ → Type 0
  Unled i j = (v : SpecRow) → pieced b (a.at i) j ≡ Some v → Begins lead v.tuple → ⊥

  unled_row : (i r : ℕ) → NoneLed a lead i r → (h j : ℕ) → i ≤ h → h < r → Unled h j
  unled_row i r led h j lo hi v at begins =
      let q = pieced_parts b (a.at h) j v at in
      led.skipped h q.row lo hi q.there (subst (Begins lead) q.same begins)

  unled_piece : (i p r : ℕ) → NoPieces b (a.at i) p r → (j : ℕ) → p + 1 ≤ j → j ≤ r → Unled i j
  unled_piece i p r none j lo hi v at begins =
      let back : j - 1 + 1 ≡ j = omega arith in
      let gone = none.skipped (j - 1) (omega arith) (omega arith) in
      let same = ap (pieced b (a.at i)) back in
      let z : ◌≡◌ {A = ℕ} 0 1 = cc in omega arith

  -- ---- from place k, which is piece j of the left row at place i, where a left row has w places

  module _ (k w : ℕ) (places : w ≡ b.count + 1) where
    some : 0 < w
    some = omega arith

    before : k < (k / w + 1) * w
    before = omega (arith, add-mul (k / w) 1 w, div-add-mod' k w, mod_below k w some)

    -- a way to say it by left places and pieces
    led_from : (r : ℕ) → k ≤ r → r ≤ a.count * w → ((q : ℕ) → k ≤ q → q < r → Unled (q / w) (q % w)) → NoneLed (excepted a b) lead k r
    led_from r on up each =
        let all : a.count * w ≡ a.count * (b.count + 1) = ap (λ m. a.count * m) places in
        record {
          on = on;
          up = omega (arith, all);
          skipped = λ q v kq qr at. each q kq qr v (ap (λ m. pieced b (a.at (q / m)) (q % m)) places ∙ at);
        }

    left_of : (q : ℕ) → k ≤ q → k / w ≤ q / w
    left_of q kq = le-div (k / w) q w some (omega (arith, div-add-mod' k w))

    -- the same left row
    piece_of : (q : ℕ) → q / w ≡ k / w → q ≡ k / w * w + q % w
    piece_of q e = let s : q / w * w ≡ k / w * w = ap (λ x. x * w) e in omega (arith, div-add-mod' q w)

    -- to another left row, or from its first piece
    pub to_row : (r : ℕ) → k / w < a.count → NoneLed a lead (k / w) r → (k / w < r) ⊎ (k % w ≡ 0) → NoneLed (excepted a b) lead k (r * w)
    to_row r few led new = led_from (r * w) on (mul-le-mul_right w (omega (arith, led.up)))
        (λ q kq qr. unled_row (k / w) r led (q / w) (q % w) (left_of q kq) (div_below q w r some qr))
      where
        on : k ≤ r * w
        on = ⊎_elim (λ lt. omega (arith, before, mul-le-mul_right w lt, add-mul (k / w) 1 w))
            (λ e. omega (arith, div-add-mod' k w, mul-le-mul_right w led.on)) new

    module _ (few : k / w < a.count) (later : 0 < k % w) (p : ℕ) (none : NoPieces b (a.at (k / w)) (k % w - 1) p) where
      within_row : (q : ℕ) → k ≤ q → q / w ≡ k / w → q % w ≤ p → Unled (q / w) (q % w)
      within_row q kq e hi =
          subst (λ i. Unled i (q % w)) (sym e) (unled_piece (k / w) (k % w - 1) p none (q % w) (omega (arith, piece_of q e, div-add-mod' k w)) hi)

      -- to the next blocker's piece of the same left row
      pub to_piece : p < b.count → NoneLed (excepted a b) lead k (k / w * w + p + 1)
      to_piece lt = led_from (k / w * w + p + 1) (omega (arith, div-add-mod' k w, none.on)) (omega (arith, add-mul (k / w) 1 w, mul-le-mul_right w few))
          (λ q kq qr.
          let below : q / w < k / w + 1 = div_below q w (k / w + 1) some (omega (arith, add-mul (k / w) 1 w)) in
          let same : q / w ≡ k / w = omega (arith, left_of q kq) in
          within_row q kq same (omega (arith, piece_of q same)))

      -- to the next left row
      pub to_next : b.count ≤ p → (r : ℕ) → NoneLed a lead (k / w + 1) r → NoneLed (excepted a b) lead k (r * w)
      to_next all r led = led_from (r * w) (omega (arith, before, mul-le-mul_right w led.on)) (mul-le-mul_right w (omega (arith, led.up)))
          (λ q kq qr. ⊎_elim
          (λ lt. unled_row (k / w + 1) r led (q / w) (q % w) (omega arith) (div_below q w r some qr))
          (λ le. within_row q kq (omega (arith, left_of q kq)) (omega (arith, mod_below q w some)))
          (cases_lt (k / w) (q / w)))
