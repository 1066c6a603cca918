-- The cuts of one row after the other are written.
use Rattle.std.proofs.Common.{◌≡◌, ℕ, ◌+◌, ◌*◌, ◌<◌, ◌≤◌, List, [], ◌∷◌, ◌++◌, length, get_or, take, drop, set, sym, refl, ap, ◌∙◌, ap₂, arith}
use Rattle.std.proofs.lemmas.List.{append-nil, append_assoc, length-append, length-take-le, drop_more, drop_all, set_at, take_more, take_all}
use Rattle.relation.specs.declared.rows.Row.{Row}
use Rattle.collect.specs.Areas.{no_row}
use Rattle.tallies.specs.declared.rules.Tally.{Tally}
use Rattle.cuts.specs.Cuts.{opened, closed, cuts_of}

-- one more behind what has been written
pub written : {X : Type 0} (e p : List X) (n : ℕ) (a d : X) → length p ≡ n → n < length e → set (p ++ drop n e) n a ≡ (p ++ (a ∷ [])) ++ drop (n + 1) e
written e p n a d long lt = ap (λ t. set (p ++ t) n a) (drop_more e n d lt) ∙ set_at p (get_or e n d) (drop (n + 1) e) a n long ∙ sym (append_assoc p (a ∷ []) (drop (n + 1) e))

pub cuts_append : (m : Tally) (ws us : List Row) → cuts_of m (ws ++ us) ≡ cuts_of m ws ++ cuts_of m us
cuts_append m [] us = refl
cuts_append m (w ∷ ws) us = ap (λ t. opened m w ∷ closed m w ∷ t) (cuts_append m ws us)

pub length_cuts : (m : Tally) (ws : List Row) → length (cuts_of m ws) ≡ 2 * length ws
length_cuts m [] = refl
length_cuts m (w ∷ ws) = omega (arith, length_cuts m ws)

module _ (m : Tally) (group e : List Row) where
  -- once the cuts of the first i rows are written
  abbrev pub with_cuts : ℕ → List Row
  with_cuts i = cuts_of m (take i group) ++ drop (2 * i) e

  pub cuts_more : length e ≡ 2 * length group → (i : ℕ) (rows : List Row) (o c : Row) → i < length group → rows ≡ with_cuts i → o ≡ opened m (get_or group i no_row) → c ≡ closed m (get_or group i no_row) → set (set rows (2 * i) o) (2 * i + 1) c ≡ with_cuts (i + 1)
  cuts_more room i rows o c lt is p q =
      let w : Row = get_or group i no_row in
      let done = cuts_of m (take i group) in
      let long : length done ≡ 2 * i = omega (arith, length_cuts m (take i group), length-take-le i group (omega arith)) in
      let longer : length (done ++ (opened m w ∷ [])) ≡ 2 * i + 1 = length-append done (opened m w ∷ []) ∙ ap (λ n. n + 1) long in
      let next : 2 * i + 1 + 1 ≡ 2 * (i + 1) = omega arith in
      (λ k. set (set (is k) (2 * i) (p k)) (2 * i + 1) (q k))
      ∙ ap (λ t. set t (2 * i + 1) (closed m w)) (written e done (2 * i) (opened m w) no_row long (omega arith))
      ∙ written e (done ++ (opened m w ∷ [])) (2 * i + 1) (closed m w) no_row longer (omega arith)
      ∙ ap₂ (λ t n. t ++ drop n e)
      (append_assoc done (opened m w ∷ []) (closed m w ∷ []) ∙ sym (cuts_append m (take i group) (w ∷ [])) ∙ ap (cuts_of m) (sym (take_more group i no_row lt)))
      next

  pub cuts_all : length e ≡ 2 * length group → (i : ℕ) (rows : List Row) → length group ≤ i → rows ≡ with_cuts i → rows ≡ cuts_of m group
  cuts_all room i rows le is = is ∙ ap₂ (λ t u. cuts_of m t ++ u) (take_all i group le) (drop_all (2 * i) e (omega arith)) ∙ append-nil (cuts_of m group)
