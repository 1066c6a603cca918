-- A test of each element, one element on, as a loop goes.
use Rattle.std.specs.List.{list_all}
use Rattle.std.proofs.Common.{◌≡◌, ℕ, zero, suc, ◌+◌, ◌<◌, ◌≤◌, Bool, true, false, ◌&&◌, List, [], ◌∷◌, length, get_or, drop, sym, ap, ◌∙◌, arith}
use Rattle.std.proofs.lemmas.List.{at_drop_more, at_drop_all}
use Rattle.std.proofs.lemmas.Bool.{and_parts}

module _ {X : Type 0} (p : X → Bool) (s : List X) (d : X) (i : ℕ) where
  pub every_more : i < length s → true ≡ p (get_or s i d) → list_all p (drop i s) ≡ list_all p (drop (i + 1) s)
  every_more h e = at_drop_more (list_all p) s i d h ∙ ap (λ t. t && list_all p (drop (i + 1) s)) (sym e)

  pub every_stop : i < length s → false ≡ p (get_or s i d) → list_all p (drop i s) ≡ false
  every_stop h e = at_drop_more (list_all p) s i d h ∙ ap (λ t. t && list_all p (drop (i + 1) s)) (sym e)

  pub every_end : length s ≤ i → list_all p (drop i s) ≡ true
  every_end h = at_drop_all (list_all p) s i h

pub every_at : {X : Type 0} (p : X → Bool) (s : List X) (d : X) (i : ℕ) → list_all p s ≡ true → i < length s → p (get_or s i d) ≡ true
every_at p [] d i e h = absurd (omega arith)
every_at p (x ∷ s) d zero e h = (and_parts (p x) (list_all p s) e).0
every_at p (x ∷ s) d (suc i) e h = every_at p s d i (and_parts (p x) (list_all p s) e).1 (omega arith)
