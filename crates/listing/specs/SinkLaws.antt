-- The laws of the two sinks: to take two texts, one after the other, is to take the text that they are together.
use Rattle.std.proofs.Common.{◌≡◌, ℕ, ◌+◌, ◌-◌, ◌<◌, ◌≤◌, leb, List, [], ◌++◌, length, take, drop, Some, None, Option, sym, refl, ap, ◌∙◌, ap₂, ⊎_elim, append_assoc, arith}
use Rattle.std.proofs.lemmas.List.{length-append, length-take-le, take-append-drop, take_at, drop_at, drop-drop}
use Rattle.std.proofs.lemmas.Bool.{cases_lt, cond-true, cond-false, le-leb, lt-leb}
use Rattle.listing.specs.declared.sinks.Room.{Room}
use Rattle.listing.specs.declared.sinks.Output.{Output}
use Rattle.listing.specs.Sinks.{written, left_of, Extends}

-- ---- the room

left_fits : (left : ℕ) (t : List ℕ) → length t ≤ left → left_of (Some left) t ≡ Some (left - length t)
left_fits left t h = cond-true (leb (length t) left) _ _ (le-leb _ _ h)

left_over : (left : ℕ) (t : List ℕ) → left < length t → left_of (Some left) t ≡ None
left_over left t h = cond-false (leb (length t) left) _ _ (lt-leb _ _ h)

left_all : (o : Option ℕ) → o ≡ left_of o []
left_all None = refl
left_all (Some left) = let e : left - 0 ≡ left = omega arith in sym (left_fits left [] (omega arith) ∙ ap (λ n. Some n) e)

left_in_two : (o : Option ℕ) (s t : List ℕ) → left_of (left_of o s) t ≡ left_of o (s ++ t)
left_in_two None s t = refl
left_in_two (Some left) s t =
    let n : length (s ++ t) ≡ length s + length t = length-append s t in
    ⊎_elim
    (λ over. ap (λ o. left_of o t) (left_over left s over) ∙ sym (left_over left (s ++ t) (omega arith)))
    (λ fits. ap (λ o. left_of o t) (left_fits left s fits) ∙ ⊎_elim
    (λ over. left_over (left - length s) t over ∙ sym (left_over left (s ++ t) (omega arith)))
    (λ fit. let e : left - length s - length t ≡ left - length (s ++ t) = omega arith in left_fits (left - length s) t fit ∙ ap (λ k. Some k) e ∙ sym (left_fits left (s ++ t) (omega arith)))
    (cases_lt (left - length s) (length t)))
    (cases_lt left (length s))

pub left_nothing : (p : Room) → p.0 ≡ left_of p.0 []
left_nothing p = left_all p.0

pub left_both : (p q r : Room) (s t : List ℕ) → q.0 ≡ left_of p.0 s → r.0 ≡ left_of q.0 t → r.0 ≡ left_of p.0 (s ++ t)
left_both p q r s t one two = two ∙ ap (λ o. left_of o t) one ∙ left_in_two p.0 s t

-- ---- the bytes

pub written_nothing : (bs : List ℕ) (at : ℕ) → written bs at [] ≡ bs
written_nothing bs at = let e : at + 0 ≡ at = omega arith in ap (λ k. take at bs ++ drop k bs) e ∙ take-append-drop at bs

-- what is written, with all before it in front
fronted : (bs : List ℕ) (at : ℕ) (s : List ℕ) → written bs at s ≡ (take at bs ++ s) ++ drop (at + length s) bs
fronted bs at s = sym (append_assoc (take at bs) s _)

front_length : (bs : List ℕ) (at : ℕ) (s : List ℕ) → at ≤ length bs → length (take at bs ++ s) ≡ at + length s
front_length bs at s h = length-append (take at bs) s ∙ ap (λ k. k + length s) (length-take-le at bs h)

written_in_two : (bs : List ℕ) (at : ℕ) (s t : List ℕ) → at + length s + length t ≤ length bs → written (written bs at s) (at + length s) t ≡ written bs at (s ++ t)
written_in_two bs at s t h =
    let p : List ℕ = take at bs ++ s in
    let q : List ℕ = drop (at + length s) bs in
    let r : List ℕ = drop (at + length s + length t) bs in
    let n : length p ≡ at + length s = front_length bs at s (omega arith) in
    let e : at + length s + length t ≡ at + length (s ++ t) = omega (arith, length-append s t) in
    ap (λ l. written l (at + length s) t) (fronted bs at s)
    ∙ ap₂ (λ x y. x ++ (t ++ y)) (take_at p q _ n) (sym (drop-drop (length t) (at + length s) (p ++ q)) ∙ ap (λ l. drop (length t) l) (drop_at p q _ n) ∙ drop-drop (length t) (at + length s) bs)
    ∙ append_assoc (take at bs) s (t ++ r)
    ∙ ap (λ l. take at bs ++ l) (sym (append_assoc s t r) ∙ ap (λ k. (s ++ t) ++ drop k bs) e)

pub extends_nothing : (p : Output) → Extends p [] p
extends_nothing p = record {
  same_bytes = refl;
  same_size = refl;
  fills = λ _. record { at = omega arith; bytes = sym (written_nothing p.bytes.now p.at) };
}

pub extends_both : (p q r : Output) (s t : List ℕ) → Extends p s q → Extends q t r → Extends p (s ++ t) r
extends_both p q r s t one two = record {
  same_bytes = two.same_bytes ∙ one.same_bytes;
  same_size = two.same_size ∙ one.same_size;
  fills = λ fits.
      let n : length (s ++ t) ≡ length s + length t = length-append s t in
      let m : length q.bytes.now ≡ length p.bytes.now = one.same_size in
      let first = one.fills (omega arith) in
      let at : q.at ≡ p.at + length s = first.at in
      let next = two.fills (omega arith) in
      let end : r.at ≡ q.at + length t = next.at in
      record {
        at = omega arith;
        bytes = next.bytes ∙ ap₂ (λ l k. written l k t) first.bytes at ∙ written_in_two p.bytes.now p.at s t (omega arith);
      };
}
