-- Names and kinds as they are stored.
use Rattle.std.specs.List.{list_all}
use Rattle.std.proofs.Common.{◌≡◌, ℕ, ◌^◌, ◌<◌, Bool, true, false, cond, not, ◌&&◌, T, leb, List, [], ◌∷◌, length, get_or, ℤ, pos, nat_abs, Some, None, sym, refl, subst, ap₂, inl, inr, arith, w64, Fits}
use Rattle.std.specs.Int.Signed.{non_neg}
use Rattle.std.specs.Char.{is_ascii_lowercase, is_ascii_digit, is_ascii_alphanumeric}
use Rattle.std.proofs.lemmas.Bool.{and_parts, and_from, or_cases, or_left, or_right}
use Rattle.relation.specs.declared.kinds.Kind.{Kind}
use Rattle.relation.specs.declared.kinds.Kind.TheVariants.{Number, Word}
use Rattle.relation.specs.Kinds.{same_kind}
use Rattle.std.specs.Cmp.Lexicographic.{pointwise}
use Rattle.relation.specs.declared.rows.Row.{Row}
use Rattle.relation.specs.declared.refusals.Reason.TheVariants as no
use Rattle.relation.specs.Rows.{is_period}
use Rattle.relation.specs.Stored.{meant}
use Rattle.relation.specs.Values.{word_byte, is_word, word, word_value}
use Rattle.relation.proofs.Spelled.{value_from_word, word_below, words_inverse}
use Rattle.source.specs.Meaning.{fits}
use Rattle.layers.specs.Alike.{same_kinds}
use Rattle.words.specs.Name.{name_byte, is_name}
use Rattle.register.specs.Refusals.{rest_zero, row_no}

-- ---- names are words

name_byte_lem : (b : ℕ) → name_byte b ≡ true → word_byte b ≡ true
name_byte_lem b h = elim (or_cases (is_ascii_lowercase b) (is_ascii_digit b) h) [
  | inl l ↦ or_left (is_ascii_alphanumeric b) _ (or_right _ (is_ascii_lowercase b) l)
  | inr d ↦ or_left (is_ascii_alphanumeric b) _ (or_left _ (is_ascii_lowercase b) (or_left (is_ascii_digit b) _ d))
]

name_bytes : (bs : List ℕ) → list_all name_byte bs ≡ true → list_all word_byte bs ≡ true
name_bytes [] h = refl
name_bytes (b ∷ bs) h =
    let p = and_parts (name_byte b) (list_all name_byte bs) h in
    and_from (word_byte b) (list_all word_byte bs) (name_byte_lem b p.0) (name_bytes bs p.1)

pub name_word : (bs : List ℕ) → is_name bs ≡ true → is_word bs ≡ true
name_word bs h =
    let p = and_parts (leb 1 (length bs)) _ h in
    let q = and_parts (leb (length bs) 8) _ p.1 in
    let r = and_parts (is_ascii_lowercase (get_or bs 0 0)) _ q.1 in
    let s = and_parts (list_all name_byte bs) _ r.1 in
    and_from (leb 1 (length bs)) (leb (length bs) 8 && list_all word_byte bs) p.0 (and_from (leb (length bs) 8) (list_all word_byte bs) q.0 (name_bytes bs s.0))

pub name_value : (bs : List ℕ) (v : ℤ) → is_name bs ≡ true → Some v ≡ word_value bs → v ≡ pos (word bs)
name_value bs v h e = let w = value_from_word bs (name_word bs h) in cc

pub name_some : (bs : List ℕ) → is_name bs ≡ true → None ≡ word_value bs → ⊥
name_some bs h e = let w = value_from_word bs (name_word bs h) in let z : ◌≡◌ {A = ℕ} 0 1 = cc in omega arith

pub name_small : (bs : List ℕ) → is_name bs ≡ true → word bs < 2 ^ 63
name_small bs h = word_below bs (name_word bs h)

pub names_apart : (a b : List ℕ) → is_name a ≡ true → is_name b ≡ true → word a ≡ word b → a ≡ b
names_apart a b p q e = words_inverse.one_word a b (name_word a p) (name_word b q) e

-- a number as it is cast
pub cast_is : (z : ℤ) (n : ℕ) → z ≡ pos n → n < 2 ^ 63 → T (non_neg z) × Fits w64 (nat_abs z)
cast_is z n e h = subst (λ x. T (non_neg x) × Fits w64 (nat_abs x)) (sym e) (tt, omega arith)

-- ---- kinds one by one

-- slices of kinds that are compared
pub pointwise_kinds : (E : Kind → Kind → Bool) → E Number Number ≡ true → E Number Word ≡ false → E Word Number ≡ false → E Word Word ≡ true →
    (ks ls : List Kind) → pointwise E ks ls ≡ same_kinds ks ls
pointwise_kinds E a b c d [] [] = refl
pointwise_kinds E a b c d [] (l ∷ ls) = refl
pointwise_kinds E a b c d (k ∷ ks) [] = refl
pointwise_kinds E a b c d (k ∷ ks) (l ∷ ls) = ap₂ ◌&&◌ (one k l) (pointwise_kinds E a b c d ks ls)
  where
    one : (k l : Kind) → E k l ≡ same_kind k l
    one Number Number = a
    one Number Word = b
    one Word Number = c
    one Word Word = d

-- ---- why a row is refused, test by test

pub row_no_lem : (ks given : List Kind) (row : Row) (a b c d : Bool) → same_kinds ks given ≡ a → is_period row.first row.end ≡ b → fits ks (meant (length ks) row).tuple ≡ c → rest_zero (length ks) row ≡ d →
    row_no ks given row ≡ cond (not a) (Some no.Misfit) (cond (not b) (Some no.NoPeriod) (cond (not c) (Some no.OutOfBounds) (cond (not d) (Some no.UnusedValue) None)))
row_no_lem ks given row a b c d pa pb pc pd = λ j. cond (not (pa j)) (Some no.Misfit) (cond (not (pb j)) (Some no.NoPeriod) (cond (not (pc j)) (Some no.OutOfBounds) (cond (not (pd j)) (Some no.UnusedValue) None)))
