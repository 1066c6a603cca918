-- Two lists have one text only if they are one.
use Rattle.std.proofs.Common.{◌≡◌, ℕ, suc, ◌^◌, ◌<◌, ◌≤◌, true, leb, List, [], ◌∷◌, ◌++◌, map, length, ℤ, pos, negsuc, Some, decimal, Option, sym, refl, ap, ◌∙◌, ap₂, append_assoc, arith}
use lib.Signed.{mag}
use Rattle.std.specs.List.{list_all, flat_map, AllByRecursion as AllOf}
use Rattle.std.specs.Str.{all_ascii_digits}
use Rattle.std.specs.Char.{is_ascii_digit}
use Rattle.std.specs.Fmt.{signed_decimal}
use Rattle.std.proofs.ByRecursion.{All-append}
use Rattle.std.proofs.lemmas.Fmt.{decimal_injective, signed_decimal_injective}
use Rattle.std.proofs.lemmas.List.{append_cancel_left, append_cancel_right}
use Rattle.std.proofs.lemmas.Int.{ints}
use Rattle.std.proofs.lemmas.Bool.{and_parts}
use Rattle.std.proofs.lemmas.Bool.Decides.{nat_tests}
use Rattle.relation.specs.declared.kinds.Kind.{Kind}
use Rattle.relation.specs.declared.kinds.Kind.TheVariants as kind
use Rattle.relation.specs.Rows.{SpecRow, Period}
use Rattle.relation.specs.Values.{word_byte, is_word, word_text, word_value, InKind, Number, Word}
use Rattle.relation.proofs.Spelled.{words_inverse}
use Rattle.listing.specs.Text.{space, line_end, quote, letter, spelled, value_text, values_text, row_text, list_text}
use Rattle.listing.specs.Theorems.{Held, ListsDiffer}
use Rattle.listing.proofs.Read.{decimals_read}

-- ---- a text that ends before a space or a line's end

abbrev Solid : List ℕ → Type 0
Solid xs = AllOf (λ b. space < b) xs

-- where a byte up to the space ends the first part of both, the parts are the same
cut : (xs us : List ℕ) (c d : ℕ) (ys vs : List ℕ) → Solid xs → Solid us → c ≤ space → d ≤ space → xs ++ c ∷ ys ≡ us ++ d ∷ vs → (xs ≡ us) × (ys ≡ vs)
cut [] [] c d ys vs p q h g e = (refl, cc)
cut [] (u ∷ us) c d ys vs p q h g e = let a : c ≡ u = cc in absurd (omega (arith, q.0))
cut (x ∷ xs) [] c d ys vs p q h g e = let a : x ≡ d = cc in absurd (omega (arith, p.0))
cut (x ∷ xs) (u ∷ us) c d ys vs p q h g e =
    let a : x ≡ u = cc in
    let t : xs ++ c ∷ ys ≡ us ++ d ∷ vs = cc in
    let r = cut xs us c d ys vs p.1 q.1 h g t in
    (ap₂ (λ y l. y ∷ l) a r.0, r.1)

digits_solid : (ds : List ℕ) → all_ascii_digits ds ≡ true → Solid ds
digits_solid [] h = tt
digits_solid (d ∷ ds) h = let p = and_parts (is_ascii_digit d) (all_ascii_digits ds) h in let e : is_ascii_digit d ≡ true = p.0 in (grind (arith, nat_tests), digits_solid ds p.1)

decimal_solid : (n : ℕ) → n < 2 ^ 64 → Solid (decimal n)
decimal_solid n h = digits_solid (decimal n) (decimals_read.digits n h)

letters_solid : (ks : List Kind) → Solid (map letter ks)
letters_solid [] = tt
letters_solid (kind.Number ∷ ks) = (omega arith, letters_solid ks)
letters_solid (kind.Word ∷ ks) = (omega arith, letters_solid ks)

word_solid : (bs : List ℕ) → list_all word_byte bs ≡ true → Solid bs
word_solid [] h = tt
word_solid (b ∷ bs) h = let p = and_parts (word_byte b) (list_all word_byte bs) h in let e : word_byte b ≡ true = p.0 in (grind (arith, nat_tests), word_solid bs p.1)

-- ---- the text of a value

signed_solid : (z : ℤ) → mag z < 2 ^ 63 → Solid (signed_decimal z)
signed_solid (pos n) h = decimal_solid n (omega arith)
signed_solid (negsuc n) h = (omega arith, decimal_solid (suc n) (omega arith))

number_small : (z : ℤ) → Number z → mag z < 2 ^ 63
number_small (pos n) h = let a = h.1 in omega (arith, ints)
number_small (negsuc n) h = let a = h.0 in omega (arith, ints)

-- the bytes of the word that a value of kind w is
word_of : (z : ℤ) → Word z → (bs : List ℕ) × (word_text z ≡ Some bs) × (word_value bs ≡ Some z) × (list_all word_byte bs ≡ true)
word_of z h =
    let bs = h.0 in
    let w : is_word bs ≡ true = h.1.0 in
    let same : z ≡ pos _ = h.1.1 in
    let e = words_inverse.each_word bs w in
    let long = and_parts _ _ (and_parts (leb 1 (length bs)) _ w).1 in
    (bs, ap word_text same ∙ e.1, e.0 ∙ ap (λ y. Some y) (sym same), long.1)

value_solid : (k : Kind) (z : ℤ) → InKind k z → Solid (value_text k z)
value_solid kind.Number z h = signed_solid z (number_small z h)
value_solid kind.Word z h =
    let w = word_of z h in
    let bytes : Solid (spelled (word_text z)) = rw w.1 (word_solid w.0 w.3) in
    (omega arith, All-append (λ b. space < b) (spelled (word_text z)) (quote ∷ []) bytes (omega arith, tt))

value_same : (k : Kind) (y z : ℤ) → InKind k y → InKind k z → value_text k y ≡ value_text k z → y ≡ z
value_same kind.Number y z h g e = signed_decimal_injective y z (number_small y h) (number_small z g) e
value_same kind.Word y z h g e =
    let v = word_of y h in
    let w = word_of z g in
    let e' : spelled (word_text y) ++ quote ∷ [] ≡ spelled (word_text z) ++ quote ∷ [] = append_cancel_left (quote ∷ []) _ _ e in
    let same : spelled (word_text y) ≡ spelled (word_text z) = append_cancel_right _ _ (quote ∷ []) e' in
    let bytes : v.0 ≡ w.0 = ap spelled (sym v.1) ∙ same ∙ ap spelled w.1 in
    let one : ◌≡◌ {A = Option ℤ} (Some y) (Some z) = sym v.2 ∙ ap word_value bytes ∙ w.2 in
    cc

-- ---- a row

-- a part, the values behind it, and the line's end
values_same : (ks : List Kind) (xs us : List ℕ) (zs ws : List ℤ) (r s : List ℕ) → Solid xs → Solid us → Held ks zs → Held ks ws
    → xs ++ (values_text ks zs ++ line_end ∷ r) ≡ us ++ (values_text ks ws ++ line_end ∷ s) → (xs ≡ us) × (zs ≡ ws) × (r ≡ s)
values_same [] xs us [] [] r s p q h g e = let c = cut xs us line_end line_end r s p q (omega arith) (omega arith) e in (c.0, refl, c.1)
values_same [] xs us (z ∷ zs) ws r s p q h g e = absurd h
values_same [] xs us [] (w ∷ ws) r s p q h g e = absurd g
values_same (k ∷ ks) xs us [] ws r s p q h g e = absurd h
values_same (k ∷ ks) xs us (z ∷ zs) [] r s p q h g e = absurd g
values_same (k ∷ ks) xs us (z ∷ zs) (w ∷ ws) r s p q h g e =
    let a = append_assoc (value_text k z) (values_text ks zs) (line_end ∷ r) in
    let b = append_assoc (value_text k w) (values_text ks ws) (line_end ∷ s) in
    let c = cut xs us space space _ _ p q (omega arith) (omega arith) e in
    let d = values_same ks (value_text k z) (value_text k w) zs ws r s (value_solid k z h.0) (value_solid k w g.0) h.1 g.1 (sym a ∙ c.1 ∙ b) in
    (c.0, ap₂ (λ y l. y ∷ l) (value_same k z w h.0 g.0 d.0) d.1, d.2)

-- a row's line with what comes after it, from left to right
row_parts : (ks : List Kind) (r : SpecRow) (t : List ℕ) → row_text ks r ++ t ≡ decimal r.first ++ space ∷ (decimal r.end ++ (values_text ks r.tuple ++ line_end ∷ t))
row_parts ks r t = simp append_assoc

row_same : (ks : List Kind) (r s : SpecRow) (t u : List ℕ) → Period r → Period s → Held ks r.tuple → Held ks s.tuple → row_text ks r ++ t ≡ row_text ks s ++ u → (r ≡ s) × (t ≡ u)
row_same ks r s t u p q h g e =
    let c = cut (decimal r.first) (decimal s.first) space space _ _ (decimal_solid _ (omega arith)) (decimal_solid _ (omega arith)) (omega arith) (omega arith) (sym (row_parts ks r t) ∙ e ∙ row_parts ks s u) in
    let d = values_same ks (decimal r.end) (decimal s.end) r.tuple s.tuple t u (decimal_solid _ (omega arith)) (decimal_solid _ (omega arith)) h g c.1 in
    let first : r.first ≡ s.first = decimal_injective _ _ (omega arith) (omega arith) c.0 in
    let end : r.end ≡ s.end = decimal_injective _ _ (omega arith) (omega arith) d.0 in
    let tuple : r.tuple ≡ s.tuple = d.1 in
    (λ i. record { tuple = tuple i; first = first i; end = end i }, d.2)

rows_same : (ks : List Kind) (rs ss : List SpecRow) → length rs ≡ length ss → AllOf (λ r. Period r × Held ks r.tuple) rs → AllOf (λ r. Period r × Held ks r.tuple) ss
    → flat_map (row_text ks) rs ≡ flat_map (row_text ks) ss → rs ≡ ss
rows_same ks [] [] n h g e = refl
rows_same ks [] (s ∷ ss) n h g e = absurd (omega arith)
rows_same ks (r ∷ rs) [] n h g e = absurd (omega arith)
rows_same ks (r ∷ rs) (s ∷ ss) n h g e =
    let c = row_same ks r s _ _ h.0.0 g.0.0 h.0.1 g.0.1 e in
    ap₂ (λ x l. x ∷ l) c.0 (rows_same ks rs ss (omega arith) h.1 g.1 c.1)

-- ---- the whole

letters_same : (ks ls : List Kind) → map letter ks ≡ map letter ls → ks ≡ ls
letters_same [] [] e = refl
letters_same [] (l ∷ ls) e = let z : ◌≡◌ {A = ℕ} 0 1 = cc in absurd (omega arith)
letters_same (k ∷ ks) [] e = let z : ◌≡◌ {A = ℕ} 0 1 = cc in absurd (omega arith)
letters_same (k ∷ ks) (l ∷ ls) e =
    let a : letter k ≡ letter l = cc in
    let t : map letter ks ≡ map letter ls = cc in
    ap₂ (λ x m. x ∷ m) (letter_same k l a) (letters_same ks ls t)
  where
    letter_same : (k l : Kind) → letter k ≡ letter l → k ≡ l
    letter_same kind.Number kind.Number e = refl
    letter_same kind.Number kind.Word e = absurd (omega arith)
    letter_same kind.Word kind.Number e = absurd (omega arith)
    letter_same kind.Word kind.Word e = refl

list_parts : (n : List ℕ) (ks : List Kind) (rs : List SpecRow) → list_text n ks rs ≡ n ++ space ∷ (map letter ks ++ space ∷ (decimal (length rs) ++ line_end ∷ flat_map (row_text ks) rs))
list_parts n ks rs = simp append_assoc

pub lists_differ : ListsDiffer
lists_differ n m ks ls rs ss h g e =
    let c = cut n m space space _ _ h.named g.named (omega arith) (omega arith) (sym (list_parts n ks rs) ∙ e ∙ list_parts m ls ss) in
    let d = cut (map letter ks) (map letter ls) space space _ _ (letters_solid ks) (letters_solid ls) (omega arith) (omega arith) c.1 in
    let f = cut (decimal (length rs)) (decimal (length ss)) line_end line_end _ _ (decimal_solid _ h.few) (decimal_solid _ g.few) (omega arith) (omega arith) d.1 in
    let kinds : ks ≡ ls = letters_same ks ls d.0 in
    let count : length rs ≡ length ss = decimal_injective _ _ h.few g.few f.0 in
    let each : AllOf (λ r. Period r × Held ks r.tuple) ss = rw kinds g.each in
    (c.0, kinds, rows_same ks rs ss count h.each each (f.1 ∙ ap (λ l. flat_map (row_text l) ss) (sym kinds)))
