-- What the rows are after a place is opened or closed.
use Rattle.std.proofs.Common.{◌≡◌, ℕ, ◌+◌, ◌-◌, ◌<◌, ◌≤◌, List, [], ◌∷◌, ◌++◌, length, get_or, take, drop, replicate, arith, rules}
use borrow.Rule.Slice.PartMut.{put_mid}
use Rattle.std.proofs.lemmas.List.{same_lists, places}

module _ {X : Type 0} (rs : List X) where
  abbrev pub opened : ℕ → ℕ → X → List X
  opened at used row = take at rs ++ (row ∷ (take (used - at) (drop at rs) ++ drop (used + 1) rs))

  abbrev pub replaced : ℕ → ℕ → List X → ℕ → X → List X
  replaced at count new used b = take at rs ++ (new ++ (take (used - at - count) (drop (at + count) rs) ++ (replicate (count - length new) b ++ drop used rs)))

  abbrev pub closed : ℕ → ℕ → ℕ → X → List X
  closed at count used b = take at rs ++ (take (used - at - count) (drop (at + count) rs) ++ (replicate count b ++ drop used rs))

  module _ (s c q at used : ℕ) (row : X) (here : at ≡ s + c) (end : used ≡ at + q) (room : used < length rs) where
    pub opened_length : length (opened at used row) ≡ length rs
    opened_length = search (rules, places)

    pub opened_front : take s (opened at used row) ≡ take s rs
    opened_front = same_lists _ _ (search (rules, places)) (λ k d h. grind (arith, places))

    pub opened_rest : take (length (take c (drop s rs) ++ row ∷ []) + q) (drop s (opened at used row)) ≡ (take c (drop s rs) ++ row ∷ []) ++ take q (drop (s + c) rs)
    opened_rest = same_lists _ _ (search (rules, places)) (λ k d h. grind (arith, places))

    pub opened_past : (n : ℕ) → used < n → drop n (opened at used row) ≡ drop n rs
    opened_past n past = same_lists _ _ (search (rules, places)) (λ k d h. grind (arith, places))

    pub opened_at : (k : ℕ) (d : X) → used < k → get_or (opened at used row) k d ≡ get_or rs k d
    opened_at k d h = grind (arith, places)

  module _ (s c q at used : ℕ) (b : X) (here : at ≡ s) (end : used ≡ s + (c + q)) (room : used ≤ length rs) where
    pub closed_length : length (closed at c used b) ≡ length rs
    closed_length = search (rules, places)

    pub closed_front : take s (closed at c used b) ≡ take s rs
    closed_front = same_lists _ _ (search (rules, places)) (λ k d h. grind (arith, places))

    pub closed_rest : take q (drop s (closed at c used b)) ≡ take q (drop (s + c) rs)
    closed_rest = same_lists _ _ (search (rules, places)) (λ k d h. grind (arith, places))

    pub closed_past : (n : ℕ) → used ≤ n → drop n (closed at c used b) ≡ drop n rs
    closed_past n past = same_lists _ _ (search (rules, places)) (λ k d h. grind (arith, places))

    pub closed_at : (k : ℕ) (d : X) → used ≤ k → get_or (closed at c used b) k d ≡ get_or rs k d
    closed_at k d h = grind (arith, places)

    pub closed_blank : (k : ℕ) (d : X) → s + q ≤ k → k < used → get_or (closed at c used b) k d ≡ b
    closed_blank k d h l = grind (arith, places)

  module _ (s c q at used : ℕ) (new : List X) (b : X) (here : at ≡ s) (end : used ≡ s + (c + q)) (room : used ≤ length rs) (less : length new ≤ c) where
    pub replaced_length : length (replaced at c new used b) ≡ length rs
    replaced_length = search (rules, places)

    pub replaced_front : take s (replaced at c new used b) ≡ take s rs
    replaced_front = same_lists _ _ (search (rules, places)) (λ k d h. grind (arith, places))

    pub replaced_rest : take (length new + q) (drop s (replaced at c new used b)) ≡ new ++ take q (drop (s + c) rs)
    replaced_rest = same_lists _ _ (search (rules, places)) (λ k d h. grind (arith, places))

    pub replaced_past : (n : ℕ) → used ≤ n → drop n (replaced at c new used b) ≡ drop n rs
    replaced_past n past = same_lists _ _ (search (rules, places)) (λ k d h. grind (arith, places))

    pub replaced_at : (k : ℕ) (d : X) → used ≤ k → get_or (replaced at c new used b) k d ≡ get_or rs k d
    replaced_at k d h = grind (arith, places)

    pub replaced_blank : (k : ℕ) (d : X) → s + length new + q ≤ k → k < used → get_or (replaced at c new used b) k d ≡ b
    replaced_blank k d h l = grind (arith, places)

-- a part of the rows is changed where it lies
module _ {X : Type 0} (rs : List X) (at used : ℕ) (low : at ≤ used) where
  pub opened_part : (row : X) → used < length rs → put_mid at (used + 1 - at) rs (row ∷ take (length (take (used + 1 - at) (drop at rs)) - 1) (take (used + 1 - at) (drop at rs))) ≡ opened rs at used row
  opened_part row room = same_lists _ _ (search (rules, places)) (λ k d h. grind (arith, places))

  pub closed_part : (c : ℕ) (b : X) → at + c ≤ used → used ≤ length rs → put_mid at (used - at) rs (drop c (take (used - at) (drop at rs)) ++ replicate c b) ≡ closed rs at c used b
  closed_part c b less room = same_lists _ _ (search (rules, places)) (λ k d h. grind (arith, places))

  pub replaced_part : (c : ℕ) (new : List X) (b : X) → at + c ≤ used → length new ≤ c → used ≤ length rs →
      put_mid at (used - at) rs (new ++ (drop c (take (used - at) (drop at rs)) ++ replicate (c - length new) b)) ≡ replaced rs at c new used b
  replaced_part c new b less fits room = same_lists _ _ (search (rules, places)) (λ k d h. grind (arith, places))
