-- Each layer over sound sources is sound: the lemmas that the sources' ghost members cite.
use Rattle.std.specs.List.{list_all}
use Rattle.std.specs.Prelude.{◌≡◌, ℕ, zero, suc, ◌+◌, ◌-◌, ◌<◌, ◌≤◌, min, max, Bool, true, false, cond, not, List, [], ◌∷◌, length, get_or, pos, Some, None, Option, nat_le, nat_lt, slice_index_or, refl}
use Rattle.std.proofs.Common.{sym, subst, arith}
use Rattle.std.proofs.lemmas.Bool.{ltb-true, ltb-false, leb-true, and_parts, and_from, false≢true}
use Rattle.std.proofs.lemmas.List.{length-map}
use Rattle.relation.specs.declared.kinds.Kind.{Kind}
use Rattle.relation.specs.declared.kinds.Kind.TheVariants.{Number, Word}
use Rattle.relation.specs.declared.conditions.Condition.{Condition}
use Rattle.relation.specs.declared.refusals.Reason.{Reason}
use Rattle.relation.specs.declared.refusals.Reason.TheVariants.{Misfit, TooManyPlaces}
use Rattle.relation.specs.Bounds.{most_columns, most_places}
use Rattle.relation.specs.Kinds.{same_kind}
use Rattle.relation.specs.Operations.{meets, picked}
use Rattle.relation.specs.Sets.{Tuple}
use Rattle.relation.specs.Values.{in_kind}
use Rattle.relation.specs.Rows.{SpecRow}
use Rattle.source.specs.Meaning.{Meaning, Sound, SoundAt, fits}
use Rattle.source.proofs.Cells.{cond_some}
use Rattle.layers.specs.Alike.{same_kinds}
use Rattle.layers.specs.Checks.{too_many, no_pair}
use Rattle.layers.specs.Windows.{cut, windowed}
use Rattle.layers.specs.Selects.{kept, selected}
use Rattle.layers.specs.Unions.{united, no_union}
use Rattle.layers.specs.Columns.{is_column, are_columns}
use Rattle.layers.specs.Projects.{picked_kinds, picked_row, projected, no_project}

-- a reason that does not apply
pub passed : (b : Bool) (o : Reason) (q : Option Reason) → cond (not b) (Some o) q ≡ None → (b ≡ true) × (q ≡ None)
passed true o q h = (refl, h)
passed false o q h = let z : ◌≡◌ {A = ℕ} 0 1 = cc in absurd (omega arith)

-- ---- window

cut_sound : (ks : List Kind) (n k first end : ℕ) (o : Option SpecRow) (w : SpecRow) → ((r : SpecRow) → o ≡ Some r → SoundAt ks n k r) → cut first end o ≡ Some w → SoundAt ks n k w
cut_sound ks n k first end None w s p = let z : ◌≡◌ {A = ℕ} 0 1 = cc in absurd (omega arith)
cut_sound ks n k first end (Some r) w s p =
    let both = cond_some (nat_lt (max first r.first) (min end r.end)) _ w p in
    let below = s r refl in
    let less = ltb-true (max first r.first) (min end r.end) both.0 in
    let same : record { tuple = r.tuple; first = max first r.first; end = min end r.end } ≡ w = cc in
    subst (SoundAt ks n k) same (record { below = below.below; fitting = below.fitting; period = (less, omega (arith, below.period.1)) })

pub windowed_sound : (m : Meaning) (first end : ℕ) → Sound m → Sound (windowed m first end)
windowed_sound m first end s = record {
  some_kinds = s.some_kinds;
  few_kinds = s.few_kinds;
  few = s.few;
  filled = λ k w p. cut_sound m.kinds m.count k first end (m.at k) w (s.filled k) p;
}

-- ---- select

pub kept_row : (q : Condition) (o : Option SpecRow) (w : SpecRow) → kept q o ≡ Some w → o ≡ Some w
kept_row q None w p = p
kept_row q (Some r) w p = (cond_some (meets q r.tuple) (Some r) w p).1

pub selected_sound : (m : Meaning) (q : Condition) → Sound m → Sound (selected m q)
selected_sound m q s = record {
  some_kinds = s.some_kinds;
  few_kinds = s.few_kinds;
  few = s.few;
  filled = λ k w p. s.filled k w (kept_row q (m.at k) w p);
}

-- ---- union

kind_same : (k l : Kind) → same_kind k l ≡ true → k ≡ l
kind_same Number Number h = refl
kind_same Number Word h = absurd (false≢true h)
kind_same Word Number h = absurd (false≢true h)
kind_same Word Word h = refl

kinds_same : (ks ls : List Kind) → same_kinds ks ls ≡ true → ks ≡ ls
kinds_same [] [] h = refl
kinds_same [] (l ∷ ls) h = absurd (false≢true h)
kinds_same (k ∷ ks) [] h = absurd (false≢true h)
kinds_same (k ∷ ks) (l ∷ ls) h =
    let both = and_parts (same_kind k l) (same_kinds ks ls) h in
    let here = kind_same k l both.0 in
    let rest = kinds_same ks ls both.1 in
    cc

moved : (ks ls : List Kind) (n m k j : ℕ) (r : SpecRow) → ks ≡ ls → (j < n → k < m) → SoundAt ks n j r → SoundAt ls m k r
moved ks ls n m k j r e h s = record { below = h s.below; fitting = subst (λ x. fits x r.tuple ≡ true) e s.fitting; period = s.period }

united_at : (a b : Meaning) (k : ℕ) (t : Bool) (r : SpecRow) → nat_lt k a.count ≡ t → Sound a → Sound b → a.kinds ≡ b.kinds → cond t (a.at k) (b.at (k - a.count)) ≡ Some r → SoundAt a.kinds (a.count + b.count) k r
united_at a b k true r e sa sb same p = moved _ _ a.count (a.count + b.count) k k r refl (λ h. omega arith) (sa.filled k r p)
united_at a b k false r e sa sb same p = moved _ _ b.count (a.count + b.count) k (k - a.count) r (sym same) (λ h. omega (arith, ltb-false k a.count e)) (sb.filled (k - a.count) r p)

-- two sources under a layer of n places that is not refused
pub pair_passed : (a b : Meaning) (n : ℕ) → no_pair a b n ≡ None → (a.kinds ≡ b.kinds) × (n ≤ most_places)
pair_passed a b n allowed =
    let kinds = passed (same_kinds a.kinds b.kinds) Misfit (too_many n) allowed in
    let places = passed (nat_le n most_places) TooManyPlaces None kinds.1 in
    (kinds_same a.kinds b.kinds kinds.0, leb-true n most_places places.0)

pub united_sound : (a b : Meaning) → Sound a → Sound b → no_union a b ≡ None → Sound (united a b)
united_sound a b sa sb allowed =
    let both = pair_passed a b (a.count + b.count) allowed in
    record {
      some_kinds = sa.some_kinds;
      few_kinds = sa.few_kinds;
      few = both.1;
      filled = λ k r p. united_at a b k (nat_lt k a.count) r refl sa sb both.0 p;
    }

-- ---- project

fits_at : (ks : List Kind) (zs : Tuple) (i : ℕ) → fits ks zs ≡ true → i < length ks → in_kind (slice_index_or ks i Number) (slice_index_or zs i (pos 0)) ≡ true
fits_at [] zs i h lt = absurd (omega arith)
fits_at (k ∷ ks) [] i h lt = absurd (false≢true h)
fits_at (k ∷ ks) (z ∷ zs) zero h lt = (and_parts (in_kind k z) (fits ks zs) h).0
fits_at (k ∷ ks) (z ∷ zs) (suc i) h lt = fits_at ks zs i (and_parts (in_kind k z) (fits ks zs) h).1 (omega arith)

pub is_column_lem : (n c : ℕ) → is_column n c ≡ true → (1 ≤ c) × (c ≤ n)
is_column_lem n c h = let both = and_parts (nat_le 1 c) (nat_le c n) h in (leb-true 1 c both.0, leb-true c n both.1)

picked_fits : (ks : List Kind) (zs : Tuple) (cs : List ℕ) → fits ks zs ≡ true → list_all (is_column (length ks)) cs ≡ true → fits (picked_kinds cs ks) (picked cs zs) ≡ true
picked_fits ks zs [] h e = refl
picked_fits ks zs (c ∷ cs) h e =
    let both = and_parts (is_column (length ks) c) (list_all (is_column (length ks)) cs) e in
    let within = is_column_lem (length ks) c both.0 in
    and_from (in_kind (slice_index_or ks (c - 1) Number) (slice_index_or zs (c - 1) (pos 0))) _ (fits_at ks zs (c - 1) h (omega (arith, within.0, within.1))) (picked_fits ks zs cs h both.1)

-- what the columns of a project keep to
pub record Chosen (n : ℕ) (cs : List ℕ) : Type 0 where
  pub some : 1 ≤ length cs
  pub few : length cs ≤ most_columns
  pub each : list_all (is_column n) cs ≡ true

pub are_columns_lem : (m : Meaning) (cs : List ℕ) → no_project m cs ≡ None → Chosen (length m.kinds) cs
are_columns_lem m cs allowed =
    let all = passed (are_columns (length m.kinds) cs) _ _ allowed in
    let some = and_parts (nat_le 1 (length cs)) _ all.0 in
    let few = and_parts (nat_le (length cs) most_columns) (list_all (is_column (length m.kinds)) cs) some.1 in
    record { some = leb-true 1 (length cs) some.0; few = leb-true (length cs) most_columns few.0; each = few.1 }

picked_sound : (ks : List Kind) (n k : ℕ) (cs : List ℕ) (o : Option SpecRow) (w : SpecRow) → list_all (is_column (length ks)) cs ≡ true → ((r : SpecRow) → o ≡ Some r → SoundAt ks n k r) → picked_row cs o ≡ Some w → SoundAt (picked_kinds cs ks) n k w
picked_sound ks n k cs None w e s p = let z : ◌≡◌ {A = ℕ} 0 1 = cc in absurd (omega arith)
picked_sound ks n k cs (Some r) w e s p =
    let below = s r refl in
    let same : record { tuple = picked cs r.tuple; first = r.first; end = r.end } ≡ w = cc in
    subst (SoundAt (picked_kinds cs ks) n k) same (record { below = below.below; fitting = picked_fits ks r.tuple cs below.fitting e; period = below.period })

pub projected_sound : (m : Meaning) (cs : List ℕ) → Sound m → no_project m cs ≡ None → Sound (projected m cs)
projected_sound m cs s allowed =
    let columns = are_columns_lem m cs allowed in
    let long = length-map cs (λ c. get_or m.kinds (c - 1) Number) in
    record {
      some_kinds = omega (arith, long, columns.some);
      few_kinds = omega (arith, long, columns.few);
      few = s.few;
      filled = λ k w p. picked_sound m.kinds m.count k cs (m.at k) w columns.each (s.filled k) p;
    }
