-- Reading a value for each kind, one kind on.
use Rattle.std.proofs.Common.{◌≡◌, ℕ, ◌<◌, ◌≤◌, leb, List, [], ◌∷◌, ◌++◌, length, drop, ℤ, Some, None, Option, sym, refl, ap, ◌∙◌, append_assoc, append-nil, arith}
use Rattle.std.specs.Option.{option_map}
use Rattle.std.proofs.lemmas.Bool.{cond-true, cond-false, le-leb, lt-leb}
use Rattle.relation.specs.declared.kinds.Kind.{Kind}
use Rattle.relation.specs.Bounds.{most_columns}
use Rattle.takers.specs.Take.{Text, ◌then◌, nothing}
use Rattle.lists.specs.ListLines.{take_as, fits, fitted}

-- the values in the end, where acc has been read and the words ws are left for the kinds ks
abbrev pub Goes : List ℤ → List Kind → List Text → Option (List ℤ)
Goes acc ks ws = option_map (λ zs. acc ++ zs) (fits ks ws)

pub goes_from_none : (ks : List Kind) (ws : List Text) → Goes [] ks ws ≡ fits ks ws
goes_from_none ks ws = same (fits ks ws)
  where
    same : (o : Option (List ℤ)) → option_map (λ zs. [] ++ zs) o ≡ o
    same None = refl
    same (Some zs) = refl

pub goes_on : (acc : List ℤ) (k : Kind) (ks : List Kind) (ws on : List Text) (z : ℤ) → take_as k ws ≡ Some (z, on) → Goes acc (k ∷ ks) ws ≡ Goes (acc ++ z ∷ []) ks on
goes_on acc k ks ws on z e = ap (λ o. option_map (λ zs. acc ++ zs) (o then (λ r. fits ks r.1 then (λ zs. Some (r.0 ∷ zs))))) e ∙ rest (fits ks on)
  where
    rest : (o : Option (List ℤ)) → option_map (λ zs. acc ++ zs) (o then (λ zs. Some (z ∷ zs))) ≡ option_map (λ zs. (acc ++ z ∷ []) ++ zs) o
    rest None = refl
    rest (Some zs) = ap (λ l. Some l) (sym (append_assoc acc (z ∷ []) zs))

pub goes_no_further : (acc : List ℤ) (k : Kind) (ks : List Kind) (ws : List Text) → take_as k ws ≡ None → Goes acc (k ∷ ks) ws ≡ None
goes_no_further acc k ks ws e = ap (λ o. option_map (λ zs. acc ++ zs) (o then (λ r. fits ks r.1 then (λ zs. Some (r.0 ∷ zs))))) e

pub goes_to_end : (acc : List ℤ) (ws : List Text) (u : Unit {0}) → Some u ≡ nothing ws → Goes acc [] ws ≡ Some acc
goes_to_end acc [] u e = ap (λ l. Some l) (append-nil acc)
goes_to_end acc (w ∷ ws) u e = let z : ◌≡◌ {A = ℕ} 0 1 = cc in absurd (omega arith)

pub goes_too_far : (acc : List ℤ) (ws : List Text) → None ≡ nothing ws → Goes acc [] ws ≡ None
goes_too_far acc [] e = let z : ◌≡◌ {A = ℕ} 0 1 = cc in absurd (omega arith)
goes_too_far acc (w ∷ ws) e = refl

pub too_many : (ks : List Kind) (ws : List Text) → most_columns < length ks → fitted ks ws ≡ None
too_many ks ws h = cond-false (leb (length ks) most_columns) (fits ks ws) None (lt-leb _ _ h)

pub not_too_many : (ks : List Kind) (ws : List Text) → length ks ≤ most_columns → fitted ks ws ≡ fits ks ws
not_too_many ks ws h = cond-true (leb (length ks) most_columns) (fits ks ws) None (le-leb _ _ h)
