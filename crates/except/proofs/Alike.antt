-- Equal kinds.
use Rattle.std.proofs.Common.{◌≡◌, List, [], ◌∷◌, length, Decides, refl, ap, ap₂, arith}
use Rattle.std.proofs.lemmas.Bool.{false≢true}
use Rattle.std.proofs.lemmas.Bool.Decides.{Decides-and, Decides-like}
use Rattle.relation.specs.declared.kinds.Kind.{Kind}
use Rattle.relation.specs.Kinds.{same_kind}
use Rattle.relation.proofs.KindsTold.{same_kind as same_kind_told}
use Rattle.layers.specs.Alike.{same_kinds}

pub same_kinds_lem : (ks ls : List Kind) → Decides (same_kinds ks ls) (ks ≡ ls)
same_kinds_lem [] [] = (λ e. refl, λ e. refl)
same_kinds_lem [] (l ∷ ls) = (λ e. absurd (false≢true e), λ e. let n = ap length e in absurd (omega arith))
same_kinds_lem (k ∷ ks) [] = (λ e. absurd (false≢true e), λ e. let n = ap length e in absurd (omega arith))
same_kinds_lem (k ∷ ks) (l ∷ ls) = Decides-like (same_kinds (k ∷ ks) (l ∷ ls)) (λ p. ap₂ ◌∷◌ p.0 p.1) (λ e. (cc, cc)) (Decides-and (same_kind k l) (same_kinds ks ls) (same_kind_told k l) (same_kinds_lem ks ls))
