-- Work areas that are blanked.
use Rattle.std.proofs.Common.{◌≡◌, ℕ, min, List, ◌++◌, length, take, drop, replicate, ap, ◌∙◌, arith}
use Rattle.std.proofs.lemmas.List.{length-take}
use Rattle.relation.specs.Bounds.{most_work}
use Rattle.collect.specs.Collects.{counted}
use Rattle.register.specs.State.{blanked}

-- the part that counts is filled
pub filled_blank : {X : Type 0} (area part : List X) (n : ℕ) (b blank : X) → part ≡ replicate (length (take n area)) b → n ≡ counted area → b ≡ blank → part ++ drop n area ≡ blanked blank area
filled_blank area part n b blank filled e f =
    let l : length (take n area) ≡ counted area = length-take n area ∙ omega arith in
    ap (λ p. p ++ drop n area) filled ∙ (λ j. replicate (l j) (f j) ++ drop (e j) area)

-- what was written before does not matter where the rest is the same
pub blanked_same : {X : Type 0} (b : X) (area area' : List X) → length area' ≡ length area → drop (counted area) area' ≡ drop (counted area) area → blanked b area' ≡ blanked b area
blanked_same b area area' l d =
    let c : counted area' ≡ counted area = ap (λ n. min n most_work) l in
    ap (λ k. replicate k b ++ drop k area') c ∙ ap (λ r. replicate (counted area) b ++ r) d
