-- A plan that was made and collected holds the sets that the ordinary operations give.
use Rattle.std.proofs.Common.{◌≡◌, ℕ, List, Some, None, Ok, Err, Option, Result, sym, ap, ◌∙◌, subst, arith}
use Rattle.relation.specs.declared.refusals.Reason.{Reason}
use Rattle.relation.specs.declared.refusals.Refusal.{Refusal}
use Rattle.relation.specs.declared.rows.Row.{Row}
use Rattle.relation.specs.Refusals.{plain?, Answers}
use Rattle.relation.specs.Sets.{Same}
use Rattle.source.specs.Meaning.{Meaning, day_set}
use Rattle.tree.specs.declared.Node.{Node}
use Rattle.collect.specs.Collects.{first_of, no_collect, Collects}
use Rattle.tallies.specs.declared.rules.Tally.{Tally}
use Rattle.tally.specs.Tallying.{no_tally, Tallies}
use Rattle.tally.proofs.OverSets.{leaves_over, tallies_over}
use Rattle.layers.specs.Windows.{windowed, no_window}
use Rattle.plans.specs.Plans.{Plan, window, meant, given}
use Rattle.plans.specs.Questions.{IsPlan}
use Rattle.plans.proofs.Laws.{law}

-- a plan p of meaning m that was made: the reasons q against it do not apply
pub record Made (q : Option Reason) (p : Plan) (m : Meaning) : Type 0 where
  pub allowed : q ≡ None
  pub plan : IsPlan m p

pub made_window : (first end : ℕ) (p : Plan) (a m : Meaning) → IsPlan a p → no_window first end ≡ None → m ≡ windowed a first end → IsPlan m (window first end p)
made_window first end p a m h e is = record { means = is ∙ ap (λ x. windowed x first end) h.means; accepted = (h.accepted, e) }

-- a reason that comes first stays first
pub plain_first : (a b : Option Reason) (x : Refusal) → plain? a ≡ Some x → plain? (first_of a b) ≡ Some x
plain_first None b x h = let z : ◌≡◌ {A = ℕ} 0 1 = cc in absurd (omega arith)
plain_first (Some o) b x h = h

-- the last layer's answer is that of the whole
pub answered_over : {X : Type 0} (q r : Option Reason) → q ≡ None → (P Q : X → Type 0) → ((x : X) → (r ≡ None) × P x → Q x) → (y : Result X Refusal) → Answers y r P → Answers y (first_of q r) Q
answered_over q r none P Q f (Ok x) h = (ap (λ y. first_of y r) none ∙ h.0, f x h)
answered_over q r none P Q f (Err e) h = ap (λ y. plain? (first_of y r)) none ∙ h

-- the sets of a plan are what the ordinary operations give
given_sets : (p : Plan) (m : Meaning) → IsPlan m p → (d : ℕ) → Same (day_set m d) (given p d)
given_sets p m h = subst (λ x. (d : ℕ) → Same (day_set x d) (given p d)) (sym h.means) (law p h.accepted).sets

pub answered : (q : Option Reason) (p : Plan) (m : Meaning) → Made q p m → (rows : List Row) (index : List Node) (r : Result ℕ Refusal) (rows' : List Row) (index' : List Node)
    → Collects (no_collect m rows index) (day_set m) rows index r rows' index'
    → Collects (first_of q (no_collect (meant p) rows index)) (given p) rows index r rows' index'
answered q p m h rows index (Ok n) rows' index' c = (
  ap (λ x. first_of x (no_collect (meant p) rows index)) h.allowed ∙ ap (λ x. no_collect x rows index) (sym h.plan.means) ∙ c.0,
  leaves_over (day_set m) (given p) rows index n rows' index' (given_sets p m h.plan) c.1,
)
answered q p m h rows index (Err x) rows' index' c =
    (ap (λ y. plain? (first_of y (no_collect (meant p) rows index))) h.allowed ∙ ap (λ y. plain? (no_collect y rows index)) (sym h.plan.means) ∙ c.0, c.1, c.2)

-- the same of a plan that is tallied
pub totals_answered : (q : Option Reason) (p : Plan) (m : Meaning) → Made q p m → (w : Tally) (by : List ℕ) (rows : List Row) (index : List Node) (r : Result ℕ Refusal) (rows' : List Row) (index' : List Node)
    → Tallies (no_tally m w by rows index) w by (day_set m) rows index r rows' index'
    → Tallies (first_of q (no_tally (meant p) w by rows index)) w by (given p) rows index r rows' index'
totals_answered q p m h w by rows index r rows' index' c =
    let reason : no_tally m w by rows index ≡ first_of q (no_tally (meant p) w by rows index) = sym (ap (λ x. first_of x (no_tally (meant p) w by rows index)) h.allowed ∙ ap (λ x. no_tally x w by rows index) (sym h.plan.means)) in
    subst (λ x. Tallies x w by (given p) rows index r rows' index') reason (tallies_over (no_tally m w by rows index) w by (day_set m) (given p) (given_sets p m h.plan) rows index r rows' index' c)
