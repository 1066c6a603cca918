-- A reason that comes first and does not apply, and layers over layers that are a plan.
use Rattle.std.proofs.Common.{◌≡◌, ℕ, List, None, Option, Result, sym, ap, ◌∙◌, subst}
use Rattle.relation.specs.declared.refusals.Reason.{Reason}
use Rattle.relation.specs.declared.refusals.Refusal.{Refusal}
use Rattle.relation.specs.declared.rows.Row.{Row}
use Rattle.relation.specs.declared.conditions.Condition.{Condition}
use Rattle.relation.specs.Refusals.{Answers}
use Rattle.relation.specs.Sets.{TupleSet}
use Rattle.source.specs.Meaning.{Meaning, Sound}
use Rattle.tree.specs.declared.Node.{Node}
use Rattle.collect.specs.Collects.{first_of, Collects}
use Rattle.layers.specs.Selects.{selected, no_select}
use Rattle.join.specs.Joins.{joined_of, no_join}
use Rattle.plans.specs.Plans.{Plan, source, select, join, meant}
use Rattle.plans.specs.Questions.{IsPlan}
use Rattle.plans.proofs.Answered.{answered_over}

pub past : (q b : Option Reason) (f : ℕ → TupleSet) (rows : List Row) (index : List Node) (r : Result ℕ Refusal) (rows' : List Row) (index' : List Node)
    → q ≡ None → Collects b f rows index r rows' index' → Collects (first_of q b) f rows index r rows' index'
past q b f rows index r rows' index' e h = subst (λ x. Collects (first_of x b) f rows index r rows' index') (sym e) h

-- a join, or a select, of layers that are a plan
pub joined_plan : {X : Type 0} (ps : List (ℕ × ℕ)) (q : Option Reason) (p : Plan) (a b : Meaning) (means : X → Meaning) (P : X → Type 0) (y : Result X Refusal)
    → q ≡ None → IsPlan a p → Sound b → ((x : X) → P x → means x ≡ joined_of ps a b) → Answers y (no_join ps a b) P
    → Answers y (first_of q (no_join ps (meant p) b)) (λ x. IsPlan (means x) (join ps p (source b)))
joined_plan ps q p a b means P y none h s is e =
    answered_over q (no_join ps (meant p) b) none P (λ x. IsPlan (means x) (join ps p (source b)))
    (λ x k. record { means = is x k.1 ∙ ap (λ m. joined_of ps m b) h.means; accepted = (h.accepted, s, k.0) }) y (subst (λ m. Answers y (no_join ps m b) P) h.means e)

pub selected_plan : {X : Type 0} (o : Condition) (q : Option Reason) (p : Plan) (a : Meaning) (means : X → Meaning) (P : X → Type 0) (y : Result X Refusal)
    → q ≡ None → IsPlan a p → ((x : X) → P x → means x ≡ selected a o) → Answers y (no_select a o) P
    → Answers y (first_of q (no_select (meant p) o)) (λ x. IsPlan (means x) (select o p))
selected_plan o q p a means P y none h is e =
    answered_over q (no_select (meant p) o) none P (λ x. IsPlan (means x) (select o p))
    (λ x k. record { means = is x k.1 ∙ ap (λ m. selected m o) h.means; accepted = (h.accepted, k.0) }) y (subst (λ m. Answers y (no_select m o) P) h.means e)
