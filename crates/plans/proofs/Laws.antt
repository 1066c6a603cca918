-- The law of plans, by induction on the plan.
use Rattle.std.proofs.Common.{◌+◌, ◌*◌, not, leb, length}
use Rattle.std.proofs.lemmas.Bool.{leb-true, and_parts}
use Rattle.relation.specs.Bounds.{most_columns, most_places}
use Rattle.relation.specs.Sets.{TupleSet, Same}
use Rattle.relation.specs.Operations as ordinary
use Rattle.source.specs.Meaning.{day_set}
use Rattle.layers.specs.Soundness.{passed, pair_passed, selected_sound, projected_sound, windowed_sound, united_sound}
use Rattle.layers.proofs.DaySets.{selects, projects, windows, unites}
use Rattle.join.specs.Pairs.{fitting, repeated}
use Rattle.join.specs.Joins.{joined_of, joinable}
use Rattle.join.proofs.Sounding.{joined_sound}
use Rattle.join.proofs.JoinDays.{join_of_days}
use Rattle.except.specs.Sounds.{excepted_sound}
use Rattle.except.proofs.Days.{day_sets_excepted}
use Rattle.plans.specs.Plans.{source, select, project, window, union, join, except, meant, given, LawOfPlans}
use Rattle.plans.proofs.Congruent.{select_same, project_same, window_same, union_same, join_same, except_same}

over : (S U V : TupleSet) → Same S U → Same U V → Same S V
over S U V h k t = (λ m. (k t).0 ((h t).0 m), λ m. (h t).1 ((k t).1 m))

pub law : LawOfPlans
law (source m) h = record { sound = h; sets = λ d t. (λ x. x, λ x. x) }
law (select q p) h =
    let l = law p h.0 in
    record { sound = selected_sound (meant p) q l.sound; sets = λ d. over _ (ordinary.select q (day_set (meant p) d)) _ (selects (meant p) q d) (select_same q (day_set (meant p) d) (given p d) (l.sets d)) }
law (project cs p) h =
    let l = law p h.0 in
    record { sound = projected_sound (meant p) cs l.sound h.1; sets = λ d. over _ (ordinary.project cs (day_set (meant p) d)) _ (projects (meant p) cs d) (project_same cs (day_set (meant p) d) (given p d) (l.sets d)) }
law (window first end p) h =
    let l = law p h.0 in
    record { sound = windowed_sound (meant p) first end l.sound; sets = λ d. over _ (ordinary.window first end d (day_set (meant p) d)) _ (windows (meant p) first end d) (window_same first end d (day_set (meant p) d) (given p d) (l.sets d)) }
law (union p r) h =
    let l = law p h.0 in
    let k = law r h.1 in
    record { sound = united_sound (meant p) (meant r) l.sound k.sound h.2; sets = λ d. over _ (ordinary.union (day_set (meant p) d) (day_set (meant r) d)) _ (unites (meant p) (meant r) d) (union_same (day_set (meant p) d) (given p d) (day_set (meant r) d) (given r d) (l.sets d) (k.sets d)) }
law (join ps p r) h =
    let l = law p h.0 in
    let k = law r h.1 in
    let fit = passed (joinable ps (meant p) (meant r)) _ _ h.2 in
    let few = passed (leb (joined_of ps (meant p) (meant r)).count most_places) _ _ fit.1 in
    let narrow = (and_parts (not (repeated ps)) _ (and_parts (fitting ps (meant p).kinds (meant r).kinds) _ (and_parts (leb (length ps) most_columns) _ fit.0).1).1).1 in
    record {
      sound = joined_sound ps (meant p) (meant r) l.sound k.sound (leb-true _ _ narrow) (leb-true _ _ few.0);
      sets = λ d. over _ (ordinary.join ps (day_set (meant p) d) (day_set (meant r) d)) _ (join_of_days ps (meant p) (meant r) l.sound k.sound d) (join_same ps (day_set (meant p) d) (given p d) (day_set (meant r) d) (given r d) (l.sets d) (k.sets d));
    }
law (except p r) h =
    let l = law p h.0 in
    let k = law r h.1 in
    let within = (pair_passed (meant p) (meant r) ((meant p).count * ((meant r).count + 1)) h.2).1 in
    record {
      sound = excepted_sound (meant p) (meant r) l.sound within;
      sets = λ d. over _ (ordinary.except (day_set (meant p) d) (day_set (meant r) d)) _ (day_sets_excepted (meant p) (meant r) l.sound k.sound within d) (except_same (day_set (meant p) d) (given p d) (day_set (meant r) d) (given r d) (l.sets d) (k.sets d));
    }
