-- Whether a slip fits, and which refusal a put gives.
use Rattle.std.proofs.Common.{◌≡◌, ℕ, ◌<◌, Bool, true, false, cond, not, ◌&&◌, eqb, ltb, List, [], length, get_or, is_some, Some, None, Option, sym, refl, ap, ◌∙◌, subst, arith, Decides, MatchOption}
use Rattle.std.specs.Bool.{then_some}
use Rattle.std.proofs.lemmas.Option.{none-some, same_Some}
use Rattle.std.proofs.lemmas.Bool.{both_ways, and_parts, and_left, eq-eqb, ne_eqb, cond-true, cond-false, not_from_true, not_from_false}
use Rattle.relation.specs.declared.kinds.Kind.{Kind}
use Rattle.relation.specs.declared.rows.Row.{Row}
use Rattle.relation.specs.declared.refusals.Reason.{Reason}
use Rattle.relation.specs.declared.refusals.Reason.TheVariants as no
use Rattle.relation.specs.Bounds.{most_entries}
use Rattle.relation.specs.Values.{word}
use Rattle.words.specs.Name.{is_name}
use Rattle.register.specs.declared.entries.Mark.{Mark}
use Rattle.register.specs.declared.entries.Mark.TheVariants.{Free, Draft, Published}
use Rattle.register.specs.declared.slips.Slip.{Slip}
use Rattle.register.specs.declared.store.Store.{Store}
use Rattle.relation.specs.Few.{items}
use Rattle.register.specs.Layout.{Part, Finds, entry_part, parts, bears, bearer, bearing, free, is_draft, is_published}
use Rattle.register.specs.State.{held, Whole, is_there, mark_of, mark_at, code_at, used, rows_of, drafted, published, kinds_of, size_of}
use Rattle.register.specs.declared.entries.Entry.{Entry}
use Rattle.relation.specs.declared.refusals.Refusal.{Refusal}
use Rattle.relation.specs.Refusals.{plain, plain?}
use Rattle.tree.specs.declared.Node.{Node}
use Rattle.register.specs.Refusals.{slip_fits, put_no, publish_no, work_no, handed_back, abandon_no, drop_no, row_no, or_else}
use Rattle.register.proofs.Naming.{length_parts, parts_at, named_none, bears_name}
use Rattle.register.proofs.Changes.{held_at, old, draft_bears}

-- what a mark is that passes a test
pub draft_from : (m : Mark) → is_draft m ≡ true → m ≡ Draft
draft_from Free h = absurd (both_ways false refl h)
draft_from Draft h = refl
draft_from Published h = absurd (both_ways false refl h)

pub published_from : (m : Mark) → is_published m ≡ true → m ≡ Published
published_from Free h = absurd (both_ways false refl h)
published_from Draft h = absurd (both_ways false refl h)
published_from Published h = refl

pub held_place : (s : Store) (n i : ℕ) → Whole s → i < length s.directory.entries → bearer (get_or s.directory.entries i free) n ≡ true →
    held s n ≡ Some (entry_part (get_or s.directory.entries i free) (old s.directory.entries s.rows.now i))
held_place s n i whole h b = held_at s.directory.entries s.rows.now i n whole.apart h b

pub held_none : (s : Store) (n : ℕ) → ((k : ℕ) → bearer (get_or s.directory.entries k free) n ≡ false) → held s n ≡ None
held_none s n none =
    named_none (parts s.directory.entries s.rows.now) n (entry_part free [])
    (λ k l.
    let l' : k < length s.directory.entries = omega (arith, l, length_parts s.directory.entries s.rows.now) in
    ap (λ p. bearing p n) (parts_at s.directory.entries s.rows.now k (entry_part free []) l') ∙ none k)

-- whether anything has the name
pub has_is : (s : Store) (n : ℕ) (o : Option ℕ) (b : Bool) → Whole s → Finds s.directory.entries n o → b ≡ is_some o →
    (b ≡ is_there (held s n)) × (b ≡ false → (k : ℕ) → bearer (get_or s.directory.entries k free) n ≡ false)
has_is s n None b whole f e = (e ∙ sym (ap is_there (held_none s n f)), λ _. f)
has_is s n (Some i) b whole f e = (e ∙ sym (ap is_there (held_place s n i whole f.0 f.1)), λ h. absurd (both_ways b h e))

-- ---- the place of what has a name and a mark

pub place_none : (s : Store) (n : ℕ) (m : Mark) → ((k : ℕ) → bearer (get_or s.directory.entries k free) n ≡ false) → mark_of (held s n) ≡ Some m → ⊥
place_none s n m none e = none-some m (sym (ap mark_of (held_none s n none)) ∙ e)

-- what is known of a place that has a name and a mark
abbrev pub Placed : Store → ℕ → Mark → ℕ → Type 0
Placed s n m i = (mark_of (held s n) ≡ Some m) × (i < most_entries) × (mark_at s i ≡ m) × (code_at s i ≡ n)

pub place_some : (s : Store) (n i : ℕ) (m : Mark) (e : Entry) (b : Bool) (o : Option ℕ) → Whole s → i < length s.directory.entries → bearer (get_or s.directory.entries i free) n ≡ true →
    e ≡ get_or s.directory.entries i free → Decides b (e.mark ≡ m) → o ≡ then_some b i → MatchOption o (mark_of (held s n) ≡ Some m → ⊥) (Placed s n m)
place_some s n i m e b o whole h bears same d is = subst (λ x. MatchOption x (mark_of (held s n) ≡ Some m → ⊥) (Placed s n m)) (sym is) (go b d)
  where
    marked : mark_of (held s n) ≡ Some e.mark
    marked = ap mark_of (held_place s n i whole h bears) ∙ ap (λ x. Some x.mark) (sym same)

    go : (b : Bool) → Decides b (e.mark ≡ m) → MatchOption (then_some b i) (mark_of (held s n) ≡ Some m → ⊥) (Placed s n m)
    go true t = let d = t.0 refl in (marked ∙ ap Some d, omega (arith, h, whole.all), ap (λ x. x.mark) (sym same) ∙ d, bears_name (mark_at s i) (code_at s i) n bears)
    go false t = λ k. both_ways false refl (t.1 (same_Some e.mark m (sym marked ∙ k)))

-- ---- slips

pub fits_number : (number : ℕ) (s : Store) (slip : Slip) → (slip.register ≡ number → ⊥) → slip_fits number s slip ≡ false
fits_number number s slip ne = and_left (eqb slip.register number) (drafted (held s slip.name.code)) (ne_eqb slip.register number ne)

fits_by : (number : ℕ) (s : Store) (slip : Slip) → slip.register ≡ number → slip_fits number s slip ≡ drafted (held s slip.name.code)
fits_by number s slip e = ap (λ b. b && drafted (held s slip.name.code)) (eq-eqb slip.register number e)

marked_drafted : (o : Option Part) → (mark_of o ≡ Some Draft → ⊥) → drafted o ≡ false
marked_drafted None h = refl
marked_drafted (Some p) h = go p.mark (λ e. h (ap Some e))
  where
    go : (m : Mark) → (m ≡ Draft → ⊥) → is_draft m ≡ false
    go Free h = refl
    go Draft h = absurd (h refl)
    go Published h = refl

drafted_marked : (o : Option Part) → mark_of o ≡ Some Draft → drafted o ≡ true
drafted_marked None h = absurd (none-some Draft h)
drafted_marked (Some p) h = ap is_draft (same_Some p.mark Draft h)

marked_published : (o : Option Part) → (mark_of o ≡ Some Published → ⊥) → published o ≡ false
marked_published None h = refl
marked_published (Some p) h = go p.mark (λ e. h (ap Some e))
  where
    go : (m : Mark) → (m ≡ Published → ⊥) → is_published m ≡ false
    go Free h = refl
    go Draft h = refl
    go Published h = absurd (h refl)

published_marked : (o : Option Part) → mark_of o ≡ Some Published → published o ≡ true
published_marked None h = absurd (none-some Published h)
published_marked (Some p) h = ap is_published (same_Some p.mark Published h)

-- what is known of an entry that a slip fits

abbrev pub Fitted : ℕ → Store → Slip → ℕ → Type 0
Fitted number s slip i = (slip_fits number s slip ≡ true) × (i < most_entries) × (mark_at s i ≡ Draft) × (code_at s i ≡ slip.name.code)

-- what the search for a slip's draft finds
pub slip_place : (number : ℕ) (s : Store) (slip : Slip) (o : Option ℕ) → slip.register ≡ number →
    MatchOption o (mark_of (held s slip.name.code) ≡ Some Draft → ⊥) (Placed s slip.name.code Draft) → MatchOption o (slip_fits number s slip ≡ false) (Fitted number s slip)
slip_place number s slip None e h = fits_by number s slip e ∙ marked_drafted (held s slip.name.code) h
slip_place number s slip (Some i) e h = (fits_by number s slip e ∙ drafted_marked (held s slip.name.code) h.0, h.1, h.2, h.3)

pub fits_draft : (number : ℕ) (s : Store) (slip : Slip) → slip_fits number s slip ≡ true → drafted (held s slip.name.code) ≡ true
fits_draft number s slip f = (and_parts (eqb slip.register number) (drafted (held s slip.name.code)) f).1

pub held_slip : (number : ℕ) (s : Store) (slip : Slip) (i : ℕ) → Whole s → Fitted number s slip i →
    held s slip.name.code ≡ Some (entry_part (get_or s.directory.entries i free) (old s.directory.entries s.rows.now i))
held_slip number s slip i whole f =
    let e = get_or s.directory.entries i free in
    held_place s slip.name.code i whole (omega (arith, whole.all, f.1)) (ap (bearer e) (sym f.3) ∙ draft_bears e f.2)

-- which refusal a put gives, where the slip fits the entry at i
pub put_no_lem : (number : ℕ) (s : Store) (slip : Slip) (row : Row) (given : List Kind) (i : ℕ) → Whole s → Fitted number s slip i →
    put_no number s slip row given ≡ or_else (row_no (items (get_or s.directory.entries i free).kinds) given row) (cond (not (ltb (used s) (rows_of s))) (Some no.NoRow) None)
put_no_lem number s slip row given i whole f =
    let n = slip.name.code in
    let room : Option Reason = cond (not (ltb (used s) (rows_of s))) (Some no.NoRow) None in
    cond-false (not (slip_fits number s slip)) (Some no.SlipMisfit) (or_else (row_no (kinds_of (held s n)) given row) (cond (not (ltb (used s) (rows_of s))) (Some no.NoRow) None)) (not_from_true (slip_fits number s slip) f.0)
    ∙ ap (λ x. or_else (row_no x given row) room) (ap kinds_of (held_slip number s slip i whole f))

-- ---- abandoning

pub slip_ok : (number : ℕ) (s : Store) (slip : Slip) → slip_fits number s slip ≡ true → abandon_no number s slip ≡ None
slip_ok number s slip f = cond-false (not (slip_fits number s slip)) (Some no.SlipMisfit) None (not_from_true (slip_fits number s slip) f)

pub slip_no : (number : ℕ) (s : Store) (slip : Slip) → slip_fits number s slip ≡ false → abandon_no number s slip ≡ Some no.SlipMisfit
slip_no number s slip f = cond-true (not (slip_fits number s slip)) (Some no.SlipMisfit) None (not_from_false (slip_fits number s slip) f)

-- ---- dropping

pub published_bears : (e : Entry) → e.mark ≡ Published → bearer e e.name.code ≡ true
published_bears e h = ap (λ m. bears m e.name.code e.name.code) h ∙ eq-eqb e.name.code e.name.code refl

pub drop_no_lem : (s : Store) (name : List ℕ) (a b : Bool) → is_name name ≡ a → published (held s (word name)) ≡ b → drop_no s name ≡ cond (a && b) None (Some no.Name)
drop_no_lem s name a b pa pb = λ j. cond (pa j && pb j) None (Some no.Name)

-- what the search for a published relation finds
pub drop_place : (s : Store) (name : List ℕ) (n : ℕ) (o : Option ℕ) → is_name name ≡ true → n ≡ word name →
    MatchOption o (mark_of (held s n) ≡ Some Published → ⊥) (Placed s n Published) →
    MatchOption o (drop_no s name ≡ Some no.Name) (λ i. (drop_no s name ≡ None) × (i < most_entries) × (mark_at s i ≡ Published) × (code_at s i ≡ word name))
drop_place s name n None a e h = drop_no_lem s name true false a (ap (λ x. published (held s x)) (sym e) ∙ marked_published (held s n) h)
drop_place s name n (Some i) a e h = (drop_no_lem s name true true a (ap (λ x. published (held s x)) (sym e) ∙ published_marked (held s n) h.0), h.1, h.2, h.3 ∙ e)

-- ---- publishing

pub publish_slip : (number : ℕ) (s : Store) (slip : Slip) (work : List Row) (index : List Node) → slip_fits number s slip ≡ false → publish_no number s slip work index ≡ Some no.SlipMisfit
publish_slip number s slip work index f = cond-true (not (slip_fits number s slip)) (Some no.SlipMisfit) (work_no (size_of (held s slip.name.code)) work index) (not_from_false (slip_fits number s slip) f)

pub publish_work : (number : ℕ) (s : Store) (slip : Slip) (work : List Row) (index : List Node) → slip_fits number s slip ≡ true → publish_no number s slip work index ≡ work_no (size_of (held s slip.name.code)) work index
publish_work number s slip work index f = cond-false (not (slip_fits number s slip)) (Some no.SlipMisfit) (work_no (size_of (held s slip.name.code)) work index) (not_from_true (slip_fits number s slip) f)

-- a refusal goes back with its slip
pub handed_err : (q : Option Reason) (e : Refusal) (slip : Slip) → Some e ≡ plain? q → Some (e, slip) ≡ handed_back q slip
handed_err None e slip h = let z : ◌≡◌ {A = ℕ} 0 1 = cc in absurd (omega arith)
handed_err (Some o) e slip h = let p : ◌≡◌ {A = Refusal} e (plain o) = cc in ap (λ x. Some (x, slip)) p

pub handed_ok : (q : Option Reason) (slip : Slip) → None ≡ plain? q → None ≡ handed_back q slip
handed_ok None slip h = refl
handed_ok (Some o) slip h = let z : ◌≡◌ {A = ℕ} 0 1 = cc in absurd (omega arith)
