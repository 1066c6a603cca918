use Rattle.std.proofs.Common.{◌≡◌, ℕ, Bool, true, false, cond, not, List, is_some, Some, None, sym, refl, ap, ◌∙◌, subst, arith}
use Rattle.std.proofs.lemmas.Option.{MatchOption-at_some, MatchOption-at_none}
use Rattle.std.proofs.lemmas.Result.{err_from_is_err_and}
use Rattle.relation.specs.declared.kinds.Kind.{Kind}
use Rattle.relation.specs.declared.refusals.Reason.TheVariants as no
use Rattle.relation.specs.Refusals.{plain?}
use Rattle.relation.specs.Values.{word}
use Rattle.words.specs.Name.{is_name}
use Rattle.register.specs.declared.store.Store.{Store}
use Rattle.register.specs.Layout.{vacancy, is_few, Begun}
use Rattle.register.specs.State.{held, is_there, Leaves, opened}
use Rattle.register.specs.Refusals.{draft_no}
use Rattle.register.proofs.Fits.{held_none}
use Rattle.register.proofs.Refused.{refused_by}
use Rattle.register.proofs.Storage.{spare_at}
use Rattle.register.proofs.Others.{draft_result}
use Rattle.register.proofs.store.Store.draft.Goals as goal

no_at : (s : Store) (name : List ℕ) (kinds : List Kind) (a b c d : Bool) → is_name name ≡ a → is_there (held s (word name)) ≡ b → is_few kinds ≡ c → vacancy s.directory.entries ≡ d →
    draft_no s name kinds ≡ cond (not a) (Some no.Name) (cond b (Some no.Name) (cond (not c) (Some no.Misfit) (cond (not d) (Some no.NoEntry) None)))
no_at s name kinds a b c d pa pb pc pd = λ j. cond (not (pa j)) (Some no.Name) (cond (pb j) (Some no.Name) (cond (not (pc j)) (Some no.Misfit) (cond (not (pd j)) (Some no.NoEntry) None)))

pub returns-in_err-name : goal.returns-in_err-name
returns-in_err-name c =
    let s = c.args.self.now in
    let p = err_from_is_err_and c.from_residual.result c.from_residual.ensures.1 in
    let e = c.in_err-name.ensures in
    rw (p.1, p.2, e.1) (record { whole = c.requires; refused = sym (ap plain? (no_at s c.args.name.now c.args.kinds.now false _ _ _ e.0 refl refl refl)); after = refl })

pub returns-then-has : goal.returns-then-has
returns-then-has c =
    let s = c.args.self.now in
    let n = c.in_ok-name.ensures in
    record {
      whole = c.requires;
      refused = ap Some c.into.ensures ∙ sym (ap plain? (no_at s c.args.name.now c.args.kinds.now true true _ _ n.0 (ap (λ x. is_there (held s x)) (sym n.1) ∙ (sym c.has.ensures.is ∙ c.if-has.true)) refl refl));
      after = refl;
    }

pub returns-in_err-kinds : goal.returns-in_err-kinds
returns-in_err-kinds c =
    let s = c.args.self.now in
    let n = c.in_ok-name.ensures in
    let many = MatchOption-at_none _ _ c.in_err-kinds.ensures.ok_part c.few.ensures in
    rw (refused_by c.few.result no.Misfit _ c.from_residual-in_err-kinds.result c.in_err-kinds.ensures.ok_part c.in_err-kinds.ensures.value c.from_residual-in_err-kinds.ensures.1)
    (record { whole = c.requires; refused = sym (ap plain? (no_at s c.args.name.now c.args.kinds.now true false false _ n.0 (ap (λ x. is_there (held s x)) (sym n.1) ∙ (sym c.has.ensures.is ∙ c.if-has.false)) many refl)); after = refl })

pub returns-in_err-i : goal.returns-in_err-i
returns-in_err-i c =
    let s = c.args.self.now in
    let n = c.in_ok-name.ensures in
    let k = MatchOption-at_some _ _ c.in_ok-kinds.kinds c.in_ok-kinds.ensures.ok_part c.few.ensures in
    let full = ap is_some (sym c.spare.ensures ∙ c.in_err-i.ensures.ok_part) in
    rw (refused_by c.spare.result no.NoEntry _ c.from_residual-in_err-i.result c.in_err-i.ensures.ok_part c.in_err-i.ensures.value c.from_residual-in_err-i.ensures.1)
    (record { whole = c.requires; refused = sym (ap plain? (no_at s c.args.name.now c.args.kinds.now true false true false n.0 (ap (λ x. is_there (held s x)) (sym n.1) ∙ (sym c.has.ensures.is ∙ c.if-has.false)) k.0 full)); after = refl })

pub returns : goal.returns
returns c =
    let s = c.args.self.now in
    let m = c.in_ok-name.name.code in
    let n = c.in_ok-name.ensures in
    let k = MatchOption-at_some _ _ c.in_ok-kinds.kinds c.in_ok-kinds.ensures.ok_part c.few.ensures in
    let here = sym c.spare.ensures ∙ c.in_ok-i.ensures.ok_part in
    let g = spare_at s.directory.entries c.in_ok-i.i here in
    let none = c.has.ensures.none c.if-has.false in
    let t : Store = record { rows = s.rows; directory = c.begin.new.self } in
    let begun = subst (Begun c.draft.result m) k.1 c.draft.ensures in
    let r = draft_result s t c.in_ok-i.i m c.draft.result c.args.kinds.now c.requires (omega (arith, g.0, c.requires.all)) g.1 none (held_none s m none) k.0 begun c.begin.ensures refl in
    record {
      whole = r.0;
      refused = sym (ap plain? (no_at s c.args.name.now c.args.kinds.now true false true true n.0 (ap (λ x. is_there (held s x)) (sym n.1) ∙ (sym c.has.ensures.is ∙ c.if-has.false)) k.0 (ap is_some here)));
      after = (refl, n.1, record { leaves = subst (λ (x : ℕ). Leaves s t x (Some (opened x c.args.kinds.now))) n.1 r.1 });
    }
