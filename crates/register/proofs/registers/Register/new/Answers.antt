use Rattle.std.proofs.Common.{◌≡◌, ℕ, min, ◌++◌, length, drop, None, refl, ap, ◌∙◌, arith}
use Rattle.relation.specs.Bounds.{most_stored}
use Rattle.register.specs.Layout.{named, parts}
use Rattle.register.proofs.Fresh.{fresh_sound, nothing, no_rows, wiped_by, wiped_length, wiped_past}
use Rattle.register.proofs.Days.{new_accounts}
use Rattle.register.proofs.registers.Register.new.Goals as goal

pub invariant_of-result : goal.invariant_of-result
invariant_of-result c =
    let rs = c.args.rows.now in
    let n = c.min-n.result in
    let w = wiped_by rs c.fill.new.self n c.blank.result (c.fill.ensures.after (λ y e. e)) (omega arith) c.blank.ensures in
    let s = fresh_sound rs (c.fill.new.self ++ drop n rs) c.empty-directory.result.entries n c.min-n.ensures w c.empty-directory.ensures in
    record { all = s.all; room = s.room; blanks = s.blanks; apart = s.apart; empty = s.empty; fitting = s.fitting }

pub returns : goal.returns
returns c =
    let rs = c.args.rows.now in
    let n = c.min-n.result in
    let w = wiped_by rs c.fill.new.self n c.blank.result (c.fill.ensures.after (λ y e. e)) (omega arith) c.blank.ensures in
    let e = c.empty-directory.ensures in
    let none : (m : ℕ) → named (parts c.empty-directory.result.entries (c.fill.new.self ++ drop n rs)) m ≡ None = λ m. nothing c.empty-directory.result.entries m (c.fill.new.self ++ drop n rs) e in
    let l : length (c.fill.new.self ++ drop n rs) ≡ length rs = ap length w ∙ wiped_length rs n (omega arith) in
    record {
      number = refl;
      empty = none;
      used = no_rows c.empty-directory.result.entries e;
      blank = (fresh_sound rs (c.fill.new.self ++ drop n rs) c.empty-directory.result.entries n c.min-n.ensures w e).blanks;
      rows = ap (λ x. min x most_stored) l;
      past = ap (drop most_stored) w ∙ wiped_past rs n (omega arith) most_stored (omega arith);
      accounts = new_accounts _ none;
    }
