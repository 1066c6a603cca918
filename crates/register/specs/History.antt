-- The one-day register: what the calls, told newest first, make of each name on one day.
use Rattle.std.specs.Prelude.{◌≡◌, ℕ, Bool, cond, List, [], ◌∷◌, length, Some, None, Option, ◌==◌}
use Rattle.relation.specs.declared.rows.Row.{Row}
use Rattle.relation.specs.declared.kinds.Kind.{Kind}
use Rattle.relation.specs.Rows.{Day, Canonical, holds, on}
use Rattle.relation.specs.Sets.{TupleSet, Same}
use Rattle.relation.specs.Stored.{meant}
use Rattle.relation.specs.Values.{word}
use Rattle.tree.specs.declared.Node.{Node}
use Rattle.register.specs.declared.entries.Mark.{Mark}
use Rattle.register.specs.declared.entries.Mark.TheVariants.{Draft, Published}
use Rattle.register.specs.declared.slips.Slip.{Slip}
use Rattle.register.specs.declared.store.Store.{Store}
use Rattle.register.specs.Layout.{Part}
use Rattle.register.specs.State.{held}

-- the calls with their arguments, and whether each was refused
pub data Event : Type 0 where
  drafted : (name : List ℕ) → (kinds : List Kind) → (refused : Bool) → Event
  put : (slip : Slip) → (row : Row) → (kinds : List Kind) → (refused : Bool) → Event
  published : (slip : Slip) → (work : List Row) → (index : List Node) → (refused : Bool) → Event
  abandoned : (slip : Slip) → (refused : Bool) → Event
  dropped : (name : List ℕ) → (refused : Bool) → Event
  shown : (name : List ℕ) → (output : List ℕ) → (refused : Bool) → Event

-- what a name stands for on one day
pub record OneDay : Type 0 where
  pub mark : Mark
  pub kinds : List Kind
  pub set : TupleSet

-- the name k now stands for o
abbrev pub update : (ℕ → Option OneDay) → ℕ → Option OneDay → ℕ → Option OneDay
update f k o n = cond (n == k) o (f n)

-- the row's tuple is added if its period holds the day
abbrev pub joined : ℕ → Row → Option OneDay → Option OneDay
joined d row None = None
joined d row (Some x) = Some (record {
  mark = x.mark;
  kinds = x.kinds;
  set = cond (holds (meant (length x.kinds) row) d) ((meant (length x.kinds) row).tuple ∷ x.set) x.set;
})

abbrev pub public : Option OneDay → Option OneDay
public None = None
public (Some x) = Some (record { mark = Published; kinds = x.kinds; set = x.set })

-- what one call makes of the names on day d; a refused one does nothing
abbrev pub after : ℕ → Event → (ℕ → Option OneDay) → ℕ → Option OneDay
after d (drafted name kinds refused) f n = cond refused (f n) (update f (word name) (Some (record { mark = Draft; kinds = kinds; set = [] })) n)
after d (put slip row kinds refused) f n = cond refused (f n) (update f slip.name.code (joined d row (f slip.name.code)) n)
after d (published slip work index refused) f n = cond refused (f n) (update f slip.name.code (public (f slip.name.code)) n)
after d (abandoned slip refused) f n = cond refused (f n) (update f slip.name.code None n)
after d (dropped name refused) f n = cond refused (f n) (update f (word name) None n)
after d (shown name output refused) f n = f n

-- the one-day register after some calls; it begins empty
abbrev pub one_day : ℕ → List Event → ℕ → Option OneDay
one_day d [] n = None
one_day d (e ∷ h) n = after d e (one_day d h) n

-- the same mark, the same kinds, and the same set on day d
pub record Alike (d : ℕ) (x : OneDay) (p : Part) : Type 0 where
  pub mark : x.mark ≡ p.mark
  pub kinds : x.kinds ≡ p.kinds
  pub set : Same x.set (on p.rows d)

abbrev pub Agree : ℕ → Option OneDay → Option Part → Type 0
Agree d None None = Unit {0}
Agree d None (Some p) = ⊥
Agree d (Some x) None = ⊥
Agree d (Some x) (Some p) = Alike d x p

-- on every day the store has exactly the names, marks, kinds and sets that the calls made, and what is published is a canonical list
pub record Accounts (h : List Event) (s : Store) : Type 0 where
  pub each : (d n : ℕ) → Day d → Agree d (one_day d h n) (held s n)
  pub canonical : (n : ℕ) (p : Part) → held s n ≡ Some p → p.mark ≡ Published → Canonical p.rows
