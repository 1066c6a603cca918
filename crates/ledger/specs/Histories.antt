-- Whatever was called, the register goes on from it.
use Rattle.std.specs.Prelude.{List, ◌++◌}
use Rattle.register.specs.declared.store.Store.{Store}
use Rattle.register.specs.History.{Event, Accounts}

-- a list of calls that accounts for the register before can be lengthened to one that accounts for it after: on every day the register has
-- the names, marks, kinds and sets that the one-day register has after these calls
abbrev pub GoesOn : Store → Store → Type 0
GoesOn s t = (h : List Event) → Accounts h s → (g : List Event) × Accounts (g ++ h) t
