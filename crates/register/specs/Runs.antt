-- The law of every history: whatever was called, in whatever order, the register has what the one-day registers have.
use Rattle.std.specs.Prelude.{◌≡◌, ℕ, ◌≤◌, Bool, true, false, ◌↔◌, List, [], ◌∷◌, length, is_some, Some, None, Option}
use Rattle.std.specs.List.{AllByRecursion as AllOf}
use Rattle.relation.specs.declared.refusals.Reason.{Reason}
use Rattle.relation.specs.Rows.{SpecRow, Period, Agree as AgreeOnDays}
use Rattle.relation.specs.Values.{word}
use Rattle.words.specs.Name.{is_name}
use Rattle.register.specs.declared.entries.Mark.TheVariants.{Published}
use Rattle.register.specs.declared.store.Store.{Store}
use Rattle.register.specs.Layout.{Part}
use Rattle.register.specs.State.{held, Drafted, Put, Issued, Removed}
use Rattle.register.specs.Refusals.{draft_no, put_no, publish_no, abandon_no, drop_no, show_no}
use Rattle.register.specs.History.{Event, drafted, put, published, abandoned, dropped, shown, Accounts}

-- whether a call was refused
abbrev pub refused_of : Event → Bool
refused_of (drafted name kinds refused) = refused
refused_of (put slip row kinds refused) = refused
refused_of (published slip work index refused) = refused
refused_of (abandoned slip refused) = refused
refused_of (dropped name refused) = refused
refused_of (shown name output refused) = refused

-- the reason against a call at a register of this number, by the table
abbrev pub against : ℕ → Store → Event → Option Reason
against number s (drafted name kinds refused) = draft_no s name kinds
against number s (put slip row kinds refused) = put_no number s slip row kinds
against number s (published slip work index refused) = publish_no number s slip work index
against number s (abandoned slip refused) = abandon_no number s slip
against number s (dropped name refused) = drop_no s name
against number s (shown name output refused) = show_no s name output

-- what each call leaves of a store
abbrev pub Left : Event → Store → Store → Type 0
Left (drafted name kinds true) s t = t ≡ s
Left (drafted name kinds false) s t = Drafted s t (word name) kinds
Left (put slip row kinds true) s t = t ≡ s
Left (put slip row kinds false) s t = (k : ℕ) × Put s t slip.name.code row k
Left (published slip work index true) s t = t ≡ s
Left (published slip work index false) s t = (k : ℕ) × Issued s t slip.name.code k
Left (abandoned slip true) s t = t ≡ s
Left (abandoned slip false) s t = (k : ℕ) × Removed s t slip.name.code k
Left (dropped name true) s t = t ≡ s
Left (dropped name false) s t = (k : ℕ) × Removed s t (word name) k
Left (shown name output refused) s t = t ≡ s

-- a call: it is refused exactly where the table has a reason against it, and leaves what it must. Each call of a register promises this
pub record Step (number : ℕ) (e : Event) (s t : Store) : Type 0 where
  pub exact : refused_of e ≡ is_some (against number s e)
  pub left : Left e s t

-- calls, newest first, from a new register on
pub data Trace (number : ℕ) : List Event → Store → Type 0 where
  begin : {s : Store} → ((n : ℕ) → held s n ≡ None) → Trace number [] s
  next : {h : List Event} {s t : Store} (e : Event) → Trace number h s → Step number e s t → Trace number (e ∷ h) t

-- two published relations of the same kinds have the same rows exactly when their sets agree on every day,
-- and every other list of rows with those sets has at least as many
pub record PublishedLists (s : Store) : Type 0 where
  pub same : (m n : ℕ) (p q : Part) → held s m ≡ Some p → held s n ≡ Some q → p.mark ≡ Published → q.mark ≡ Published → p.kinds ≡ q.kinds →
      (AgreeOnDays p.rows q.rows ↔ (p.rows ≡ q.rows))
  pub fewest : (n : ℕ) (p : Part) (rows : List SpecRow) → held s n ≡ Some p → p.mark ≡ Published → AllOf Period rows → AgreeOnDays p.rows rows →
      length p.rows ≤ length rows

-- whatever was called, refused calls too: on every day the register has what the one-day register of that day has, and what is published is
-- listed as it must be; and the last call was refused exactly where the table says
pub record Law (number : ℕ) (h : List Event) (t : Store) : Type 0 where
  pub accounts : Accounts h t
  pub lists : PublishedLists t
  pub last : (e : Event) (g : List Event) → h ≡ e ∷ g → (s : Store) × (Trace number g s × Step number e s t)

abbrev pub AnyHistory : Type 0
AnyHistory = (number : ℕ) (h : List Event) (s : Store) → Trace number h s → Law number h s

-- no two names are held as one number
abbrev pub NamesApart : Type 0
NamesApart = (a b : List ℕ) → is_name a ≡ true → is_name b ≡ true → word a ≡ word b → a ≡ b
