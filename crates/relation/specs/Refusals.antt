-- The reasons for which a call is refused: the number of each, and what a refused call answers.
use Rattle.std.specs.Prelude.{◌≡◌, ℕ, Some, None, Ok, Err, Option, Result}
use Rattle.relation.specs.declared.refusals.Refusal.{Refusal}
use Rattle.relation.specs.declared.refusals.Reason.{Reason}
use Rattle.relation.specs.declared.refusals.Reason.TheVariants.{ScriptSize, Form, Name, Misfit, NoPeriod, OutOfBounds, NoEntry, ShortWork, NoRow, SumOutside, UnusedValue, ShortOutput, TooManyPlaces, SlipMisfit}

abbrev pub number : Reason → ℕ
number ScriptSize = 1
number Form = 2
number Name = 3
number Misfit = 4
number NoPeriod = 5
number OutOfBounds = 6
number NoEntry = 7
number ShortWork = 8
number NoRow = 9
number SumOutside = 10
number UnusedValue = 11
number ShortOutput = 12
number TooManyPlaces = 13
number SlipMisfit = 14

-- the refusal of a call outside scripts
abbrev pub plain : Reason → Refusal
plain o = record { reason = o; line = 0; written = 0 }

abbrev pub plain? : Option Reason → Option Refusal
plain? None = None
plain? (Some o) = Some (plain o)

-- a call that is refused for the reason q if there is one, and else answers what has P
abbrev pub Answers : {X : Type 0} → Result X Refusal → Option Reason → (X → Type 0) → Type 0
Answers (Ok x) q P = (q ≡ None) × P x
Answers (Err e) q P = plain? q ≡ Some e
