-- The check of a text, as a reader of its lines.
use Rattle.std.specs.Prelude.{ℕ, ◌+◌, Bool, cond, not, ◌||◌, List, [], ◌∷◌, length, is_some, Some, None, Option, nat_lt}
use Rattle.std.specs.Option.{option_map}
use Rattle.relation.specs.declared.refusals.Reason.TheVariants.{ScriptSize, Form}
use Rattle.relation.specs.declared.refusals.Refusal.{Refusal}
use Rattle.words.specs.Lines.{lines}
use Rattle.words.specs.Rest.{texts}
use Rattle.takers.specs.Take.{Text, ◌then◌}
use Rattle.words.specs.Words.{words}
use Rattle.grammar.specs.Grammar.{line_of}
use Rattle.grammar.specs.Meaning.{Line, skip, load, row, end, drop, show, query}

abbrev pub most_bytes : ℕ
most_bytes = 16384

abbrev pub most_lines : ℕ
most_lines = 256

-- what a line says
abbrev pub said : Text → Option Line
said t = line_of (texts (words t))

-- A load that is open is told by the line at which it began.

-- after a line that may stand only outside of loads, and only within one
abbrev pub outside : Option ℕ → Option ℕ → Option (Option ℕ)
outside None after = Some after
outside (Some m) after = None

abbrev pub within : Option ℕ → Option ℕ → Option (Option ℕ)
within None after = None
within (Some m) after = Some after

-- where the line after line n stands
abbrev pub stands : ℕ → Option ℕ → Line → Option (Option ℕ)
stands n o skip = Some o
stands n o (load a ks) = outside o (Some n)
stands n o (row f u vs) = within o o
stands n o end = within o None
stands n o (drop a) = outside o None
stands n o (show a) = outside o None
stands n o (query a q) = outside o None

abbrev pub step : ℕ → Option ℕ → Text → Option (Option ℕ)
step n o t = said t then stands n o

abbrev pub follow : ℕ → Option (Option ℕ) → (Option ℕ → Option ℕ) → Option ℕ
follow n None k = Some n
follow n (Some o) k = k o

-- the first bad line, or else the line of a load that is not ended, of the lines from line n on
abbrev pub fault : ℕ → Option ℕ → List Text → Option ℕ
fault n o [] = o
fault n o (t ∷ ts) = follow n (step n o t) (λ p. fault (n + 1) p ts)

-- why a text is no script, if it is none
abbrev pub refusal : List ℕ → Option Refusal
refusal t =
    cond (nat_lt most_bytes (length t) || nat_lt most_lines (length (lines t))) (Some (record { reason = ScriptSize; line = 0; written = 0 }))
    (option_map (λ n. record { reason = Form; line = n; written = 0 }) (fault 1 None (lines t)))

-- whether a text is a script
abbrev pub is_script : List ℕ → Bool
is_script t = not (is_some (refusal t))
