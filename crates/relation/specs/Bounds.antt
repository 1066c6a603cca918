-- The bounds of the subject, each by its name.
use Rattle.std.specs.Prelude.{ℕ, ℤ, pos, neg_ℤ}

-- numbers lie between these two, both included
abbrev pub largest_number : ℤ
largest_number = pos 1000000000000

abbrev pub smallest_number : ℤ
smallest_number = neg_ℤ largest_number

-- every day is below this, and no period ends after it
abbrev pub end_of_days : ℕ
end_of_days = 1000000

-- a relation has one to this many columns
abbrev pub most_columns : ℕ
most_columns = 6

-- a source has at most this many places
abbrev pub most_places : ℕ
most_places = 1000000000

-- only this many entries of a work area count
abbrev pub most_work : ℕ
most_work = 65536

-- a word has one to this many bytes
abbrev pub word_bytes : ℕ
word_bytes = 8

-- a register has room for this many names
abbrev pub most_entries : ℕ
most_entries = 16

-- a register holds at most this many rows
abbrev pub most_stored : ℕ
most_stored = 16384
