-- The words that decide the form of a line.
use Rattle.std.specs.Prelude.{ℕ, List, [], ◌∷◌, codes, Option}
use Rattle.words.specs.Name.{meant_by}
use Rattle.grammar.specs.declared.keywords.Verb.TheVariants.{Select, Project, Union, Except, Join, Count, Sum, Min, Max}
use Rattle.grammar.specs.declared.keywords.Keyword.{Keyword}
use Rattle.grammar.specs.declared.keywords.Keyword.TheVariants.{Load, Row, End, Drop, Show, Query}

-- how each is written
abbrev pub keywords : List (List ℕ × Keyword)
keywords =
    (codes "load", Load) ∷ (codes "row", Row) ∷ (codes "end", End) ∷ (codes "drop", Drop) ∷ (codes "show", Show)
    ∷ (codes "select", Query Select) ∷ (codes "project", Query Project) ∷ (codes "union", Query Union) ∷ (codes "except", Query Except) ∷ (codes "join", Query Join)
    ∷ (codes "count", Query Count) ∷ (codes "sum", Query Sum) ∷ (codes "min", Query Min) ∷ (codes "max", Query Max) ∷ []

abbrev pub keyword : List ℕ → Option Keyword
keyword w = meant_by w keywords
