-- Equal kinds.
use Rattle.std.specs.Prelude.{Bool, true, false, ◌&&◌, List, [], ◌∷◌, Some, None, Option}
use Rattle.relation.specs.declared.kinds.Kind.{Kind}
use Rattle.relation.specs.Kinds.{same_kind}

-- two columns that are both there, with the same kind
abbrev pub alike : Option Kind → Option Kind → Bool
alike None o = false
alike (Some k) None = false
alike (Some k) (Some l) = same_kind k l

-- as many columns, each with the same kind
abbrev pub same_kinds : List Kind → List Kind → Bool
same_kinds [] [] = true
same_kinds [] (l ∷ ls) = false
same_kinds (k ∷ ks) [] = false
same_kinds (k ∷ ks) (l ∷ ls) = same_kind k l && same_kinds ks ls
