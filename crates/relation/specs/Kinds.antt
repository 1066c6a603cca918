-- When two kinds are the same.
use Rattle.std.specs.Prelude.{◌≡◌, Bool, true, false, ◌↔◌}
use Rattle.relation.specs.declared.kinds.Kind.{Kind}
use Rattle.relation.specs.declared.kinds.Kind.TheVariants.{Number, Word}

abbrev pub same_kind : Kind → Kind → Bool
same_kind Number Number = true
same_kind Number Word = false
same_kind Word Number = false
same_kind Word Word = true

abbrev pub SameKind : Type 0
SameKind = (a b : Kind) → (same_kind a b ≡ true) ↔ (a ≡ b)
