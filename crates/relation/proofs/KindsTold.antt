-- The tests of kinds and values tell what they are named for.
use Rattle.std.proofs.Common.{◌≡◌, ℕ, true, List, is_some, Some, None, Option, refl, ap, ◌∙◌, arith, rules}
use Rattle.std.proofs.lemmas.Int.{ints}
use Rattle.relation.specs.declared.kinds.Kind.TheVariants as kind
use Rattle.relation.specs.Kinds.{SameKind}
use Rattle.relation.specs.Values.{Number, Word, word_text, in_kind, KindsTold}
use Rattle.relation.proofs.Spelled.{text_from_word, word_from_text}

pub same_kind : SameKind
same_kind = search rules

pub kinds_told : KindsTold
kinds_told kind.Number z = (there, back)
  where
    there : in_kind kind.Number z ≡ true → Number z
    there h = grind (arith, ints)

    back : Number z → in_kind kind.Number z ≡ true
    back h = grind (arith, ints)
kinds_told kind.Word z = (there (word_text z) refl, back)
  where
    there : (o : Option (List ℕ)) → word_text z ≡ o → is_some o ≡ true → Word z
    there (Some bs) e h = (bs, word_from_text z bs e)
    there None e h = absurd (let w : ◌≡◌ {A = ℕ} 0 1 = cc in omega arith)

    back : Word z → is_some (word_text z) ≡ true
    back (bs, (h, e)) = ap is_some (ap word_text e ∙ text_from_word bs h)
