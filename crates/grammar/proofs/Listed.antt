-- The keywords are text.
use Rattle.std.proofs.Common.{◌≡◌, Some, codes, refl}
use lib.Utf8.{encode}
use Rattle.words.specs.declared.names.Reserved.{Reserved}
use Rattle.words.specs.declared.names.Reserved.TheVariants.{Base, During, Where, On, Of, By}
use Rattle.words.specs.Name.{reserved}
use Rattle.takers.specs.Writing.{spelled_reserved}
use Rattle.words.proofs.Listed.{Texts}
use Rattle.grammar.specs.Keywords.{keywords}

pub keywords_are_text : Texts keywords
unfolding encode
keywords_are_text = ((codes "load", (refl, refl)), ((codes "row", (refl, refl)), ((codes "end", (refl, refl)), ((codes "drop", (refl, refl)), ((codes "show", (refl, refl)), ((codes "select", (refl, refl)), ((codes "project", (refl, refl)), ((codes "union", (refl, refl)), ((codes "except", (refl, refl)), ((codes "join", (refl, refl)), ((codes "count", (refl, refl)), ((codes "sum", (refl, refl)), ((codes "min", (refl, refl)), ((codes "max", (refl, refl)), tt))))))))))))))

-- ---- reserved words

pub reserved_is : (r : Reserved) → reserved (spelled_reserved r) ≡ Some r
reserved_is Base = refl
reserved_is During = refl
reserved_is Where = refl
reserved_is On = refl
reserved_is Of = refl
reserved_is By = refl
