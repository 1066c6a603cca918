-- Going on by no call, by one, and by what two steps do.
use Rattle.std.proofs.Common.{List, [], ◌∷◌, ◌++◌, sym, subst, append_assoc}
use Rattle.register.specs.declared.store.Store.{Store}
use Rattle.register.specs.History.{Event, Accounts}
use Rattle.ledger.specs.Histories.{GoesOn}

pub stay : (s : Store) → GoesOn s s
stay s h a = ([], a)

pub by_call : (s t : Store) (e : Event) → ((h : List Event) → Accounts h s → Accounts (e ∷ h) t) → GoesOn s t
by_call s t e f h a = (e ∷ [], f h a)

pub then_on : (s t u : Store) → GoesOn s t → GoesOn t u → GoesOn s u
then_on s t u f g h a =
    let x = f h a in
    let y = g (x.0 ++ h) x.1 in
    (y.0 ++ x.0, subst (λ l. Accounts l u) (sym (append_assoc y.0 x.0 h)) y.1)
