-- Each call keeps the account of the days.
use Rattle.std.proofs.Common.{◌≡◌, ℕ, Bool, true, false, cond, eqb, ◌↔◌, List, [], ◌∷◌, ◌++◌, length, Some, None, Option, sym, refl, ap, ◌∙◌, subst, inl, inr, arith}
use Rattle.std.proofs.lemmas.Bool.{cases_eq, eq-eqb, ne_eqb, cond-true, cond-false, both_ways}
use Rattle.relation.specs.declared.rows.Row.{Row}
use Rattle.relation.specs.Lists.{Member}
use Rattle.relation.specs.Rows.{SpecRow, Day, Canonical, Lists, holds, on}
use Rattle.relation.specs.Sets.{Tuple, TupleSet, Same}
use Rattle.relation.specs.Stored.{meant}
use Rattle.relation.specs.Values.{word}
use Rattle.register.specs.declared.entries.Mark.{Mark}
use Rattle.register.specs.declared.entries.Mark.TheVariants.{Free, Draft, Published}
use Rattle.register.specs.declared.store.Store.{Store}
use Rattle.register.specs.Layout.{Part, Only, is_draft}
use Rattle.register.specs.State.{held, drafted as is_drafted, added, issued, opened, part_rows}
use Rattle.register.specs.History.{Event, drafted, put, published, abandoned, dropped, shown, OneDay, update, joined, public, one_day, Agree, Accounts}
use Rattle.relation.proofs.Fewest.{fewest}
use Rattle.relation.proofs.Told.{unique}
use Rattle.register.specs.Runs.{Left, Step, Trace, begin, next, PublishedLists, AnyHistory}

-- ---- one name is changed on both sides

change_one : (d : ℕ) (f : ℕ → Option OneDay) (s t : ℕ → Option Part) (k : ℕ) (o : Option OneDay) (p : Option Part) →
    Only s t k p → ((n : ℕ) → Agree d (f n) (s n)) → Agree d o p → (n : ℕ) → Agree d (update f k o n) (t n)
change_one d f s t k o p only all one n = elim (cases_eq n k) [
  | inl e ↦ subst (λ x. Agree d x (t n)) (sym (cond-true (eqb n k) o (f n) (eq-eqb n k e))) (subst (λ x. Agree d o x) (sym (ap t e ∙ only.here)) one)
  | inr ne ↦ subst (λ x. Agree d x (t n)) (sym (cond-false (eqb n k) o (f n) (ne_eqb n k ne))) (subst (λ x. Agree d (f n) x) (sym (only.other n ne)) (all n))
]

-- what is published in some names is a canonical list
abbrev Listed : (ℕ → Option Part) → Type 0
Listed s = (n : ℕ) (p : Part) → s n ≡ Some p → p.mark ≡ Published → Canonical p.rows

listed_one : (s t : ℕ → Option Part) (k : ℕ) (o : Option Part) → Only s t k o → Listed s → ((p : Part) → o ≡ Some p → p.mark ≡ Published → Canonical p.rows) → Listed t
listed_one s t k o only all one n p e m = elim (cases_eq n k) [
  | inl q ↦ one p (sym (ap t q ∙ only.here) ∙ e) m
  | inr ne ↦ all n p (sym (only.other n ne) ∙ e) m
]

account : (h : List Event) (s t : Store) (k : ℕ) (f : ℕ → Option OneDay) (o : Option Part) (e : Event) → Only (held s) (held t) k o → Accounts h s →
    ((d n : ℕ) → one_day d (e ∷ h) n ≡ update (one_day d h) k (f d) n) →
    ((d : ℕ) → Day d → Agree d (f d) o) →
    ((p : Part) → o ≡ Some p → p.mark ≡ Published → Canonical p.rows) → Accounts (e ∷ h) t
account h s t k f o e only acc told one canon = record {
  each = λ d n day. subst (λ x. Agree d x (held t n)) (sym (told d n)) (change_one d (one_day d h) (held s) (held t) k (f d) o only (λ m. acc.each d m day) (one d day) n);
  canonical = listed_one (held s) (held t) k o only acc.canonical canon;
}

-- ---- put: one row more is one tuple more, if the row holds the day

swap : (a b : Bool) (x r t : Tuple) (S U : TupleSet) → (Member U t ↔ Member (cond b (r ∷ S) S) t) → Member (cond a (x ∷ U) U) t ↔ Member (cond b (r ∷ cond a (x ∷ S) S) (cond a (x ∷ S) S)) t
swap false b x r t S U h = h
swap true false x r t S U h = (λ m. elim m [ inl e ↦ inl e | inr n ↦ inr (h.0 n) ], λ m. elim m [ inl e ↦ inl e | inr n ↦ inr (h.1 n) ])
swap true true x r t S U h = (
  λ m. elim m [ inl e ↦ inr (inl e) | inr n ↦ elim (h.0 n) [ inl e ↦ inl e | inr k ↦ inr (inr k) ] ],
  λ m. elim m [ inl e ↦ inr (h.1 (inl e)) | inr (inl e) ↦ inl e | inr (inr k) ↦ inr (h.1 (inr k)) ],
)

pushed : (rows : List SpecRow) (r : SpecRow) (d : ℕ) (t : Tuple) → Member (on (rows ++ r ∷ []) d) t ↔ Member (cond (holds r d) (r.tuple ∷ on rows d) (on rows d)) t
pushed [] r d t = (λ m. m, λ m. m)
pushed (x ∷ rows) r d t = swap (holds x d) (holds r d) x.tuple r.tuple t (on rows d) (on (rows ++ r ∷ []) d) (pushed rows r d t)

-- a set with a tuple more, perhaps
same_cons : (b : Bool) (r : Tuple) (S U : TupleSet) → Same S U → Same (cond b (r ∷ S) S) (cond b (r ∷ U) U)
same_cons false r S U h t = h t
same_cons true r S U h t = (λ m. elim m [ inl e ↦ inl e | inr n ↦ inr ((h t).0 n) ], λ m. elim m [ inl e ↦ inl e | inr n ↦ inr ((h t).1 n) ])

same_push : (rows : List SpecRow) (r : SpecRow) (d : ℕ) (S : TupleSet) → Same S (on rows d) → Same (cond (holds r d) (r.tuple ∷ S) S) (on (rows ++ r ∷ []) d)
same_push rows r d S h t =
    let a = same_cons (holds r d) r.tuple S (on rows d) h t in
    let b = pushed rows r d t in
    (λ m. b.1 (a.0 m), λ m. a.1 (b.0 m))

join_agree : (d : ℕ) (row : Row) (o : Option OneDay) (p : Option Part) → Agree d o p → Agree d (joined d row o) (added row p)
join_agree d row None None h = tt
join_agree d row None (Some p) h = absurd h
join_agree d row (Some x) None h = absurd h
join_agree d row (Some x) (Some p) h =
    let r : SpecRow = meant (length p.kinds) row in
    let k : meant (length x.kinds) row ≡ meant (length p.kinds) row = ap (λ ks. meant (length ks) row) h.kinds in
    record {
      mark = h.mark;
      kinds = h.kinds;
      set = subst (λ r. Same (cond (holds r d) (r.tuple ∷ x.set) x.set) (on (p.rows ++ meant (length p.kinds) row ∷ []) d)) (sym k) (same_push p.rows (meant (length p.kinds) row) d x.set h.set);
    }

-- a draft is not published
draft_public : (o : Option Part) (row : Row) → is_drafted o ≡ true → (p : Part) → added row o ≡ Some p → p.mark ≡ Published → ⊥
draft_public None row d p e m = both_ways false refl d
draft_public (Some q) row d p e m =
    let k : q.mark ≡ Published = ap mark_of e ∙ m in
    both_ways (is_draft q.mark) (ap is_draft k) d
  where
    mark_of : Option Part → Mark
    mark_of None = Free
    mark_of (Some x) = x.mark

-- ---- publish: the canonical list has the same sets

public_agree : (d : ℕ) → Day d → (list : List SpecRow) (o : Option OneDay) (p : Option Part) → Lists list (on (part_rows p)) → Agree d o p → Agree d (public o) (issued list p)
public_agree d day list None None l h = tt
public_agree d day list None (Some p) l h = absurd h
public_agree d day list (Some x) None l h = absurd h
public_agree d day list (Some x) (Some p) l h = record {
  mark = refl;
  kinds = h.kinds;
  set = λ t. (λ m. (l.sets d day t).1 ((h.set t).0 m), λ m. (h.set t).1 ((l.sets d day t).0 m));
}

issued_canonical : (list : List SpecRow) (o : Option Part) → Canonical list → (p : Part) → issued list o ≡ Some p → p.mark ≡ Published → Canonical p.rows
issued_canonical list None c p e m = let z : ◌≡◌ {A = ℕ} 0 1 = cc in absurd (omega arith)
issued_canonical list (Some q) c p e m = subst Canonical (ap (λ o. part_rows o) e) c

none_canonical : (p : Part) → None ≡ Some p → p.mark ≡ Published → Canonical p.rows
none_canonical p e m = let z : ◌≡◌ {A = ℕ} 0 1 = cc in absurd (omega arith)

opened_canonical : (n : ℕ) (kinds : List Rattle.relation.specs.declared.kinds.Kind.Kind) (p : Part) → Some (opened n kinds) ≡ Some p → p.mark ≡ Published → Canonical p.rows
opened_canonical n kinds p e m = let d : ◌≡◌ {A = Part} (opened n kinds) p = cc in let q : Draft ≡ Published = ap (λ x. x.mark) d ∙ m in let z : ◌≡◌ {A = ℕ} 0 1 = cc in absurd (omega arith)

stands : (e : Event) (h : List Event) (s t : Store) → t ≡ s → ((d n : ℕ) → one_day d (e ∷ h) n ≡ one_day d h n) → Accounts h s → Accounts (e ∷ h) t
stands e h s t same told acc =
    let a : Accounts h t = subst (Accounts h) (sym same) acc in
    record { each = λ d n day. subst (λ x. Agree d x (held t n)) (sym (told d n)) (a.each d n day); canonical = a.canonical }

-- ---- every call

pub kept : (e : Event) (h : List Event) (s t : Store) → Left e s t → Accounts h s → Accounts (e ∷ h) t
kept (drafted name kinds true) h s t p acc = stands (drafted name kinds true) h s t p (λ d n. refl) acc
kept (drafted name kinds false) h s t p acc =
    account h s t (word name) (λ d. Some (record { mark = Draft; kinds = kinds; set = [] })) (Some (opened (word name) kinds)) (drafted name kinds false) p.leaves.only acc (λ d n. refl)
    (λ d day. record { mark = refl; kinds = refl; set = λ t. (λ m. m, λ m. m) })
    (opened_canonical (word name) kinds)
kept (put slip row kinds true) h s t p acc = stands (put slip row kinds true) h s t p (λ d n. refl) acc
kept (put slip row kinds false) h s t p acc =
    let k = slip.name.code in
    account h s t k (λ d. joined d row (one_day d h k)) (added row (held s k)) (put slip row kinds false) p.1.leaves.only acc (λ d n. refl)
    (λ d day. join_agree d row (one_day d h k) (held s k) (acc.each d k day))
    (λ q e m. absurd (draft_public (held s k) row p.1.draft q e m))
kept (published slip work index true) h s t p acc = stands (published slip work index true) h s t p (λ d n. refl) acc
kept (published slip work index false) h s t p acc =
    let k = slip.name.code in
    let l = p.1.lists in
    account h s t k (λ d. public (one_day d h k)) (issued p.1.list (held s k)) (published slip work index false) p.1.leaves.only acc (λ d n. refl)
    (λ d day. public_agree d day p.1.list (one_day d h k) (held s k) l (acc.each d k day))
    (issued_canonical p.1.list (held s k) l.canonical)
kept (abandoned slip true) h s t p acc = stands (abandoned slip true) h s t p (λ d n. refl) acc
kept (abandoned slip false) h s t p acc = account h s t slip.name.code (λ d. None) None (abandoned slip false) p.1.leaves.only acc (λ d n. refl) (λ d day. tt) none_canonical
kept (dropped name true) h s t p acc = stands (dropped name true) h s t p (λ d n. refl) acc
kept (dropped name false) h s t p acc = account h s t (word name) (λ d. None) None (dropped name false) p.1.leaves.only acc (λ d n. refl) (λ d day. tt) none_canonical
kept (shown name output b) h s t p acc = stands (shown name output b) h s t p (λ d n. refl) acc

-- ---- every history

pub new_accounts : (s : Store) → ((n : ℕ) → held s n ≡ None) → Accounts [] s
new_accounts s none = record {
  each = λ d n day. subst (Agree d None) (sym (none n)) tt;
  canonical = λ n p e m. none_canonical p (sym (none n) ∙ e) m;
}

module _ (number : ℕ) where
  along : {h : List Event} {s : Store} → Trace number h s → Accounts h s
  along (begin {s} none) = new_accounts s none
  along (next {h} {s} {t} e before p) = kept e h s t p.left (along before)

published_lists : (h : List Event) (s : Store) → Accounts h s → PublishedLists s
published_lists h s acc = record {
  same = λ m n p q e f a b k. unique p.rows q.rows (acc.canonical m p e a) (acc.canonical n q f b);
  fewest = λ n p rows e a all agree. fewest p.rows rows (acc.canonical n p e a) all agree;
}

-- the last call of a list, and what came before it
last_call : (number : ℕ) {h : List Event} {t : Store} → Trace number h t → (e : Event) (g : List Event) → h ≡ e ∷ g → (s : Store) × (Trace number g s × Step number e s t)
last_call number (begin {s} none) e g same = let z : ◌≡◌ {A = ℕ} 0 1 = cc in absurd (omega arith)
last_call number (next {h} {s} {t} x before step) e g same =
    let same_call : ◌≡◌ {A = Event} x e = cc in
    let same_rest : ◌≡◌ {A = List Event} h g = cc in
    (s, (subst (λ l. Trace number l s) same_rest before, subst (λ c. Step number c s t) same_call step))

pub any_history : AnyHistory
any_history number h s run =
    let acc = along number run in
    record { accounts = acc; lists = published_lists h s acc; last = last_call number run }
