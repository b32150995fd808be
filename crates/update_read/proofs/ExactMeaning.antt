-- Triples say one thing, or are refused in one way.
use Rattle.std.proofs.Common.{◌≡◌, ◌<◌, ◌≤◌, ◌+◌, ℕ, List, [], ◌∷◌, length, true, Option, Some, None, Result, Ok, Err, refl, sym, ap, subst, ◌∙◌, arith, inl, inr}
use Rattle.std.specs.Prelude.{◌⊎◌}
use Rattle.dl_base.specs.Ontologies.{Theory}
use Rattle.dl_base.specs.Repeats.{IsOnce}
use Rattle.dl_base.specs.declared.names.Value.{Value}
use Rattle.dl_base.specs.declared.statements.Fact.{Fact}
use Rattle.dl_base.proofs.RepeatsLaws.{once_is_one}
use Rattle.dl_text.specs.Going.{Goes, stop, go}
use Rattle.dl_text.specs.Kinds.{kind_of}
use Rattle.dl_text.specs.Literals.{ReadsValue}
use Rattle.dl_text.specs.Prefixes.{Bindings, Resolves}
use Rattle.dl_text.specs.declared.faults.TextFault.{TextFault}
use Rattle.dl_text.specs.declared.faults.TextFault.TheVariants as faults
use Rattle.dl_text.specs.declared.kinds.ReadKind.{ReadKind}
use Rattle.dl_text.specs.declared.kinds.ReadKind.TheVariants as kinds
use Rattle.dl_text.proofs.GoingLaws.{goes_one}
use Rattle.dl_text.proofs.LiteralLaws.{reading_one}
use Rattle.dl_text.proofs.PrefixLaws.{resolve_one}
use Rattle.triples.specs.Meaning.{said_of}
use Rattle.triples.specs.Meaning as triple
use Rattle.triples.specs.declared.meaning.Object.{Object}
use Rattle.triples.specs.declared.meaning.Object.TheVariants as meant
use Rattle.triples.specs.declared.meaning.Said.{Said}
use Rattle.triples.specs.declared.meaning.TripleFault.{TripleFault}
use Rattle.update_read.specs.declared.reading.ReadUpdate.{ReadUpdate}
use Rattle.update_read.specs.declared.syntax.Operation.{Operation}
use Rattle.update_read.specs.declared.syntax.SpelledName.{SpelledName}
use Rattle.update_read.specs.declared.syntax.SpelledName.TheVariants.{Full, Short}
use Rattle.update_read.specs.declared.syntax.SpelledVerb.{SpelledVerb}
use Rattle.update_read.specs.declared.syntax.SpelledVerb.TheVariants as verbs
use Rattle.update_read.specs.declared.syntax.SpelledDatatype.{SpelledDatatype}
use Rattle.update_read.specs.declared.syntax.SpelledDatatype.TheVariants as datatypes
use Rattle.update_read.specs.declared.syntax.SpelledObject.{SpelledObject}
use Rattle.update_read.specs.declared.syntax.SpelledObject.TheVariants as objects
use Rattle.update_read.specs.Grammar.{Statement}
use Rattle.update_read.specs.Meaning.{Names, NameFails, VerbNames, VerbFails, DatatypeNames, DatatypeFails, ObjectMeans, ObjectFails, Says, Fails, subject, predicate, object, whole, Outcome, SaysFirst, object_line, inserted, deleted, skips, most_triples, Means, IsRefusedBy}
use Rattle.update_read.proofs.ExactStops.{IsSame}
use Rattle.update_read.proofs.FinishLaws.{goes_length}

pub memory : {X : Type 0} (f : TextFault) (kind : ReadKind) → kind_of f ≡ Some kind → ◌≡◌ {A = Result X TextFault} (Err f) (Err faults.OutOfMemory) → ⊥
memory f kind e m = let is : f ≡ faults.OutOfMemory = cc in let g : ◌≡◌ {A = Option ReadKind} None (Some kind) = ap kind_of (sym is) ∙ e in cc

pub same_kind : {X : Type 0} (f g : TextFault) (k l : ReadKind) → kind_of f ≡ Some k → kind_of g ≡ Some l → ◌≡◌ {A = Result X TextFault} (Err f) (Err g) → k ≡ l
same_kind f g k l e h m = let is : f ≡ g = cc in let j : ◌≡◌ {A = Option ReadKind} (Some k) (Some l) = sym e ∙ ap kind_of is ∙ h in cc

pub ok_is : {X : Type 0} (x y : X) → ◌≡◌ {A = Result X TextFault} (Ok x) (Ok y) → x ≡ y
ok_is x y e = cc

pub ok_err : {X : Type 0} (x : X) (f : TextFault) → ◌≡◌ {A = Result X TextFault} (Ok x) (Err f) → ⊥
ok_err x f e = cc

pub no_memory : {X : Type 0} (x : X) → ◌≡◌ {A = Result X TextFault} (Ok x) (Err faults.OutOfMemory) → ⊥
no_memory x e = cc

module _ (b : Bindings) where
  -- ---- names
  name_one : (it : SpelledName) (x y : List ℕ) → Names b it x → Names b it y → x ≡ y
  name_one (Full line iri) x y h k = h ∙ sym k
  name_one (Short line p l) x y h k = ok_is x y (resolve_one b p l true (Ok x) (Ok y) h k (no_memory x) (no_memory y))

  name_not_both : (it : SpelledName) (x : List ℕ) (m : ℕ) (k : ReadKind) → Names b it x → ¬ NameFails b it m k
  name_not_both (Full line iri) x m k h f = f
  name_not_both (Short line p l) x m k h (f, r, e, at) = ok_err x f (resolve_one b p l true (Ok x) (Err f) h r (no_memory x) (memory f k e))

  name_fails_one : (it : SpelledName) (m n : ℕ) (k l : ReadKind) → NameFails b it m k → NameFails b it n l → IsSame m n k l
  name_fails_one (Full line iri) m n k l h j = absurd h
  name_fails_one (Short line p q) m n k l (f, r, e, at) (g, s, h, here) =
      (at ∙ sym here, same_kind f g k l e h (resolve_one b p q true (Err f) (Err g) r s (memory f k e) (memory g l h)))

  verb_one : (it : SpelledVerb) (x y : List ℕ) → VerbNames b it x → VerbNames b it y → x ≡ y
  verb_one (verbs.Named it) x y h k = name_one it x y h k
  verb_one verbs.IsA x y h k = h ∙ sym k

  verb_not_both : (it : SpelledVerb) (x : List ℕ) (m : ℕ) (k : ReadKind) → VerbNames b it x → ¬ VerbFails b it m k
  verb_not_both (verbs.Named it) x m k h f = name_not_both it x m k h f
  verb_not_both verbs.IsA x m k h f = f

  verb_fails_one : (it : SpelledVerb) (m n : ℕ) (k l : ReadKind) → VerbFails b it m k → VerbFails b it n l → IsSame m n k l
  verb_fails_one (verbs.Named it) m n k l h j = name_fails_one it m n k l h j
  verb_fails_one verbs.IsA m n k l h j = absurd h

  datatype_one : (it : SpelledDatatype) (x y : List ℕ) → DatatypeNames b it x → DatatypeNames b it y → x ≡ y
  datatype_one datatypes.Untyped x y h k = h ∙ sym k
  datatype_one datatypes.Integer x y h k = h ∙ sym k
  datatype_one datatypes.Boolean x y h k = h ∙ sym k
  datatype_one (datatypes.Written it) x y h k = name_one it x y h k

  datatype_not_both : (it : SpelledDatatype) (x : List ℕ) (m : ℕ) (k : ReadKind) → DatatypeNames b it x → ¬ DatatypeFails b it m k
  datatype_not_both datatypes.Untyped x m k h f = f
  datatype_not_both datatypes.Integer x m k h f = f
  datatype_not_both datatypes.Boolean x m k h f = f
  datatype_not_both (datatypes.Written it) x m k h f = name_not_both it x m k h f

  datatype_fails_one : (it : SpelledDatatype) (m n : ℕ) (k l : ReadKind) → DatatypeFails b it m k → DatatypeFails b it n l → IsSame m n k l
  datatype_fails_one datatypes.Untyped m n k l h j = absurd h
  datatype_fails_one datatypes.Integer m n k l h j = absurd h
  datatype_fails_one datatypes.Boolean m n k l h j = absurd h
  datatype_fails_one (datatypes.Written it) m n k l h j = name_fails_one it m n k l h j

  -- ---- objects
  object_one : (it : SpelledObject) (x y : Object) → ObjectMeans b it x → ObjectMeans b it y → x ≡ y
  object_one (objects.Named it) x y (n, h, e) (m, k, f) = e ∙ ap (λ (z : List ℕ). meant.Iri z) (name_one it n m h k) ∙ sym f
  object_one (objects.Literal line text tag d) x y (n, v, h, r, e) (m, w, k, s, f) =
      let same = datatype_one d n m h k in
      let q = subst (λ (z : List ℕ). ReadsValue text z tag (Ok v)) same r in
      e ∙ ap (λ (z : Value). meant.Literal z) (ok_is v w (reading_one text m tag (Ok v) (Ok w) q s (no_memory v) (no_memory w))) ∙ sym f

  object_not_both : (it : SpelledObject) (x : Object) (m : ℕ) (k : ReadKind) → ObjectMeans b it x → ¬ ObjectFails b it m k
  object_not_both (objects.Named it) x m k (n, h, e) f = name_not_both it n m k h f
  object_not_both (objects.Literal line text tag d) x m k (n, v, h, r, e) (inl f) = datatype_not_both d n m k h f
  object_not_both (objects.Literal line text tag d) x m k (n, v, h, r, e) (inr (p, f, i, s, g, at)) =
      let q = subst (λ (z : List ℕ). ReadsValue text z tag (Ok v)) (datatype_one d n p h i) r in
      ok_err v f (reading_one text p tag (Ok v) (Err f) q s (no_memory v) (memory f k g))

  object_fails_one : (it : SpelledObject) (m n : ℕ) (k l : ReadKind) → ObjectFails b it m k → ObjectFails b it n l → IsSame m n k l
  object_fails_one (objects.Named it) m n k l h j = name_fails_one it m n k l h j
  object_fails_one (objects.Literal line text tag d) m n k l (inl h) (inl j) = datatype_fails_one d m n k l h j
  object_fails_one (objects.Literal line text tag d) m n k l (inl h) (inr (p, f, i, s, g, at)) = absurd (datatype_not_both d p m k i h)
  object_fails_one (objects.Literal line text tag d) m n k l (inr (p, f, i, s, g, at)) (inl h) = absurd (datatype_not_both d p n l i h)
  object_fails_one (objects.Literal line text tag d) m n k l (inr (p, f, i, s, g, at)) (inr (q, h, j, r, e, here)) =
      let t = subst (λ (z : List ℕ). ReadsValue text z tag (Err f)) (datatype_one d p q i j) s in
      (at ∙ sym here, same_kind f h k l g e (reading_one text q tag (Err f) (Err h) t r (memory f k g) (memory h l e)))

said_ok_is : (x y : Said) → ◌≡◌ {A = Result Said TripleFault} (Ok x) (Ok y) → x ≡ y
said_ok_is x y e = cc

said_err_is : (x y : TripleFault) → ◌≡◌ {A = Result Said TripleFault} (Err x) (Err y) → x ≡ y
said_err_is x y e = cc

said_not_both : (x : Said) (y : TripleFault) → ◌≡◌ {A = Result Said TripleFault} (Ok x) (Err y) → ⊥
said_not_both x y e = cc

module _ (theory : Theory) (st : Statement) where
  said_same : (s p : List ℕ) (o : Object) (t q : List ℕ) (i : Object) → Names st.bindings st.stem.subject s → VerbNames st.bindings st.stem.verb p → ObjectMeans st.bindings st.object o
      → Names st.bindings st.stem.subject t → VerbNames st.bindings st.stem.verb q → ObjectMeans st.bindings st.object i → said_of theory s p o ≡ said_of theory t q i
  said_same s p o t q i a c d e f g =
      ap (λ (z : List ℕ). said_of theory z p o) (name_one st.bindings st.stem.subject s t a e) ∙ ap (λ (z : List ℕ). said_of theory t z o) (verb_one st.bindings st.stem.verb p q c f)
      ∙ ap (λ (z : Object). said_of theory t q z) (object_one st.bindings st.object o i d g)

  pub says_one : (x y : Said) → Says theory st x → Says theory st y → x ≡ y
  says_one x y h k = said_ok_is x y (sym h.says ∙ said_same h.subject h.predicate h.object k.subject k.predicate k.object h.is_subject h.is_predicate h.is_object k.is_subject k.is_predicate k.is_object ∙ k.says)

  pub says_not_fails : (x : Said) (m : ℕ) (k : ReadKind) → Says theory st x → ¬ Fails theory st m k
  says_not_fails x m k h (subject f) = name_not_both st.bindings st.stem.subject h.subject m k h.is_subject f
  says_not_fails x m k h (predicate s n f) = verb_not_both st.bindings st.stem.verb h.predicate m k h.is_predicate f
  says_not_fails x m k h (object s p n v f) = object_not_both st.bindings st.object h.object m k h.is_object f
  says_not_fails x m k h (whole s p o fault n v i e at kind) =
      said_not_both x fault (sym h.says ∙ said_same h.subject h.predicate h.object s p o h.is_subject h.is_predicate h.is_object n v i ∙ e)

  pub fails_one : (m n : ℕ) (k l : ReadKind) → Fails theory st m k → Fails theory st n l → IsSame m n k l
  fails_one m n k l (subject f) (subject g) = name_fails_one st.bindings st.stem.subject m n k l f g
  fails_one m n k l (subject f) (predicate s a g) = absurd (name_not_both st.bindings st.stem.subject s m k a f)
  fails_one m n k l (subject f) (object s p a c g) = absurd (name_not_both st.bindings st.stem.subject s m k a f)
  fails_one m n k l (subject f) (whole s p o x a c i e at kind) = absurd (name_not_both st.bindings st.stem.subject s m k a f)
  fails_one m n k l (predicate s a g) (subject f) = absurd (name_not_both st.bindings st.stem.subject s n l a f)
  fails_one m n k l (predicate s a f) (predicate t c g) = verb_fails_one st.bindings st.stem.verb m n k l f g
  fails_one m n k l (predicate s a f) (object t p c d g) = absurd (verb_not_both st.bindings st.stem.verb p m k d f)
  fails_one m n k l (predicate s a f) (whole t p o x c d i e at kind) = absurd (verb_not_both st.bindings st.stem.verb p m k d f)
  fails_one m n k l (object s p a c g) (subject f) = absurd (name_not_both st.bindings st.stem.subject s n l a f)
  fails_one m n k l (object t p c d g) (predicate s a f) = absurd (verb_not_both st.bindings st.stem.verb p n l d f)
  fails_one m n k l (object s p a c f) (object t q d e g) = object_fails_one st.bindings st.object m n k l f g
  fails_one m n k l (object s p a c f) (whole t q o x d e i g at kind) = absurd (object_not_both st.bindings st.object o m k i f)
  fails_one m n k l (whole s p o x a c i e at kind) (subject f) = absurd (name_not_both st.bindings st.stem.subject s n l a f)
  fails_one m n k l (whole t p o x c d i e at kind) (predicate s a f) = absurd (verb_not_both st.bindings st.stem.verb p n l d f)
  fails_one m n k l (whole t q o x d e i g at kind) (object s p a c f) = absurd (object_not_both st.bindings st.object o n l i f)
  fails_one m n k l (whole s p o x a c i e at kind) (whole t q r y d f j g here sort) =
      (at ∙ sym here, kind ∙ ap triple.kind_of (said_err_is x y (sym e ∙ said_same s p o t q r a c i d f j ∙ g)) ∙ sym sort)

module _ (theory : Theory) where
  outcome_is : (x y : Outcome) → x.operation ≡ y.operation → x.said ≡ y.said → x ≡ y
  outcome_is x y e f =
      ap (λ (z : Operation). let o : Outcome = record { operation = z; said = x.said } in o) e ∙ ap (λ (z : Said). let o : Outcome = record { operation = y.operation; said = z } in o) f

  head_is : (s t : Statement) (m n : List Statement) → s ∷ m ≡ t ∷ n → s ≡ t
  head_is s t m n e = cc

  tail_is : (s t : Statement) (m n : List Statement) → s ∷ m ≡ t ∷ n → m ≡ n
  tail_is s t m n e = cc

  first_one : (s m n : List Statement) (o p : Outcome) → SaysFirst theory s o m → SaysFirst theory s p n → (o ≡ p) × (m ≡ n)
  first_one s m n o p h k =
      let same = head_is h.statement k.statement m n (sym h.is ∙ k.is) in (
        outcome_is o p (h.operation ∙ ap (λ (z : Statement). z.stem.operation) same ∙ sym k.operation)
            (says_one theory k.statement o.said p.said (subst (λ (z : Statement). Says theory z o.said) same h.says) k.says),
        tail_is h.statement k.statement m n (sym h.is ∙ k.is),
      )

  none_first : (m : List Statement) (o : Outcome) → ¬ SaysFirst theory [] o m
  none_first m o h = let e = h.is in cc

  failed_first : (st : Statement) (rest m : List Statement) (o : Outcome) (line : ℕ) (kind : ReadKind) → Fails theory st line kind → ¬ SaysFirst theory (st ∷ rest) o m
  failed_first st rest m o line kind f h = says_not_fails theory st o.said line kind (subst (λ (z : Statement). Says theory z o.said) (sym (head_is st h.statement rest m h.is)) h.says) f

  update_is : (u v : ReadUpdate) → u.inserts ≡ v.inserts → u.deletes ≡ v.deletes → u.skipped ≡ v.skipped → u ≡ v
  update_is u v e f g =
      ap (λ (z : List Fact). let r : ReadUpdate = record { inserts = z; deletes = u.deletes; skipped = u.skipped } in r) e
      ∙ ap (λ (z : List Fact). let r : ReadUpdate = record { inserts = v.inserts; deletes = z; skipped = u.skipped } in r) f
      ∙ ap (λ (z : ℕ). let r : ReadUpdate = record { inserts = v.inserts; deletes = v.deletes; skipped = z } in r) g

  pub means_one : (ts : List Statement) (u v : ReadUpdate) → Means theory ts u → Means theory ts v → u ≡ v
  means_one ts u v h k =
      let same = (goes_one (SaysFirst theory) first_one ts [] [] h.outcomes k.outcomes h.goes k.goes none_first none_first).0 in
      update_is u v
      (once_is_one (inserted k.outcomes) u.inserts v.inserts (subst (λ (z : List Outcome). IsOnce (inserted z) u.inserts) same h.inserts) k.inserts)
      (once_is_one (deleted k.outcomes) u.deletes v.deletes (subst (λ (z : List Outcome). IsOnce (deleted z) u.deletes) same h.deletes) k.deletes)
      (h.skipped ∙ ap skips same ∙ sym k.skipped)

  pub means_not_refused : (ts : List Statement) (u : ReadUpdate) (line : ℕ) (kind : ReadKind) → Means theory ts u → ¬ IsRefusedBy theory ts line kind
  means_not_refused ts u line kind h k = on k.refused
    where
      on : ((length k.outcomes ≡ most_triples) × (line ≡ object_line k.statement.object) × (kind ≡ kinds.TooManyFacts))
          ⊎ ((length k.outcomes < most_triples) × Fails theory k.statement line kind) → ⊥
      on (inl (l, e, f)) = let long = goes_length theory ts (k.statement ∷ k.rest) k.outcomes k.goes in let few = h.few in omega (arith, long, l, few)
      on (inr (l, f)) =
          let one = (goes_one (SaysFirst theory) first_one ts [] (k.statement ∷ k.rest) h.outcomes k.outcomes h.goes k.goes none_first (λ m o. failed_first k.statement k.rest m o line kind f)).1 in
          cc

  -- two places after equally many triples are one
  place_one : (s m n : List Statement) (os ps : List Outcome) → Goes (SaysFirst theory) s os m → Goes (SaysFirst theory) s ps n → length os ≡ length ps → m ≡ n
  place_one s m n os ps (stop v) (stop w) e = refl
  place_one s m n os ps (stop v) (go a c d o qs k r) e = absurd (omega (arith, e))
  place_one s m n os ps (go a c d o qs k r) (stop v) e = absurd (omega (arith, e))
  place_one s m n os ps (go a c d o qs k r) (go x y z p xs l t) e =
      let same = (first_one a c y o p k l).1 in
      place_one c d z qs xs r (subst (λ (w : List Statement). Goes (SaysFirst theory) w xs z) (sym same) t) (omega (arith, e))

  -- a place that fails isn't passed
  not_passed : (ts rest m : List Statement) (os ps : List Outcome) (st : Statement) (line : ℕ) (kind : ReadKind) → Goes (SaysFirst theory) ts os (st ∷ rest) → Fails theory st line kind
      → Goes (SaysFirst theory) ts ps m → length os < length ps → ⊥
  not_passed ts rest m os ps st line kind (stop v) f (stop w) l = omega (arith, l)
  not_passed ts rest m os ps st line kind (stop v) f (go a c d o qs k r) l = failed_first st rest c o line kind f k
  not_passed ts rest m os ps st line kind (go a c d o qs k r) f (stop w) l = omega (arith, l)
  not_passed ts rest m os ps st line kind (go a c d o qs k r) f (go x y z p xs j t) l =
      let same = (first_one a c y o p k j).1 in
      not_passed c rest z qs xs st line kind r f (subst (λ (w : List Statement). Goes (SaysFirst theory) w xs z) (sym same) t) (omega (arith, l))

  pub refused_by_one : (ts : List Statement) (m n : ℕ) (k l : ReadKind) → IsRefusedBy theory ts m k → IsRefusedBy theory ts n l → IsSame m n k l
  refused_by_one ts m n k l h j = on h.refused j.refused
    where
      on : ((length h.outcomes ≡ most_triples) × (m ≡ object_line h.statement.object) × (k ≡ kinds.TooManyFacts))
          ⊎ ((length h.outcomes < most_triples) × Fails theory h.statement m k)
          → ((length j.outcomes ≡ most_triples) × (n ≡ object_line j.statement.object) × (l ≡ kinds.TooManyFacts))
          ⊎ ((length j.outcomes < most_triples) × Fails theory j.statement n l) → IsSame m n k l
      on (inl (a, e, f)) (inl (c, g, i)) =
          let same = head_is h.statement j.statement h.rest j.rest (place_one ts (h.statement ∷ h.rest) (j.statement ∷ j.rest) h.outcomes j.outcomes h.goes j.goes (a ∙ sym c)) in
          (e ∙ ap (λ (z : Statement). object_line z.object) same ∙ sym g, f ∙ sym i)
      on (inl (a, e, f)) (inr (c, g)) = absurd (not_passed ts j.rest (h.statement ∷ h.rest) j.outcomes h.outcomes j.statement n l j.goes g h.goes (omega (arith, a, c)))
      on (inr (c, g)) (inl (a, e, f)) = absurd (not_passed ts h.rest (j.statement ∷ j.rest) h.outcomes j.outcomes h.statement m k h.goes g j.goes (omega (arith, a, c)))
      on (inr (a, f)) (inr (c, g)) =
          let one = (goes_one (SaysFirst theory) first_one ts (h.statement ∷ h.rest) (j.statement ∷ j.rest) h.outcomes j.outcomes h.goes j.goes
          (λ x o. failed_first h.statement h.rest x o m k f) (λ x o. failed_first j.statement j.rest x o n l g)).1 in
          let same = head_is h.statement j.statement h.rest j.rest one in
          fails_one theory j.statement m n k l (subst (λ (z : Statement). Fails theory z m k) same f) g
