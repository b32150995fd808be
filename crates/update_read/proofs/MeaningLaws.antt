-- What triples say, one after another.
use Rattle.std.proofs.Common.{◌≡◌, ◌≤◌, ◌<◌, ◌+◌, ℕ, List, [], ◌∷◌, ◌++◌, length, cond, Bool, true, false, Some, None, Ok, Err, refl, sym, ap, subst, ◌∙◌, append_assoc, arith, inl, inr}
use Rattle.std.specs.Prelude.{count_by, Option, Result}
use Rattle.std.specs.List.{flat_map}
use Rattle.std.proofs.lemmas.List.{append-nil, length-append}
use Rattle.std.proofs.lemmas.List.Sums.{sum_by-append}
use Rattle.dl_base.specs.Ontologies.{Theory}
use Rattle.dl_base.specs.declared.statements.Fact.{Fact}
use Rattle.dl_text.specs.Going.{Goes, stop, go}
use Rattle.dl_text.specs.Kinds.{kind_of}
use Rattle.dl_text.specs.Literals.{ReadsValue}
use Rattle.dl_text.specs.Prefixes.{Bindings, Resolves}
use Rattle.dl_text.specs.declared.faults.TextFault.{TextFault}
use Rattle.dl_text.specs.declared.faults.TextFault.TheVariants as faults
use Rattle.dl_text.specs.declared.kinds.ReadKind.{ReadKind}
use Rattle.dl_text.specs.declared.kinds.ReadKind.TheVariants as kinds
use Rattle.dl_text.specs.declared.refusals.ReadRefusal.{ReadRefusal}
use Rattle.dl_text.specs.declared.refusals.ReadRefusal.TheVariants as refusals
use Rattle.dl_text.proofs.GoingLaws.{goes_push}
use Rattle.triples.specs.Meaning.{said_of}
use Rattle.triples.specs.Meaning as triple
use Rattle.triples.specs.declared.meaning.Object.{Object}
use Rattle.triples.specs.declared.meaning.Said.{Said}
use Rattle.triples.specs.declared.meaning.TripleFault.{TripleFault}
use Rattle.update_read.specs.declared.lists.Lists.{Lists}
use Rattle.update_read.specs.declared.syntax.SpelledName.TheVariants as names
use Rattle.update_read.specs.declared.syntax.SpelledObject.TheVariants as objects
use Rattle.update_read.specs.declared.syntax.SpelledDatatype.{SpelledDatatype}
use Rattle.update_read.specs.Grammar.{Statement}
use Rattle.update_read.specs.Meaning.{Names, VerbNames, DatatypeNames, ObjectMeans, Says, Fails, subject, predicate, object, whole, Outcome, SaysFirst, object_line, inserted_by, deleted_by, is_skip, inserted, deleted, skips, most_triples, IsRefusedBy}
use Rattle.update_read.specs.Taking.{refusal_of, ReadsName, ReadsVerb, ReadsObject, ReadsTriple, IsPut, IsGathered}

-- a prefixed name's fault is refused on its line
pub name_fails : (b : Bindings) (line : ℕ) (prefix local : List ℕ) (fault : TextFault) → Resolves b prefix local true (Err fault)
    → ReadsName b (names.Short line prefix local) (Err (refusal_of line (kind_of fault)))
name_fails b line prefix local faults.BadIri h = (faults.BadIri, h, refl, refl)
name_fails b line prefix local faults.BadEscape h = (faults.BadEscape, h, refl, refl)
name_fails b line prefix local faults.BadLiteral h = (faults.BadLiteral, h, refl, refl)
name_fails b line prefix local faults.NameTooLong h = (faults.NameTooLong, h, refl, refl)
name_fails b line prefix local faults.UnknownPrefix h = (faults.UnknownPrefix, h, refl, refl)
name_fails b line prefix local faults.OutOfMemory h = tt

-- a text that its datatype doesn't have is refused on its line
pub literal_fails : (b : Bindings) (line : ℕ) (text tag name : List ℕ) (datatype : SpelledDatatype) (fault : TextFault) → DatatypeNames b datatype name → ReadsValue text name tag (Err fault)
    → ReadsObject b (objects.Literal line text tag datatype) (Err (refusal_of line (kind_of fault)))
literal_fails b line text tag name datatype faults.BadIri d h = inr (name, faults.BadIri, d, h, refl, refl)
literal_fails b line text tag name datatype faults.BadEscape d h = inr (name, faults.BadEscape, d, h, refl, refl)
literal_fails b line text tag name datatype faults.BadLiteral d h = inr (name, faults.BadLiteral, d, h, refl, refl)
literal_fails b line text tag name datatype faults.NameTooLong d h = inr (name, faults.NameTooLong, d, h, refl, refl)
literal_fails b line text tag name datatype faults.UnknownPrefix d h = inr (name, faults.UnknownPrefix, d, h, refl, refl)
literal_fails b line text tag name datatype faults.OutOfMemory d h = tt

module _ (theory : Theory) (st : Statement) where
  pub subject_fails : (r : ReadRefusal) → ReadsName st.bindings st.stem.subject (Err r) → ReadsTriple theory st (Err r)
  subject_fails (refusals.Refused line kind) h = subject h
  subject_fails refusals.OutOfMemory h = tt

  pub predicate_fails : (s : List ℕ) (r : ReadRefusal) → Names st.bindings st.stem.subject s → ReadsVerb st.bindings st.stem.verb (Err r) → ReadsTriple theory st (Err r)
  predicate_fails s (refusals.Refused line kind) n h = predicate s n h
  predicate_fails s refusals.OutOfMemory n h = tt

  pub object_fails : (s p : List ℕ) (r : ReadRefusal) → Names st.bindings st.stem.subject s → VerbNames st.bindings st.stem.verb p → ReadsObject st.bindings st.object (Err r) → ReadsTriple theory st (Err r)
  object_fails s p (refusals.Refused line kind) n v h = object s p n v h
  object_fails s p refusals.OutOfMemory n v h = tt

  pub whole_fails : (s p : List ℕ) (o : Object) (fault : TripleFault) (line : ℕ) (kind : ReadKind) → Names st.bindings st.stem.subject s → VerbNames st.bindings st.stem.verb p → ObjectMeans st.bindings st.object o
      → Err fault ≡ said_of theory s p o → line ≡ object_line st.object → kind ≡ triple.kind_of fault → Fails theory st line kind
  whole_fails s p o fault line kind n v m e l k = whole s p o fault n v m (sym e) l k

-- triples in front of others
goes_before : (theory : Theory) (s e x : List Statement) (os : List Outcome) → Goes (SaysFirst theory) s os e → Goes (SaysFirst theory) (s ++ x) os (e ++ x)
goes_before theory s e x os (stop v) = stop (v ++ x)
goes_before theory s e x os (go v m w o qs k r) =
    go (v ++ x) (m ++ x) (w ++ x) o qs (record { statement = k.statement; is = ap (λ (z : List Statement). z ++ x) k.is; operation = k.operation; says = k.says }) (goes_before theory m w x qs r)

inserted-append : (os ps : List Outcome) → inserted (os ++ ps) ≡ inserted os ++ inserted ps
inserted-append [] ps = refl
inserted-append (o ∷ os) ps = ap (λ (z : List Fact). inserted_by o.operation o.said ++ z) (inserted-append os ps) ∙ sym (append_assoc (inserted_by o.operation o.said) (inserted os) (inserted ps))

deleted-append : (os ps : List Outcome) → deleted (os ++ ps) ≡ deleted os ++ deleted ps
deleted-append [] ps = refl
deleted-append (o ∷ os) ps = ap (λ (z : List Fact). deleted_by o.operation o.said ++ z) (deleted-append os ps) ∙ sym (append_assoc (deleted_by o.operation o.said) (deleted os) (deleted ps))

one_skip : (o : Outcome) → skips (o ∷ []) ≡ cond (is_skip o.said) 1 0
one_skip o = by (is_skip o.said)
  where
    by : (b : Bool) → 0 + cond b 1 0 ≡ cond b 1 0
    by true = refl
    by false = refl

skips-append : (os : List Outcome) (o : Outcome) → skips (os ++ o ∷ []) ≡ skips os + cond (is_skip o.said) 1 0
skips-append os o = let e = sum_by-append (λ (p : Outcome). cond (is_skip p.said) 1 0) os (o ∷ []) in omega (arith, e, one_skip o)

module _ (theory : Theory) (st : Statement) (ts : List Statement) (lists : Lists) where
  here : (g : IsGathered theory ts lists) → Goes (SaysFirst theory) (ts ++ st ∷ []) g.outcomes (st ∷ [])
  here g = goes_before theory ts [] (st ∷ []) g.outcomes g.goes

  -- one triple too many
  pub too_many : (line : ℕ) → IsGathered theory ts lists → lists.triples ≡ most_triples → line ≡ object_line st.object → IsRefusedBy theory (ts ++ st ∷ []) line kinds.TooManyFacts
  too_many line g l e = record { outcomes = g.outcomes; statement = st; rest = []; goes = here g; refused = inl (omega (arith, l, g.triples), e, refl) }

  -- a triple that fails
  pub failed : (line : ℕ) (kind : ReadKind) → IsGathered theory ts lists → lists.triples < most_triples → Fails theory st line kind → IsRefusedBy theory (ts ++ st ∷ []) line kind
  failed line kind g l f = record { outcomes = g.outcomes; statement = st; rest = []; goes = here g; refused = inr (omega (arith, l, g.triples), f) }

  -- a triple that says something
  pub taken : (said : Said) (new : Lists) → IsGathered theory ts lists → Says theory st said → IsPut lists st.stem.operation said new → IsGathered theory (ts ++ st ∷ []) new
  taken said new g s p =
      let o : Outcome = record { operation = st.stem.operation; said = said } in
      let step : SaysFirst theory (st ∷ []) o [] = record { statement = st; is = refl; operation = refl; says = s } in record {
        outcomes = g.outcomes ++ o ∷ [];
        goes = goes_push (SaysFirst theory) (ts ++ st ∷ []) (st ∷ []) [] g.outcomes o (here g) step;
        inserts = p.inserts ∙ ap (λ (z : List Fact). z ++ inserted_by st.stem.operation said) g.inserts ∙ ap (λ (z : List Fact). inserted g.outcomes ++ z) (sym (append-nil (inserted_by st.stem.operation said)))
            ∙ sym (inserted-append g.outcomes (o ∷ []));
        deletes = p.deletes ∙ ap (λ (z : List Fact). z ++ deleted_by st.stem.operation said) g.deletes ∙ ap (λ (z : List Fact). deleted g.outcomes ++ z) (sym (append-nil (deleted_by st.stem.operation said)))
            ∙ sym (deleted-append g.outcomes (o ∷ []));
        skipped = p.skipped ∙ ap (λ (n : ℕ). n + cond (is_skip said) 1 0) g.skipped ∙ sym (skips-append g.outcomes o);
        triples = omega (arith, p.triples, g.triples, length-append g.outcomes (o ∷ []));
      }

-- what was refused stays refused
pub refused_more : (theory : Theory) (ts us : List Statement) (line : ℕ) (kind : ReadKind) → IsRefusedBy theory ts line kind → IsRefusedBy theory (ts ++ us) line kind
refused_more theory ts us line kind r = record {
  outcomes = r.outcomes;
  statement = r.statement;
  rest = r.rest ++ us;
  goes = goes_before theory ts (r.statement ∷ r.rest) us r.outcomes r.goes;
  refused = r.refused;
}
