-- The facts of an update are over terms of its ontology.
use Rattle.std.proofs.Common.{◌≡◌, ℕ, List, [], ◌∷◌, ◌++◌, Ok, Err, refl, sym, ap, subst, ◌∙◌, inl, inr, IfOk}
use Rattle.std.specs.Prelude.{All, ◌⊎◌, Result}
use Rattle.std.proofs.lemmas.List.Elements.{All-nil, All-cons, All-head, All-tail, All-append}
use Rattle.dl_base.specs.Ontologies.{Theory, Knows}
use Rattle.dl_base.specs.Repeats.{IsOnceAfter, IsOnce}
use Rattle.dl_base.specs.declared.statements.Fact.{Fact}
use Rattle.dl_text.specs.Going.{Goes, stop, go}
use Rattle.dl_text.specs.declared.refusals.ReadRefusal.{ReadRefusal}
use Rattle.triples.specs.Meaning.{KnowsSaid}
use Rattle.triples.proofs.KnownLaws.{said_known}
use Rattle.triples.specs.declared.meaning.Said.{Said}
use Rattle.triples.specs.declared.meaning.Said.TheVariants as saids
use Rattle.update_read.specs.declared.syntax.Operation.{Operation}
use Rattle.update_read.specs.declared.syntax.Operation.TheVariants.{Insert, Delete}
use Rattle.update_read.specs.declared.reading.ReadUpdate.{ReadUpdate}
use Rattle.update_read.specs.Grammar.{Statement}
use Rattle.update_read.specs.Meaning.{Says, Outcome, SaysFirst, inserted_by, deleted_by, inserted, deleted, Means}
use Rattle.update_read.specs.Outcomes.{ReadsText, ReadsUpdate, KnowsUpdate}

-- what is kept of facts that all are so is so
once_all : (P : Fact → Type 0) (seen facts kept : List Fact) → All P facts → IsOnceAfter seen facts kept → All P kept
once_all P seen [] kept a e = subst (All P) (sym e) (All-nil P)
once_all P seen (f ∷ facts) kept a (inl (c, h)) = once_all P seen facts kept (All-tail P f facts a) h
once_all P seen (f ∷ facts) kept a (inr (n, (rest, e, h))) =
    subst (All P) (sym e) (All-cons P f rest (All-head P f facts a) (once_all P (f ∷ seen) facts rest (All-tail P f facts a) h))

module _ (theory : Theory) where
  one_inserted : (op : Operation) (said : Said) → KnowsSaid theory said → All (Knows theory) (inserted_by op said)
  one_inserted op saids.Skipped k = All-nil (Knows theory)
  one_inserted Insert (saids.Fact f) k = All-cons (Knows theory) f [] k (All-nil (Knows theory))
  one_inserted Delete (saids.Fact f) k = All-nil (Knows theory)

  one_deleted : (op : Operation) (said : Said) → KnowsSaid theory said → All (Knows theory) (deleted_by op said)
  one_deleted op saids.Skipped k = All-nil (Knows theory)
  one_deleted Insert (saids.Fact f) k = All-nil (Knows theory)
  one_deleted Delete (saids.Fact f) k = All-cons (Knows theory) f [] k (All-nil (Knows theory))

  says_known : (st : Statement) (said : Said) → Says theory st said → KnowsSaid theory said
  says_known st said s = said_known theory s.subject said s.predicate s.object s.says

  all_inserted : (ts e : List Statement) (os : List Outcome) → Goes (SaysFirst theory) ts os e → All (Knows theory) (inserted os)
  all_inserted ts e os (stop v) = All-nil (Knows theory)
  all_inserted ts e os (go v m w o qs k r) =
      All-append (Knows theory) (inserted_by o.operation o.said) (inserted qs) (one_inserted o.operation o.said (says_known k.statement o.said k.says)) (all_inserted m w qs r)

  all_deleted : (ts e : List Statement) (os : List Outcome) → Goes (SaysFirst theory) ts os e → All (Knows theory) (deleted os)
  all_deleted ts e os (stop v) = All-nil (Knows theory)
  all_deleted ts e os (go v m w o qs k r) =
      All-append (Knows theory) (deleted_by o.operation o.said) (deleted qs) (one_deleted o.operation o.said (says_known k.statement o.said k.says)) (all_deleted m w qs r)

  pub means_known : (ts : List Statement) (update : ReadUpdate) → Means theory ts update → KnowsUpdate theory update
  means_known ts update m = (
    once_all (Knows theory) [] (inserted m.outcomes) update.inserts (all_inserted ts [] m.outcomes m.goes) m.inserts,
    once_all (Knows theory) [] (deleted m.outcomes) update.deletes (all_deleted ts [] m.outcomes m.goes) m.deletes,
  )

  pub text_known : (bytes : List ℕ) (r : Result ReadUpdate ReadRefusal) → ReadsText theory bytes r → IfOk r (KnowsUpdate theory)
  text_known bytes (Ok update) (ts, p, m) = means_known ts update m
  text_known bytes (Err e) h = tt
