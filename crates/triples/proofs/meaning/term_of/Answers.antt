use Rattle.std.proofs.Common.{◌≡◌, ℕ, List, Some, None, sym}
use Rattle.std.specs.Prelude.{Option, MatchOption, slice_get}
use Rattle.dl_base.specs.declared.terms.Kind.{Kind}
use Rattle.dl_base.specs.declared.terms.Term.{Term}
use Rattle.dl_base.specs.Ontologies.{Theory, AreNamedOnce}
use Rattle.dl_base.specs.Vocabularies.{HasNoTerm}
use Rattle.triples.specs.Meaning.{term_of}
use Rattle.triples.proofs.TermLaws.{found_is, missing_is}
use Rattle.triples.proofs.meaning.term_of.Goals as goal

-- the answer of a look-up by name is the term of the name
looked_up : (theory : Theory) (name : List ℕ) (r : Option (Term × Kind)) → AreNamedOnce theory
    → MatchOption r (HasNoTerm theory.terms name) (λ (found : Term × Kind). slice_get theory.terms found.0.0 ≡ Some (name, found.1)) → r ≡ term_of theory name
looked_up theory name None once h = sym (missing_is theory name h)
looked_up theory name (Some (term, kind)) once h = sym (found_is theory name term kind once h)

pub returns : goal.returns
returns c = looked_up c.args.ontology.now c.args.name.now c.term.result c.terms-terms.ensures.sound.named_once c.term.ensures
