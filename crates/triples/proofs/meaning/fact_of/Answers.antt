use Rattle.std.proofs.Common.{◌≡◌, Ok, Err, sym, refl, subst, IfOk}
use Rattle.std.specs.Prelude.{Result, Option}
use Rattle.dl_base.specs.declared.terms.Kind.{Kind}
use Rattle.dl_base.specs.declared.terms.Term.{Term}
use Rattle.triples.specs.declared.meaning.Said.{Said}
use Rattle.triples.specs.declared.meaning.TripleFault.{TripleFault}
use Rattle.triples.specs.Meaning.{term_of, class_said, link_said, KnowsSaid}
use Rattle.triples.proofs.KnownLaws.{known_class, known_link}
use Rattle.triples.proofs.meaning.fact_of.Goals as goal

if_ok : (P : Said → Type 0) (r s : Result Said TripleFault) → r ≡ s → ((said : Said) → s ≡ Ok said → P said) → IfOk r P
if_ok P (Ok said) s e h = h said (sym e)
if_ok P (Err fault) s e h = tt

pub returns-then-is_type-2-clause-known : goal.returns-then-is_type-2-clause-known
returns-then-is_type-2-clause-known c =
    let theory = c.args.ontology.now in
    if_ok (KnowsSaid theory) c.class_said.result (class_said theory c.args.subject c.args.object) c.class_said.ensures
    (λ said e. known_class theory c.args.subject said c.args.object e)

pub returns-else-is_type-2-clause-known : goal.returns-else-is_type-2-clause-known
returns-else-is_type-2-clause-known c =
    let theory = c.args.ontology.now in
    let name = c.args.predicate.now in
    if_ok (KnowsSaid theory) c.link_said.result (link_said c.args.subject (term_of theory name) c.args.object) (subst (λ (t : Option (Term × Kind)). c.link_said.result ≡ link_said c.args.subject t c.args.object) c.term_of-term.ensures c.link_said.ensures)
    (λ said e. known_link theory c.args.subject said name (term_of theory name) c.args.object refl e)
