-- Facts of triples are known.
use Rattle.std.proofs.Common.{◌≡◌, ℕ, Bool, true, false, cond, List, Some, None, Ok, refl, subst}
use Rattle.std.specs.Prelude.{Option, Result}
use Rattle.std.specs.Str.{bytes_eq}
use Rattle.dl_base.specs.declared.statements.Fact.TheVariants as fact
use Rattle.dl_base.specs.declared.terms.Kind.{Kind}
use Rattle.dl_base.specs.declared.terms.Kind.TheVariants as kind
use Rattle.dl_base.specs.declared.terms.Term.{Term}
use Rattle.dl_base.specs.Ontologies.{Theory}
use Rattle.triples.specs.Meaning.{term_of, is_skipped, membership, class_said, link_said, said_of, KnowsSaid}
use Rattle.triples.specs.Names.{rdf_type}
use Rattle.triples.specs.declared.meaning.Object.{Object}
use Rattle.triples.specs.declared.meaning.Object.TheVariants as objects
use Rattle.triples.specs.declared.meaning.Said.{Said}
use Rattle.triples.specs.declared.meaning.Said.TheVariants as saids
use Rattle.triples.specs.declared.meaning.TripleFault.{TripleFault}
use Rattle.triples.proofs.TermLaws.{term_is}

ok_is : (x y : Said) → (let r : Result Said TripleFault = Ok x in r ≡ Ok y) → x ≡ y
ok_is x y e = cc

module _ (theory : Theory) (subject : List ℕ) (said : Said) where
  known_member : (name : List ℕ) (found : Option (Term × Kind)) → term_of theory name ≡ found → membership subject found ≡ Ok said → KnowsSaid theory said
  known_member name None f e = cc
  known_member name (Some (c, kind.Class)) f e = subst (KnowsSaid theory) (ok_is (saids.Fact (fact.Class c subject)) said e) (term_is theory name c kind.Class f)
  known_member name (Some (t, kind.Role)) f e = cc
  known_member name (Some (t, kind.Attr)) f e = cc
  known_member name (Some (t, kind.Note)) f e = cc

  pub known_class : (object : Object) → class_said theory subject object ≡ Ok said → KnowsSaid theory said
  known_class (objects.Iri name) e = known_member name (term_of theory name) refl e
  known_class (objects.Literal value) e = cc

  pub known_link : (name : List ℕ) (found : Option (Term × Kind)) (object : Object) → term_of theory name ≡ found → link_said subject found object ≡ Ok said → KnowsSaid theory said
  known_link name None object f e = cc
  known_link name (Some (p, kind.Role)) (objects.Iri b) f e = subst (KnowsSaid theory) (ok_is (saids.Fact (fact.Role p subject b)) said e) (term_is theory name p kind.Role f)
  known_link name (Some (u, kind.Attr)) (objects.Literal v) f e = subst (KnowsSaid theory) (ok_is (saids.Fact (fact.Attr u subject v)) said e) (term_is theory name u kind.Attr f)
  known_link name (Some (p, kind.Role)) (objects.Literal v) f e = cc
  known_link name (Some (u, kind.Attr)) (objects.Iri b) f e = cc
  known_link name (Some (c, kind.Class)) object f e = cc
  known_link name (Some (n, kind.Note)) object f e = cc

  by_test : (predicate : List ℕ) (object : Object) (skipped typed : Bool)
      → cond skipped (Ok saids.Skipped) (cond typed (class_said theory subject object) (link_said subject (term_of theory predicate) object)) ≡ Ok said → KnowsSaid theory said
  by_test predicate object true typed e = subst (KnowsSaid theory) (ok_is saids.Skipped said e) tt
  by_test predicate object false true e = known_class object e
  by_test predicate object false false e = known_link predicate (term_of theory predicate) object refl e

  -- a fact that a triple says is over a term of the theory
  pub said_known : (predicate : List ℕ) (object : Object) → said_of theory subject predicate object ≡ Ok said → KnowsSaid theory said
  said_known predicate object e = by_test predicate object (is_skipped theory predicate object) (bytes_eq predicate rdf_type) e
