-- What is written for a printable fact says that fact.
use Rattle.std.proofs.Common.{◌≡◌, ◌≢◌, ℕ, List, [], ◌∷◌, length, Bool, true, false, nat_eq, Some, Ok, refl, sym, ap, subst, ◌∙◌}
use Rattle.std.specs.Prelude.{cond, ◌==◌}
use Rattle.std.specs.Str.{bytes_eq}
use Rattle.std.specs.Cmp.Lexicographic.{pointwise, same_text}
use Rattle.std.proofs.lemmas.Bool.{false≢true, eqb-true}
use Rattle.std.proofs.lemmas.List.{nil_from_length}
use Rattle.dl_base.specs.declared.names.Value.{Value}
use Rattle.dl_base.specs.declared.statements.Fact.{Fact}
use Rattle.dl_base.specs.declared.statements.Fact.TheVariants as fact
use Rattle.dl_base.specs.declared.terms.Kind.{Kind}
use Rattle.dl_base.specs.declared.terms.Kind.TheVariants as kind
use Rattle.dl_base.specs.declared.terms.Term.{Term}
use Rattle.dl_base.specs.Ontologies.{Theory, IsTerm, AreNamedOnce}
use Rattle.dl_text.specs.Literals.{datatype_of, Spells, IsValueOf}
use Rattle.dl_text.specs.Namespaces.{xsd_string}
use Rattle.triples.specs.Names.{rdf_type}
use Rattle.triples.specs.declared.meaning.Object as meant_type
use Rattle.triples.specs.declared.meaning.Object.TheVariants as meanings
use Rattle.triples.specs.declared.meaning.Said.TheVariants as saids
use Rattle.triples.specs.Meaning.{term_of, said_of, is_skipped, class_said, link_said, membership}
use Rattle.triples.proofs.TermLaws.{found_is}
use Rattle.ntriples.specs.Printing.{name_of, name_in}
use Rattle.ntriples.specs.Printable.{IsCanonical, subject_of, predicate_of, object_of, IsPrintable}
use Rattle.ntriples.specs.Meaning.{StandsFor, Says}
use Rattle.ntriples.proofs.AgainLines.{written_as, value_written, triple_of}

-- a written datatype is none of which nothing is written
written_datatype : (datatype : List ℕ) → datatype ≢ [] → datatype_of datatype [] ≡ datatype
written_datatype [] n = absurd (n refl)
written_datatype (b ∷ bs) n = refl

plain_value : (v : Value) → IsValueOf v.text v.datatype [] v → v.datatype ≢ [] → v.datatype ≡ xsd_string → IsValueOf v.text [] [] v
plain_value v h n e =
    let is : datatype_of v.datatype [] ≡ datatype_of [] [] = written_datatype v.datatype n ∙ e in record {
      datatype_is = h.datatype_is ∙ is;
      tag_is = h.tag_is;
      spells = subst (λ (z : List ℕ). Spells z v.text v.text) is h.spells;
    }

tagged_value : (v : Value) (b : ℕ) (bs : List ℕ) → v.tag ≡ b ∷ bs → IsValueOf v.text v.datatype v.tag v → IsValueOf v.text [] v.tag v
tagged_value v b bs e h =
    let is : datatype_of v.datatype v.tag ≡ datatype_of [] v.tag = ap (datatype_of v.datatype) e ∙ ap (datatype_of []) (sym e) in record {
      datatype_is = h.datatype_is ∙ is;
      tag_is = h.tag_is;
      spells = subst (λ (z : List ℕ). Spells z v.text v.text) is h.spells;
    }

untagged : (v : Value) → v.tag ≡ [] → IsValueOf v.text v.datatype v.tag v → IsValueOf v.text v.datatype [] v
untagged v e h = subst (λ (z : List ℕ). IsValueOf v.text v.datatype z v) e h

empty_tag : (v : Value) → (length v.tag == 0) ≡ true → v.tag ≡ []
empty_tag v e = nil_from_length v.tag (eqb-true (length v.tag) 0 e)

some_tag : (tag : List ℕ) → (length tag == 0) ≡ false → (b : ℕ) × (bs : List ℕ) × (tag ≡ b ∷ bs)
some_tag [] e = absurd (false≢true (sym e))
some_tag (b ∷ bs) e = (b, bs, refl)

stands_by : (v : Value) (a b : Bool) → IsCanonical v → v.datatype ≢ [] → (length v.tag == 0) ≡ a → pointwise nat_eq v.datatype xsd_string ≡ b → StandsFor (written_as a b v) (meanings.Literal v)
stands_by v true true c n e f = (v, plain_value v (untagged v (empty_tag v e) c.itself) n (same_text v.datatype xsd_string (sym f)), refl)
stands_by v true false c n e f = (v, untagged v (empty_tag v e) c.itself, refl)
stands_by v false b c n e f = let t = some_tag v.tag e in (v, tagged_value v t.0 t.1 t.2 c.itself, refl)

no_nil_iri : (name : List ℕ) → Rattle.dl_text.specs.Iris.IsIri name → name ≢ []
no_nil_iri [] i e = i.absolute
no_nil_iri (b ∷ bs) i e = cc

pub value_stands : (v : Value) → IsCanonical v → StandsFor (value_written v) (meanings.Literal v)
value_stands v c = stands_by v (length v.tag == 0) (pointwise nat_eq v.datatype xsd_string) c (no_nil_iri v.datatype c.datatype.1) refl refl

stands : (theory : Theory) (f : Fact) → IsPrintable theory f → StandsFor (triple_of theory f).object (object_of theory f)
stands theory (fact.Class c a) p = refl
stands theory (fact.Role r a b) p = refl
stands theory (fact.Attr u a v) p = value_stands v p.object

named : (theory : Theory) (t : Term) (k : Kind) → AreNamedOnce theory → IsTerm theory t k → term_of theory (name_of theory t) ≡ Some (t, k)
named theory t k once (name, e) =
    let is : name_of theory t ≡ name = ap name_in e in
    ap (term_of theory) is ∙ found_is theory name t k once e

kept_said : (theory : Theory) (subject predicate : List ℕ) (object : meant_type.Object) (b : Bool) → is_skipped theory predicate object ≡ false → bytes_eq predicate rdf_type ≡ b
    → said_of theory subject predicate object ≡ cond b (class_said theory subject object) (link_said subject (term_of theory predicate) object)
kept_said theory subject predicate object b e f =
    ap (λ (z : Bool). cond z (Ok saids.Skipped) (cond (bytes_eq predicate rdf_type) (class_said theory subject object) (link_said subject (term_of theory predicate) object))) e
    ∙ ap (λ (z : Bool). cond z (class_said theory subject object) (link_said subject (term_of theory predicate) object)) f

differs : (a b : List ℕ) (t : Bool) → bytes_eq a b ≡ t → a ≢ b → bytes_eq a b ≡ false
differs a b true e n = absurd (n (same_text a b (sym e)))
differs a b false e n = e

link_test : (predicate : List ℕ) → predicate ≢ rdf_type → bytes_eq predicate rdf_type ≡ false
link_test predicate n = differs predicate rdf_type (bytes_eq predicate rdf_type) refl n

class_test : bytes_eq rdf_type rdf_type ≡ true
unfolding rdf_type
class_test = refl

said : (theory : Theory) (f : Fact) → AreNamedOnce theory → IsPrintable theory f → said_of theory (subject_of f) (predicate_of theory f) (object_of theory f) ≡ Ok (saids.Fact f)
said theory (fact.Class c a) once p =
    kept_said theory a rdf_type (meanings.Iri (name_of theory c)) true p.kept class_test ∙ ap (membership a) (named theory c kind.Class once p.known)
said theory (fact.Role r a b) once p =
    kept_said theory a (name_of theory r) (meanings.Iri b) false p.kept (link_test (name_of theory r) p.apart) ∙ ap (λ t. link_said a t (meanings.Iri b)) (named theory r kind.Role once p.known)
said theory (fact.Attr u a v) once p =
    kept_said theory a (name_of theory u) (meanings.Literal v) false p.kept (link_test (name_of theory u) p.apart) ∙ ap (λ t. link_said a t (meanings.Literal v)) (named theory u kind.Attr once p.known)

pub says_fact : (theory : Theory) (f : Fact) → AreNamedOnce theory → IsPrintable theory f → Says theory (triple_of theory f) (Ok (saids.Fact f))
says_fact theory f once p = (object_of theory f, stands theory f p, said theory f once p)
