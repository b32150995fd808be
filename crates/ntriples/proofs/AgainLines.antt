-- The line of a fact is what is written for a triple, and an end.
use Rattle.std.proofs.Common.{◌≡◌, ℕ, List, [], ◌∷◌, ◌++◌, length, Bool, true, false, nat_eq, sym, ap, ◌∙◌, append_assoc}
use Rattle.std.specs.Prelude.{codes, if◌then◌else◌, ◌==◌}
use Rattle.std.specs.Cmp.Lexicographic.{pointwise}
use Rattle.dl_base.specs.declared.names.Value.{Value}
use Rattle.dl_base.specs.declared.statements.Fact.{Fact}
use Rattle.dl_base.specs.declared.statements.Fact.TheVariants as fact
use Rattle.dl_base.specs.Ontologies.{Theory}
use Rattle.dl_text.specs.Namespaces.{xsd_string}
use Rattle.dl_text.specs.Printing.{written}
use Rattle.triples.specs.Names.{rdf_type}
use Rattle.ntriples.specs.declared.grammar.Object.{Object}
use Rattle.ntriples.specs.declared.grammar.Object.TheVariants as objects
use Rattle.ntriples.specs.declared.grammar.Triple.{Triple}
use Rattle.ntriples.specs.Printing.{iri, name_of, literal, triple, line}
use Rattle.ntriples.specs.Printable.{subject_of, predicate_of}
use Rattle.ntriples.proofs.PrintLaws.{iri_then, text_then, object_then, printed}

-- how a value is written: without its datatype, with it, or with its tag
abbrev pub written_as : Bool → Bool → Value → Object
written_as true true v = objects.Plain v.text
written_as true false v = objects.Typed v.text v.datatype
written_as false b v = objects.Tagged v.text v.tag

abbrev pub value_written : Value → Object
value_written v = written_as (length v.tag == 0) (pointwise nat_eq v.datatype xsd_string) v

abbrev pub object_written : Theory → Fact → Object
object_written theory (fact.Class c a) = objects.Iri (name_of theory c)
object_written theory (fact.Role p a b) = objects.Iri b
object_written theory (fact.Attr u a v) = value_written v

-- the triple of a fact as it is written
abbrev pub triple_of : Theory → Fact → Triple
triple_of theory f = record { subject = subject_of f; predicate = predicate_of theory f; object = object_written theory f }

abbrev stop : List ℕ
stop = 32 ∷ 46 ∷ 10 ∷ []

iri_is : (name more : List ℕ) → iri name ++ more ≡ iri_then name more
iri_is name more = ap (λ (zs : List ℕ). 60 ∷ zs) (append_assoc name (62 ∷ []) more)

iri_append : (name rest more : List ℕ) → iri_then name rest ++ more ≡ iri_then name (rest ++ more)
iri_append name rest more = ap (λ (zs : List ℕ). 60 ∷ zs) (append_assoc name (62 ∷ rest) more)

text_append : (text rest more : List ℕ) → text_then text rest ++ more ≡ text_then text (rest ++ more)
text_append text rest more = ap (λ (zs : List ℕ). 34 ∷ zs) (append_assoc (written text) (34 ∷ rest) more)

triple_is : (s p object o : List ℕ) → object ++ stop ≡ o → triple s p object ≡ iri_then s (32 ∷ iri_then p (32 ∷ o))
triple_is s p object o e =
    iri_is s (32 ∷ (iri p ++ 32 ∷ (object ++ stop))) ∙ ap (λ (zs : List ℕ). iri_then s (32 ∷ zs)) (iri_is p (32 ∷ (object ++ stop)) ∙ ap (λ (zs : List ℕ). iri_then p (32 ∷ zs)) e)

object_append : (object : Object) → object_then object (32 ∷ 46 ∷ []) ++ 10 ∷ [] ≡ object_then object stop
object_append (objects.Iri name) = iri_append name (32 ∷ 46 ∷ []) (10 ∷ [])
object_append (objects.Plain text) = text_append text (32 ∷ 46 ∷ []) (10 ∷ [])
object_append (objects.Typed text datatype) =
    text_append text (94 ∷ 94 ∷ iri_then datatype (32 ∷ 46 ∷ [])) (10 ∷ []) ∙ ap (λ (zs : List ℕ). text_then text (94 ∷ 94 ∷ zs)) (iri_append datatype (32 ∷ 46 ∷ []) (10 ∷ []))
object_append (objects.Tagged text tag) =
    text_append text (64 ∷ (tag ++ 32 ∷ 46 ∷ [])) (10 ∷ []) ∙ ap (λ (zs : List ℕ). text_then text (64 ∷ zs)) (append_assoc tag (32 ∷ 46 ∷ []) (10 ∷ []))

printed_is : (t : Triple) → printed t ++ 10 ∷ [] ≡ iri_then t.subject (32 ∷ iri_then t.predicate (32 ∷ object_then t.object stop))
printed_is t =
    let object = object_then t.object (32 ∷ 46 ∷ []) in
    iri_append t.subject (32 ∷ iri_then t.predicate (32 ∷ object)) (10 ∷ [])
    ∙ ap (λ (zs : List ℕ). iri_then t.subject (32 ∷ zs)) (iri_append t.predicate (32 ∷ object) (10 ∷ []) ∙ ap (λ (zs : List ℕ). iri_then t.predicate (32 ∷ zs)) (object_append t.object))

literal_by : (v : Value) (a b : Bool) → (34 ∷ (written v.text ++ 34 ∷ (if a then (if b then [] else codes "^^" ++ iri v.datatype) else 64 ∷ v.tag))) ++ stop ≡ object_then (written_as a b v) stop
literal_by v true true = ap (λ (zs : List ℕ). 34 ∷ zs) (append_assoc (written v.text) (34 ∷ []) stop)
literal_by v true false =
    ap (λ (zs : List ℕ). 34 ∷ zs) (append_assoc (written v.text) (34 ∷ 94 ∷ 94 ∷ iri v.datatype) stop) ∙ ap (λ (zs : List ℕ). text_then v.text (94 ∷ 94 ∷ zs)) (iri_is v.datatype stop)
literal_by v false b = ap (λ (zs : List ℕ). 34 ∷ zs) (append_assoc (written v.text) (34 ∷ 64 ∷ v.tag) stop)

pub line_is : (theory : Theory) (f : Fact) → line theory f ≡ printed (triple_of theory f) ++ 10 ∷ []
line_is theory (fact.Class c a) =
    triple_is a rdf_type (iri (name_of theory c)) (iri_then (name_of theory c) stop) (iri_is (name_of theory c) stop) ∙ sym (printed_is (triple_of theory (fact.Class c a)))
line_is theory (fact.Role p a b) = triple_is a (name_of theory p) (iri b) (iri_then b stop) (iri_is b stop) ∙ sym (printed_is (triple_of theory (fact.Role p a b)))
line_is theory (fact.Attr u a v) =
    triple_is a (name_of theory u) (literal v) (object_then (value_written v) stop) (literal_by v (length v.tag == 0) (pointwise nat_eq v.datatype xsd_string)) ∙ sym (printed_is (triple_of theory (fact.Attr u a v)))
