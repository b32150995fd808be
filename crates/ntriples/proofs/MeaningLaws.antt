-- What lines say is of the ontology.
use Rattle.std.proofs.Common.{◌≡◌, ℕ, List, [], ◌∷◌, ◌++◌, Option, Some, None, Result, Ok, Err, inl, refl, sym, subst}
use Rattle.std.specs.Prelude.{All, Contains, IfOk}
use Rattle.std.specs.List.{flat_map}
use Rattle.std.proofs.lemmas.List.Elements.{All-nil, All-cons, All-append, All-contains, All-weaker, All-contains_itself}
use Rattle.dl_base.specs.declared.statements.Fact.{Fact}
use Rattle.dl_base.specs.Ontologies.{Theory, Knows}
use Rattle.dl_base.specs.Repeats.{IsOnce}
use Rattle.dl_base.proofs.RepeatsLaws.{once_has}
use Rattle.dl_text.specs.Going.{Goes, stop, go}
use Rattle.triples.specs.declared.meaning.Object as meant_type
use Rattle.triples.specs.declared.meaning.Said.{Said}
use Rattle.ntriples.specs.declared.grammar.Object.{Object}
use Rattle.triples.specs.declared.meaning.Said.TheVariants as saids
use Rattle.triples.specs.Meaning.{KnowsSaid}
use Rattle.triples.proofs.KnownLaws.{said_known}
use Rattle.dl_text.specs.declared.faults.TextFault.{TextFault}
use Rattle.dl_text.specs.declared.faults.TextFault.TheVariants as texts
use Rattle.dl_text.specs.declared.refusals.ReadRefusal.{ReadRefusal}
use Rattle.dl_text.specs.Literals.{ReadsValue}
use Rattle.ntriples.specs.declared.files.ReadFacts.{ReadFacts}
use Rattle.ntriples.specs.declared.grammar.Triple.{Triple}
use Rattle.ntriples.specs.Faults.{fault_of}
use Rattle.ntriples.specs.Meaning.{IsLiteral, StandsFor, Means, Says, LineSays}
use Rattle.ntriples.specs.Files.{Place, start, LineStep, facts_of, SaysAll, SaysFacts, ReadsLines}

pub no_literal : (text datatype tag : List ℕ) (f : TextFault) → ReadsValue text datatype tag (Err f) → Means (IsLiteral text datatype tag) (Err f)
no_literal text datatype tag texts.BadLiteral h = λ meant (value, is, e). h value is
no_literal text datatype tag texts.OutOfMemory h = tt
no_literal text datatype tag texts.BadIri h = h
no_literal text datatype tag texts.BadEscape h = h
no_literal text datatype tag texts.NameTooLong h = h
no_literal text datatype tag texts.UnknownPrefix h = h

-- where text, datatype and tag are those of the object
pub literal_means : (object : Object) (a b c text datatype tag : List ℕ) (r : Result meant_type.Object TextFault) → a ≡ text → b ≡ datatype → c ≡ tag
    → IsLiteral text datatype tag ≡ StandsFor object → Means (IsLiteral a b c) r → Means (StandsFor object) r
literal_means object a b c text datatype tag r e f g is h =
    subst (λ (P : meant_type.Object → Type 0). Means P r) is
    (subst (λ (z : List ℕ). Means (IsLiteral text datatype z) r) g (subst (λ (z : List ℕ). Means (IsLiteral text z c) r) f (subst (λ (z : List ℕ). Means (IsLiteral z b c) r) e h)))

pub no_object : (theory : Theory) (triple : Triple) (f : TextFault) → Means (StandsFor triple.object) (Err f) → Says theory triple (Err (fault_of f))
no_object theory triple texts.BadLiteral h = inl (h, refl)
no_object theory triple texts.OutOfMemory h = tt
no_object theory triple texts.BadIri h = absurd h
no_object theory triple texts.BadEscape h = absurd h
no_object theory triple texts.NameTooLong h = absurd h
no_object theory triple texts.UnknownPrefix h = absurd h

known_fact : (theory : Theory) (said : Said) → KnowsSaid theory said → All (Knows theory) (facts_of (Some said))
known_fact theory saids.Skipped k = All-nil (Knows theory)
known_fact theory (saids.Fact fact) k = All-cons (Knows theory) fact [] k (All-nil (Knows theory))

known_line : (theory : Theory) (line : List ℕ) (it : Option Said) → LineSays theory line (Ok it) → All (Knows theory) (facts_of it)
known_line theory line None h = All-nil (Knows theory)
known_line theory line (Some said) (triple, p, (meant, s, e)) = known_fact theory said (said_known theory triple.subject said triple.predicate meant e)

known_lines : (theory : Theory) (s e : Place) (its : List (Option Said)) → Goes (LineStep theory) s its e → (more : List (Option Said)) → All (Knows theory) (flat_map facts_of more) → All (Knows theory) (flat_map facts_of (its ++ more))
known_lines theory s e its (stop v) more a = a
known_lines theory s e its (go v m w it os k g) more a = All-append (Knows theory) (facts_of it) (flat_map facts_of (os ++ more)) (known_line theory k.front it k.says) (known_lines theory m w os g more a)

says_known : (theory : Theory) (bytes : List ℕ) (facts : List Fact) (skipped : ℕ) → SaysAll theory bytes facts skipped → All (Knows theory) facts
says_known theory bytes facts skipped h =
    subst (All (Knows theory)) (sym h.facts_are)
    (known_lines theory (start bytes) h.here h.before h.goes (h.last ∷ []) (All-append (Knows theory) (facts_of h.last) [] (known_line theory h.here.rest h.last h.says) (All-nil (Knows theory))))

once_known : (theory : Theory) (facts kept : List Fact) → All (Knows theory) facts → IsOnce facts kept → All (Knows theory) kept
once_known theory facts kept a h = All-weaker (Contains kept) (Knows theory) (λ f c. All-contains (Knows theory) facts f a ((once_has facts kept h f).0 c)) kept (All-contains_itself kept)

-- what is read is known
read_known : (theory : Theory) (bytes : List ℕ) (facts : List Fact) (skipped : ℕ) → SaysFacts theory bytes facts skipped → All (Knows theory) facts
read_known theory bytes facts skipped (all, says, once) = once_known theory all facts (says_known theory bytes all skipped says) once

pub lines_known : (theory : Theory) (bytes : List ℕ) (r : Result ReadFacts ReadRefusal) → ReadsLines theory bytes r → IfOk r (λ read. All (Knows theory) read.facts)
lines_known theory bytes (Ok read) h = read_known theory bytes read.facts read.skipped h
lines_known theory bytes (Err f) h = tt
