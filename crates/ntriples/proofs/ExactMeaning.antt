-- A line says one thing at most, or has one refusal.
use Rattle.std.proofs.Common.{◌≡◌, ℕ, List, [], Option, Some, None, Result, Ok, Err, refl, sym, ap, subst, ◌∙◌, inl, inr}
use Rattle.std.proofs.lemmas.Option.{same_Some, none-some}
use Rattle.dl_base.specs.declared.names.Value.{Value}
use Rattle.dl_base.specs.Ontologies.{Theory}
use Rattle.dl_text.specs.declared.faults.TextFault.{TextFault}
use Rattle.dl_text.specs.declared.kinds.ReadKind.{ReadKind}
use Rattle.dl_text.proofs.LiteralLaws.{reading_one}
use Rattle.triples.specs.declared.meaning.Object as meant_type
use Rattle.triples.specs.declared.meaning.Object.TheVariants as meanings
use Rattle.triples.specs.declared.meaning.Said.{Said}
use Rattle.triples.specs.declared.meaning.TripleFault.{TripleFault}
use Rattle.triples.specs.Meaning.{said_of, kind_of}
use Rattle.ntriples.specs.declared.faults.LineFault.TheVariants.{Refused}
use Rattle.ntriples.specs.declared.grammar.Object.{Object}
use Rattle.ntriples.specs.declared.grammar.Object.TheVariants as objects
use Rattle.ntriples.specs.declared.grammar.Triple.{Triple}
use Rattle.ntriples.specs.Lines.{Parses}
use Rattle.ntriples.specs.Meaning.{IsLiteral, StandsFor, Says, LineSays}
use Rattle.ntriples.proofs.ExactLines.{triples_one, triple_not_refused, refusals_one}

value_is : (v w : Value) → ◌≡◌ {A = Result Value TextFault} (Ok v) (Ok w) → v ≡ w
value_is v w e = cc

literal_one : (text datatype tag : List ℕ) (a b : meant_type.Object) → IsLiteral text datatype tag a → IsLiteral text datatype tag b → a ≡ b
literal_one text datatype tag a b (v, h, e) (w, k, f) = e ∙ ap (λ (z : Value). meanings.Literal z) (value_is v w (reading_one text datatype tag (Ok v) (Ok w) h k (λ z. cc) (λ z. cc))) ∙ sym f

-- an object stands for one thing at most
pub meant_one : (object : Object) (a b : meant_type.Object) → StandsFor object a → StandsFor object b → a ≡ b
meant_one (objects.Iri name) a b h k = h ∙ sym k
meant_one (objects.Plain text) a b h k = literal_one text [] [] a b h k
meant_one (objects.Typed text datatype) a b h k = literal_one text datatype [] a b h k
meant_one (objects.Tagged text tag) a b h k = literal_one text [] tag a b h k

ok_is : (a b : Said) → ◌≡◌ {A = Result Said TripleFault} (Ok a) (Ok b) → a ≡ b
ok_is a b e = cc

err_is : (a b : TripleFault) → ◌≡◌ {A = Result Said TripleFault} (Err a) (Err b) → a ≡ b
err_is a b e = cc

apart : (a : Said) (b : TripleFault) → ◌≡◌ {A = Result Said TripleFault} (Ok a) (Err b) → ⊥
apart a b e = cc

triple_says_one : (theory : Theory) (triple : Triple) (a b : Said) → Says theory triple (Ok a) → Says theory triple (Ok b) → a ≡ b
triple_says_one theory triple a b (x, h, e) (y, k, f) =
    ok_is a b (sym e ∙ ap (said_of theory triple.subject triple.predicate) (meant_one triple.object x y h k) ∙ f)

triple_not_refused_too : (theory : Theory) (triple : Triple) (a : Said) (k : ReadKind) → Says theory triple (Ok a) → ¬ Says theory triple (Err (Refused k))
triple_not_refused_too theory triple a k (x, h, e) (inl (n, f)) = n x h
triple_not_refused_too theory triple a k (x, h, e) (inr (y, fault, j, f, g)) =
    apart a fault (sym e ∙ ap (said_of theory triple.subject triple.predicate) (meant_one triple.object x y h j) ∙ f)

triple_refusals_one : (theory : Theory) (triple : Triple) (k l : ReadKind) → Says theory triple (Err (Refused k)) → Says theory triple (Err (Refused l)) → k ≡ l
triple_refusals_one theory triple k l (inl (n, e)) (inl (m, f)) = e ∙ sym f
triple_refusals_one theory triple k l (inl (n, e)) (inr (y, fault, j, f, g)) = absurd (n y j)
triple_refusals_one theory triple k l (inr (x, fault, h, e, g)) (inl (m, f)) = absurd (m x h)
triple_refusals_one theory triple k l (inr (x, fault, h, e, g)) (inr (y, other, j, f, i)) =
    g ∙ ap kind_of (err_is fault other (sym e ∙ ap (said_of theory triple.subject triple.predicate) (meant_one triple.object x y h j) ∙ f)) ∙ sym i

some_is : (line : List ℕ) (s t : Triple) → Parses line (Ok (Some s)) → Parses line (Ok (Some t)) → s ≡ t
some_is line s t h k = same_Some s t (triples_one line (Some s) (Some t) h k)

not_both : (line : List ℕ) (t : Triple) → Parses line (Ok None) → ¬ Parses line (Ok (Some t))
not_both line t h k = none-some t (triples_one line None (Some t) h k)

-- passes 2 to 4 have one answer, but for memory
pub says_one : (theory : Theory) (line : List ℕ) (a b : Option Said) → LineSays theory line (Ok a) → LineSays theory line (Ok b) → a ≡ b
says_one theory line None None h k = refl
says_one theory line None (Some b) h (t, k, f) = absurd (not_both line t h k)
says_one theory line (Some a) None (t, h, e) k = absurd (not_both line t k h)
says_one theory line (Some a) (Some b) (s, h, e) (t, k, f) =
    ap (λ (z : Said). Some z) (triple_says_one theory t a b (subst (λ (z : Triple). Says theory z (Ok a)) (some_is line s t h k) e) f)

pub said_not_refused : (theory : Theory) (line : List ℕ) (a : Option Said) (k : ReadKind) → LineSays theory line (Ok a) → ¬ LineSays theory line (Err (Refused k))
said_not_refused theory line None k h (inl r) = triple_not_refused line None k h r
said_not_refused theory line None k h (inr (t, j, f)) = not_both line t h j
said_not_refused theory line (Some a) k (s, h, e) (inl r) = triple_not_refused line (Some s) k h r
said_not_refused theory line (Some a) k (s, h, e) (inr (t, j, f)) = triple_not_refused_too theory t a k (subst (λ (z : Triple). Says theory z (Ok a)) (some_is line s t h j) e) f

pub line_refusals_one : (theory : Theory) (line : List ℕ) (k l : ReadKind) → LineSays theory line (Err (Refused k)) → LineSays theory line (Err (Refused l)) → k ≡ l
line_refusals_one theory line k l (inl h) (inl j) = refusals_one line k l h j
line_refusals_one theory line k l (inl h) (inr (t, j, f)) = absurd (triple_not_refused line (Some t) k j h)
line_refusals_one theory line k l (inr (s, h, e)) (inl j) = absurd (triple_not_refused line (Some s) l h j)
line_refusals_one theory line k l (inr (s, h, e)) (inr (t, j, f)) = triple_refusals_one theory t k l (subst (λ (z : Triple). Says theory z (Err (Refused k))) (some_is line s t h j) e) f
