-- What is written for a triple is read as that triple.
use Rattle.std.proofs.Common.{◌≡◌, ◌≢◌, ◌≤◌, ℕ, List, [], ◌∷◌, ◌++◌, length, Some, Ok, true, refl, sym, ap, subst, ◌∙◌, inl, inr, ◌⊎◌, append_assoc, IsTrue, arith}
use Rattle.std.specs.List.{flat_map}
use Rattle.std.proofs.lemmas.Bool.{false≢true, cases_eq}
use Rattle.std.proofs.lemmas.List.Elements.{All-weaker}
use Rattle.dl_text.specs.Going.{Goes, stop, go}
use Rattle.dl_text.specs.Escapes.{joined}
use Rattle.dl_text.specs.Iris.{IsIri, is_iri_byte}
use Rattle.dl_text.specs.Outcomes.{ReadsIri, longest_iri, longest_text}
use Rattle.dl_text.specs.Printing.{written, written_byte}
use Rattle.dl_text.proofs.GoingLaws.{goes_append}
use Rattle.dl_text.proofs.ReadingLaws.{iri_undoes}
use Rattle.dl_text.proofs.PrintingLaws.{written_undoes, IsWritten, one_byte}
use Rattle.dl_runs.specs.Classes.{IsTag}
use Rattle.dl_runs.specs.Quotes.{InText, single, pair}
use Rattle.dl_runs.proofs.TagEnds.{tag_ends}
use Rattle.ntriples.specs.declared.tokens.Token.{Token}
use Rattle.ntriples.specs.declared.tokens.Token.TheVariants as tokens
use Rattle.ntriples.specs.declared.grammar.Object.{Object}
use Rattle.ntriples.specs.declared.grammar.Object.TheVariants as objects
use Rattle.ntriples.specs.declared.grammar.Triple.{Triple}
use Rattle.ntriples.specs.Cutting.{Gap, Dot, Hats, IriOf, TextOf, TagOf}
use Rattle.ntriples.specs.Tokens.{Stands}
use Rattle.ntriples.specs.Grammar.{object_tokens}
use Rattle.ntriples.specs.Lines.{Parses}
use Rattle.ntriples.proofs.LineLaws.{flat-append}

-- what is written, and then what follows
abbrev pub iri_then : List ℕ → List ℕ → List ℕ
iri_then name rest = 60 ∷ (name ++ 62 ∷ rest)

abbrev pub text_then : List ℕ → List ℕ → List ℕ
text_then text rest = 34 ∷ (written text ++ 34 ∷ rest)

abbrev pub object_then : Object → List ℕ → List ℕ
object_then (objects.Iri name) rest = iri_then name rest
object_then (objects.Plain text) rest = text_then text rest
object_then (objects.Typed text datatype) rest = text_then text (94 ∷ 94 ∷ iri_then datatype rest)
object_then (objects.Tagged text tag) rest = text_then text (64 ∷ (tag ++ rest))

abbrev pub printed : Triple → List ℕ
printed t = iri_then t.subject (32 ∷ iri_then t.predicate (32 ∷ object_then t.object (32 ∷ 46 ∷ [])))

abbrev pub IsReadable : List ℕ → Type 0
IsReadable name = IsIri name × (length name ≤ longest_iri)

abbrev pub IsObject : Object → Type 0
IsObject (objects.Iri name) = IsReadable name
IsObject (objects.Plain text) = length text ≤ longest_text
IsObject (objects.Typed text datatype) = (length text ≤ longest_text) × IsReadable datatype
IsObject (objects.Tagged text tag) = (length text ≤ longest_text) × IsTag tag

pub record IsTriple (t : Triple) : Type 0 where
  pub subject : IsReadable t.subject
  pub predicate : IsReadable t.predicate
  pub object : IsObject t.object

reads_name : (name : List ℕ) → IsReadable name → ReadsIri true name (Ok name)
reads_name name n = (iri_undoes name n.0, n.0, n.1)

iri_stands : (name rest : List ℕ) → IsReadable name → Stands (iri_then name rest) (tokens.Iri name ∷ []) rest
iri_stands name rest n =
    (IriOf name, (refl, refl, All-weaker (λ b. IsTrue (is_iri_byte b)) (λ b. b ≢ 62) (λ b t e. false≢true (sym (ap is_iri_byte e) ∙ t)) name n.0.clean), (name, reads_name name n, refl))

-- the pieces of a text as it is written
inside_byte : (b : ℕ) (rest : List ℕ) → (piece : List ℕ) → IsWritten b piece → b ≢ 34 ⊎ (b ≡ 34) → piece ≡ written_byte b → InText (piece ++ rest) piece rest
inside_byte b rest piece (inl (e, h, k)) c w = pair e (ap (λ (zs : List ℕ). zs ++ rest) k) k
inside_byte b rest piece (inr (n, k)) (inl q) w = single b q n (ap (λ (zs : List ℕ). zs ++ rest) k) k
inside_byte b rest piece (inr (n, k)) (inr q) w = let f : written_byte b ≡ b ∷ [] = sym w ∙ k in absurd (quote_is b q f)
  where
    lengths : (x y : List ℕ) → x ≡ y → length x ≡ length y
    lengths x y e = ap length e

    quote_is : (b : ℕ) → b ≡ 34 → written_byte b ≡ b ∷ [] → ⊥
    quote_is b q f = let g : written_byte 34 ≡ 34 ∷ [] = subst (λ (z : ℕ). written_byte z ≡ z ∷ []) q f in omega (arith, lengths (92 ∷ 34 ∷ []) (34 ∷ []) g)

abbrev pieces : List ℕ → List (List ℕ)
pieces [] = []
pieces (b ∷ bs) = written_byte b ∷ pieces bs

pieces_are : (text : List ℕ) → written text ≡ joined (pieces text)
pieces_are [] = refl
pieces_are (b ∷ bs) = ap (λ (zs : List ℕ). written_byte b ++ zs) (pieces_are bs)

flip : (b : ℕ) → (b ≡ 34) ⊎ (b ≢ 34) → b ≢ 34 ⊎ (b ≡ 34)
flip b (inl e) = inr e
flip b (inr n) = inl n

inside : (text rest : List ℕ) → Goes InText (written text ++ rest) (pieces text) rest
inside [] rest = stop rest
inside (b ∷ bs) rest =
    subst (λ (zs : List ℕ). Goes InText zs (written_byte b ∷ pieces bs) rest) (sym (append_assoc (written_byte b) (written bs) rest))
    (go (written_byte b ++ (written bs ++ rest)) (written bs ++ rest) rest (written_byte b) (pieces bs) (inside_byte b (written bs ++ rest) (written_byte b) (one_byte b) (flip b (cases_eq b 34)) refl) (inside bs rest))

text_stands : (text rest : List ℕ) → length text ≤ longest_text → Stands (text_then text rest) (tokens.Text text ∷ []) rest
text_stands text rest l = (TextOf (written text), (refl, (pieces text, inside text (34 ∷ rest), pieces_are text)), (text, (written_undoes text, l), refl))

gap_stands : (rest : List ℕ) → Stands (32 ∷ rest) [] rest
gap_stands rest = (Gap, inl (inl refl, refl), refl)

dot_stands : (rest : List ℕ) → Stands (46 ∷ rest) (tokens.Dot ∷ []) rest
dot_stands rest = (Dot, (refl, refl), refl)

hats_stand : (rest : List ℕ) → Stands (94 ∷ 94 ∷ rest) (tokens.Hats ∷ []) rest
hats_stand rest = (Hats, (refl, refl), refl)

tag_stands : (tag rest : List ℕ) → IsTag tag → Stands (64 ∷ (tag ++ 32 ∷ rest)) (tokens.Tag tag ∷ []) (32 ∷ rest)
tag_stands tag rest t = (TagOf tag, (refl, tag_ends tag rest t), refl)

-- the object's pieces
object_goes : (object : Object) (rest : List ℕ) → IsObject object → (ps : List (List Token)) × Goes Stands (object_then object (32 ∷ rest)) ps (32 ∷ rest) × (flat_map (λ (piece : List Token). piece) ps ≡ object_tokens object)
object_goes (objects.Iri name) rest i = ((tokens.Iri name ∷ []) ∷ [], go _ (32 ∷ rest) (32 ∷ rest) (tokens.Iri name ∷ []) [] (iri_stands name (32 ∷ rest) i) (stop (32 ∷ rest)), refl)
object_goes (objects.Plain text) rest i = ((tokens.Text text ∷ []) ∷ [], go _ (32 ∷ rest) (32 ∷ rest) (tokens.Text text ∷ []) [] (text_stands text (32 ∷ rest) i) (stop (32 ∷ rest)), refl)
object_goes (objects.Typed text datatype) rest i =
    let behind = iri_then datatype (32 ∷ rest) in (
      (tokens.Text text ∷ []) ∷ (tokens.Hats ∷ []) ∷ (tokens.Iri datatype ∷ []) ∷ [],
      go _ (94 ∷ 94 ∷ behind) (32 ∷ rest) (tokens.Text text ∷ []) ((tokens.Hats ∷ []) ∷ (tokens.Iri datatype ∷ []) ∷ []) (text_stands text (94 ∷ 94 ∷ behind) i.0)
          (go _ behind (32 ∷ rest) (tokens.Hats ∷ []) ((tokens.Iri datatype ∷ []) ∷ []) (hats_stand behind)
          (go _ (32 ∷ rest) (32 ∷ rest) (tokens.Iri datatype ∷ []) [] (iri_stands datatype (32 ∷ rest) i.1) (stop (32 ∷ rest)))),
      refl,
    )
object_goes (objects.Tagged text tag) rest i = (
  (tokens.Text text ∷ []) ∷ (tokens.Tag tag ∷ []) ∷ [],
  go _ (64 ∷ (tag ++ 32 ∷ rest)) (32 ∷ rest) (tokens.Text text ∷ []) ((tokens.Tag tag ∷ []) ∷ []) (text_stands text (64 ∷ (tag ++ 32 ∷ rest)) i.0)
      (go _ (32 ∷ rest) (32 ∷ rest) (tokens.Tag tag ∷ []) [] (tag_stands tag rest i.1) (stop (32 ∷ rest))),
  refl,
)

pub printed_parses : (t : Triple) → IsTriple t → Parses (printed t) (Ok (Some t))
printed_parses t i =
    let o = object_goes t.object (46 ∷ []) i.object in
    let tail = goes_append Stands (object_then t.object (32 ∷ 46 ∷ [])) (32 ∷ 46 ∷ []) [] o.0 ([] ∷ (tokens.Dot ∷ []) ∷ []) o.1
    (go (32 ∷ 46 ∷ []) (46 ∷ []) [] [] ((tokens.Dot ∷ []) ∷ []) (gap_stands (46 ∷ [])) (go (46 ∷ []) [] [] (tokens.Dot ∷ []) [] (dot_stands []) (stop []))) in
    let third = object_then t.object (32 ∷ 46 ∷ []) in
    let second = iri_then t.predicate (32 ∷ third) in
    let rest_pieces = o.0 ++ ([] ∷ (tokens.Dot ∷ []) ∷ []) in
    record {
      pieces = (tokens.Iri t.subject ∷ []) ∷ [] ∷ (tokens.Iri t.predicate ∷ []) ∷ [] ∷ rest_pieces;
      goes = go _ (32 ∷ second) [] (tokens.Iri t.subject ∷ []) _ (iri_stands t.subject (32 ∷ second) i.subject)
          (go _ second [] [] _ (gap_stands second) (go _ (32 ∷ third) [] (tokens.Iri t.predicate ∷ []) _ (iri_stands t.predicate (32 ∷ third) i.predicate) (go _ third [] [] _ (gap_stands third) tail)));
      is = ap (λ (zs : List Token). tokens.Iri t.subject ∷ tokens.Iri t.predicate ∷ zs) (ap (λ (zs : List Token). zs ++ tokens.Dot ∷ []) (sym o.2) ∙ sym (flat-append o.0 ([] ∷ (tokens.Dot ∷ []) ∷ [])));
    }
