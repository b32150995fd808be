-- A printed line is text and has no end inside.
use Rattle.std.proofs.Common.{◌≡◌, ◌≢◌, ◌≤◌, ◌<◌, ℕ, List, [], ◌∷◌, ◌++◌, Bool, true, false, IsTrue, refl, sym, ap, subst, ◌∙◌, append_assoc, inl, inr, ◌⊎◌, ⊎_elim, arith}
use Rattle.std.specs.Prelude.{All}
use Rattle.std.specs.Char.{encode_utf8, IsScalar}
use Rattle.std.specs.Str.{IsUtf8, encode_utf8_all, all_scalars}
use Rattle.std.proofs.Math.Bool.{and-eq-true_iff}
use Rattle.std.proofs.lemmas.Bool.{cases_lt}
use Rattle.std.proofs.lemmas.Bool.Decides.{nat_tests}
use Rattle.std.proofs.lemmas.List.{append-nil}
use Rattle.std.proofs.lemmas.List.Elements.{All-nil, All-cons, All-head, All-tail, All-append, All-weaker}
use Rattle.std.proofs.lemmas.Str.{encode_ascii, IsUtf8-encode, IsUtf8-append, IsUtf8-nil}
use Rattle.dl_text.specs.Iris.{IsIri, is_iri_byte}
use Rattle.dl_text.specs.Printing.{written, written_byte}
use Rattle.dl_text.proofs.IriCharacters.{IsHigh, high}
use Rattle.dl_text.proofs.PrintingLaws.{IsWritten, one_byte}
use Rattle.dl_runs.specs.Classes.{IsTag}
use Rattle.dl_runs.proofs.TagEnds.{IsPast, tag_past}
use Rattle.ntriples.specs.declared.grammar.Object.{Object}
use Rattle.ntriples.specs.declared.grammar.Object.TheVariants as objects
use Rattle.ntriples.specs.declared.grammar.Triple.{Triple}
use Rattle.ntriples.specs.Files.{HasNoEnd}
use Rattle.ntriples.specs.Writing.{IsEscaped}
use Rattle.ntriples.proofs.EscapedLaws.{written-append, escaped_or_plain}
use Rattle.ntriples.proofs.PrintLaws.{iri_then, text_then, object_then, printed}

abbrev pub IsInner : ℕ → Type 0
IsInner b = (b ≢ 10) × (b ≢ 13)

clean_inner : (b : ℕ) → is_iri_byte b ≡ true → IsInner b
clean_inner b t = (λ e. no b 10 e refl t, λ e. no b 13 e refl t)
  where
    no : (b k : ℕ) → b ≡ k → is_iri_byte k ≡ false → is_iri_byte b ≡ true → ⊥
    no b k e f t = Rattle.std.proofs.lemmas.Bool.false≢true (sym f ∙ ap is_iri_byte (sym e) ∙ t)

past_inner : (b : ℕ) → 32 < b → IsInner b
past_inner b l = (λ e. omega (arith, l, e), λ e. omega (arith, l, e))

name_inner : (name : List ℕ) → IsIri name → All IsInner name
name_inner name i = All-weaker (λ b. IsTrue (is_iri_byte b)) IsInner clean_inner name i.clean

two : (x y : ℕ) → 32 < x → 32 < y → All IsInner (x ∷ y ∷ [])
two x y h k = All-cons IsInner x (y ∷ []) (past_inner x h) (All-cons IsInner y [] (past_inner y k) (All-nil IsInner))

byte_inner : (b : ℕ) → (IsEscaped b) ⊎ (written_byte b ≡ b ∷ []) × (¬ IsEscaped b) → All IsInner (written_byte b)
byte_inner b (inl (inl e)) = subst (λ (z : ℕ). All IsInner (written_byte z)) (sym e) (two 92 34 (omega arith) (omega arith))
byte_inner b (inl (inr (inl e))) = subst (λ (z : ℕ). All IsInner (written_byte z)) (sym e) (two 92 92 (omega arith) (omega arith))
byte_inner b (inl (inr (inr (inl e)))) = subst (λ (z : ℕ). All IsInner (written_byte z)) (sym e) (two 92 110 (omega arith) (omega arith))
byte_inner b (inl (inr (inr (inr e)))) = subst (λ (z : ℕ). All IsInner (written_byte z)) (sym e) (two 92 114 (omega arith) (omega arith))
byte_inner b (inr (e, n)) = subst (All IsInner) (sym e) (All-cons IsInner b [] (λ k. n (inr (inr (inl k))), λ k. n (inr (inr (inr k)))) (All-nil IsInner))

text_inner : (text : List ℕ) → All IsInner (written text)
text_inner [] = All-nil IsInner
text_inner (b ∷ bs) = All-append IsInner (written_byte b) (written bs) (byte_inner b (escaped_or_plain b)) (text_inner bs)

one_more : (b : ℕ) (bs : List ℕ) → 31 < b → All IsInner bs → All IsInner (b ∷ bs)
one_more b bs l a = All-cons IsInner b bs (λ e. omega (arith, l, e), λ e. omega (arith, l, e)) a

iri_inner : (name rest : List ℕ) → IsIri name → All IsInner rest → All IsInner (iri_then name rest)
iri_inner name rest i a = one_more 60 (name ++ 62 ∷ rest) (omega arith) (All-append IsInner name (62 ∷ rest) (name_inner name i) (one_more 62 rest (omega arith) a))

quoted_inner : (text rest : List ℕ) → All IsInner rest → All IsInner (text_then text rest)
quoted_inner text rest a = one_more 34 (written text ++ 34 ∷ rest) (omega arith) (All-append IsInner (written text) (34 ∷ rest) (text_inner text) (one_more 34 rest (omega arith) a))

-- what an object is made of is text
abbrev pub IsWritable : Object → Type 0
IsWritable (objects.Iri name) = IsUtf8 name × IsIri name
IsWritable (objects.Plain text) = IsUtf8 text
IsWritable (objects.Typed text datatype) = IsUtf8 text × IsUtf8 datatype × IsIri datatype
IsWritable (objects.Tagged text tag) = IsUtf8 text × IsTag tag

pub record IsText (t : Triple) : Type 0 where
  pub subject : IsUtf8 t.subject × IsIri t.subject
  pub predicate : IsUtf8 t.predicate × IsIri t.predicate
  pub object : IsWritable t.object

end_inner : All IsInner (32 ∷ 46 ∷ [])
end_inner = one_more 32 (46 ∷ []) (omega arith) (one_more 46 [] (omega arith) (All-nil IsInner))

object_inner : (object : Object) → IsWritable object → All IsInner (object_then object (32 ∷ 46 ∷ []))
object_inner (objects.Iri name) w = iri_inner name (32 ∷ 46 ∷ []) w.1 end_inner
object_inner (objects.Plain text) w = quoted_inner text (32 ∷ 46 ∷ []) end_inner
object_inner (objects.Typed text datatype) w =
    quoted_inner text (94 ∷ 94 ∷ iri_then datatype (32 ∷ 46 ∷ []))
    (one_more 94 (94 ∷ iri_then datatype (32 ∷ 46 ∷ [])) (omega arith) (one_more 94 (iri_then datatype (32 ∷ 46 ∷ [])) (omega arith) (iri_inner datatype (32 ∷ 46 ∷ []) w.2 end_inner)))
object_inner (objects.Tagged text tag) w =
    quoted_inner text (64 ∷ (tag ++ 32 ∷ 46 ∷ [])) (one_more 64 (tag ++ 32 ∷ 46 ∷ []) (omega arith) (All-append IsInner tag (32 ∷ 46 ∷ []) (All-weaker IsPast IsInner (λ b h. past_inner b h.0) tag (tag_past tag w.1)) end_inner))

-- no line ends inside what is written
pub printed_inner : (t : Triple) → IsText t → HasNoEnd (printed t)
printed_inner t w =
    let object = object_then t.object (32 ∷ 46 ∷ []) in
    let rest = iri_then t.predicate (32 ∷ object) in
    iri_inner t.subject (32 ∷ rest) w.subject.1
    (one_more 32 rest (omega arith) (iri_inner t.predicate (32 ∷ object) w.predicate.1 (one_more 32 object (omega arith) (object_inner t.object w.object))))

scalar : (b : ℕ) → b < 128 → IsScalar b
scalar b l = grind (arith, nat_tests)

-- a byte below 128 and a text
ascii_more : (b : ℕ) (bs : List ℕ) → b < 128 → IsUtf8 bs → IsUtf8 (b ∷ bs)
ascii_more b bs l u = IsUtf8-append (b ∷ []) bs (subst IsUtf8 (encode_ascii b l) (IsUtf8-encode b (scalar b l))) u

high_plain : (bs : List ℕ) → All (λ x. 128 ≤ x) bs → written bs ≡ bs
high_plain [] a = refl
high_plain (b ∷ bs) a = ⊎_elim (λ n. absurd (low b n (All-head (λ x. 128 ≤ x) b bs a))) (λ k. ap (λ (zs : List ℕ). zs ++ written bs) k.0 ∙ ap (λ (zs : List ℕ). b ∷ zs) (high_plain bs (All-tail (λ x. 128 ≤ x) b bs a))) (escaped_or_plain b)
  where
    low : (b : ℕ) → IsEscaped b → 128 ≤ b → ⊥
    low b (inl e) l = omega (arith, e, l)
    low b (inr (inl e)) l = omega (arith, e, l)
    low b (inr (inr (inl e))) l = omega (arith, e, l)
    low b (inr (inr (inr e))) l = omega (arith, e, l)

all_high : (bs : List ℕ) → IsHigh bs → All (λ x. 128 ≤ x) bs
all_high [] h = absurd h
all_high (b ∷ bs) h = All-cons (λ x. 128 ≤ x) b bs h.0 h.1

byte_utf8 : (b : ℕ) → b < 128 → IsUtf8 (written_byte b)
byte_utf8 b l = on (one_byte b)
  where
    on : IsWritten b (written_byte b) → IsUtf8 (written_byte b)
    on (inl (e, s, k)) = subst IsUtf8 (sym k) (ascii_more 92 (e ∷ []) (omega arith) (ascii_more e [] (small e b s) IsUtf8-nil))
      where
        small : (e b : ℕ) → Rattle.dl_text.specs.Escapes.short_of Rattle.dl_text.specs.declared.escapes.Escapes.TheVariants.Full e ≡ Rattle.std.proofs.Common.Some b → e < 128
        small e b s = grind arith
    on (inr (n, k)) = subst IsUtf8 (sym k) (ascii_more b [] l IsUtf8-nil)

character_utf8 : (c : ℕ) → IsScalar c → (c < 128) ⊎ (128 ≤ c) → IsUtf8 (written (encode_utf8 c))
character_utf8 c s (inl l) = subst (λ (zs : List ℕ). IsUtf8 (written zs)) (sym (encode_ascii c l)) (subst IsUtf8 (sym (append-nil (written_byte c))) (byte_utf8 c l))
character_utf8 c s (inr l) = subst IsUtf8 (sym (high_plain (encode_utf8 c) (all_high (encode_utf8 c) (high c l)))) (IsUtf8-encode c s)

first_scalar : (c : ℕ) (cs : List ℕ) → all_scalars (c ∷ cs) ≡ true → IsScalar c
first_scalar c cs e = ((and-eq-true_iff _ _).0 e).0

next_scalars : (c : ℕ) (cs : List ℕ) → all_scalars (c ∷ cs) ≡ true → all_scalars cs ≡ true
next_scalars c cs e = ((and-eq-true_iff _ _).0 e).1

characters_utf8 : (cs : List ℕ) → all_scalars cs ≡ true → IsUtf8 (written (encode_utf8_all cs))
characters_utf8 [] s = IsUtf8-nil
characters_utf8 (c ∷ cs) s =
    subst IsUtf8 (sym (written-append (encode_utf8 c) (encode_utf8_all cs)))
    (IsUtf8-append (written (encode_utf8 c)) (written (encode_utf8_all cs)) (character_utf8 c (first_scalar c cs s) (cases_lt c 128)) (characters_utf8 cs (next_scalars c cs s)))

written_utf8 : (text : List ℕ) → IsUtf8 text → IsUtf8 (written text)
written_utf8 text (cs, (s, e)) = subst (λ (zs : List ℕ). IsUtf8 (written zs)) e (characters_utf8 cs s)

iri_utf8 : (name rest : List ℕ) → IsUtf8 name → IsUtf8 rest → IsUtf8 (iri_then name rest)
iri_utf8 name rest u v = ascii_more 60 (name ++ 62 ∷ rest) (omega arith) (IsUtf8-append name (62 ∷ rest) u (ascii_more 62 rest (omega arith) v))

quoted_utf8 : (text rest : List ℕ) → IsUtf8 text → IsUtf8 rest → IsUtf8 (text_then text rest)
quoted_utf8 text rest u v = ascii_more 34 (written text ++ 34 ∷ rest) (omega arith) (IsUtf8-append (written text) (34 ∷ rest) (written_utf8 text u) (ascii_more 34 rest (omega arith) v))

end_utf8 : IsUtf8 (32 ∷ 46 ∷ [])
end_utf8 = ascii_more 32 (46 ∷ []) (omega arith) (ascii_more 46 [] (omega arith) IsUtf8-nil)

ascii_all : (bs : List ℕ) → All IsPast bs → IsUtf8 bs
ascii_all [] a = IsUtf8-nil
ascii_all (b ∷ bs) a = ascii_more b bs (All-head IsPast b bs a).1 (ascii_all bs (All-tail IsPast b bs a))

tag_utf8 : (tag : List ℕ) → IsTag tag → IsUtf8 tag
tag_utf8 tag t = ascii_all tag (tag_past tag t)

object_utf8 : (object : Object) → IsWritable object → IsUtf8 (object_then object (32 ∷ 46 ∷ []))
object_utf8 (objects.Iri name) w = iri_utf8 name (32 ∷ 46 ∷ []) w.0 end_utf8
object_utf8 (objects.Plain text) w = quoted_utf8 text (32 ∷ 46 ∷ []) w end_utf8
object_utf8 (objects.Typed text datatype) w =
    quoted_utf8 text (94 ∷ 94 ∷ iri_then datatype (32 ∷ 46 ∷ [])) w.0 (ascii_more 94 _ (omega arith) (ascii_more 94 _ (omega arith) (iri_utf8 datatype (32 ∷ 46 ∷ []) w.1 end_utf8)))
object_utf8 (objects.Tagged text tag) w =
    quoted_utf8 text (64 ∷ (tag ++ 32 ∷ 46 ∷ [])) w.0 (ascii_more 64 _ (omega arith) (IsUtf8-append tag (32 ∷ 46 ∷ []) (tag_utf8 tag w.1) end_utf8))

printed_utf8 : (t : Triple) → IsText t → IsUtf8 (printed t)
printed_utf8 t w =
    iri_utf8 t.subject _ w.subject.0 (ascii_more 32 _ (omega arith) (iri_utf8 t.predicate _ w.predicate.0 (ascii_more 32 _ (omega arith) (object_utf8 t.object w.object))))

-- with the end of its line
pub ended_utf8 : (t : Triple) → IsText t → IsUtf8 (printed t ++ 10 ∷ [])
ended_utf8 t w = IsUtf8-append (printed t) (10 ∷ []) (printed_utf8 t w) (ascii_more 10 [] (omega arith) IsUtf8-nil)
