-- Which pieces have no line end.
use Rattle.std.proofs.Common.{◌≡◌, ◌≢◌, ◌+◌, ◌-◌, ◌<◌, ◌≤◌, ℕ, List, [], ◌∷◌, ◌++◌, length, take, false, cond, refl, sym, ap, subst, ◌∙◌, append_assoc, arith, inl, inr, ⊎_elim}
use Rattle.std.specs.Prelude.{All, count_by, IsTrue}
use Rattle.std.specs.Char.{encode_utf8}
use Rattle.std.specs.Str.{encode_utf8_all}
use Rattle.std.proofs.lemmas.Bool.{cases_lt, false≢true}
use Rattle.std.proofs.lemmas.Bool.Decides.{nat_tests}
use Rattle.std.proofs.lemmas.List.{length-append, take_at}
use Rattle.std.proofs.lemmas.List.Sums.{sum_by-append}
use Rattle.std.proofs.lemmas.List.Elements.{All-nil, All-cons, All-head, All-tail, All-append, All-weaker}
use Rattle.std.proofs.lemmas.Str.{encode_ascii}
use Rattle.dl_text.specs.Going.{Goes, stop, go}
use Rattle.dl_text.specs.Iris.{is_iri_byte, IsIri}
use Rattle.dl_text.proofs.IriCharacters.{IsHigh, high}
use Rattle.dl_runs.specs.declared.runs.Class.{Class}
use Rattle.dl_runs.specs.declared.runs.Class.TheVariants as classes
use Rattle.dl_runs.specs.Classes.{is_of, IsOf, IsSome, IsName, IsPrefix, IsSubtag, IsTag, IsBlank}
use Rattle.owl_syntax.specs.declared.pieces.Piece.{Piece}
use Rattle.owl_syntax.specs.declared.pieces.Piece.TheVariants as pieces
use Rattle.owl_syntax.specs.Cutting.{IsLocal, Cuts, CutsAt}
use Rattle.owl_syntax.specs.Reading.{BeginsNoBlank}
use Rattle.owl_syntax.specs.Shapes.{Shape, Gap, Open, Close, Equals, Hats, Tag, Word, Iri, Prefixed, Blank, Digits, Text, shape_of}
use Rattle.owl_syntax.specs.Tokens.{IsSound}
use Rattle.owl_syntax.proofs.ParseLaws.{is_end}

-- no LF is among the bytes
abbrev pub HasNoEnd : List ℕ → Type 0
HasNoEnd bs = All (λ b. b ≢ 10) bs

none : HasNoEnd []
none = All-nil (λ b. b ≢ 10)

one : (b : ℕ) (bs : List ℕ) → b ≢ 10 → HasNoEnd bs → HasNoEnd (b ∷ bs)
one b bs n a = All-cons (λ b. b ≢ 10) b bs n a

both : (xs ys : List ℕ) → HasNoEnd xs → HasNoEnd ys → HasNoEnd (xs ++ ys)
both xs ys a b = All-append (λ b. b ≢ 10) xs ys a b

past_ascii : (b : ℕ) → 128 ≤ b → b ≢ 10
past_ascii b l e = omega (arith, l, e)

high_bytes : (bs : List ℕ) → IsHigh bs → HasNoEnd bs
high_bytes [] h = absurd h
high_bytes (b ∷ bs) h = one b bs (past_ascii b h.0) (All-weaker (λ x. 128 ≤ x) (λ x. x ≢ 10) past_ascii bs h.1)

character : (c : ℕ) → c ≢ 10 → HasNoEnd (encode_utf8 c)
character c n = ⊎_elim (λ l. subst HasNoEnd (sym (encode_ascii c l)) (one c [] n none)) (λ h. high_bytes (encode_utf8 c) (high c h)) (cases_lt c 128)

-- LF is of no class
no_class : (class : Class) → is_of class 10 ≡ false
no_class classes.Letter = refl
no_class classes.Digit = refl
no_class classes.LetterOrDigit = refl
no_class classes.Base = refl
no_class classes.Name = refl
no_class classes.Prefix = refl
no_class classes.LocalStart = refl
no_class classes.Local = refl
no_class classes.LabelStart = refl
no_class classes.Variable = refl

made : (class : Class) (cs : List ℕ) → All (IsOf class) cs → HasNoEnd (encode_utf8_all cs)
made class [] a = none
made class (c ∷ cs) a =
    let it = All-head (IsOf class) c cs a in
    both (encode_utf8 c) (encode_utf8_all cs) (character c (λ e. false≢true (sym (no_class class) ∙ ap (is_of class) (sym e) ∙ it.1))) (made class cs (All-tail (IsOf class) c cs a))

some : (class : Class) (text : List ℕ) → IsSome class text → HasNoEnd text
some class text s = subst HasNoEnd (sym s.1.1) (made class s.1.0 s.1.2)

name : (first more : Class) (text : List ℕ) → IsName first more text → HasNoEnd text
name first more text n = subst HasNoEnd (sym n.is) (made more n.cs n.each)

of_prefix : (text : List ℕ) → IsPrefix text → HasNoEnd text
of_prefix text (inl e) = subst HasNoEnd (sym e) none
of_prefix text (inr n) = name classes.Base classes.Prefix text n

of_local : (text : List ℕ) → IsLocal text → HasNoEnd text
of_local text (inl e) = subst HasNoEnd (sym e) none
of_local text (inr n) = name classes.LocalStart classes.Local text n

subtags : (raw end : List ℕ) (parts : List (List ℕ)) → Goes IsSubtag raw parts end → HasNoEnd end → HasNoEnd raw
subtags raw end parts (stop s) n = n
subtags raw end parts (go s m e part more k g) n =
    subst HasNoEnd (sym k.1) (one 45 (part ++ m) (λ e. omega (arith, e)) (both part m (some classes.LetterOrDigit part k.0) (subtags m end more g n)))

of_tag : (text : List ℕ) → IsTag text → HasNoEnd text
of_tag text (first, rest, parts, s, g, e) = subst HasNoEnd (sym e) (both first rest (some classes.Letter first s) (subtags rest [] parts g none))

clean : (b : ℕ) → IsTrue (is_iri_byte b) → b ≢ 10
clean b t e = false≢true (sym (ap is_iri_byte e) ∙ t)

of_iri : (text : List ℕ) → IsIri text → HasNoEnd text
of_iri text i = All-weaker (λ b. IsTrue (is_iri_byte b)) (λ b. b ≢ 10) clean text i.clean

-- up to the rest stands no LF
record Skips (here rest : List ℕ) : Type 0 where
  front : List ℕ
  is : here ≡ front ++ rest
  no_end : HasNoEnd front

skips : (here rest front : List ℕ) → here ≡ front ++ rest → HasNoEnd front → Skips here rest
skips here rest front e n = record { front = front; is = e; no_end = n }

past : (b n : ℕ) → b ≡ n → 10 < n → b ≢ 10
past b n e l f = omega (arith, e, l, f)

skips_at : (b : ℕ) (bs rest : List ℕ) (shape : Shape) → ((raw : List ℕ) → shape ≢ Text raw) → CutsAt b bs shape rest → ¬ IsBlank b → IsSound shape → Skips (b ∷ bs) rest
skips_at b bs rest Gap t (inl (k, e)) n s = absurd (n k)
skips_at b bs rest Gap t (inr (k, c)) n s =
    skips (b ∷ bs) rest (b ∷ c.inner) (ap (λ (z : List ℕ). b ∷ z) c.is) (one b c.inner (past b 35 k (omega arith)) (All-weaker (λ x. (x ≢ 13) × (x ≢ 10)) (λ x. x ≢ 10) (λ x p. p.1) c.inner c.inside))
skips_at b bs rest Open t h n s = skips (b ∷ bs) rest (b ∷ []) (ap (λ (z : List ℕ). b ∷ z) (sym h.1)) (one b [] (past b 40 h.0 (omega arith)) none)
skips_at b bs rest Close t h n s = skips (b ∷ bs) rest (b ∷ []) (ap (λ (z : List ℕ). b ∷ z) (sym h.1)) (one b [] (past b 41 h.0 (omega arith)) none)
skips_at b bs rest Equals t h n s = skips (b ∷ bs) rest (b ∷ []) (ap (λ (z : List ℕ). b ∷ z) (sym h.1)) (one b [] (past b 61 h.0 (omega arith)) none)
skips_at b bs rest Hats t h n s =
    skips (b ∷ bs) rest (b ∷ 94 ∷ []) (ap (λ (z : List ℕ). b ∷ z) h.1) (one b (94 ∷ []) (past b 94 h.0 (omega arith)) (one 94 [] (past 94 94 refl (omega arith)) none))
skips_at b bs rest (Tag text) t h n s = skips (b ∷ bs) rest (b ∷ text) (ap (λ (z : List ℕ). b ∷ z) h.1.is) (one b text (past b 64 h.0 (omega arith)) (of_tag text h.1.such))
skips_at b bs rest (Iri text) t h n s =
    skips (b ∷ bs) rest (b ∷ (text ++ 62 ∷ [])) (ap (λ (z : List ℕ). b ∷ z) (h.1 ∙ sym (append_assoc text (62 ∷ []) rest)))
    (one b (text ++ 62 ∷ []) (past b 60 h.0 (omega arith)) (both text (62 ∷ []) (of_iri text s.1) (one 62 [] (past 62 62 refl (omega arith)) none)))
skips_at b bs rest (Text text) t h n s = absurd (t text refl)
skips_at b bs rest (Blank text) t (k, (after, e, l)) n s =
    skips (b ∷ bs) rest (b ∷ 58 ∷ text) (ap (λ (z : List ℕ). b ∷ z) (e ∙ ap (λ (z : List ℕ). 58 ∷ z) l.is))
    (one b (58 ∷ text) (past b 95 k (omega arith)) (one 58 text (past 58 58 refl (omega arith)) (some classes.Name text l.such)))
skips_at b bs rest (Digits text) t h n s = skips (b ∷ bs) rest text h.is (some classes.Digit text h.such)
skips_at b bs rest (Word text) t h n s = skips (b ∷ bs) rest text h.0.is (some classes.Letter text h.0.such)
skips_at b bs rest (Prefixed prefix local) t h n s =
    skips (b ∷ bs) rest (prefix ++ 58 ∷ local) (h.is ∙ ap (λ (z : List ℕ). prefix ++ 58 ∷ z) h.is_local.is ∙ sym (append_assoc prefix (58 ∷ local) rest))
    (both prefix (58 ∷ local) (of_prefix prefix h.is_prefix) (one 58 local (past 58 58 refl (omega arith)) (of_local local h.is_local.such)))

not_end : (b : ℕ) → b ≢ 10 → ◌≡◌ {A = ℕ} (cond (is_end b) 1 0) 0
not_end b n = grind (arith, nat_tests)

counted : (bs : List ℕ) → HasNoEnd bs → count_by is_end bs ≡ 0
counted [] a = refl
counted (b ∷ bs) a =
    let parts : count_by is_end (b ∷ bs) ≡ (0 + cond (is_end b) 1 0) + count_by is_end bs = sum_by-append (λ (x : ℕ). cond (is_end x) 1 0) (b ∷ []) bs in
    omega (arith, parts, not_end b (All-head (λ b. b ≢ 10) b bs a), counted bs (All-tail (λ b. b ≢ 10) b bs a))

not_text : (p : Piece) → ((text : _) → p ≢ pieces.Text text) → (raw : List ℕ) → shape_of p ≢ Text raw
not_text pieces.Gap n raw e = cc
not_text pieces.Open n raw e = cc
not_text pieces.Close n raw e = cc
not_text pieces.Equals n raw e = cc
not_text pieces.Hats n raw e = cc
not_text (pieces.Tag r) n raw e = cc
not_text (pieces.Word r) n raw e = cc
not_text (pieces.Iri r) n raw e = cc
not_text (pieces.Prefixed r l) n raw e = cc
not_text (pieces.Blank r) n raw e = cc
not_text (pieces.Digits r) n raw e = cc
not_text (pieces.Text r) n raw e = n r refl

-- a piece that is no string has no line end
pub no_ends : (p : Piece) (here rest : List ℕ) → ((text : _) → p ≢ pieces.Text text) → Cuts here (shape_of p) rest → BeginsNoBlank here → IsSound (shape_of p)
    → 0 ≡ count_by is_end (take (length here - length rest) here)
no_ends p [] rest t c n s = absurd c
no_ends p (b ∷ bs) rest t c n s =
    let k = skips_at b bs rest (shape_of p) (not_text p t) c n s in
    let l : length k.front ≡ length (b ∷ bs) - length rest = omega (arith, ap length k.is, length-append k.front rest) in
    sym (ap (count_by is_end) (ap (take (length (b ∷ bs) - length rest)) k.is ∙ take_at k.front rest (length (b ∷ bs) - length rest) l) ∙ counted k.front k.no_end)
