-- The second pass from left to right, with the third in one run.
use Rattle.std.proofs.Common.{◌≡◌, ◌≢◌, ◌+◌, ◌-◌, ◌<◌, ◌≤◌, ◌^◌, ℕ, List, [], ◌∷◌, ◌++◌, length, take, refl, sym, ap, subst, ◌∙◌, append_assoc, arith, inl, inr, Result, Ok, Err}
use Rattle.std.specs.Prelude.{count_by, ◌==◌, All, ◌⊎◌}
use Rattle.std.specs.List.{flat_map}
use Rattle.std.specs.Str.{IsUtf8, IsValidUpTo}
use Rattle.std.proofs.lemmas.List.{append-nil, length-append, take_at, nil_from_length}
use Rattle.std.proofs.lemmas.List.Sums.{sum_by-append, count_by-le-length}
use Rattle.dl_text.specs.Going.{stop}
use Rattle.dl_text.specs.Escapes.{joined}
use Rattle.dl_text.proofs.GoingLaws.{goes_push}
use Rattle.dl_text.specs.declared.kinds.ReadKind.{ReadKind}
use Rattle.dl_text.specs.declared.kinds.ReadKind.TheVariants.{Syntax, BadUtf8}
use Rattle.dl_text.specs.declared.refusals.ReadRefusal.{ReadRefusal}
use Rattle.dl_text.specs.declared.refusals.ReadRefusal.TheVariants.{Refused, OutOfMemory}
use Rattle.owl_syntax.specs.declared.parsing.Progress.{Progress}
use Rattle.owl_syntax.specs.declared.pieces.Piece.{Piece}
use Rattle.owl_syntax.specs.declared.pieces.Piece.TheVariants as pieces
use Rattle.owl_syntax.specs.Cutting.{Cuts, CutsAt}
use Rattle.owl_syntax.specs.Shapes.{Shape, Gap, Open, Close, Equals, Hats, Tag, Word, Iri, Prefixed, Blank, Digits, Text, Token, at, shape_of}
use Rattle.owl_syntax.specs.Tokens.{IsSound, HasFault, line_of, tokens_at, Stands, Lexes}
use Rattle.owl_syntax.specs.Trees.{Content}
use Rattle.owl_syntax.specs.Outcomes.{IsNoText, HasBadToken, ParsesText, Parses}
use Rattle.owl_syntax.specs.Reading.{Fits, IsStepped, IsFinished}
use Rattle.dl_runs.specs.Classes.{IsBlank}
use Rattle.dl_runs.proofs.TextLaws.{text_is}

-- a piece has a front of the text, which is not empty
pub record HasFront (here rest : List ℕ) : Type 0 where
  pub front : List ℕ
  pub is : here ≡ front ++ rest
  pub some : length rest < length here

front : (here rest f : List ℕ) → here ≡ f ++ rest → 0 < length f → HasFront here rest
front here rest f e l = record { front = f; is = e; some = omega (arith, l, ap length e, length-append f rest) }

front_at : (b : ℕ) (bs rest : List ℕ) (shape : Shape) → CutsAt b bs shape rest → HasFront (b ∷ bs) rest
front_at b bs rest Gap (inl (k, e)) = front (b ∷ bs) rest (b ∷ []) (ap (λ (z : List ℕ). b ∷ z) (sym e)) (omega arith)
front_at b bs rest Gap (inr (k, c)) = front (b ∷ bs) rest (b ∷ c.inner) (ap (λ (z : List ℕ). b ∷ z) c.is) (omega arith)
front_at b bs rest Open h = front (b ∷ bs) rest (b ∷ []) (ap (λ (z : List ℕ). b ∷ z) (sym h.1)) (omega arith)
front_at b bs rest Close h = front (b ∷ bs) rest (b ∷ []) (ap (λ (z : List ℕ). b ∷ z) (sym h.1)) (omega arith)
front_at b bs rest Equals h = front (b ∷ bs) rest (b ∷ []) (ap (λ (z : List ℕ). b ∷ z) (sym h.1)) (omega arith)
front_at b bs rest Hats h = front (b ∷ bs) rest (b ∷ 94 ∷ []) (ap (λ (z : List ℕ). b ∷ z) h.1) (omega arith)
front_at b bs rest (Tag t) h = front (b ∷ bs) rest (b ∷ t) (ap (λ (z : List ℕ). b ∷ z) h.1.is) (omega arith)
front_at b bs rest (Iri t) h = front (b ∷ bs) rest (b ∷ (t ++ 62 ∷ [])) (ap (λ (z : List ℕ). b ∷ z) (h.1 ∙ sym (append_assoc t (62 ∷ []) rest))) (omega arith)
front_at b bs rest (Text t) (k, (ps, g, e)) =
    front (b ∷ bs) rest (b ∷ (joined ps ++ 34 ∷ [])) (ap (λ (z : List ℕ). b ∷ z) (text_is bs (34 ∷ rest) ps g ∙ sym (append_assoc (joined ps) (34 ∷ []) rest))) (omega arith)
front_at b bs rest (Blank t) (k, (after, e, l)) = front (b ∷ bs) rest (b ∷ 58 ∷ t) (ap (λ (z : List ℕ). b ∷ z) (e ∙ ap (λ (z : List ℕ). 58 ∷ z) l.is)) (omega arith)
front_at b bs rest (Digits t) h = front (b ∷ bs) rest t h.is (some t h.such.0)
  where
    some : (xs : List ℕ) → xs ≢ [] → 0 < length xs
    some [] n = absurd (n refl)
    some (x ∷ xs) n = omega arith
front_at b bs rest (Word t) h = front (b ∷ bs) rest t h.0.is (some t h.0.such.0)
  where
    some : (xs : List ℕ) → xs ≢ [] → 0 < length xs
    some [] n = absurd (n refl)
    some (x ∷ xs) n = omega arith
front_at b bs rest (Prefixed p l) h =
    front (b ∷ bs) rest (p ++ 58 ∷ l) (h.is ∙ ap (λ (z : List ℕ). p ++ 58 ∷ z) h.is_local.is ∙ sym (append_assoc p (58 ∷ l) rest)) (omega (arith, length-append p (58 ∷ l)))

pub front_of_piece : (here rest : List ℕ) (shape : Shape) → Cuts here shape rest → HasFront here rest
front_of_piece [] rest shape h = absurd h
front_of_piece (b ∷ bs) rest shape h = front_at b bs rest shape h

flat-append : (ps qs : List (List Token)) → flat_map (λ (piece : List Token). piece) (ps ++ qs) ≡ flat_map (λ (piece : List Token). piece) ps ++ flat_map (λ (piece : List Token). piece) qs
flat-append [] qs = refl
flat-append (p ∷ ps) qs = ap (λ (zs : List Token). p ++ zs) (flat-append ps qs) ∙ sym (append_assoc p (flat_map (λ (piece : List Token). piece) ps) (flat_map (λ (piece : List Token). piece) qs))

lexes_more : (bytes : List ℕ) (tokens : List Token) (here : List ℕ) (shape : Shape) (rest : List ℕ) → Lexes bytes tokens here → Cuts here shape rest → IsSound shape
    → Lexes bytes (tokens ++ tokens_at (line_of bytes here) shape) rest
lexes_more bytes tokens here shape rest l c s =
    let out : List Token = tokens_at (line_of bytes here) shape in record {
      pieces = l.pieces ++ out ∷ [];
      goes = goes_push (Stands bytes) bytes here rest l.pieces out l.goes (shape, c, s, refl);
      is = ap (λ (zs : List Token). zs ++ out) l.is ∙ ap (λ (zs : List Token). flat_map (λ (piece : List Token). piece) l.pieces ++ zs) (sym (append-nil out)) ∙ sym (flat-append l.pieces (out ∷ []));
    }

abbrev pub is_end : ℕ → Rattle.std.specs.Prelude.Bool
is_end b = b == 10

-- the number of line ends up to a place
line_is : (bytes f here : List ℕ) → bytes ≡ f ++ here → line_of bytes here ≡ 1 + count_by is_end f
line_is bytes f here e =
    let n : length f ≡ length bytes - length here = omega (arith, ap length e, length-append f here) in
    ap (λ (z : List ℕ). 1 + count_by is_end z) (ap (take (length bytes - length here)) e ∙ take_at f here (length bytes - length here) n)

-- the reader has come as far as here
pub record IsParsedTo (bytes : List ℕ) (progress : Progress) (line : ℕ) (here : List ℕ) : Type 0 where
  pub tokens : List Token
  pub lexes : Lexes bytes tokens here
  pub fits : Fits progress tokens
  pub before : List ℕ
  pub is : bytes ≡ before ++ here
  pub line_is : line ≡ 1 + count_by is_end before

pub line_right : (bytes : List ℕ) (progress : Progress) (line : ℕ) (here : List ℕ) → IsParsedTo bytes progress line here → line ≡ line_of bytes here
line_right bytes progress line here p = p.line_is ∙ sym (line_is bytes p.before here p.is)

pub line_within : (bytes : List ℕ) (progress : Progress) (line : ℕ) (here : List ℕ) → IsParsedTo bytes progress line here → line + length here ≤ length bytes + 1
line_within bytes progress line here p = omega (arith, p.line_is, count_by-le-length is_end p.before, ap length p.is, length-append p.before here)

pub parsed_none : (bytes : List ℕ) (progress : Progress) → Fits progress [] → IsParsedTo bytes progress 1 bytes
parsed_none bytes progress f = record {
  tokens = [];
  lexes = record { pieces = []; goes = stop bytes; is = refl };
  fits = f;
  before = [];
  is = refl;
  line_is = refl;
}

pub parsed_more : (bytes : List ℕ) (progress next : Progress) (line : ℕ) (here : List ℕ) (shape : Shape) (rest : List ℕ) → IsParsedTo bytes progress line here → Cuts here shape rest → IsSound shape
    → IsStepped progress next (tokens_at line shape) → IsParsedTo bytes next (line + count_by is_end (take (length here - length rest) here)) rest
parsed_more bytes progress next line here shape rest p c s step =
    let h = front_of_piece here rest shape c in
    let n : length h.front ≡ length here - length rest = omega (arith, ap length h.is, length-append h.front rest) in
    let cut : take (length here - length rest) here ≡ h.front = ap (take (length here - length rest)) h.is ∙ take_at h.front rest (length here - length rest) n in
    let ends = sum_by-append (λ (b : ℕ). Rattle.std.proofs.Common.cond (is_end b) 1 0) p.before h.front in
    record {
      tokens = p.tokens ++ tokens_at line shape;
      lexes = subst (λ (k : ℕ). Lexes bytes (p.tokens ++ tokens_at k shape) rest) (sym (line_right bytes progress line here p)) (lexes_more bytes p.tokens here shape rest p.lexes c s);
      fits = step p.tokens p.fits;
      before = p.before ++ h.front;
      is = p.is ∙ ap (λ (z : List ℕ). p.before ++ z) h.is ∙ sym (append_assoc p.before h.front rest);
      line_is = omega (arith, p.line_is, ends, ap (count_by is_end) cut);
    }

-- a blank gives no token
pub parsed_blank : (bytes : List ℕ) (progress : Progress) (line : ℕ) (here rest : List ℕ) (b : ℕ) → IsParsedTo bytes progress line here → here ≡ b ∷ rest → IsBlank b
    → IsParsedTo bytes progress (line + count_by is_end (b ∷ [])) rest
parsed_blank bytes progress line here rest b p e k =
    let n : 1 ≡ length here - length rest = omega (arith, ap length e) in
    let cut : take (length here - length rest) here ≡ b ∷ [] = ap (take (length here - length rest)) e ∙ take_at (b ∷ []) rest (length here - length rest) n in
    subst (λ (k : ℕ). IsParsedTo bytes progress (line + k) rest) (ap (count_by is_end) cut)
    (parsed_more bytes progress progress line here Gap rest p (subst (λ (z : List ℕ). Cuts z Gap rest) (sym e) (inl (k, refl))) tt
    (λ (tokens : List Token) f. subst (Fits progress) (sym (append-nil tokens)) f))

pub no_token : (bytes : List ℕ) (progress : Progress) (line : ℕ) (here : List ℕ) → IsParsedTo bytes progress line here → here ≢ [] → ((shape : Shape) (rest : List ℕ) → ¬ Cuts here shape rest)
    → HasBadToken bytes line Syntax
no_token bytes progress line here p n c = record { tokens = p.tokens; here = here; lexes = p.lexes; bad = inl (n, c, refl); line_is = line_right bytes progress line here p }

pub bad_token : (bytes : List ℕ) (progress : Progress) (line : ℕ) (here : List ℕ) (shape : Shape) (rest : List ℕ) (kind : ReadKind) → IsParsedTo bytes progress line here → Cuts here shape rest → HasFault shape kind
    → HasBadToken bytes line kind
bad_token bytes progress line here shape rest kind p c f = record { tokens = p.tokens; here = here; lexes = p.lexes; bad = inr (shape, rest, c, f); line_is = line_right bytes progress line here p }

pub parsed_all : (bytes : List ℕ) (progress : Progress) (line : ℕ) (here : List ℕ) (result : Result Content ReadRefusal) → IsParsedTo bytes progress line here → length here ≡ 0
    → ((tokens : List Token) → Fits progress tokens → IsFinished tokens line result) → ParsesText bytes result
parsed_all bytes progress line here result p n f = on result (f p.tokens p.fits)
  where
    nil : here ≡ []
    nil = nil_from_length here n

    lexes : Lexes bytes p.tokens []
    lexes = subst (λ (z : List ℕ). Lexes bytes p.tokens z) nil p.lexes

    on : (r : Result Content ReadRefusal) → IsFinished p.tokens line r → ParsesText bytes r
    on (Ok content) d = (p.tokens, lexes, d)
    on (Err (Refused l kind)) s =
        inr (record { tokens = p.tokens; lexes = lexes; stops = subst (λ (e : ℕ). Rattle.owl_syntax.specs.Grammar.Stops p.tokens e l kind) (line_right bytes progress line here p ∙ ap (line_of bytes) nil) s })
    on (Err OutOfMemory) h = absurd h

-- a piece that is no gap gives its token
pub gives_token : (line : ℕ) (p : Piece) → (p ≢ pieces.Gap) → tokens_at line (shape_of p) ≡ at line (shape_of p) ∷ []
gives_token line pieces.Gap n = absurd (n refl)
gives_token line pieces.Open n = refl
gives_token line pieces.Close n = refl
gives_token line pieces.Equals n = refl
gives_token line pieces.Hats n = refl
gives_token line (pieces.Tag r) n = refl
gives_token line (pieces.Word r) n = refl
gives_token line (pieces.Iri r) n = refl
gives_token line (pieces.Prefixed r l) n = refl
gives_token line (pieces.Blank r) n = refl
gives_token line (pieces.Digits r) n = refl
gives_token line (pieces.Text r) n = refl

-- all three passes
pub text_parses : (bytes : List ℕ) (result : Result Content ReadRefusal) → IsUtf8 bytes → ParsesText bytes result → Parses bytes result
text_parses bytes (Ok content) u p = (u, p)
text_parses bytes (Err (Refused line kind)) u p = inr (u, p)
text_parses bytes (Err OutOfMemory) u p = tt

pub no_text : (bytes : List ℕ) (line place : ℕ) → IsValidUpTo bytes place → line ≡ 1 + count_by is_end (take place bytes) → IsNoText bytes line BadUtf8
no_text bytes line place v e = record { place = place; valid = v; line_is = e; kind_is = refl }
