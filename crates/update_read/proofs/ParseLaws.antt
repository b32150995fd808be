-- The second pass from left to right, with the third and the fourth in one run.
use Rattle.std.proofs.Common.{◌≡◌, ◌≢◌, ◌+◌, ◌-◌, ◌<◌, ◌≤◌, ℕ, List, [], ◌∷◌, ◌++◌, length, take, Some, None, refl, sym, ap, subst, ◌∙◌, append_assoc, arith, inl, inr, Result, Ok, Err, cond}
use Rattle.std.specs.Prelude.{count_by, ◌==◌, ◌⊎◌, Option, Bool, MatchOption}
use Rattle.std.specs.List.{flat_map}
use Rattle.std.specs.Str.{IsUtf8, IsValidUpTo}
use Rattle.std.proofs.lemmas.List.{append-nil, length-append, take_at, nil_from_length}
use Rattle.std.proofs.lemmas.List.Sums.{sum_by-append, count_by-le-length}
use Rattle.dl_base.specs.Ontologies.{Theory}
use Rattle.dl_text.specs.Going.{Goes, stop}
use Rattle.dl_text.specs.Escapes.{joined}
use Rattle.dl_text.specs.Kinds.{kind_of}
use Rattle.dl_text.specs.Values.{digits_of}
use Rattle.dl_text.proofs.GoingLaws.{goes_push}
use Rattle.dl_text.specs.declared.faults.TextFault.{TextFault}
use Rattle.dl_text.specs.declared.faults.TextFault.TheVariants as faults
use Rattle.dl_text.specs.declared.kinds.ReadKind.{ReadKind}
use Rattle.dl_text.specs.declared.kinds.ReadKind.TheVariants.{Syntax, BadUtf8}
use Rattle.dl_text.specs.declared.refusals.ReadRefusal.{ReadRefusal}
use Rattle.dl_text.specs.declared.refusals.ReadRefusal.TheVariants.{Refused, OutOfMemory}
use Rattle.dl_runs.specs.declared.runs.Class.TheVariants as classes
use Rattle.dl_runs.specs.Classes.{IsLongest, IsSome}
use Rattle.update_read.specs.declared.progress.Progress.{Progress}
use Rattle.update_read.specs.declared.reading.ReadUpdate.{ReadUpdate}
use Rattle.update_read.specs.declared.texts.Quotes.{Quotes}
use Rattle.update_read.specs.declared.texts.Quotes.TheVariants as quotes
use Rattle.update_read.specs.declared.tokens.Token.{Token}
use Rattle.update_read.specs.Cutting.{Cuts, CutsAt, IsQuoted, IsString, EndsAt, IsLocal, IsNumber, IsPrefixed}
use Rattle.update_read.specs.Shapes.{Shape, Gap, Variable, Blank, Sign, Number, Iri, Text, Tag, Word, Prefixed}
use Rattle.update_read.specs.Tokens.{Lexeme, Gives, HasFault, line_of, lexemes_at, Stands, Lexes}
use Rattle.update_read.specs.Outcomes.{IsNoText, HasBadToken, IsNoUpdate, Parses, ReadsText, ReadsUpdate}
use Rattle.update_read.specs.Going.{Fits, IsAdvanced, IsFinished}
use Rattle.update_read.specs.Reading.{ReadsToken}
use Rattle.update_read.specs.Taking.{refusal_of}
use Rattle.update_read.proofs.TextLaws.{text_is}
use Rattle.update_read.proofs.LocalLaws.{pieces_are}
use Rattle.update_read.proofs.NumberLaws.{number_front}

-- a piece has a front of the text, which is not empty
pub record HasFront (here rest : List ℕ) : Type 0 where
  pub front : List ℕ
  pub is : here ≡ front ++ rest
  pub some : length rest < length here

front : (here rest f : List ℕ) → here ≡ f ++ rest → 0 < length f → HasFront here rest
front here rest f e l = record { front = f; is = e; some = omega (arith, l, ap length e, length-append f rest) }

some_length : (xs : List ℕ) → xs ≢ [] → 0 < length xs
some_length [] n = absurd (n refl)
some_length (x ∷ xs) n = omega arith

-- the quotes at the end of a string
end_front : (quote : ℕ) (kind : Quotes) (s rest : List ℕ) → EndsAt quote kind s rest → (f : List ℕ) × (s ≡ f ++ rest)
end_front quote quotes.One s rest e = (quote ∷ [], e)
end_front quote quotes.Three s rest e = (quote ∷ quote ∷ quote ∷ [], e)

quoted_front : (quote : ℕ) (kind : Quotes) (raw inner rest : List ℕ) → IsQuoted quote kind raw inner rest → (f : List ℕ) × (raw ≡ f ++ rest)
quoted_front quote kind raw inner rest q =
    let end = end_front quote kind q.end rest q.ends in
    (joined q.pieces ++ end.0, text_is quote kind raw q.end q.pieces q.goes ∙ ap (λ (z : List ℕ). joined q.pieces ++ z) end.1 ∙ sym (append_assoc (joined q.pieces) end.0 rest))

string_front : (b : ℕ) (bs inner rest : List ℕ) → IsString b bs inner rest → (f : List ℕ) × (bs ≡ f ++ rest)
string_front b bs inner rest (inl (after, e, q)) = let f = quoted_front b quotes.Three after inner rest q in (b ∷ b ∷ f.0, e ∙ ap (λ (z : List ℕ). b ∷ b ∷ z) f.1)
string_front b bs inner rest (inr (n, q)) = quoted_front b quotes.One bs inner rest q

local_front : (raw local rest : List ℕ) → IsLocal raw local rest → (f : List ℕ) × (raw ≡ f ++ rest)
local_front raw local rest (inl (n, e, f)) = ([], sym f)
local_front raw local rest (inr (h, r)) = (joined r.pieces, pieces_are classes.Local raw rest r.pieces r.goes)

front_at : (b : ℕ) (bs rest : List ℕ) (shape : Shape) → CutsAt b bs shape rest → HasFront (b ∷ bs) rest
front_at b bs rest Gap (inl (k, e)) = front (b ∷ bs) rest (b ∷ []) (ap (λ (z : List ℕ). b ∷ z) (sym e)) (omega arith)
front_at b bs rest Gap (inr (k, c)) = front (b ∷ bs) rest (b ∷ c.inner) (ap (λ (z : List ℕ). b ∷ z) c.is) (omega arith)
front_at b bs rest Variable (k, (name, l)) = front (b ∷ bs) rest (b ∷ name) (ap (λ (z : List ℕ). b ∷ z) l.is) (omega arith)
front_at b bs rest Blank (k, (after, label, e, l)) = front (b ∷ bs) rest (b ∷ 58 ∷ label) (ap (λ (z : List ℕ). b ∷ z) (e ∙ ap (λ (z : List ℕ). 58 ∷ z) l.is)) (omega arith)
front_at b bs rest (Sign m) (inl (k, e)) = front (b ∷ bs) rest (b ∷ []) (ap (λ (z : List ℕ). b ∷ z) (sym e)) (omega arith)
front_at b bs rest (Sign m) (inr (k, e, f)) = front (b ∷ bs) rest (b ∷ 94 ∷ []) (ap (λ (z : List ℕ). b ∷ z) e) (omega arith)
front_at b bs rest (Number t) h = let f = number_front (b ∷ bs) t rest h in front (b ∷ bs) rest t h.is f
front_at b bs rest (Iri t) h = front (b ∷ bs) rest (b ∷ (t ++ 62 ∷ [])) (ap (λ (z : List ℕ). b ∷ z) (h.1 ∙ sym (append_assoc t (62 ∷ []) rest))) (omega arith)
front_at b bs rest (Text t) (k, s) = let f = string_front b bs t rest s in front (b ∷ bs) rest (b ∷ f.0) (ap (λ (z : List ℕ). b ∷ z) f.1) (omega arith)
front_at b bs rest (Tag t) h = front (b ∷ bs) rest (b ∷ t) (ap (λ (z : List ℕ). b ∷ z) h.1.is) (omega arith)
front_at b bs rest (Word t) h = front (b ∷ bs) rest t h.0.is (some_length t h.0.such.0)
front_at b bs rest (Prefixed p l) h =
    let f = local_front h.after l rest h.is_local in
    front (b ∷ bs) rest (p ++ 58 ∷ f.0) (h.is ∙ ap (λ (z : List ℕ). p ++ 58 ∷ z) f.1 ∙ sym (append_assoc p (58 ∷ f.0) rest)) (omega (arith, length-append p (58 ∷ f.0)))

pub front_of_piece : (here rest : List ℕ) (shape : Shape) → Cuts here shape rest → HasFront here rest
front_of_piece [] rest shape h = absurd h
front_of_piece (b ∷ bs) rest shape h = front_at b bs rest shape h

flat-append : (ps qs : List (List Lexeme)) → flat_map (λ (piece : List Lexeme). piece) (ps ++ qs) ≡ flat_map (λ (piece : List Lexeme). piece) ps ++ flat_map (λ (piece : List Lexeme). piece) qs
flat-append [] qs = refl
flat-append (p ∷ ps) qs = ap (λ (zs : List Lexeme). p ++ zs) (flat-append ps qs) ∙ sym (append_assoc p (flat_map (λ (piece : List Lexeme). piece) ps) (flat_map (λ (piece : List Lexeme). piece) qs))

lexes_more : (bytes : List ℕ) (all : List Lexeme) (here : List ℕ) (shape : Shape) (token : Option Token) (rest : List ℕ) → Lexes bytes all here → Cuts here shape rest → Gives shape token
    → Lexes bytes (all ++ lexemes_at (line_of bytes here) token) rest
lexes_more bytes all here shape token rest l c s =
    let out : List Lexeme = lexemes_at (line_of bytes here) token in record {
      pieces = l.pieces ++ out ∷ [];
      goes = goes_push (Stands bytes) bytes here rest l.pieces out l.goes (record { shape = shape; token = token; cuts = c; gives = s; is = refl });
      is = ap (λ (zs : List Lexeme). zs ++ out) l.is ∙ ap (λ (zs : List Lexeme). flat_map (λ (piece : List Lexeme). piece) l.pieces ++ zs) (sym (append-nil out)) ∙ sym (flat-append l.pieces (out ∷ []));
    }

abbrev pub is_end : ℕ → Bool
is_end b = b == 10

-- the number of line ends up to a place
line_is : (bytes f here : List ℕ) → bytes ≡ f ++ here → line_of bytes here ≡ 1 + count_by is_end f
line_is bytes f here e =
    let n : length f ≡ length bytes - length here = omega (arith, ap length e, length-append f here) in
    ap (λ (z : List ℕ). 1 + count_by is_end z) (ap (take (length bytes - length here)) e ∙ take_at f here (length bytes - length here) n)

-- the reader has come as far as here
pub record IsParsedTo (theory : Theory) (bytes : List ℕ) (progress : Progress) (line : ℕ) (here : List ℕ) : Type 0 where
  pub tokens : List Lexeme
  pub lexes : Lexes bytes tokens here
  pub fits : Fits theory progress tokens
  pub before : List ℕ
  pub is : bytes ≡ before ++ here
  pub line_is : line ≡ 1 + count_by is_end before

module _ (theory : Theory) (bytes : List ℕ) where
  pub line_right : (progress : Progress) (line : ℕ) (here : List ℕ) → IsParsedTo theory bytes progress line here → line ≡ line_of bytes here
  line_right progress line here p = p.line_is ∙ sym (line_is bytes p.before here p.is)

  pub line_within : (progress : Progress) (line : ℕ) (here : List ℕ) → IsParsedTo theory bytes progress line here → line + length here ≤ length bytes + 1
  line_within progress line here p = omega (arith, p.line_is, count_by-le-length is_end p.before, ap length p.is, length-append p.before here)

  pub parsed_none : (progress : Progress) → Fits theory progress [] → IsParsedTo theory bytes progress 1 bytes
  parsed_none progress f = record { tokens = []; lexes = record { pieces = []; goes = stop bytes; is = refl }; fits = f; before = []; is = refl; line_is = refl }

  pub parsed_more : (progress next : Progress) (line : ℕ) (here : List ℕ) (shape : Shape) (token : Option Token) (rest : List ℕ) → IsParsedTo theory bytes progress line here → Cuts here shape rest → Gives shape token
      → IsAdvanced theory progress (lexemes_at line token) (Ok next) → IsParsedTo theory bytes next (line + count_by is_end (take (length here - length rest) here)) rest
  parsed_more progress next line here shape token rest p c s step =
      let h = front_of_piece here rest shape c in
      let n : length h.front ≡ length here - length rest = omega (arith, ap length h.is, length-append h.front rest) in
      let cut : take (length here - length rest) here ≡ h.front = ap (take (length here - length rest)) h.is ∙ take_at h.front rest (length here - length rest) n in
      let ends = sum_by-append (λ (b : ℕ). cond (is_end b) 1 0) p.before h.front in
      record {
        tokens = p.tokens ++ lexemes_at line token;
        lexes = subst (λ (k : ℕ). Lexes bytes (p.tokens ++ lexemes_at k token) rest) (sym (line_right progress line here p)) (lexes_more bytes p.tokens here shape token rest p.lexes c s);
        fits = step p.tokens p.fits;
        before = p.before ++ h.front;
        is = p.is ∙ ap (λ (z : List ℕ). p.before ++ z) h.is ∙ sym (append_assoc p.before h.front rest);
        line_is = omega (arith, p.line_is, ends, ap (count_by is_end) cut);
      }

  pub no_token : (progress : Progress) (line : ℕ) (here : List ℕ) → IsParsedTo theory bytes progress line here → here ≢ [] → ((shape : Shape) (rest : List ℕ) → ¬ Cuts here shape rest)
      → HasBadToken bytes line Syntax
  no_token progress line here p n c = record { tokens = p.tokens; here = here; lexes = p.lexes; bad = inl (n, c, refl); line_is = line_right progress line here p }

  bad_at : (progress : Progress) (line : ℕ) (here : List ℕ) (shape : Shape) (rest : List ℕ) → IsParsedTo theory bytes progress line here → Cuts here shape rest
      → (o : Option ReadKind) → MatchOption o (Unit {0}) (HasFault shape) → ReadsText theory bytes (Err (refusal_of line o))
  bad_at progress line here shape rest p c (Some kind) f = inl (record { tokens = p.tokens; here = here; lexes = p.lexes; bad = inr (shape, rest, c, f); line_is = line_right progress line here p })
  bad_at progress line here shape rest p c None f = tt

  pub bad_token : (progress : Progress) (line : ℕ) (here : List ℕ) (shape : Shape) (rest : List ℕ) (fault : TextFault) (r : ReadRefusal) → IsParsedTo theory bytes progress line here → Cuts here shape rest
      → ReadsToken shape (Err fault) → r ≡ refusal_of line (kind_of fault) → ReadsText theory bytes (Err r)
  bad_token progress line here shape rest fault r p c f e =
      subst (λ (z : ReadRefusal). ReadsText theory bytes (Err z)) (sym e) (bad_at progress line here shape rest p c (kind_of fault) f)

  pub parsed_all : (progress : Progress) (line : ℕ) (here : List ℕ) (result : Result ReadUpdate ReadRefusal) → IsParsedTo theory bytes progress line here → length here ≡ 0
      → ((theory : Theory) (all : List Lexeme) → Fits theory progress all → IsFinished theory all line result) → ReadsText theory bytes result
  parsed_all progress line here result p n f = on result (f theory p.tokens p.fits)
    where
      nil : here ≡ []
      nil = nil_from_length here n

      lexes : Lexes bytes p.tokens []
      lexes = subst (λ (z : List ℕ). Lexes bytes p.tokens z) nil p.lexes

      on : (r : Result ReadUpdate ReadRefusal) → IsFinished theory p.tokens line r → ReadsText theory bytes r
      on (Ok update) (out, u, h) = (out, record { tokens = p.tokens; lexes = lexes; is_update = u }, h)
      on (Err (Refused l kind)) (inl s) =
          inr (inl (record { tokens = p.tokens; lexes = lexes; stops = subst (λ (e : ℕ). Rattle.update_read.specs.Stopping.Stops p.tokens e l kind) (line_right progress line here p ∙ ap (line_of bytes) nil) s }))
      on (Err (Refused l kind)) (inr (out, u, h)) = inr (inr (out, record { tokens = p.tokens; lexes = lexes; is_update = u }, h))
      on (Err OutOfMemory) h = tt

  -- all four passes
  pub text_reads : (result : Result ReadUpdate ReadRefusal) → IsUtf8 bytes → ReadsText theory bytes result → ReadsUpdate theory bytes result
  text_reads (Ok update) u p = (u, p)
  text_reads (Err (Refused line kind)) u p = inr (u, p)
  text_reads (Err OutOfMemory) u p = tt

pub no_text : (bytes : List ℕ) (line place : ℕ) → IsValidUpTo bytes place → line ≡ 1 + count_by is_end (take place bytes) → IsNoText bytes line BadUtf8
no_text bytes line place v e = record { place = place; valid = v; line_is = e; kind_is = refl }
