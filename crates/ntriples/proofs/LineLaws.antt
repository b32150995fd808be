-- Laws of the second pass.
use Rattle.std.proofs.Common.{◌≡◌, ◌+◌, ◌<◌, ℕ, List, [], ◌∷◌, ◌++◌, length, Ok, Err, refl, sym, ap, ◌∙◌, inl, inr, append_assoc, arith}
use Rattle.std.proofs.lemmas.List.{append-nil, length-append}
use Rattle.std.specs.List.{flat_map}
use Rattle.dl_text.specs.Going.{stop}
use Rattle.dl_text.specs.Escapes.{joined}
use Rattle.dl_text.proofs.GoingLaws.{goes_push}
use Rattle.ntriples.specs.declared.tokens.Token.{Token}
use Rattle.ntriples.specs.declared.faults.LineFault.{LineFault}
use Rattle.ntriples.specs.declared.faults.LineFault.TheVariants.{Refused, OutOfMemory}
use Rattle.ntriples.specs.declared.grammar.Progress.{Progress}
use Rattle.ntriples.specs.Cutting.{Shape, Gap, Dot, Hats, IriOf, TextOf, TagOf, NodeOf, CutsAt, Cuts}
use Rattle.ntriples.specs.Tokens.{Gives, Stands, Lexes}
use Rattle.ntriples.specs.Grammar.{Fits}
use Rattle.ntriples.specs.Lines.{Parses}
use Rattle.ntriples.specs.Steps.{IsStep}
use Rattle.dl_runs.proofs.TextLaws.{text_is}

pub flat-append : (ps qs : List (List Token)) → flat_map (λ (piece : List Token). piece) (ps ++ qs) ≡ flat_map (λ (piece : List Token). piece) ps ++ flat_map (λ (piece : List Token). piece) qs
flat-append [] qs = refl
flat-append (p ∷ ps) qs = ap (λ (zs : List Token). p ++ zs) (flat-append ps qs) ∙ sym (append_assoc p (flat_map (λ (piece : List Token). piece) ps) (flat_map (λ (piece : List Token). piece) qs))

pub lexes_none : (line : List ℕ) → Lexes line [] line
lexes_none line = record { pieces = []; goes = stop line; is = refl }

pub lexes_more : (line : List ℕ) (tokens : List Token) (here : List ℕ) (shape : Shape) (out : List Token) (rest : List ℕ) → Lexes line tokens here → Cuts here shape rest → Gives shape out
    → Lexes line (tokens ++ out) rest
lexes_more line tokens here shape out rest l c g = record {
  pieces = l.pieces ++ out ∷ [];
  goes = goes_push Stands line here rest l.pieces out l.goes (shape, c, g);
  is = ap (λ (zs : List Token). zs ++ out) l.is ∙ ap (λ (zs : List Token). flat_map (λ (piece : List Token). piece) l.pieces ++ zs) (sym (append-nil out)) ∙ sym (flat-append l.pieces (out ∷ []));
}

-- a piece is not empty
shorter_at : (b : ℕ) (bs : List ℕ) (shape : Shape) (rest : List ℕ) → CutsAt b bs shape rest → length rest < length bs + 1
shorter_at b bs Gap rest (inl (k, e)) = omega (arith, ap length e)
shorter_at b bs Gap rest (inr (k, e)) = omega (arith, ap length e)
shorter_at b bs Dot rest h = omega (arith, ap length h.1)
shorter_at b bs Hats rest h = omega (arith, ap length h.1)
shorter_at b bs (NodeOf label) rest (k, (after, e, w)) = omega (arith, ap length e, ap length w.is, length-append label rest)
shorter_at b bs (IriOf inner) rest h = omega (arith, ap length h.1, length-append inner (62 ∷ rest))
shorter_at b bs (TextOf inner) rest (k, (ps, g, e)) = omega (arith, ap length (text_is bs (34 ∷ rest) ps g), length-append (joined ps) (34 ∷ rest))
shorter_at b bs (TagOf inner) rest h = omega (arith, ap length h.1.is, length-append inner rest)

pub shorter : (line : List ℕ) (shape : Shape) (rest : List ℕ) → Cuts line shape rest → length rest < length line
shorter [] shape rest h = absurd h
shorter (b ∷ bs) shape rest h = omega (arith, shorter_at b bs shape rest h)

-- the reader has come as far as here
pub record IsParsedTo (line : List ℕ) (progress : Progress) (here : List ℕ) : Type 0 where
  pub tokens : List Token
  pub lexes : Lexes line tokens here
  pub fits : Fits progress tokens

pub parsed_more : (line : List ℕ) (progress then : Progress) (here : List ℕ) (shape : Shape) (rest : List ℕ) → IsParsedTo line progress here → Cuts here shape rest → IsStep progress shape (Ok then)
    → IsParsedTo line then rest
parsed_more line progress then here shape rest p c (out, g, f) = record {
  tokens = p.tokens ++ out;
  lexes = lexes_more line p.tokens here shape out rest p.lexes c g;
  fits = f p.tokens p.fits;
}

pub bad_token : (line : List ℕ) (progress : Progress) (here : List ℕ) (shape : Shape) (rest : List ℕ) (f : LineFault) → IsParsedTo line progress here → Cuts here shape rest → IsStep progress shape (Err f)
    → Parses line (Err f)
bad_token line progress here shape rest (Refused kind) p c h = inl (p.tokens, here, p.lexes, inr (shape, rest, c, h))
bad_token line progress here shape rest OutOfMemory p c h = tt
