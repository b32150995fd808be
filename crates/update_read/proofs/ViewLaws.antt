-- What a token is, it is alone.
use Rattle.std.proofs.Common.{◌≡◌, ℕ, List, [], ◌∷◌, Some, None, refl, sym, ap, ◌∙◌}
use Rattle.std.specs.Prelude.{Option}
use Rattle.std.proofs.lemmas.Option.{none-some}
use Rattle.update_read.specs.declared.syntax.SpelledName.{SpelledName}
use Rattle.update_read.specs.declared.tokens.Keyword.{Keyword}
use Rattle.update_read.specs.declared.tokens.Keyword.TheVariants as keywords
use Rattle.update_read.specs.declared.tokens.Mark.{Mark}
use Rattle.update_read.specs.declared.tokens.Token.{Token}
use Rattle.update_read.specs.declared.tokens.Token.TheVariants as tokens
use Rattle.update_read.specs.Grammar.{mark, keyword, tag, string, name, verb, object, One}
use Rattle.update_read.specs.Tokens.{Lexeme, at}

head_is : (t u : Lexeme) (m n : List Lexeme) → t ∷ m ≡ u ∷ n → t ≡ u
head_is t u m n e = cc

tail_is : (t u : Lexeme) (m n : List Lexeme) → t ∷ m ≡ u ∷ n → m ≡ n
tail_is t u m n e = cc

-- the one token in front is the first
pub one_is : {X : Type 0} (view : Lexeme → Option X) (t : Lexeme) (n m : List Lexeme) (x : X) → One view (t ∷ n) x m → (view t ≡ Some x) × (n ≡ m)
one_is view t n m x (u, e, f) = (ap view (head_is t u n m e) ∙ f, tail_is t u n m e)

pub no_one : {X : Type 0} (view : Lexeme → Option X) (m : List Lexeme) (x : X) → ¬ One view [] x m
no_one view m x (u, e, f) = cc

-- only a sign is a mark
mark_is : (t : Lexeme) (y : Mark) → mark t ≡ Some y → (line : ℕ) × (t ≡ at line (tokens.Sign y))
mark_is (at line tokens.Variable) y e = absurd (none-some y e)
mark_is (at line tokens.Blank) y e = absurd (none-some y e)
mark_is (at line (tokens.Sign m)) y e = (line, cc)
mark_is (at line (tokens.Number x)) y e = absurd (none-some y e)
mark_is (at line (tokens.Iri x)) y e = absurd (none-some y e)
mark_is (at line (tokens.Text x)) y e = absurd (none-some y e)
mark_is (at line (tokens.Tag x)) y e = absurd (none-some y e)
mark_is (at line (tokens.Prefixed p l)) y e = absurd (none-some y e)
mark_is (at line (tokens.Word keywords.Prefix)) y e = absurd (none-some y e)
mark_is (at line (tokens.Word keywords.Base)) y e = absurd (none-some y e)
mark_is (at line (tokens.Word keywords.Insert)) y e = absurd (none-some y e)
mark_is (at line (tokens.Word keywords.Delete)) y e = absurd (none-some y e)
mark_is (at line (tokens.Word keywords.Data)) y e = absurd (none-some y e)
mark_is (at line (tokens.Word keywords.Graph)) y e = absurd (none-some y e)
mark_is (at line (tokens.Word keywords.True)) y e = absurd (none-some y e)
mark_is (at line (tokens.Word keywords.False)) y e = absurd (none-some y e)
mark_is (at line (tokens.Word keywords.A)) y e = absurd (none-some y e)
mark_is (at line (tokens.Word keywords.Other)) y e = absurd (none-some y e)

pub mark_no_name : (t : Lexeme) (y : Mark) → mark t ≡ Some y → name t ≡ None
mark_no_name t y e = ap name (mark_is t y e).1

pub mark_no_verb : (t : Lexeme) (y : Mark) → mark t ≡ Some y → verb t ≡ None
mark_no_verb t y e = ap verb (mark_is t y e).1

pub mark_no_tag : (t : Lexeme) (y : Mark) → mark t ≡ Some y → tag t ≡ None
mark_no_tag t y e = ap tag (mark_is t y e).1

pub string_no_object : (t : Lexeme) (y : ℕ × List ℕ) → string t ≡ Some y → object t ≡ None
string_no_object (at line tokens.Variable) y e = cc
string_no_object (at line tokens.Blank) y e = cc
string_no_object (at line (tokens.Sign m)) y e = cc
string_no_object (at line (tokens.Number x)) y e = cc
string_no_object (at line (tokens.Iri x)) y e = cc
string_no_object (at line (tokens.Text x)) y e = refl
string_no_object (at line (tokens.Tag x)) y e = cc
string_no_object (at line (tokens.Prefixed p l)) y e = cc
string_no_object (at line (tokens.Word keywords.Prefix)) y e = cc
string_no_object (at line (tokens.Word keywords.Base)) y e = cc
string_no_object (at line (tokens.Word keywords.Insert)) y e = cc
string_no_object (at line (tokens.Word keywords.Delete)) y e = cc
string_no_object (at line (tokens.Word keywords.Data)) y e = cc
string_no_object (at line (tokens.Word keywords.Graph)) y e = cc
string_no_object (at line (tokens.Word keywords.True)) y e = cc
string_no_object (at line (tokens.Word keywords.False)) y e = cc
string_no_object (at line (tokens.Word keywords.A)) y e = cc
string_no_object (at line (tokens.Word keywords.Other)) y e = cc
