-- The states of the reader of a line are the fronts of lines.
use Rattle.std.proofs.Common.{◌≡◌, ◌≢◌, ℕ, List, [], ◌∷◌, ◌++◌, Option, Some, None, refl, sym, ap, subst, ◌∙◌, append_assoc}
use Rattle.std.proofs.lemmas.List.{append-nil}
use Rattle.std.proofs.lemmas.Option.{same_Some, none-some}
use Rattle.ntriples.specs.declared.tokens.Token.{Token}
use Rattle.ntriples.specs.declared.tokens.Token.TheVariants.{Iri, Text, Tag, Hats, Dot, Node}
use Rattle.dl_text.specs.declared.kinds.ReadKind.{ReadKind}
use Rattle.ntriples.specs.declared.grammar.Object.{Object}
use Rattle.ntriples.specs.declared.grammar.Object.TheVariants as objects
use Rattle.ntriples.specs.declared.grammar.Triple.{Triple}
use Rattle.ntriples.specs.declared.grammar.State.{State}
use Rattle.ntriples.specs.declared.grammar.State.TheVariants as states
use Rattle.ntriples.specs.Grammar.{object_tokens, tokens_of, IsViable, StopsAtToken, after, so_far}

-- a token that is taken stands behind those before it
pub grows : (state : State) (token : Token) (then : State) → after state token ≡ Some then → so_far then ≡ so_far state ++ token ∷ []
grows states.Start (Iri x) then e = ap so_far (sym (same_Some (states.Subject x) then e))
grows states.Start (Text x) then e = absurd (none-some then e)
grows states.Start (Tag x) then e = absurd (none-some then e)
grows states.Start Hats then e = absurd (none-some then e)
grows states.Start Dot then e = absurd (none-some then e)
grows states.Start Node then e = absurd (none-some then e)
grows (states.Subject s) (Iri x) then e = ap so_far (sym (same_Some (states.Predicate s x) then e))
grows (states.Subject s) (Text x) then e = absurd (none-some then e)
grows (states.Subject s) (Tag x) then e = absurd (none-some then e)
grows (states.Subject s) Hats then e = absurd (none-some then e)
grows (states.Subject s) Dot then e = absurd (none-some then e)
grows (states.Subject s) Node then e = absurd (none-some then e)
grows (states.Predicate s p) (Iri x) then e = ap so_far (sym (same_Some (states.Linked s p x) then e))
grows (states.Predicate s p) (Text x) then e = ap so_far (sym (same_Some (states.Valued s p x) then e))
grows (states.Predicate s p) (Tag x) then e = absurd (none-some then e)
grows (states.Predicate s p) Hats then e = absurd (none-some then e)
grows (states.Predicate s p) Dot then e = absurd (none-some then e)
grows (states.Predicate s p) Node then e = absurd (none-some then e)
grows (states.Linked s p o) (Iri x) then e = absurd (none-some then e)
grows (states.Linked s p o) (Text x) then e = absurd (none-some then e)
grows (states.Linked s p o) (Tag x) then e = absurd (none-some then e)
grows (states.Linked s p o) Hats then e = absurd (none-some then e)
grows (states.Linked s p o) Dot then e = ap so_far (sym (same_Some (states.Whole (record { subject = s; predicate = p; object = objects.Iri o })) then e))
grows (states.Linked s p o) Node then e = absurd (none-some then e)
grows (states.Valued s p t) (Iri x) then e = absurd (none-some then e)
grows (states.Valued s p t) (Text x) then e = absurd (none-some then e)
grows (states.Valued s p t) (Tag x) then e = ap so_far (sym (same_Some (states.Tagged s p t x) then e))
grows (states.Valued s p t) Hats then e = ap so_far (sym (same_Some (states.Typing s p t) then e))
grows (states.Valued s p t) Dot then e = ap so_far (sym (same_Some (states.Whole (record { subject = s; predicate = p; object = objects.Plain t })) then e))
grows (states.Valued s p t) Node then e = absurd (none-some then e)
grows (states.Typing s p t) (Iri x) then e = ap so_far (sym (same_Some (states.Typed s p t x) then e))
grows (states.Typing s p t) (Text x) then e = absurd (none-some then e)
grows (states.Typing s p t) (Tag x) then e = absurd (none-some then e)
grows (states.Typing s p t) Hats then e = absurd (none-some then e)
grows (states.Typing s p t) Dot then e = absurd (none-some then e)
grows (states.Typing s p t) Node then e = absurd (none-some then e)
grows (states.Typed s p t d) (Iri x) then e = absurd (none-some then e)
grows (states.Typed s p t d) (Text x) then e = absurd (none-some then e)
grows (states.Typed s p t d) (Tag x) then e = absurd (none-some then e)
grows (states.Typed s p t d) Hats then e = absurd (none-some then e)
grows (states.Typed s p t d) Dot then e = ap so_far (sym (same_Some (states.Whole (record { subject = s; predicate = p; object = objects.Typed t d })) then e))
grows (states.Typed s p t d) Node then e = absurd (none-some then e)
grows (states.Tagged s p t l) (Iri x) then e = absurd (none-some then e)
grows (states.Tagged s p t l) (Text x) then e = absurd (none-some then e)
grows (states.Tagged s p t l) (Tag x) then e = absurd (none-some then e)
grows (states.Tagged s p t l) Hats then e = absurd (none-some then e)
grows (states.Tagged s p t l) Dot then e = ap so_far (sym (same_Some (states.Whole (record { subject = s; predicate = p; object = objects.Tagged t l })) then e))
grows (states.Tagged s p t l) Node then e = absurd (none-some then e)
grows (states.Whole w) (Iri x) then e = absurd (none-some then e)
grows (states.Whole w) (Text x) then e = absurd (none-some then e)
grows (states.Whole w) (Tag x) then e = absurd (none-some then e)
grows (states.Whole w) Hats then e = absurd (none-some then e)
grows (states.Whole w) Dot then e = absurd (none-some then e)
grows (states.Whole w) Node then e = absurd (none-some then e)

-- every state is the front of a line
pub alive : (state : State) → IsViable (so_far state)
alive states.Start = ([], None, refl)
alive (states.Subject s) = (Iri [] ∷ Iri [] ∷ Dot ∷ [], Some (record { subject = s; predicate = []; object = objects.Iri [] }), refl)
alive (states.Predicate s p) = (Iri [] ∷ Dot ∷ [], Some (record { subject = s; predicate = p; object = objects.Iri [] }), refl)
alive (states.Linked s p o) = (Dot ∷ [], Some (record { subject = s; predicate = p; object = objects.Iri o }), refl)
alive (states.Valued s p t) = (Dot ∷ [], Some (record { subject = s; predicate = p; object = objects.Plain t }), refl)
alive (states.Typing s p t) = (Iri [] ∷ Dot ∷ [], Some (record { subject = s; predicate = p; object = objects.Typed t [] }), refl)
alive (states.Typed s p t d) = (Dot ∷ [], Some (record { subject = s; predicate = p; object = objects.Typed t d }), refl)
alive (states.Tagged s p t l) = (Dot ∷ [], Some (record { subject = s; predicate = p; object = objects.Tagged t l }), refl)
alive (states.Whole w) = ([], Some w, append-nil (tokens_of (Some w)))

ended : (a b : Object) (token : Token) (rest : List Token) → object_tokens a ++ (Dot ∷ token ∷ rest) ≡ object_tokens b ++ Dot ∷ [] → ⊥
ended (objects.Iri o) (objects.Iri o') token rest e = cc
ended (objects.Iri o) (objects.Plain t') token rest e = cc
ended (objects.Iri o) (objects.Typed t' d') token rest e = cc
ended (objects.Iri o) (objects.Tagged t' l') token rest e = cc
ended (objects.Plain t) (objects.Iri o') token rest e = cc
ended (objects.Plain t) (objects.Plain t') token rest e = cc
ended (objects.Plain t) (objects.Typed t' d') token rest e = cc
ended (objects.Plain t) (objects.Tagged t' l') token rest e = cc
ended (objects.Typed t d) (objects.Iri o') token rest e = cc
ended (objects.Typed t d) (objects.Plain t') token rest e = cc
ended (objects.Typed t d) (objects.Typed t' d') token rest e = cc
ended (objects.Typed t d) (objects.Tagged t' l') token rest e = cc
ended (objects.Tagged t l) (objects.Iri o') token rest e = cc
ended (objects.Tagged t l) (objects.Plain t') token rest e = cc
ended (objects.Tagged t l) (objects.Typed t' d') token rest e = cc
ended (objects.Tagged t l) (objects.Tagged t' l') token rest e = cc

-- a token with which a line goes on is taken
goes_on : (state : State) (token : Token) (rest : List Token) (a b : List ℕ) (object : Object)
    → so_far state ++ token ∷ rest ≡ Iri a ∷ Iri b ∷ (object_tokens object ++ Dot ∷ []) → after state token ≡ None → ⊥
goes_on states.Start token rest a b (objects.Iri o1) e n = let is : token ≡ Iri a = cc in none-some _ (sym n ∙ ap (after states.Start) is)
goes_on states.Start token rest a b (objects.Plain t1) e n = let is : token ≡ Iri a = cc in none-some _ (sym n ∙ ap (after states.Start) is)
goes_on states.Start token rest a b (objects.Typed t1 d1) e n = let is : token ≡ Iri a = cc in none-some _ (sym n ∙ ap (after states.Start) is)
goes_on states.Start token rest a b (objects.Tagged t1 l1) e n = let is : token ≡ Iri a = cc in none-some _ (sym n ∙ ap (after states.Start) is)
goes_on (states.Subject s) token rest a b (objects.Iri o1) e n = let is : token ≡ Iri b = cc in none-some _ (sym n ∙ ap (after (states.Subject s)) is)
goes_on (states.Subject s) token rest a b (objects.Plain t1) e n = let is : token ≡ Iri b = cc in none-some _ (sym n ∙ ap (after (states.Subject s)) is)
goes_on (states.Subject s) token rest a b (objects.Typed t1 d1) e n = let is : token ≡ Iri b = cc in none-some _ (sym n ∙ ap (after (states.Subject s)) is)
goes_on (states.Subject s) token rest a b (objects.Tagged t1 l1) e n = let is : token ≡ Iri b = cc in none-some _ (sym n ∙ ap (after (states.Subject s)) is)
goes_on (states.Predicate s p) token rest a b (objects.Iri o1) e n = let is : token ≡ Iri o1 = cc in none-some _ (sym n ∙ ap (after (states.Predicate s p)) is)
goes_on (states.Predicate s p) token rest a b (objects.Plain t1) e n = let is : token ≡ Text t1 = cc in none-some _ (sym n ∙ ap (after (states.Predicate s p)) is)
goes_on (states.Predicate s p) token rest a b (objects.Typed t1 d1) e n = let is : token ≡ Text t1 = cc in none-some _ (sym n ∙ ap (after (states.Predicate s p)) is)
goes_on (states.Predicate s p) token rest a b (objects.Tagged t1 l1) e n = let is : token ≡ Text t1 = cc in none-some _ (sym n ∙ ap (after (states.Predicate s p)) is)
goes_on (states.Linked s p o) token rest a b (objects.Iri o1) e n = let is : token ≡ Dot = cc in none-some _ (sym n ∙ ap (after (states.Linked s p o)) is)
goes_on (states.Linked s p o) token rest a b (objects.Plain t1) e n = cc
goes_on (states.Linked s p o) token rest a b (objects.Typed t1 d1) e n = cc
goes_on (states.Linked s p o) token rest a b (objects.Tagged t1 l1) e n = cc
goes_on (states.Valued s p t) token rest a b (objects.Iri o1) e n = cc
goes_on (states.Valued s p t) token rest a b (objects.Plain t1) e n = let is : token ≡ Dot = cc in none-some _ (sym n ∙ ap (after (states.Valued s p t)) is)
goes_on (states.Valued s p t) token rest a b (objects.Typed t1 d1) e n = let is : token ≡ Hats = cc in none-some _ (sym n ∙ ap (after (states.Valued s p t)) is)
goes_on (states.Valued s p t) token rest a b (objects.Tagged t1 l1) e n = let is : token ≡ Tag l1 = cc in none-some _ (sym n ∙ ap (after (states.Valued s p t)) is)
goes_on (states.Typing s p t) token rest a b (objects.Iri o1) e n = cc
goes_on (states.Typing s p t) token rest a b (objects.Plain t1) e n = cc
goes_on (states.Typing s p t) token rest a b (objects.Typed t1 d1) e n = let is : token ≡ Iri d1 = cc in none-some _ (sym n ∙ ap (after (states.Typing s p t)) is)
goes_on (states.Typing s p t) token rest a b (objects.Tagged t1 l1) e n = cc
goes_on (states.Typed s p t d) token rest a b (objects.Iri o1) e n = cc
goes_on (states.Typed s p t d) token rest a b (objects.Plain t1) e n = cc
goes_on (states.Typed s p t d) token rest a b (objects.Typed t1 d1) e n = let is : token ≡ Dot = cc in none-some _ (sym n ∙ ap (after (states.Typed s p t d)) is)
goes_on (states.Typed s p t d) token rest a b (objects.Tagged t1 l1) e n = cc
goes_on (states.Tagged s p t l) token rest a b (objects.Iri o1) e n = cc
goes_on (states.Tagged s p t l) token rest a b (objects.Plain t1) e n = cc
goes_on (states.Tagged s p t l) token rest a b (objects.Typed t1 d1) e n = cc
goes_on (states.Tagged s p t l) token rest a b (objects.Tagged t1 l1) e n = let is : token ≡ Dot = cc in none-some _ (sym n ∙ ap (after (states.Tagged s p t l)) is)
goes_on (states.Whole w) token rest a b object e n = ended w.object object token rest (sym (append_assoc (object_tokens w.object) (Dot ∷ []) (token ∷ rest)) ∙ behind _ _ _ _ _ _ e)
  where
    behind : (a b c d : Token) (x y : List Token) → a ∷ b ∷ x ≡ c ∷ d ∷ y → x ≡ y
    behind a b c d x y e = cc

nothing : (state : State) (token : Token) (rest : List Token) → so_far state ++ token ∷ rest ≡ [] → ⊥
nothing states.Start token rest e = cc
nothing (states.Subject s) token rest e = cc
nothing (states.Predicate s p) token rest e = cc
nothing (states.Linked s p o) token rest e = cc
nothing (states.Valued s p t) token rest e = cc
nothing (states.Typing s p t) token rest e = cc
nothing (states.Typed s p t d) token rest e = cc
nothing (states.Tagged s p t l) token rest e = cc
nothing (states.Whole w) token rest e = cc

-- with a token that isn't taken no line goes on
pub stuck : (state : State) (token : Token) → after state token ≡ None → ¬ IsViable (so_far state ++ token ∷ [])
stuck state token n (rest, None, e) = nothing state token rest (sym (append_assoc (so_far state) (token ∷ []) rest) ∙ e)
stuck state token n (rest, Some w, e) = goes_on state token rest w.subject w.predicate w.object (sym (append_assoc (so_far state) (token ∷ []) rest) ∙ e) n

-- the states that are whole lines
abbrev pub IsOpen : State → Type 0
IsOpen states.Start = ⊥
IsOpen (states.Whole w) = ⊥
IsOpen (states.Subject s) = Unit {0}
IsOpen (states.Predicate s p) = Unit {0}
IsOpen (states.Linked s p o) = Unit {0}
IsOpen (states.Valued s p t) = Unit {0}
IsOpen (states.Typing s p t) = Unit {0}
IsOpen (states.Typed s p t d) = Unit {0}
IsOpen (states.Tagged s p t l) = Unit {0}

open_with : (state : State) (a b : List ℕ) (object : Object) → IsOpen state → so_far state ≡ Iri a ∷ Iri b ∷ (object_tokens object ++ Dot ∷ []) → ⊥
open_with states.Start a b object i e = absurd i
open_with (states.Subject s) a b (objects.Iri o1) i e = cc
open_with (states.Subject s) a b (objects.Plain t1) i e = cc
open_with (states.Subject s) a b (objects.Typed t1 d1) i e = cc
open_with (states.Subject s) a b (objects.Tagged t1 l1) i e = cc
open_with (states.Predicate s p) a b (objects.Iri o1) i e = cc
open_with (states.Predicate s p) a b (objects.Plain t1) i e = cc
open_with (states.Predicate s p) a b (objects.Typed t1 d1) i e = cc
open_with (states.Predicate s p) a b (objects.Tagged t1 l1) i e = cc
open_with (states.Linked s p o) a b (objects.Iri o1) i e = cc
open_with (states.Linked s p o) a b (objects.Plain t1) i e = cc
open_with (states.Linked s p o) a b (objects.Typed t1 d1) i e = cc
open_with (states.Linked s p o) a b (objects.Tagged t1 l1) i e = cc
open_with (states.Valued s p t) a b (objects.Iri o1) i e = cc
open_with (states.Valued s p t) a b (objects.Plain t1) i e = cc
open_with (states.Valued s p t) a b (objects.Typed t1 d1) i e = cc
open_with (states.Valued s p t) a b (objects.Tagged t1 l1) i e = cc
open_with (states.Typing s p t) a b (objects.Iri o1) i e = cc
open_with (states.Typing s p t) a b (objects.Plain t1) i e = cc
open_with (states.Typing s p t) a b (objects.Typed t1 d1) i e = cc
open_with (states.Typing s p t) a b (objects.Tagged t1 l1) i e = cc
open_with (states.Typed s p t d) a b (objects.Iri o1) i e = cc
open_with (states.Typed s p t d) a b (objects.Plain t1) i e = cc
open_with (states.Typed s p t d) a b (objects.Typed t1 d1) i e = cc
open_with (states.Typed s p t d) a b (objects.Tagged t1 l1) i e = cc
open_with (states.Tagged s p t l) a b (objects.Iri o1) i e = cc
open_with (states.Tagged s p t l) a b (objects.Plain t1) i e = cc
open_with (states.Tagged s p t l) a b (objects.Typed t1 d1) i e = cc
open_with (states.Tagged s p t l) a b (objects.Tagged t1 l1) i e = cc
open_with (states.Whole w) a b object i e = absurd i

open_not_empty : (state : State) → IsOpen state → so_far state ≡ [] → ⊥
open_not_empty states.Start i e = absurd i
open_not_empty (states.Subject s) i e = cc
open_not_empty (states.Predicate s p) i e = cc
open_not_empty (states.Linked s p o) i e = cc
open_not_empty (states.Valued s p t) i e = cc
open_not_empty (states.Typing s p t) i e = cc
open_not_empty (states.Typed s p t d) i e = cc
open_not_empty (states.Tagged s p t l) i e = cc
open_not_empty (states.Whole w) i e = absurd i

pub no_line : (state : State) → IsOpen state → (line : Option Triple) → so_far state ≢ tokens_of line
no_line state i None e = open_not_empty state i e
no_line state i (Some w) e = open_with state w.subject w.predicate w.object i e

pub stopped_more : (tokens : List Token) (token : Token) (kind : ReadKind) → StopsAtToken tokens kind → StopsAtToken (tokens ++ token ∷ []) kind
stopped_more tokens token kind s = record {
  front = s.front;
  token = s.token;
  rest = s.rest ++ token ∷ [];
  is = ap (λ (ts : List Token). ts ++ token ∷ []) s.is ∙ append_assoc s.front (s.token ∷ s.rest) (token ∷ []);
  viable = s.viable;
  stuck = s.stuck;
  kind_is = s.kind_is;
}

-- where a token is none of those that a state takes
at_refuses_start : (token : Token) → ((x : List ℕ) → token ≢ Iri x) → None ≡ after states.Start token
at_refuses_start (Iri x) n0 = absurd (n0 x refl)
at_refuses_start (Text x) n0 = refl
at_refuses_start (Tag x) n0 = refl
at_refuses_start Hats n0 = refl
at_refuses_start Dot n0 = refl
at_refuses_start Node n0 = refl

pub refuses_start : (state : State) (token : Token) → state ≡ states.Start → ((x : List ℕ) → token ≢ Iri x) → None ≡ after state token
refuses_start state token e n0 = subst (λ (z : State). None ≡ after z token) (sym e) (at_refuses_start token n0)

at_refuses_subject : (s : List ℕ) (token : Token) → ((x : List ℕ) → token ≢ Iri x) → None ≡ after (states.Subject s) token
at_refuses_subject s (Iri x) n0 = absurd (n0 x refl)
at_refuses_subject s (Text x) n0 = refl
at_refuses_subject s (Tag x) n0 = refl
at_refuses_subject s Hats n0 = refl
at_refuses_subject s Dot n0 = refl
at_refuses_subject s Node n0 = refl

pub refuses_subject : (state : State) (s : List ℕ) (token : Token) → state ≡ (states.Subject s) → ((x : List ℕ) → token ≢ Iri x) → None ≡ after state token
refuses_subject state s token e n0 = subst (λ (z : State). None ≡ after z token) (sym e) (at_refuses_subject s token n0)

at_refuses_predicate : (s p : List ℕ) (token : Token) → ((x : List ℕ) → token ≢ Iri x) → ((x : List ℕ) → token ≢ Text x) → None ≡ after (states.Predicate s p) token
at_refuses_predicate s p (Iri x) n0 n1 = absurd (n0 x refl)
at_refuses_predicate s p (Text x) n0 n1 = absurd (n1 x refl)
at_refuses_predicate s p (Tag x) n0 n1 = refl
at_refuses_predicate s p Hats n0 n1 = refl
at_refuses_predicate s p Dot n0 n1 = refl
at_refuses_predicate s p Node n0 n1 = refl

pub refuses_predicate : (state : State) (s p : List ℕ) (token : Token) → state ≡ (states.Predicate s p) → ((x : List ℕ) → token ≢ Iri x) → ((x : List ℕ) → token ≢ Text x) → None ≡ after state token
refuses_predicate state s p token e n0 n1 = subst (λ (z : State). None ≡ after z token) (sym e) (at_refuses_predicate s p token n0 n1)

at_refuses_linked : (s p o : List ℕ) (token : Token) → token ≢ Dot → None ≡ after (states.Linked s p o) token
at_refuses_linked s p o (Iri x) n0 = refl
at_refuses_linked s p o (Text x) n0 = refl
at_refuses_linked s p o (Tag x) n0 = refl
at_refuses_linked s p o Hats n0 = refl
at_refuses_linked s p o Dot n0 = absurd (n0 refl)
at_refuses_linked s p o Node n0 = refl

pub refuses_linked : (state : State) (s p o : List ℕ) (token : Token) → state ≡ (states.Linked s p o) → token ≢ Dot → None ≡ after state token
refuses_linked state s p o token e n0 = subst (λ (z : State). None ≡ after z token) (sym e) (at_refuses_linked s p o token n0)

at_refuses_valued : (s p t : List ℕ) (token : Token) → token ≢ Dot → token ≢ Hats → ((x : List ℕ) → token ≢ Tag x) → None ≡ after (states.Valued s p t) token
at_refuses_valued s p t (Iri x) n0 n1 n2 = refl
at_refuses_valued s p t (Text x) n0 n1 n2 = refl
at_refuses_valued s p t (Tag x) n0 n1 n2 = absurd (n2 x refl)
at_refuses_valued s p t Hats n0 n1 n2 = absurd (n1 refl)
at_refuses_valued s p t Dot n0 n1 n2 = absurd (n0 refl)
at_refuses_valued s p t Node n0 n1 n2 = refl

pub refuses_valued : (state : State) (s p t : List ℕ) (token : Token) → state ≡ (states.Valued s p t) → token ≢ Dot → token ≢ Hats → ((x : List ℕ) → token ≢ Tag x) → None ≡ after state token
refuses_valued state s p t token e n0 n1 n2 = subst (λ (z : State). None ≡ after z token) (sym e) (at_refuses_valued s p t token n0 n1 n2)

at_refuses_typing : (s p t : List ℕ) (token : Token) → ((x : List ℕ) → token ≢ Iri x) → None ≡ after (states.Typing s p t) token
at_refuses_typing s p t (Iri x) n0 = absurd (n0 x refl)
at_refuses_typing s p t (Text x) n0 = refl
at_refuses_typing s p t (Tag x) n0 = refl
at_refuses_typing s p t Hats n0 = refl
at_refuses_typing s p t Dot n0 = refl
at_refuses_typing s p t Node n0 = refl

pub refuses_typing : (state : State) (s p t : List ℕ) (token : Token) → state ≡ (states.Typing s p t) → ((x : List ℕ) → token ≢ Iri x) → None ≡ after state token
refuses_typing state s p t token e n0 = subst (λ (z : State). None ≡ after z token) (sym e) (at_refuses_typing s p t token n0)

at_refuses_typed : (s p t d : List ℕ) (token : Token) → token ≢ Dot → None ≡ after (states.Typed s p t d) token
at_refuses_typed s p t d (Iri x) n0 = refl
at_refuses_typed s p t d (Text x) n0 = refl
at_refuses_typed s p t d (Tag x) n0 = refl
at_refuses_typed s p t d Hats n0 = refl
at_refuses_typed s p t d Dot n0 = absurd (n0 refl)
at_refuses_typed s p t d Node n0 = refl

pub refuses_typed : (state : State) (s p t d : List ℕ) (token : Token) → state ≡ (states.Typed s p t d) → token ≢ Dot → None ≡ after state token
refuses_typed state s p t d token e n0 = subst (λ (z : State). None ≡ after z token) (sym e) (at_refuses_typed s p t d token n0)

at_refuses_tagged : (s p t l : List ℕ) (token : Token) → token ≢ Dot → None ≡ after (states.Tagged s p t l) token
at_refuses_tagged s p t l (Iri x) n0 = refl
at_refuses_tagged s p t l (Text x) n0 = refl
at_refuses_tagged s p t l (Tag x) n0 = refl
at_refuses_tagged s p t l Hats n0 = refl
at_refuses_tagged s p t l Dot n0 = absurd (n0 refl)
at_refuses_tagged s p t l Node n0 = refl

pub refuses_tagged : (state : State) (s p t l : List ℕ) (token : Token) → state ≡ (states.Tagged s p t l) → token ≢ Dot → None ≡ after state token
refuses_tagged state s p t l token e n0 = subst (λ (z : State). None ≡ after z token) (sym e) (at_refuses_tagged s p t l token n0)

at_refuses_whole : (w : Triple) (token : Token) → None ≡ after (states.Whole w) token
at_refuses_whole w (Iri x) = refl
at_refuses_whole w (Text x) = refl
at_refuses_whole w (Tag x) = refl
at_refuses_whole w Hats = refl
at_refuses_whole w Dot = refl
at_refuses_whole w Node = refl

pub refuses_whole : (state : State) (w : Triple) (token : Token) → state ≡ states.Whole w → None ≡ after state token
refuses_whole state w token e = subst (λ (z : State). None ≡ after z token) (sym e) (at_refuses_whole w token)

-- a state that is neither the start nor whole
pub open_from : (state : State) → state ≢ states.Start → ((w : Triple) → state ≢ states.Whole w) → IsOpen state
open_from states.Start n m = absurd (n refl)
open_from (states.Subject s) n m = tt
open_from (states.Predicate s p) n m = tt
open_from (states.Linked s p o) n m = tt
open_from (states.Valued s p t) n m = tt
open_from (states.Typing s p t) n m = tt
open_from (states.Typed s p t d) n m = tt
open_from (states.Tagged s p t l) n m = tt
open_from (states.Whole w) n m = absurd (m w refl)
