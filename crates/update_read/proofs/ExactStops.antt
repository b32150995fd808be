-- Tokens are one update, or stop in one way.
use Rattle.std.proofs.Common.{◌≡◌, ◌≢◌, ℕ, List, [], ◌∷◌, ◌++◌, Some, refl, sym, ap, subst, ◌∙◌, append_assoc, inl, inr}
use Rattle.std.specs.Prelude.{◌⊎◌, Option}
use Rattle.std.proofs.lemmas.List.{append-nil}
use Rattle.dl_text.specs.declared.kinds.ReadKind.{ReadKind}
use Rattle.dl_text.specs.declared.kinds.ReadKind.TheVariants as kinds
use Rattle.update_read.specs.declared.syntax.Operation.{Operation}
use Rattle.update_read.specs.declared.tokens.Keyword.{Keyword}
use Rattle.update_read.specs.declared.tokens.Keyword.TheVariants as keywords
use Rattle.update_read.specs.declared.tokens.Mark.TheVariants as marks
use Rattle.update_read.specs.declared.tokens.Token.{Token}
use Rattle.update_read.specs.declared.tokens.Token.TheVariants as tokens
use Rattle.update_read.specs.Grammar.{Statement, word_of, IsUpdate}
use Rattle.update_read.specs.Running.{Run, runs, start}
use Rattle.update_read.specs.Stopping.{IsFront, EndsWithWord, IsVariable, IsBlankNode, IsOtherOperation, IsKind, variable, blank_node, other_operation, syntax, IsRefusal, StopsAtToken, StopsAtEnd, Stops}
use Rattle.update_read.specs.Tokens.{Lexeme, at}
use Rattle.update_read.proofs.RunLaws.{Ahead, goes_through, ended}

abbrev pub IsSame : ℕ → ℕ → ReadKind → ReadKind → Type 0
IsSame m n k l = (m ≡ n) × (k ≡ l)

same_run : (o : Option Run) (r s : Run) → o ≡ Some r → o ≡ Some s → r ≡ s
same_run o r s e f = cc

-- ---- an update has its triples
through : (ts : List Lexeme) (out : List Statement) → IsUpdate [] ts out → (e : Run) × (runs (Some start) ts ≡ Some e) × Ahead e [] out
through ts out u = goes_through ts [] start out (record { later = out; rest = subst (λ (z : List Lexeme). IsUpdate [] z out) (sym (append-nil ts)) u; is = refl })

all_of : (e : Run) (out : List Statement) → Ahead e [] out → out ≡ e.out
all_of e out a = a.is ∙ ap (λ (z : List Statement). e.out ++ z) (ended e.bindings e.spot a.later a.rest).1 ∙ append-nil e.out

pub update_one : (ts : List Lexeme) (o p : List Statement) → IsUpdate [] ts o → IsUpdate [] ts p → o ≡ p
update_one ts o p h k =
    let a = through ts o h in
    let b = through ts p k in
    all_of a.0 o a.2 ∙ ap (λ (r : Run). r.out) (same_run (runs (Some start) ts) a.0 b.0 a.1 b.1) ∙ sym (all_of b.0 p b.2)

-- ---- of two fronts with a token behind each, they are one, or one goes on through the other
fronts : (a b : List Lexeme) (s t : Lexeme) (x y : List Lexeme) → a ++ s ∷ x ≡ b ++ t ∷ y
    → ((a ≡ b) × (s ≡ t)) ⊎ (((z : List Lexeme) × (b ≡ a ++ s ∷ z)) ⊎ ((z : List Lexeme) × (a ≡ b ++ t ∷ z)))
fronts [] [] s t x y e = inl (refl, cc)
fronts [] (c ∷ b) s t x y e = let same : c ≡ s = cc in inr (inl (b, ap (λ (z : Lexeme). z ∷ b) same))
fronts (c ∷ a) [] s t x y e = let same : c ≡ t = cc in inr (inr (a, ap (λ (z : Lexeme). z ∷ a) same))
fronts (c ∷ a) (d ∷ b) s t x y e = let same : c ≡ d = cc in on c d a b s t same (fronts a b s t x y (cc))
  where
    on : (c d : Lexeme) (a b : List Lexeme) (s t : Lexeme) → c ≡ d → ((a ≡ b) × (s ≡ t)) ⊎ (((z : List Lexeme) × (b ≡ a ++ s ∷ z)) ⊎ ((z : List Lexeme) × (a ≡ b ++ t ∷ z)))
        → ((c ∷ a ≡ d ∷ b) × (s ≡ t)) ⊎ (((z : List Lexeme) × (d ∷ b ≡ c ∷ (a ++ s ∷ z))) ⊎ ((z : List Lexeme) × (c ∷ a ≡ d ∷ (b ++ t ∷ z))))
    on c d a b s t e (inl h) = inl (ap (λ (q : Lexeme). q ∷ a) e ∙ ap (λ (qs : List Lexeme). d ∷ qs) h.0, h.1)
    on c d a b s t e (inr (inl (z, h))) = inr (inl (z, ap (λ (q : Lexeme). q ∷ b) (sym e) ∙ ap (λ (qs : List Lexeme). c ∷ qs) h))
    on c d a b s t e (inr (inr (z, h))) = inr (inr (z, ap (λ (q : Lexeme). q ∷ a) e ∙ ap (λ (qs : List Lexeme). d ∷ qs) h))

front_front : (xs ys : List Lexeme) → IsFront (xs ++ ys) → IsFront xs
front_front xs ys (rest, out, u) = (ys ++ rest, out, subst (λ (z : List Lexeme). IsUpdate [] z out) (append_assoc xs ys rest) u)

step_front : (a : List Lexeme) (t : Lexeme) (x : List Lexeme) → IsFront (a ++ t ∷ x) → IsFront (a ++ t ∷ [])
step_front a t x h = front_front (a ++ t ∷ []) x (subst IsFront (sym (append_assoc a (t ∷ []) x)) h)

token_no_front : (ts : List Lexeme) (m : ℕ) (k : ReadKind) → StopsAtToken ts m k → ¬ IsFront ts
token_no_front ts m k h f = h.stuck (step_front h.front (at h.here h.token) h.rest (subst IsFront h.is f))

-- ---- one refusal
last_one : (a b : List Lexeme) (s t : Lexeme) → a ++ s ∷ [] ≡ b ++ t ∷ [] → s ≡ t
last_one [] [] s t e = cc
last_one [] (c ∷ []) s t e = cc
last_one [] (c ∷ d ∷ b) s t e = cc
last_one (c ∷ []) [] s t e = cc
last_one (c ∷ d ∷ a) [] s t e = cc
last_one (c ∷ a) (d ∷ b) s t e = last_one a b s t (cc)

line_same : (m n : ℕ) (s t : Token) → at m s ≡ at n t → m ≡ n
line_same m n s t e = cc

token_same : (m n : ℕ) (s t : Token) → at m s ≡ at n t → s ≡ t
token_same m n s t e = cc

word_one : (front : List Lexeme) (m n : ℕ) → EndsWithWord front m → EndsWithWord front n → m ≡ n
word_one front m n (a, o, e) (b, p, f) = line_same m n (tokens.Word (word_of o)) (tokens.Word (word_of p)) (last_one a b (at m (tokens.Word (word_of o))) (at n (tokens.Word (word_of p))) (sym e ∙ f))

no_variable_word : (token : Token) (w : Keyword) → token ≡ tokens.Variable → token ≡ tokens.Word w → ⊥
no_variable_word token w e f = let g : tokens.Variable ≡ tokens.Word w = sym e ∙ f in cc

no_blank_word : (token : Token) (w : Keyword) → IsBlankNode token → token ≡ tokens.Word w → ⊥
no_blank_word token w (inl e) f = let g : tokens.Blank ≡ tokens.Word w = sym e ∙ f in cc
no_blank_word token w (inr e) f = let g : tokens.Sign marks.Open ≡ tokens.Word w = sym e ∙ f in cc

no_variable_blank : (token : Token) → token ≡ tokens.Variable → IsBlankNode token → ⊥
no_variable_blank token e (inl f) = let g : tokens.Variable ≡ tokens.Blank = sym e ∙ f in cc
no_variable_blank token e (inr f) = let g : tokens.Variable ≡ tokens.Sign marks.Open = sym e ∙ f in cc

is_word : (front : List Lexeme) (token : Token) → IsOtherOperation front token → (w : Keyword) × (token ≡ tokens.Word w)
is_word front token (inl (w, f)) = w
is_word front token (inr (e, f)) = (keywords.Graph, e)

kind_one : (front : List Lexeme) (token : Token) (k l : ReadKind) → IsKind front token k → IsKind front token l → k ≡ l
kind_one front token k l (variable a e) (variable b f) = e ∙ sym f
kind_one front token k l (variable a e) (blank_node b f) = absurd (no_variable_blank token a b)
kind_one front token k l (variable a e) (other_operation b f) = let w = is_word front token b in absurd (no_variable_word token w.0 a w.1)
kind_one front token k l (variable a e) (syntax b c d f) = absurd (b a)
kind_one front token k l (blank_node a e) (variable b f) = absurd (no_variable_blank token b a)
kind_one front token k l (blank_node a e) (blank_node b f) = e ∙ sym f
kind_one front token k l (blank_node a e) (other_operation b f) = let w = is_word front token b in absurd (no_blank_word token w.0 a w.1)
kind_one front token k l (blank_node a e) (syntax b c d f) = absurd (c a)
kind_one front token k l (other_operation a e) (variable b f) = let w = is_word front token a in absurd (no_variable_word token w.0 b w.1)
kind_one front token k l (other_operation a e) (blank_node b f) = let w = is_word front token a in absurd (no_blank_word token w.0 b w.1)
kind_one front token k l (other_operation a e) (other_operation b f) = e ∙ sym f
kind_one front token k l (other_operation a e) (syntax b c d f) = absurd (d a)
kind_one front token k l (syntax b c d f) (variable a e) = absurd (b a)
kind_one front token k l (syntax b c d f) (blank_node a e) = absurd (c a)
kind_one front token k l (syntax b c d f) (other_operation a e) = absurd (d a)
kind_one front token k l (syntax a b c e) (syntax d g h f) = e ∙ sym f

refusal_one : (front : List Lexeme) (here : ℕ) (Is : ReadKind → Type 0) (m n : ℕ) (k l : ReadKind) → ((i j : ReadKind) → Is i → Is j → i ≡ j) → IsRefusal front here Is m k → IsRefusal front here Is n l → IsSame m n k l
refusal_one front here Is m n k l one (inl (a, e)) (inl (b, f)) = (word_one front m n a b, e ∙ sym f)
refusal_one front here Is m n k l one (inl (a, e)) (inr (b, f, g)) = absurd (b m a)
refusal_one front here Is m n k l one (inr (b, f, g)) (inl (a, e)) = absurd (b n a)
refusal_one front here Is m n k l one (inr (a, e, h)) (inr (b, f, g)) = (e ∙ sym f, one k l h g)

tokens_one : (ts : List Lexeme) (m n : ℕ) (k l : ReadKind) → StopsAtToken ts m k → StopsAtToken ts n l → IsSame m n k l
tokens_one ts m n k l h j = on (fronts h.front j.front (at h.here h.token) (at j.here j.token) h.rest j.rest (sym h.is ∙ j.is))
  where
    on : ((h.front ≡ j.front) × (at h.here h.token ≡ at j.here j.token)) ⊎ (((z : List Lexeme) × (j.front ≡ h.front ++ at h.here h.token ∷ z)) ⊎ ((z : List Lexeme) × (h.front ≡ j.front ++ at j.here j.token ∷ z)))
        → IsSame m n k l
    on (inl (e, f)) =
        let here = line_same h.here j.here h.token j.token f in
        let token = token_same h.here j.here h.token j.token f in
        let a = subst (λ (z : List Lexeme). IsRefusal z h.here (IsKind z h.token) m k) e h.refusal in
        let b = subst (λ (z : ℕ). IsRefusal j.front z (IsKind j.front h.token) m k) here a in
        let c = subst (λ (z : Token). IsRefusal j.front j.here (IsKind j.front z) m k) token b in
        refusal_one j.front j.here (IsKind j.front j.token) m n k l (kind_one j.front j.token) c j.refusal
    on (inr (inl (z, e))) = absurd (h.stuck (step_front h.front (at h.here h.token) z (subst IsFront e j.good)))
    on (inr (inr (z, e))) = absurd (j.stuck (step_front j.front (at j.here j.token) z (subst IsFront e h.good)))

pub stops_one : (ts : List Lexeme) (end m n : ℕ) (k l : ReadKind) → Stops ts end m k → Stops ts end n l → IsSame m n k l
stops_one ts end m n k l (inl h) (inl j) = tokens_one ts m n k l h j
stops_one ts end m n k l (inl h) (inr j) = absurd (token_no_front ts m k h j.good)
stops_one ts end m n k l (inr h) (inl j) = absurd (token_no_front ts n l j h.good)
stops_one ts end m n k l (inr h) (inr j) = refusal_one ts end (λ i. i ≡ kinds.Syntax) m n k l (λ i o e f. e ∙ sym f) h.refusal j.refusal

pub update_goes_on : (ts : List Lexeme) (out : List Statement) (end m : ℕ) (k : ReadKind) → IsUpdate [] ts out → ¬ Stops ts end m k
update_goes_on ts out end m k u (inl h) = token_no_front ts m k h ([], out, subst (λ (z : List Lexeme). IsUpdate [] z out) (sym (append-nil ts)) u)
update_goes_on ts out end m k u (inr h) = h.short out u
