-- A text has one answer.
use Rattle.std.proofs.Common.{◌≡◌, ◌+◌, ◌<◌, ℕ, List, [], ◌∷◌, ◌++◌, length, Option, Some, None, Result, Ok, Err, refl, sym, ap, subst, ◌∙◌, append_assoc, codes, inl, inr, arith}
use Rattle.std.specs.Prelude.{◌⊎◌, count_by, ◌==◌, false, take}
use Rattle.std.specs.List.{flat_map}
use Rattle.std.specs.Str.{IsUtf8}
use Rattle.std.proofs.lemmas.List.{append-nil, take_all}
use Rattle.dl_text.specs.Kinds.{kind_of}
use Rattle.dl_text.specs.declared.escapes.Escapes.TheVariants.{Owl}
use Rattle.dl_text.specs.declared.faults.TextFault.{TextFault}
use Rattle.dl_text.specs.declared.faults.TextFault.TheVariants as faults
use Rattle.dl_text.specs.declared.kinds.ReadKind.{ReadKind}
use Rattle.dl_text.specs.declared.refusals.ReadRefusal.{ReadRefusal}
use Rattle.dl_text.specs.declared.refusals.ReadRefusal.TheVariants.{Refused, OutOfMemory}
use Rattle.dl_text.proofs.GoingLaws.{goes_one}
use Rattle.dl_text.proofs.ReadingLaws.{iri_one, string_one}
use Rattle.owl_syntax.specs.declared.nodes.PrefixLine.{PrefixLine}
use Rattle.owl_syntax.specs.Shapes.{Shape, Gap, Open, Close, Equals, Hats, Tag, Word, Iri, Prefixed, Blank, Digits, Text, Token}
use Rattle.owl_syntax.specs.Tokens.{IsSound, HasFault, Stands, Lexes, IsBadAt, line_of, tokens_at}
use Rattle.owl_syntax.specs.Trees.{Forest, none, word, Content}
use Rattle.owl_syntax.specs.Grammar.{IsShallow, IsFront, IsDocument, SpellsDocument, StopsAtToken, Stops, kind_at, line_at}
use Rattle.owl_syntax.specs.Reading.{State, Lines, Done, runs}
use Rattle.owl_syntax.specs.Outcomes.{IsNoText, HasBadToken, ParsesText, Parses}
use Rattle.owl_syntax.proofs.AcceptLaws.{accepts}
use Rattle.owl_syntax.proofs.ExactCuts.{cuts_one}

memory : (f : TextFault) (kind : ReadKind) → kind_of f ≡ Some kind → ◌≡◌ {A = Result (List ℕ) TextFault} (Err f) (Err faults.OutOfMemory) → ⊥
memory f kind e m = let is : f ≡ faults.OutOfMemory = cc in let g : ◌≡◌ {A = Option ReadKind} None (Some kind) = ap kind_of (sym is) ∙ e in cc

no_fault : (shape : Shape) (kind : ReadKind) → IsSound shape → HasFault shape kind → ⊥
no_fault (Iri i) kind r (f, s, g) = let same = iri_one false i (Ok i) (Err f) r s (λ z. cc) (memory f kind g) in cc
no_fault (Text i) kind (a, r) (f, s, g) = let same = string_one Owl i (Ok a) (Err f) r s (λ z. cc) (memory f kind g) in cc
no_fault Gap kind r h = h
no_fault Open kind r h = h
no_fault Close kind r h = h
no_fault Equals kind r h = h
no_fault Hats kind r h = h
no_fault (Tag t) kind r h = h
no_fault (Word t) kind r h = h
no_fault (Prefixed p l) kind r h = h
no_fault (Blank t) kind r h = h
no_fault (Digits t) kind r h = h

same_kind : (f g : TextFault) (k l : ReadKind) → kind_of f ≡ Some k → kind_of g ≡ Some l → ◌≡◌ {A = Result (List ℕ) TextFault} (Err f) (Err g) → k ≡ l
same_kind f g k l e h m = let is : f ≡ g = cc in let j : ◌≡◌ {A = Option ReadKind} (Some k) (Some l) = sym e ∙ ap kind_of is ∙ h in cc

fault_one : (shape : Shape) (k l : ReadKind) → HasFault shape k → HasFault shape l → k ≡ l
fault_one (Iri i) k l (f, r, e) (g, s, h) = same_kind f g k l e h (iri_one false i (Err f) (Err g) r s (memory f k e) (memory g l h))
fault_one (Text i) k l (f, r, e) (g, s, h) = same_kind f g k l e h (string_one Owl i (Err f) (Err g) r s (memory f k e) (memory g l h))
fault_one Gap k l h j = absurd h
fault_one Open k l h j = absurd h
fault_one Close k l h j = absurd h
fault_one Equals k l h j = absurd h
fault_one Hats k l h j = absurd h
fault_one (Tag t) k l h j = absurd h
fault_one (Word t) k l h j = absurd h
fault_one (Prefixed p x) k l h j = absurd h
fault_one (Blank t) k l h j = absurd h
fault_one (Digits t) k l h j = absurd h

stands_one : (bytes s m n : List ℕ) (o p : List Token) → Stands bytes s o m → Stands bytes s p n → (o ≡ p) × (m ≡ n)
stands_one bytes s m n o p (x, c, a, e) (y, d, b, f) =
    let same = cuts_one s x y m n c d in (e ∙ ap (tokens_at (line_of bytes s)) same.0 ∙ sym f, same.1)

nothing_stands : (bytes m : List ℕ) (o : List Token) → ¬ Stands bytes [] o m
nothing_stands bytes m o (shape, c, s, e) = c

bad_is_dead : (bytes here : List ℕ) (kind : ReadKind) → IsBadAt here kind → (m : List ℕ) (o : List Token) → ¬ Stands bytes here o m
bad_is_dead bytes here kind (inl (n, nil, e)) m o (shape, c, s, f) = nil shape m c
bad_is_dead bytes here kind (inr (shape, rest, c, f)) m o (other, d, s, e) = no_fault shape kind (subst IsSound (sym (cuts_one here shape other rest m c d).0) s) f

bad_not_end : (kind : ReadKind) → ¬ IsBadAt [] kind
bad_not_end kind (inl (n, nil, e)) = n refl
bad_not_end kind (inr (shape, rest, c, f)) = c

bad_one : (here : List ℕ) (k l : ReadKind) → IsBadAt here k → IsBadAt here l → k ≡ l
bad_one here k l (inl (n, nil, e)) (inl (m, nil', f)) = e ∙ sym f
bad_one here k l (inl (n, nil, e)) (inr (shape, rest, c, f)) = absurd (nil shape rest c)
bad_one here k l (inr (shape, rest, c, f)) (inl (n, nil, e)) = absurd (nil shape rest c)
bad_one here k l (inr (x, m, c, f)) (inr (y, n, d, g)) = fault_one y k l (subst (λ (z : Shape). HasFault z k) (cuts_one here x y m n c d).0 f) g

lexes_one : (bytes : List ℕ) (ts us : List Token) → Lexes bytes ts [] → Lexes bytes us [] → ts ≡ us
lexes_one bytes ts us h k =
    h.is ∙ ap (λ (ps : List (List Token)). flat_map (λ (piece : List Token). piece) ps) (goes_one (Stands bytes) (stands_one bytes) bytes [] [] h.pieces k.pieces h.goes k.goes (nothing_stands bytes) (nothing_stands bytes)).0 ∙ sym k.is

lexes_not_bad : (bytes : List ℕ) (ts us : List Token) (here : List ℕ) (kind : ReadKind) → Lexes bytes ts [] → Lexes bytes us here → IsBadAt here kind → ⊥
lexes_not_bad bytes ts us here kind h k b =
    let one = goes_one (Stands bytes) (stands_one bytes) bytes [] here h.pieces k.pieces h.goes k.goes (nothing_stands bytes) (bad_is_dead bytes here kind b) in
    bad_not_end kind (subst (λ (z : List ℕ). IsBadAt z kind) (sym one.1) b)

abbrev pub IsSame : ℕ → ℕ → ReadKind → ReadKind → Type 0
IsSame m n k l = (m ≡ n) × (k ≡ l)

bad_token_one : (bytes : List ℕ) (m n : ℕ) (k l : ReadKind) → HasBadToken bytes m k → HasBadToken bytes n l → IsSame m n k l
bad_token_one bytes m n k l h j =
    let one = goes_one (Stands bytes) (stands_one bytes) bytes h.here j.here h.lexes.pieces j.lexes.pieces h.lexes.goes j.lexes.goes (bad_is_dead bytes h.here k h.bad) (bad_is_dead bytes j.here l j.bad) in
    (h.line_is ∙ ap (line_of bytes) one.1 ∙ sym j.line_is, bad_one j.here k l (subst (λ (z : List ℕ). IsBadAt z k) one.1 h.bad) j.bad)

-- of two fronts with a token behind each, they are one, or one goes on through the other
fronts : (a b : List Token) (s t : Token) (x y : List Token) → a ++ s ∷ x ≡ b ++ t ∷ y
    → ((a ≡ b) × (s ≡ t)) ⊎ (((z : List Token) × (b ≡ a ++ s ∷ z)) ⊎ ((z : List Token) × (a ≡ b ++ t ∷ z)))
fronts [] [] s t x y e = inl (refl, cc)
fronts [] (c ∷ b) s t x y e = let same : c ≡ s = cc in inr (inl (b, ap (λ (z : Token). z ∷ b) same))
fronts (c ∷ a) [] s t x y e = let same : c ≡ t = cc in inr (inr (a, ap (λ (z : Token). z ∷ a) same))
fronts (c ∷ a) (d ∷ b) s t x y e = let same : c ≡ d = cc in on c d a b s t same (fronts a b s t x y (cc))
  where
    on : (c d : Token) (a b : List Token) (s t : Token) → c ≡ d → ((a ≡ b) × (s ≡ t)) ⊎ (((z : List Token) × (b ≡ a ++ s ∷ z)) ⊎ ((z : List Token) × (a ≡ b ++ t ∷ z)))
        → ((c ∷ a ≡ d ∷ b) × (s ≡ t)) ⊎ (((z : List Token) × (d ∷ b ≡ c ∷ (a ++ s ∷ z))) ⊎ ((z : List Token) × (c ∷ a ≡ d ∷ (b ++ t ∷ z))))
    on c d a b s t e (inl h) = inl (ap (λ (q : Token). q ∷ a) e ∙ ap (λ (qs : List Token). d ∷ qs) h.0, h.1)
    on c d a b s t e (inr (inl (z, h))) = inr (inl (z, ap (λ (q : Token). q ∷ b) (sym e) ∙ ap (λ (qs : List Token). c ∷ qs) h))
    on c d a b s t e (inr (inr (z, h))) = inr (inr (z, ap (λ (q : Token). q ∷ a) e ∙ ap (λ (qs : List Token). d ∷ qs) h))

shallow_front : (xs ys : List Token) → IsShallow (xs ++ ys) → IsShallow xs
shallow_front xs ys h front rest e = h front (rest ++ ys) (ap (λ (z : List Token). z ++ ys) e ∙ append_assoc front rest ys)

front_front : (xs ys : List Token) → IsFront (xs ++ ys) → IsFront xs
front_front xs ys (h, (rest, content, d)) =
    (shallow_front xs ys h, (ys ++ rest, content, subst (λ (z : List Token). SpellsDocument z content) (append_assoc xs ys rest) d))

step_front : (a : List Token) (t : Token) (x : List Token) → IsFront (a ++ t ∷ x) → IsFront (a ++ t ∷ [])
step_front a t x h = front_front (a ++ t ∷ []) x (subst IsFront (sym (append_assoc a (t ∷ []) x)) h)

token_no_front : (ts : List Token) (m : ℕ) (k : ReadKind) → StopsAtToken ts m k → ¬ IsFront ts
token_no_front ts m k h f = h.stuck (step_front h.front h.token h.rest (subst IsFront h.is f))

tokens_one : (ts : List Token) (m n : ℕ) (k l : ReadKind) → StopsAtToken ts m k → StopsAtToken ts n l → IsSame m n k l
tokens_one ts m n k l h j = on (fronts h.front j.front h.token j.token h.rest j.rest (sym h.is ∙ j.is))
  where
    on : ((h.front ≡ j.front) × (h.token ≡ j.token)) ⊎ (((z : List Token) × (j.front ≡ h.front ++ h.token ∷ z)) ⊎ ((z : List Token) × (h.front ≡ j.front ++ j.token ∷ z))) → IsSame m n k l
    on (inl (e, f)) = (h.line_is ∙ ap line_at f ∙ sym j.line_is, h.kind_is ∙ ap (λ (z : List Token). kind_at z h.token) e ∙ ap (kind_at j.front) f ∙ sym j.kind_is)
    on (inr (inl (z, e))) = absurd (h.stuck (step_front h.front h.token z (subst IsFront e j.good)))
    on (inr (inr (z, e))) = absurd (j.stuck (step_front j.front j.token z (subst IsFront e h.good)))

stops_one : (ts : List Token) (end m n : ℕ) (k l : ReadKind) → Stops ts end m k → Stops ts end n l → IsSame m n k l
stops_one ts end m n k l (inl h) (inl j) = tokens_one ts m n k l h j
stops_one ts end m n k l (inl h) (inr j) = absurd (token_no_front ts m k h j.0.good)
stops_one ts end m n k l (inr h) (inl j) = absurd (token_no_front ts n l j h.0.good)
stops_one ts end m n k l (inr h) (inr j) = (h.1 ∙ sym j.1, h.2 ∙ sym j.2)

document_front : (ts : List Token) (content : Content) → IsDocument ts content → IsFront ts
document_front ts content (h, d) = (h, ([], content, subst (λ (z : List Token). SpellsDocument z content) (sym (append-nil ts)) d))

document_goes_on : (ts : List Token) (content : Content) (end m : ℕ) (k : ReadKind) → IsDocument ts content → ¬ Stops ts end m k
document_goes_on ts content end m k d (inl h) = token_no_front ts m k h (document_front ts content d)
document_goes_on ts content end m k d (inr h) = h.0.short content d

same_done : (o : Option State) (p q : List PrefixLine) (m n : ℕ) (s t : List ℕ) (a b : Forest) → o ≡ Some (Done p m s a) → o ≡ Some (Done q n t b) → (p ≡ q) × (m ≡ n) × (a ≡ b)
same_done o p q m n s t a b h k = (cc, cc, cc)

content_is : (p q : List PrefixLine) (r s : Forest) → p ≡ q → r ≡ s → ◌≡◌ {A = Content} (record { prefixes = p; root = r }) (record { prefixes = q; root = s })
content_is p q r s e f = ap (λ (z : List PrefixLine). let it : Content = record { prefixes = z; root = r } in it) e ∙ ap (λ (z : Forest). let it : Content = record { prefixes = q; root = z } in it) f

pub document_one : (ts : List Token) (c d : Content) → SpellsDocument ts c → SpellsDocument ts d → c ≡ d
document_one ts c d h k =
    let a = accepts ts c h in
    let b = accepts ts d k in
    let same = same_done (runs (Some (Lines [])) ts) c.prefixes d.prefixes a.0 b.0 (codes "Ontology") (codes "Ontology") a.1 b.1 a.2 b.2 in
    content_is c.prefixes d.prefixes c.root d.root same.0
    (a.3 ∙ ap (λ (n : ℕ). word none n (codes "Ontology") a.1) same.1 ∙ ap (λ (f : Forest). word none b.0 (codes "Ontology") f) same.2 ∙ sym b.3)

same_place : (p q : ℕ) → (p < q → ⊥) → (q < p → ⊥) → p ≡ q
same_place p q n m = omega (arith, n, m)

no_text_one : (bytes : List ℕ) (m n : ℕ) (k l : ReadKind) → IsNoText bytes m k → IsNoText bytes n l → IsSame m n k l
no_text_one bytes m n k l h j =
    let same = same_place h.place j.place (λ x. h.valid.longest j.place x j.valid.front) (λ x. j.valid.longest h.place x h.valid.front) in
    (h.line_is ∙ ap (λ (p : ℕ). 1 + count_by (λ b. b == 10) (take p bytes)) same ∙ sym j.line_is, h.kind_is ∙ sym j.kind_is)

text_no_text : (bytes : List ℕ) (m : ℕ) (k : ReadKind) → IsUtf8 bytes → ¬ IsNoText bytes m k
text_no_text bytes m k u h = let short = h.valid.short in h.valid.longest (length bytes) short (subst IsUtf8 (sym (take_all (length bytes) bytes (omega arith))) u)

refused_one : (bytes : List ℕ) (m n : ℕ) (k l : ReadKind) → ParsesText bytes (Err (Refused m k)) → ParsesText bytes (Err (Refused n l)) → IsSame m n k l
refused_one bytes m n k l (inl h) (inl j) = bad_token_one bytes m n k l h j
refused_one bytes m n k l (inl h) (inr j) = absurd (lexes_not_bad bytes j.tokens h.tokens h.here k j.lexes h.lexes h.bad)
refused_one bytes m n k l (inr h) (inl j) = absurd (lexes_not_bad bytes h.tokens j.tokens j.here l h.lexes j.lexes j.bad)
refused_one bytes m n k l (inr h) (inr j) =
    stops_one j.tokens (line_of bytes []) m n k l (subst (λ (z : List Token). Stops z (line_of bytes []) m k) (lexes_one bytes h.tokens j.tokens h.lexes j.lexes) h.stops) j.stops

not_both : (bytes : List ℕ) (c : Content) (m : ℕ) (k : ReadKind) → ParsesText bytes (Ok c) → ¬ ParsesText bytes (Err (Refused m k))
not_both bytes c m k (ts, l, d) (inl h) = lexes_not_bad bytes ts h.tokens h.here k l h.lexes h.bad
not_both bytes c m k (ts, l, d) (inr h) = document_goes_on h.tokens c (line_of bytes []) m k (subst (λ (z : List Token). IsDocument z c) (lexes_one bytes ts h.tokens l h.lexes) d) h.stops

content_one : (bytes : List ℕ) (c d : Content) → ParsesText bytes (Ok c) → ParsesText bytes (Ok d) → c ≡ d
content_one bytes c d (ts, l, h) (us, m, k) = document_one us c d (subst (λ (z : List Token). SpellsDocument z c) (lexes_one bytes ts us l m) h.1) k.1

refusal_is : (m n : ℕ) (k l : ReadKind) → IsSame m n k l → ◌≡◌ {A = Result Content ReadRefusal} (Err (Refused m k)) (Err (Refused n l))
refusal_is m n k l (e, f) = ap (λ (z : ℕ). Err (Refused z k)) e ∙ ap (λ (z : ReadKind). Err (Refused n z)) f

pub parses_one : (bytes : List ℕ) (r s : Result Content ReadRefusal) → Parses bytes r → Parses bytes s → (r ≡ Err OutOfMemory → ⊥) → (s ≡ Err OutOfMemory → ⊥) → r ≡ s
parses_one bytes (Ok c) (Ok d) h k x y = ap (λ (z : Content). Ok z) (content_one bytes c d h.1 k.1)
parses_one bytes (Ok c) (Err (Refused n l)) h (inl k) x y = absurd (text_no_text bytes n l h.0 k)
parses_one bytes (Ok c) (Err (Refused n l)) h (inr k) x y = absurd (not_both bytes c n l h.1 k.1)
parses_one bytes (Err (Refused m k)) (Ok d) (inl h) j x y = absurd (text_no_text bytes m k j.0 h)
parses_one bytes (Err (Refused m k)) (Ok d) (inr h) j x y = absurd (not_both bytes d m k j.1 h.1)
parses_one bytes (Err (Refused m k)) (Err (Refused n l)) (inl h) (inl j) x y = refusal_is m n k l (no_text_one bytes m n k l h j)
parses_one bytes (Err (Refused m k)) (Err (Refused n l)) (inl h) (inr j) x y = absurd (text_no_text bytes m k j.0 h)
parses_one bytes (Err (Refused m k)) (Err (Refused n l)) (inr h) (inl j) x y = absurd (text_no_text bytes n l h.0 j)
parses_one bytes (Err (Refused m k)) (Err (Refused n l)) (inr h) (inr j) x y = refusal_is m n k l (refused_one bytes m n k l h.1 j.1)
parses_one bytes (Err OutOfMemory) s h k x y = absurd (x refl)
parses_one bytes r (Err OutOfMemory) h k x y = absurd (y refl)
