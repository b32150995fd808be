-- A text has one answer.
use Rattle.std.proofs.Common.{◌≡◌, ◌+◌, ◌<◌, ◌≤◌, ℕ, List, [], ◌∷◌, length, true, Option, Some, None, Result, Ok, Err, refl, sym, ap, subst, ◌∙◌, inl, inr, arith}
use Rattle.std.specs.Prelude.{◌⊎◌, count_by, ◌==◌, take}
use Rattle.std.specs.List.{flat_map}
use Rattle.std.specs.Str.{IsUtf8}
use Rattle.std.proofs.lemmas.List.{take_all}
use Rattle.dl_base.specs.Ontologies.{Theory}
use Rattle.dl_text.specs.Kinds.{kind_of}
use Rattle.dl_text.specs.Outcomes.{longest_text}
use Rattle.dl_text.specs.declared.escapes.Escapes.TheVariants.{Full}
use Rattle.dl_text.specs.declared.faults.TextFault.{TextFault}
use Rattle.dl_text.specs.declared.faults.TextFault.TheVariants as faults
use Rattle.dl_text.specs.declared.kinds.ReadKind.{ReadKind}
use Rattle.dl_text.specs.declared.refusals.ReadRefusal.{ReadRefusal}
use Rattle.dl_text.specs.declared.refusals.ReadRefusal.TheVariants.{Refused, OutOfMemory}
use Rattle.dl_text.proofs.GoingLaws.{goes_one}
use Rattle.dl_text.proofs.ReadingLaws.{iri_one, string_one}
use Rattle.update_read.specs.declared.reading.ReadUpdate.{ReadUpdate}
use Rattle.update_read.specs.declared.tokens.Token.{Token}
use Rattle.update_read.specs.declared.tokens.Token.TheVariants as tokens
use Rattle.update_read.specs.Shapes.{Shape, Gap, Variable, Blank, Sign, Number, Iri, Text, Tag, Word, Prefixed}
use Rattle.update_read.specs.Tokens.{Lexeme, Gives, HasFault, Stands, Lexes, IsBadAt, line_of, lexemes_at}
use Rattle.update_read.specs.Grammar.{Statement, IsUpdate}
use Rattle.update_read.specs.Meaning.{Means, IsRefusedBy}
use Rattle.update_read.specs.Stopping.{Stops}
use Rattle.update_read.specs.Outcomes.{IsNoText, HasBadToken, IsNoUpdate, Parses, ReadsText, ReadsUpdate}
use Rattle.update_read.proofs.ExactCuts.{cuts_one}
use Rattle.update_read.proofs.ExactStops.{IsSame, update_one, stops_one, update_goes_on}
use Rattle.update_read.proofs.ExactMeaning.{memory, same_kind, ok_is, ok_err, no_memory, means_one, means_not_refused, refused_by_one}

-- ---- tokens
gives_one : (shape : Shape) (t u : Option Token) → Gives shape t → Gives shape u → t ≡ u
gives_one Gap t u h k = h ∙ sym k
gives_one Variable t u h k = h ∙ sym k
gives_one Blank t u h k = h ∙ sym k
gives_one (Sign m) t u h k = h ∙ sym k
gives_one (Number x) t u h k = h.1 ∙ sym k.1
gives_one (Iri i) t u (x, r, e) (y, s, f) = e ∙ ap (λ (z : List ℕ). Some (tokens.Iri z)) (ok_is x y (iri_one true i (Ok x) (Ok y) r s (no_memory x) (no_memory y))) ∙ sym f
gives_one (Text i) t u (x, r, e) (y, s, f) = e ∙ ap (λ (z : List ℕ). Some (tokens.Text z)) (ok_is x y (string_one Full i (Ok x) (Ok y) r s (no_memory x) (no_memory y))) ∙ sym f
gives_one (Tag x) t u h k = h ∙ sym k
gives_one (Word w) t u h k = h ∙ sym k
gives_one (Prefixed p l) t u h k = h ∙ sym k

no_fault : (shape : Shape) (t : Option Token) (kind : ReadKind) → Gives shape t → HasFault shape kind → ⊥
no_fault Gap t kind r h = h
no_fault Variable t kind r h = h
no_fault Blank t kind r h = h
no_fault (Sign m) t kind r h = h
no_fault (Number x) t kind (l, e) (m, f) = omega (arith, l, m)
no_fault (Iri i) t kind (x, r, e) (f, s, g) = ok_err x f (iri_one true i (Ok x) (Err f) r s (no_memory x) (memory f kind g))
no_fault (Text i) t kind (x, r, e) (f, s, g) = ok_err x f (string_one Full i (Ok x) (Err f) r s (no_memory x) (memory f kind g))
no_fault (Tag x) t kind r h = h
no_fault (Word w) t kind r h = h
no_fault (Prefixed p l) t kind r h = h

fault_one : (shape : Shape) (k l : ReadKind) → HasFault shape k → HasFault shape l → k ≡ l
fault_one Gap k l h j = absurd h
fault_one Variable k l h j = absurd h
fault_one Blank k l h j = absurd h
fault_one (Sign m) k l h j = absurd h
fault_one (Number x) k l h j = h.1 ∙ sym j.1
fault_one (Iri i) k l (f, r, e) (g, s, h) = same_kind f g k l e h (iri_one true i (Err f) (Err g) r s (memory f k e) (memory g l h))
fault_one (Text i) k l (f, r, e) (g, s, h) = same_kind f g k l e h (string_one Full i (Err f) (Err g) r s (memory f k e) (memory g l h))
fault_one (Tag x) k l h j = absurd h
fault_one (Word w) k l h j = absurd h
fault_one (Prefixed p x) k l h j = absurd h

stands_one : (bytes s m n : List ℕ) (o p : List Lexeme) → Stands bytes s o m → Stands bytes s p n → (o ≡ p) × (m ≡ n)
stands_one bytes s m n o p h k =
    let same = cuts_one s h.shape k.shape m n h.cuts k.cuts in
    let token = gives_one k.shape h.token k.token (subst (λ (z : Shape). Gives z h.token) same.0 h.gives) k.gives in
    (h.is ∙ ap (lexemes_at (line_of bytes s)) token ∙ sym k.is, same.1)

nothing_stands : (bytes m : List ℕ) (o : List Lexeme) → ¬ Stands bytes [] o m
nothing_stands bytes m o h = h.cuts

bad_is_dead : (bytes here : List ℕ) (kind : ReadKind) → IsBadAt here kind → (m : List ℕ) (o : List Lexeme) → ¬ Stands bytes here o m
bad_is_dead bytes here kind (inl (n, nil, e)) m o h = nil h.shape m h.cuts
bad_is_dead bytes here kind (inr (shape, rest, c, f)) m o h =
    no_fault shape h.token kind (subst (λ (z : Shape). Gives z h.token) (cuts_one here h.shape shape m rest h.cuts c).0 h.gives) f

bad_not_end : (kind : ReadKind) → ¬ IsBadAt [] kind
bad_not_end kind (inl (n, nil, e)) = n refl
bad_not_end kind (inr (shape, rest, c, f)) = c

bad_one : (here : List ℕ) (k l : ReadKind) → IsBadAt here k → IsBadAt here l → k ≡ l
bad_one here k l (inl (n, nil, e)) (inl (m, nil', f)) = e ∙ sym f
bad_one here k l (inl (n, nil, e)) (inr (shape, rest, c, f)) = absurd (nil shape rest c)
bad_one here k l (inr (shape, rest, c, f)) (inl (n, nil, e)) = absurd (nil shape rest c)
bad_one here k l (inr (x, m, c, f)) (inr (y, n, d, g)) = fault_one y k l (subst (λ (z : Shape). HasFault z k) (cuts_one here x y m n c d).0 f) g

lexes_one : (bytes : List ℕ) (ts us : List Lexeme) → Lexes bytes ts [] → Lexes bytes us [] → ts ≡ us
lexes_one bytes ts us h k =
    h.is ∙ ap (λ (ps : List (List Lexeme)). flat_map (λ (piece : List Lexeme). piece) ps) (goes_one (Stands bytes) (stands_one bytes) bytes [] [] h.pieces k.pieces h.goes k.goes (nothing_stands bytes) (nothing_stands bytes)).0 ∙ sym k.is

lexes_not_bad : (bytes : List ℕ) (ts us : List Lexeme) (here : List ℕ) (kind : ReadKind) → Lexes bytes ts [] → Lexes bytes us here → IsBadAt here kind → ⊥
lexes_not_bad bytes ts us here kind h k b =
    let one = goes_one (Stands bytes) (stands_one bytes) bytes [] here h.pieces k.pieces h.goes k.goes (nothing_stands bytes) (bad_is_dead bytes here kind b) in
    bad_not_end kind (subst (λ (z : List ℕ). IsBadAt z kind) (sym one.1) b)

bad_token_one : (bytes : List ℕ) (m n : ℕ) (k l : ReadKind) → HasBadToken bytes m k → HasBadToken bytes n l → IsSame m n k l
bad_token_one bytes m n k l h j =
    let one = goes_one (Stands bytes) (stands_one bytes) bytes h.here j.here h.lexes.pieces j.lexes.pieces h.lexes.goes j.lexes.goes (bad_is_dead bytes h.here k h.bad) (bad_is_dead bytes j.here l j.bad) in
    (h.line_is ∙ ap (line_of bytes) one.1 ∙ sym j.line_is, bad_one j.here k l (subst (λ (z : List ℕ). IsBadAt z k) one.1 h.bad) j.bad)

-- ---- bytes
same_place : (p q : ℕ) → (p < q → ⊥) → (q < p → ⊥) → p ≡ q
same_place p q n m = omega (arith, n, m)

no_text_one : (bytes : List ℕ) (m n : ℕ) (k l : ReadKind) → IsNoText bytes m k → IsNoText bytes n l → IsSame m n k l
no_text_one bytes m n k l h j =
    let same = same_place h.place j.place (λ x. h.valid.longest j.place x j.valid.front) (λ x. j.valid.longest h.place x h.valid.front) in
    (h.line_is ∙ ap (λ (p : ℕ). 1 + count_by (λ b. b == 10) (take p bytes)) same ∙ sym j.line_is, h.kind_is ∙ sym j.kind_is)

text_no_text : (bytes : List ℕ) (m : ℕ) (k : ReadKind) → IsUtf8 bytes → ¬ IsNoText bytes m k
text_no_text bytes m k u h = let short = h.valid.short in h.valid.longest (length bytes) short (subst IsUtf8 (sym (take_all (length bytes) bytes (omega arith))) u)

-- ---- all passes
module _ (theory : Theory) (bytes : List ℕ) where
  parses_one : (o p : List Statement) → Parses bytes o → Parses bytes p → o ≡ p
  parses_one o p h k = update_one k.tokens o p (subst (λ (z : List Lexeme). IsUpdate [] z o) (lexes_one bytes h.tokens k.tokens h.lexes k.lexes) h.is_update) k.is_update

  parses_not_bad : (o : List Statement) (m : ℕ) (k : ReadKind) → Parses bytes o → ¬ HasBadToken bytes m k
  parses_not_bad o m k h j = lexes_not_bad bytes h.tokens j.tokens j.here k h.lexes j.lexes j.bad

  parses_goes_on : (o : List Statement) (m : ℕ) (k : ReadKind) → Parses bytes o → ¬ IsNoUpdate bytes m k
  parses_goes_on o m k h j =
      update_goes_on j.tokens o (line_of bytes []) m k (subst (λ (z : List Lexeme). IsUpdate [] z o) (lexes_one bytes h.tokens j.tokens h.lexes j.lexes) h.is_update) j.stops

  refused_one : (m n : ℕ) (k l : ReadKind) → ReadsText theory bytes (Err (Refused m k)) → ReadsText theory bytes (Err (Refused n l)) → IsSame m n k l
  refused_one m n k l (inl h) (inl j) = bad_token_one bytes m n k l h j
  refused_one m n k l (inl h) (inr (inl j)) = absurd (lexes_not_bad bytes j.tokens h.tokens h.here k j.lexes h.lexes h.bad)
  refused_one m n k l (inl h) (inr (inr (o, p, j))) = absurd (parses_not_bad o m k p h)
  refused_one m n k l (inr (inl h)) (inl j) = absurd (lexes_not_bad bytes h.tokens j.tokens j.here l h.lexes j.lexes j.bad)
  refused_one m n k l (inr (inl h)) (inr (inl j)) =
      stops_one j.tokens (line_of bytes []) m n k l (subst (λ (z : List Lexeme). Stops z (line_of bytes []) m k) (lexes_one bytes h.tokens j.tokens h.lexes j.lexes) h.stops) j.stops
  refused_one m n k l (inr (inl h)) (inr (inr (o, p, j))) = absurd (parses_goes_on o m k p h)
  refused_one m n k l (inr (inr (o, p, j))) (inl h) = absurd (parses_not_bad o n l p h)
  refused_one m n k l (inr (inr (o, p, j))) (inr (inl h)) = absurd (parses_goes_on o n l p h)
  refused_one m n k l (inr (inr (o, p, h))) (inr (inr (q, r, j))) =
      refused_by_one theory q m n k l (subst (λ (z : List Statement). IsRefusedBy theory z m k) (parses_one o q p r) h) j

  not_both : (u : ReadUpdate) (m : ℕ) (k : ReadKind) → ReadsText theory bytes (Ok u) → ¬ ReadsText theory bytes (Err (Refused m k))
  not_both u m k (o, p, h) (inl j) = parses_not_bad o m k p j
  not_both u m k (o, p, h) (inr (inl j)) = parses_goes_on o m k p j
  not_both u m k (o, p, h) (inr (inr (q, r, j))) = means_not_refused theory q u m k (subst (λ (z : List Statement). Means theory z u) (parses_one o q p r) h) j

  text_one : (u v : ReadUpdate) → ReadsText theory bytes (Ok u) → ReadsText theory bytes (Ok v) → u ≡ v
  text_one u v (o, p, h) (q, r, j) = means_one theory q u v (subst (λ (z : List Statement). Means theory z u) (parses_one o q p r) h) j

  refusal_is : (m n : ℕ) (k l : ReadKind) → IsSame m n k l → ◌≡◌ {A = Result ReadUpdate ReadRefusal} (Err (Refused m k)) (Err (Refused n l))
  refusal_is m n k l (e, f) = ap (λ (z : ℕ). Err (Refused z k)) e ∙ ap (λ (z : ReadKind). Err (Refused n z)) f

  pub reads_one : (r s : Result ReadUpdate ReadRefusal) → ReadsUpdate theory bytes r → ReadsUpdate theory bytes s → (r ≡ Err OutOfMemory → ⊥) → (s ≡ Err OutOfMemory → ⊥) → r ≡ s
  reads_one (Ok u) (Ok v) h k x y = ap (λ (z : ReadUpdate). Ok z) (text_one u v h.1 k.1)
  reads_one (Ok u) (Err (Refused n l)) h (inl k) x y = absurd (text_no_text bytes n l h.0 k)
  reads_one (Ok u) (Err (Refused n l)) h (inr k) x y = absurd (not_both u n l h.1 k.1)
  reads_one (Err (Refused m k)) (Ok v) (inl h) j x y = absurd (text_no_text bytes m k j.0 h)
  reads_one (Err (Refused m k)) (Ok v) (inr h) j x y = absurd (not_both v m k j.1 h.1)
  reads_one (Err (Refused m k)) (Err (Refused n l)) (inl h) (inl j) x y = refusal_is m n k l (no_text_one bytes m n k l h j)
  reads_one (Err (Refused m k)) (Err (Refused n l)) (inl h) (inr j) x y = absurd (text_no_text bytes m k j.0 h)
  reads_one (Err (Refused m k)) (Err (Refused n l)) (inr h) (inl j) x y = absurd (text_no_text bytes n l h.0 j)
  reads_one (Err (Refused m k)) (Err (Refused n l)) (inr h) (inr j) x y = refusal_is m n k l (refused_one m n k l h.1 j.1)
  reads_one (Err OutOfMemory) s h k x y = absurd (x refl)
  reads_one r (Err OutOfMemory) h k x y = absurd (y refl)
