-- A line is cut in one way, and a piece has one meaning or one fault.
use Rattle.std.proofs.Common.{◌≡◌, ◌≢◌, ℕ, List, [], ◌∷◌, ◌++◌, Some, Result, Ok, Err, true, refl, sym, ap, subst, ◌∙◌, inl, inr, arith}
use Rattle.std.specs.Prelude.{All}
use Rattle.std.proofs.lemmas.List.Elements.{All-head, All-tail}
use Rattle.std.proofs.lemmas.Option.{same_Some, none-some}
use Rattle.std.specs.List.{flat_map}
use Rattle.dl_text.specs.declared.escapes.Escapes.TheVariants as escapes
use Rattle.dl_text.specs.declared.faults.TextFault.{TextFault}
use Rattle.dl_text.specs.declared.faults.TextFault.TheVariants as texts
use Rattle.dl_text.specs.declared.kinds.ReadKind.{ReadKind}
use Rattle.dl_text.specs.Kinds.{kind_of}
use Rattle.dl_text.proofs.GoingLaws.{goes_one}
use Rattle.dl_text.proofs.ReadingLaws.{iri_one, string_one}
use Rattle.dl_runs.specs.Classes.{IsLongest, IsTag, IsLabel}
use Rattle.dl_runs.proofs.NameLaws.{tail_is}
use Rattle.dl_runs.proofs.ExactLaws.{longest_one, quoted_one}
use Rattle.ntriples.specs.declared.tokens.Token.{Token}
use Rattle.ntriples.specs.declared.tokens.Token.TheVariants as tokens
use Rattle.ntriples.specs.Cutting.{Shape, Gap, Dot, Hats, IriOf, TextOf, TagOf, NodeOf, CutsAt, Cuts}
use Rattle.ntriples.specs.Tokens.{Gives, HasFault, Stands, Lexes, IsBadAt}
use Rattle.ntriples.proofs.CuttingLaws.{not_gap}

front_one : (b : ℕ) (xs ys m n : List ℕ) → xs ++ b ∷ m ≡ ys ++ b ∷ n → All (λ c. c ≢ b) xs → All (λ c. c ≢ b) ys → (xs ≡ ys) × (m ≡ n)
front_one b [] [] m n e p q = (refl, cc)
front_one b [] (y ∷ ys) m n e p q = let same : y ≡ b = cc in absurd (All-head (λ c. c ≢ b) y ys q same)
front_one b (x ∷ xs) [] m n e p q = let same : x ≡ b = cc in absurd (All-head (λ c. c ≢ b) x xs p same)
front_one b (x ∷ xs) (y ∷ ys) m n e p q =
    let on = front_one b xs ys m n (cc) (All-tail (λ c. c ≢ b) x xs p) (All-tail (λ c. c ≢ b) y ys q) in
    let same : x ≡ y = cc in
    (ap (λ (z : ℕ). z ∷ xs) same ∙ ap (λ (zs : List ℕ). y ∷ zs) on.0, on.1)

gap_one : (b : ℕ) (bs m n : List ℕ) → CutsAt b bs Gap m → CutsAt b bs Gap n → m ≡ n
gap_one b bs m n (inl (k, e)) (inl (l, f)) = e ∙ sym f
gap_one b bs m n (inl (inl k, e)) (inr (l, f)) = absurd (omega (arith, k, l))
gap_one b bs m n (inl (inr k, e)) (inr (l, f)) = absurd (omega (arith, k, l))
gap_one b bs m n (inr (k, e)) (inl (inl l, f)) = absurd (omega (arith, k, l))
gap_one b bs m n (inr (k, e)) (inl (inr l, f)) = absurd (omega (arith, k, l))
gap_one b bs m n (inr (k, e)) (inr (l, f)) = e ∙ sym f

node_one : (bs v w m n : List ℕ) → ((after : List ℕ) × (bs ≡ 58 ∷ after) × IsLongest IsLabel after v m) → ((after : List ℕ) × (bs ≡ 58 ∷ after) × IsLongest IsLabel after w n) → (v ≡ w) × (m ≡ n)
node_one bs v w m n (after, e, h) (behind, f, k) =
    longest_one IsLabel behind v w m n (subst (λ (zs : List ℕ). IsLongest IsLabel zs v m) (tail_is 58 58 after behind (sym e ∙ f)) h) k

pub cuts_at_one : (b : ℕ) (bs : List ℕ) (s t : Shape) (m n : List ℕ) → CutsAt b bs s m → CutsAt b bs t n → (s ≡ t) × (m ≡ n)
cuts_at_one b bs Gap Gap m n h k = (refl, gap_one b bs m n h k)
cuts_at_one b bs Gap Dot m n h k = absurd (not_gap b bs m (λ e. omega (arith, k.0, e)) (λ e. omega (arith, k.0, e)) (λ e. omega (arith, k.0, e)) h)
cuts_at_one b bs Gap Hats m n h k = absurd (not_gap b bs m (λ e. omega (arith, k.0, e)) (λ e. omega (arith, k.0, e)) (λ e. omega (arith, k.0, e)) h)
cuts_at_one b bs Gap (NodeOf j) m n h k = absurd (not_gap b bs m (λ e. omega (arith, k.0, e)) (λ e. omega (arith, k.0, e)) (λ e. omega (arith, k.0, e)) h)
cuts_at_one b bs Gap (IriOf j) m n h k = absurd (not_gap b bs m (λ e. omega (arith, k.0, e)) (λ e. omega (arith, k.0, e)) (λ e. omega (arith, k.0, e)) h)
cuts_at_one b bs Gap (TextOf j) m n h k = absurd (not_gap b bs m (λ e. omega (arith, k.0, e)) (λ e. omega (arith, k.0, e)) (λ e. omega (arith, k.0, e)) h)
cuts_at_one b bs Gap (TagOf j) m n h k = absurd (not_gap b bs m (λ e. omega (arith, k.0, e)) (λ e. omega (arith, k.0, e)) (λ e. omega (arith, k.0, e)) h)
cuts_at_one b bs Dot Gap m n h k = absurd (not_gap b bs n (λ e. omega (arith, h.0, e)) (λ e. omega (arith, h.0, e)) (λ e. omega (arith, h.0, e)) k)
cuts_at_one b bs Dot Dot m n h k = (refl, h.1 ∙ sym k.1)
cuts_at_one b bs Dot Hats m n h k = absurd (omega (arith, h.0, k.0))
cuts_at_one b bs Dot (NodeOf j) m n h k = absurd (omega (arith, h.0, k.0))
cuts_at_one b bs Dot (IriOf j) m n h k = absurd (omega (arith, h.0, k.0))
cuts_at_one b bs Dot (TextOf j) m n h k = absurd (omega (arith, h.0, k.0))
cuts_at_one b bs Dot (TagOf j) m n h k = absurd (omega (arith, h.0, k.0))
cuts_at_one b bs Hats Gap m n h k = absurd (not_gap b bs n (λ e. omega (arith, h.0, e)) (λ e. omega (arith, h.0, e)) (λ e. omega (arith, h.0, e)) k)
cuts_at_one b bs Hats Dot m n h k = absurd (omega (arith, h.0, k.0))
cuts_at_one b bs Hats Hats m n h k = (refl, tail_is 94 94 m n (sym h.1 ∙ k.1))
cuts_at_one b bs Hats (NodeOf j) m n h k = absurd (omega (arith, h.0, k.0))
cuts_at_one b bs Hats (IriOf j) m n h k = absurd (omega (arith, h.0, k.0))
cuts_at_one b bs Hats (TextOf j) m n h k = absurd (omega (arith, h.0, k.0))
cuts_at_one b bs Hats (TagOf j) m n h k = absurd (omega (arith, h.0, k.0))
cuts_at_one b bs (NodeOf i) Gap m n h k = absurd (not_gap b bs n (λ e. omega (arith, h.0, e)) (λ e. omega (arith, h.0, e)) (λ e. omega (arith, h.0, e)) k)
cuts_at_one b bs (NodeOf i) Dot m n h k = absurd (omega (arith, h.0, k.0))
cuts_at_one b bs (NodeOf i) Hats m n h k = absurd (omega (arith, h.0, k.0))
cuts_at_one b bs (NodeOf i) (NodeOf j) m n h k = let one = node_one bs i j m n h.1 k.1 in (ap NodeOf one.0, one.1)
cuts_at_one b bs (NodeOf i) (IriOf j) m n h k = absurd (omega (arith, h.0, k.0))
cuts_at_one b bs (NodeOf i) (TextOf j) m n h k = absurd (omega (arith, h.0, k.0))
cuts_at_one b bs (NodeOf i) (TagOf j) m n h k = absurd (omega (arith, h.0, k.0))
cuts_at_one b bs (IriOf i) Gap m n h k = absurd (not_gap b bs n (λ e. omega (arith, h.0, e)) (λ e. omega (arith, h.0, e)) (λ e. omega (arith, h.0, e)) k)
cuts_at_one b bs (IriOf i) Dot m n h k = absurd (omega (arith, h.0, k.0))
cuts_at_one b bs (IriOf i) Hats m n h k = absurd (omega (arith, h.0, k.0))
cuts_at_one b bs (IriOf i) (NodeOf j) m n h k = absurd (omega (arith, h.0, k.0))
cuts_at_one b bs (IriOf i) (IriOf j) m n h k = let one = front_one 62 i j m n (sym h.1 ∙ k.1) h.2 k.2 in (ap IriOf one.0, one.1)
cuts_at_one b bs (IriOf i) (TextOf j) m n h k = absurd (omega (arith, h.0, k.0))
cuts_at_one b bs (IriOf i) (TagOf j) m n h k = absurd (omega (arith, h.0, k.0))
cuts_at_one b bs (TextOf i) Gap m n h k = absurd (not_gap b bs n (λ e. omega (arith, h.0, e)) (λ e. omega (arith, h.0, e)) (λ e. omega (arith, h.0, e)) k)
cuts_at_one b bs (TextOf i) Dot m n h k = absurd (omega (arith, h.0, k.0))
cuts_at_one b bs (TextOf i) Hats m n h k = absurd (omega (arith, h.0, k.0))
cuts_at_one b bs (TextOf i) (NodeOf j) m n h k = absurd (omega (arith, h.0, k.0))
cuts_at_one b bs (TextOf i) (IriOf j) m n h k = absurd (omega (arith, h.0, k.0))
cuts_at_one b bs (TextOf i) (TextOf j) m n h k = let one = quoted_one bs i j m n h.1 k.1 in (ap TextOf one.0, one.1)
cuts_at_one b bs (TextOf i) (TagOf j) m n h k = absurd (omega (arith, h.0, k.0))
cuts_at_one b bs (TagOf i) Gap m n h k = absurd (not_gap b bs n (λ e. omega (arith, h.0, e)) (λ e. omega (arith, h.0, e)) (λ e. omega (arith, h.0, e)) k)
cuts_at_one b bs (TagOf i) Dot m n h k = absurd (omega (arith, h.0, k.0))
cuts_at_one b bs (TagOf i) Hats m n h k = absurd (omega (arith, h.0, k.0))
cuts_at_one b bs (TagOf i) (NodeOf j) m n h k = absurd (omega (arith, h.0, k.0))
cuts_at_one b bs (TagOf i) (IriOf j) m n h k = absurd (omega (arith, h.0, k.0))
cuts_at_one b bs (TagOf i) (TextOf j) m n h k = absurd (omega (arith, h.0, k.0))
cuts_at_one b bs (TagOf i) (TagOf j) m n h k = let one = longest_one IsTag bs i j m n h.1 k.1 in (ap TagOf one.0, one.1)

pub cuts_one : (line : List ℕ) (s t : Shape) (m n : List ℕ) → Cuts line s m → Cuts line t n → (s ≡ t) × (m ≡ n)
cuts_one [] s t m n h k = absurd h
cuts_one (b ∷ bs) s t m n h k = cuts_at_one b bs s t m n h k

same_ok : (a b : List ℕ) → ◌≡◌ {A = Result (List ℕ) TextFault} (Ok a) (Ok b) → a ≡ b
same_ok a b e = cc

memory : (f : TextFault) (kind : ReadKind) → kind_of f ≡ Some kind → ◌≡◌ {A = Result (List ℕ) TextFault} (Err f) (Err texts.OutOfMemory) → ⊥
memory f kind e m = let is : f ≡ texts.OutOfMemory = cc in none-some kind (ap kind_of (sym is) ∙ e)

pub gives_one : (shape : Shape) (o p : List Token) → Gives shape o → Gives shape p → o ≡ p
gives_one Gap o p h k = h ∙ sym k
gives_one Dot o p h k = h ∙ sym k
gives_one Hats o p h k = h ∙ sym k
gives_one (NodeOf i) o p h k = h ∙ sym k
gives_one (TagOf i) o p h k = h ∙ sym k
gives_one (IriOf i) o p (a, r, e) (b, s, f) = e ∙ ap (λ (n : List ℕ). tokens.Iri n ∷ []) (same_ok a b (iri_one true i (Ok a) (Ok b) r s (λ z. cc) (λ z. cc))) ∙ sym f
gives_one (TextOf i) o p (a, r, e) (b, s, f) = e ∙ ap (λ (n : List ℕ). tokens.Text n ∷ []) (same_ok a b (string_one escapes.Full i (Ok a) (Ok b) r s (λ z. cc) (λ z. cc))) ∙ sym f

pub no_fault : (shape : Shape) (o : List Token) (kind : ReadKind) → Gives shape o → HasFault shape kind → ⊥
no_fault Gap o kind h k = k
no_fault Dot o kind h k = k
no_fault Hats o kind h k = k
no_fault (NodeOf i) o kind h k = k
no_fault (TagOf i) o kind h k = k
no_fault (IriOf i) o kind (a, r, e) (f, s, g) = let same = iri_one true i (Ok a) (Err f) r s (λ z. cc) (memory f kind g) in cc
no_fault (TextOf i) o kind (a, r, e) (f, s, g) = let same = string_one escapes.Full i (Ok a) (Err f) r s (λ z. cc) (memory f kind g) in cc

same_kind : (f g : TextFault) (k l : ReadKind) → kind_of f ≡ Some k → kind_of g ≡ Some l → ◌≡◌ {A = Result (List ℕ) TextFault} (Err f) (Err g) → k ≡ l
same_kind f g k l e h m = let is : f ≡ g = cc in same_Some k l (sym e ∙ ap kind_of is ∙ h)

pub fault_one : (shape : Shape) (k l : ReadKind) → HasFault shape k → HasFault shape l → k ≡ l
fault_one Gap k l h j = absurd h
fault_one Dot k l h j = absurd h
fault_one Hats k l h j = absurd h
fault_one (NodeOf i) k l h j = absurd h
fault_one (TagOf i) k l h j = absurd h
fault_one (IriOf i) k l (f, r, e) (g, s, h) = same_kind f g k l e h (iri_one true i (Err f) (Err g) r s (memory f k e) (memory g l h))
fault_one (TextOf i) k l (f, r, e) (g, s, h) = same_kind f g k l e h (string_one escapes.Full i (Err f) (Err g) r s (memory f k e) (memory g l h))

pub stands_one : (s m n : List ℕ) (o p : List Token) → Stands s o m → Stands s p n → (o ≡ p) × (m ≡ n)
stands_one s m n o p (x, c, g) (y, d, h) =
    let same = cuts_one s x y m n c d in
    (gives_one y o p (subst (λ (z : Shape). Gives z o) same.0 g) h, same.1)

pub nothing_stands : (m : List ℕ) (o : List Token) → ¬ Stands [] o m
nothing_stands m o (shape, c, g) = c

-- behind a bad place nothing goes on
pub bad_is_dead : (here : List ℕ) (kind : ReadKind) → IsBadAt here kind → (m : List ℕ) (o : List Token) → ¬ Stands here o m
bad_is_dead here kind (inl (n, none, e)) m o (shape, c, g) = none shape m c
bad_is_dead here kind (inr (shape, rest, c, f)) m o (other, d, g) =
    no_fault shape o kind (subst (λ (z : Shape). Gives z o) (sym (cuts_one here shape other rest m c d).0) g) f

bad_not_end : (kind : ReadKind) → ¬ IsBadAt [] kind
bad_not_end kind (inl (n, none, e)) = n refl
bad_not_end kind (inr (shape, rest, c, f)) = c

bad_one : (here : List ℕ) (k l : ReadKind) → IsBadAt here k → IsBadAt here l → k ≡ l
bad_one here k l (inl (n, none, e)) (inl (m, nil, f)) = e ∙ sym f
bad_one here k l (inl (n, none, e)) (inr (shape, rest, c, f)) = absurd (none shape rest c)
bad_one here k l (inr (shape, rest, c, f)) (inl (n, none, e)) = absurd (none shape rest c)
bad_one here k l (inr (x, m, c, f)) (inr (y, n, d, g)) = fault_one y k l (subst (λ (z : Shape). HasFault z k) (cuts_one here x y m n c d).0 f) g

pub lexes_one : (line : List ℕ) (ts us : List Token) → Lexes line ts [] → Lexes line us [] → ts ≡ us
lexes_one line ts us h k =
    h.is ∙ ap (λ (ps : List (List Token)). flat_map (λ (piece : List Token). piece) ps) (goes_one Stands stands_one line [] [] h.pieces k.pieces h.goes k.goes nothing_stands nothing_stands).0 ∙ sym k.is

pub lexes_not_bad : (line : List ℕ) (ts us : List Token) (here : List ℕ) (kind : ReadKind) → Lexes line ts [] → Lexes line us here → IsBadAt here kind → ⊥
lexes_not_bad line ts us here kind h k b =
    let one = goes_one Stands stands_one line [] here h.pieces k.pieces h.goes k.goes nothing_stands (bad_is_dead here kind b) in
    bad_not_end kind (subst (λ (z : List ℕ). IsBadAt z kind) (sym one.1) b)

pub bad_place_one : (line : List ℕ) (ts us : List Token) (here there : List ℕ) (k l : ReadKind) → Lexes line ts here → IsBadAt here k → Lexes line us there → IsBadAt there l → k ≡ l
bad_place_one line ts us here there k l h b j c =
    let one = goes_one Stands stands_one line here there h.pieces j.pieces h.goes j.goes (bad_is_dead here k b) (bad_is_dead there l c) in
    bad_one there k l (subst (λ (z : List ℕ). IsBadAt z k) one.1 b) c
