-- A text is cut in one way.
use Rattle.std.proofs.Common.{◌≡◌, ◌≢◌, ◌<◌, ℕ, List, [], ◌∷◌, ◌++◌, Bool, true, false, refl, sym, ap, subst, ◌∙◌, arith, inl, inr}
use Rattle.std.specs.Prelude.{All, if◌then◌else◌, ◌==◌, ◌||◌}
use Rattle.std.specs.Char.{is_ascii_digit}
use Rattle.std.specs.Str.{encode_utf8_all}
use Rattle.std.proofs.lemmas.Bool.Decides.{nat_tests}
use Rattle.std.proofs.lemmas.List.Elements.{All-head}
use Rattle.std.proofs.lemmas.Str.{encode_ascii}
use Rattle.dl_runs.specs.declared.runs.Class.TheVariants as classes
use Rattle.dl_runs.specs.Classes.{is_of, IsOf, IsSome, IsLongest, IsBlank, IsTag}
use Rattle.dl_runs.proofs.ExactLaws.{longest_one, front_one, comment_one, quoted_one, prefix_one}
use Rattle.dl_runs.proofs.NameLaws.{prefix_characters, tail_is}
use Rattle.owl_syntax.specs.Cutting.{IsLocal, IsPrefixed, CutsAt, Cuts}
use Rattle.owl_syntax.specs.Shapes.{Shape, Gap, Open, Close, Equals, Hats, Tag, Word, Iri, Prefixed, Blank, Digits, Text}
use Rattle.owl_syntax.proofs.PieceLaws.{no_some, no_prefixed, first_is, digit_small, not_blank}

prefixed_one : (raw p q k l m n : List ℕ) → IsPrefixed raw p k m → IsPrefixed raw q l n → (p ≡ q) × (k ≡ l) × (m ≡ n)
prefixed_one raw p q k l m n h j =
    let one = prefix_one raw p q h.after j.after h.is j.is (prefix_characters p h.is_prefix) (prefix_characters q j.is_prefix) in
    let local = longest_one IsLocal j.after k l m n (subst (λ (z : List ℕ). IsLongest IsLocal z k m) one.1 h.is_local) j.is_local in
    (one.0, local.0, local.1)

-- which pieces may begin with a byte
unfoldable pub group : ℕ → ℕ
group b =
    if b == 40 then 1 else if b == 41 then 2 else if b == 61 then 3 else if b == 94 then 4 else if b == 64 then 5 else if b == 60 then 6 else if b == 34 then 7 else if b == 95 then 8
    else if is_ascii_digit b then 9 else if b == 32 || b == 9 || b == 10 || b == 13 || b == 35 then 0 else 10

abbrev pub group_of : Shape → ℕ
group_of Gap = 0
group_of Open = 1
group_of Close = 2
group_of Equals = 3
group_of Hats = 4
group_of (Tag t) = 5
group_of (Iri t) = 6
group_of (Text t) = 7
group_of (Blank t) = 8
group_of (Digits t) = 9
group_of (Prefixed p l) = 10
group_of (Word t) = 10

gap_group : (b : ℕ) → IsBlank b → group b ≡ 0
unfolding group
gap_group b (inl e) = ap group e
gap_group b (inr (inl e)) = ap group e
gap_group b (inr (inr (inl e))) = ap group e
gap_group b (inr (inr (inr e))) = ap group e

digit_group : (b : ℕ) → is_ascii_digit b ≡ true → group b ≡ 9
unfolding group
digit_group b e = grind (arith, nat_tests)

other_group : (b : ℕ) → b ≢ 32 → b ≢ 9 → b ≢ 10 → b ≢ 13 → b ≢ 35 → b ≢ 40 → b ≢ 41 → b ≢ 61 → b ≢ 94 → b ≢ 64 → b ≢ 60 → b ≢ 34 → b ≢ 95 → is_ascii_digit b ≡ false → group b ≡ 10
unfolding group
other_group b a c d e f g h i j k l m n o = grind (arith, nat_tests)

digit_no_letter : (b : ℕ) → is_ascii_digit b ≡ true → is_of classes.Letter b ≡ false
digit_no_letter b e = grind (arith, nat_tests)

is_digit : (b : Bool) → (b ≡ true → ⊥) → b ≡ false
is_digit true n = absurd (n refl)
is_digit false n = refl

word_group : (b : ℕ) (bs t rest : List ℕ) → IsLongest (IsSome classes.Letter) (b ∷ bs) t rest → group b ≡ 10
word_group b bs t rest h =
    let no = λ (k : ℕ) (l : k < 128) (f : is_of classes.Letter k ≡ false) (e : b ≡ k). no_some classes.Letter b bs t rest (subst (λ (z : ℕ). z < 128) (sym e) l) (ap (is_of classes.Letter) e ∙ f) h in
    other_group b (no 32 (omega arith) refl) (no 9 (omega arith) refl) (no 10 (omega arith) refl) (no 13 (omega arith) refl) (no 35 (omega arith) refl) (no 40 (omega arith) refl) (no 41 (omega arith) refl)
    (no 61 (omega arith) refl) (no 94 (omega arith) refl) (no 64 (omega arith) refl) (no 60 (omega arith) refl) (no 34 (omega arith) refl) (no 95 (omega arith) refl)
    (is_digit (is_ascii_digit b) (λ e. no_some classes.Letter b bs t rest (digit_small b e) (digit_no_letter b e) h))

digit_no_base : (b : ℕ) → is_ascii_digit b ≡ true → is_of classes.Base b ≡ false
digit_no_base b e = grind (arith, nat_tests)

digit_no_colon : (b : ℕ) → is_ascii_digit b ≡ true → b ≢ 58
digit_no_colon b e k = let f : is_ascii_digit 58 ≡ true = ap is_ascii_digit (sym k) ∙ e in cc

prefixed_group : (b : ℕ) (bs p l rest : List ℕ) → IsPrefixed (b ∷ bs) p l rest → group b ≡ 10
prefixed_group b bs p l rest h =
    let no = λ (k : ℕ) (s : k < 128) (c : k ≢ 58) (f : is_of classes.Base k ≡ false) (e : b ≡ k).
    no_prefixed b bs p l rest (subst (λ (z : ℕ). z < 128) (sym e) s) (λ x. c (sym e ∙ x)) (ap (is_of classes.Base) e ∙ f) h in
    other_group b (no 32 (omega arith) (λ e. omega (arith, e)) refl) (no 9 (omega arith) (λ e. omega (arith, e)) refl) (no 10 (omega arith) (λ e. omega (arith, e)) refl) (no 13 (omega arith) (λ e. omega (arith, e)) refl)
    (no 35 (omega arith) (λ e. omega (arith, e)) refl) (no 40 (omega arith) (λ e. omega (arith, e)) refl) (no 41 (omega arith) (λ e. omega (arith, e)) refl) (no 61 (omega arith) (λ e. omega (arith, e)) refl)
    (no 94 (omega arith) (λ e. omega (arith, e)) refl) (no 64 (omega arith) (λ e. omega (arith, e)) refl) (no 60 (omega arith) (λ e. omega (arith, e)) refl) (no 34 (omega arith) (λ e. omega (arith, e)) refl)
    (no 95 (omega arith) (λ e. omega (arith, e)) refl)
    (is_digit (is_ascii_digit b) (λ e. no_prefixed b bs p l rest (digit_small b e) (digit_no_colon b e) (digit_no_base b e) h))

digits_group : (b : ℕ) (bs t rest : List ℕ) → IsLongest (IsSome classes.Digit) (b ∷ bs) t rest → group b ≡ 9
digits_group b bs t rest h = on h.such.1.0 h.such.1.1 h.such.1.2
  where
    on : (cs : List ℕ) → t ≡ encode_utf8_all cs → All (IsOf classes.Digit) cs → group b ≡ 9
    on [] e a = absurd (h.such.0 e)
    on (c ∷ cs) e a =
        let d = (All-head (IsOf classes.Digit) c cs a).1 in
        let same : b ≡ c = first_is b c bs (encode_utf8_all cs ++ rest) (h.is ∙ ap (λ (z : List ℕ). z ++ rest) e ∙ ap (λ (z : List ℕ). (z ++ encode_utf8_all cs) ++ rest) (encode_ascii c (digit_small c d))) in
        digit_group b (ap is_ascii_digit same ∙ d)

grouped : (b : ℕ) (bs : List ℕ) (s : Shape) (rest : List ℕ) → CutsAt b bs s rest → group b ≡ group_of s
unfolding group
grouped b bs Gap rest (inl (k, e)) = gap_group b k
grouped b bs Gap rest (inr (k, e)) = ap group k
grouped b bs Open rest h = ap group h.0
grouped b bs Close rest h = ap group h.0
grouped b bs Equals rest h = ap group h.0
grouped b bs Hats rest h = ap group h.0
grouped b bs (Tag t) rest h = ap group h.0
grouped b bs (Iri t) rest h = ap group h.0
grouped b bs (Text t) rest h = ap group h.0
grouped b bs (Blank t) rest h = ap group h.0
grouped b bs (Digits t) rest h = digits_group b bs t rest h
grouped b bs (Prefixed p l) rest h = prefixed_group b bs p l rest h
grouped b bs (Word t) rest h = word_group b bs t rest h.0

gap_one : (b : ℕ) (bs m n : List ℕ) → CutsAt b bs Gap m → CutsAt b bs Gap n → m ≡ n
gap_one b bs m n (inl (k, e)) (inl (l, f)) = e ∙ sym f
gap_one b bs m n (inr (k, c)) (inr (l, d)) = comment_one bs m n c d
gap_one b bs m n (inl (k, e)) (inr (l, d)) = absurd (not_blank b (omega (arith, l)) k)
gap_one b bs m n (inr (l, d)) (inl (k, e)) = absurd (not_blank b (omega (arith, l)) k)

same_group : (b : ℕ) (bs : List ℕ) (s t : Shape) (m n : List ℕ) → CutsAt b bs s m → CutsAt b bs t n → group_of s ≡ group_of t → (s ≡ t) × (m ≡ n)
same_group b bs Gap Gap m n h k e = (refl, gap_one b bs m n h k)
same_group b bs Open Open m n h k e = (refl, h.1 ∙ sym k.1)
same_group b bs Close Close m n h k e = (refl, h.1 ∙ sym k.1)
same_group b bs Equals Equals m n h k e = (refl, h.1 ∙ sym k.1)
same_group b bs Hats Hats m n h k e = (refl, tail_is 94 94 m n (sym h.1 ∙ k.1))
same_group b bs (Tag x) (Tag y) m n h k e = let one = longest_one IsTag bs x y m n h.1 k.1 in (ap Tag one.0, one.1)
same_group b bs (Iri x) (Iri y) m n h k e = let one = front_one 62 x y m n (sym h.1 ∙ k.1) h.2 k.2 in (ap Iri one.0, one.1)
same_group b bs (Text x) (Text y) m n h k e = let one = quoted_one bs x y m n h.1 k.1 in (ap Text one.0, one.1)
same_group b bs (Blank x) (Blank y) m n (i, (a, f, l)) (j, (c, g, o)) e =
    let one = longest_one (IsSome classes.Name) c x y m n (subst (λ (z : List ℕ). IsLongest (IsSome classes.Name) z x m) (tail_is 58 58 a c (sym f ∙ g)) l) o in (ap Blank one.0, one.1)
same_group b bs (Digits x) (Digits y) m n h k e = let one = longest_one (IsSome classes.Digit) (b ∷ bs) x y m n h k in (ap Digits one.0, one.1)
same_group b bs (Word x) (Word y) m n h k e = let one = longest_one (IsSome classes.Letter) (b ∷ bs) x y m n h.0 k.0 in (ap Word one.0, one.1)
same_group b bs (Prefixed p x) (Prefixed q y) m n h k e =
    let one = prefixed_one (b ∷ bs) p q x y m n h k in (ap (λ (z : List ℕ). Prefixed z x) one.0 ∙ ap (λ (z : List ℕ). Prefixed q z) one.1, one.2)
same_group b bs (Word x) (Prefixed q y) m n h k e = absurd (h.1 q y n k)
same_group b bs (Prefixed p x) (Word y) m n h k e = absurd (k.1 p x m h)
same_group b bs s t m n h k e = absurd (omega (arith, e))

pub cuts_one : (here : List ℕ) (s t : Shape) (m n : List ℕ) → Cuts here s m → Cuts here t n → (s ≡ t) × (m ≡ n)
cuts_one [] s t m n h k = absurd h
cuts_one (b ∷ bs) s t m n h k = same_group b bs s t m n h k (sym (grouped b bs s m h) ∙ grouped b bs t n k)
