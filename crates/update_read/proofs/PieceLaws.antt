-- Which pieces may begin with a byte, and where none does.
use Rattle.std.proofs.Common.{◌≡◌, ◌≢◌, ◌<◌, ◌+◌, ℕ, List, [], ◌∷◌, ◌++◌, length, Bool, true, false, cond, refl, sym, ap, subst, ◌∙◌, arith, inl, inr, append_assoc}
use Rattle.std.specs.Prelude.{All, ◌⊎◌, if◌then◌else◌, ◌==◌, ◌||◌, MatchOption, Option, Some, None}
use Rattle.std.specs.Char.{encode_utf8, is_ascii_digit}
use Rattle.std.specs.Str.{encode_utf8_all}
use Rattle.std.proofs.lemmas.Bool.{false≢true}
use Rattle.std.proofs.lemmas.Bool.Decides.{nat_tests}
use Rattle.std.proofs.lemmas.List.Elements.{All-head, All-tail}
use Rattle.std.proofs.lemmas.Str.{encode_same, encode_ascii}
use Rattle.dl_text.specs.Values.{digits_of}
use Rattle.dl_runs.specs.declared.runs.Class.{Class}
use Rattle.dl_runs.specs.declared.runs.Class.TheVariants as classes
use Rattle.dl_runs.specs.Classes.{is_of, IsOf, IsSome, IsLongest, IsName, IsBlank, IsTag, IsPrefix, IsComment}
use Rattle.update_read.specs.declared.tokens.Mark.{Mark}
use Rattle.update_read.specs.declared.tokens.Mark.TheVariants as marks
use Rattle.update_read.specs.Cutting.{mark_of, IsString, IsNumber, IsPrefixed, CutsAt, Cuts}
use Rattle.update_read.specs.Names.{BeginsNumber, CutsName}
use Rattle.update_read.specs.Shapes.{Shape, Gap, Variable, Blank, Sign, Number, Iri, Text, Tag, Word, Prefixed}

-- an ASCII byte is a character
ascii_first : (b : ℕ) (bs rest : List ℕ) (c : ℕ) → b < 128 → b ∷ bs ≡ encode_utf8 c ++ rest → b ≡ c
ascii_first b bs rest c l e = (encode_same b c bs rest (ap (λ (z : List ℕ). z ++ bs) (encode_ascii b l) ∙ e)).0

no_some : (class : Class) (b : ℕ) (bs text rest : List ℕ) → b < 128 → is_of class b ≡ false → ¬ IsLongest (IsSome class) (b ∷ bs) text rest
no_some class b bs text rest l n h = on h.such.1.0 h.such.1.1 h.such.1.2
  where
    on : (cs : List ℕ) → text ≡ encode_utf8_all cs → All (IsOf class) cs → ⊥
    on [] e a = h.such.0 e
    on (c ∷ cs) e a =
        let same = ascii_first b bs (encode_utf8_all cs ++ rest) c l (h.is ∙ ap (λ (z : List ℕ). z ++ rest) e ∙ append_assoc (encode_utf8 c) (encode_utf8_all cs) rest) in
        false≢true (sym n ∙ ap (is_of class) same ∙ (All-head (IsOf class) c cs a).1)

first_is : (b c : ℕ) (xs ys : List ℕ) → b ∷ xs ≡ c ∷ ys → b ≡ c
first_is b c xs ys e = cc

no_prefixed : (b : ℕ) (bs prefix after : List ℕ) → b ∷ bs ≡ prefix ++ 58 ∷ after → b < 128 → b ≢ 58 → is_of classes.Base b ≡ false → ¬ IsPrefix prefix
no_prefixed b bs prefix after e l n m (inl k) = n (first_is b 58 bs after (e ∙ ap (λ (z : List ℕ). z ++ 58 ∷ after) k))
no_prefixed b bs prefix after e l n m (inr k) =
    let same = ascii_first b bs (k.begins.1 ++ 58 ∷ after) k.begins.0 l (e ∙ ap (λ (z : List ℕ). z ++ 58 ∷ after) k.begins.2 ∙ append_assoc (encode_utf8 k.begins.0) k.begins.1 (58 ∷ after)) in
    false≢true (sym m ∙ ap (is_of classes.Base) same ∙ k.begins.3.1)

-- which pieces may begin with a byte
unfoldable pub group : ℕ → ℕ
group b =
    if b == 32 || b == 9 || b == 10 || b == 13 || b == 35 then 0 else if b == 46 || b == 44 || b == 59 || b == 123 || b == 125 || b == 40 || b == 91 || b == 41 || b == 93 || b == 94 then 1 else if is_ascii_digit b || b == 43 || b == 45 then 2 else if b == 60 then 3
    else if b == 34 || b == 39 then 4 else if b == 64 then 5 else if b == 63 || b == 36 then 6 else if b == 95 then 7 else 8

abbrev pub group_of : Shape → ℕ
group_of Gap = 0
group_of Variable = 6
group_of Blank = 7
group_of (Sign k) = 1
group_of (Number t) = 2
group_of (Iri t) = 3
group_of (Text t) = 4
group_of (Tag t) = 5
group_of (Word t) = 8
group_of (Prefixed p l) = 8

digit_group : (b : ℕ) → is_ascii_digit b ≡ true → group b ≡ 2
unfolding group
digit_group b e = grind (arith, nat_tests)

other_group : (b : ℕ) → b ≢ 32 → b ≢ 9 → b ≢ 10 → b ≢ 13 → b ≢ 35 → b ≢ 46 → b ≢ 44 → b ≢ 59 → b ≢ 123 → b ≢ 125 → b ≢ 40 → b ≢ 91 → b ≢ 41 → b ≢ 93 → b ≢ 94 → b ≢ 43 → b ≢ 45 → b ≢ 60 → b ≢ 34 → b ≢ 39 → b ≢ 64 → b ≢ 63 → b ≢ 36 → b ≢ 95 → is_ascii_digit b ≡ false → group b ≡ 8
unfolding group
other_group b n32 n9 n10 n13 n35 n46 n44 n59 n123 n125 n40 n91 n41 n93 n94 n43 n45 n60 n34 n39 n64 n63 n36 n95 d = grind (arith, nat_tests)

gap_group : (b : ℕ) → IsBlank b → group b ≡ 0
unfolding group
gap_group b (inl e) = ap group e
gap_group b (inr (inl e)) = ap group e
gap_group b (inr (inr (inl e))) = ap group e
gap_group b (inr (inr (inr e))) = ap group e

none_is_some : (k : Mark) → ¬ (None ≡ Some k)
none_is_some k e = cc

mark_group : (b : ℕ) (k : Mark) → mark_of b ≡ Some k → group b ≡ 1
unfolding group
mark_group b k e = grind (arith, nat_tests)

digit_small : (c : ℕ) → is_ascii_digit c ≡ true → c < 128
digit_small c e = grind (arith, nat_tests)

-- digits begin with one
digits_first : (raw digits rest : List ℕ) → IsLongest (IsSome classes.Digit) raw digits rest → (c : ℕ) × (more : List ℕ) × (raw ≡ c ∷ more) × (is_ascii_digit c ≡ true)
digits_first raw digits rest h = on h.such.1.0 h.such.1.1 h.such.1.2
  where
    on : (cs : List ℕ) → digits ≡ encode_utf8_all cs → All (IsOf classes.Digit) cs → (c : ℕ) × (more : List ℕ) × (raw ≡ c ∷ more) × (is_ascii_digit c ≡ true)
    on [] e a = absurd (h.such.0 e)
    on (c ∷ cs) e a =
        let t = (All-head (IsOf classes.Digit) c cs a).1 in
        (c, encode_utf8_all cs ++ rest, h.is ∙ ap (λ (z : List ℕ). z ++ rest) e ∙ ap (λ (z : List ℕ). (z ++ encode_utf8_all cs) ++ rest) (encode_ascii c (digit_small c t)), t)

signed_group : (b : ℕ) → (b == 43 || b == 45) ≡ true → group b ≡ 2
unfolding group
signed_group b e = grind (arith, nat_tests)

number_group : (b : ℕ) (bs t rest : List ℕ) → IsNumber (b ∷ bs) t rest → group b ≡ 2
number_group b bs t rest h = by (b == 43 || b == 45) refl (digits_first (digits_of (b ∷ bs)) h.digits rest h.is_digits)
  where
    by : (v : Bool) → (b == 43 || b == 45) ≡ v → (c : ℕ) × (more : List ℕ) × (cond v bs (b ∷ bs) ≡ c ∷ more) × (is_ascii_digit c ≡ true) → group b ≡ 2
    by true e f = signed_group b e
    by false e (c, more, f, t) = digit_group b (ap is_ascii_digit (first_is b c bs more f) ∙ t)

is_digit : (b : Bool) → (b ≡ true → ⊥) → b ≡ false
is_digit true n = absurd (n refl)
is_digit false n = refl

digit_no_letter : (b : ℕ) → is_ascii_digit b ≡ true → is_of classes.Letter b ≡ false
digit_no_letter b e = grind (arith, nat_tests)

digit_no_base : (b : ℕ) → is_ascii_digit b ≡ true → is_of classes.Base b ≡ false
digit_no_base b e = grind (arith, nat_tests)

digit_no_colon : (b : ℕ) → is_ascii_digit b ≡ true → b ≢ 58
digit_no_colon b e k = let f : is_ascii_digit 58 ≡ true = ap is_ascii_digit (sym k) ∙ e in cc

word_group : (b : ℕ) (bs t rest : List ℕ) → IsLongest (IsSome classes.Letter) (b ∷ bs) t rest → group b ≡ 8
word_group b bs t rest h =
    let no = λ (k : ℕ) (l : k < 128) (f : is_of classes.Letter k ≡ false) (e : b ≡ k). no_some classes.Letter b bs t rest (subst (λ (z : ℕ). z < 128) (sym e) l) (ap (is_of classes.Letter) e ∙ f) h in
    other_group b (no 32 (omega arith) refl) (no 9 (omega arith) refl) (no 10 (omega arith) refl) (no 13 (omega arith) refl) (no 35 (omega arith) refl) (no 46 (omega arith) refl) (no 44 (omega arith) refl) (no 59 (omega arith) refl) (no 123 (omega arith) refl) (no 125 (omega arith) refl) (no 40 (omega arith) refl) (no 91 (omega arith) refl) (no 41 (omega arith) refl) (no 93 (omega arith) refl) (no 94 (omega arith) refl) (no 43 (omega arith) refl) (no 45 (omega arith) refl) (no 60 (omega arith) refl) (no 34 (omega arith) refl) (no 39 (omega arith) refl) (no 64 (omega arith) refl) (no 63 (omega arith) refl) (no 36 (omega arith) refl) (no 95 (omega arith) refl)
    (is_digit (is_ascii_digit b) (λ e. no_some classes.Letter b bs t rest (digit_small b e) (digit_no_letter b e) h))

prefixed_group : (b : ℕ) (bs p l rest : List ℕ) → IsPrefixed (b ∷ bs) p l rest → group b ≡ 8
prefixed_group b bs p l rest h =
    let no = λ (k : ℕ) (s : k < 128) (c : k ≢ 58) (f : is_of classes.Base k ≡ false) (e : b ≡ k).
    no_prefixed b bs p h.after h.is (subst (λ (z : ℕ). z < 128) (sym e) s) (λ x. c (sym e ∙ x)) (ap (is_of classes.Base) e ∙ f) h.is_prefix in
    other_group b (no 32 (omega arith) (λ e. omega (arith, e)) refl) (no 9 (omega arith) (λ e. omega (arith, e)) refl) (no 10 (omega arith) (λ e. omega (arith, e)) refl) (no 13 (omega arith) (λ e. omega (arith, e)) refl) (no 35 (omega arith) (λ e. omega (arith, e)) refl) (no 46 (omega arith) (λ e. omega (arith, e)) refl) (no 44 (omega arith) (λ e. omega (arith, e)) refl) (no 59 (omega arith) (λ e. omega (arith, e)) refl) (no 123 (omega arith) (λ e. omega (arith, e)) refl) (no 125 (omega arith) (λ e. omega (arith, e)) refl) (no 40 (omega arith) (λ e. omega (arith, e)) refl) (no 91 (omega arith) (λ e. omega (arith, e)) refl) (no 41 (omega arith) (λ e. omega (arith, e)) refl) (no 93 (omega arith) (λ e. omega (arith, e)) refl) (no 94 (omega arith) (λ e. omega (arith, e)) refl) (no 43 (omega arith) (λ e. omega (arith, e)) refl) (no 45 (omega arith) (λ e. omega (arith, e)) refl) (no 60 (omega arith) (λ e. omega (arith, e)) refl) (no 34 (omega arith) (λ e. omega (arith, e)) refl) (no 39 (omega arith) (λ e. omega (arith, e)) refl) (no 64 (omega arith) (λ e. omega (arith, e)) refl) (no 63 (omega arith) (λ e. omega (arith, e)) refl) (no 36 (omega arith) (λ e. omega (arith, e)) refl) (no 95 (omega arith) (λ e. omega (arith, e)) refl)
    (is_digit (is_ascii_digit b) (λ e. no_prefixed b bs p h.after h.is (digit_small b e) (digit_no_colon b e) (digit_no_base b e) h.is_prefix))

quote_group : (b : ℕ) → ((b ≡ 34) ⊎ (b ≡ 39)) → group b ≡ 4
unfolding group
quote_group b (inl e) = ap group e
quote_group b (inr e) = ap group e

variable_group : (b : ℕ) → ((b ≡ 63) ⊎ (b ≡ 36)) → group b ≡ 6
unfolding group
variable_group b (inl e) = ap group e
variable_group b (inr e) = ap group e

pub grouped : (b : ℕ) (bs : List ℕ) (s : Shape) (rest : List ℕ) → CutsAt b bs s rest → group b ≡ group_of s
unfolding group
grouped b bs Gap rest (inl (k, e)) = gap_group b k
grouped b bs Gap rest (inr (k, e)) = ap group k
grouped b bs Variable rest h = variable_group b h.0
grouped b bs Blank rest h = ap group h.0
grouped b bs (Sign m) rest (inl (k, e)) = mark_group b m k
grouped b bs (Sign m) rest (inr (k, e, f)) = ap group k
grouped b bs (Number t) rest h = number_group b bs t rest h
grouped b bs (Iri t) rest h = ap group h.0
grouped b bs (Text t) rest h = quote_group b h.0
grouped b bs (Tag t) rest h = ap group h.0
grouped b bs (Word t) rest h = word_group b bs t rest h.0
grouped b bs (Prefixed p l) rest h = prefixed_group b bs p l rest h

-- nothing begins here, if nothing of the byte's group does
by_group : (b : ℕ) (bs : List ℕ) (n : ℕ) → group b ≡ n → ((s : Shape) (rest : List ℕ) → group_of s ≡ n → ¬ CutsAt b bs s rest) → (s : Shape) (rest : List ℕ) → ¬ CutsAt b bs s rest
by_group b bs n g k s rest h = k s rest (sym (grouped b bs s rest h) ∙ g) h

-- no number where one may begin
only_number : (b : ℕ) (bs : List ℕ) → ((text rest : List ℕ) → ¬ IsNumber (b ∷ bs) text rest) → (s : Shape) (rest : List ℕ) → group_of s ≡ 2 → ¬ CutsAt b bs s rest
only_number b bs n Gap rest e h = omega (arith, e)
only_number b bs n Variable rest e h = omega (arith, e)
only_number b bs n Blank rest e h = omega (arith, e)
only_number b bs n (Sign k) rest e h = omega (arith, e)
only_number b bs n (Number t) rest e h = n t rest h
only_number b bs n (Iri t) rest e h = omega (arith, e)
only_number b bs n (Text t) rest e h = omega (arith, e)
only_number b bs n (Tag t) rest e h = omega (arith, e)
only_number b bs n (Word t) rest e h = omega (arith, e)
only_number b bs n (Prefixed p l) rest e h = omega (arith, e)

without : (inner rest bs : List ℕ) → All (λ c. c ≢ 62) bs → bs ≡ inner ++ 62 ∷ rest → ⊥
without [] rest bs a e = (All-head (λ c. c ≢ 62) 62 rest (subst (All (λ c. c ≢ 62)) e a)) refl
without (x ∷ inner) rest [] a e = cc
without (x ∷ inner) rest (b ∷ bs) a e = without inner rest bs (All-tail (λ c. c ≢ 62) b bs a) (cc)

only_iri : (b : ℕ) (bs : List ℕ) → All (λ c. c ≢ 62) bs → (s : Shape) (rest : List ℕ) → group_of s ≡ 3 → ¬ CutsAt b bs s rest
only_iri b bs n Gap rest e h = omega (arith, e)
only_iri b bs n Variable rest e h = omega (arith, e)
only_iri b bs n Blank rest e h = omega (arith, e)
only_iri b bs n (Sign k) rest e h = omega (arith, e)
only_iri b bs n (Number t) rest e h = omega (arith, e)
only_iri b bs n (Iri t) rest e h = without t rest bs n h.1
only_iri b bs n (Text t) rest e h = omega (arith, e)
only_iri b bs n (Tag t) rest e h = omega (arith, e)
only_iri b bs n (Word t) rest e h = omega (arith, e)
only_iri b bs n (Prefixed p l) rest e h = omega (arith, e)

only_text : (b : ℕ) (bs : List ℕ) → ((inner rest : List ℕ) → ¬ IsString b bs inner rest) → (s : Shape) (rest : List ℕ) → group_of s ≡ 4 → ¬ CutsAt b bs s rest
only_text b bs n Gap rest e h = omega (arith, e)
only_text b bs n Variable rest e h = omega (arith, e)
only_text b bs n Blank rest e h = omega (arith, e)
only_text b bs n (Sign k) rest e h = omega (arith, e)
only_text b bs n (Number t) rest e h = omega (arith, e)
only_text b bs n (Iri t) rest e h = omega (arith, e)
only_text b bs n (Text t) rest e h = n t rest h.1
only_text b bs n (Tag t) rest e h = omega (arith, e)
only_text b bs n (Word t) rest e h = omega (arith, e)
only_text b bs n (Prefixed p l) rest e h = omega (arith, e)

only_tag : (b : ℕ) (bs : List ℕ) → ((tag rest : List ℕ) → ¬ IsLongest IsTag bs tag rest) → (s : Shape) (rest : List ℕ) → group_of s ≡ 5 → ¬ CutsAt b bs s rest
only_tag b bs n Gap rest e h = omega (arith, e)
only_tag b bs n Variable rest e h = omega (arith, e)
only_tag b bs n Blank rest e h = omega (arith, e)
only_tag b bs n (Sign k) rest e h = omega (arith, e)
only_tag b bs n (Number t) rest e h = omega (arith, e)
only_tag b bs n (Iri t) rest e h = omega (arith, e)
only_tag b bs n (Text t) rest e h = omega (arith, e)
only_tag b bs n (Tag t) rest e h = n t rest h.1
only_tag b bs n (Word t) rest e h = omega (arith, e)
only_tag b bs n (Prefixed p l) rest e h = omega (arith, e)

only_variable : (b : ℕ) (bs : List ℕ) → ((name rest : List ℕ) → ¬ IsLongest (IsName classes.LabelStart classes.Variable) bs name rest) → (s : Shape) (rest : List ℕ) → group_of s ≡ 6 → ¬ CutsAt b bs s rest
only_variable b bs n Gap rest e h = omega (arith, e)
only_variable b bs n Variable rest e h = n h.1.0 rest h.1.1
only_variable b bs n Blank rest e h = omega (arith, e)
only_variable b bs n (Sign k) rest e h = omega (arith, e)
only_variable b bs n (Number t) rest e h = omega (arith, e)
only_variable b bs n (Iri t) rest e h = omega (arith, e)
only_variable b bs n (Text t) rest e h = omega (arith, e)
only_variable b bs n (Tag t) rest e h = omega (arith, e)
only_variable b bs n (Word t) rest e h = omega (arith, e)
only_variable b bs n (Prefixed p l) rest e h = omega (arith, e)

only_blank : (b : ℕ) (bs : List ℕ) → ((after label rest : List ℕ) → bs ≡ 58 ∷ after → ¬ IsLongest (IsName classes.LabelStart classes.Prefix) after label rest) → (s : Shape) (rest : List ℕ) → group_of s ≡ 7 → ¬ CutsAt b bs s rest
only_blank b bs n Gap rest e h = omega (arith, e)
only_blank b bs n Variable rest e h = omega (arith, e)
only_blank b bs n Blank rest e h = n h.1.0 h.1.1 rest h.1.2 h.1.3
only_blank b bs n (Sign k) rest e h = omega (arith, e)
only_blank b bs n (Number t) rest e h = omega (arith, e)
only_blank b bs n (Iri t) rest e h = omega (arith, e)
only_blank b bs n (Text t) rest e h = omega (arith, e)
only_blank b bs n (Tag t) rest e h = omega (arith, e)
only_blank b bs n (Word t) rest e h = omega (arith, e)
only_blank b bs n (Prefixed p l) rest e h = omega (arith, e)

-- a lone hat is no sign
only_hats : (bs : List ℕ) → ((after : List ℕ) → bs ≢ 94 ∷ after) → (s : Shape) (rest : List ℕ) → group_of s ≡ 1 → ¬ CutsAt 94 bs s rest
only_hats bs n Gap rest e h = omega (arith, e)
only_hats bs n Variable rest e h = omega (arith, e)
only_hats bs n Blank rest e h = omega (arith, e)
only_hats bs n (Sign k) rest e (inl (h, x)) = none_is_some k h
only_hats bs n (Sign k) rest e (inr (x, h, y)) = n rest h
only_hats bs n (Number t) rest e h = omega (arith, e)
only_hats bs n (Iri t) rest e h = omega (arith, e)
only_hats bs n (Text t) rest e h = omega (arith, e)
only_hats bs n (Tag t) rest e h = omega (arith, e)
only_hats bs n (Word t) rest e h = omega (arith, e)
only_hats bs n (Prefixed p l) rest e h = omega (arith, e)

pub no_number : (b : ℕ) (bs : List ℕ) → BeginsNumber b → ((text rest : List ℕ) → ¬ IsNumber (b ∷ bs) text rest) → (s : Shape) (rest : List ℕ) → ¬ CutsAt b bs s rest
unfolding group
no_number b bs (inl d) n = by_group b bs 2 (digit_group b d) (only_number b bs n)
no_number b bs (inr (inl e)) n = by_group b bs 2 (ap group e) (only_number b bs n)
no_number b bs (inr (inr e)) n = by_group b bs 2 (ap group e) (only_number b bs n)

pub no_iri : (b : ℕ) (bs : List ℕ) → b ≡ 60 → All (λ c. c ≢ 62) bs → (s : Shape) (rest : List ℕ) → ¬ CutsAt b bs s rest
unfolding group
no_iri b bs e n = by_group b bs 3 (ap group e) (only_iri b bs n)

pub no_text : (b : ℕ) (bs : List ℕ) → ((b ≡ 34) ⊎ (b ≡ 39)) → ((inner rest : List ℕ) → ¬ IsString b bs inner rest) → (s : Shape) (rest : List ℕ) → ¬ CutsAt b bs s rest
no_text b bs e n = by_group b bs 4 (quote_group b e) (only_text b bs n)

pub no_tag : (b : ℕ) (bs : List ℕ) → b ≡ 64 → ((tag rest : List ℕ) → ¬ IsLongest IsTag bs tag rest) → (s : Shape) (rest : List ℕ) → ¬ CutsAt b bs s rest
unfolding group
no_tag b bs e n = by_group b bs 5 (ap group e) (only_tag b bs n)

pub no_variable : (b : ℕ) (bs : List ℕ) → ((b ≡ 63) ⊎ (b ≡ 36)) → ((name rest : List ℕ) → ¬ IsLongest (IsName classes.LabelStart classes.Variable) bs name rest) → (s : Shape) (rest : List ℕ) → ¬ CutsAt b bs s rest
no_variable b bs e n = by_group b bs 6 (variable_group b e) (only_variable b bs n)

pub no_blank_node : (b : ℕ) (bs : List ℕ) → b ≡ 95 → ((after label rest : List ℕ) → bs ≡ 58 ∷ after → ¬ IsLongest (IsName classes.LabelStart classes.Prefix) after label rest)
    → (s : Shape) (rest : List ℕ) → ¬ CutsAt b bs s rest
unfolding group
no_blank_node b bs e n = by_group b bs 7 (ap group e) (only_blank b bs n)

pub no_hats : (b : ℕ) (bs : List ℕ) → b ≡ 94 → ((after : List ℕ) → bs ≢ 94 ∷ after) → (s : Shape) (rest : List ℕ) → ¬ CutsAt b bs s rest
unfolding group
no_hats b bs e n s rest h = by_group 94 bs 1 refl (only_hats bs n) s rest (subst (λ (z : ℕ). CutsAt z bs s rest) e h)

-- a byte with which no blank, sign or number begins, and no token with a first byte of its own
pub record IsOther (b : ℕ) : Type 0 where
  pub no_blank : ¬ IsBlank b
  pub no_number : ¬ BeginsNumber b
  pub no_mark : mark_of b ≡ None
  pub not_35 : b ≢ 35
  pub not_94 : b ≢ 94
  pub not_64 : b ≢ 64
  pub not_60 : b ≢ 60
  pub not_34 : b ≢ 34
  pub not_39 : b ≢ 39
  pub not_63 : b ≢ 63
  pub not_36 : b ≢ 36
  pub not_95 : b ≢ 95

no_mark_some : (b : ℕ) (k : Mark) → mark_of b ≡ None → ¬ (mark_of b ≡ Some k)
no_mark_some b k n e = none_is_some k (sym n ∙ e)

number_begins : (b : ℕ) (bs t rest : List ℕ) → ¬ BeginsNumber b → ¬ IsNumber (b ∷ bs) t rest
number_begins b bs t rest n h = by (b == 43 || b == 45) refl (digits_first (digits_of (b ∷ bs)) h.digits rest h.is_digits)
  where
    sign : (b == 43 || b == 45) ≡ true → ((b ≡ 43) ⊎ (b ≡ 45))
    sign e = grind (arith, nat_tests)

    by : (v : Bool) → (b == 43 || b == 45) ≡ v → (c : ℕ) × (more : List ℕ) × (cond v bs (b ∷ bs) ≡ c ∷ more) × (is_ascii_digit c ≡ true) → ⊥
    by true e f = n (inr (sign e))
    by false e (c, more, f, t) = n (inl (ap is_ascii_digit (first_is b c bs more f) ∙ t))

pub no_other : (b : ℕ) (bs : List ℕ) → IsOther b → ((shape : Shape) (rest : List ℕ) → ¬ CutsName (b ∷ bs) shape rest) → (shape : Shape) (rest : List ℕ) → ¬ CutsAt b bs shape rest
no_other b bs o n Gap rest (inl (k, e)) = o.no_blank k
no_other b bs o n Gap rest (inr (k, e)) = o.not_35 k
no_other b bs o n Variable rest (inl k, h) = o.not_63 k
no_other b bs o n Variable rest (inr k, h) = o.not_36 k
no_other b bs o n Blank rest h = o.not_95 h.0
no_other b bs o n (Sign m) rest (inl (k, e)) = no_mark_some b m o.no_mark k
no_other b bs o n (Sign m) rest (inr (k, e, f)) = o.not_94 k
no_other b bs o n (Number t) rest h = number_begins b bs t rest o.no_number h
no_other b bs o n (Iri t) rest h = o.not_60 h.0
no_other b bs o n (Text t) rest (inl k, h) = o.not_34 k
no_other b bs o n (Text t) rest (inr k, h) = o.not_39 k
no_other b bs o n (Tag t) rest h = o.not_64 h.0
no_other b bs o n (Word t) rest h = n (Word t) rest h
no_other b bs o n (Prefixed p l) rest h = n (Prefixed p l) rest h

name_cuts : (b : ℕ) (bs : List ℕ) (shape : Shape) (rest : List ℕ) → CutsName (b ∷ bs) shape rest → CutsAt b bs shape rest
name_cuts b bs (Prefixed p l) rest h = h
name_cuts b bs (Word t) rest h = h
name_cuts b bs Gap rest h = absurd h
name_cuts b bs Variable rest h = absurd h
name_cuts b bs Blank rest h = absurd h
name_cuts b bs (Sign m) rest h = absurd h
name_cuts b bs (Number t) rest h = absurd h
name_cuts b bs (Iri t) rest h = absurd h
name_cuts b bs (Text t) rest h = absurd h
name_cuts b bs (Tag t) rest h = absurd h

pub name_answer : {X : Type 0} → (here : List ℕ) (b : ℕ) (bs : List ℕ) (o : Option X) (f : X → Shape) (g : X → List ℕ) → here ≡ b ∷ bs → IsOther b
    → MatchOption o ((shape : Shape) (rest : List ℕ) → ¬ CutsName here shape rest) (λ cut. CutsName here (f cut) (g cut))
    → MatchOption o ((shape : Shape) (rest : List ℕ) → ¬ CutsAt b bs shape rest) (λ cut. CutsAt b bs (f cut) (g cut))
name_answer here b bs None f g e i n = no_other b bs i (subst (λ (z : List ℕ). (shape : Shape) (rest : List ℕ) → ¬ CutsName z shape rest) e n)
name_answer here b bs (Some cut) f g e i n = name_cuts b bs (f cut) (g cut) (subst (λ (z : List ℕ). CutsName z (f cut) (g cut)) e n)

-- no number stands in front
pub no_number_here : (here : List ℕ) (b : ℕ) (bs : List ℕ) → here ≡ b ∷ bs → BeginsNumber b → ((text rest : List ℕ) → ¬ IsNumber here text rest) → (s : Shape) (rest : List ℕ) → ¬ Cuts here s rest
no_number_here here b bs e i n s rest h =
    no_number b bs i (subst (λ (z : List ℕ). (text rest : List ℕ) → ¬ IsNumber z text rest) e n) s rest (subst (λ (z : List ℕ). Cuts z s rest) e h)

-- a comment begins with no blank
pub not_blank_sign : (b : ℕ) → b ≡ 35 → ¬ IsBlank b
not_blank_sign b e (inl f) = omega (arith, e, f)
not_blank_sign b e (inr (inl f)) = omega (arith, e, f)
not_blank_sign b e (inr (inr (inl f))) = omega (arith, e, f)
not_blank_sign b e (inr (inr (inr f))) = omega (arith, e, f)
