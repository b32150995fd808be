-- Where no piece stands.
use Rattle.std.proofs.Common.{◌≡◌, ◌≢◌, ◌<◌, ℕ, List, [], ◌∷◌, ◌++◌, length, true, false, refl, sym, ap, subst, ◌∙◌, arith, inl, inr}
use Rattle.std.specs.Prelude.{All, MatchOption, Option, Some, None}
use Rattle.std.specs.Char.{encode_utf8, is_ascii_digit}
use Rattle.std.specs.Str.{encode_utf8_all}
use Rattle.std.proofs.lemmas.Bool.{false≢true}
use Rattle.std.proofs.lemmas.List.Elements.{All-head, All-tail}
use Rattle.std.proofs.lemmas.Str.{encode_same, encode_ascii}
use Rattle.dl_runs.specs.declared.runs.Class.{Class}
use Rattle.dl_runs.specs.declared.runs.Class.TheVariants as classes
use Rattle.dl_runs.specs.Classes.{is_of, IsOf, IsSome, IsLongest, IsBlank, IsTag, IsPrefix}
use Rattle.dl_runs.specs.Quotes.{IsQuoted}
use Rattle.dl_runs.specs.Runs.{IsRun}
use Rattle.dl_runs.proofs.NameLaws.{some_longest}
use Rattle.owl_syntax.specs.Cutting.{IsPrefixed, CutsAt, Cuts}
use Rattle.owl_syntax.specs.NameCuts.{CutsName}
use Rattle.owl_syntax.specs.Shapes.{Shape, Gap, Open, Close, Equals, Hats, Tag, Word, Iri, Prefixed, Blank, Digits, Text}

-- an ASCII byte is a character
pub ascii_first : (b : ℕ) (bs rest : List ℕ) (c : ℕ) → b < 128 → b ∷ bs ≡ encode_utf8 c ++ rest → b ≡ c
ascii_first b bs rest c l e = (encode_same b c bs rest (ap (λ (z : List ℕ). z ++ bs) (encode_ascii b l) ∙ e)).0

pub no_some : (class : Class) (b : ℕ) (bs text rest : List ℕ) → b < 128 → is_of class b ≡ false → ¬ IsLongest (IsSome class) (b ∷ bs) text rest
no_some class b bs text rest l n h = on h.such.1.0 h.such.1.1 h.such.1.2
  where
    on : (cs : List ℕ) → text ≡ encode_utf8_all cs → All (IsOf class) cs → ⊥
    on [] e a = h.such.0 e
    on (c ∷ cs) e a =
        let same = ascii_first b bs (encode_utf8_all cs ++ rest) c l (h.is ∙ ap (λ (z : List ℕ). z ++ rest) e ∙ Rattle.std.proofs.Common.append_assoc (encode_utf8 c) (encode_utf8_all cs) rest) in
        false≢true (sym n ∙ ap (is_of class) same ∙ (All-head (IsOf class) c cs a).1)

pub first_is : (b c : ℕ) (xs ys : List ℕ) → b ∷ xs ≡ c ∷ ys → b ≡ c
first_is b c xs ys e = cc

pub no_prefixed : (b : ℕ) (bs prefix local rest : List ℕ) → b < 128 → b ≢ 58 → is_of classes.Base b ≡ false → ¬ IsPrefixed (b ∷ bs) prefix local rest
no_prefixed b bs prefix local rest l n m h = on h.is_prefix
  where
    on : IsPrefix prefix → ⊥
    on (inl k) = n (first_is b 58 bs h.after (h.is ∙ ap (λ (z : List ℕ). z ++ 58 ∷ h.after) k))
    on (inr k) =
        let same = ascii_first b bs (k.begins.1 ++ 58 ∷ h.after) k.begins.0 l (h.is ∙ ap (λ (z : List ℕ). z ++ 58 ∷ h.after) k.begins.2 ∙ Rattle.std.proofs.Common.append_assoc (encode_utf8 k.begins.0) k.begins.1 (58 ∷ h.after)) in
        false≢true (sym m ∙ ap (is_of classes.Base) same ∙ k.begins.3.1)

no_gap : (b : ℕ) (bs rest : List ℕ) → ¬ IsBlank b → b ≢ 35 → ¬ CutsAt b bs Gap rest
no_gap b bs rest n m (inl (k, e)) = n k
no_gap b bs rest n m (inr (k, e)) = m k

pub not_blank : (b : ℕ) → 32 < b → ¬ IsBlank b
not_blank b l (inl e) = omega (arith, e)
not_blank b l (inr (inl e)) = omega (arith, e)
not_blank b l (inr (inr (inl e))) = omega (arith, e)
not_blank b l (inr (inr (inr e))) = omega (arith, e)

without : (inner rest bs : List ℕ) → All (λ c. c ≢ 62) bs → bs ≡ inner ++ 62 ∷ rest → ⊥
without [] rest bs a e = (All-head (λ c. c ≢ 62) 62 rest (subst (All (λ c. c ≢ 62)) e a)) refl
without (x ∷ inner) rest [] a e = cc
without (x ∷ inner) rest (b ∷ bs) a e = without inner rest bs (All-tail (λ c. c ≢ 62) b bs a) (cc)

pub no_hats : (bs : List ℕ) → ((after : List ℕ) → bs ≢ 94 ∷ after) → (shape : Shape) (rest : List ℕ) → ¬ CutsAt 94 bs shape rest
no_hats bs n Gap rest h = no_gap 94 bs rest (not_blank 94 (omega arith)) (λ e. omega (arith, e)) h
no_hats bs n Open rest h = omega (arith, h.0)
no_hats bs n Close rest h = omega (arith, h.0)
no_hats bs n Equals rest h = omega (arith, h.0)
no_hats bs n Hats rest h = n rest h.1
no_hats bs n (Tag t) rest h = omega (arith, h.0)
no_hats bs n (Iri t) rest h = omega (arith, h.0)
no_hats bs n (Text t) rest h = omega (arith, h.0)
no_hats bs n (Blank t) rest h = omega (arith, h.0)
no_hats bs n (Digits t) rest h = no_some classes.Digit 94 bs t rest (omega arith) refl h
no_hats bs n (Prefixed p l) rest h = no_prefixed 94 bs p l rest (omega arith) (λ e. omega (arith, e)) refl h
no_hats bs n (Word t) rest h = no_some classes.Letter 94 bs t rest (omega arith) refl h.0

pub no_tag_at : (bs : List ℕ) → ((tag rest : List ℕ) → ¬ IsLongest IsTag bs tag rest) → (shape : Shape) (rest : List ℕ) → ¬ CutsAt 64 bs shape rest
no_tag_at bs n Gap rest h = no_gap 64 bs rest (not_blank 64 (omega arith)) (λ e. omega (arith, e)) h
no_tag_at bs n Open rest h = omega (arith, h.0)
no_tag_at bs n Close rest h = omega (arith, h.0)
no_tag_at bs n Equals rest h = omega (arith, h.0)
no_tag_at bs n Hats rest h = omega (arith, h.0)
no_tag_at bs n (Tag t) rest h = n t rest h.1
no_tag_at bs n (Iri t) rest h = omega (arith, h.0)
no_tag_at bs n (Text t) rest h = omega (arith, h.0)
no_tag_at bs n (Blank t) rest h = omega (arith, h.0)
no_tag_at bs n (Digits t) rest h = no_some classes.Digit 64 bs t rest (omega arith) refl h
no_tag_at bs n (Prefixed p l) rest h = no_prefixed 64 bs p l rest (omega arith) (λ e. omega (arith, e)) refl h
no_tag_at bs n (Word t) rest h = no_some classes.Letter 64 bs t rest (omega arith) refl h.0

pub no_iri : (bs : List ℕ) → All (λ c. c ≢ 62) bs → (shape : Shape) (rest : List ℕ) → ¬ CutsAt 60 bs shape rest
no_iri bs n Gap rest h = no_gap 60 bs rest (not_blank 60 (omega arith)) (λ e. omega (arith, e)) h
no_iri bs n Open rest h = omega (arith, h.0)
no_iri bs n Close rest h = omega (arith, h.0)
no_iri bs n Equals rest h = omega (arith, h.0)
no_iri bs n Hats rest h = omega (arith, h.0)
no_iri bs n (Tag t) rest h = omega (arith, h.0)
no_iri bs n (Iri t) rest h = without t rest bs n h.1
no_iri bs n (Text t) rest h = omega (arith, h.0)
no_iri bs n (Blank t) rest h = omega (arith, h.0)
no_iri bs n (Digits t) rest h = no_some classes.Digit 60 bs t rest (omega arith) refl h
no_iri bs n (Prefixed p l) rest h = no_prefixed 60 bs p l rest (omega arith) (λ e. omega (arith, e)) refl h
no_iri bs n (Word t) rest h = no_some classes.Letter 60 bs t rest (omega arith) refl h.0

pub no_text : (bs : List ℕ) → ((inner rest : List ℕ) → ¬ IsQuoted bs inner rest) → (shape : Shape) (rest : List ℕ) → ¬ CutsAt 34 bs shape rest
no_text bs n Gap rest h = no_gap 34 bs rest (not_blank 34 (omega arith)) (λ e. omega (arith, e)) h
no_text bs n Open rest h = omega (arith, h.0)
no_text bs n Close rest h = omega (arith, h.0)
no_text bs n Equals rest h = omega (arith, h.0)
no_text bs n Hats rest h = omega (arith, h.0)
no_text bs n (Tag t) rest h = omega (arith, h.0)
no_text bs n (Iri t) rest h = omega (arith, h.0)
no_text bs n (Text t) rest h = n t rest h.1
no_text bs n (Blank t) rest h = omega (arith, h.0)
no_text bs n (Digits t) rest h = no_some classes.Digit 34 bs t rest (omega arith) refl h
no_text bs n (Prefixed p l) rest h = no_prefixed 34 bs p l rest (omega arith) (λ e. omega (arith, e)) refl h
no_text bs n (Word t) rest h = no_some classes.Letter 34 bs t rest (omega arith) refl h.0

pub no_blank_node : (bs : List ℕ) → ((label rest after : List ℕ) → bs ≡ 58 ∷ after → ¬ IsLongest (IsSome classes.Name) after label rest) → (shape : Shape) (rest : List ℕ) → ¬ CutsAt 95 bs shape rest
no_blank_node bs n Gap rest h = no_gap 95 bs rest (not_blank 95 (omega arith)) (λ e. omega (arith, e)) h
no_blank_node bs n Open rest h = omega (arith, h.0)
no_blank_node bs n Close rest h = omega (arith, h.0)
no_blank_node bs n Equals rest h = omega (arith, h.0)
no_blank_node bs n Hats rest h = omega (arith, h.0)
no_blank_node bs n (Tag t) rest h = omega (arith, h.0)
no_blank_node bs n (Iri t) rest h = omega (arith, h.0)
no_blank_node bs n (Text t) rest h = omega (arith, h.0)
no_blank_node bs n (Blank t) rest h = n t rest h.1.0 h.1.1 h.1.2
no_blank_node bs n (Digits t) rest h = no_some classes.Digit 95 bs t rest (omega arith) refl h
no_blank_node bs n (Prefixed p l) rest h = no_prefixed 95 bs p l rest (omega arith) (λ e. omega (arith, e)) refl h
no_blank_node bs n (Word t) rest h = no_some classes.Letter 95 bs t rest (omega arith) refl h.0

-- a byte with which no blank, sign or digit begins
pub record IsOther (b : ℕ) : Type 0 where
  pub no_blank : ¬ IsBlank b
  pub no_digit : is_ascii_digit b ≡ false
  pub not_35 : b ≢ 35
  pub not_40 : b ≢ 40
  pub not_41 : b ≢ 41
  pub not_61 : b ≢ 61
  pub not_94 : b ≢ 94
  pub not_64 : b ≢ 64
  pub not_60 : b ≢ 60
  pub not_34 : b ≢ 34
  pub not_95 : b ≢ 95

pub digit_small : (c : ℕ) → is_ascii_digit c ≡ true → c < 128
digit_small c e = grind (arith, Rattle.std.proofs.lemmas.Bool.Decides.nat_tests)

no_digits : (b : ℕ) (bs text rest : List ℕ) → is_ascii_digit b ≡ false → ¬ IsLongest (IsSome classes.Digit) (b ∷ bs) text rest
no_digits b bs text rest n h = on h.such.1.0 h.such.1.1 h.such.1.2
  where
    on : (cs : List ℕ) → text ≡ encode_utf8_all cs → All (IsOf classes.Digit) cs → ⊥
    on [] e a = h.such.0 e
    on (c ∷ cs) e a =
        let t = (All-head (IsOf classes.Digit) c cs a).1 in
        let same : b ≡ c = first_is b c bs (encode_utf8_all cs ++ rest) (h.is ∙ ap (λ (z : List ℕ). z ++ rest) e ∙ ap (λ (z : List ℕ). (z ++ encode_utf8_all cs) ++ rest) (encode_ascii c (digit_small c t))) in
        false≢true (sym n ∙ ap is_ascii_digit same ∙ t)

pub no_other : (b : ℕ) (bs : List ℕ) → IsOther b → ((shape : Shape) (rest : List ℕ) → ¬ CutsName (b ∷ bs) shape rest) → (shape : Shape) (rest : List ℕ) → ¬ CutsAt b bs shape rest
no_other b bs o n Gap rest h = no_gap b bs rest o.no_blank o.not_35 h
no_other b bs o n Open rest h = o.not_40 h.0
no_other b bs o n Close rest h = o.not_41 h.0
no_other b bs o n Equals rest h = o.not_61 h.0
no_other b bs o n Hats rest h = o.not_94 h.0
no_other b bs o n (Tag t) rest h = o.not_64 h.0
no_other b bs o n (Iri t) rest h = o.not_60 h.0
no_other b bs o n (Text t) rest h = o.not_34 h.0
no_other b bs o n (Blank t) rest h = o.not_95 h.0
no_other b bs o n (Digits t) rest h = no_digits b bs t rest o.no_digit h
no_other b bs o n (Prefixed p l) rest h = n (Prefixed p l) rest h
no_other b bs o n (Word t) rest h = n (Word t) rest h

name_cuts : (b : ℕ) (bs : List ℕ) (shape : Shape) (rest : List ℕ) → CutsName (b ∷ bs) shape rest → CutsAt b bs shape rest
name_cuts b bs (Prefixed p l) rest h = h
name_cuts b bs (Word t) rest h = h
name_cuts b bs Gap rest h = absurd h
name_cuts b bs Open rest h = absurd h
name_cuts b bs Close rest h = absurd h
name_cuts b bs Equals rest h = absurd h
name_cuts b bs Hats rest h = absurd h
name_cuts b bs (Tag t) rest h = absurd h
name_cuts b bs (Iri t) rest h = absurd h
name_cuts b bs (Text t) rest h = absurd h
name_cuts b bs (Blank t) rest h = absurd h
name_cuts b bs (Digits t) rest h = absurd h

pub name_answer : {X : Type 0} → (here : List ℕ) (b : ℕ) (bs : List ℕ) (o : Option X) (f : X → Shape) (g : X → List ℕ) → here ≡ b ∷ bs → IsOther b
    → MatchOption o ((shape : Shape) (rest : List ℕ) → ¬ CutsName here shape rest) (λ cut. CutsName here (f cut) (g cut))
    → MatchOption o ((shape : Shape) (rest : List ℕ) → ¬ CutsAt b bs shape rest) (λ cut. CutsAt b bs (f cut) (g cut))
name_answer here b bs None f g e i n = no_other b bs i (subst (λ (z : List ℕ). (shape : Shape) (rest : List ℕ) → ¬ CutsName z shape rest) e n)
name_answer here b bs (Some cut) f g e i n = name_cuts b bs (f cut) (g cut) (subst (λ (z : List ℕ). CutsName z (f cut) (g cut)) e n)

-- digits where one begins
pub digits_there : (here behind front rest : List ℕ) (b : ℕ) → here ≡ b ∷ behind → is_ascii_digit b ≡ true → IsRun classes.Digit here front rest → CutsAt b behind (Digits front) rest
digits_there here behind front rest b e t r =
    subst (λ (z : List ℕ). IsLongest (IsSome classes.Digit) z front rest) e (some_longest classes.Digit here front rest r some)
  where
    digit_scalar : (c : ℕ) → is_ascii_digit c ≡ true → Rattle.std.specs.Char.IsScalar c
    digit_scalar c k = grind (arith, Rattle.std.proofs.lemmas.Bool.Decides.nat_tests)

    some : front ≢ []
    some k = r.ends b behind (digit_scalar b t, t) (sym (r.is ∙ ap (λ (z : List ℕ). z ++ rest) k) ∙ e ∙ ap (λ (z : List ℕ). z ++ behind) (sym (encode_ascii b (digit_small b t))))

-- what stands at the front of the text
pub cut_answer : {X : Type 0} → (here : List ℕ) (b : ℕ) (bs : List ℕ) (o : Option X) (f : X → Shape) (g : X → List ℕ) → here ≡ b ∷ bs
    → MatchOption o ((shape : Shape) (rest : List ℕ) → ¬ CutsAt b bs shape rest) (λ cut. CutsAt b bs (f cut) (g cut))
    → MatchOption o ((shape : Shape) (rest : List ℕ) → ¬ Cuts here shape rest) (λ cut. Cuts here (f cut) (g cut))
cut_answer here b bs None f g e n = λ shape rest h. n shape rest (subst (λ (z : List ℕ). Cuts z shape rest) e h)
cut_answer here b bs (Some cut) f g e n = subst (λ (z : List ℕ). Cuts z (f cut) (g cut)) (sym e) n

pub cut_digits : (here behind front rest : List ℕ) (b : ℕ) → here ≡ b ∷ behind → is_ascii_digit b ≡ true → IsRun classes.Digit here front rest → Cuts here (Digits front) rest
cut_digits here behind front rest b e t r = subst (λ (z : List ℕ). Cuts z (Digits front) rest) (sym e) (digits_there here behind front rest b e t r)
