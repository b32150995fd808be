-- Stretches of characters, and the runs that are made of them.
use Rattle.std.proofs.Common.{◌≡◌, ◌≢◌, ◌<◌, ℕ, List, [], ◌∷◌, ◌++◌, length, true, false, refl, sym, ap, subst, ◌∙◌, append_assoc, arith, inl, inr}
use Rattle.std.specs.Prelude.{All, ◌⊎◌, Bool, ◌==◌, MatchOption, Option, Some, None}
use Rattle.std.specs.Char.{encode_utf8, IsScalar}
use Rattle.std.specs.Str.{encode_utf8_all}
use Rattle.std.proofs.lemmas.Bool.{false≢true, eqb-true, eq-eqb}
use Rattle.std.proofs.lemmas.Bool.Decides.{nat_tests}
use Rattle.std.proofs.lemmas.List.{append-nil, length-append, nil_from_length}
use Rattle.std.proofs.lemmas.List.Elements.{All-nil, All-cons, All-head, All-tail, All-append}
use Rattle.std.proofs.lemmas.Str.{encode_ascii, encode_same, encodes-append}
use Rattle.dl_runs.specs.declared.runs.Class.{Class}
use Rattle.dl_runs.specs.Classes.{IsOf, BeginsWith}
use Rattle.dl_runs.specs.Runs.{IsPlain, HasPlainFront, IsStretch}
use Rattle.dl_runs.proofs.CharLaws.{IsRunTo, shorter}
use Rattle.dl_runs.proofs.DotLaws.{IsUndottedTo, undotted_more}

-- plain bytes
pub plain_none : (class : Class) (raw : List ℕ) → HasPlainFront class raw raw
plain_none class raw = ([], refl, All-nil (IsPlain class))

pub plain_more : (class : Class) (raw here rest : List ℕ) (b : ℕ) → HasPlainFront class raw here → here ≡ b ∷ rest → IsPlain class b → HasPlainFront class raw rest
plain_more class raw here rest b (front, is, a) e p = (
  front ++ b ∷ [],
  is ∙ ap (λ (z : List ℕ). front ++ z) e ∙ sym (append_assoc front (b ∷ []) rest),
  All-append (IsPlain class) front (b ∷ []) a (All-cons (IsPlain class) b [] p (All-nil (IsPlain class))),
)

-- plain bytes are characters
ascii_all : (class : Class) (bs : List ℕ) → All (IsPlain class) bs → encode_utf8_all bs ≡ bs
ascii_all class [] a = refl
ascii_all class (b ∷ bs) a =
    ap (λ (z : List ℕ). z ++ encode_utf8_all bs) (encode_ascii b (All-head (IsPlain class) b bs a).0) ∙ ap (λ (z : List ℕ). b ∷ z) (ascii_all class bs (All-tail (IsPlain class) b bs a))

small_scalar : (b : ℕ) → b < 128 → IsScalar b
small_scalar b l = grind (arith, nat_tests)

plain_of : (class : Class) (bs : List ℕ) → All (IsPlain class) bs → All (IsOf class) bs
plain_of class [] a = All-nil (IsOf class)
plain_of class (b ∷ bs) a =
    let h = All-head (IsPlain class) b bs a in
    All-cons (IsOf class) b bs (small_scalar b h.0, h.1) (plain_of class bs (All-tail (IsPlain class) b bs a))

plain_no_dots : (class : Class) (bs : List ℕ) → All (IsPlain class) bs → All (λ c. c ≢ 46) bs
plain_no_dots class [] a = All-nil (λ c. c ≢ 46)
plain_no_dots class (b ∷ bs) a = All-cons (λ c. c ≢ 46) b bs (All-head (IsPlain class) b bs a).2 (plain_no_dots class bs (All-tail (IsPlain class) b bs a))

pub plain_stretch : (class : Class) (here rest : List ℕ) → HasPlainFront class here rest → length rest < length here → IsStretch class here rest
plain_stretch class here rest (front, is, a) l = record {
  cs = front;
  is = is ∙ ap (λ (z : List ℕ). z ++ rest) (sym (ascii_all class front a));
  each = plain_of class front a;
  some = l;
  dots = inr (plain_no_dots class front a);
}

pub one_stretch : (class : Class) (here rest : List ℕ) (c : ℕ) → here ≡ encode_utf8 c ++ rest → IsOf class c → IsStretch class here rest
one_stretch class here rest c e i = record {
  cs = c ∷ [];
  is = e ∙ ap (λ (z : List ℕ). z ++ rest) (sym (append-nil (encode_utf8 c)));
  each = All-cons (IsOf class) c [] i (All-nil (IsOf class));
  some = shorter here rest c e;
  dots = dot (c == 46) refl;
}
  where
    dot : (b : Bool) → (c == 46) ≡ b → (c ∷ [] ≡ 46 ∷ []) ⊎ All (λ c. c ≢ 46) (c ∷ [])
    dot true k = inl (ap (λ (z : ℕ). z ∷ []) (eqb-true c 46 k))
    dot false k = inr (All-cons (λ c. c ≢ 46) c [] (λ m. false≢true (sym k ∙ eq-eqb c 46 m)) (All-nil (λ c. c ≢ 46)))

pub one_answer : {X : Type 0} → (class : Class) (here : List ℕ) (o : Option X) (view : X → List ℕ) → MatchOption o (¬ BeginsWith class here) (λ rest. (c : ℕ) × (here ≡ encode_utf8 c ++ view rest) × IsOf class c)
    → MatchOption o (¬ BeginsWith class here) (λ rest. IsStretch class here (view rest))
one_answer class here None view n = n
one_answer class here (Some rest) view (c, e, i) = one_stretch class here (view rest) c e i

joined : (raw here rest as_ cs : List ℕ) → raw ≡ encode_utf8_all as_ ++ here → here ≡ encode_utf8_all cs ++ rest → raw ≡ encode_utf8_all (as_ ++ cs) ++ rest
joined raw here rest as_ cs r e =
    r ∙ ap (λ (z : List ℕ). encode_utf8_all as_ ++ z) e ∙ sym (append_assoc (encode_utf8_all as_) (encode_utf8_all cs) rest) ∙ ap (λ (z : List ℕ). z ++ rest) (sym (encodes-append as_ cs))

pub run_stretch : (class : Class) (raw here rest : List ℕ) → IsRunTo class raw here → IsStretch class here rest → IsRunTo class raw rest
run_stretch class raw here rest r s = record {
  cs = r.cs ++ s.cs;
  is = joined raw here rest r.cs s.cs r.is s.is;
  each = All-append (IsOf class) r.cs s.cs r.each s.each;
}

-- what ends in no dot ends in none with more before it
no_dot_last : (xs ys front : List ℕ) → ys ≢ [] → All (λ c. c ≢ 46) ys → xs ++ ys ≢ front ++ 46 ∷ []
no_dot_last [] ys front n a e = at_end front ys a e
  where
    at_end : (front ys : List ℕ) → All (λ c. c ≢ 46) ys → ys ≢ front ++ 46 ∷ []
    at_end [] [] a e = cc
    at_end [] (y ∷ ys) a e = let same : y ≡ 46 = cc in All-head (λ c. c ≢ 46) y ys a same
    at_end (x ∷ front) [] a e = cc
    at_end (x ∷ front) (y ∷ ys) a e = at_end front ys (All-tail (λ c. c ≢ 46) y ys a) (cc)
no_dot_last (x ∷ xs) ys [] n a e =
    let short : xs ++ ys ≡ [] = cc in
    n (nil_from_length ys (omega (arith, ap length short, length-append xs ys)))
no_dot_last (x ∷ xs) ys (f ∷ front) n a e = no_dot_last xs ys front n a (cc)

-- a stretch more, which is a dot or has none
pub undotted_stretch : (class : Class) (raw end here rest next : List ℕ) → IsUndottedTo class raw end here → IsStretch class here rest
    → ((more : List ℕ) × (here ≡ 46 ∷ more) × (next ≡ end)) ⊎ (((more : List ℕ) → here ≢ 46 ∷ more) × (next ≡ rest)) → IsUndottedTo class raw next rest
undotted_stretch class raw end here rest next u s h = on s.cs s.is s.each s.dots h
  where
    one : (cs : List ℕ) → here ≡ encode_utf8_all cs ++ rest → cs ≡ 46 ∷ [] → here ≡ encode_utf8 46 ++ rest
    one cs e k = e ∙ ap (λ (z : List ℕ). encode_utf8_all z ++ rest) k ∙ ap (λ (z : List ℕ). z ++ rest) (append-nil (encode_utf8 46))

    some : (cs : List ℕ) → here ≡ encode_utf8_all cs ++ rest → cs ≢ []
    some cs e k = let l = s.some in omega (arith, l, ap length e, length-append (encode_utf8_all cs) rest, ap (λ (z : List ℕ). length (encode_utf8_all z)) k)

    first : (cs more : List ℕ) → here ≡ encode_utf8_all cs ++ rest → here ≡ 46 ∷ more → All (λ c. c ≢ 46) cs → ⊥
    first [] more e d a = some [] e refl
    first (c ∷ cs) more e d a =
        All-head (λ c. c ≢ 46) c cs a
        (encode_same c 46 (encode_utf8_all cs ++ rest) more (sym (append_assoc (encode_utf8 c) (encode_utf8_all cs) rest) ∙ sym e ∙ d ∙ ap (λ (z : List ℕ). z ++ more) (sym (encode_ascii 46 (omega arith))))).0

    on : (cs : List ℕ) → here ≡ encode_utf8_all cs ++ rest → All (IsOf class) cs → (cs ≡ 46 ∷ []) ⊎ All (λ c. c ≢ 46) cs
        → ((more : List ℕ) × (here ≡ 46 ∷ more) × (next ≡ end)) ⊎ (((more : List ℕ) → here ≢ 46 ∷ more) × (next ≡ rest)) → IsUndottedTo class raw next rest
    on cs e a (inl k) h = undotted_more class raw end here rest next 46 u (one cs e k) (All-head (IsOf class) 46 [] (subst (All (IsOf class)) k a)) h
    on cs e a (inr b) (inl (more, d, n)) = absurd (first cs more e d b)
    on cs e a (inr b) (inr (d, n)) = record {
      cs = (u.cs ++ u.dots) ++ cs;
      dots = [];
      is = joined raw here rest (u.cs ++ u.dots) cs (joined raw end here u.cs u.dots u.is u.dots_are) e ∙ ap (λ (z : List ℕ). encode_utf8_all ((u.cs ++ u.dots) ++ cs) ++ z) (sym n);
      dots_are = n;
      each = All-append (IsOf class) (u.cs ++ u.dots) cs (All-append (IsOf class) u.cs u.dots u.each u.each_dot) a;
      each_dot = All-nil (IsOf class);
      are_dots = All-nil (λ c. c ≡ 46);
      last = λ front k. no_dot_last (u.cs ++ u.dots) cs front (some cs e) b k;
    }
