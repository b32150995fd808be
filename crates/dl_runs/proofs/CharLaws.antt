-- Characters at the front of a text, and runs of them.
use Rattle.std.proofs.Common.{◌≡◌, ◌+◌, ◌-◌, ◌<◌, ◌≤◌, ℕ, List, [], ◌∷◌, ◌++◌, length, take, drop, true, false, refl, sym, ap, subst, ◌∙◌, append_assoc, arith}
use Rattle.std.specs.Prelude.{All}
use Rattle.std.specs.Char.{encode_utf8, IsScalar}
use Rattle.std.specs.Str.{IsUtf8, IsValidUpTo, StartsWithNoChar, encode_utf8_all, all_scalars}
use Rattle.std.proofs.Math.Bool.{and-eq-true_iff}
use Rattle.std.proofs.lemmas.Bool.{false≢true}
use Rattle.std.proofs.lemmas.List.{take-append-drop, take_at, drop_at, length-take, length-take-le, length-append, append-nil, nil_from_length}
use Rattle.std.proofs.Math.Seq.{take-append-add}
use Rattle.std.proofs.lemmas.List.Elements.{All-head, All-tail}
use Rattle.std.proofs.lemmas.Str.{length-encode, len_utf8_bounds, IsUtf8-encode, encode_same, encodes-append, cons_from_encodes}
use Rattle.dl_runs.specs.declared.runs.Class.{Class}
use Rattle.dl_runs.specs.Classes.{is_of, IsOf, BeginsWith}
use Rattle.dl_runs.specs.Runs.{BeginsNo, IsRun}

-- the longest front that is a text
pub valid_front : (bytes text : List ℕ) (n : ℕ) → IsValidUpTo bytes n → text ≡ take n bytes → (rest : List ℕ) × (bytes ≡ text ++ rest)
valid_front bytes text n v e = (drop n bytes, sym (take-append-drop n bytes) ∙ ap (λ (z : List ℕ). z ++ drop n bytes) (sym e))

pub valid_longest : (bytes text : List ℕ) (n : ℕ) → IsValidUpTo bytes n → text ≡ take n bytes → (m : ℕ) → length text < m → m ≤ length bytes → ¬ IsUtf8 (take m bytes)
valid_longest bytes text n v e m l h = let short = v.short in v.longest m (omega (arith, l, ap length e, length-take-le n bytes (omega (arith, short))))

width : (c : ℕ) → (1 ≤ length (encode_utf8 c)) × (length (encode_utf8 c) ≤ 4)
width c = let e = length-encode c in let b = len_utf8_bounds c in (omega (arith, e, b.0), omega (arith, e, b.1))

-- where the longest text at the front is empty, no character begins
pub no_char : (bytes window text : List ℕ) → window ≡ take 4 bytes → ((n : ℕ) → length text < n → n ≤ length window → ¬ IsUtf8 (take n window)) → length text ≡ 0 → StartsWithNoChar bytes
no_char bytes window text w longest none c rest s e =
    let k : ℕ = length (encode_utf8 c) in
    let b = width c in
    let at_front : window ≡ encode_utf8 c ++ take (4 - k) rest = w ∙ ap (take 4) e ∙ take_more (encode_utf8 c) rest 4 b.1 in
    longest k (omega (arith, none, b.0)) (omega (arith, ap length at_front, length-append (encode_utf8 c) (take (4 - k) rest)))
    (subst IsUtf8 (sym (ap (take k) at_front ∙ take_at (encode_utf8 c) (take (4 - k) rest) k refl)) (IsUtf8-encode c s))
  where
    take_more : (xs ys : List ℕ) (n : ℕ) → length xs ≤ n → take n (xs ++ ys) ≡ xs ++ take (n - length xs) ys
    take_more xs ys n l =
        let is : n ≡ length xs + (n - length xs) = omega arith in
        ap (λ (m : ℕ). take m (xs ++ ys)) is ∙ take-append-add xs ys (n - length xs)

-- the character in front of the longest text is that in front
pub one_char : (bytes window text more rest : List ℕ) (c : ℕ) → window ≡ take 4 bytes → window ≡ text ++ rest → text ≡ encode_utf8 c ++ more
    → bytes ≡ encode_utf8 c ++ drop (length (encode_utf8 c)) bytes
one_char bytes window text more rest c w e f =
    let all : bytes ≡ encode_utf8 c ++ (more ++ (rest ++ drop 4 bytes)) =
    sym (take-append-drop 4 bytes) ∙ ap (λ (z : List ℕ). z ++ drop 4 bytes) (sym w ∙ e ∙ ap (λ (z : List ℕ). z ++ rest) f ∙ append_assoc (encode_utf8 c) more rest)
    ∙ append_assoc (encode_utf8 c) (more ++ rest) (drop 4 bytes) ∙ ap (λ (z : List ℕ). encode_utf8 c ++ z) (append_assoc more rest (drop 4 bytes)) in
    all ∙ ap (λ (z : List ℕ). encode_utf8 c ++ z) (sym (ap (drop (length (encode_utf8 c))) all ∙ drop_at (encode_utf8 c) (more ++ (rest ++ drop 4 bytes)) (length (encode_utf8 c)) refl))

pub nothing_begins : (bytes : List ℕ) → length bytes ≡ 0 → StartsWithNoChar bytes
nothing_begins bytes n c rest s e = let b = width c in omega (arith, n, b.0, ap length e, length-append (encode_utf8 c) rest)

-- the character in front is one
pub not_begun : (class : Class) (bytes rest : List ℕ) (c : ℕ) → bytes ≡ encode_utf8 c ++ rest → is_of class c ≡ false → ¬ BeginsWith class bytes
not_begun class bytes rest c e n (d, more, f, (s, t)) =
    let same = encode_same c d rest more (sym e ∙ f) in
    false≢true (sym n ∙ ap (is_of class) same.0 ∙ t)

pub begins_no : (class : Class) (bytes : List ℕ) → ¬ BeginsWith class bytes → BeginsNo class bytes
begins_no class bytes n c behind i e = n (c, behind, e, i)

pub shorter : (bytes rest : List ℕ) (c : ℕ) → bytes ≡ encode_utf8 c ++ rest → length rest < length bytes
shorter bytes rest c e = let b = width c in omega (arith, b.0, ap length e, length-append (encode_utf8 c) rest)

-- so far characters of the class
pub record IsRunTo (class : Class) (raw here : List ℕ) : Type 0 where
  pub cs : List ℕ
  pub is : raw ≡ encode_utf8_all cs ++ here
  pub each : All (IsOf class) cs

pub run_none : (class : Class) (raw : List ℕ) → IsRunTo class raw raw
run_none class raw = record { cs = []; is = refl; each = Rattle.std.proofs.lemmas.List.Elements.All-nil (IsOf class) }

pub one_more : (raw here rest cs : List ℕ) (c : ℕ) → raw ≡ encode_utf8_all cs ++ here → here ≡ encode_utf8 c ++ rest → raw ≡ encode_utf8_all (cs ++ c ∷ []) ++ rest
one_more raw here rest cs c r e =
    r ∙ ap (λ (z : List ℕ). encode_utf8_all cs ++ z) (e ∙ ap (λ (z : List ℕ). z ++ rest) (sym (append-nil (encode_utf8 c))))
    ∙ sym (append_assoc (encode_utf8_all cs) (encode_utf8 c ++ []) rest) ∙ ap (λ (z : List ℕ). z ++ rest) (sym (encodes-append cs (c ∷ [])))

pub run_more : (class : Class) (raw here rest : List ℕ) (c : ℕ) → IsRunTo class raw here → here ≡ encode_utf8 c ++ rest → IsOf class c → IsRunTo class raw rest
run_more class raw here rest c r e i = record {
  cs = r.cs ++ c ∷ [];
  is = one_more raw here rest r.cs c r.is e;
  each = all_push (IsOf class) r.cs c r.each i;
}
  where
    all_push : (P : ℕ → Type 0) (xs : List ℕ) (x : ℕ) → All P xs → P x → All P (xs ++ x ∷ [])
    all_push P xs x a p = Rattle.std.proofs.lemmas.List.Elements.All-append P xs (x ∷ []) a (Rattle.std.proofs.lemmas.List.Elements.All-cons P x [] p (Rattle.std.proofs.lemmas.List.Elements.All-nil P))

pub cut_front : (raw front rest : List ℕ) → raw ≡ front ++ rest → (front ≡ take (length raw - length rest) raw) × (rest ≡ drop (length raw - length rest) raw)
cut_front raw front rest e =
    let n : length front ≡ length raw - length rest = omega (arith, ap length e, length-append front rest) in
    (sym (ap (take (length raw - length rest)) e ∙ take_at front rest (length raw - length rest) n), sym (ap (drop (length raw - length rest)) e ∙ drop_at front rest (length raw - length rest) n))

pub run_all : (class : Class) (raw rest : List ℕ) → IsRunTo class raw rest → ¬ BeginsWith class rest → IsRun class raw (take (length raw - length rest) raw) (drop (length raw - length rest) raw)
run_all class raw rest r n =
    let cut = cut_front raw (encode_utf8_all r.cs) rest r.is in record {
      is = sym (take-append-drop (length raw - length rest) raw);
      made = (r.cs, sym cut.0, r.each);
      ends = subst (BeginsNo class) cut.1 (begins_no class rest n);
    }

pub run_within : (class : Class) (raw rest : List ℕ) → IsRunTo class raw rest → length rest ≤ length raw
run_within class raw rest r = omega (arith, ap length r.is, length-append (encode_utf8_all r.cs) rest)

-- the first character of a text is a scalar value
pub is_scalar : (text more : List ℕ) (c : ℕ) → IsUtf8 text → text ≡ encode_utf8 c ++ more → IsScalar c
is_scalar text more c (cs, (s, e)) f =
    let k = cons_from_encodes cs more c (e ∙ f) in
    first_scalar c k.0 (ap all_scalars (sym k.1) ∙ s)
  where
    first_scalar : (c : ℕ) (cs : List ℕ) → all_scalars (c ∷ cs) ≡ true → IsScalar c
    first_scalar c cs e = ((and-eq-true_iff _ _).0 e).0
