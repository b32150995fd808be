-- Where no prefix stands.
use Rattle.std.proofs.Common.{◌≡◌, ◌≢◌, ◌<◌, ◌≤◌, ◌-◌, ℕ, List, [], ◌∷◌, ◌++◌, length, take, drop, Bool, true, false, refl, sym, ap, subst, ◌∙◌, append_assoc, arith, inl, inr, ⊎_elim}
use Rattle.std.specs.Prelude.{All, ◌⊎◌, ◌||◌, nat_le}
use Rattle.std.specs.Char.{encode_utf8}
use Rattle.std.specs.Str.{encode_utf8_all}
use Rattle.std.proofs.lemmas.Bool.{false≢true, cases_lt}
use Rattle.std.proofs.lemmas.Bool.Decides.{nat_tests}
use Rattle.std.proofs.lemmas.List.{append-nil, length-append, nil_from_length, take_at}
use Rattle.std.proofs.lemmas.List.Elements.{All-nil, All-cons, All-head, All-tail, All-append, All-weaker}
use Rattle.std.proofs.lemmas.Str.{encode_ascii}
use Rattle.dl_text.proofs.IriCharacters.{IsHigh, high}
use Rattle.dl_runs.specs.declared.runs.Class.TheVariants as classes
use Rattle.dl_runs.specs.Classes.{is_of, IsOf, IsPrefix}
use Rattle.dl_runs.proofs.CharLaws.{shorter}
use Rattle.dl_runs.proofs.NameLaws.{PrefixCharacters, prefix_characters}
use Rattle.update_read.specs.Ahead.{is_name_byte, IsBehindNames, IsPrefixless}

abbrev IsNameByte : ℕ → Type 0
IsNameByte b = is_name_byte b ≡ true

or_right : (a b : Bool) → b ≡ true → (a || b) ≡ true
or_right true b e = refl
or_right false b e = e

high_name : (b : ℕ) → 128 ≤ b → IsNameByte b
high_name b l = grind (arith, nat_tests)

bytes_high : (bs : List ℕ) → IsHigh bs → All IsNameByte bs
bytes_high [] h = absurd h
bytes_high (b ∷ bs) h = All-cons IsNameByte b bs (high_name b h.0) (All-weaker (λ x. 128 ≤ x) IsNameByte high_name bs h.1)

-- the bytes of characters of a prefix
names : (cs : List ℕ) → All (IsOf classes.Prefix) cs → All IsNameByte (encode_utf8_all cs)
names [] a = All-nil IsNameByte
names (c ∷ cs) a =
    let rest = names cs (All-tail (IsOf classes.Prefix) c cs a) in
    ⊎_elim
    (λ l. All-append IsNameByte (encode_utf8 c) (encode_utf8_all cs)
    (subst (All IsNameByte) (sym (encode_ascii c l)) (All-cons IsNameByte c [] (or_right (nat_le 128 c) (is_of classes.Prefix c) (All-head (IsOf classes.Prefix) c cs a).1) (All-nil IsNameByte))) rest)
    (λ h. All-append IsNameByte (encode_utf8 c) (encode_utf8_all cs) (bytes_high (encode_utf8 c) (high c h)) rest)
    (cases_lt c 128)

-- name bytes up to a colon, and name bytes up to another byte
meet : (xs ys m n : List ℕ) → xs ++ 58 ∷ m ≡ ys ++ n → All IsNameByte xs → All IsNameByte ys → ((b : ℕ) (bs : List ℕ) → n ≡ b ∷ bs → is_name_byte b ≡ false) → (xs ≡ ys) × (58 ∷ m ≡ n)
meet [] [] m n e a c k = (refl, e)
meet [] (y ∷ ys) m n e a c k =
    let same : 58 ≡ y = cc in
    absurd (false≢true (ap is_name_byte same ∙ All-head IsNameByte y ys c))
meet (x ∷ xs) [] m n e a c k = absurd (false≢true (sym (k x (xs ++ 58 ∷ m) (sym e)) ∙ All-head IsNameByte x xs a))
meet (x ∷ xs) (y ∷ ys) m n e a c k =
    let same : x ≡ y = cc in
    let on = meet xs ys m n (cc) (All-tail IsNameByte x xs a) (All-tail IsNameByte y ys c) k in
    (ap (λ (z : ℕ). z ∷ xs) same ∙ ap (λ (z : List ℕ). y ∷ z) on.0, on.1)

-- ---- what ends with a dot byte ends with a dot
behind_front : (xs ys q : List ℕ) → ys ≢ [] → xs ++ ys ≡ q ++ 46 ∷ [] → (p : List ℕ) × (ys ≡ p ++ 46 ∷ [])
behind_front [] ys q n e = (q, e)
behind_front (x ∷ xs) ys [] n e = let none : xs ++ ys ≡ [] = cc in absurd (n (nil_from_length ys (let l = ap length none in omega (arith, l, length-append xs ys))))
behind_front (x ∷ xs) ys (z ∷ q) n e = behind_front xs ys q n (cc)

high_end : (bs q : List ℕ) → All (λ x. 128 ≤ x) bs → bs ≡ q ++ 46 ∷ [] → ⊥
high_end [] [] a e = cc
high_end [] (x ∷ q) a e = cc
high_end (b ∷ bs) [] a e = let same : b ≡ 46 = cc in let l = All-head (λ x. 128 ≤ x) b bs a in omega (arith, same, l)
high_end (b ∷ bs) (x ∷ q) a e = high_end bs q (All-tail (λ x. 128 ≤ x) b bs a) (cc)

all_high : (bs : List ℕ) → IsHigh bs → All (λ x. 128 ≤ x) bs
all_high [] h = absurd h
all_high (b ∷ bs) h = All-cons (λ x. 128 ≤ x) b bs h.0 h.1

ascii_end : (c : ℕ) (q : List ℕ) → c ∷ [] ≡ q ++ 46 ∷ [] → c ≡ 46
ascii_end c [] e = cc
ascii_end c (x ∷ []) e = cc
ascii_end c (x ∷ y ∷ q) e = cc

some_bytes : (d : ℕ) (ds : List ℕ) → encode_utf8_all (d ∷ ds) ≢ []
some_bytes d ds e = let l = shorter (encode_utf8_all (d ∷ ds)) (encode_utf8_all ds) d refl in omega (arith, l, ap length e)

dot_end : (cs q : List ℕ) → encode_utf8_all cs ≡ q ++ 46 ∷ [] → (f : List ℕ) × (cs ≡ f ++ 46 ∷ [])
dot_end [] [] e = cc
dot_end [] (x ∷ q) e = cc
dot_end (c ∷ []) q e =
    let one : encode_utf8 c ≡ q ++ 46 ∷ [] = sym (append-nil (encode_utf8 c)) ∙ e in
    ⊎_elim
    (λ l. ([], ap (λ (z : ℕ). z ∷ []) (ascii_end c q (sym (encode_ascii c l) ∙ one))))
    (λ h. absurd (high_end (encode_utf8 c) q (all_high (encode_utf8 c) (high c h)) one))
    (cases_lt c 128)
dot_end (c ∷ d ∷ cs) q e =
    let rest = behind_front (encode_utf8 c) (encode_utf8_all (d ∷ cs)) q (some_bytes d cs) e in
    let on = dot_end (d ∷ cs) rest.0 rest.1 in
    (c ∷ on.0, ap (λ (z : List ℕ). c ∷ z) on.1)

-- ---- nothing is known, and what is
pub nothing_known : (rest : List ℕ) → IsPrefixless rest (length rest)
nothing_known rest part s e l prefix after f p = omega (arith, l, ap length e, length-append part s)

pub known_behind : (rest front behind : List ℕ) (known : ℕ) → rest ≡ front ++ behind → IsPrefixless rest known → IsPrefixless behind known
known_behind rest front behind known e k part s f l = k (front ++ part) s (e ∙ ap (λ (z : List ℕ). front ++ z) f ∙ sym (append_assoc front part s)) l

-- a longer end of the text begins among the name bytes
inside : (front rest part s : List ℕ) → front ++ rest ≡ part ++ s → length rest < length s → All IsNameByte front → (more : List ℕ) × (s ≡ more ++ rest) × All IsNameByte more × (front ≡ part ++ more) × (more ≢ [])
inside front rest [] s e l a = (front, sym e, a, refl, λ n. omega (arith, l, ap length e, ap length n, length-append front rest))
inside [] rest (p ∷ part) s e l a = absurd (let m = ap length e in omega (arith, l, m, length-append part s))
inside (x ∷ front) rest (p ∷ part) s e l a =
    let same : x ≡ p = cc in
    let on = inside front rest part s (cc) l (All-tail IsNameByte x front a) in
    (on.0, on.1, on.2, ap (λ (z : ℕ). z ∷ front) same ∙ ap (λ (z : List ℕ). p ∷ z) on.3, on.4)

module _ (raw rest : List ℕ) (h : IsBehindNames raw rest) where
  -- a prefix among the name bytes takes all that are left of them, and the colon stands behind them
  found : (part s prefix after : List ℕ) → raw ≡ part ++ s → length rest < length s → s ≡ prefix ++ 58 ∷ after → IsPrefix prefix
      → (more : List ℕ) × (prefix ≡ more) × (58 ∷ after ≡ rest) × (h.front ≡ part ++ more) × (more ≢ [])
  found part s prefix after e l f p =
      let at = inside h.front rest part s (sym h.is ∙ e) l h.each in
      let cs = prefix_characters prefix p in
      let each = subst (All IsNameByte) (sym cs.1) (names cs.0 cs.2) in
      let both = meet prefix at.0 after rest (sym f ∙ at.1) each at.2 h.ends in
      (at.0, both.0, both.1, at.3, at.4)

  -- behind them stands no colon
  pub no_colon : ((after : List ℕ) → rest ≢ 58 ∷ after) → IsPrefixless raw (length rest)
  no_colon n part s e l prefix after f p = let g = found part s prefix after e l f p in n after (sym g.2)

  -- they end with a dot
  pub dotted : (front : List ℕ) → h.front ≡ front ++ 46 ∷ [] → IsPrefixless raw (length rest)
  dotted front d part s e l prefix after f p =
      let g = found part s prefix after e l f p in
      let end = behind_front part g.0 front g.4 (sym g.3 ∙ d) in
      let cs = prefix_characters prefix p in
      let dot = dot_end cs.0 end.0 (sym cs.1 ∙ g.1 ∙ end.1) in
      cs.3 dot.0 dot.1

  pub front_is : take (length raw - length rest) raw ≡ h.front
  front_is =
      let n : length h.front ≡ length raw - length rest = omega (arith, ap length h.is, length-append h.front rest) in
      ap (take (length raw - length rest)) h.is ∙ take_at h.front rest (length raw - length rest) n

  pub names_within : length rest ≤ length raw
  names_within = omega (arith, ap length h.is, length-append h.front rest)

-- so far name bytes
pub names_none : (raw : List ℕ) → (front : List ℕ) × (raw ≡ front ++ raw) × All IsNameByte front
names_none raw = ([], refl, All-nil IsNameByte)

pub names_more : (raw rest behind : List ℕ) (b : ℕ) → (front : List ℕ) × (raw ≡ front ++ rest) × All IsNameByte front → rest ≡ b ∷ behind → is_name_byte b ≡ true
    → (front : List ℕ) × (raw ≡ front ++ behind) × All IsNameByte front
names_more raw rest behind b (front, e, a) f t =
    (front ++ b ∷ [], e ∙ ap (λ (z : List ℕ). front ++ z) f ∙ sym (append_assoc front (b ∷ []) behind), All-append IsNameByte front (b ∷ []) a (All-cons IsNameByte b [] t (All-nil IsNameByte)))

pub names_stop : (raw rest behind : List ℕ) (b : ℕ) → (front : List ℕ) × (raw ≡ front ++ rest) × All IsNameByte front → rest ≡ b ∷ behind → is_name_byte b ≡ false → IsBehindNames raw rest
names_stop raw rest behind b (front, e, a) f t =
    record { front = front; is = e; each = a; ends = λ c bs g. ap is_name_byte (heads c b bs behind (sym g ∙ f)) ∙ t }
  where
    heads : (x y : ℕ) (xs ys : List ℕ) → x ∷ xs ≡ y ∷ ys → x ≡ y
    heads x y xs ys e = cc

pub names_end : (raw rest : List ℕ) → (front : List ℕ) × (raw ≡ front ++ rest) × All IsNameByte front → length rest ≡ 0 → IsBehindNames raw rest
names_end raw rest (front, e, a) n = record { front = front; is = e; each = a; ends = λ c bs g. absurd (let l = ap length g in omega (arith, l, n)) }
