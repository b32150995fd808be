-- The longest words, labels and prefixed names at the front of a text.
use Rattle.std.proofs.Common.{◌≡◌, ◌≢◌, ◌-◌, ◌≤◌, ℕ, List, [], ◌∷◌, ◌++◌, length, take, drop, true, false, refl, sym, ap, subst, ◌∙◌, append_assoc, arith, inl, inr}
use Rattle.std.specs.Prelude.{All, Bool, ◌==◌}
use Rattle.std.proofs.lemmas.Bool.{eqb-true, eq-eqb}
use Rattle.std.specs.Char.{encode_utf8}
use Rattle.std.specs.Str.{encode_utf8_all}
use Rattle.std.proofs.lemmas.Bool.{false≢true}
use Rattle.std.proofs.lemmas.List.{length-append, append-nil, nil_from_length, take_rest, length-drop}
use Rattle.std.proofs.lemmas.List.Elements.{All-head, All-tail, All-nil, All-cons, All-append}
use Rattle.std.proofs.lemmas.Str.{encode_same, encodes-append}
use Rattle.dl_runs.specs.declared.runs.Class.{Class}
use Rattle.dl_runs.specs.declared.runs.Class.TheVariants as classes
use Rattle.dl_runs.specs.Classes.{is_of, IsOf, IsMadeOf, BeginsWith, IsSome, IsLongest, IsName, IsPrefix, IsSubtag, IsComment, EndsLine}
use Rattle.dl_runs.specs.Runs.{BeginsNo, IsRun, IsUndotted}

pub whole_comment : (bytes : List ℕ) → All (λ c. (c ≢ 13) × (c ≢ 10)) bytes → IsComment bytes (take (length bytes - length bytes) (drop (length bytes) bytes))
whole_comment bytes a =
    let nil : take (length bytes - length bytes) (drop (length bytes) bytes) ≡ [] =
    take_rest bytes (length bytes) ∙ nil_from_length (drop (length bytes) bytes) (omega (arith, length-drop (length bytes) bytes)) in
    record {
      inner = bytes;
      is = sym (append-nil bytes) ∙ ap (λ (z : List ℕ). bytes ++ z) (sym nil);
      inside = a;
      ends = subst EndsLine (sym nil) tt;
    }

-- characters of the class are a front of the run
pub front_of : (class : Class) (as_ bs x y : List ℕ) → encode_utf8_all as_ ++ x ≡ encode_utf8_all bs ++ y → All (IsOf class) bs → BeginsNo class x → (cs : List ℕ) × (as_ ≡ bs ++ cs)
front_of class as_ [] x y e a n = (as_, refl)
front_of class [] (b ∷ bs) x y e a n = absurd (n b (encode_utf8_all bs ++ y) (All-head (IsOf class) b bs a) (e ∙ append_assoc (encode_utf8 b) (encode_utf8_all bs) y))
front_of class (c ∷ as_) (b ∷ bs) x y e a n =
    let same = encode_same c b (encode_utf8_all as_ ++ x) (encode_utf8_all bs ++ y) (sym (append_assoc (encode_utf8 c) (encode_utf8_all as_) x) ∙ e ∙ append_assoc (encode_utf8 b) (encode_utf8_all bs) y) in
    let on = front_of class as_ bs x y same.1 (All-tail (IsOf class) b bs a) n in
    (on.0, ap (λ (z : ℕ). z ∷ as_) same.0 ∙ ap (λ (z : List ℕ). b ∷ z) on.1)

pub bound : (as_ bs cs : List ℕ) → as_ ≡ bs ++ cs → length (encode_utf8_all bs) ≤ length (encode_utf8_all as_)
bound as_ bs cs e = omega (arith, ap (λ (z : List ℕ). length (encode_utf8_all z)) e, ap length (encodes-append bs cs), length-append (encode_utf8_all bs) (encode_utf8_all cs))

pub run_bound : (class : Class) (raw front rest other behind : List ℕ) → IsRun class raw front rest → raw ≡ other ++ behind → IsMadeOf class other → length other ≤ length front
run_bound class raw front rest other behind r e (bs, is, a) =
    let as_ = r.made.0 in
    let meet = ap (λ (z : List ℕ). z ++ rest) (sym r.made.1) ∙ sym r.is ∙ e ∙ ap (λ (z : List ℕ). z ++ behind) is in
    let on = front_of class as_ bs rest behind meet a r.ends in
    let b = bound as_ bs on.0 on.1 in
    omega (arith, b, ap length r.made.1, ap length is)

pub some_longest : (class : Class) (raw front rest : List ℕ) → IsRun class raw front rest → front ≢ [] → IsLongest (IsSome class) raw front rest
some_longest class raw front rest r n = record { is = r.is; such = (n, r.made); longest = λ other behind e s. run_bound class raw front rest other behind r e s.1 }

pub some_never : (class : Class) (raw front rest : List ℕ) → IsRun class raw front rest → length front ≡ 0 → (word behind : List ℕ) → ¬ IsLongest (IsSome class) raw word behind
some_never class raw front rest r n word behind l =
    let b = run_bound class raw front rest word behind r l.is l.such.1 in
    l.such.0 (nil_from_length word (omega (arith, b, n)))

-- dots at the end are no part of what doesn't end in a dot
all_dots : (os zs : List ℕ) (o : ℕ) → All (λ c. c ≡ 46) (o ∷ (os ++ zs)) → (front : List ℕ) × (o ∷ os ≡ front ++ 46 ∷ [])
all_dots [] zs o a = ([], ap (λ (z : ℕ). z ∷ []) (All-head (λ c. c ≡ 46) o zs a))
all_dots (p ∷ os) zs o a = let on = all_dots os zs p (All-tail (λ c. c ≡ 46) o (p ∷ (os ++ zs)) a) in (o ∷ on.0, ap (λ (z : List ℕ). o ∷ z) on.1)

pub dotless : (cs dots os zs : List ℕ) → cs ++ dots ≡ os ++ zs → All (λ c. c ≡ 46) dots → ((front : List ℕ) → os ≢ front ++ 46 ∷ []) → (z : List ℕ) × (cs ≡ os ++ z)
dotless cs dots [] zs e a n = (cs, refl)
dotless [] dots (o ∷ os) zs e a n = let on = all_dots os zs o (subst (All (λ c. c ≡ 46)) e a) in absurd (n on.0 on.1)
dotless (c ∷ cs) dots (o ∷ os) zs e a n =
    let on = dotless cs dots os zs (cc) a (λ front k. n (o ∷ front) (ap (λ (z : List ℕ). o ∷ z) k)) in
    let same : c ≡ o = cc in
    (on.0, ap (λ (z : ℕ). z ∷ cs) same ∙ ap (λ (z : List ℕ). o ∷ z) on.1)

pub joined_rest : (class : Class) (raw front rest : List ℕ) → (u : IsUndotted class raw front rest) → raw ≡ encode_utf8_all (u.cs ++ u.dots) ++ u.behind
joined_rest class raw front rest u =
    u.is ∙ ap (λ (z : List ℕ). z ++ rest) u.front_is ∙ ap (λ (z : List ℕ). encode_utf8_all u.cs ++ z) u.rest_is ∙ sym (append_assoc (encode_utf8_all u.cs) (encode_utf8_all u.dots) u.behind)
    ∙ ap (λ (z : List ℕ). z ++ u.behind) (sym (encodes-append u.cs u.dots))

-- a name with no dot at its end is a front of the run without its dots
pub name_bound : (class : Class) (raw front rest behind os : List ℕ) → (u : IsUndotted class raw front rest) → raw ≡ encode_utf8_all os ++ behind → All (IsOf class) os → ((f : List ℕ) → os ≢ f ++ 46 ∷ [])
    → (z : List ℕ) × (u.cs ≡ os ++ z)
name_bound class raw front rest behind os u e a n =
    let on = front_of class (u.cs ++ u.dots) os u.behind behind (sym (joined_rest class raw front rest u) ∙ e) a u.ends in
    dotless u.cs u.dots os on.0 on.1 u.each_dot n

-- the prefix
pub colon_ends : (after : List ℕ) → BeginsNo classes.Prefix (58 ∷ after)
unfolding encode_utf8
colon_ends after c behind (s, t) e =
    let same = (encode_same 58 c after behind e).0 in
    false≢true (ap (is_of classes.Prefix) same ∙ t)

dots_of : (dots : List ℕ) → All (λ c. c ≡ 46) dots → All (IsOf classes.Prefix) dots
dots_of [] a = All-nil (IsOf classes.Prefix)
dots_of (d ∷ dots) a =
    All-cons (IsOf classes.Prefix) d dots (subst (IsOf classes.Prefix) (sym (All-head (λ c. c ≡ 46) d dots a)) (refl, refl)) (dots_of dots (All-tail (λ c. c ≡ 46) d dots a))

-- the characters of a prefix
abbrev pub PrefixCharacters : List ℕ → Type 0
PrefixCharacters prefix = (ps : List ℕ) × (prefix ≡ encode_utf8_all ps) × All (IsOf classes.Prefix) ps × ((front : List ℕ) → ps ≢ front ++ 46 ∷ [])

no_end : (front : List ℕ) → ¬ ([] ≡ front ++ 46 ∷ [])
no_end [] e = cc
no_end (x ∷ front) e = cc

pub prefix_characters : (prefix : List ℕ) → IsPrefix prefix → PrefixCharacters prefix
prefix_characters prefix (inl k) = ([], k, All-nil (IsOf classes.Prefix), λ front e. no_end front e)
prefix_characters prefix (inr k) = (k.cs, k.is, k.each, k.ends)

pub equal_by_length : (xs ys z : List ℕ) → xs ≡ ys ++ z → length xs ≤ length ys → xs ≡ ys
equal_by_length xs ys z e l = let nil : z ≡ [] = nil_from_length z (omega (arith, ap length e, length-append ys z, l)) in e ∙ ap (λ (w : List ℕ). ys ++ w) nil ∙ append-nil ys

pub rest_same : (xs ys m n : List ℕ) → xs ≡ ys → xs ++ m ≡ ys ++ n → m ≡ n
rest_same xs ys m n e f = cancel ys m n (ap (λ (z : List ℕ). z ++ m) (sym e) ∙ f)
  where
    cancel : (ys m n : List ℕ) → ys ++ m ≡ ys ++ n → m ≡ n
    cancel [] m n e = e
    cancel (y ∷ ys) m n e = cancel ys m n (cc)

-- what a colon ends is all of the run, and has no dot at its end
pub prefix_is : (bytes front rest prefix after : List ℕ) → IsUndotted classes.Prefix bytes front rest → bytes ≡ prefix ++ 58 ∷ after → IsPrefix prefix → (prefix ≡ front) × (rest ≡ 58 ∷ after)
prefix_is bytes front rest prefix after u e p = on (prefix_characters prefix p)
  where
    on : PrefixCharacters prefix → (prefix ≡ front) × (rest ≡ 58 ∷ after)
    on (ps, is, a, n) =
        let at_colon : bytes ≡ encode_utf8_all ps ++ 58 ∷ after = e ∙ ap (λ (z : List ℕ). z ++ 58 ∷ after) is in
        let short = name_bound classes.Prefix bytes front rest (58 ∷ after) ps u at_colon a n in
        let long = front_of classes.Prefix ps (u.cs ++ u.dots) (58 ∷ after) u.behind (sym at_colon ∙ joined_rest classes.Prefix bytes front rest u)
        (All-append (IsOf classes.Prefix) u.cs u.dots u.each (dots_of u.dots u.each_dot)) (colon_ends after) in
        let same : u.cs ≡ ps = equal_by_length u.cs ps short.0 short.1 (omega (arith, ap length long.1, length-append (u.cs ++ u.dots) long.0, length-append u.cs u.dots)) in
        let front_same : prefix ≡ front = is ∙ ap encode_utf8_all (sym same) ∙ sym u.front_is in
        (front_same, rest_same front prefix rest (58 ∷ after) (sym front_same) (sym u.is ∙ e))

pub prefix_begins : (front rest bytes more : List ℕ) (c : ℕ) → IsUndotted classes.Prefix bytes front rest → front ≡ encode_utf8 c ++ more → IsOf classes.Base c → IsPrefix front
prefix_begins front rest bytes more c u e i = inr (record { cs = u.cs; is = u.front_is; begins = (c, more, e, i); each = u.each; ends = u.last })

-- a prefix has a base letter in front
pub prefix_never : (bytes front rest prefix after : List ℕ) → IsUndotted classes.Prefix bytes front rest → front ≢ [] → ¬ BeginsWith classes.Base front → bytes ≡ prefix ++ 58 ∷ after → ¬ IsPrefix prefix
prefix_never bytes front rest prefix after u n b e p = on p (prefix_is bytes front rest prefix after u e p).0
  where
    on : IsPrefix prefix → prefix ≡ front → ⊥
    on (inl k) same = n (sym same ∙ k)
    on (inr k) same = b (subst (BeginsWith classes.Base) same k.begins)

pub tail_is : (b d : ℕ) (xs ys : List ℕ) → b ∷ xs ≡ d ∷ ys → xs ≡ ys
tail_is b d xs ys e = cc

-- letters and digits in front of those of another subtag
pub no_subtag : (bytes after part rest : List ℕ) → bytes ≡ 45 ∷ after → IsRun classes.LetterOrDigit after part rest → length part ≡ 0 → (other behind : List ℕ) → ¬ IsSubtag bytes other behind
no_subtag bytes after part rest e r n other behind (s, f) =
    let is : after ≡ other ++ behind = tail_is 45 45 after (other ++ behind) (sym e ∙ f) in
    let b = run_bound classes.LetterOrDigit after part rest other behind r is s.1 in
    s.0 (nil_from_length other (omega (arith, b, n)))

pub none_there : (b : Bool) (xs : List ℕ) → b ≡ (length xs == 0) → b ≡ true → length xs ≡ 0
none_there b xs e t = eqb-true (length xs) 0 (sym e ∙ t)

pub some_there : (b : Bool) (xs : List ℕ) → b ≡ (length xs == 0) → b ≡ false → xs ≢ []
some_there b xs e f k = false≢true (sym f ∙ e ∙ eq-eqb (length xs) 0 (ap length k))

pub no_byte : (b : ℕ) (bytes : List ℕ) → length bytes ≡ 0 → (after : List ℕ) → bytes ≢ b ∷ after
no_byte b bytes n after e = omega (arith, n, ap length e)

pub other_byte : (b d : ℕ) (bytes behind : List ℕ) → bytes ≡ d ∷ behind → d ≢ b → (after : List ℕ) → bytes ≢ b ∷ after
other_byte b d bytes behind e n after f = let same = sym e ∙ f in n (cc)

-- a name that begins as it must is the longest
pub name_longest : (first more : Class) (bytes front rest behind : List ℕ) (c : ℕ) → IsUndotted more bytes front rest → front ≡ encode_utf8 c ++ behind → IsOf first c
    → IsLongest (IsName first more) bytes front rest
name_longest first more bytes front rest behind c u e i = record {
  is = u.is;
  such = record { cs = u.cs; is = u.front_is; begins = (c, behind, e, i); each = u.each; ends = u.last };
  longest = λ other past f k.
      let on = name_bound more bytes front rest past k.cs u (f ∙ ap (λ (z : List ℕ). z ++ past) k.is) k.each k.ends in
      let b = bound u.cs k.cs on.0 on.1 in
      omega (arith, b, ap length k.is, ap length u.front_is);
}

pub name_never : (first more : Class) (bytes front rest : List ℕ) → IsUndotted more bytes front rest → ¬ BeginsWith first front → (name behind : List ℕ) → ¬ IsLongest (IsName first more) bytes name behind
name_never first more bytes front rest u n name behind l =
    let k = l.such in
    let on = name_bound more bytes front rest behind k.cs u (l.is ∙ ap (λ (z : List ℕ). z ++ behind) k.is) k.each k.ends in
    let c = k.begins.0 in
    let tail = k.begins.1 in
    let is : front ≡ encode_utf8 c ++ (tail ++ encode_utf8_all on.0) =
    u.front_is ∙ ap encode_utf8_all on.1 ∙ encodes-append k.cs on.0 ∙ ap (λ (z : List ℕ). z ++ encode_utf8_all on.0) (sym k.is ∙ k.begins.2) ∙ append_assoc (encode_utf8 c) tail (encode_utf8_all on.0) in
    n (c, tail ++ encode_utf8_all on.0, is, k.begins.3)
