-- The longest front, a string, a comment and a prefix are cut in one way.
use Rattle.std.proofs.Common.{◌≡◌, ◌≢◌, ℕ, List, [], ◌∷◌, ◌++◌, length, refl, sym, ap, subst, ◌∙◌, arith, inl, inr}
use Rattle.std.specs.Prelude.{All, ◌⊎◌}
use Rattle.std.specs.Str.{encode_utf8_all}
use Rattle.std.proofs.lemmas.List.{length-append}
use Rattle.std.proofs.lemmas.List.Elements.{All-head, All-tail}
use Rattle.dl_runs.specs.declared.runs.Class.TheVariants as classes
use Rattle.dl_runs.specs.Classes.{IsLongest, IsComment, EndsLine}
use Rattle.dl_text.specs.Escapes.{joined}
use Rattle.dl_text.proofs.GoingLaws.{goes_one}
use Rattle.dl_runs.specs.Quotes.{InText, IsQuoted}
use Rattle.dl_runs.proofs.TextLaws.{in_text_one, stops_at_quote}
use Rattle.dl_runs.proofs.NameLaws.{front_of, PrefixCharacters, colon_ends, rest_same, equal_by_length, tail_is}

pub same_front : (xs ys m n : List ℕ) → length xs ≡ length ys → xs ++ m ≡ ys ++ n → (xs ≡ ys) × (m ≡ n)
same_front [] [] m n l e = (refl, e)
same_front [] (y ∷ ys) m n l e = absurd (omega arith)
same_front (x ∷ xs) [] m n l e = absurd (omega arith)
same_front (x ∷ xs) (y ∷ ys) m n l e =
    let on = same_front xs ys m n (omega arith) (cc) in
    let head : x ≡ y = cc in
    (ap (λ (z : ℕ). z ∷ xs) head ∙ ap (λ (z : List ℕ). y ∷ z) on.0, on.1)

pub longest_one : (Is : List ℕ → Type 0) (raw p q m n : List ℕ) → IsLongest Is raw p m → IsLongest Is raw q n → (p ≡ q) × (m ≡ n)
longest_one Is raw p q m n h k =
    let a = h.longest q n k.is k.such in
    let b = k.longest p m h.is h.such in
    same_front p q m n (omega (arith, a, b)) (sym h.is ∙ k.is)

pub front_one : (b : ℕ) (xs ys m n : List ℕ) → xs ++ b ∷ m ≡ ys ++ b ∷ n → All (λ c. c ≢ b) xs → All (λ c. c ≢ b) ys → (xs ≡ ys) × (m ≡ n)
front_one b [] [] m n e p q = (refl, cc)
front_one b [] (y ∷ ys) m n e p q = let same : y ≡ b = cc in absurd (All-head (λ c. c ≢ b) y ys q same)
front_one b (x ∷ xs) [] m n e p q = let same : x ≡ b = cc in absurd (All-head (λ c. c ≢ b) x xs p same)
front_one b (x ∷ xs) (y ∷ ys) m n e p q =
    let on = front_one b xs ys m n (cc) (All-tail (λ c. c ≢ b) x xs p) (All-tail (λ c. c ≢ b) y ys q) in
    let same : x ≡ y = cc in
    (ap (λ (z : ℕ). z ∷ xs) same ∙ ap (λ (z : List ℕ). y ∷ z) on.0, on.1)

abbrev pub IsInner : ℕ → Type 0
IsInner c = (c ≢ 13) × (c ≢ 10)

not_inner : (b : ℕ) → ((b ≡ 13) ⊎ (b ≡ 10)) → IsInner b → ⊥
not_inner b (inl e) i = i.0 e
not_inner b (inr e) i = i.1 e

line_one : (xs ys m n : List ℕ) → xs ++ m ≡ ys ++ n → All IsInner xs → All IsInner ys → EndsLine m → EndsLine n → m ≡ n
line_one [] [] m n e p q h k = e
line_one [] (y ∷ ys) [] n e p q h k = cc
line_one [] (y ∷ ys) (b ∷ m) n e p q h k = let same : y ≡ b = cc in absurd (not_inner b h (subst IsInner same (All-head IsInner y ys q)))
line_one (x ∷ xs) [] m [] e p q h k = cc
line_one (x ∷ xs) [] m (b ∷ n) e p q h k = let same : x ≡ b = cc in absurd (not_inner b k (subst IsInner same (All-head IsInner x xs p)))
line_one (x ∷ xs) (y ∷ ys) m n e p q h k = line_one xs ys m n (cc) (All-tail IsInner x xs p) (All-tail IsInner y ys q) h k

pub comment_one : (raw m n : List ℕ) → IsComment raw m → IsComment raw n → m ≡ n
comment_one raw m n h k = line_one h.inner k.inner m n (sym h.is ∙ k.is) h.inside k.inside h.ends k.ends

pub quoted_one : (raw v w m n : List ℕ) → IsQuoted raw v m → IsQuoted raw w n → (v ≡ w) × (m ≡ n)
quoted_one raw v w m n (ps, g, e) (qs, h, f) =
    let one = goes_one InText in_text_one raw (34 ∷ m) (34 ∷ n) ps qs g h (stops_at_quote m) (stops_at_quote n) in
    (e ∙ ap joined one.0 ∙ sym f, tail_is 34 34 m n one.1)

pub prefix_one : (raw p q a b : List ℕ) → raw ≡ p ++ 58 ∷ a → raw ≡ q ++ 58 ∷ b → PrefixCharacters p → PrefixCharacters q → (p ≡ q) × (a ≡ b)
prefix_one raw p q a b e f (ps, h, x, s) (qs, k, y, t) =
    let left : raw ≡ encode_utf8_all ps ++ 58 ∷ a = e ∙ ap (λ (z : List ℕ). z ++ 58 ∷ a) h in
    let right : raw ≡ encode_utf8_all qs ++ 58 ∷ b = f ∙ ap (λ (z : List ℕ). z ++ 58 ∷ b) k in
    let forth = front_of classes.Prefix ps qs (58 ∷ a) (58 ∷ b) (sym left ∙ right) y (colon_ends a) in
    let back = front_of classes.Prefix qs ps (58 ∷ b) (58 ∷ a) (sym right ∙ left) x (colon_ends b) in
    let same : ps ≡ qs = equal_by_length ps qs forth.0 forth.1 (omega (arith, ap length back.1, length-append ps back.0)) in
    let both : p ≡ q = h ∙ ap encode_utf8_all same ∙ sym k in
    (both, tail_is 58 58 a b (rest_same p q (58 ∷ a) (58 ∷ b) both (sym e ∙ f)))
