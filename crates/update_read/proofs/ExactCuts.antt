-- A text is cut in one way.
use Rattle.std.proofs.Common.{◌≡◌, ◌≢◌, ◌<◌, ℕ, List, [], ◌∷◌, ◌++◌, length, Bool, true, false, Some, None, refl, sym, ap, subst, ◌∙◌, append_assoc, arith, inl, inr}
use Rattle.std.specs.Prelude.{All, ◌⊎◌, Option}
use Rattle.std.specs.Char.{encode_utf8, is_ascii_hexdigit}
use Rattle.std.proofs.lemmas.Bool.{false≢true}
use Rattle.std.proofs.lemmas.List.{length-append, append-nil}
use Rattle.std.proofs.lemmas.List.Elements.{All-head, All-tail, All-nil, All-cons}
use Rattle.std.proofs.lemmas.Str.{encode_same, encode_ascii}
use Rattle.dl_text.specs.Going.{Goes, stop, go}
use Rattle.dl_text.specs.Escapes.{joined, is_local_escape}
use Rattle.dl_text.specs.Values.{digits_of}
use Rattle.dl_text.proofs.GoingLaws.{goes_one, goes_append}
use Rattle.dl_runs.specs.declared.runs.Class.TheVariants as classes
use Rattle.dl_runs.specs.Classes.{is_of, IsOf, IsSome, IsLongest, IsName, IsBlank, IsTag, IsPrefix}
use Rattle.dl_runs.proofs.ExactLaws.{same_front, longest_one, front_one, comment_one, prefix_one}
use Rattle.dl_runs.proofs.NameLaws.{prefix_characters}
use Rattle.update_read.specs.declared.tokens.Mark.{Mark}
use Rattle.update_read.specs.declared.tokens.Mark.TheVariants as marks
use Rattle.update_read.specs.declared.texts.Quotes.TheVariants as quotes
use Rattle.update_read.specs.Cutting.{mark_of, IsString, LocalPiece, character, percent, escaped, IsLocalRun, IsLocal, IsNumber, IsPrefixed, CutsAt, Cuts}
use Rattle.update_read.specs.Shapes.{Shape, Gap, Variable, Blank, Sign, Number, Iri, Text, Tag, Word, Prefixed}
use Rattle.update_read.proofs.TextLaws.{heads, tails, quoted_one, quote_is}
use Rattle.update_read.proofs.LocalLaws.{pieces_are}
use Rattle.update_read.proofs.PieceLaws.{group_of, grouped, not_blank_sign}

-- ---- local parts
is_true : {P : Bool} → P ≡ false → P ≡ true → ⊥
is_true e f = false≢true (sym e ∙ f)

char_sign : (c b : ℕ) (m n : List ℕ) → b < 128 → is_of classes.Local b ≡ false → IsOf classes.Local c → encode_utf8 c ++ m ≡ b ∷ n → ⊥
char_sign c b m n l f i e =
    let same = (encode_same c b m n (e ∙ ap (λ (zs : List ℕ). zs ++ n) (sym (encode_ascii b l)))).0 in
    false≢true (sym f ∙ ap (is_of classes.Local) (sym same) ∙ i.1)

piece_one : (s m n o p : List ℕ) → LocalPiece classes.Local s o m → LocalPiece classes.Local s p n → (o ≡ p) × (m ≡ n)
piece_one s m n o p (character c i e f) (character d j g h) =
    let same = encode_same c d m n (sym e ∙ g) in (f ∙ ap encode_utf8 same.0 ∙ sym h, same.1)
piece_one s m n o p (character c i e f) (percent d x h k g j) = absurd (char_sign c 37 m (d ∷ x ∷ n) (omega arith) refl i (sym e ∙ g))
piece_one s m n o p (character c i e f) (escaped x h g j) = absurd (char_sign c 92 m (x ∷ n) (omega arith) refl i (sym e ∙ g))
piece_one s m n o p (percent d x h k g j) (character c i e f) = absurd (char_sign c 37 n (d ∷ x ∷ m) (omega arith) refl i (sym e ∙ g))
piece_one s m n o p (escaped x h g j) (character c i e f) = absurd (char_sign c 92 n (x ∷ m) (omega arith) refl i (sym e ∙ g))
piece_one s m n o p (percent d x h k g j) (percent a b c e f i) = (cc, cc)
piece_one s m n o p (percent d x h k g j) (escaped a c f i) = absurd (omega (arith, heads 37 92 (d ∷ x ∷ m) (a ∷ n) (sym g ∙ f)))
piece_one s m n o p (escaped a c f i) (percent d x h k g j) = absurd (omega (arith, heads 37 92 (d ∷ x ∷ n) (a ∷ m) (sym g ∙ f)))
piece_one s m n o p (escaped x h g j) (escaped a c f i) = (cc, cc)

-- dots one by one
singles : List ℕ → List (List ℕ)
singles [] = []
singles (d ∷ ds) = (46 ∷ []) ∷ singles ds

dots_go : (dots behind : List ℕ) → All (λ c. c ≡ 46) dots → Goes (LocalPiece classes.Local) (dots ++ behind) (singles dots) behind
unfolding singles
dots_go [] behind a = stop behind
dots_go (d ∷ ds) behind a =
    let is : d ≡ 46 = All-head (λ c. c ≡ 46) d ds a in
    go (d ∷ (ds ++ behind)) (ds ++ behind) behind (46 ∷ []) (singles ds)
    (character 46 (refl, refl) (ap (λ (z : ℕ). z ∷ (ds ++ behind)) is ∙ ap (λ (zs : List ℕ). zs ++ (ds ++ behind)) (sym (encode_ascii 46 (omega arith)))) (sym (encode_ascii 46 (omega arith))))
    (dots_go ds behind (All-tail (λ c. c ≡ 46) d ds a))

abbrev EndsWithDot : List (List ℕ) → Type 0
EndsWithDot xs = (front : List (List ℕ)) × (xs ≡ front ++ (46 ∷ []) ∷ [])

-- a front of dots ends with one
dots_end : (y : List ℕ) (ys zs : List (List ℕ)) (ds : List ℕ) → singles ds ≡ y ∷ (ys ++ zs) → EndsWithDot (y ∷ ys)
unfolding singles
dots_end y [] zs [] e = cc
dots_end y [] zs (d ∷ ds) e = let is : y ≡ 46 ∷ [] = cc in ([], ap (λ (z : List ℕ). z ∷ []) is)
dots_end y (x ∷ ys) zs [] e = cc
dots_end y (x ∷ ys) zs (d ∷ ds) e = let on = dots_end x ys zs ds (cc) in (y ∷ on.0, ap (λ (z : List (List ℕ)). y ∷ z) on.1)

dotless_one : (xs ys : List (List ℕ)) (ds es : List ℕ) → xs ++ singles ds ≡ ys ++ singles es → ¬ EndsWithDot xs → ¬ EndsWithDot ys → xs ≡ ys
dotless_one [] [] ds es e n m = refl
dotless_one [] (y ∷ ys) ds es e n m = absurd (m (dots_end y ys (singles es) ds e))
dotless_one (x ∷ xs) [] ds es e n m = absurd (n (dots_end x xs (singles ds) es (sym e)))
dotless_one (x ∷ xs) (y ∷ ys) ds es e n m =
    let same : x ≡ y = cc in
    let on = dotless_one xs ys ds es (cc) (λ h. n (x ∷ h.0, ap (λ (z : List (List ℕ)). x ∷ z) h.1)) (λ h. m (y ∷ h.0, ap (λ (z : List (List ℕ)). y ∷ z) h.1)) in
    ap (λ (z : List ℕ). z ∷ xs) same ∙ ap (λ (z : List (List ℕ)). y ∷ z) on

cancel : (ys m n : List ℕ) → ys ++ m ≡ ys ++ n → m ≡ n
cancel [] m n e = e
cancel (y ∷ ys) m n e = cancel ys m n (cc)

whole_run : (raw local rest : List ℕ) → (h : IsLocalRun raw local rest) → Goes (LocalPiece classes.Local) raw (h.pieces ++ singles h.dots) h.behind
whole_run raw local rest h =
    goes_append (LocalPiece classes.Local) raw rest h.behind h.pieces (singles h.dots) h.goes
    (subst (λ (z : List ℕ). Goes (LocalPiece classes.Local) z (singles h.dots) h.behind) (sym h.dotted) (dots_go h.dots h.behind h.each_dot))

run_one : (raw x y m n : List ℕ) → IsLocalRun raw x m → IsLocalRun raw y n → (x ≡ y) × (m ≡ n)
run_one raw x y m n h k =
    let one = goes_one (LocalPiece classes.Local) piece_one raw h.behind k.behind (h.pieces ++ singles h.dots) (k.pieces ++ singles k.dots) (whole_run raw x m h) (whole_run raw y n k)
    (λ a o. h.ends o a) (λ a o. k.ends o a) in
    let same = dotless_one h.pieces k.pieces h.dots k.dots one.0 (λ e. h.last e.0 e.1) (λ e. k.last e.0 e.1) in
    let locals : x ≡ y = h.is ∙ ap joined same ∙ sym k.is in
    (locals, cancel (joined k.pieces) m n (ap (λ (z : List (List ℕ)). joined z ++ m) (sym same) ∙ sym (pieces_are classes.Local raw m h.pieces h.goes) ∙ pieces_are classes.Local raw n k.pieces k.goes))

local_one : (raw x y m n : List ℕ) → IsLocal raw x m → IsLocal raw y n → (x ≡ y) × (m ≡ n)
local_one raw x y m n (inl (h, e, f)) (inl (k, g, j)) = (e ∙ sym g, f ∙ sym j)
local_one raw x y m n (inl (h, e, f)) (inr (k, g)) = absurd (h k)
local_one raw x y m n (inr (k, g)) (inl (h, e, f)) = absurd (h k)
local_one raw x y m n (inr (h, e)) (inr (k, g)) = run_one raw x y m n e g

prefixed_one : (raw p q x y m n : List ℕ) → IsPrefixed raw p x m → IsPrefixed raw q y n → (p ≡ q) × (x ≡ y) × (m ≡ n)
prefixed_one raw p q x y m n h j =
    let one = prefix_one raw p q h.after j.after h.is j.is (prefix_characters p h.is_prefix) (prefix_characters q j.is_prefix) in
    let local = local_one j.after x y m n (subst (λ (z : List ℕ). IsLocal z x m) one.1 h.is_local) j.is_local in
    (one.0, local.0, local.1)

-- ---- strings, numbers and signs
two_one : (quote : ℕ) (m n : List ℕ) → quote ∷ quote ∷ m ≡ quote ∷ quote ∷ n → m ≡ n
two_one quote m n e = cc

string_one : (quote : ℕ) (bs v w m n : List ℕ) → quote ≢ 92 → IsString quote bs v m → IsString quote bs w n → (v ≡ w) × (m ≡ n)
string_one quote bs v w m n q (inl (a, e, h)) (inl (c, f, k)) =
    quoted_one quote quotes.Three q c v w m n (subst (λ (z : List ℕ). Rattle.update_read.specs.Cutting.IsQuoted quote quotes.Three z v m) (two_one quote a c (sym e ∙ f)) h) k
string_one quote bs v w m n q (inl (a, e, h)) (inr (f, k)) = absurd (f (a, e))
string_one quote bs v w m n q (inr (f, k)) (inl (a, e, h)) = absurd (f (a, e))
string_one quote bs v w m n q (inr (e, h)) (inr (f, k)) = quoted_one quote quotes.One q bs v w m n h k

number_one : (raw t u m n : List ℕ) → IsNumber raw t m → IsNumber raw u n → (t ≡ u) × (m ≡ n)
number_one raw t u m n h k =
    let one = longest_one (IsSome classes.Digit) (digits_of raw) h.digits k.digits m n h.is_digits k.is_digits in
    let long = ap length h.is in
    let also = ap length k.is in
    let rests = ap length one.1 in
    same_front t u m n (omega (arith, long, also, rests, length-append t m, length-append u n)) (sym h.is ∙ k.is)

same_mark : (j k : Mark) (o : Option Mark) → o ≡ Some j → o ≡ Some k → j ≡ k
same_mark j k o e f = cc

no_mark_some : (k : Mark) → ¬ (None ≡ Some k)
no_mark_some k e = cc

sign_one : (b : ℕ) (bs : List ℕ) (j k : Mark) (m n : List ℕ) → CutsAt b bs (Sign j) m → CutsAt b bs (Sign k) n → (j ≡ k) × (m ≡ n)
sign_one b bs j k m n (inl (e, f)) (inl (g, h)) = (same_mark j k (mark_of b) e g, f ∙ sym h)
sign_one b bs j k m n (inl (e, f)) (inr (g, h, i)) = absurd (no_mark_some j (sym (ap mark_of g) ∙ e))
sign_one b bs j k m n (inr (g, h, i)) (inl (e, f)) = absurd (no_mark_some k (sym (ap mark_of g) ∙ e))
sign_one b bs j k m n (inr (e, f, g)) (inr (h, i, l)) = (g ∙ sym l, tails 94 94 m n (sym f ∙ i))

gap_one : (b : ℕ) (bs m n : List ℕ) → CutsAt b bs Gap m → CutsAt b bs Gap n → m ≡ n
gap_one b bs m n (inl (k, e)) (inl (l, f)) = e ∙ sym f
gap_one b bs m n (inr (k, c)) (inr (l, d)) = comment_one bs m n c d
gap_one b bs m n (inl (k, e)) (inr (l, d)) = absurd (not_blank_sign b l k)
gap_one b bs m n (inr (l, d)) (inl (k, e)) = absurd (not_blank_sign b l k)

-- ---- pieces of one group
same_group : (b : ℕ) (bs : List ℕ) (s t : Shape) (m n : List ℕ) → CutsAt b bs s m → CutsAt b bs t n → group_of s ≡ group_of t → (s ≡ t) × (m ≡ n)
same_group b bs Gap Gap m n h k e = (refl, gap_one b bs m n h k)
same_group b bs Variable Variable m n (h, (x, l)) (k, (y, j)) e = (refl, (longest_one (IsName classes.LabelStart classes.Variable) bs x y m n l j).1)
same_group b bs Blank Blank m n (h, (a, x, f, l)) (k, (c, y, g, o)) e =
    (refl, (longest_one (IsName classes.LabelStart classes.Prefix) c x y m n (subst (λ (z : List ℕ). IsLongest (IsName classes.LabelStart classes.Prefix) z x m) (tails 58 58 a c (sym f ∙ g)) l) o).1)
same_group b bs (Sign x) (Sign y) m n h k e = let one = sign_one b bs x y m n h k in (ap Sign one.0, one.1)
same_group b bs (Number x) (Number y) m n h k e = let one = number_one (b ∷ bs) x y m n h k in (ap Number one.0, one.1)
same_group b bs (Iri x) (Iri y) m n h k e = let one = front_one 62 x y m n (sym h.1 ∙ k.1) h.2 k.2 in (ap Iri one.0, one.1)
same_group b bs (Text x) (Text y) m n h k e = let one = string_one b bs x y m n (quote_is b h.0) h.1 k.1 in (ap Text one.0, one.1)
same_group b bs (Tag x) (Tag y) m n h k e = let one = longest_one IsTag bs x y m n h.1 k.1 in (ap Tag one.0, one.1)
same_group b bs (Word x) (Word y) m n h k e = let one = longest_one (IsSome classes.Letter) (b ∷ bs) x y m n h.0 k.0 in (ap Word one.0, one.1)
same_group b bs (Prefixed p x) (Prefixed q y) m n h k e =
    let one = prefixed_one (b ∷ bs) p q x y m n h k in (ap (λ (z : List ℕ). Prefixed z x) one.0 ∙ ap (λ (z : List ℕ). Prefixed q z) one.1, one.2)
same_group b bs (Word x) (Prefixed q y) m n h k e = absurd (h.1 q k.after k.is k.is_prefix)
same_group b bs (Prefixed p x) (Word y) m n h k e = absurd (k.1 p h.after h.is h.is_prefix)
same_group b bs s t m n h k e = absurd (omega (arith, e))

pub cuts_one : (here : List ℕ) (s t : Shape) (m n : List ℕ) → Cuts here s m → Cuts here t n → (s ≡ t) × (m ≡ n)
cuts_one [] s t m n h k = absurd h
cuts_one (b ∷ bs) s t m n h k = same_group b bs s t m n h k (sym (grouped b bs s m h) ∙ grouped b bs t n k)
