-- At each place of raw text stands one piece at most.
use Rattle.std.proofs.Common.{◌≡◌, ◌≢◌, ◌<◌, ℕ, List, [], ◌∷◌, ◌++◌, length, Option, Some, None, Bool, true, false, if◌then◌else◌, ◌==◌, refl, sym, ap, subst, ◌∙◌, append_assoc, arith}
use Rattle.std.specs.Prelude.{All, codes, nat_lt}
use Rattle.std.specs.Char.{encode_utf8}
use Rattle.std.specs.List.{flat_map, list_any, list_all}
use Rattle.std.proofs.lemmas.Bool.{false≢true}
use Rattle.std.proofs.lemmas.Bool.Decides.{nat_tests}
use Rattle.std.proofs.lemmas.Option.{none-some}
use Rattle.std.proofs.lemmas.Str.{encode_ascii}
use Rattle.std.proofs.lemmas.List.{append-nil}
use Rattle.std.proofs.lemmas.List.Elements.{All-head, All-tail}
use Rattle.dl_text.specs.Going.{Goes, stop, go}
use Rattle.dl_text.specs.Escapes.{backslash, is_local_escape, short_of, width_of, Stands, plain, short, coded, joined, Undoes}
use Rattle.dl_text.specs.declared.escapes.Escapes.{Escapes}
use Rattle.dl_text.specs.declared.escapes.Escapes.TheVariants.{Iri, Full, Owl, Local}
use Rattle.dl_text.proofs.GoingLaws.{goes_append, goes_push, goes_through, goes_cases}

same_some : {X : Type 0} (o : Option X) (x y : X) → o ≡ Some x → o ≡ Some y → x ≡ y
same_some o x y h k = cc

-- no byte behind a backslash is both
pub apart : (rule : Escapes) (e b n : ℕ) → short_of rule e ≡ Some b → width_of rule e ≡ Some n → ⊥
apart Iri e b n h k = cc
apart Owl e b n h k = cc
apart Local e b n h k = cc
apart Full e b n h k = grind arith

same_front : (ds es x y : List ℕ) → length ds ≡ length es → ds ++ x ≡ es ++ y → (ds ≡ es) × (x ≡ y)
same_front [] [] x y l e = (refl, e)
same_front [] (b ∷ es) x y l e = absurd (omega arith)
same_front (a ∷ ds) [] x y l e = absurd (omega arith)
same_front (a ∷ ds) (b ∷ es) x y l e =
    let on = same_front ds es x y (omega arith) (cc) in
    let head : a ≡ b = cc in
    (ap (λ z. z ∷ ds) head ∙ ap (λ zs. b ∷ zs) on.0, on.1)

-- where a value is given only if a test holds, it holds
given : (t : Bool) (e b : ℕ) → (if t then Some e else None) ≡ Some b → (t ≡ true) × (e ≡ b)
given true e b h = (refl, same_some (Some b) e b (sym h) refl)
given false e b h = absurd (none-some b h)

-- what is among numbers below 128 is below 128
among_below : (e : ℕ) (cs : List ℕ) → list_all (λ c. nat_lt c 128) cs ≡ true → list_any (λ c. e == c) cs ≡ true → e < 128
among_below e [] a h = absurd (false≢true h)
among_below e (c ∷ cs) a h = grind (arith, nat_tests, among_below e cs)

below : (rule : Escapes) (e b : ℕ) → short_of rule e ≡ Some b → b < 128
below Iri e b h = cc
below Owl e b h = grind arith
below Local e b h = let is = given (is_local_escape e) e b h in let low = among_below e (codes "_~.-!$&'()*+,;=/?#@%") refl is.0 in omega (arith, is.1, low)
below Full e b h = grind arith

pub short_character : (rule : Escapes) (e b : ℕ) → short_of rule e ≡ Some b → encode_utf8 b ≡ b ∷ []
short_character rule e b h = encode_ascii b (below rule e b h)

pub stands_one : (rule : Escapes) (s m n o p : List ℕ) → Stands rule s o m → Stands rule s p n → (o ≡ p) × (m ≡ n)
stands_one rule s m n o p (plain b x e f) (plain c y g h) = (cc, cc)
stands_one rule s m n o p (plain b x e f) (short c d y g h) = absurd (x cc)
stands_one rule s m n o p (plain b x e f) (coded k c ds w y g h) = absurd (x cc)
stands_one rule s m n o p (short c d y g h) (plain b x e f) = absurd (x cc)
stands_one rule s m n o p (short a b x e f) (short c d y g h) =
    let same : a ≡ c = cc in
    let out : b ≡ d = same_some (short_of rule a) b d x (ap (short_of rule) same ∙ y) in
    (cc, cc)
stands_one rule s m n o p (short a b x e f) (coded k c ds w y g h) =
    let same : a ≡ k = cc in
    absurd (apart rule a b (length ds) x (ap (width_of rule) same ∙ w))
stands_one rule s m n o p (coded k c ds w y g h) (plain b x e f) = absurd (x cc)
stands_one rule s m n o p (coded k c ds w y g h) (short a b x e f) =
    let same : a ≡ k = cc in
    absurd (apart rule a b (length ds) x (ap (width_of rule) same ∙ w))
stands_one rule s m n o p (coded k c ds w y g h) (coded k' c' ds' w' y' g' h') =
    let same : k ≡ k' = cc in
    let tails : ds ++ m ≡ ds' ++ n = cc in
    let long : length ds ≡ length ds' = same_some (width_of rule k) (length ds) (length ds') w (ap (width_of rule) same ∙ w') in
    let parts = same_front ds ds' m n long tails in
    let code : c ≡ c' = y.value ∙ ap (Rattle.std.specs.Str.Parse.digits_value 16) parts.0 ∙ sym y'.value in
    (h ∙ ap encode_utf8 code ∙ sym h', parts.1)

pub nothing_at_end : (rule : Escapes) (m o : List ℕ) → ¬ Stands rule [] o m
nothing_at_end rule m o (plain b x e f) = cc
nothing_at_end rule m o (short c d y g h) = cc
nothing_at_end rule m o (coded k c ds w y g h) = cc

abbrev pub singles : List ℕ → List (List ℕ)
singles [] = []
singles (b ∷ bs) = (b ∷ []) ∷ singles bs

pub joined-singles : (bs : List ℕ) → joined (singles bs) ≡ bs
joined-singles [] = refl
joined-singles (b ∷ bs) = ap (λ zs. b ∷ zs) (joined-singles bs)

pub joined-append : (ps qs : List (List ℕ)) → joined (ps ++ qs) ≡ joined ps ++ joined qs
joined-append [] qs = refl
joined-append (p ∷ ps) qs = ap (λ zs. p ++ zs) (joined-append ps qs) ∙ sym (append_assoc p (joined ps) (joined qs))

-- bytes that are no backslash stand for themselves
pub plain_run : (rule : Escapes) (front after : List ℕ) → All (λ b. b ≢ backslash) front → Goes (Stands rule) (front ++ after) (singles front) after
plain_run rule [] after a = stop after
plain_run rule (b ∷ bs) after a =
    go (b ∷ (bs ++ after)) (bs ++ after) after (b ∷ []) (singles bs) (plain b (All-head (λ b. b ≢ backslash) b bs a) refl refl)
    (plain_run rule bs after (All-tail (λ b. b ≢ backslash) b bs a))

-- raw goes as far as here, and stands for text so far
pub record IsUndoneTo (rule : Escapes) (raw text here : List ℕ) : Type 0 where
  pub pieces : List (List ℕ)
  pub goes : Goes (Stands rule) raw pieces here
  pub is : text ≡ joined pieces

pub undone_none : (rule : Escapes) (raw : List ℕ) → IsUndoneTo rule raw [] raw
undone_none rule raw = record { pieces = []; goes = stop raw; is = refl }

pub undone_run : (rule : Escapes) (raw text here front after : List ℕ) → IsUndoneTo rule raw text here → here ≡ front ++ after → All (λ b. b ≢ backslash) front
    → IsUndoneTo rule raw (text ++ front) after
undone_run rule raw text here front after u e a = record {
  pieces = u.pieces ++ singles front;
  goes = goes_append (Stands rule) raw here after u.pieces (singles front) u.goes (subst (λ zs. Goes (Stands rule) zs (singles front) after) (sym e) (plain_run rule front after a));
  is = ap (λ zs. zs ++ front) u.is ∙ ap (λ zs. joined u.pieces ++ zs) (sym (joined-singles front)) ∙ sym (joined-append u.pieces (singles front));
}

pub undone_more : (rule : Escapes) (raw text here out after : List ℕ) → IsUndoneTo rule raw text here → Stands rule here out after → IsUndoneTo rule raw (text ++ out) after
undone_more rule raw text here out after u s = record {
  pieces = u.pieces ++ out ∷ [];
  goes = goes_push (Stands rule) raw here after u.pieces out u.goes s;
  is = ap (λ zs. zs ++ out) u.is ∙ ap (λ zs. joined u.pieces ++ zs) (sym (append-nil out)) ∙ sym (joined-append u.pieces (out ∷ []));
}

pub undone_all : (rule : Escapes) (raw text : List ℕ) → IsUndoneTo rule raw text [] → Undoes rule raw text
undone_all rule raw text u = (u.pieces, u.goes, u.is)

-- where nothing stands, there is no text
pub undone_never : (rule : Escapes) (raw so_far here text : List ℕ) → IsUndoneTo rule raw so_far here → (here ≢ []) → ((out rest : List ℕ) → ¬ Stands rule here out rest) → ¬ Undoes rule raw text
undone_never rule raw so_far here text u n stuck (ps, g, e) =
    let on = goes_through (Stands rule) (stands_one rule) raw here [] u.pieces ps u.goes g (nothing_at_end rule) in
    n (goes_cases (Stands rule) here [] on.0 on.1 (λ m o. stuck o m)).1

-- raw text stands for one text at most
pub undoes_one : (rule : Escapes) (raw text other : List ℕ) → Undoes rule raw text → Undoes rule raw other → text ≡ other
undoes_one rule raw text other (ps, g, e) (qs, h, f) =
    e ∙ ap joined (Rattle.dl_text.proofs.GoingLaws.goes_one (Stands rule) (stands_one rule) raw [] [] ps qs g h (nothing_at_end rule) (nothing_at_end rule)).0 ∙ sym f
