-- What stands inside quotes.
use Rattle.std.proofs.Common.{◌≡◌, ◌≢◌, ◌-◌, ℕ, List, [], ◌∷◌, ◌++◌, length, take, refl, sym, ap, subst, ◌∙◌, append_assoc, arith}
use Rattle.std.specs.Prelude.{All}
use Rattle.std.proofs.lemmas.List.{take_at, length-append}
use Rattle.std.proofs.lemmas.List.Elements.{All-head, All-tail}
use Rattle.dl_text.specs.Going.{Goes, stop, go}
use Rattle.dl_text.specs.Escapes.{joined}
use Rattle.dl_text.proofs.GoingLaws.{goes_append, goes_push, goes_one}
use Rattle.dl_text.proofs.EscapeLaws.{singles}
use Rattle.dl_runs.specs.Quotes.{InText, single, pair, IsQuoted}

pub in_text_one : (s m n o p : List ℕ) → InText s o m → InText s p n → (o ≡ p) × (m ≡ n)
in_text_one s m n o p (single b x y e f) (single c z w g h) = (cc, cc)
in_text_one s m n o p (single b x y e f) (pair c g h) = absurd (y cc)
in_text_one s m n o p (pair c g h) (single b x y e f) = absurd (y cc)
in_text_one s m n o p (pair b e f) (pair c g h) = (cc, cc)

pub heads : (a b : ℕ) (xs ys : List ℕ) → a ∷ xs ≡ b ∷ ys → a ≡ b
heads a b xs ys e = cc

pub stops_at_quote : (s m o : List ℕ) → ¬ InText (34 ∷ s) o m
stops_at_quote s m o (single b x y e f) = absurd (x (sym (heads 34 b s m e)))
stops_at_quote s m o (pair c g h) = absurd (omega (arith, heads 34 92 s (c ∷ m) g))

pub stops_at_end : (m o : List ℕ) → ¬ InText [] o m
stops_at_end m o (single b x y e f) = cc
stops_at_end m o (pair c g h) = cc

pub stops_at_backslash : (m o : List ℕ) → ¬ InText (92 ∷ []) o m
stops_at_backslash m o (single b x y e f) = absurd (y (sym (heads 92 b [] m e)))
stops_at_backslash m o (pair c g h) = cc

abbrev pub IsPlain : ℕ → Type 0
IsPlain c = (c ≢ 34) × (c ≢ 92)

text_run : (front after : List ℕ) → All IsPlain front → Goes InText (front ++ after) (singles front) after
text_run [] after a = stop after
text_run (b ∷ bs) after a =
    let h = All-head IsPlain b bs a in
    go (b ∷ (bs ++ after)) (bs ++ after) after (b ∷ []) (singles bs) (single b h.0 h.1 refl refl) (text_run bs after (All-tail IsPlain b bs a))

out_is : (s m o : List ℕ) → InText s o m → s ≡ o ++ m
out_is s m o (single b x y e f) = e ∙ ap (λ zs. zs ++ m) (sym f)
out_is s m o (pair c g h) = g ∙ ap (λ zs. zs ++ m) (sym h)

pub text_is : (s e : List ℕ) (ps : List (List ℕ)) → Goes InText s ps e → s ≡ joined ps ++ e
text_is s e ps (stop v) = refl
text_is s e ps (go v w x o qs k r) = out_is v w o k ∙ ap (λ zs. o ++ zs) (text_is w x qs r) ∙ sym (append_assoc o (joined qs) e)

-- raw goes inside the quotes as far as here
abbrev pub IsInside : List ℕ → List ℕ → Type 0
IsInside raw here = (ps : List (List ℕ)) × Goes InText raw ps here

pub inside_run : (raw here front after : List ℕ) → IsInside raw here → here ≡ front ++ after → All IsPlain front → IsInside raw after
inside_run raw here front after (ps, g) e a =
    (ps ++ singles front, goes_append InText raw here after ps (singles front) g (subst (λ zs. Goes InText zs (singles front) after) (sym e) (text_run front after a)))

pub inside_pair : (raw after more : List ℕ) (e : ℕ) → IsInside raw (92 ∷ after) → after ≡ e ∷ more → IsInside raw more
inside_pair raw after more e (ps, g) is =
    (ps ++ (92 ∷ e ∷ []) ∷ [], goes_push InText raw (92 ∷ after) more ps (92 ∷ e ∷ []) g (pair e (ap (λ zs. 92 ∷ zs) is) refl))

pub quoted_at : (raw rest : List ℕ) → IsInside raw (34 ∷ rest) → IsQuoted raw (take (length raw - length rest - 1) raw) rest
quoted_at raw rest (ps, g) =
    let is = text_is raw (34 ∷ rest) ps g in
    let long : length (joined ps) ≡ length raw - length rest - 1 = omega (arith, ap length is, length-append (joined ps) (34 ∷ rest)) in
    (ps, g, ap (take (length raw - length rest - 1)) is ∙ take_at (joined ps) (34 ∷ rest) (length raw - length rest - 1) long)

pub never_quoted : (raw here inner rest : List ℕ) → IsInside raw here → ((m o : List ℕ) → ¬ InText here o m) → ((s : List ℕ) → here ≢ 34 ∷ s) → ¬ IsQuoted raw inner rest
never_quoted raw here inner rest (ps, g) last n (qs, h, e) =
    n rest (goes_one InText in_text_one raw here (34 ∷ rest) ps qs g h last (stops_at_quote rest)).1
