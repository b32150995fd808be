-- What stands inside quotes.
use Rattle.std.proofs.Common.{◌≡◌, ◌≢◌, ◌-◌, ◌<◌, ◌≤◌, ℕ, List, [], ◌∷◌, ◌++◌, length, take, refl, sym, ap, subst, ◌∙◌, append_assoc, arith, inl, inr}
use Rattle.std.specs.Prelude.{MatchOption, Option, Some, None, ◌⊎◌}
use Rattle.std.proofs.lemmas.List.{take_at, length-append}
use Rattle.dl_text.specs.Going.{Goes, stop, go}
use Rattle.dl_text.specs.Escapes.{joined}
use Rattle.dl_text.proofs.GoingLaws.{goes_push, goes_one}
use Rattle.update_read.specs.declared.texts.Quotes.{Quotes}
use Rattle.update_read.specs.declared.texts.Quotes.TheVariants as quotes
use Rattle.update_read.specs.Cutting.{EndsAt, MayStand, InText, single, pair, IsQuoted, BeginsTwo, IsString}

pub heads : (a b : ℕ) (xs ys : List ℕ) → a ∷ xs ≡ b ∷ ys → a ≡ b
heads a b xs ys e = cc

pub tails : (a b : ℕ) (xs ys : List ℕ) → a ∷ xs ≡ b ∷ ys → xs ≡ ys
tails a b xs ys e = cc

module _ (quote : ℕ) (kind : Quotes) where
  out_is : (s m o : List ℕ) → InText quote kind s o m → s ≡ o ++ m
  out_is s m o (single c n x y e f) = e ∙ ap (λ (zs : List ℕ). zs ++ m) (sym f)
  out_is s m o (pair c y g h) = g ∙ ap (λ (zs : List ℕ). zs ++ m) (sym h)

  pub text_is : (s e : List ℕ) (ps : List (List ℕ)) → Goes (InText quote kind) s ps e → s ≡ joined ps ++ e
  text_is s e ps (stop v) = refl
  text_is s e ps (go v w x o qs k r) = out_is v w o k ∙ ap (λ (zs : List ℕ). o ++ zs) (text_is w x qs r) ∙ sym (append_assoc o (joined qs) e)

  pub piece_shorter : (s m o : List ℕ) → InText quote kind s o m → length m < length s
  piece_shorter s m o (single c n x y e f) = omega (arith, ap length e)
  piece_shorter s m o (pair c y g h) = omega (arith, ap length g)

  pub in_text_one : (s m n o p : List ℕ) → InText quote kind s o m → InText quote kind s p n → (o ≡ p) × (m ≡ n)
  in_text_one s m n o p (single b i x y e f) (single c j z w g h) = (cc, cc)
  in_text_one s m n o p (single b i x y e f) (pair c w g h) = absurd (x (heads b 92 m (c ∷ n) (sym e ∙ g)))
  in_text_one s m n o p (pair c w g h) (single b i x y e f) = absurd (x (heads b 92 n (c ∷ m) (sym e ∙ g)))
  in_text_one s m n o p (pair b y e f) (pair c w g h) = (cc, cc)

  pub ends_first : (k : Quotes) (s rest : List ℕ) → EndsAt quote k s rest → (more : List ℕ) × (s ≡ quote ∷ more)
  ends_first quotes.One s rest e = (rest, e)
  ends_first quotes.Three s rest e = (quote ∷ quote ∷ rest, e)

  pub ends_one : (k : Quotes) (s m n : List ℕ) → EndsAt quote k s m → EndsAt quote k s n → m ≡ n
  ends_one quotes.One s m n e f = tails quote quote m n (sym e ∙ f)
  ends_one quotes.Three s m n e f = cc

  -- quotes that end a string are no piece of it
  pub stops_at_end : quote ≢ 92 → (s rest m o : List ℕ) → EndsAt quote kind s rest → ¬ InText quote kind s o m
  stops_at_end q s rest m o e (single c n x y g h) = n rest e
  stops_at_end q s rest m o e (pair c y g h) =
      let first = ends_first kind s rest e in
      q (heads quote 92 first.0 (c ∷ m) (sym first.1 ∙ g))

  -- raw goes inside the quotes as far as here
  abbrev pub IsInside : List ℕ → List ℕ → Type 0
  IsInside raw here = (ps : List (List ℕ)) × Goes (InText quote kind) raw ps here

  pub inside_more : (raw here behind out : List ℕ) → IsInside raw here → InText quote kind here out behind → IsInside raw behind
  inside_more raw here behind out (ps, g) i = (ps ++ out ∷ [], goes_push (InText quote kind) raw here behind ps out g i)

  pub inside_within : (raw here : List ℕ) → IsInside raw here → length here ≤ length raw
  inside_within raw here (ps, g) = omega (arith, ap length (text_is raw here ps g), length-append (joined ps) here)

  pub quoted_at : (raw here rest : List ℕ) → IsInside raw here → EndsAt quote kind here rest → IsQuoted quote kind raw (take (length raw - length here) raw) rest
  quoted_at raw here rest (ps, g) e =
      let is = text_is raw here ps g in
      let long : length (joined ps) ≡ length raw - length here = omega (arith, ap length is, length-append (joined ps) here) in
      record { pieces = ps; end = here; goes = g; ends = e; is = ap (take (length raw - length here)) is ∙ take_at (joined ps) here (length raw - length here) long }

  pub never_quoted : quote ≢ 92 → (raw here inner rest : List ℕ) → IsInside raw here → ((r : List ℕ) → ¬ EndsAt quote kind here r) → ((o m : List ℕ) → ¬ InText quote kind here o m) → ¬ IsQuoted quote kind raw inner rest
  never_quoted q raw here inner rest (ps, g) n last k =
      let one = goes_one (InText quote kind) in_text_one raw here k.end ps k.pieces g k.goes (λ m o. last o m) (λ m o. stops_at_end q k.end rest m o k.ends) in
      n rest (subst (λ (z : List ℕ). EndsAt quote kind z rest) (sym one.1) k.ends)

  pub quoted_one : quote ≢ 92 → (raw v w m n : List ℕ) → IsQuoted quote kind raw v m → IsQuoted quote kind raw w n → (v ≡ w) × (m ≡ n)
  quoted_one q raw v w m n h k =
      let one = goes_one (InText quote kind) in_text_one raw h.end k.end h.pieces k.pieces h.goes k.goes (λ a o. stops_at_end q h.end m a o h.ends) (λ a o. stops_at_end q k.end n a o k.ends) in
      (h.is ∙ ap joined one.0 ∙ sym k.is, ends_one kind k.end m n (subst (λ (z : List ℕ). EndsAt quote kind z m) one.1 h.ends) k.ends)

  -- a backslash with what stands behind it
  pub pair_answer : {X : Type 0} → (here bs : List ℕ) (b : ℕ) (o : Option X) (g : X → List ℕ) → here ≡ b ∷ bs → b ≡ 92
      → MatchOption o ((e : ℕ) (m : List ℕ) → MayStand kind e → ¬ (bs ≡ e ∷ m)) (λ x. (e : ℕ) × MayStand kind e × (bs ≡ e ∷ g x))
      → MatchOption o ((out m : List ℕ) → ¬ InText quote kind here out m) (λ x. (out : List ℕ) × InText quote kind here out (g x))
  pair_answer here bs b None g e is n = λ out m h. never out m h
    where
      never : (out m : List ℕ) → ¬ InText quote kind here out m
      never out m (single c i x y f h) = x (sym (heads b c bs m (sym e ∙ f)) ∙ is)
      never out m (pair c y f h) = n c m y (tails b 92 bs (c ∷ m) (sym e ∙ f))
  pair_answer here bs b (Some x) g e is (c, y, f) = (92 ∷ c ∷ [], pair c y (e ∙ ap (λ (z : ℕ). z ∷ bs) is ∙ ap (λ (zs : List ℕ). 92 ∷ zs) f) refl)

pub quote_is : (quote : ℕ) → ((quote ≡ 34) ⊎ (quote ≡ 39)) → quote ≢ 92
quote_is quote (inl e) f = omega (arith, e, f)
quote_is quote (inr e) f = omega (arith, e, f)

two_one : (quote : ℕ) (m n : List ℕ) → quote ∷ quote ∷ m ≡ quote ∷ quote ∷ n → m ≡ n
two_one quote m n e = cc

-- a string of three quotes behind the first
pub long_answer : {X : Type 0} → (quote : ℕ) (bs after : List ℕ) (o : Option X) (f g : X → List ℕ) → bs ≡ quote ∷ quote ∷ after
    → MatchOption o ((inner rest : List ℕ) → ¬ IsQuoted quote quotes.Three after inner rest) (λ x. IsQuoted quote quotes.Three after (f x) (g x))
    → MatchOption o ((inner rest : List ℕ) → ¬ IsString quote bs inner rest) (λ x. IsString quote bs (f x) (g x))
long_answer quote bs after None f g e n = never
  where
    never : (inner rest : List ℕ) → ¬ IsString quote bs inner rest
    never inner rest (inl (other, k, q)) = n inner rest (subst (λ (z : List ℕ). IsQuoted quote quotes.Three z inner rest) (two_one quote other after (sym k ∙ e)) q)
    never inner rest (inr (k, q)) = k (after, e)
long_answer quote bs after (Some x) f g e q = inl (after, e, q)

-- a string of one quote behind it
pub short_answer : {X : Type 0} → (quote : ℕ) (bs : List ℕ) (o : Option X) (f g : X → List ℕ) → ¬ BeginsTwo quote bs
    → MatchOption o ((inner rest : List ℕ) → ¬ IsQuoted quote quotes.One bs inner rest) (λ x. IsQuoted quote quotes.One bs (f x) (g x))
    → MatchOption o ((inner rest : List ℕ) → ¬ IsString quote bs inner rest) (λ x. IsString quote bs (f x) (g x))
short_answer quote bs None f g e n = never
  where
    never : (inner rest : List ℕ) → ¬ IsString quote bs inner rest
    never inner rest (inl (other, k, q)) = e (other, k)
    never inner rest (inr (k, q)) = n inner rest q
short_answer quote bs (Some x) f g e q = inr (e, q)
