-- The longest tag at the front of a text.
use Rattle.std.proofs.Common.{◌≡◌, ◌≢◌, ◌+◌, ◌-◌, ◌<◌, ◌≤◌, ℕ, List, [], ◌∷◌, ◌++◌, length, take, drop, false, refl, sym, ap, subst, ◌∙◌, append_assoc, arith, inl, inr}
use Rattle.std.specs.Prelude.{All, ◌⊎◌}
use Rattle.std.specs.Char.{encode_utf8}
use Rattle.std.specs.Str.{encode_utf8_all}
use Rattle.std.proofs.lemmas.Bool.{false≢true}
use Rattle.std.proofs.lemmas.List.{length-append, append-nil, nil_from_length, take-append-drop}
use Rattle.std.proofs.lemmas.List.Elements.{All-head, All-tail}
use Rattle.std.proofs.lemmas.Str.{encode_same, encodes-append}
use Rattle.dl_text.specs.Going.{Goes, stop, go}
use Rattle.dl_text.proofs.GoingLaws.{goes_push}
use Rattle.dl_runs.specs.declared.runs.Class.{Class}
use Rattle.dl_runs.specs.declared.runs.Class.TheVariants as classes
use Rattle.dl_runs.specs.Classes.{is_of, IsOf, IsMadeOf, IsSome, IsLongest, IsSubtag, IsTag}
use Rattle.dl_runs.specs.Runs.{BeginsNo, IsRun}
use Rattle.dl_runs.proofs.CharLaws.{cut_front}
use Rattle.dl_runs.proofs.NameLaws.{front_of, tail_is, run_bound}

-- no subtags in front of raw are longer
abbrev pub IsBoundedBy : List ℕ → ℕ → Type 0
IsBoundedBy raw n = (other behind : List ℕ) (parts : List (List ℕ)) → raw ≡ other ++ behind → Goes IsSubtag other parts [] → length other ≤ n

-- a hyphen is neither letter nor digit
hyphen : (class : Class) (c : ℕ) (x y : List ℕ) → is_of class 45 ≡ false → 45 ∷ x ≡ encode_utf8 c ++ y → ¬ IsOf class c
unfolding encode_utf8
hyphen class c x y n e (s, t) = let same = (encode_same 45 c x y e).0 in false≢true (sym n ∙ ap (is_of class) same ∙ t)

goes_first : (other : List ℕ) (parts : List (List ℕ)) → Goes IsSubtag other parts [] → (other ≡ []) ⊎ ((part rest : List ℕ) × (ps : List (List ℕ)) × IsSome classes.LetterOrDigit part × (other ≡ 45 ∷ (part ++ rest)) × Goes IsSubtag rest ps [])
goes_first other parts (stop s) = inl refl
goes_first other parts (go s m e o os (i, k) h) = inr (o, m, os, i, k, h)

all_at : (P : ℕ → Type 0) (bs cs : List ℕ) (c : ℕ) → All P (bs ++ c ∷ cs) → P c
all_at P [] cs c a = All-head P c cs a
all_at P (b ∷ bs) cs c a = all_at P bs cs c (All-tail P b (bs ++ c ∷ cs) a)

cancel : (ys m n : List ℕ) → ys ++ m ≡ ys ++ n → m ≡ n
cancel [] m n e = e
cancel (y ∷ ys) m n e = cancel ys m n (cc)

-- a run of the class and subtags behind it are no longer than the longest run and subtags
piece_bound : (class : Class) → is_of class 45 ≡ false → (part more o r behind : List ℕ) (n : ℕ) (ps : List (List ℕ)) → IsMadeOf class part → BeginsNo class more → IsMadeOf class o
    → Goes IsSubtag r ps [] → part ++ more ≡ o ++ (r ++ behind) → IsBoundedBy more n → length o + length r ≤ length part + n
piece_bound class h part more o r behind n ps (as_, made, a) ends (bs, other, d) g e b =
    let meet : encode_utf8_all as_ ++ more ≡ encode_utf8_all bs ++ (r ++ behind) = ap (λ (z : List ℕ). z ++ more) (sym made) ∙ e ∙ ap (λ (z : List ℕ). z ++ (r ++ behind)) other in
    let fr = front_of class as_ bs more (r ++ behind) meet d ends in
    on fr.0 fr.1 meet
  where
    on : (cs : List ℕ) → as_ ≡ bs ++ cs → encode_utf8_all as_ ++ more ≡ encode_utf8_all bs ++ (r ++ behind) → length o + length r ≤ length part + n
    on [] j meet =
        let same : as_ ≡ bs = j ∙ append-nil bs in
        let rests : more ≡ r ++ behind = cancel (encode_utf8_all bs) more (r ++ behind) (ap (λ (z : List ℕ). encode_utf8_all z ++ more) (sym same) ∙ meet) in
        let l = b r behind ps rests g in
        omega (arith, l, ap length made, ap length other, ap (λ (z : List ℕ). length (encode_utf8_all z)) same)
    on (c ∷ cs) j meet =
        let all : encode_utf8_all as_ ≡ encode_utf8_all bs ++ (encode_utf8 c ++ encode_utf8_all cs) = ap encode_utf8_all j ∙ encodes-append bs (c ∷ cs) in
        let rests : encode_utf8 c ++ (encode_utf8_all cs ++ more) ≡ r ++ behind =
        cancel (encode_utf8_all bs) (encode_utf8 c ++ (encode_utf8_all cs ++ more)) (r ++ behind)
        (ap (λ (z : List ℕ). encode_utf8_all bs ++ z) (sym (append_assoc (encode_utf8 c) (encode_utf8_all cs) more)) ∙ sym (append_assoc (encode_utf8_all bs) (encode_utf8 c ++ encode_utf8_all cs) more)
        ∙ ap (λ (z : List ℕ). z ++ more) (sym all) ∙ meet) in
        first (goes_first r ps g) rests (omega (arith, ap length made, ap length other, ap length all, length-append (encode_utf8_all bs) (encode_utf8 c ++ encode_utf8_all cs)))
        (all_at (IsOf class) bs cs c (subst (All (IsOf class)) j a))
      where
        first : (r ≡ []) ⊎ ((part rest : List ℕ) × (ps : List (List ℕ)) × IsSome classes.LetterOrDigit part × (r ≡ 45 ∷ (part ++ rest)) × Goes IsSubtag rest ps [])
            → encode_utf8 c ++ (encode_utf8_all cs ++ more) ≡ r ++ behind → length o ≤ length part → IsOf class c → length o + length r ≤ length part + n
        first (inl k) rests l i = omega (arith, l, ap length k)
        first (inr (p, rest, qs, s, k, x)) rests l i =
            absurd (hyphen class c ((p ++ rest) ++ behind) (encode_utf8_all cs ++ more) h (sym (rests ∙ ap (λ (z : List ℕ). z ++ behind) k)) i)

-- one subtag more
bounded_more : (here part more : List ℕ) (n : ℕ) → here ≡ 45 ∷ (part ++ more) → IsMadeOf classes.LetterOrDigit part → BeginsNo classes.LetterOrDigit more → IsBoundedBy more n → IsBoundedBy here (n + (1 + length part))
bounded_more here part more n e made ends b other behind parts f g = on (goes_first other parts g)
  where
    on : (other ≡ []) ⊎ ((o r : List ℕ) × (ps : List (List ℕ)) × IsSome classes.LetterOrDigit o × (other ≡ 45 ∷ (o ++ r)) × Goes IsSubtag r ps []) → length other ≤ n + (1 + length part)
    on (inl k) = omega (arith, ap length k)
    on (inr (o, r, ps, i, k, h)) =
        let tails : part ++ more ≡ o ++ (r ++ behind) = tail_is 45 45 (part ++ more) (o ++ (r ++ behind)) (sym e ∙ f ∙ ap (λ (z : List ℕ). z ++ behind) k ∙ ap (λ (z : List ℕ). 45 ∷ z) (append_assoc o r behind)) in
        let l = piece_bound classes.LetterOrDigit refl part more o r behind n ps made ends i.1 h tails b in
        omega (arith, l, ap length k, length-append o r)

-- subtags in front of something else
shift : (s e x : List ℕ) (ps : List (List ℕ)) → Goes IsSubtag s ps e → Goes IsSubtag (s ++ x) ps (e ++ x)
shift s e x ps (stop v) = stop (v ++ x)
shift s e x ps (go v m w o os (i, k) g) = go (v ++ x) (m ++ x) (w ++ x) o os (i, ap (λ (z : List ℕ). z ++ x) k ∙ ap (λ (z : List ℕ). 45 ∷ z) (append_assoc o m x)) (shift m w x os g)

-- so far letters and subtags
pub record IsTagTo (raw here : List ℕ) : Type 0 where
  pub letters : List ℕ
  pub subtags : List ℕ
  pub parts : List (List ℕ)
  pub some : IsSome classes.Letter letters
  pub ends : BeginsNo classes.Letter (subtags ++ here)
  pub goes : Goes IsSubtag subtags parts []
  pub is : raw ≡ letters ++ (subtags ++ here)
  pub bounded : (n : ℕ) → IsBoundedBy here n → IsBoundedBy (subtags ++ here) (n + length subtags)

pub tag_letters : (raw letters rest : List ℕ) → IsRun classes.Letter raw letters rest → letters ≢ [] → IsTagTo raw rest
tag_letters raw letters rest r n = record {
  letters = letters;
  subtags = [];
  parts = [];
  some = (n, r.made);
  ends = r.ends;
  goes = stop [];
  is = r.is;
  bounded = λ n b other behind ps e g. let l = b other behind ps e g in omega (arith, l);
}

pub tag_more : (raw here part more : List ℕ) → IsTagTo raw here → IsSubtag here part more → BeginsNo classes.LetterOrDigit more → IsTagTo raw more
tag_more raw here part more t (i, e) ends =
    let along : t.subtags ++ here ≡ (t.subtags ++ (45 ∷ part)) ++ more = ap (λ (z : List ℕ). t.subtags ++ z) e ∙ sym (append_assoc t.subtags (45 ∷ part) more) in record {
      letters = t.letters;
      subtags = t.subtags ++ (45 ∷ part);
      parts = t.parts ++ part ∷ [];
      some = t.some;
      ends = subst (BeginsNo classes.Letter) along t.ends;
      goes = goes_push IsSubtag (t.subtags ++ (45 ∷ part)) (45 ∷ part) [] t.parts part (shift t.subtags [] (45 ∷ part) t.parts t.goes) (i, ap (λ (z : List ℕ). 45 ∷ z) (sym (append-nil part)));
      is = t.is ∙ ap (λ (z : List ℕ). t.letters ++ z) along;
      bounded = λ n b other behind ps f g.
          let l = t.bounded (n + (1 + length part)) (bounded_more here part more n e i.1 ends b) other behind ps (along ∙ f) g in
          omega (arith, l, length-append t.subtags (45 ∷ part));
    }

pub tag_within : (raw here : List ℕ) → IsTagTo raw here → length here ≤ length raw
tag_within raw here t = omega (arith, ap length t.is, length-append t.letters (t.subtags ++ here), length-append t.subtags here)

-- nothing stands behind the tag that goes on with it
pub tag_all : (raw here : List ℕ) → IsTagTo raw here → ((part rest : List ℕ) → ¬ IsSubtag here part rest) → IsLongest IsTag raw (take (length raw - length here) raw) (drop (length raw - length here) raw)
tag_all raw here t n =
    let front : List ℕ = t.letters ++ t.subtags in
    let whole : raw ≡ front ++ here = t.is ∙ sym (append_assoc t.letters t.subtags here) in
    let cut = cut_front raw front here whole in record {
      is = sym (take-append-drop (length raw - length here) raw);
      such = (t.letters, t.subtags, t.parts, t.some, t.goes, sym cut.0);
      longest = λ other behind e s. long other behind e s (omega (arith, ap length cut.0, length-append t.letters t.subtags));
    }
  where
    none : IsBoundedBy here 0
    none other behind ps e g = on (goes_first other ps g)
      where
        on : (other ≡ []) ⊎ ((part rest : List ℕ) × (ps : List (List ℕ)) × IsSome classes.LetterOrDigit part × (other ≡ 45 ∷ (part ++ rest)) × Goes IsSubtag rest ps []) → length other ≤ 0
        on (inl k) = omega (arith, ap length k)
        on (inr (p, r, qs, i, k, h)) = absurd (n p (r ++ behind) (i, e ∙ ap (λ (z : List ℕ). z ++ behind) k ∙ ap (λ (z : List ℕ). 45 ∷ z) (append_assoc p r behind)))

    long : (other behind : List ℕ) → raw ≡ other ++ behind → IsTag other → length t.letters + length t.subtags ≤ length (take (length raw - length here) raw) → length other ≤ length (take (length raw - length here) raw)
    long other behind e (first, more, ps, s, g, k) l =
        let b = piece_bound classes.Letter refl t.letters (t.subtags ++ here) first more behind (0 + length t.subtags) ps t.some.1 t.ends s.1 g
        (sym t.is ∙ e ∙ ap (λ (z : List ℕ). z ++ behind) k ∙ append_assoc first more behind) (t.bounded 0 none) in
        omega (arith, b, l, ap length k, length-append first more)

pub subtag_shorter : (here part more : List ℕ) → IsSubtag here part more → length more < length here
subtag_shorter here part more (i, e) = omega (arith, ap length e, length-append part more)

-- no tag without letters
pub no_tag : (raw letters rest : List ℕ) → IsRun classes.Letter raw letters rest → length letters ≡ 0 → (tag behind : List ℕ) → ¬ IsLongest IsTag raw tag behind
no_tag raw letters rest r n tag behind l = on l.such l.is
  where
    on : IsTag tag → raw ≡ tag ++ behind → ⊥
    on (first, more, ps, s, g, e) k =
        let b = run_bound classes.Letter raw letters rest first (more ++ behind) r (k ∙ ap (λ (z : List ℕ). z ++ behind) e ∙ append_assoc first more behind) s.1 in
        s.0 (nil_from_length first (omega (arith, b, n)))
