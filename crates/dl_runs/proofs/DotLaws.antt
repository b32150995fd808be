-- Runs of characters without the dots at their end.
use Rattle.std.proofs.Common.{◌≡◌, ◌≢◌, ◌-◌, ◌≤◌, ℕ, List, [], ◌∷◌, ◌++◌, length, take, drop, refl, sym, ap, ◌∙◌, append_assoc, arith, inl, inr}
use Rattle.std.specs.Prelude.{All, ◌⊎◌}
use Rattle.std.specs.Char.{encode_utf8}
use Rattle.std.specs.Str.{encode_utf8_all}
use Rattle.std.proofs.lemmas.List.{take-append-drop, length-append}
use Rattle.std.proofs.lemmas.List.Elements.{All-nil, All-cons, All-append}
use Rattle.std.proofs.lemmas.Str.{encode_same, encodes-append}
use Rattle.dl_runs.specs.declared.runs.Class.{Class}
use Rattle.dl_runs.specs.Classes.{IsOf, BeginsWith}
use Rattle.dl_runs.specs.Runs.{IsUndotted}
use Rattle.dl_runs.proofs.CharLaws.{cut_front, one_more, begins_no}

-- so far characters of the class, and dots since the last that is none
pub record IsUndottedTo (class : Class) (raw end here : List ℕ) : Type 0 where
  pub cs : List ℕ
  pub dots : List ℕ
  pub is : raw ≡ encode_utf8_all cs ++ end
  pub dots_are : end ≡ encode_utf8_all dots ++ here
  pub each : All (IsOf class) cs
  pub each_dot : All (IsOf class) dots
  pub are_dots : All (λ c. c ≡ 46) dots
  pub last : (front : List ℕ) → cs ≢ front ++ 46 ∷ []

pub undotted_none : (class : Class) (raw : List ℕ) → IsUndottedTo class raw raw raw
undotted_none class raw = record {
  cs = [];
  dots = [];
  is = refl;
  dots_are = refl;
  each = All-nil (IsOf class);
  each_dot = All-nil (IsOf class);
  are_dots = All-nil (λ c. c ≡ 46);
  last = λ front e. no_end front e;
}
  where
    no_end : (front : List ℕ) → ¬ ([] ≡ front ++ 46 ∷ [])
    no_end [] e = cc
    no_end (x ∷ front) e = cc

last_is : (xs ys : List ℕ) (x y : ℕ) → xs ++ x ∷ [] ≡ ys ++ y ∷ [] → x ≡ y
last_is [] [] x y e = cc
last_is [] (b ∷ []) x y e = cc
last_is [] (b ∷ d ∷ ys) x y e = cc
last_is (a ∷ []) [] x y e = cc
last_is (a ∷ d ∷ xs) [] x y e = cc
last_is (a ∷ xs) (b ∷ ys) x y e = last_is xs ys x y (cc)

-- one character more, a dot or none
pub undotted_more : (class : Class) (raw end here rest next : List ℕ) (c : ℕ) → IsUndottedTo class raw end here → here ≡ encode_utf8 c ++ rest → IsOf class c
    → ((more : List ℕ) × (here ≡ 46 ∷ more) × (next ≡ end)) ⊎ (((more : List ℕ) → here ≢ 46 ∷ more) × (next ≡ rest)) → IsUndottedTo class raw next rest
unfolding encode_utf8
undotted_more class raw end here rest next c u e i (inl (more, d, n)) =
    let dot : c ≡ 46 = (encode_same c 46 rest more (sym e ∙ d)).0 in record {
      cs = u.cs;
      dots = u.dots ++ c ∷ [];
      is = u.is ∙ ap (λ (z : List ℕ). encode_utf8_all u.cs ++ z) (sym n);
      dots_are = n ∙ one_more end here rest u.dots c u.dots_are e;
      each = u.each;
      each_dot = All-append (IsOf class) u.dots (c ∷ []) u.each_dot (All-cons (IsOf class) c [] i (All-nil (IsOf class)));
      are_dots = All-append (λ c. c ≡ 46) u.dots (c ∷ []) u.are_dots (All-cons (λ c. c ≡ 46) c [] dot (All-nil (λ c. c ≡ 46)));
      last = u.last;
    }
undotted_more class raw end here rest next c u e i (inr (d, n)) = record {
  cs = (u.cs ++ u.dots) ++ c ∷ [];
  dots = [];
  is = one_more raw here rest (u.cs ++ u.dots) c (u.is ∙ ap (λ (z : List ℕ). encode_utf8_all u.cs ++ z) u.dots_are ∙ sym (append_assoc (encode_utf8_all u.cs) (encode_utf8_all u.dots) here)
      ∙ ap (λ (z : List ℕ). z ++ here) (sym (encodes-append u.cs u.dots))) e ∙ ap (λ (z : List ℕ). encode_utf8_all ((u.cs ++ u.dots) ++ c ∷ []) ++ z) (sym n);
  dots_are = n;
  each = All-append (IsOf class) (u.cs ++ u.dots) (c ∷ []) (All-append (IsOf class) u.cs u.dots u.each u.each_dot) (All-cons (IsOf class) c [] i (All-nil (IsOf class)));
  each_dot = All-nil (IsOf class);
  are_dots = All-nil (λ c. c ≡ 46);
  last = λ front k. let same = last_is (u.cs ++ u.dots) front c 46 k in d rest (e ∙ ap (λ (z : ℕ). encode_utf8 z ++ rest) same);
}

pub undotted_all : (class : Class) (raw end here : List ℕ) → IsUndottedTo class raw end here → ¬ BeginsWith class here
    → IsUndotted class raw (take (length raw - length end) raw) (drop (length raw - length end) raw)
undotted_all class raw end here u n =
    let cut = cut_front raw (encode_utf8_all u.cs) end u.is in record {
      cs = u.cs;
      dots = u.dots;
      behind = here;
      is = sym (take-append-drop (length raw - length end) raw);
      front_is = sym cut.0;
      rest_is = sym cut.1 ∙ u.dots_are;
      each = u.each;
      each_dot = u.are_dots;
      last = u.last;
      ends = begins_no class here n;
    }

pub undotted_within : (class : Class) (raw end here : List ℕ) → IsUndottedTo class raw end here → length end ≤ length raw
undotted_within class raw end here u = omega (arith, ap length u.is, length-append (encode_utf8_all u.cs) end)
