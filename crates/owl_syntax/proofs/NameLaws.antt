-- The longest labels, local parts and prefixed names at the front of a text.
use Rattle.std.proofs.Common.{◌≡◌, ◌≤◌, ℕ, List, [], ◌∷◌, ◌++◌, length, refl, sym, ap, subst, ◌∙◌, append_assoc, arith, inl, inr}
use Rattle.std.specs.Char.{encode_utf8}
use Rattle.std.specs.Str.{encode_utf8_all}
use Rattle.std.proofs.lemmas.Str.{encode_same}
use Rattle.dl_runs.specs.declared.runs.Class.TheVariants as classes
use Rattle.dl_runs.specs.Classes.{IsOf, BeginsWith, IsSome, IsLongest, IsPrefix}
use Rattle.dl_runs.specs.Runs.{IsUndotted}
use Rattle.dl_runs.proofs.NameLaws.{bound, name_bound, tail_is}
use Rattle.owl_syntax.specs.Cutting.{IsLocal}
use Rattle.owl_syntax.specs.NameCuts.{CutsName}
use Rattle.owl_syntax.specs.Shapes.{Shape, Gap, Open, Close, Equals, Hats, Tag, Word, Iri, Prefixed, Blank, Digits, Text}

-- the local part
pub local_none : (bytes : List ℕ) → ¬ BeginsWith classes.LocalStart bytes → IsLongest IsLocal bytes [] bytes
local_none bytes n = record { is = refl; such = inl refl; longest = long }
  where
    long : (other behind : List ℕ) → bytes ≡ other ++ behind → IsLocal other → length other ≤ length {A = ℕ} []
    long other behind e (inl k) = omega (arith, ap length k)
    long other behind e (inr k) = on k.begins
      where
        on : BeginsWith classes.LocalStart other → length other ≤ length {A = ℕ} []
        on (c, more, f, i) = absurd (n (c, more ++ behind, e ∙ ap (λ (z : List ℕ). z ++ behind) f ∙ append_assoc (encode_utf8 c) more behind, i))

pub local_some : (bytes front rest more : List ℕ) (c : ℕ) → bytes ≡ encode_utf8 c ++ more → IsOf classes.LocalStart c → IsUndotted classes.Local bytes front rest → IsLongest IsLocal bytes front rest
local_some bytes front rest more c b i u = record { is = u.is; such = such u.cs refl; longest = long }
  where
    such : (cs : List ℕ) → u.cs ≡ cs → IsLocal front
    such [] e = inl (u.front_is ∙ ap encode_utf8_all e)
    such (d ∷ ds) e =
        let is : front ≡ encode_utf8 d ++ encode_utf8_all ds = u.front_is ∙ ap encode_utf8_all e in
        let same = encode_same d c (encode_utf8_all ds ++ rest) more (sym (append_assoc (encode_utf8 d) (encode_utf8_all ds) rest) ∙ ap (λ (z : List ℕ). z ++ rest) (sym is) ∙ sym u.is ∙ b) in
        inr (record { cs = u.cs; is = u.front_is; begins = (d, encode_utf8_all ds, is, subst (IsOf classes.LocalStart) (sym same.0) i); each = u.each; ends = u.last })

    long : (other behind : List ℕ) → bytes ≡ other ++ behind → IsLocal other → length other ≤ length front
    long other behind e (inl k) = omega (arith, ap length k)
    long other behind e (inr k) =
        let on = name_bound classes.Local bytes front rest behind k.cs u (e ∙ ap (λ (z : List ℕ). z ++ behind) k.is) k.each k.ends in
        let b = bound u.cs k.cs on.0 on.1 in
        omega (arith, b, ap length k.is, ap length u.front_is)

-- no word and no prefixed name
pub no_name : (bytes : List ℕ) → ((prefix after : List ℕ) → bytes ≡ prefix ++ 58 ∷ after → ¬ IsPrefix prefix) → ((word rest : List ℕ) → ¬ IsLongest (IsSome classes.Letter) bytes word rest)
    → (shape : Shape) (rest : List ℕ) → ¬ CutsName bytes shape rest
no_name bytes p w (Prefixed prefix local) rest h = p prefix h.after h.is h.is_prefix
no_name bytes p w (Word word) rest h = w word rest h.0
no_name bytes p w Gap rest h = h
no_name bytes p w Open rest h = h
no_name bytes p w Close rest h = h
no_name bytes p w Equals rest h = h
no_name bytes p w Hats rest h = h
no_name bytes p w (Tag t) rest h = h
no_name bytes p w (Iri t) rest h = h
no_name bytes p w (Blank t) rest h = h
no_name bytes p w (Digits t) rest h = h
no_name bytes p w (Text t) rest h = h

pub no_label : (bytes behind : List ℕ) → bytes ≡ 58 ∷ behind → ((label rest : List ℕ) → ¬ IsLongest (IsSome classes.Name) behind label rest)
    → (label rest after : List ℕ) → bytes ≡ 58 ∷ after → ¬ IsLongest (IsSome classes.Name) after label rest
no_label bytes behind e n label rest after f l = n label rest (subst (λ (z : List ℕ). IsLongest (IsSome classes.Name) z label rest) (tail_is 58 58 after behind (sym f ∙ e)) l)
