-- The scheme of an IRI, byte by byte.
use Rattle.std.proofs.Common.{◌≡◌, ◌≢◌, ℕ, List, [], ◌∷◌, ◌++◌, ap, subst, IsTrue}
use Rattle.std.specs.Prelude.{All}
use Rattle.std.proofs.lemmas.List.Elements.{All-nil, All-cons, All-head, All-tail}
use Rattle.dl_text.specs.Iris.{is_scheme_byte, HasScheme}

abbrev pub IsSchemeByte : ℕ → Type 0
IsSchemeByte b = IsTrue (is_scheme_byte b)

pub has_more : (b : ℕ) (bs : List ℕ) → IsTrue (is_scheme_byte b) → HasScheme bs → HasScheme (b ∷ bs)
has_more b bs s h = record {
  scheme = b ∷ h.scheme;
  rest = h.rest;
  is = ap (λ us. b ∷ us) h.is;
  each = All-cons IsSchemeByte b h.scheme s h.each;
}

pub has_now : (b : ℕ) (bs : List ℕ) → b ≡ 58 → HasScheme (b ∷ bs)
has_now b bs e = record { scheme = []; rest = bs; is = ap (λ z. z ∷ bs) e; each = All-nil IsSchemeByte }

less : (b : ℕ) (bs scheme rest : List ℕ) → b ≢ 58 → b ∷ bs ≡ scheme ++ 58 ∷ rest → All IsSchemeByte scheme → IsSchemeByte b × HasScheme bs
less b bs [] rest n e a = absurd (n cc)
less b bs (s ∷ ss) rest n e a =
    let same : s ≡ b = cc in
    (subst IsSchemeByte same (All-head IsSchemeByte s ss a), record { scheme = ss; rest = rest; is = cc; each = All-tail IsSchemeByte s ss a })

pub has_less : (b : ℕ) (bs : List ℕ) → b ≢ 58 → HasScheme (b ∷ bs) → IsSchemeByte b × HasScheme bs
has_less b bs n h = less b bs h.scheme h.rest n h.is h.each

nothing : (scheme rest : List ℕ) → [] ≡ scheme ++ 58 ∷ rest → ⊥
nothing [] rest e = cc
nothing (s ∷ ss) rest e = cc

pub has_none : ¬ HasScheme []
has_none h = nothing h.scheme h.rest h.is
