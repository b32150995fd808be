-- What is written for a text stands for that text.
use Rattle.std.proofs.Common.{◌≡◌, ◌≢◌, ℕ, List, [], ◌∷◌, ◌++◌, Some, refl, sym, ap, subst, ◌⊎◌, ⊎_elim, inl, inr, arith}
use Rattle.std.proofs.lemmas.Bool.{cases_eq}
use Rattle.std.proofs.lemmas.Bool.Decides.{nat_tests}
use Rattle.dl_text.specs.Going.{Goes, stop, go}
use Rattle.dl_text.specs.Escapes.{backslash, short_of, Stands, plain, short, Undoes}
use Rattle.dl_text.specs.Printing.{written_byte, written}
use Rattle.dl_text.specs.declared.escapes.Escapes.TheVariants.{Full}
use Rattle.dl_text.proofs.EscapeLaws.{singles, joined-singles}

abbrev pub IsWritten : ℕ → List ℕ → Type 0
IsWritten b piece = ((e : ℕ) × (short_of Full e ≡ Some b) × (piece ≡ backslash ∷ e ∷ [])) ⊎ ((b ≢ backslash) × (piece ≡ b ∷ []))

written_plain : (b : ℕ) → b ≢ 34 → b ≢ 92 → b ≢ 10 → b ≢ 13 → written_byte b ≡ b ∷ []
written_plain b n34 n92 n10 n13 = grind (arith, nat_tests)

at_code : (b code e : ℕ) → short_of Full e ≡ Some code → written_byte code ≡ backslash ∷ e ∷ [] → b ≡ code → IsWritten b (written_byte b)
at_code b code e h k is = subst (λ (z : ℕ). IsWritten z (written_byte z)) (sym is) (inl (e, h, k))

pub one_byte : (b : ℕ) → IsWritten b (written_byte b)
one_byte b = ⊎_elim (at_code b 34 34 refl refl) (λ n34. ⊎_elim (at_code b 92 92 refl refl) (λ n92. ⊎_elim (at_code b 10 110 refl refl) (λ n10.
    ⊎_elim (at_code b 13 114 refl refl) (λ n13. inr (n92, written_plain b n34 n92 n10 n13)) (cases_eq b 13)) (cases_eq b 10)) (cases_eq b 92)) (cases_eq b 34)

stands : (b : ℕ) (rest : List ℕ) → Stands Full (written_byte b ++ rest) (b ∷ []) rest
stands b rest = put (one_byte b)
  where
    put : IsWritten b (written_byte b) → Stands Full (written_byte b ++ rest) (b ∷ []) rest
    put (inl (e, h, k)) = short e b h (ap (λ (zs : List ℕ). zs ++ rest) k) refl
    put (inr (n, k)) = plain b n (ap (λ (zs : List ℕ). zs ++ rest) k) refl

goes : (text : List ℕ) → Goes (Stands Full) (written text) (singles text) []
goes [] = stop []
goes (b ∷ bs) = go (written (b ∷ bs)) (written bs) [] (b ∷ []) (singles bs) (stands b (written bs)) (goes bs)

pub written_undoes : (text : List ℕ) → Undoes Full (written text) text
written_undoes text = (singles text, goes text, sym (joined-singles text))
