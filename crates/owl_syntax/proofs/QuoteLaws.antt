-- The escapes of a literal in an ontology.
use Rattle.std.proofs.Common.{◌≡◌, ◌≢◌, ◌+◌, ◌<◌, ◌≤◌, ℕ, List, [], ◌∷◌, ◌++◌, length, Some, refl, sym, ap, ◌∙◌, arith, inl, inr}
use Rattle.std.specs.Prelude.{All, ◌⊎◌}
use Rattle.std.proofs.lemmas.Bool.Decides.{nat_tests}
use Rattle.std.proofs.lemmas.List.{append-nil, length-append}
use Rattle.dl_text.specs.Escapes.{backslash, short_of, Stands, plain, short, coded, Undoes}
use Rattle.dl_text.specs.declared.escapes.Escapes.TheVariants.{Owl}
use Rattle.dl_text.specs.declared.faults.TextFault.TheVariants as faults
use Rattle.dl_text.specs.declared.kinds.ReadKind.TheVariants.{BadEscape, NameTooLong}
use Rattle.dl_text.proofs.EscapeLaws.{IsUndoneTo, undone_none, undone_run, undone_more, undone_all, undone_never}
use Rattle.owl_syntax.specs.Shapes.{Text}
use Rattle.owl_syntax.specs.Tokens.{IsSound, HasFault}

pub escape_at : (after behind : List ℕ) (e : ℕ) → after ≡ e ∷ behind → (e ≡ 34) ⊎ (e ≡ 92) → (b : ℕ) × Stands Owl (92 ∷ after) (b ∷ []) behind
escape_at after behind e is (inl k) = (34, short 34 34 refl (ap (λ (z : List ℕ). 92 ∷ z) (is ∙ ap (λ (z : ℕ). z ∷ behind) k)) refl)
escape_at after behind e is (inr k) = (92, short 92 92 refl (ap (λ (z : List ℕ). 92 ∷ z) (is ∙ ap (λ (z : ℕ). z ∷ behind) k)) refl)

short_is : (e b : ℕ) → short_of Owl e ≡ Some b → (e ≢ 34) → (e ≢ 92) → ⊥
short_is e b s n m = grind (arith, nat_tests)

heads : (a b : ℕ) (xs ys : List ℕ) → a ∷ xs ≡ b ∷ ys → a ≡ b
heads a b xs ys e = cc

second : (a b c : ℕ) (xs ys : List ℕ) → a ∷ xs ≡ b ∷ c ∷ ys → xs ≡ c ∷ ys
second a b c xs ys e = cc

pub no_escape : (after : List ℕ) → ((e : ℕ) (behind : List ℕ) → after ≡ e ∷ behind → (e ≢ 34) × (e ≢ 92)) → (out rest : List ℕ) → ¬ Stands Owl (92 ∷ after) out rest
no_escape after n out rest (plain b x e f) = x (sym (heads 92 b after rest e))
no_escape after n out rest (short e b s is o) = let m = n e rest (second 92 92 e after rest is) in short_is e b s m.0 m.1
no_escape after n out rest (coded mark code digits w k is o) = cc

pub not_escaped : (after more : List ℕ) (d : ℕ) → after ≡ d ∷ more → ¬ ((d ≡ 34) ⊎ (d ≡ 92)) → (out rest : List ℕ) → ¬ Stands Owl (92 ∷ after) out rest
not_escaped after more d is n = no_escape after (λ e behind f. let same = heads d e more behind (sym is ∙ f) in (λ k. n (inl (same ∙ k)), λ k. n (inr (same ∙ k))))

pub no_byte_after : (after : List ℕ) → length after ≡ 0 → (e : ℕ) (behind : List ℕ) → after ≡ e ∷ behind → (e ≢ 34) × (e ≢ 92)
no_byte_after after n e behind is = absurd (omega (arith, n, ap length is))

pub other_after : (after more : List ℕ) (d : ℕ) → after ≡ d ∷ more → d ≢ 34 → d ≢ 92 → (e : ℕ) (behind : List ℕ) → after ≡ e ∷ behind → (e ≢ 34) × (e ≢ 92)
other_after after more d is n m e behind f = let same = heads d e more behind (sym is ∙ f) in (λ k. n (same ∙ k), λ k. m (same ∙ k))

-- the text so far
pub record IsMeasured (inner here : List ℕ) (long : ℕ) : Type 0 where
  pub text : List ℕ
  pub undone : IsUndoneTo Owl inner text here
  pub long_is : long ≡ length text
  pub within : long + length here ≤ length inner

pub measured_none : (inner : List ℕ) → IsMeasured inner inner 0
measured_none inner = record { text = []; undone = undone_none Owl inner; long_is = refl; within = omega arith }

pub measured_more : (inner here front after behind : List ℕ) (long b : ℕ) → IsMeasured inner here long → here ≡ front ++ 92 ∷ after → All (λ b. b ≢ backslash) front → Stands Owl (92 ∷ after) (b ∷ []) behind
    → length behind < length after → IsMeasured inner behind (long + (length front + 1))
measured_more inner here front after behind long b m e a s l = record {
  text = (m.text ++ front) ++ (b ∷ []);
  undone = undone_more Owl inner (m.text ++ front) (92 ∷ after) (b ∷ []) behind (undone_run Owl inner m.text here front (92 ∷ after) m.undone e a) s;
  long_is = omega (arith, m.long_is, length-append (m.text ++ front) (b ∷ []), length-append m.text front);
  within = omega (arith, m.within, ap length e, length-append front (92 ∷ after), l);
}

pub bad_escape : (inner here front after : List ℕ) (long : ℕ) → IsMeasured inner here long → here ≡ front ++ 92 ∷ after → All (λ b. b ≢ backslash) front → ((out rest : List ℕ) → ¬ Stands Owl (92 ∷ after) out rest)
    → HasFault (Text inner) BadEscape
bad_escape inner here front after long m e a n =
    (faults.BadEscape, (λ text u. undone_never Owl inner (m.text ++ front) (92 ∷ after) text (undone_run Owl inner m.text here front (92 ∷ after) m.undone e a) (λ k. cc) n u), refl)

whole : (inner here : List ℕ) (long : ℕ) → (m : IsMeasured inner here long) → All (λ b. b ≢ backslash) here → Undoes Owl inner (m.text ++ here)
whole inner here long m a = undone_all Owl inner (m.text ++ here) (undone_run Owl inner m.text here here [] m.undone (sym (append-nil here)) a)

pub too_long : (inner here : List ℕ) (long : ℕ) → IsMeasured inner here long → All (λ b. b ≢ backslash) here → 65536 < long + length here → HasFault (Text inner) NameTooLong
too_long inner here long m a l = (faults.NameTooLong, (m.text ++ here, whole inner here long m a, omega (arith, l, m.long_is, length-append m.text here)), refl)

pub long_enough : (inner here : List ℕ) (long : ℕ) → IsMeasured inner here long → All (λ b. b ≢ backslash) here → long + length here ≤ 65536 → IsSound (Text inner)
long_enough inner here long m a l = (m.text ++ here, (whole inner here long m a, omega (arith, l, m.long_is, length-append m.text here)))

pub escape_shorter : (after out rest : List ℕ) → Stands Owl (92 ∷ after) out rest → length rest < length after
escape_shorter after out rest (plain b x e f) = absurd (x (sym (heads 92 b after rest e)))
escape_shorter after out rest (short e b s is o) = omega (arith, ap length is)
escape_shorter after out rest (coded mark code digits w k is o) = cc
