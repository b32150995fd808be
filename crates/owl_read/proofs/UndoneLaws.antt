-- The text of a literal without the backslashes of its escapes is the one that the raw text stands for.
use Rattle.std.proofs.Common.{◌≡◌, ◌≢◌, ℕ, Bool, true, false, cond, List, [], ◌∷◌, ◌++◌, Some, None, refl, sym, ◌∙◌, ap}
use Rattle.std.proofs.Common.{append_assoc}
use Rattle.std.proofs.lemmas.List.{append-nil}
use Rattle.std.specs.Prelude.{◌==◌}
use Rattle.std.proofs.lemmas.Bool.{ne_eqb, eqb-true, cond-false}
use Rattle.dl_text.specs.Going.{Goes, stop, go}
use Rattle.dl_text.specs.Escapes.{Undoes, Stands, plain, short, coded, joined, short_of}
use Rattle.dl_text.specs.declared.escapes.Escapes.TheVariants.{Owl}
use Rattle.owl_read.specs.Literals.{undone}

some_is : (x y : ℕ) → Some x ≡ Some y → x ≡ y
some_is x y e = cc

itself : (e b : ℕ) (p q : Bool) → (e == 34) ≡ p → (e == 92) ≡ q → cond p (Some 34) (cond q (Some 92) None) ≡ Some b → e ≡ b
itself e b true q h k s = eqb-true e 34 h ∙ some_is 34 b s
itself e b false true h k s = eqb-true e 92 k ∙ some_is 92 b s
itself e b false false h k s = cc

escaped_is : (e b : ℕ) → short_of Owl e ≡ Some b → e ≡ b
escaped_is e b s = itself e b (e == 34) (e == 92) refl refl s

plain_byte : (b : ℕ) (bs : List ℕ) → b ≢ 92 → undone false (b ∷ bs) ≡ b ∷ undone false bs
plain_byte b bs n = cond-false (b == 92) (undone true bs) (b ∷ undone false bs) (ne_eqb b 92 n)

one_piece : (raw out rest : List ℕ) → Stands Owl raw out rest → undone false raw ≡ out ++ undone false rest
one_piece raw out rest (plain b n is o) = ap (undone false) is ∙ plain_byte b rest n ∙ ap (λ (p : List ℕ). p ++ undone false rest) (sym o)
one_piece raw out rest (short e b s is o) = ap (undone false) is ∙ ap (λ (x : ℕ). x ∷ undone false rest) (escaped_is e b s) ∙ ap (λ (p : List ℕ). p ++ undone false rest) (sym o)
one_piece raw out rest (coded mark code digits w n is o) = cc

all_pieces : (raw end : List ℕ) (pieces : List (List ℕ)) → Goes (Stands Owl) raw pieces end → undone false raw ≡ joined pieces ++ undone false end
all_pieces raw end [] (stop s) = refl
all_pieces raw end (piece ∷ pieces) (go s m e o os first more) =
    one_piece raw piece m first ∙ ap (λ (p : List ℕ). piece ++ p) (all_pieces m end pieces more) ∙ simp append_assoc

pub undone_is : (raw text : List ℕ) → Undoes Owl raw text → text ≡ undone false raw
undone_is raw text (pieces, goes, is) = is ∙ sym (all_pieces raw [] pieces goes ∙ append-nil (joined pieces))
