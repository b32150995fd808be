-- Laws of the reader's table along tokens.
use Rattle.std.proofs.Common.{◌≡◌, List, [], ◌∷◌, ◌++◌, Option, Some, None, Bool, true, false, cond, refl, ap, sym, ◌∙◌}
use Rattle.std.proofs.lemmas.Option.{none-some}
use Rattle.owl_syntax.specs.Shapes.{Token}
use Rattle.owl_syntax.specs.Reading.{State, after, then, runs}

pub runs-append : (o : Option State) (ts us : List Token) → runs o (ts ++ us) ≡ runs (runs o ts) us
runs-append o [] us = refl
runs-append o (t ∷ ts) us = runs-append (then o t) ts us

pub runs_none : (ts : List Token) → runs None ts ≡ None
runs_none [] = refl
runs_none (t ∷ ts) = runs_none ts

pub runs_push : (o : Option State) (ts : List Token) (s : State) (t : Token) → runs o ts ≡ Some s → runs o (ts ++ t ∷ []) ≡ after s t
runs_push o ts s t e = runs-append o ts (t ∷ []) ∙ ap (λ (p : Option State). then p t) e

-- what stops on the way comes to no end
pub runs_stuck : (o : Option State) (ts rest : List Token) (s e : State) (t : Token) → runs o ts ≡ Some s → after s t ≡ None → runs o ((ts ++ t ∷ []) ++ rest) ≡ Some e → ⊥
runs_stuck o ts rest s e t r n h =
    none-some e (sym (runs_none rest) ∙ ap (λ (p : Option State). runs p rest) (sym (runs_push o ts s t r ∙ n)) ∙ sym (runs-append o (ts ++ t ∷ []) rest) ∙ h)

pub cond_true : {X : Type 0} (b : Bool) (x y : X) → b ≡ true → cond b x y ≡ x
cond_true b x y e = ap (λ (c : Bool). cond c x y) e

pub cond_false : {X : Type 0} (b : Bool) (x y : X) → b ≡ false → cond b x y ≡ y
cond_false b x y e = ap (λ (c : Bool). cond c x y) e
