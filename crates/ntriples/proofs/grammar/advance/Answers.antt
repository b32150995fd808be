use Rattle.std.proofs.Common.{◌≡◌, ◌∷◌, [], List, ◌++◌, sym, ap, ◌∙◌, subst, refl}
use Rattle.ntriples.specs.declared.tokens.Token.{Token}
use Rattle.ntriples.specs.declared.grammar.Progress.{Progress}
use Rattle.ntriples.specs.Grammar.{Fits, so_far, IsViable}
use Rattle.ntriples.proofs.GrammarLaws.{grows, alive, stuck, stopped_more}
use Rattle.ntriples.proofs.grammar.advance.Goals as goal

pub returns-in-Some : goal.returns-in-Some
returns-in-Some c tokens f =
    let g : tokens ≡ so_far c.in-Going.state = subst (λ (p : Progress). Fits p tokens) c.in-Going.is f in
    ap (λ (ts : List Token). ts ++ c.args.token ∷ []) g ∙ sym (grows c.in-Going.state c.args.token c.in-Some.then (sym c.next.ensures ∙ c.in-Some.is))

pub returns-in-None : goal.returns-in-None
returns-in-None c tokens f =
    let g : tokens ≡ so_far c.in-Going.state = subst (λ (p : Progress). Fits p tokens) c.in-Going.is f in record {
      front = tokens;
      token = c.args.token;
      rest = [];
      is = refl;
      viable = subst IsViable (sym g) (alive c.in-Going.state);
      stuck = subst (λ (ts : List Token). ¬ IsViable (ts ++ c.args.token ∷ [])) (sym g) (stuck c.in-Going.state c.args.token (sym c.next.ensures ∙ c.in-None.is));
      kind_is = c.kind_at-kind.ensures;
    }

pub returns-in-Stopped : goal.returns-in-Stopped
returns-in-Stopped c tokens f = stopped_more tokens c.args.token c.in-Stopped.kind (subst (λ (p : Progress). Fits p tokens) c.in-Stopped.is f)
