-- A history without entries.
use Rattle.std.proofs.Common.{◌≡◌, ◌∷◌, ℕ, List, [], sym, subst, arith}
use Rattle.std.specs.Prelude.{Contains}
use Rattle.std.proofs.lemmas.List.Elements.{All-from_recursion}
use Rattle.dl_base.specs.declared.requests.Entry.{Entry}
use Rattle.dl_base.specs.declared.statements.Fact.{Fact}
use Rattle.dl_base.specs.Clash.{IsConsistent}
use Rattle.dl_base.specs.FactOrder.{AreSorted}
use Rattle.dl_base.specs.Histories.{IsLegal}
use Rattle.dl_base.specs.Ontologies.{Theory, Knows}
use Rattle.dl_base.specs.Validity.{IsOntology}
use Rattle.dl_base.proofs.SortedLaws.{all_of}
use Rattle.serial_history.specs.States.{IsKept}

module _ (opening : Theory) (facts : List Fact) (limit : ℕ) where
  legal_start : IsOntology opening → AreSorted facts → ((f : Fact) → Contains facts f → Knows opening f) → IsConsistent opening.axioms facts → IsLegal opening facts []
  legal_start ontology sorted known consistent = record {
    ontology = ontology;
    sorted = sorted;
    known = All-from_recursion (Knows opening) facts (all_of (Knows opening) facts known);
    consistent = consistent;
    each = λ n e g. let no : ⊥ = cc in absurd no;
  }

  pub kept_start : (entries : List Entry) (version : List Fact) (layers : List (List Fact)) → entries ≡ [] → version ≡ facts → layers ≡ facts ∷ []
      → IsOntology opening → AreSorted facts → ((f : Fact) → Contains facts f → Knows opening f) → IsConsistent opening.axioms facts → IsKept opening facts limit entries version layers
  kept_start entries version layers none same one ontology sorted known consistent =
      subst (λ (es : List Entry). IsKept opening facts limit es version layers) (sym none)
      (record {
        legal = legal_start ontology sorted known consistent;
        within = omega arith;
        stands = same;
        layered = ([], one);
      })
