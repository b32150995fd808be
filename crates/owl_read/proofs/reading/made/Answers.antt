use Rattle.std.proofs.Common.{ℕ, List, sym, subst, ⊎_elim, ◌∙◌}
use Rattle.std.proofs.lemmas.Bool.{false≢true}
use Rattle.dl_base.specs.declared.terms.Kind.{Kind}
use Rattle.dl_base.specs.Ontologies.{Theory}
use Rattle.dl_base.specs.Vocabularies.{IsRefused}
use Rattle.dl_base.proofs.NamesLaws.{no_ontology}
use Rattle.owl_read.proofs.reading.made.Goals as goal
use Rattle.owl_read.proofs.reading.made.Goals.{in-OutOfMemory, in_default}

pub prove-unreachable-requires : goal.prove-unreachable-requires
prove-unreachable-requires c =
    elim c.match-matches.branch [
      | in-OutOfMemory w ↦ false≢true (sym c.if-prove.true ∙ w.matches-is)
      | in_default w ↦
          let theory : Theory = record { terms = c.args.scope.now.terms; axioms = c.args.axioms.items } in
          let refused = subst (λ (ts : List (List ℕ × Kind)). IsRefused (record { terms = ts; axioms = c.args.axioms.items }) c.in-Err.why) c.in_ok-terms.ensures c.in-Err.ensures.refused in
          ⊎_elim w.in_default.not-OutOfMemory (λ n. n c.requires) (no_ontology theory c.in-Err.why refused)
    ]
