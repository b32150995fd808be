use Rattle.std.proofs.Common.{ap, sym, ◌∙◌}
use Rattle.std.proofs.lemmas.Bool.{false≢true}
use Rattle.dl_laws.specs.Rows.{Start, starts, concept}
use Rattle.dl_laws.specs.Emptiness.{IsUnsatisfiable}
use Rattle.dl_laws.proofs.Colliding.{one_told, first_told, last_told}
use Rattle.conflict_rules.proofs.conflicts.Conflicts.is_unsatisfiable.Goals as goal

pub returns-in-Class : goal.returns-in-Class
returns-in-Class c = one_told (λ (s : Start). IsUnsatisfiable c.args.self.now.axioms (concept s)) c.args.fact.now c.unsatisfiable_concept.result _ (ap starts c.in-Class.is) c.unsatisfiable_concept.ensures

pub returns-then-unsatisfiable_concept : goal.returns-then-unsatisfiable_concept
returns-then-unsatisfiable_concept c = first_told (λ (s : Start). IsUnsatisfiable c.args.self.now.axioms (concept s)) c.args.fact.now _ _ (ap starts c.in-Role.is) (c.unsatisfiable_concept-in-Role.ensures.0 c.if-unsatisfiable_concept.true)

pub returns-else-unsatisfiable_concept : goal.returns-else-unsatisfiable_concept
returns-else-unsatisfiable_concept c = last_told (λ (s : Start). IsUnsatisfiable c.args.self.now.axioms (concept s)) c.args.fact.now c.unsatisfiable_concept-in-Role-2.result _ _ (ap starts c.in-Role.is) (λ h. false≢true (sym c.if-unsatisfiable_concept.false ∙ c.unsatisfiable_concept-in-Role.ensures.1 h)) c.unsatisfiable_concept-in-Role-2.ensures

pub returns-in-Attr : goal.returns-in-Attr
returns-in-Attr c = one_told (λ (s : Start). IsUnsatisfiable c.args.self.now.axioms (concept s)) c.args.fact.now c.unsatisfiable_concept-in-Attr.result _ (ap starts c.in-Attr.is) c.unsatisfiable_concept-in-Attr.ensures
