use Rattle.std.proofs.Common.{[], ◌∷◌, length, sym, subst, arith}
use Rattle.std.specs.Prelude.{◌↔◌}
use Rattle.dl_base.specs.declared.statements.Fact.{Fact}
use Rattle.dl_base.specs.Clash.{HasClash}
use Rattle.dl_base.specs.Ontologies.{Theory}
use Rattle.entail_guards.specs.Asking.{IsAsked}
use Rattle.update_engine.specs.Lookups.{IsSound, ClashesBeside, AreFew}
use Rattle.update_engine.proofs.LookupLaws.{clash_swap}
use Rattle.update_engine.proofs.lookups.guards_of.Goals as goal

pub guards_of-requires : goal.guards_of-requires
guards_of-requires c = subst (λ (t : Theory). ¬ HasClash t.axioms (c.args.given.now ∷ [])) (sym c.conflicts.ensures) c.requires

pub returns-clause-asks : goal.returns-clause-asks
returns-clause-asks c = subst (λ (t : Theory). (f : Fact) → IsSound t f → IsAsked c.in_ok-patterns.patterns.items f ↔ ClashesBeside t.axioms c.args.given.now f) c.conflicts.ensures
    (λ f s.
    let exact = c.in_ok-patterns.ensures.exact f s.0 s.1 in
    let axioms = c.conflicts.result.now.axioms in
    ((λ h. clash_swap axioms c.args.given.now f (exact.0 h)), λ h. exact.1 (clash_swap axioms f c.args.given.now h)))

pub returns-clause-few : goal.returns-clause-few
returns-clause-few c = subst (λ (t : Theory). AreFew (length t.terms) 1 c.in_ok-patterns.patterns.items) c.conflicts.ensures
    record { few = λ n. let x = c.in_ok-patterns.ensures.few n in omega (arith, x); size = let x = c.in_ok-patterns.ensures.size in omega (arith, x) }
