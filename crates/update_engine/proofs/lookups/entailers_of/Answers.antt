use Rattle.std.proofs.Common.{◌≡◌, length, refl, sym, subst, arith}
use Rattle.std.specs.Prelude.{◌↔◌}
use Rattle.dl_base.specs.declared.statements.Fact.{Fact}
use Rattle.dl_base.specs.Ontologies.{Theory}
use Rattle.entail_guards.specs.Asking.{IsAsked}
use Rattle.update_engine.specs.Lookups.{IsSound, Entails, AreFew}
use Rattle.update_engine.proofs.lookups.entailers_of.Goals as goal

pub returns-clause-asks : goal.returns-clause-asks
returns-clause-asks c = subst (λ (t : Theory). (f : Fact) → IsSound t f → IsAsked c.in_ok-patterns.patterns.items f ↔ Entails t.axioms c.args.given.now f) c.entailers.ensures
    (λ f s. (
      (λ h.
          let w = c.in_ok-patterns.ensures.sound f h in
          subst (λ (g : Fact). Entails c.entailers.result.now.axioms g f) (sym ((c.in_ok-pattern.ensures w.0).0 w.2)) w.1),
      λ h. c.in_ok-patterns.ensures.complete f s.0 (c.args.given.now, h, (c.in_ok-pattern.ensures c.args.given.now).1 refl),
    ))

pub returns-clause-few : goal.returns-clause-few
returns-clause-few c = subst (λ (t : Theory). AreFew (length t.terms) 1 c.in_ok-patterns.patterns.items) c.entailers.ensures
    record { few = λ n. let x = c.in_ok-patterns.ensures.each n in omega (arith, x); size = let x = c.in_ok-patterns.ensures.few in omega (arith, x) }
