use Rattle.std.proofs.Common.{List, [], ◌∷◌, refl, arith, subst}
use Rattle.dl_base.specs.declared.statements.Fact.{Fact}
use Rattle.dl_base.proofs.ChangingLaws.{Unremoved, changed_is}
use Rattle.dl_base.specs.Picks.{Picks}
use Rattle.dl_base.proofs.plain.PlainSetVersions.with_change.Goals as goal

pub returns-clause-changed : goal.returns-clause-changed
returns-clause-changed c = λ f.
    let old = subst (λ (fs : List Fact). Picks (Unremoved c.args.changed.now) fs c.in_ok-facts.facts.items) c.as_slice.ensures.same c.in_ok-facts.ensures in
    let both = changed_is c.args.self.now c.args.changed.now c.in_ok-facts.facts.items c.in_ok-added_facts.field-0.items old c.in_ok-added_facts.ensures f in
    let made = rw c.in_ok-append.ensures.items at c.in_ok-after.ensures.same f in
    ((λ m. both.0 (made.0 m)), λ h. made.1 (both.1 h))

pub returns-clause-trimmed : goal.returns-clause-trimmed
returns-clause-trimmed c = (c.args.self.now ∷ [], refl, omega arith)
