use Rattle.std.proofs.Common.{◌≡◌, List, [], ◌∷◌, ◌++◌, refl, subst}
use Rattle.dl_base.specs.declared.patterns.Pattern.{Pattern}
use Rattle.entail_guards.specs.Asking.{AddsOf, AsksMore, Finds, Leads, turned}
use Rattle.entail_guards.proofs.AskLaws.{asks_one}
use Rattle.entail_guards.proofs.FewLaws.{adds_one}
use Rattle.entail_guards.proofs.entailers.Entailers.add_by.Goals as goal

pub returns-clause-asks : goal.returns-clause-asks
returns-clause-asks c =
    let axioms = c.args.self.now.axioms in
    let p = c.args.pattern.now in
    let old = c.args.patterns.now.items in
    let given : Pattern = turned c.args.by c.args.term p in
    let q = c.in_ok-push.ensures.items in
    let m = c.in_ok-turned.ensures in
    let more : old ++ given ∷ [] ≡ c.push.new.self.items = cc in
    subst (λ (z : List Pattern). AsksMore (Finds axioms c.args.by c.args.term p) old z) more
    (asks_one (Leads axioms c.args.by c.args.term p) given old (c.if-not-leads.ensures.0 refl))

pub returns-clause-each : goal.returns-clause-each
returns-clause-each c =
    let old = c.args.patterns.now.items in
    let given : Pattern = turned c.args.by c.args.term c.args.pattern.now in
    let q = c.in_ok-push.ensures.items in
    let m = c.in_ok-turned.ensures in
    let more : old ++ given ∷ [] ≡ c.push.new.self.items = cc in
    subst (λ (z : List Pattern). AddsOf c.args.term.0 1 old z) more (adds_one c.args.by c.args.term c.args.pattern.now old)
