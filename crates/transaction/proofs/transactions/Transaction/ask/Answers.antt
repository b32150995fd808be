use Rattle.std.proofs.Common.{◌≡◌, ◌<◌, ◌++◌, ◌∷◌, [], List, length, refl, sym, ◌∙◌, ap, subst, arith}
use Rattle.std.specs.Arc.{arc_value}
use Rattle.dl_base.specs.declared.requests.Request.{Request}
use Rattle.dl_base.specs.declared.requests.Request.TheVariants.{Ask}
use Rattle.dl_base.specs.Ontologies.{Theory, KnowsPattern}
use Rattle.dl_base.specs.Transactions.{IsAnswer}
use Rattle.dl_base.specs.Updates.{Lists}
use Rattle.fact_delta.specs.Deltas.{standing}
use Rattle.transaction.specs.Serving.{Open, IsOpen}
use Rattle.transaction.proofs.ServeLaws.{open_asked, served_as}
use Rattle.transaction.proofs.transactions.Transaction.ask.Goals as goal

pub invariant_of-self-2 : goal.invariant_of-self-2
invariant_of-self-2 g c =
    let w = c.self.inside in
    let theory = arc_value w.rules in
    let base = w.stored.base in
    let stored = standing w.stored in
    let room : length w.recorded < 10000 = omega (arith, c.if-len-ge-MOST_REQUESTS.false, c.len.ensures) in
    let p = c.args.pattern.now in
    let known : KnowsPattern theory p = subst (λ (o : Open). KnowsPattern o.ontology p) (sym c.self.view_is) c.requires.known in
    let answers : Lists (IsAnswer theory.axioms stored p) c.in_ok-answers.answers.items = subst (λ (t : Theory). Lists (IsAnswer t.axioms stored p) c.in_ok-answers.answers.items) c.deref.ensures c.in_ok-answers.ensures in
    let recorded : c.keep.new.recorded ≡ w.recorded ++ Ask p ∷ [] = c.in_ok-keep.ensures.ok ∙ ap (λ (r : Request). w.recorded ++ r ∷ []) (ap Ask c.in_ok-copy.ensures) in
    subst (λ (rs : List Request). IsOpen theory base rs stored w.put.items w.taken.items) (sym recorded)
    (open_asked theory base w.recorded stored w.put.items w.taken.items c.self.invariant room p c.in_ok-answers.answers.items known answers)

pub returns-clause-ok : goal.returns-clause-ok
returns-clause-ok g c =
    let w = c.self.inside in
    let theory = arc_value w.rules in
    let base = w.stored.base in
    let stored = standing w.stored in
    let room : length w.recorded < 10000 = omega (arith, c.if-len-ge-MOST_REQUESTS.false, c.len.ensures) in
    let p = c.args.pattern.now in
    let answers : Lists (IsAnswer theory.axioms stored p) c.in_ok-answers.answers.items = subst (λ (t : Theory). Lists (IsAnswer t.axioms stored p) c.in_ok-answers.answers.items) c.deref.ensures c.in_ok-answers.ensures in
    let recorded : c.keep.new.recorded ≡ w.recorded ++ Ask p ∷ [] = c.in_ok-keep.ensures.ok ∙ ap (λ (r : Request). w.recorded ++ r ∷ []) (ap Ask c.in_ok-copy.ensures) in
    served_as theory base w.recorded stored w.put.items w.taken.items c.self.invariant room w.base c.args.self.now c.self.view_is (Ask p) c.in_ok-answers.answers.items stored c.keep.new.recorded recorded tt (refl, answers)
