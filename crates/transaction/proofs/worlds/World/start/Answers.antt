use Rattle.std.proofs.Common.{List, sym, ap, subst}
use Rattle.std.specs.Arc.{arc_value}
use Rattle.std.specs.Prelude.{Contains}
use Rattle.dl_base.specs.declared.statements.Fact.{Fact}
use Rattle.dl_base.specs.Updates.{Lists}
use Rattle.dl_base.proofs.ClashLaws.{clash_more}
use Rattle.serial_history.specs.States.{Seen}
use Rattle.transaction.proofs.worlds.World.start.Goals as goal

pub start-requires-clause-consistent : goal.start-requires-clause-consistent
start-requires-clause-consistent g c = λ clash.
    c.requires.consistent (clash_more (arc_value c.args.rules).axioms (g.V.FactSet.facts c.in_ok-opening.opening) c.args.facts.items (λ f m. (c.in_ok-opening.ensures.same f).0 m) clash)

pub start-requires-clause-known : goal.start-requires-clause-known
start-requires-clause-known g c = λ f m. c.requires.known f ((c.in_ok-opening.ensures.same f).0 m)

pub returns-clause-opening : goal.returns-clause-opening
returns-clause-opening g c =
    let is = c.in_ok-history.ensures in
    let facts : List Fact = g.V.FactSet.facts c.in_ok-opening.opening in
    let listed : Lists (Contains c.args.facts.items) facts = record { sorted = c.in_ok-opening.ensures.sorted; each = c.in_ok-opening.ensures.same } in
    (ap (λ (s : Seen). s.opening) is, subst (Lists (Contains c.args.facts.items)) (sym (ap (λ (s : Seen). s.facts) is)) listed)
