use Rattle.std.specs.Arc.{arc_value}
use Rattle.dl_base.proofs.ClashLaws.{clash_more}
use Rattle.transaction_turns.proofs.bases.Base.of.Goals as goal

pub invariant_of-result : goal.invariant_of-result
invariant_of-result g c = (
  λ clash. c.requires.consistent (clash_more (arc_value c.args.opened.rules).axioms (g.V.FactSet.facts c.in_ok-version.version) c.args.opened.facts.items (λ f m. (c.in_ok-version.ensures.same f).0 m) clash),
  λ f m. c.requires.known f ((c.in_ok-version.ensures.same f).0 m),
)
