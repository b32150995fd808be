use Rattle.std.proofs.Common.{◌≡◌, ◌≤◌, refl, sym, subst, length, arith}
use Rattle.std.proofs.lemmas.Bool.{false≢true}
use Rattle.dl_laws.specs.Paths as graph
use Rattle.dl_laws.specs.Paths.{Path}
use Rattle.tbox_closure.specs.Graphs.{Graph}
use Rattle.tbox_closure.proofs.RowLaws.{path_outside}
use Rattle.tbox_closure.proofs.graphs.Table.reaches.Goals as goal

pub returns-then-from-to : goal.returns-then-from-to
returns-then-from-to c = (λ _. subst (Path c.args.self.now.edges c.args.from) c.if-from-to.true (graph.itself c.args.from), λ _. refl)

pub returns-else-from-len : goal.returns-else-from-len
returns-else-from-len c = (
  λ h. absurd (false≢true h),
  λ p.
      let past : length c.self.inside.rows.items ≤ c.args.from = omega arith in
      let same : c.args.from ≡ c.args.to = path_outside c.self.inside.edges.items (length c.self.inside.rows.items) c.self.invariant.range c.args.from c.args.to past
      (subst (λ (g : Graph). Path g.edges c.args.from c.args.to) (sym c.self.view_is) p) in
      absurd (c.if-from-to.false same),
)
