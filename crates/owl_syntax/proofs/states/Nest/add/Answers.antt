use Rattle.std.proofs.Common.{ap, ◌∙◌, ◌++◌, ◌∷◌, [], refl, List}
use Rattle.owl_syntax.specs.declared.nodes.Node.{Node}
use Rattle.owl_syntax.specs.Trees.{Forest, none, forest_of}
use Rattle.owl_syntax.specs.Reading.{nest, outer_of}
use Rattle.owl_syntax.proofs.TreeLaws.{forest_from_push}
use Rattle.owl_syntax.proofs.states.Nest.add.Goals as goal

pub returns : goal.returns
returns c = (
  ap (λ (f : Forest). nest c.args.self.now.rank (outer_of c.args.self.now.outer.items) f)
      (ap (λ (ns : List Node). forest_of ns) (c.push_reserved.ensures.items ∙ ap (λ (ns : List Node). ns ++ c.args.node ∷ []) c.in_ok-reserve.ensures.items)
      ∙ forest_from_push none c.args.self.now.since.items c.args.node),
  refl,
)
