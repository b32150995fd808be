use Rattle.std.proofs.Common.{◌<◌, ◌∷◌, [], ◌∙◌, ℕ, length, map, ap, sym, subst, arith}
use Rattle.dl_text.specs.declared.refusals.ReadRefusal.{ReadRefusal}
use Rattle.dl_text.specs.declared.refusals.ReadRefusal.TheVariants.{Refused}
use Rattle.dl_text.specs.declared.kinds.ReadKind.TheVariants.{NotDlLite}
use Rattle.std.proofs.lemmas.Bool.{not-true, not-false}
use Rattle.owl_read.specs.Items.{item_of}
use Rattle.owl_read.specs.Outcomes.{Fails}
use Rattle.owl_read.specs.Rows.{different_at}
use Rattle.owl_read.proofs.DifferentLaws.{different_on, different_stops, names_more}
use Rattle.owl_read.proofs.RunLaws.{drop_here}
use Rattle.owl_read.proofs.scope.Scope.different.Goals as goal

pub returns-then-not-branch : goal.returns-then-not-branch
returns-then-not-branch c =
    let inv = c.loop-node.invariant in
    let within : c.loop-node.node-index < length c.args.nodes.now = omega (arith, c.loop-node-test.true) in
    let e = ap (map item_of) (drop_here c.args.nodes.now c.loop-node.node-index c.node-item.result within c.node-item.is) in
    let old = sym (inv.1 c.in_ok-name.name) ∙ not-false _ (sym c.in_ok-insert.ensures.added ∙ c.if-not-branch.true) in
    let all = different_at [] c.args.self.now (map item_of c.args.nodes.now) in
    subst (λ (r : ReadRefusal). Fails r all) (sym (c.refused.ensures ∙ ap (λ (n : ℕ). Refused n NotDlLite) c.line_of.ensures))
    (different_stops inv.0 c.loop-node.self c.individual.new.self (item_of c.node-item.result) _ c.in_ok-name.name all c.in_ok-name.ensures old
    (sym (ap (different_at inv.0 c.loop-node.self) e) ∙ inv.2))

pub loop-node-preserved : goal.loop-node-preserved
loop-node-preserved c =
    let inv = c.loop-node.invariant in
    let within : c.loop-node.node-index < length c.args.nodes.now = omega (arith, c.loop-node-test.true) in
    let e = ap (map item_of) (drop_here c.args.nodes.now c.loop-node.node-index c.node-item.result within c.node-item.is) in
    let new = sym (inv.1 c.in_ok-name.name) ∙ not-true _ (sym c.in_ok-insert.ensures.added ∙ c.if-not-branch.false) in (
      c.in_ok-name.name ∷ inv.0,
      names_more c.loop-node.seen c.insert.new.self inv.0 c.in_ok-name.name inv.1 c.in_ok-insert.ensures.updates.0,
      different_on inv.0 c.loop-node.self c.individual.new.self (item_of c.node-item.result) _ c.in_ok-name.name _ c.in_ok-name.ensures new
          (sym (ap (different_at inv.0 c.loop-node.self) e) ∙ inv.2),
    )
