use Rattle.std.proofs.Common.{◌≤◌, length, map, arith, ◌∙◌, ap, sym, subst}
use Rattle.std.specs.Arc.{arc_value}
use Rattle.dl_base.specs.Histories.{in_force_at}
use Rattle.serial_history.specs.States.{Logged}
use Rattle.serial_history.proofs.LogLaws.{as_many, rules_at}
use Rattle.serial_history.proofs.log.Log.rules_at.Goals as goal

pub index-requires : goal.index-requires
index-requires c =
    let w = c.self.inside in
    let many = as_many (arc_value w.opening) (map arc_value w.entries.items) w.later.items c.self.invariant in
    let within = subst (λ (l : Logged). c.args.version ≤ length l.entries) (sym c.self.view_is) c.requires in
    omega (arith, many, within, c.if-version-eq0.false, w.later.ok.0)

pub returns : goal.returns
returns c =
    let w = c.self.inside in
    let within = subst (λ (l : Logged). c.args.version ≤ length l.entries) (sym c.self.view_is) c.requires in
    rules_at (arc_value w.opening) (map arc_value w.entries.items) w.later.items c.self.invariant c.args.version c.index.result.now c.if-version-eq0.false within c.index.ensures
    ∙ ap (λ (l : Logged). in_force_at l.opening l.entries c.args.version) c.self.view_is
