use Rattle.std.proofs.Common.{◌≡◌, ◌++◌, ◌∷◌, [], List, ◌∙◌, ap, sym, subst, Global}
use Rattle.std.specs.Arc.{arc_value}
use Rattle.std.specs.declared.sync.Arc.{Arc}
use Rattle.dl_base.specs.declared.requests.Entry.{Entry}
use Rattle.dl_base.specs.Histories.{in_force, or_before, replacement}
use Rattle.dl_base.specs.Ontologies.{Theory}
use Rattle.serial_history.specs.States.{Logged}
use Rattle.serial_history.proofs.LogLaws.{rules_push}
use Rattle.serial_history.proofs.log.Log.push.Goals as goal

pub invariant_of-self-in-Ok : goal.invariant_of-self-in-Ok
invariant_of-self-in-Ok c =
    let w = c.self.inside in
    let force = subst (λ (l : Logged). arc_value c.args.rules ≡ or_before (replacement c.args.entry) (in_force l.opening l.entries)) (sym c.self.view_is) c.requires in
    rules_push (arc_value w.opening) w.entries.items w.later.items c.self.invariant c.in-Ok.shared c.args.entry c.in-Ok.ensures.ok c.args.rules force
    c.push_reserved.new.self.items (c.push_reserved.ensures.items ∙ ap (λ (es : List (Arc Entry Global)). es ++ c.in-Ok.shared ∷ []) c.reserve.ensures.items)
    c.push_reserved-in-Ok.new.self.items (c.push_reserved-in-Ok.ensures.items ∙ ap (λ (rs : List (Arc Theory Global)). rs ++ c.args.rules ∷ []) c.reserve-else-is_err.ensures.items)
