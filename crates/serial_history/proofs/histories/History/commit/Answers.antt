use Rattle.std.proofs.Common.{◌<◌, None, length, refl, sym, subst}
use Rattle.dl_base.specs.declared.requests.Entry.{Entry}
use Rattle.dl_base.specs.Histories.{in_force_at}
use Rattle.dl_base.specs.Staleness.{IsStale}
use Rattle.serial_history.specs.Committing.{Commits}
use Rattle.serial_history.specs.States.{Seen, AreAsked, AreTaken}
use Rattle.serial_history.proofs.CommitSteps.{keeps, commits}
use Rattle.serial_history.proofs.histories.History.commit.Goals as goal

pub invariant_of-self : goal.invariant_of-self
invariant_of-self g c =
    let w = c.self.inside in
    let parts = c.args.parts in
    let back = sym c.self.view_is in
    let asked = subst (λ (s : Seen). AreAsked s parts.base parts.recorded) back c.requires.asked in
    let taken = subst (λ (s : Seen). AreTaken s parts) back c.requires.taken in
    let room = subst (λ (s : Seen). length s.entries < s.limit) back c.requires.room in
    let fresh = subst (λ (s : Seen). ¬ IsStale (in_force_at s.opening s.entries parts.base).axioms s.entries parts.base parts.recorded) back c.requires.fresh in
    let e : Entry = record { editor = c.args.editor; number = c.count_of-number.result; requests = c.into_requests.result; changed = c.in-Ok.field-0.changed; replaced = None } in
    keeps w.log.opening (g.V.FactSet.facts w.opening) w.limit w.log.entries (g.V.FactSet.facts w.version) (g.V.Versions.layers w.version) c.self.invariant c.args.editor parts asked taken room fresh
    c.in-Ok.field-0.changed (g.V.FactSet.facts c.in-Ok.field-0.next) (g.V.Versions.layers c.in-Ok.field-0.next) c.in-Ok.ensures e refl c.count_of-number.ensures c.into_requests.ensures refl refl c.push.new.self c.in-Ok-push.ensures.ok

pub returns-in-Ok-push-clause-ok : goal.returns-in-Ok-push-clause-ok
returns-in-Ok-push-clause-ok g c =
    let w = c.self.inside in
    let parts = c.args.parts in
    let back = sym c.self.view_is in
    let asked = subst (λ (s : Seen). AreAsked s parts.base parts.recorded) back c.requires.asked in
    let taken = subst (λ (s : Seen). AreTaken s parts) back c.requires.taken in
    let room = subst (λ (s : Seen). length s.entries < s.limit) back c.requires.room in
    let fresh = subst (λ (s : Seen). ¬ IsStale (in_force_at s.opening s.entries parts.base).axioms s.entries parts.base parts.recorded) back c.requires.fresh in
    let e : Entry = record { editor = c.args.editor; number = c.count_of-number.result; requests = c.into_requests.result; changed = c.in-Ok.field-0.changed; replaced = None } in
    let after : Seen = record { opening = c.push.new.self.opening; facts = g.V.FactSet.facts w.opening; limit = w.limit; entries = c.push.new.self.entries; layers = g.V.Versions.layers c.in-Ok.field-0.next } in
    subst (λ (s : Seen). Commits s c.args.editor parts c.len.result after) c.self.view_is
    (commits w.log.opening (g.V.FactSet.facts w.opening) w.limit w.log.entries (g.V.FactSet.facts w.version) (g.V.Versions.layers w.version) c.self.invariant c.args.editor parts asked taken room fresh
    c.in-Ok.field-0.changed (g.V.FactSet.facts c.in-Ok.field-0.next) (g.V.Versions.layers c.in-Ok.field-0.next) c.in-Ok.ensures e refl c.count_of-number.ensures c.into_requests.ensures refl refl c.push.new.self c.in-Ok-push.ensures.ok c.len.result c.len.ensures)
