use Rattle.std.proofs.Common.{refl}
use Rattle.std.proofs.lemmas.Bool.{false≢true}
use Rattle.dl_base.proofs.SetLaws.{inserted, removed}
use Rattle.fact_index.proofs.LinkOrder.{link_total, link_exact}
use Rattle.fact_index.proofs.LinkLaws.{was_member, was_no_member, in_back, held_is_put, put_both, put_undone}
use Rattle.fact_index.proofs.links.Links.insert.Goals as goal

pub returns-then-not-branch-clause-added : goal.returns-then-not-branch-clause-added
returns-then-not-branch-clause-added c =
    let held = (in_back c.args.link _ _ c.self.invariant).0 (rw c.turned-back.ensures at (was_member c.self.inside.back c.turned-back.result c.in_ok-insert.ensures.added c.if-not-branch.true)) in
    rw (← c.self.view_is) ((λ e. absurd (false≢true e)), λ n. absurd (n held))

pub returns-then-not-branch-clause-held : goal.returns-then-not-branch-clause-held
returns-then-not-branch-clause-held c =
    let held = (in_back c.args.link _ _ c.self.invariant).0 (rw c.turned-back.ensures at (was_member c.self.inside.back c.turned-back.result c.in_ok-insert.ensures.added c.if-not-branch.true)) in
    rw (← c.self.view_is) (held_is_put c.args.link _ held)

pub invariant_of-self-in-Ok : goal.invariant_of-self-in-Ok
invariant_of-self-in-Ok c =
    put_both c.args.link _ _ c.self.invariant _ _
    (inserted link_total link_exact c.self.inside.forth c.insert-2.new.self c.args.link c.in-Ok.ensures.updates.0)
    (rw c.turned-back.ensures at (inserted link_total link_exact c.self.inside.back c.insert.new.self c.turned-back.result c.in_ok-insert.ensures.updates.0))

pub invariant_of-self-in-Err : goal.invariant_of-self-in-Err
invariant_of-self-in-Err c =
    rw c.in-Err.ensures.err
    (put_undone c.args.link _ _ c.self.invariant _ _
    (rw c.turned-back.ensures at (inserted link_total link_exact c.self.inside.back c.insert.new.self c.turned-back.result c.in_ok-insert.ensures.updates.0))
    (rw c.turned-back.ensures at (was_no_member c.self.inside.back c.turned-back.result c.in_ok-insert.ensures.added c.if-not-branch.false))
    (rw c.turned-back.ensures at (removed link_total link_exact c.insert.new.self c.remove.new.self c.turned-back.result c.remove.ensures.updates.0)))

pub returns-in-Ok-clause-added : goal.returns-in-Ok-clause-added
returns-in-Ok-clause-added c =
    let fresh = rw c.turned-back.ensures at (was_no_member c.self.inside.back c.turned-back.result c.in_ok-insert.ensures.added c.if-not-branch.false) in
    rw (← c.self.view_is) ((λ _ m. fresh ((in_back c.args.link _ _ c.self.invariant).1 m)), λ _. refl)

pub returns-in-Ok-clause-held : goal.returns-in-Ok-clause-held
returns-in-Ok-clause-held c =
    rw (← c.self.view_is) (inserted link_total link_exact c.self.inside.forth c.insert-2.new.self c.args.link c.in-Ok.ensures.updates.0)
