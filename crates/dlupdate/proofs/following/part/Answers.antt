use Rattle.std.proofs.Common.{List, refl, ◌∙◌, subst}
use Rattle.std.specs.Prelude.{Result}
use Rattle.dl_base.specs.declared.statements.Fact.{Fact}
use Rattle.update_engine.specs.declared.judging.IllFormed.{IllFormed}
use Rattle.dlupdate.specs.Committing.{Commits, current}
use Rattle.dlupdate.specs.Following.{head_of}
use Rattle.dlupdate.specs.Texts as text
use Rattle.dlupdate.proofs.FollowingLaws.{part_is, part_stopped, part_unread}
use Rattle.dlupdate.proofs.following.part.Goals as goal

pub returns-in-Err-clause-stopped : goal.returns-in-Err-clause-stopped
returns-in-Err-clause-stopped g c = λ stored stands. part_unread (g.F.Files.contents c.args.files.now) c.args.ontology.now (head_of c.args.numbered) c.args.number stored c.args.name.now c.in-Err.stop c.in-Err.ensures.stopped

pub returns-in-Ok-2-clause-ok : goal.returns-in-Ok-2-clause-ok
returns-in-Ok-2-clause-ok g c = λ stored stands consistent.
    let commits = subst (λ (a : Result (List Fact) IllFormed). Commits (current c.args.world.now) stored c.in_ok-inserts.inserts c.in_ok-deletes.deletes c.committed.new.world a) c.in-Ok-2.is (c.in_ok-lost.ensures stored (refl, stands.1, stands.2)) in
    part_is (g.F.Files.contents c.args.files.now) c.args.ontology.now (head_of c.args.numbered) c.args.number stored c.args.name.now c.in-Ok.update c.args.world.now c.committed.new.world c.in_ok-inserts.inserts c.in_ok-deletes.deletes
    c.requires.force c.in_ok-inserts.ensures c.in_ok-deletes.ensures c.in-Ok.ensures.ok c.in-Ok-2.lost c.in_ok-updated_text-in-Ok-2.field-0.items consistent commits
    (c.in_ok-updated_text-in-Ok-2.ensures ∙ (λ i. text.updated (c.in_ok-text-in-Ok-2.ensures i) c.args.ontology.now c.in-Ok.update.skipped (c.as_slice.ensures i)))

pub returns-clause-stopped : goal.returns-clause-stopped
returns-clause-stopped g c = λ stored stands.
    let commits = subst (λ (a : Result (List Fact) IllFormed). Commits (current c.args.world.now) stored c.in_ok-inserts.inserts c.in_ok-deletes.deletes c.committed.new.world a) c.in-Err-2.is (c.in_ok-lost.ensures stored (refl, stands.1, stands.2)) in
    part_stopped (g.F.Files.contents c.args.files.now) c.args.ontology.now (head_of c.args.numbered) c.args.number stored c.args.name.now c.in-Ok.update c.args.world.now c.committed.new.world c.in_ok-inserts.inserts c.in_ok-deletes.deletes
    c.requires.force c.in_ok-inserts.ensures c.in_ok-deletes.ensures c.in-Ok.ensures.ok c.in-Err-2.ill_formed (record { status = 5; text = c.in_ok-text-in-Err-2.text }) commits refl
    (c.in_ok-text-in-Err-2.ensures ∙ (λ i. text.ill_formed c.args.ontology.now c.args.number (c.as_slice-in-Err-2.ensures i) (c.as_slice-in-Err-2-2.ensures i) c.in-Err-2.ill_formed))
