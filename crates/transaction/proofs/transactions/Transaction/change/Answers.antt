use Rattle.std.proofs.Common.{◌≡◌, ◌<◌, length, Err, ap, subst, arith}
use Rattle.update_engine.specs.Judging.{IsNamed}
use Rattle.update_engine.specs.declared.judging.IllFormed.{IllFormed}
use Rattle.update_engine.proofs.NameLaws.{named_ill, one_name}
use Rattle.transaction.specs.Serving.{Open}
use Rattle.transaction.specs.declared.refusals.TxRefusal.TheVariants as refusal
use Rattle.transaction.proofs.transactions.Transaction.change.Goals as goal

pub returns-in-Ok-clause-ill_formed : goal.returns-in-Ok-clause-ill_formed
returns-in-Ok-clause-ill_formed g c = λ name.
    let axioms = c.args.self.now.ontology.axioms in
    let inserts = c.args.inserts.now in
    let deletes = c.args.deletes.now in
    ((λ e. absurd (let no : ⊥ = cc in no)), λ h. absurd (c.in-Ok.ensures.ok.well (named_ill axioms inserts deletes name h.1)))

pub returns-in-Err-IllFormed-clause-ill_formed : goal.returns-in-Err-IllFormed-clause-ill_formed
returns-in-Err-IllFormed-clause-ill_formed g c = λ name.
    let axioms = c.args.self.now.ontology.axioms in
    let inserts = c.args.inserts.now in
    let deletes = c.args.deletes.now in
    let named : IsNamed axioms inserts deletes c.in-Err-IllFormed.name = rw c.in-Err-IllFormed.field-0-is at c.in-Err-IllFormed.ensures.named in
    let seen = ap (λ (o : Open). length o.requests) c.self.view_is in
    let room : length c.args.self.now.requests < 10000 = omega (arith, c.if-len-ge-MOST_REQUESTS.false, c.len.ensures, seen) in (
      (λ e. let same : c.in-Err-IllFormed.name ≡ name = (let i = e in cc) in (room, subst (IsNamed axioms inserts deletes) same named)),
      λ h. ap (λ (n : IllFormed). Err (refusal.IllFormed n)) (one_name axioms inserts deletes c.in-Err-IllFormed.name name named h.1),
    )

pub returns-in-Err-OutOfMemory-clause-ill_formed : goal.returns-in-Err-OutOfMemory-clause-ill_formed
returns-in-Err-OutOfMemory-clause-ill_formed g c = λ name.
    let axioms = c.args.self.now.ontology.axioms in
    let inserts = c.args.inserts.now in
    let deletes = c.args.deletes.now in
    let well = rw c.in-Err-OutOfMemory.field-0-is at c.in-Err-OutOfMemory.ensures.named in
    ((λ e. absurd (let no : ⊥ = cc in no)), λ h. absurd (well (named_ill axioms inserts deletes name h.1)))
