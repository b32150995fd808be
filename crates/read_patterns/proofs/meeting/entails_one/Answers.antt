use Rattle.std.proofs.Common.{◌≡◌, ◌<◌, length, [], ◌∷◌, sym, ◌∙◌, arith}
use Rattle.std.proofs.lemmas.Bool.{false≢true}
use Rattle.dl_base.specs.declared.statements.Fact.{Fact}
use Rattle.dl_base.specs.Derivation.{InClosure}
use Rattle.tbox_closure.proofs.LoopLaws.{none_more, none_at_end}
use Rattle.read_patterns.proofs.meeting.entails_one.Goals as goal

pub loop-deleted-preserved : goal.loop-deleted-preserved
loop-deleted-preserved c =
    let within : c.loop-deleted.deleted-index < length c.args.deletes.now = omega arith in
    none_more (λ (d : Fact). InClosure c.args.entailers.now.axioms (c.args.fact.now ∷ []) d) c.args.deletes.now c.loop-deleted.deleted-index c.deleted-item.result within c.deleted-item.is c.loop-deleted.invariant
    (λ h. false≢true (sym c.if-entails.false ∙ c.entails.ensures.1 h))

pub returns : goal.returns
returns c =
    let all : c.loop-deleted.deleted-index ≡ length c.args.deletes.now = omega arith in
    (λ h. absurd (false≢true h), λ h. absurd (none_at_end (λ (d : Fact). InClosure c.args.entailers.now.axioms (c.args.fact.now ∷ []) d) c.args.deletes.now c.loop-deleted.deleted-index all c.loop-deleted.invariant h))
