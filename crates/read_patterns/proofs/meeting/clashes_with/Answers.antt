use Rattle.std.proofs.Common.{◌≡◌, ◌<◌, length, [], ◌∷◌, refl, sym, ◌∙◌, arith}
use Rattle.std.proofs.lemmas.Bool.{false≢true}
use Rattle.dl_base.specs.declared.statements.Fact.{Fact}
use Rattle.dl_base.specs.Clash.{HasClash}
use Rattle.tbox_closure.proofs.LoopLaws.{none_more, none_at_end}
use Rattle.read_patterns.proofs.RequestLaws.{from_one, into_one, own_of}
use Rattle.read_patterns.proofs.meeting.clashes_with.Goals as goal

pub pair-requires-clause-second : goal.pair-requires-clause-second
pair-requires-clause-second c =
    let within : c.loop-inserted.inserted-index < length c.args.inserts.now = omega arith in
    own_of c.args.conflicts.now.axioms c.args.inserts.now c.inserted-item.result (c.loop-inserted.inserted-index, within, sym c.inserted-item.is) c.requires.consistent

pub returns-then-pair : goal.returns-then-pair
returns-then-pair c =
    let within : c.loop-inserted.inserted-index < length c.args.inserts.now = omega arith in (
      (λ h. from_one c.args.conflicts.now.axioms c.args.fact.now c.args.inserts.now (c.inserted-item.result, (c.loop-inserted.inserted-index, within, sym c.inserted-item.is), c.pair.ensures.0 c.if-pair.true)),
      λ h. refl,
    )

pub loop-inserted-preserved : goal.loop-inserted-preserved
loop-inserted-preserved c =
    let within : c.loop-inserted.inserted-index < length c.args.inserts.now = omega arith in
    none_more (λ (i : Fact). HasClash c.args.conflicts.now.axioms (c.args.fact.now ∷ i ∷ [])) c.args.inserts.now c.loop-inserted.inserted-index c.inserted-item.result within c.inserted-item.is c.loop-inserted.invariant
    (λ h. false≢true (sym c.if-pair.false ∙ c.pair.ensures.1 h))

pub returns : goal.returns
returns c =
    let all : c.loop-inserted.inserted-index ≡ length c.args.inserts.now = omega arith in (
      (λ h. absurd (false≢true h)),
      λ h. absurd (none_at_end (λ (i : Fact). HasClash c.args.conflicts.now.axioms (c.args.fact.now ∷ i ∷ [])) c.args.inserts.now c.loop-inserted.inserted-index all c.loop-inserted.invariant
          (into_one c.args.conflicts.now.axioms c.args.fact.now c.args.inserts.now c.requires.consistent c.requires.alone h)),
    )
