use Rattle.std.proofs.Common.{◌∷◌, [], refl}
use Rattle.update_read.specs.Cutting.{single}
use Rattle.update_read.proofs.TextLaws.{pair_answer}
use Rattle.update_read.proofs.texts.behind_piece.Goals as goal

pub returns-then-byte-eq92 : goal.returns-then-byte-eq92
returns-then-byte-eq92 c =
    pair_answer c.args.quote c.args.kind c.args.here.now c.in-Some.rest.now c.in-Some.byte.now c.behind_pair.result (λ rest. rest.now) c.in-Some.ensures.cases.0 c.if-byte-eq92.true c.behind_pair.ensures

pub returns-then-may_stand : goal.returns-then-may_stand
returns-then-may_stand c = (c.in-Some.byte.now ∷ [], single c.in-Some.byte.now c.requires c.if-byte-eq92.false (c.may_stand.ensures.0 c.if-may_stand.true) c.in-Some.ensures.cases.0 refl)
