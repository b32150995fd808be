use Rattle.std.proofs.Common.{◌<◌, ◌∙◌, length, arith}
use Rattle.owl_read.proofs.TermsLaws.{copied_more}
use Rattle.owl_read.proofs.scope.copied.Goals as goal

pub loop-name-preserved : goal.loop-name-preserved
loop-name-preserved c =
    let within : c.loop-name.name-index < length c.args.base.now = omega (arith, c.loop-name-test.true) in
    copied_more c.args.base.now c.requires.once c.loop-name.name-index c.loop-name-item.result within c.loop-name-item.is
    c.loop-name.terms.entries c.insert.new.self.entries c.in_ok-from_slice.field-0 (c.in_ok-from_slice.ensures.items ∙ c.as_slice.ensures.value) c.loop-name.invariant c.in_ok-insert.ensures.entries
