use Rattle.std.proofs.Common.{◌≡◌, ◌≢◌, length, sym, ◌∙◌, arith}
use Rattle.std.proofs.lemmas.Bool.{eqb-true, eqb-false}
use Rattle.read_patterns.proofs.SampleLaws.{deletes_alone, one_alone}
use Rattle.read_patterns.proofs.samples.is_one_sided.Goals as goal

pub returns-then-is_empty : goal.returns-then-is_empty
returns-then-is_empty c h =
    deletes_alone c.args.conflicts.now.axioms c.args.inserts.now c.args.deletes.now (eqb-true (length c.args.inserts.now) 0 (sym c.is_empty.ensures ∙ c.if-is_empty.true))

pub returns : goal.returns
returns c h =
    let some : length c.args.inserts.now ≢ 0 = eqb-false (length c.args.inserts.now) 0 (sym c.is_empty.ensures ∙ c.if-is_empty.false) in
    let few = c.if-inserts-gt1.false in
    let one : length c.args.inserts.now ≡ 1 = omega (arith, some, few) in
    let none = eqb-true (length c.args.deletes.now) 0 (sym c.is_empty-else-inserts-gt1.ensures ∙ c.if-not-is_empty.false) in
    one_alone c.args.conflicts.now.axioms c.args.inserts.now c.args.deletes.now c.index-inserts-0.result one none c.index-inserts-0.is
    (c.is_sound.ensures h)
