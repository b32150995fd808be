use Rattle.std.proofs.Common.{◌≡◌, length, arith}
use Rattle.tbox_closure.proofs.EmptyLaws.{below_none, below_more, below_all}
use Rattle.tbox_closure.proofs.emptiness.mark_terms.Goals as goal

pub loop-number-init : goal.loop-number-init
loop-number-init c = record { wide = c.requires.wide; noted = below_none c.args.tables.now.axioms c.args.rows.now }

pub loop-number-preserved : goal.loop-number-preserved
loop-number-preserved c = record {
  wide = c.mark_term.ensures.wide;
  noted = below_more c.args.tables.now.axioms c.loop-number.number c.args.rows.now c.loop-number.rows c.mark_term.new.rows c.loop-number.invariant.noted c.mark_term.ensures.noted;
}

pub returns-clause-noted : goal.returns-clause-noted
returns-clause-noted c =
    let all : c.loop-number.number ≡ length c.args.tables.now.terms = omega (arith, c.terms-number-end.ensures.count) in
    below_all c.args.tables.now c.terms-number-end.ensures.sound.known c.loop-number.number all c.args.rows.now c.loop-number.rows c.loop-number.invariant.noted
