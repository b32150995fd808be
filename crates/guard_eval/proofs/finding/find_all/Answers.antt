use Rattle.std.proofs.lemmas.List.{length-append}
use Rattle.std.proofs.Common.{◌≡◌, ℕ, ◌<◌, ◌+◌, ◌++◌, length, arith}
use Rattle.guard_eval.proofs.FoundLaws.{found_none, few_none, found_next, few_next, found_end, counts_by}
use Rattle.guard_eval.proofs.finding.find_all.Goals as goal

pub loop-pattern-init : goal.loop-pattern-init
loop-pattern-init g c = record {
  found = rw c.new-facts.ensures.items (found_none (g.S.FactSet.facts c.args.set.now));
  few = rw c.new-facts.ensures.items (few_none (g.S.FactSet.facts c.args.set.now));
  counted = rw c.new-facts.ensures.items (omega arith);
}

pub returns-in_err-more-clause-counted : goal.returns-in_err-more-clause-counted
returns-in_err-more-clause-counted g c =
    let within : c.loop-pattern.pattern-index < length c.args.patterns.now = omega arith in
    counts_by (g.S.FactSet.facts c.args.set.now) c.args.patterns.now c.loop-pattern.pattern-index c.loop-pattern.facts.items _ _
    (omega (arith, within, c.loop-pattern.invariant.counted, c.in_err-more.ensures.refused)) c.loop-pattern.invariant.found c.loop-pattern.invariant.few

pub returns-in_err-append-clause-counted : goal.returns-in_err-append-clause-counted
returns-in_err-append-clause-counted g c =
    let within : c.loop-pattern.pattern-index < length c.args.patterns.now = omega arith in
    let xs = c.loop-pattern.facts.items in
    let ys = c.in_ok-more.more.items in
    let long = length-append xs ys in
    counts_by (g.S.FactSet.facts c.args.set.now) c.args.patterns.now (c.loop-pattern.pattern-index + 1) (xs ++ ys) _ _
    (omega (arith, within, long, c.loop-pattern.invariant.counted, c.in_ok-more.ensures.counted))
    (found_next (g.S.FactSet.facts c.args.set.now) c.args.patterns.now c.loop-pattern.pattern-index c.pattern-item.result within c.pattern-item.is xs ys c.in_ok-more.ensures.found c.loop-pattern.invariant.found)
    (few_next (g.S.FactSet.facts c.args.set.now) c.args.patterns.now c.loop-pattern.pattern-index c.pattern-item.result within c.pattern-item.is xs ys c.in_ok-more.ensures.found c.loop-pattern.invariant.few)

pub loop-pattern-preserved : goal.loop-pattern-preserved
loop-pattern-preserved g c =
    let within : c.loop-pattern.pattern-index < length c.args.patterns.now = omega arith in
    let xs = c.loop-pattern.facts.items in
    let ys = c.in_ok-more.more.items in
    record {
      found = rw c.in_ok-append.ensures.items
          (found_next (g.S.FactSet.facts c.args.set.now) c.args.patterns.now c.loop-pattern.pattern-index c.pattern-item.result within c.pattern-item.is xs ys c.in_ok-more.ensures.found c.loop-pattern.invariant.found);
      few = rw c.in_ok-append.ensures.items
          (few_next (g.S.FactSet.facts c.args.set.now) c.args.patterns.now c.loop-pattern.pattern-index c.pattern-item.result within c.pattern-item.is xs ys c.in_ok-more.ensures.found c.loop-pattern.invariant.few);
      counted = rw (c.in_ok-append.ensures.items, length-append) (omega (arith, c.loop-pattern.invariant.counted, c.in_ok-more.ensures.counted));
    }

pub returns-clause-found : goal.returns-clause-found
returns-clause-found g c = found_end (g.S.FactSet.facts c.args.set.now) c.args.patterns.now c.loop-pattern.pattern-index c.loop-pattern.facts.items c.loop-pattern-test.false c.loop-pattern.invariant.found

pub returns-clause-counted : goal.returns-clause-counted
returns-clause-counted g c =
    counts_by (g.S.FactSet.facts c.args.set.now) c.args.patterns.now c.loop-pattern.pattern-index c.loop-pattern.facts.items _ _
    (omega (arith, c.loop-pattern.invariant.counted)) c.loop-pattern.invariant.found c.loop-pattern.invariant.few
