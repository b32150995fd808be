use Rattle.std.proofs.Common.{◌≡◌, ◌<◌, length, arith}
use Rattle.update_engine.specs.Lookups.{Entails}
use Rattle.update_engine.proofs.LookupLaws.{ask_none, ask_more, ask_end, few_none, few_both, few_end}
use Rattle.update_engine.proofs.lookups.entailing_patterns.Goals as goal

pub loop-deleted-init : goal.loop-deleted-init
loop-deleted-init c = record {
  asks = rw c.new-patterns.ensures.items (ask_none c.args.rules.now (Entails c.args.rules.now.axioms) c.args.deletes.now);
  few = rw c.new-patterns.ensures.items (few_none (length c.args.rules.now.terms));
}

pub loop-deleted-preserved : goal.loop-deleted-preserved
loop-deleted-preserved c =
    let within : c.loop-deleted.deleted-index < length c.args.deletes.now = omega arith in
    record {
      asks = rw c.in_ok-append.ensures.items
          (ask_more c.args.rules.now (Entails c.args.rules.now.axioms) c.args.deletes.now c.loop-deleted.deleted-index c.deleted-item.result c.loop-deleted.patterns.items _ within c.deleted-item.is c.loop-deleted.invariant.asks c.in_ok-entailers_of.ensures.asks);
      few = rw c.in_ok-append.ensures.items
          (few_both (length c.args.rules.now.terms) c.loop-deleted.deleted-index 1 c.loop-deleted.patterns.items _ c.loop-deleted.invariant.few c.in_ok-entailers_of.ensures.few);
    }

pub returns-clause-asks : goal.returns-clause-asks
returns-clause-asks c =
    let all : c.loop-deleted.deleted-index ≡ length c.args.deletes.now = omega arith in
    ask_end c.args.rules.now (Entails c.args.rules.now.axioms) c.args.deletes.now c.loop-deleted.deleted-index c.loop-deleted.patterns.items all c.loop-deleted.invariant.asks

pub returns-clause-few : goal.returns-clause-few
returns-clause-few c =
    let all : c.loop-deleted.deleted-index ≡ length c.args.deletes.now = omega arith in
    few_end (length c.args.rules.now.terms) c.loop-deleted.deleted-index (length c.args.deletes.now) c.loop-deleted.patterns.items all c.loop-deleted.invariant.few
