use Rattle.std.proofs.Common.{◌≡◌, ◌<◌, length, sym, arith}
use Rattle.update_engine.specs.Lookups.{ClashesBeside}
use Rattle.update_engine.proofs.LookupLaws.{ask_none, ask_more, ask_end, few_none, few_both, few_end}
use Rattle.update_engine.proofs.MeetLaws.{own_of}
use Rattle.update_engine.proofs.lookups.clashing_patterns.Goals as goal

pub guards_of-requires : goal.guards_of-requires
guards_of-requires c =
    let within : c.loop-inserted.inserted-index < length c.args.inserts.now = omega arith in
    own_of c.args.rules.now.axioms c.inserted-item.result c.args.inserts.now c.inserted-item.result (c.loop-inserted.inserted-index, within, sym c.inserted-item.is) c.requires

pub loop-inserted-init : goal.loop-inserted-init
loop-inserted-init c = record {
  asks = rw c.new-patterns.ensures.items (ask_none c.args.rules.now (ClashesBeside c.args.rules.now.axioms) c.args.inserts.now);
  few = rw c.new-patterns.ensures.items (few_none (length c.args.rules.now.terms));
}

pub loop-inserted-preserved : goal.loop-inserted-preserved
loop-inserted-preserved c =
    let within : c.loop-inserted.inserted-index < length c.args.inserts.now = omega arith in
    record {
      asks = rw c.in_ok-append.ensures.items
          (ask_more c.args.rules.now (ClashesBeside c.args.rules.now.axioms) c.args.inserts.now c.loop-inserted.inserted-index c.inserted-item.result c.loop-inserted.patterns.items _ within c.inserted-item.is c.loop-inserted.invariant.asks c.in_ok-guards_of.ensures.asks);
      few = rw c.in_ok-append.ensures.items
          (few_both (length c.args.rules.now.terms) c.loop-inserted.inserted-index 1 c.loop-inserted.patterns.items _ c.loop-inserted.invariant.few c.in_ok-guards_of.ensures.few);
    }

pub returns-clause-asks : goal.returns-clause-asks
returns-clause-asks c =
    let all : c.loop-inserted.inserted-index ≡ length c.args.inserts.now = omega arith in
    ask_end c.args.rules.now (ClashesBeside c.args.rules.now.axioms) c.args.inserts.now c.loop-inserted.inserted-index c.loop-inserted.patterns.items all c.loop-inserted.invariant.asks

pub returns-clause-few : goal.returns-clause-few
returns-clause-few c =
    let all : c.loop-inserted.inserted-index ≡ length c.args.inserts.now = omega arith in
    few_end (length c.args.rules.now.terms) c.loop-inserted.inserted-index (length c.args.inserts.now) c.loop-inserted.patterns.items all c.loop-inserted.invariant.few
