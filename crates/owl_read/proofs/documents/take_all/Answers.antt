use Rattle.std.proofs.Common.{◌<◌, ℕ, Option, length, ap, sym, subst, arith, inr, refl}
use Rattle.std.specs.Prelude.{MatchOption}
use Rattle.std.proofs.lemmas.Result.{err_from_is_err_and}
use Rattle.dl_base.specs.Validity.{IsValid}
use Rattle.dl_base.specs.Vocabularies.{Notes, IsFirstSpecialised}
use Rattle.owl_read.specs.Held.{held}
use Rattle.owl_read.specs.Items.{item_of}
use Rattle.owl_read.proofs.DocumentLaws.{valid_take, taken_kept, front_axioms, front_within, fails_here, refused_here, on_here}
use Rattle.owl_read.proofs.documents.take_all.Goals as goal

pub returns-in_err-take : goal.returns-in_err-take
returns-in_err-take c =
    let within : c.loop-node.node-index < length c.args.nodes.now = omega (arith, c.loop-node-test.true) in
    let p = err_from_is_err_and c.from_residual.result c.from_residual.ensures.1 in
    rw (p.1, p.2) (fails_here c.args.nodes.now c.loop-node.node-index c.node-item.result within c.node-item.is (held c.args.reader.now) (held c.loop-node.reader) c.loop-node.invariant.0
    (held c.take.new.self) c.in_err-take.field-0.0 c.in_err-take.ensures)

pub first_from-requires-clause-noted : goal.first_from-requires-clause-noted
first_from-requires-clause-noted c =
    let k = taken_kept (held c.loop-node.reader) (held c.take.new.self) (item_of c.node-item.result) c.in_ok-take.ensures in
    subst (Notes c.loop-node.restriction) (sym (front_axioms (held c.loop-node.reader) (held c.take.new.self) (length c.as_slice-before.result.now) c.as_slice.result.now k (ap length c.as_slice-before.ensures.value) c.as_slice.ensures.value))
    c.loop-node.invariant.1

pub first_from-requires-clause-valid : goal.first_from-requires-clause-valid
first_from-requires-clause-valid c =
    let k = taken_kept (held c.loop-node.reader) (held c.take.new.self) (item_of c.node-item.result) c.in_ok-take.ensures in
    subst IsValid (sym (front_axioms (held c.loop-node.reader) (held c.take.new.self) (length c.as_slice-before.result.now) c.as_slice.result.now k (ap length c.as_slice-before.ensures.value) c.as_slice.ensures.value))
    c.loop-node.invariant.0.valid

pub first_from-requires-clause-within : goal.first_from-requires-clause-within
first_from-requires-clause-within c =
    let k = taken_kept (held c.loop-node.reader) (held c.take.new.self) (item_of c.node-item.result) c.in_ok-take.ensures in
    front_within (held c.loop-node.reader) (held c.take.new.self) (length c.as_slice-before.result.now) c.as_slice.result.now k (ap length c.as_slice-before.ensures.value) c.as_slice.ensures.value

pub returns-in-Some : goal.returns-in-Some
returns-in-Some c =
    let within : c.loop-node.node-index < length c.args.nodes.now = omega (arith, c.loop-node-test.true) in
    let found = subst (λ (o : Option ℕ). MatchOption o (IsValid c.as_slice.result.now × Notes c.first_from.new.self c.as_slice.result.now) (IsFirstSpecialised c.as_slice.result.now)) c.in-Some.is c.in_ok-first_from.ensures in
    let broken = λ (v : IsValid c.take.new.self.axioms.items). found.here (valid_take c.as_slice.result.now _ (subst IsValid (sym c.as_slice.ensures.value) v)) in
    rw (c.refused.ensures, c.line_of.ensures)
    (refused_here c.args.nodes.now c.loop-node.node-index c.node-item.result within c.node-item.is (held c.args.reader.now) (held c.loop-node.reader) c.loop-node.invariant.0 _ _
    (inr (held c.take.new.self, c.in_ok-take.ensures, broken, refl, refl)))

pub loop-node-preserved : goal.loop-node-preserved
loop-node-preserved c =
    let within : c.loop-node.node-index < length c.args.nodes.now = omega (arith, c.loop-node-test.true) in
    let more = subst (λ (o : Option ℕ). MatchOption o (IsValid c.as_slice.result.now × Notes c.first_from.new.self c.as_slice.result.now) (IsFirstSpecialised c.as_slice.result.now)) c.in_default.is c.in_ok-first_from.ensures in
    let valid = subst IsValid c.as_slice.ensures.value more.0 in (
      on_here c.args.nodes.now c.loop-node.node-index c.node-item.result within c.node-item.is (held c.args.reader.now) (held c.loop-node.reader) c.loop-node.invariant.0 (held c.take.new.self) c.in_ok-take.ensures valid,
      subst (Notes c.first_from.new.self) c.as_slice.ensures.value more.1,
    )
