use Rattle.std.proofs.Common.{◌≡◌, ◌<◌, ◌+◌, ◌⊎◌, Bool, length, take, true, false, not, refl, arith, sym, ◌∙◌, ap, subst, List}
use Rattle.std.specs.Prelude.{Contains, ◌↔◌}
use Rattle.std.proofs.lemmas.Map.Views.{btree_set_contains_iff}
use Rattle.std.proofs.Math.Seq.{take-length}
use Rattle.std.proofs.lemmas.Bool.{false≢true}
use Rattle.dl_base.specs.contracts.statements.FactOrd.TheImpl.Laws as law
use Rattle.dl_base.specs.declared.statements.Fact.{Fact}
use Rattle.dl_base.specs.Repeats.{IsOnce}
use Rattle.dl_base.proofs.OrderLaws.{derived_cmp_exact}
use Rattle.dl_base.proofs.RepeatsLaws.{once_more, once_again, once_has, seen_more}
use Rattle.dl_base.proofs.SetLaws.{inserted}
use Rattle.dl_base.proofs.repeats.once.Goals as goal
use Rattle.dl_base.proofs.repeats.once.Goals.{then-branch+in_ok-copy-2+in_ok-push, else-branch}

is_new : {b c : Bool} → c ≡ not b → c ≡ true → b ≡ true → ⊥
is_new {b = true} e h k = false≢true (sym e ∙ h)
is_new {b = false} e h k = false≢true k

is_old : {b c : Bool} → c ≡ not b → c ≡ false → b ≡ true
is_old {b = true} e h = refl
is_old {b = false} e h = absurd (false≢true (sym h ∙ e))

pub loop-fact-preserved : goal.loop-fact-preserved
loop-fact-preserved c =
    let within : c.loop-fact.fact-index < length c.args.facts.now = omega (arith, c.loop-fact-test.true) in
    let facts = c.args.facts.now in
    let i = c.loop-fact.fact-index in
    let x = c.fact-item.result in
    let key = c.in_ok-copy.field-0 in
    let iff = btree_set_contains_iff law.total-law derived_cmp_exact c.loop-fact.seen key in
    let more : (g : Fact) → Contains c.insert.new.self.keys g ↔ Contains (take (i + 1) facts) g =
    seen_more facts i x within c.fact-item.is c.loop-fact.seen.keys c.insert.new.self.keys c.loop-fact.invariant.1
    (λ g. subst (λ (z : Fact). Contains c.insert.new.self.keys g ↔ ((g ≡ z) ⊎ Contains c.loop-fact.seen.keys g)) c.in_ok-copy.ensures
    (inserted law.total-law derived_cmp_exact c.loop-fact.seen c.insert.new.self key c.in_ok-insert.ensures.updates.0 g)) in (
      elim c.if-branch.branch [
        | then-branch+in_ok-copy-2+in_ok-push w ↦
            rw (w.kept-is, w.in_ok-push.ensures.items, w.in_ok-copy-2.ensures)
            (once_more facts i x within c.fact-item.is c.loop-fact.kept.items c.loop-fact.invariant.0
            (λ m. is_new (c.in_ok-insert.ensures.added) w.if-branch.true (iff.1 (subst (Contains c.loop-fact.seen.keys) (sym c.in_ok-copy.ensures) ((c.loop-fact.invariant.1 x).1 m)))))
        | else-branch w ↦
            rw w.kept-is
            (once_again facts i x within c.fact-item.is c.loop-fact.kept.items c.loop-fact.invariant.0
            ((c.loop-fact.invariant.1 x).0 (subst (Contains c.loop-fact.seen.keys) c.in_ok-copy.ensures (iff.0 (is_old (c.in_ok-insert.ensures.added) w.if-branch.false)))))
      ],
      more,
    )

pub returns-clause-same : goal.returns-clause-same
returns-clause-same c =
    let all : c.loop-fact.fact-index ≡ length c.args.facts.now = omega (arith, c.loop-fact-test.false, c.loop-fact.auto.fact-index-end) in
    once_has c.args.facts.now c.loop-fact.kept.items (subst (λ (zs : List Fact). IsOnce zs c.loop-fact.kept.items) (ap (λ k. take k c.args.facts.now) all ∙ take-length c.args.facts.now) c.loop-fact.invariant.0)
