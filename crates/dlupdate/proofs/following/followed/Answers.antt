use Rattle.std.proofs.Common.{◌≡◌, ◌<◌, ◌≤◌, ◌+◌, ◌++◌, ◌∷◌, ℕ, List, Option, length, drop, refl, sym, ◌∙◌, ap, subst, arith}
use Rattle.dl_base.specs.Clash.{IsConsistent}
use Rattle.dl_base.specs.Ontologies.{Theory}
use Rattle.dlupdate.specs.Commands.{words_of}
use Rattle.dlupdate.specs.Following.{head_of, IsPart, EndsHere}
use Rattle.dlupdate.specs.Runs.{Contents}
use Rattle.dlupdate.specs.Texts as text
use Rattle.dlupdate.specs.declared.reports.Stop.{Stop}
use Rattle.dlupdate.specs.declared.reports.Stop.TheVariants as stop
use Rattle.dl_base.specs.declared.statements.Fact.{Fact}
use Rattle.dlupdate.proofs.FollowingLaws.{AtUpdate, starts_at, idle_at, force_at, goes_on, ends_at, stops_at, name_at, no_name}
use Rattle.dlupdate.proofs.following.followed.Goals as goal

pub start-requires-clause-consistent : goal.start-requires-clause-consistent
start-requires-clause-consistent g c = subst (λ (t : Theory). IsConsistent t.axioms c.args.opened.facts.items) (sym c.requires.base.rules) c.requires.base.consistent

pub loop-number-init : goal.loop-number-init
loop-number-init g c =
    (starts_at (g.F.Files.contents c.args.files.now) (head_of c.args.numbered) (words_of c.args.updates.now) c.args.opened c.in_ok-world.world c.new-text.result.items c.requires.base c.in_ok-world.ensures.opening c.in_ok-world.ensures.nothing c.new-text.ensures.items, refl, omega arith)

pub part-requires-clause-idle : goal.part-requires-clause-idle
part-requires-clause-idle g c = idle_at (g.F.Files.contents c.args.files.now) c.args.opened.ontology (head_of c.args.numbered) c.args.opened.facts.items (words_of c.args.updates.now) c.loop-number.world c.loop-number.number c.loop-number.text.items c.loop-number.invariant.0

pub part-requires-clause-force : goal.part-requires-clause-force
part-requires-clause-force g c = force_at (g.F.Files.contents c.args.files.now) c.args.opened.ontology (head_of c.args.numbered) c.args.opened.facts.items (words_of c.args.updates.now) c.loop-number.world c.loop-number.number c.loop-number.text.items c.loop-number.invariant.0

pub loop-number-preserved : goal.loop-number-preserved
loop-number-preserved g c =
    let within : c.loop-number.number < length c.args.updates.now = omega arith in
    let split = name_at c.args.updates.now c.loop-number.number c.index-updates-number.result within c.index-updates-number.is ∙ (λ i. sym c.as_str.ensures.value i ∷ drop (c.loop-number.number + 1) (words_of c.args.updates.now)) in
    let taken = goes_on (g.F.Files.contents c.args.files.now) c.args.opened.ontology (head_of c.args.numbered) c.args.opened.facts.items (words_of c.args.updates.now) c.loop-number.world c.loop-number.number c.loop-number.text.items c.loop-number.invariant.0 c.as_str.result.now c.in-Ok.part.items c.part.new.world split
    (λ stored stands consistent. subst (λ (k : Option Contents). IsPart k c.args.opened.ontology (head_of c.args.numbered) c.loop-number.number stored c.as_str.result.now c.part.new.world c.in-Ok.part.items) c.loop-number.invariant.1 (c.in-Ok.ensures.ok stored stands consistent)) in (
      subst (λ (p : List ℕ). AtUpdate (g.F.Files.contents c.args.files.now) c.args.opened.ontology (head_of c.args.numbered) c.args.opened.facts.items (words_of c.args.updates.now) c.part.new.world (c.loop-number.number + 1) p) (sym (c.in_ok-extend_from_slice-in-Ok.ensures.items ∙ ap (λ (q : List ℕ). c.loop-number.text.items ++ q) c.as_slice.ensures.value)) taken,
      c.in-Ok.ensures.same ∙ c.loop-number.invariant.1,
      omega (arith, c.in-Ok.ensures.later, c.loop-number.invariant.2),
    )

pub returns-in-Err-Report-clause-stopped : goal.returns-in-Err-Report-clause-stopped
returns-in-Err-Report-clause-stopped g c =
    let within : c.loop-number.number < length c.args.updates.now = omega arith in
    let split = name_at c.args.updates.now c.loop-number.number c.index-updates-number.result within c.index-updates-number.is ∙ (λ i. sym c.as_str.ensures.value i ∷ drop (c.loop-number.number + 1) (words_of c.args.updates.now)) in
    let same = rw c.in-Err-Report.field-0-is at c.in_ok-behind-in-Err-Report.ensures.0 in
    let items = rw c.in-Err-Report.field-0-is at c.in_ok-behind-in-Err-Report.ensures.1 in
    stops_at (g.F.Files.contents c.args.files.now) c.args.opened.ontology (head_of c.args.numbered) c.args.opened.facts.items (words_of c.args.updates.now) c.loop-number.world c.loop-number.number c.loop-number.text.items c.loop-number.invariant.0 c.as_str.result.now c.in-Err-Report.report c.in_ok-behind-in-Err-Report.field-0 split
    (λ stored stands. subst (λ (k : Option Contents). EndsHere k c.args.opened.ontology (head_of c.args.numbered) c.loop-number.number stored c.as_str.result.now (stop.Report c.in-Err-Report.report)) c.loop-number.invariant.1
    (subst (λ (s : Stop). EndsHere (g.F.Files.contents c.loop-number.files) c.args.opened.ontology (head_of c.args.numbered) c.loop-number.number stored c.as_str.result.now s) c.in-Err-Report.field-0-is (c.in-Err-Report.ensures.stopped stored stands)))
    same items

pub returns-clause-ok : goal.returns-clause-ok
returns-clause-ok g c =
    let past : length c.args.updates.now ≤ c.loop-number.number = omega arith in
    ends_at (g.F.Files.contents c.args.files.now) c.args.opened.ontology (head_of c.args.numbered) c.args.opened.facts.items (words_of c.args.updates.now) c.loop-number.world c.loop-number.number c.loop-number.text.items c.loop-number.invariant.0 c.version.result.now (record { status = 0; text = c.push_stored.new.text }) (no_name c.args.updates.now c.loop-number.number past) c.version.ensures.stands refl
    (c.in_ok-push_stored.ensures ∙ ap (λ (v : List Fact). c.loop-number.text.items ++ text.stored c.args.opened.ontology v) (c.as_slice-2.ensures.value ∙ c.in_ok-stored.ensures.all))
