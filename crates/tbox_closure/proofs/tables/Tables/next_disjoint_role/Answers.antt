use Rattle.std.proofs.Common.{◌≤◌, ◌<◌, ◌/◌, subst, refl, arith, ◌↔◌}
use Rattle.dl_base.specs.Ontologies.{Theory}
use Rattle.dl_laws.specs.Edges.{role_node}
use Rattle.dl_laws.specs.Meeting.{AreDisjointRoles}
use Rattle.tbox_closure.specs.Marks.{IsMarked, row}
use Rattle.tbox_closure.proofs.DisjointLaws.{mark_told, role_disjoint}
use Rattle.tbox_closure.proofs.PassedLaws.{role_word}
use Rattle.tbox_closure.proofs.tables.Tables.next_disjoint_role.Goals as goal

pub returns-clause-passed : goal.returns-clause-passed
returns-clause-passed c q low high h =
    let inside = c.self.inside in
    let place = role_node q in
    let marks = c.self.invariant.disjoint_roles (role_node c.args.role) place in
    let means = role_disjoint inside.ontology.axioms c.args.role q in
    let marked = IsMarked (row c.as_slice-rows.result.now c.role_number.result) place in
    let told = subst (λ (t : Theory). marked ↔ AreDisjointRoles t.axioms c.args.role q) c.self.view_is
    (mark_told marked (AreDisjointRoles inside.ontology.axioms c.args.role q) c.as_slice-rows.result.now inside.disjoint_roles.items
    c.role_number.result place (role_node c.args.role) place
    ((λ m. m), (λ m. m)) c.as_slice-rows.ensures.value c.role_number.ensures refl ((λ m. means.0 (marks.0 m)), (λ m. marks.1 (means.1 m)))) in
    let word = role_word q in
    let from : c.args.from / 32 ≤ place / 64 = omega (arith, low, word) in
    let before : place / 64 < c.next_word-word.result = omega (arith, low, high, word, c.max.ensures, c.saturating_mul.ensures) in
    c.next_word-word.ensures place from before (told.1 h)
