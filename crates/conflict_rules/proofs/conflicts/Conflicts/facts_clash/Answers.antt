use Rattle.std.proofs.Common.{ap, sym, ◌∙◌}
use Rattle.std.proofs.lemmas.Bool.{false≢true}
use Rattle.dl_laws.specs.Rows.{Start, starts}
use Rattle.conflict_rules.specs.Clashing.{ClashesWith}
use Rattle.dl_laws.proofs.Colliding.{one_told, first_told, last_told}
use Rattle.conflict_rules.proofs.conflicts.Conflicts.facts_clash.Goals as goal

pub returns-in-Class : goal.returns-in-Class
returns-in-Class c = one_told (λ (s : Start). ClashesWith c.args.self.now.axioms s c.args.second.now) c.args.first.now c.clashes_with.result _ (ap starts c.in-Class.is) c.clashes_with.ensures

pub returns-then-clashes_with : goal.returns-then-clashes_with
returns-then-clashes_with c = first_told (λ (s : Start). ClashesWith c.args.self.now.axioms s c.args.second.now) c.args.first.now _ _ (ap starts c.in-Role.is) (c.clashes_with-in-Role.ensures.0 c.if-clashes_with.true)

pub returns-else-clashes_with : goal.returns-else-clashes_with
returns-else-clashes_with c = last_told (λ (s : Start). ClashesWith c.args.self.now.axioms s c.args.second.now) c.args.first.now c.clashes_with-in-Role-2.result _ _ (ap starts c.in-Role.is) (λ h. false≢true (sym c.if-clashes_with.false ∙ c.clashes_with-in-Role.ensures.1 h)) c.clashes_with-in-Role-2.ensures

pub returns-in-Attr : goal.returns-in-Attr
returns-in-Attr c = one_told (λ (s : Start). ClashesWith c.args.self.now.axioms s c.args.second.now) c.args.first.now c.clashes_with-in-Attr.result _ (ap starts c.in-Attr.is) c.clashes_with-in-Attr.ensures
