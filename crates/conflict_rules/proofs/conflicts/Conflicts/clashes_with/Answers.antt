use Rattle.std.proofs.Common.{ap, sym, ◌∙◌}
use Rattle.std.proofs.lemmas.Bool.{false≢true}
use Rattle.dl_laws.specs.Rows.{starts}
use Rattle.conflict_rules.specs.Clashing.{StartsClash}
use Rattle.conflict_rules.specs.Facts.{start_of}
use Rattle.dl_laws.proofs.Colliding.{one_told, first_told, last_told}
use Rattle.conflict_rules.proofs.conflicts.Conflicts.clashes_with.Goals as goal

pub returns-in-Class : goal.returns-in-Class
returns-in-Class c = one_told (StartsClash c.args.self.now.axioms (start_of c.args.row.now)) c.args.fact.now c.rows_clash.result _ (ap starts c.in-Class.is) c.rows_clash.ensures

pub returns-then-rows_clash : goal.returns-then-rows_clash
returns-then-rows_clash c = first_told (StartsClash c.args.self.now.axioms (start_of c.args.row.now)) c.args.fact.now _ _ (ap starts c.in-Role.is) (c.rows_clash-in-Role.ensures.0 c.if-rows_clash.true)

pub returns-else-rows_clash : goal.returns-else-rows_clash
returns-else-rows_clash c = last_told (StartsClash c.args.self.now.axioms (start_of c.args.row.now)) c.args.fact.now c.rows_clash-in-Role-2.result _ _ (ap starts c.in-Role.is) (λ h. false≢true (sym c.if-rows_clash.false ∙ c.rows_clash-in-Role.ensures.1 h)) c.rows_clash-in-Role-2.ensures

pub returns-in-Attr : goal.returns-in-Attr
returns-in-Attr c = one_told (StartsClash c.args.self.now.axioms (start_of c.args.row.now)) c.args.fact.now c.rows_clash-in-Attr.result _ (ap starts c.in-Attr.is) c.rows_clash-in-Attr.ensures
