-- Start rows as the program has them.
use Rattle.dl_laws.specs.Rows.{Start, OfConcept, OfRole, OfAttr}
use Rattle.conflict_rules.specs.declared.beginnings.Beginning.{Beginning}
use Rattle.conflict_rules.specs.declared.beginnings.Beginning.TheVariants as begin

abbrev pub start_of : Beginning → Start
start_of (begin.InConcept name concept) = OfConcept name.now concept
start_of (begin.InRole from to role) = OfRole from.now to.now role
start_of (begin.InAttr from value attr) = OfAttr from.now value.now attr
