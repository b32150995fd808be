-- Which facts entail a fact that a pattern asks for, as patterns.
use Rattle.std.specs.Prelude.{◌↔◌, ◌⊎◌, ℕ, ◌<◌, ◌≤◌, ◌+◌, ◌*◌, List, Contains}
use Rattle.dl_base.specs.declared.axioms.Axiom.{Axiom}
use Rattle.dl_base.specs.declared.patterns.Pattern.{Pattern}
use Rattle.dl_base.specs.declared.patterns.Pattern.TheVariants as asked
use Rattle.dl_base.specs.declared.terms.Kind.TheVariants as kind
use Rattle.dl_base.specs.declared.terms.Term.{Term}
use Rattle.dl_base.specs.declared.terms.RoleSide.{RoleSide}
use Rattle.dl_base.specs.declared.terms.RoleSide.TheVariants.{Direct, Inverse}
use Rattle.dl_base.specs.declared.terms.Basic.{Basic}
use Rattle.dl_base.specs.declared.terms.Basic.TheVariants as basic
use Rattle.dl_base.specs.declared.statements.Fact.{Fact}
use Rattle.dl_base.specs.Clash.{RoleReaches, AttrReaches}
use Rattle.dl_base.specs.Ontologies.{Theory, IsTerm}
use Rattle.dl_base.specs.Patterns.{Matches}
use Rattle.dl_base.specs.Reach.{ConceptReaches}
use Rattle.conflict_rules.specs.Counts.{naming, one_if}
use Rattle.entail_guards.specs.declared.asking.Way.{Way}
use Rattle.entail_guards.specs.declared.asking.Way.TheVariants as way

-- one of the patterns asks for the fact
abbrev pub IsAsked : List Pattern → Fact → Type 0
IsAsked patterns f = (p : Pattern) × Contains patterns p × Matches p f

-- the new patterns ask for what the old ones ask for and for what Q names
abbrev pub AsksMore : (Fact → Type 0) → List Pattern → List Pattern → Type 0
AsksMore Q old new = (f : Fact) → IsAsked new f ↔ (IsAsked old f ⊎ Q f)

-- the concept is below the class of the pattern
abbrev pub ClassLeads : List Axiom → Basic → Pattern → Type 0
ClassLeads axioms from (asked.Class c) = ConceptReaches axioms from (basic.Class c)
ClassLeads axioms from (asked.ClassOf c a) = ConceptReaches axioms from (basic.Class c)
ClassLeads axioms from other = ⊥

-- the role is below the role of the pattern
abbrev pub RoleLeads : List Axiom → RoleSide → Pattern → Type 0
RoleLeads axioms from (asked.Role p) = RoleReaches axioms from (Direct p)
RoleLeads axioms from (asked.RoleFrom p a) = RoleReaches axioms from (Direct p)
RoleLeads axioms from (asked.RoleTo p b) = RoleReaches axioms from (Direct p)
RoleLeads axioms from (asked.RoleBoth p a b) = RoleReaches axioms from (Direct p)
RoleLeads axioms from (asked.RoleFromExcept p a b) = RoleReaches axioms from (Direct p)
RoleLeads axioms from (asked.RoleToExcept p b a) = RoleReaches axioms from (Direct p)
RoleLeads axioms from other = ⊥

-- the attribute is below the attribute of the pattern
abbrev pub AttrLeads : List Axiom → Term → Pattern → Type 0
AttrLeads axioms from (asked.Attr u) = AttrReaches axioms from u
AttrLeads axioms from (asked.AttrOf u a) = AttrReaches axioms from u
AttrLeads axioms from (asked.AttrValue u v) = AttrReaches axioms from u
AttrLeads axioms from (asked.AttrBoth u a v) = AttrReaches axioms from u
AttrLeads axioms from (asked.AttrOfExcept u a v) = AttrReaches axioms from u
AttrLeads axioms from other = ⊥

-- facts of the term lead to what is asked for, in this way
abbrev pub Leads : List Axiom → Way → Term → Pattern → Type 0
Leads axioms way.Class t p = ClassLeads axioms (basic.Class t) p
Leads axioms way.Attr t p = ClassLeads axioms (basic.Domain t) p ⊎ AttrLeads axioms t p
Leads axioms way.Direct t p = ClassLeads axioms (basic.Exists (Direct t)) p ⊎ RoleLeads axioms (Direct t) p
Leads axioms way.Inverse t p = ClassLeads axioms (basic.Exists (Inverse t)) p ⊎ RoleLeads axioms (Inverse t) p

-- the class facts of the term that agree with what is asked for
abbrev pub of_class : Term → Pattern → Pattern
of_class t (asked.ClassOf c a) = asked.ClassOf t a
of_class t other = asked.Class t

-- the attribute facts of the term that agree with what is asked for
abbrev pub of_attr : Term → Pattern → Pattern
of_attr t (asked.ClassOf c a) = asked.AttrOf t a
of_attr t (asked.AttrOf u a) = asked.AttrOf t a
of_attr t (asked.AttrValue u v) = asked.AttrValue t v
of_attr t (asked.AttrBoth u a v) = asked.AttrBoth t a v
of_attr t (asked.AttrOfExcept u a v) = asked.AttrOfExcept t a v
of_attr t other = asked.Attr t

-- the role facts of the term that agree with what is asked for
abbrev pub of_direct : Term → Pattern → Pattern
of_direct t (asked.ClassOf c a) = asked.RoleFrom t a
of_direct t (asked.RoleFrom p a) = asked.RoleFrom t a
of_direct t (asked.RoleTo p b) = asked.RoleTo t b
of_direct t (asked.RoleBoth p a b) = asked.RoleBoth t a b
of_direct t (asked.RoleFromExcept p a b) = asked.RoleFromExcept t a b
of_direct t (asked.RoleToExcept p b a) = asked.RoleToExcept t b a
of_direct t other = asked.Role t

-- the role facts of the term that, turned round, agree with what is asked for
abbrev pub of_inverse : Term → Pattern → Pattern
of_inverse t (asked.ClassOf c a) = asked.RoleTo t a
of_inverse t (asked.RoleFrom p a) = asked.RoleTo t a
of_inverse t (asked.RoleTo p b) = asked.RoleFrom t b
of_inverse t (asked.RoleBoth p a b) = asked.RoleBoth t b a
of_inverse t (asked.RoleFromExcept p a b) = asked.RoleToExcept t a b
of_inverse t (asked.RoleToExcept p b a) = asked.RoleFromExcept t b a
of_inverse t other = asked.Role t

-- the facts of the term that agree with what is asked for, in this way
abbrev pub turned : Way → Term → Pattern → Pattern
turned way.Class t p = of_class t p
turned way.Attr t p = of_attr t p
turned way.Direct t p = of_direct t p
turned way.Inverse t p = of_inverse t p

-- the fact is of the term and entails what is asked for, in this way
abbrev pub Finds : List Axiom → Way → Term → Pattern → Fact → Type 0
Finds axioms by t p f = Leads axioms by t p × Matches (turned by t p) f

-- the same in one of the two ways of the term's kind
abbrev pub OfTerm : Theory → Term → Pattern → Fact → Type 0
OfTerm theory t p f =
    (IsTerm theory t kind.Role × (Finds theory.axioms way.Direct t p f ⊎ Finds theory.axioms way.Inverse t p f))
    ⊎ ((¬ IsTerm theory t kind.Role) × (Finds theory.axioms way.Class t p f ⊎ Finds theory.axioms way.Attr t p f))

-- the patterns ask for the facts of the first n terms that entail what is asked for
abbrev pub AsksBelow : Theory → Pattern → ℕ → List Pattern → Type 0
AsksBelow theory p n patterns = (f : Fact) → IsAsked patterns f ↔ ((k : ℕ) × (k < n) × OfTerm theory (record { 0 = k }) p f)

-- of the term m at most k patterns are more, of other terms none
abbrev pub AddsOf : ℕ → ℕ → List Pattern → List Pattern → Type 0
AddsOf m k old new = (n : ℕ) → naming n new ≤ naming n old + k * one_if m n

-- of each term at most two patterns
abbrev pub TwoEach : List Pattern → Type 0
TwoEach patterns = (n : ℕ) → naming n patterns ≤ 2
