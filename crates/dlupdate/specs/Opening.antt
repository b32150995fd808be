-- What the opening gives.
use Rattle.std.specs.Prelude.{◌≡◌, ℕ, List, Contains}
use Rattle.std.specs.Arc.{arc_value}
use Rattle.dl_base.specs.declared.statements.Fact.{Fact}
use Rattle.dl_base.specs.Clash.{IsConsistent}
use Rattle.dl_base.specs.Ontologies.{Theory, Knows}
use Rattle.loading.specs.declared.opening.Opened.{Opened}
use Rattle.loading.specs.declared.refusals.LoadRefusal.{LoadRefusal}
use Rattle.loading.specs.declared.refusals.LoadRefusal.TheVariants as refusal
use Rattle.dlupdate.specs.declared.reports.Stop.{Stop}
use Rattle.dlupdate.specs.declared.reports.Stop.TheVariants as stop
use Rattle.dlupdate.specs.Runs.{IsReported, IsReportedOf}
use Rattle.dlupdate.specs.Texts as text

-- the rules are the ontology's, and the facts are known and consistent under it
pub record IsBase (it : Opened) : Type 0 where
  pub rules : arc_value it.rules ≡ it.ontology
  pub consistent : IsConsistent it.ontology.axioms it.facts.items
  pub known : (f : Fact) → Contains it.facts.items f → Knows it.ontology f

-- the run ends with what is printed of facts that contradict the axioms, and for want of memory where it is another refusal
abbrev pub IsContradicted : Theory → LoadRefusal → Stop → Type 0
IsContradicted theory (refusal.Alone f) s = IsReported 4 (text.contradiction theory (refusal.Alone f)) s
IsContradicted theory (refusal.Pair f g) s = IsReported 4 (text.contradiction theory (refusal.Pair f g)) s
IsContradicted theory other s = s ≡ stop.OutOfMemory

-- the same, and with what is printed of a refused file of facts
abbrev pub IsUnloaded : Theory → List ℕ → LoadRefusal → Stop → Type 0
IsUnloaded theory name (refusal.Facts why) s = IsReportedOf name why s
IsUnloaded theory name (refusal.Alone f) s = IsContradicted theory (refusal.Alone f) s
IsUnloaded theory name (refusal.Pair f g) s = IsContradicted theory (refusal.Pair f g) s
IsUnloaded theory name (refusal.Ontology why) s = s ≡ stop.OutOfMemory
IsUnloaded theory name refusal.OutOfMemory s = s ≡ stop.OutOfMemory
