-- From what is read to what is opened.
use Rattle.std.proofs.Common.{◌≡◌, ℕ, List, Option, Some, None, refl, sym, ◌∙◌, subst, arith}
use Rattle.std.specs.Prelude.{IfSome, Contains, Err}
use Rattle.dl_base.specs.declared.statements.Fact.{Fact}
use Rattle.dl_base.specs.Clash.{IsConsistent}
use Rattle.dl_base.specs.Ontologies.{Theory, Knows}
use Rattle.loading.specs.Loading.{IsOpened, Contradicts, Gathers, Loads}
use Rattle.loading.specs.declared.opening.Opened.{Opened}
use Rattle.loading.specs.declared.refusals.LoadRefusal.{LoadRefusal}
use Rattle.loading.specs.declared.refusals.LoadRefusal.TheVariants as refusal
use Rattle.dl_text.specs.declared.refusals.ReadRefusal.{ReadRefusal}
use Rattle.dl_text.specs.declared.refusals.ReadRefusal.TheVariants.{Refused, OutOfMemory}
use Rattle.dlupdate.specs.declared.reports.Stop.{Stop}
use Rattle.dlupdate.specs.declared.reports.Stop.TheVariants as stop
use Rattle.dlupdate.specs.Opening.{IsBase, IsContradicted, IsUnloaded}
use Rattle.dlupdate.specs.Runs.{Contents, Has, Opens, Unopened, no_ontology, no_facts, alone, pair, IsUnread, RefusesOntology, RefusesFacts, GivesOntology, NoRefusal, IsStopped, StopsOnly, IsReportedOf, ontology_limit, facts_limit}
use Rattle.dlupdate.specs.Texts as text
use Rattle.dlupdate.proofs.RunLaws.{with_told, with_both, stop_more, stop_with, unread_more, refused_stop, refused_only, reported_only}

-- what is opened is a base
pub base_of : (theory : Theory) (facts : List Fact) (skipped : ℕ) (it : Opened) → IsOpened theory facts skipped it → ((f : Fact) → Contains it.facts.items f → Knows theory f) → IsBase it
base_of theory facts skipped it o known = record {
  rules = o.rules ∙ sym o.ontology;
  consistent = subst (λ (t : Theory). IsConsistent t.axioms it.facts.items) (sym o.ontology) (subst (λ (fs : List Fact). IsConsistent theory.axioms fs) (sym o.facts_are) o.consistent);
  known = λ f m. subst (λ (t : Theory). Knows t f) (sym o.ontology) (known f m);
}

-- a run whose ontology isn't read ends before its facts are open
pub no_ontology_stop : (contents : Option Contents) (name : List ℕ) (facts : Option (List ℕ)) (s : Stop) → IsStopped contents (λ c. IsUnread c name ontology_limit RefusesOntology) s → IsStopped contents (λ c. Unopened c name facts) s
no_ontology_stop contents name facts s h = stop_more contents (λ c. IsUnread c name ontology_limit RefusesOntology) (λ c. Unopened c name facts) s (λ c status printed u. no_ontology u) h

-- and so does one whose facts aren't read
pub no_facts_stop : (contents : Option Contents) (ontology name : List ℕ) (theory : Theory) (given : List Fact) (before : ℕ) (s : Stop) → IfSome contents (λ c. GivesOntology c ontology theory given before)
    → IsStopped contents (λ c. IsUnread c name facts_limit NoRefusal) s → IsStopped contents (λ c. Unopened c ontology (Some name)) s
no_facts_stop contents ontology name theory given before s gives h =
    stop_with contents (λ c. GivesOntology c ontology theory given before) (λ c. IsUnread c name facts_limit NoRefusal) (λ c. Unopened c ontology (Some name)) s
    (λ c status printed g u. no_facts name theory given before refl g (unread_more c name facts_limit (RefusesFacts theory) status printed u)) gives h

pub refused_facts_stop : (contents : Option Contents) (ontology name : List ℕ) (theory : Theory) (given : List Fact) (before : ℕ) (s : Stop) → IfSome contents (λ c. GivesOntology c ontology theory given before)
    → IsStopped contents (λ c. IsUnread c name facts_limit (RefusesFacts theory)) s → IsStopped contents (λ c. Unopened c ontology (Some name)) s
refused_facts_stop contents ontology name theory given before s gives h =
    stop_with contents (λ c. GivesOntology c ontology theory given before) (λ c. IsUnread c name facts_limit (RefusesFacts theory)) (λ c. Unopened c ontology (Some name)) s
    (λ c status printed g u. no_facts name theory given before refl g u) gives h

-- what the loading refuses is refused by the reader of facts
pub loads_refused : (theory : Theory) (given : List Fact) (before : ℕ) (bytes : List ℕ) (why : ReadRefusal) → Loads theory given before bytes (Err (refusal.Facts why))
    → (line : ℕ) (kind : Rattle.dl_text.specs.declared.kinds.ReadKind.ReadKind) → why ≡ Refused line kind → RefusesFacts theory bytes line kind
loads_refused theory given before bytes (Refused l k) h line kind e = subst (λ (w : ReadRefusal). Rattle.ntriples.specs.Files.Reads theory bytes (Err w)) e h
loads_refused theory given before bytes OutOfMemory h line kind e = absurd h

-- and so does one whose facts contradict the axioms
pub contradicted_stop : (contents : Option Contents) (ontology : List ℕ) (facts : Option (List ℕ)) (theory : Theory) (all : List Fact) (skipped : ℕ) (r : LoadRefusal) (s : Stop)
    → IfSome contents (λ c. Opens c ontology facts theory all skipped) → Contradicts theory.axioms all r → IsContradicted theory r s → IsStopped contents (λ c. Unopened c ontology facts) s
contradicted_stop contents ontology facts theory all skipped (refusal.Alone f) (stop.Report r) opens h is =
    with_told contents (λ c. Opens c ontology facts theory all skipped) (λ c. Unopened c ontology facts r.status r.text.items) (λ c o. alone theory all skipped f o h is.0 is.1) opens
contradicted_stop contents ontology facts theory all skipped (refusal.Pair f g) (stop.Report r) opens h is =
    with_told contents (λ c. Opens c ontology facts theory all skipped) (λ c. Unopened c ontology facts r.status r.text.items) (λ c o. pair theory all skipped f g o h is.0 is.1) opens
contradicted_stop contents ontology facts theory all skipped (refusal.Alone f) stop.OutOfMemory opens h is = tt
contradicted_stop contents ontology facts theory all skipped (refusal.Pair f g) stop.OutOfMemory opens h is = tt
contradicted_stop contents ontology facts theory all skipped (refusal.Ontology w) s opens h is = absurd h
contradicted_stop contents ontology facts theory all skipped (refusal.Facts w) s opens h is = absurd h
contradicted_stop contents ontology facts theory all skipped refusal.OutOfMemory s opens h is = subst (IsStopped contents (λ c. Unopened c ontology facts)) (sym is) tt

-- what is gathered is open
pub gathers_opens : (contents : Option Contents) (ontology name : List ℕ) (theory : Theory) (given all : List Fact) (before skipped : ℕ) (bytes : List ℕ)
    → IfSome contents (λ c. GivesOntology c ontology theory given before) → IfSome contents (λ c. Has c name facts_limit bytes) → Gathers theory given before bytes all skipped
    → IfSome contents (λ c. Opens c ontology (Some name) theory all skipped)
gathers_opens contents ontology name theory given all before skipped bytes gives has gathers =
    with_both contents (λ c. GivesOntology c ontology theory given before) (λ c. Has c name facts_limit bytes) (λ c. Opens c ontology (Some name) theory all skipped)
    (λ c g h. (given, before, g, (bytes, h, gathers))) gives has

-- a run ends with what a loading refuses
pub loads_stop : (contents : Option Contents) (ontology name : List ℕ) (theory : Theory) (given : List Fact) (before : ℕ) (bytes : List ℕ) (r : LoadRefusal) (s : Stop)
    → IfSome contents (λ c. GivesOntology c ontology theory given before) → IfSome contents (λ c. Has c name facts_limit bytes)
    → Loads theory given before bytes (Err r) → IsUnloaded theory name r s → IsStopped contents (λ c. Unopened c ontology (Some name)) s
loads_stop contents ontology name theory given before bytes (refusal.Alone f) s gives has h is =
    contradicted_stop contents ontology (Some name) theory h.0 h.1 (refusal.Alone f) s (gathers_opens contents ontology name theory given h.0 before h.1 bytes gives has h.2) h.3 is
loads_stop contents ontology name theory given before bytes (refusal.Pair f g) s gives has h is =
    contradicted_stop contents ontology (Some name) theory h.0 h.1 (refusal.Pair f g) s (gathers_opens contents ontology name theory given h.0 before h.1 bytes gives has h.2) h.3 is
loads_stop contents ontology name theory given before bytes (refusal.Ontology w) s gives has h is = absurd h
loads_stop contents ontology name theory given before bytes (refusal.Facts w) s gives has h is =
    refused_facts_stop contents ontology name theory given before s gives
    (refused_stop contents name facts_limit bytes (RefusesFacts theory) w s has (λ line kind e. loads_refused theory given before bytes w h line kind e) is)
loads_stop contents ontology name theory given before bytes refusal.OutOfMemory s gives has h is = subst (IsStopped contents (λ c. Unopened c ontology (Some name))) (sym is) tt

-- and never with a fault
pub unloaded_only : (rose : Type 0) (theory : Theory) (name : List ℕ) (r : LoadRefusal) (s : Stop) → IsUnloaded theory name r s → StopsOnly rose s
unloaded_only rose theory name (refusal.Facts why) s h = refused_only rose name why s h
unloaded_only rose theory name (refusal.Alone f) s h = reported_only rose 4 (text.contradiction theory (refusal.Alone f)) s (λ e. omega (arith, e)) h
unloaded_only rose theory name (refusal.Pair f g) s h = reported_only rose 4 (text.contradiction theory (refusal.Pair f g)) s (λ e. omega (arith, e)) h
unloaded_only rose theory name (refusal.Ontology why) s h = subst (StopsOnly rose) (sym h) tt
unloaded_only rose theory name refusal.OutOfMemory s h = subst (StopsOnly rose) (sym h) tt

-- what a loading opens is open
pub loads_ok : (contents : Option Contents) (ontology name : List ℕ) (theory : Theory) (given all : List Fact) (before skipped : ℕ) (bytes : List ℕ) (it : Opened)
    → IfSome contents (λ c. GivesOntology c ontology theory given before) → IfSome contents (λ c. Has c name facts_limit bytes) → Gathers theory given before bytes all skipped → IsOpened theory all skipped it
    → IfSome contents (λ c. Opens c ontology (Some name) it.ontology it.facts.items it.skipped)
loads_ok contents ontology name theory given all before skipped bytes it gives has gathers o =
    let opens = gathers_opens contents ontology name theory given all before skipped bytes gives has gathers in
    subst (λ (n : ℕ). IfSome contents (λ c. Opens c ontology (Some name) it.ontology it.facts.items n)) (sym o.skipped_are)
    (subst (λ (fs : List Fact). IfSome contents (λ c. Opens c ontology (Some name) it.ontology fs skipped)) (sym o.facts_are)
    (subst (λ (t : Theory). IfSome contents (λ c. Opens c ontology (Some name) t all skipped)) (sym o.ontology) opens))
