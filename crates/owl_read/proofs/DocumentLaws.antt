-- Reading the nodes of a document one after another.
use Rattle.std.proofs.Common.{◌≡◌, ℕ, ◌<◌, ◌≤◌, ◌+◌, List, [], ◌∷◌, ◌++◌, Result, Ok, Err, length, take, drop, get_or, map, refl, sym, ◌∙◌, ap, subst, arith, inl, inr, ⊎_elim}
use Rattle.std.specs.Prelude.{All, Contains, slice_get, Some}
use Rattle.std.proofs.lemmas.List.{length-append, take-append-drop, map-append}
use Rattle.std.proofs.lemmas.List.Elements.{All-nil, All-append, All-weaker, Contains-append_left}
use Rattle.std.proofs.Math.Seq.{take-append_seam}
use Rattle.dl_base.specs.declared.axioms.Axiom.{Axiom}
use Rattle.dl_base.specs.declared.axioms.Axiom.TheVariants.{RoleIn, AttrIn, FunctionalRole, FunctionalAttr, ConceptSome}
use Rattle.dl_base.specs.declared.axioms.Axiom.TheVariants.{ConceptIn, ConceptApart, RoleApart, AttrApart, Range}
use Rattle.dl_base.specs.declared.statements.Fact.TheVariants as fact
use Rattle.dl_base.specs.declared.terms.Basic.{Basic}
use Rattle.dl_base.specs.declared.terms.Basic.TheVariants as basic
use Rattle.dl_base.specs.declared.terms.Kind.TheVariants as kinds
use Rattle.dl_base.specs.declared.terms.RoleSide.{RoleSide}
use Rattle.dl_base.specs.declared.terms.RoleSide.TheVariants.{Direct, Inverse}
use Rattle.dl_base.specs.declared.terms.Term.{Term}
use Rattle.dl_base.specs.declared.statements.Fact.{Fact}
use Rattle.dl_base.specs.declared.terms.Kind.{Kind}
use Rattle.dl_base.specs.Derivation.{inverse}
use Rattle.dl_base.specs.Ontologies.{Theory, IsTerm, Knows, KnowsRole, KnowsConcept, KnowsAxiom}
use Rattle.dl_base.specs.Validity.{IsValid, IsOntology}
use Rattle.dl_base.specs.Vocabularies.{bare}
use Rattle.dl_text.specs.declared.kinds.ReadKind.{ReadKind}
use Rattle.dl_text.specs.declared.refusals.ReadRefusal.{ReadRefusal}
use Rattle.dl_text.specs.declared.refusals.ReadRefusal.TheVariants.{Refused, OutOfMemory}
use Rattle.owl_syntax.specs.declared.nodes.Node.{Node}
use Rattle.owl_syntax.specs.Trees.{Content}
use Rattle.owl_read.specs.Documents.{start, IsRead, IsRefusedBy, IsRefusedAt, Takes, theory_of, ReadsTo}
use Rattle.owl_read.specs.Items.{Item, item_of, inside}
use Rattle.owl_read.specs.Outcomes.{Refusal, ◌>>=◌, run, Fails}
use Rattle.owl_read.specs.Rows.{Reading, taken}
use Rattle.owl_read.specs.Scopes.{IsSound}
use Rattle.owl_read.proofs.KeepLaws.{Grows, grows_not, grows_on}
use Rattle.owl_read.proofs.KeepRows.{Kept, KeepsReading, taken_keeps}
use Rattle.owl_read.proofs.KeepTable.{AxiomIn, AxiomsIn, FactIn, axioms_stay, facts_stay}
use Rattle.dl_base.proofs.VocabularyLaws.{take_on}
use Rattle.owl_read.proofs.RunLaws.{run_push, drop_here}

-- what is in front of a valid list is valid
module _ (front rest : List Axiom) where
  there : (a : Axiom) → Contains front a → Contains (front ++ rest) a
  there a m = Contains-append_left front rest a m

  pub valid_front : IsValid (front ++ rest) → IsValid front
  valid_front v = record {
    roles = λ q r m f. v.roles q r (there (RoleIn q r) m) (⊎_elim (λ k. inl (there (FunctionalRole r) k)) (λ k. inr (there (FunctionalRole (inverse r)) k)) f);
    attrs = λ u w m f. v.attrs u w (there (AttrIn u w) m) (there (FunctionalAttr w) f);
    partners = λ b c q m f. v.partners b c q (there (ConceptSome b q c) m) (⊎_elim (λ k. inl (there (FunctionalRole q) k)) (λ k. inr (there (FunctionalRole (inverse q)) k)) f);
  }

pub valid_take : (axioms : List Axiom) (n : ℕ) → IsValid axioms → IsValid (take n axioms)
valid_take axioms n v = valid_front (take n axioms) (drop n axioms) (subst IsValid (sym (take-append-drop n axioms)) v)

-- what is read is sound: its terms, its axioms and its assertions
pub record Holds (r : Reading) : Type 0 where
  pub sound : IsSound r.scope.terms
  pub axioms : AxiomsIn r.scope r.axioms
  pub facts : All (FactIn r.scope) r.facts

pub holds_on : (r q : Reading) → Holds r → Kept r q → Holds q
holds_on r q h k = record {
  sound = k.grows.sound h.sound;
  axioms = subst (AxiomsIn q.scope) (sym k.axioms_are) (All-append (AxiomIn q.scope) r.axioms k.axioms (axioms_stay r.scope q.scope k.grows r.axioms h.axioms) k.axioms_in);
  facts = subst (All (FactIn q.scope)) (sym k.facts_are) (All-append (FactIn q.scope) r.facts k.facts (facts_stay r.scope q.scope k.grows r.facts h.facts) k.facts_in);
}

kept_by : (r q : Reading) (res : Result Reading Refusal) → res ≡ Ok q → KeepsReading r res → Kept r q
kept_by r q (Ok p) e k = subst (Kept r) (let same : p ≡ q = cc in same) k
kept_by r q (Err x) e k = cc

pub taken_kept : (r q : Reading) (item : Item) → taken r item ≡ Ok q → Kept r q
taken_kept r q item e = kept_by r q (taken r item) e (taken_keeps r item)

-- what one step keeps holds after a run of them
step_by : (r q : Reading) (items : List Item) (res : Result Reading Refusal) → Holds r → KeepsReading r res → ((p : Reading) → Holds p → run taken p items ≡ Ok q → Holds q)
    → (res >>= λ p. run taken p items) ≡ Ok q → Holds q
step_by r q items (Ok p) h k on e = on p (holds_on r p h k) e
step_by r q items (Err x) h k on e = cc

pub holds_run : (items : List Item) (r q : Reading) → Holds r → run taken r items ≡ Ok q → Holds q
holds_run [] r q h e = subst Holds (let same : r ≡ q = cc in same) h
holds_run (item ∷ items) r q h e = step_by r q items (taken r item) h (taken_keeps r item) (λ p k f. holds_run items p q k f) e

-- axioms don't matter for what is known
module _ (one other : Theory) (same : one.terms ≡ other.terms) where
  term_too : (p : Term) (k : Kind) → IsTerm one p k → IsTerm other p k
  term_too p k h = (h.0, subst (λ (ts : List (List ℕ × Kind)). slice_get ts p.0 ≡ Some (h.0, k)) same h.1)

  role_too : (q : RoleSide) → KnowsRole one q → KnowsRole other q
  role_too (Direct p) h = term_too p kinds.Role h
  role_too (Inverse p) h = term_too p kinds.Role h

  concept_too : (b : Basic) → KnowsConcept one b → KnowsConcept other b
  concept_too (basic.Class c) h = term_too c kinds.Class h
  concept_too (basic.Exists q) h = role_too q h
  concept_too (basic.Domain u) h = term_too u kinds.Attr h

  axiom_too : (a : Axiom) → KnowsAxiom one a → KnowsAxiom other a
  axiom_too (ConceptIn b c) h = (concept_too b h.0, concept_too c h.1)
  axiom_too (ConceptApart b c) h = (concept_too b h.0, concept_too c h.1)
  axiom_too (RoleIn q r) h = (role_too q h.0, role_too r h.1)
  axiom_too (RoleApart q r) h = (role_too q h.0, role_too r h.1)
  axiom_too (AttrIn u w) h = (term_too u kinds.Attr h.0, term_too w kinds.Attr h.1)
  axiom_too (AttrApart u w) h = (term_too u kinds.Attr h.0, term_too w kinds.Attr h.1)
  axiom_too (Range u d) h = term_too u kinds.Attr h
  axiom_too (FunctionalRole q) h = role_too q h
  axiom_too (FunctionalAttr u) h = term_too u kinds.Attr h
  axiom_too (ConceptSome b q c) h = (concept_too b h.0, role_too q h.1, concept_too c h.2)

  fact_too : (f : Fact) → Knows one f → Knows other f
  fact_too (fact.Class c a) h = term_too c kinds.Class h
  fact_too (fact.Role p a b) h = term_too p kinds.Role h
  fact_too (fact.Attr u a v) h = term_too u kinds.Attr h

-- what is read and valid is an ontology that can be made
pub holds_ontology : (r : Reading) → Holds r → IsValid r.axioms → IsOntology (theory_of r)
holds_ontology r h v = record {
  few = h.sound.few;
  named_once = h.sound.once;
  known = All-weaker (AxiomIn r.scope) (KnowsAxiom (theory_of r)) (axiom_too (bare r.scope.terms) (theory_of r) refl) r.axioms h.axioms;
  valid = v;
}

-- and it knows the assertions
pub holds_facts : (r : Reading) → Holds r → All (Knows (theory_of r)) r.facts
holds_facts r h = All-weaker (FactIn r.scope) (Knows (theory_of r)) (fact_too (bare r.scope.terms) (theory_of r) refl) r.facts h.facts

-- one node more
pub read_more : (from r q : Reading) (before : List Item) (item : Item) → IsRead from before r → taken r item ≡ Ok q → IsValid q.axioms → IsRead from (before ++ item ∷ []) q
read_more from r q before item h e v = record { runs = run_push taken before item from ∙ ap (λ (res : Result Reading Refusal). res >>= λ t. taken t item) h.runs ∙ e; valid = v }

-- the axioms from before stand in front
pub front_axioms : (r q : Reading) (n : ℕ) (axioms : List Axiom) → Kept r q → n ≡ length r.axioms → axioms ≡ q.axioms → take n axioms ≡ r.axioms
front_axioms r q n axioms k e f = (λ i. take (e i) (f i)) ∙ ap (take (length r.axioms)) k.axioms_are ∙ take-append_seam r.axioms k.axioms

pub front_within : (r q : Reading) (n : ℕ) (axioms : List Axiom) → Kept r q → n ≡ length r.axioms → axioms ≡ q.axioms → n ≤ length axioms
front_within r q n axioms k e f =
    let l = ap length f in
    let m = ap length k.axioms_are in
    let a = length-append r.axioms k.axioms in
    omega (arith, l, m, a, e)

module _ (nodes : List Node) (i : ℕ) (x : Node) (within : i < length nodes) (is : x ≡ get_or nodes i x) where
  abbrev Before : List Item
  Before = map item_of (take i nodes)

  -- one node more
  pub items_more : map item_of (take (i + 1) nodes) ≡ Before ++ item_of x ∷ []
  items_more = ap (map item_of) (take_on nodes i x within is) ∙ map-append item_of (take i nodes) (x ∷ [])

  items_split : map item_of nodes ≡ Before ++ item_of x ∷ map item_of (drop (i + 1) nodes)
  items_split =
      ap (map item_of) (sym (take-append-drop i nodes) ∙ ap (λ (ns : List Node). take i nodes ++ ns) (drop_here nodes i x within is))
      ∙ map-append item_of (take i nodes) (x ∷ drop (i + 1) nodes)

  module _ (from r : Reading) (read : IsRead from Before r) where
    pub refused_here : (line : ℕ) (kind : ReadKind) → IsRefusedBy r (item_of x) line kind → IsRefusedAt from (map item_of nodes) line kind
    refused_here line kind h = record {
      before = Before;
      item = item_of x;
      rest = map item_of (drop (i + 1) nodes);
      is = items_split;
      reading = r;
      read = read;
      refused = h;
    }

    pub fails_here : (q : Reading) (e : ReadRefusal) → Fails e (taken r (item_of x)) → Takes {X = Unit {0}} from (map item_of nodes) q (Err e)
    fails_here q (Refused line kind) h = refused_here line kind (inl h)
    fails_here q OutOfMemory h = tt

    pub on_here : (q : Reading) → taken r (item_of x) ≡ Ok q → IsValid q.axioms → IsRead from (map item_of (take (i + 1) nodes)) q
    on_here q e v = subst (λ (items : List Item). IsRead from items q) (sym items_more) (read_more from r q Before (item_of x) read e v)

-- what stands at the start holds
pub holds_start : (terms : List (List ℕ × Kind)) (content : Content) → IsSound terms → Holds (start terms content)
holds_start terms content h = record { sound = h; axioms = All-nil (AxiomIn (start terms content).scope); facts = All-nil (FactIn (start terms content).scope) }

pub nothing_sound : IsSound []
nothing_sound = record { once = λ i j s t l e f. cc; few = omega arith }

pub reads_holds : (terms : List (List ℕ × Kind)) (bytes : List ℕ) (reading : Reading) → IsSound terms → ReadsTo terms bytes (Ok reading) → Holds reading × IsValid reading.axioms
reads_holds terms bytes reading h (content, parses, read) = (holds_run (inside content.root) (start terms content) reading (holds_start terms content h) read.runs, read.valid)

grows_by : (r q : Reading) (items : List Item) (res : Result Reading Refusal) → KeepsReading r res → ((p : Reading) → run taken p items ≡ Ok q → Grows p.scope q.scope)
    → (res >>= λ p. run taken p items) ≡ Ok q → Grows r.scope q.scope
grows_by r q items (Ok p) k on e = grows_on r.scope p.scope q.scope k.grows (on p e)
grows_by r q items (Err x) k on e = cc

grows_run : (items : List Item) (r q : Reading) → run taken r items ≡ Ok q → Grows r.scope q.scope
grows_run [] r q e = subst (λ (p : Reading). Grows r.scope p.scope) (let same : r ≡ q = cc in same) (grows_not r.scope)
grows_run (item ∷ items) r q e = grows_by r q items (taken r item) (taken_keeps r item) (λ p f. grows_run items p q f) e

-- the terms of the base come first
pub reads_extends : (terms : List (List ℕ × Kind)) (bytes : List ℕ) (reading : Reading) → ReadsTo terms bytes (Ok reading) → (later : List (List ℕ × Kind)) × (reading.scope.terms ≡ terms ++ later)
reads_extends terms bytes reading (content, parses, read) = let g = grows_run (inside content.root) (start terms content) reading read.runs in (g.later, g.is)
