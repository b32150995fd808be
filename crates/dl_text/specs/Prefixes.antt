-- Prefixes, and the IRIs that prefixed names stand for.
use Rattle.std.specs.Prelude.{◌≡◌, ◌<◌, ◌≤◌, ℕ, List, [], ◌∷◌, ◌++◌, length, Bool, true, false, Option, Some, None, IsSome, Result, Ok, Err, codes}
use Rattle.std.specs.Map.{lookup}
use Rattle.std.specs.BTreeMap.{insert_entry}
use Rattle.std.specs.Cmp.Lexicographic.{slice_cmp}
use Rattle.std.specs.Ordering.{nat_cmp}
use Rattle.std.specs.Str.{bytes_eq}
use Rattle.dl_text.specs.Escapes.{Undoes}
use Rattle.dl_text.specs.Iris.{IsIri}
use Rattle.dl_text.specs.Namespaces.{rdf_namespace, rdfs_namespace, xsd_namespace, owl_namespace}
use Rattle.dl_text.specs.Outcomes.{longest_iri}
use Rattle.dl_text.specs.declared.escapes.Escapes.TheVariants.{Local}
use Rattle.dl_text.specs.declared.faults.TextFault.{TextFault}
use Rattle.dl_text.specs.declared.faults.TextFault.TheVariants.{BadIri, BadEscape, BadLiteral, NameTooLong, UnknownPrefix, OutOfMemory}

-- prefixes with the IRIs that they stand for, in the order of the prefixes
abbrev pub Bindings : Type 0
Bindings = List (List ℕ × List ℕ)

-- the IRI that a prefix stands for, or none
abbrev pub iri_of : Bindings → List ℕ → Option (List ℕ)
iri_of bindings prefix = lookup (bytes_eq prefix) bindings

-- these prefixes, but with this one for this IRI
abbrev pub with_prefix : Bindings → List ℕ → List ℕ → Bindings
with_prefix bindings prefix iri = insert_entry (slice_cmp nat_cmp) bindings prefix iri

-- the prefixes that every text knows
abbrev pub standard_prefixes : Bindings
standard_prefixes = (codes "owl", owl_namespace) ∷ (codes "rdf", rdf_namespace) ∷ (codes "rdfs", rdfs_namespace) ∷ (codes "xsd", xsd_namespace) ∷ []

-- raw stands for the local part, with escapes undone or as it is
abbrev pub LocalText : Bool → List ℕ → List ℕ → Type 0
LocalText true raw local = Undoes Local raw local
LocalText false raw local = local ≡ raw

-- the prefixed name stands for text: the prefix's IRI and then the local part
pub record Expands (bindings : Bindings) (prefix raw : List ℕ) (escapes : Bool) (text : List ℕ) : Type 0 where
  pub iri : List ℕ
  pub local : List ℕ
  pub bound : iri_of bindings prefix ≡ Some iri
  pub written : LocalText escapes raw local
  pub is : text ≡ iri ++ local

-- the name that the prefixed name stands for, or the first reason why there is none
abbrev pub Resolves : Bindings → List ℕ → List ℕ → Bool → Result (List ℕ) TextFault → Type 0
Resolves bindings prefix raw escapes (Ok name) = Expands bindings prefix raw escapes name × IsIri name × (length name ≤ longest_iri)
Resolves bindings prefix raw escapes (Err UnknownPrefix) = iri_of bindings prefix ≡ None
Resolves bindings prefix raw escapes (Err BadEscape) = IsSome (iri_of bindings prefix) × ((local : List ℕ) → ¬ LocalText escapes raw local)
Resolves bindings prefix raw escapes (Err BadIri) = (text : List ℕ) × Expands bindings prefix raw escapes text × ¬ IsIri text
Resolves bindings prefix raw escapes (Err NameTooLong) = (text : List ℕ) × Expands bindings prefix raw escapes text × IsIri text × (longest_iri < length text)
Resolves bindings prefix raw escapes (Err OutOfMemory) = Unit {0}
Resolves bindings prefix raw escapes (Err BadLiteral) = ⊥
