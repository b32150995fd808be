-- Prefixes as a list in order.
use Rattle.std.proofs.Common.{◌≡◌, ◌≢◌, ⊎_elim, ◌<◌, ◌≤◌, ℕ, List, [], ◌∷◌, ◌++◌, length, map, Bool, true, false, Option, Some, None, Result, Ok, Err, refl, sym, ap, subst, ◌∙◌, cond, arith}
use Rattle.std.specs.Option.{IsSome}
use Rattle.std.specs.Map.{lookup}
use Rattle.std.proofs.lemmas.Bool.{false≢true, cases_Bool}
use Rattle.std.proofs.lemmas.Map.Lookups.{exact_bytes}
use Rattle.std.proofs.lemmas.Option.{none-some, same_Some}
use Rattle.std.proofs.lemmas.Map.Text.{is_eq-slice_cmp}
use Rattle.std.specs.Global.{Vec}
use Rattle.std.specs.Ordering.{nat_cmp, is_eq}
use Rattle.std.specs.Cmp.Lexicographic.{slice_cmp, bytes_decides}
use Rattle.std.specs.BTreeMap.{insert_entry, is_at}
use Rattle.std.specs.declared.cmp.Ordering.{Ordering}
use Rattle.std.specs.declared.cmp.Ordering.TheVariants.{Less, Equal, Greater}
use Rattle.std.specs.Str.{bytes_eq}
use Rattle.std.specs.Prelude.{codes}
use Rattle.dl_text.specs.Namespaces.{rdf_namespace, rdfs_namespace, xsd_namespace, owl_namespace}
use Rattle.dl_text.specs.Escapes.{Undoes}
use Rattle.dl_text.specs.Iris.{IsIri}
use Rattle.dl_text.specs.Outcomes.{NamesIri, IsUndone, longest_iri}
use Rattle.dl_text.specs.Prefixes.{Bindings, iri_of, with_prefix, standard_prefixes, LocalText, Expands, Resolves}
use Rattle.dl_text.specs.declared.escapes.Escapes.TheVariants.{Local}
use Rattle.dl_text.specs.declared.faults.TextFault.{TextFault}
use Rattle.dl_text.specs.declared.faults.TextFault.TheVariants.{BadIri, BadEscape, BadLiteral, NameTooLong, UnknownPrefix, OutOfMemory}
use Rattle.dl_text.proofs.EscapeLaws.{undoes_one}

abbrev pub Entries : Type 0
Entries = List (Vec ℕ × List ℕ)

-- the entries of a map, as contracts see them
abbrev pub bindings_of : Entries → Bindings
bindings_of es = map (λ (e : Vec ℕ × List ℕ). (e.0.items, e.1)) es

abbrev pub key_cmp : Vec ℕ → Vec ℕ → Ordering
key_cmp x y = slice_cmp nat_cmp x.items y.items

pub bindings_of-insert : (es : Entries) (key : Vec ℕ) (iri : List ℕ) → bindings_of (insert_entry key_cmp es key iri) ≡ with_prefix (bindings_of es) key.items iri
bindings_of-insert [] key iri = refl
bindings_of-insert (e ∷ es) key iri = by_order (key_cmp key e.0) refl (bindings_of-insert es key iri)
  where
    by_order : (o : Ordering) → key_cmp key e.0 ≡ o → bindings_of (insert_entry key_cmp es key iri) ≡ with_prefix (bindings_of es) key.items iri
        → bindings_of (insert_entry key_cmp (e ∷ es) key iri) ≡ with_prefix (bindings_of (e ∷ es)) key.items iri
    by_order Less h rest = rw h refl
    by_order Equal h rest = rw h refl
    by_order Greater h rest = rw h (ap (λ (zs : Bindings). (e.0.items, e.1) ∷ zs) rest)

pub standard_is : (v w x y z : Bindings) (r s t u : List ℕ) → v ≡ [] → r ≡ rdf_namespace → s ≡ rdfs_namespace → t ≡ xsd_namespace → u ≡ owl_namespace
    → w ≡ with_prefix v (codes "rdf") r → x ≡ with_prefix w (codes "rdfs") s → y ≡ with_prefix x (codes "xsd") t → z ≡ with_prefix y (codes "owl") u → z ≡ standard_prefixes
standard_is v w x y z r s t u none rdf rdfs xsd owl first second third fourth =
    fourth ∙ ap (λ (b : Bindings). with_prefix b (codes "owl") u) third ∙ ap (λ (b : Bindings). with_prefix (with_prefix b (codes "xsd") t) (codes "owl") u) second
    ∙ ap (λ (b : Bindings). with_prefix (with_prefix (with_prefix b (codes "rdfs") s) (codes "xsd") t) (codes "owl") u) first
    ∙ ap (λ (b : Bindings). with_prefix (with_prefix (with_prefix (with_prefix b (codes "rdf") r) (codes "rdfs") s) (codes "xsd") t) (codes "owl") u) none
    ∙ ap (λ (i : List ℕ). (codes "owl", u) ∷ (codes "rdf", i) ∷ (codes "rdfs", s) ∷ (codes "xsd", t) ∷ []) rdf
    ∙ ap (λ (i : List ℕ). (codes "owl", u) ∷ (codes "rdf", rdf_namespace) ∷ (codes "rdfs", i) ∷ (codes "xsd", t) ∷ []) rdfs
    ∙ ap (λ (i : List ℕ). (codes "owl", u) ∷ (codes "rdf", rdf_namespace) ∷ (codes "rdfs", rdfs_namespace) ∷ (codes "xsd", i) ∷ []) xsd
    ∙ ap (λ (i : List ℕ). (codes "owl", i) ∷ (codes "rdf", rdf_namespace) ∷ (codes "rdfs", rdfs_namespace) ∷ (codes "xsd", xsd_namespace) ∷ []) owl

abbrev pub key_test : List ℕ → Vec ℕ → Bool
key_test prefix key = is_at (λ (k : Vec ℕ). slice_cmp nat_cmp prefix k.items) key

-- looking a prefix up in the map looks it up in what contracts see
pub looked_up : (es : Entries) (prefix : List ℕ) → lookup (key_test prefix) es ≡ iri_of (bindings_of es) prefix
looked_up [] prefix = refl
looked_up (e ∷ es) prefix =
    ap (λ (b : Bool). cond b (Some e.1) (lookup (key_test prefix) es)) (is_eq-slice_cmp prefix e.0.items)
    ∙ ap (λ (o : Option (List ℕ)). cond (bytes_eq prefix e.0.items) (Some e.1) o) (looked_up es prefix)

module _ (bindings : Bindings) (prefix raw : List ℕ) (escapes : Bool) (iri : List ℕ) (bound : iri_of bindings prefix ≡ Some iri) where
  expanded : (local : List ℕ) → LocalText escapes raw local → Expands bindings prefix raw escapes (iri ++ local)
  expanded local t = record { iri = iri; local = local; bound = bound; written = t; is = refl }

  pub resolved : (local : List ℕ) (r : Result (List ℕ) TextFault) → LocalText escapes raw local → NamesIri (iri ++ local) r → Resolves bindings prefix raw escapes r
  resolved local (Ok name) t n = (subst (Expands bindings prefix raw escapes) (sym n.0) (expanded local t), subst IsIri (sym n.0) n.1, subst (λ m. length m ≤ longest_iri) (sym n.0) n.2)
  resolved local (Err BadIri) t n = (iri ++ local, expanded local t, n)
  resolved local (Err NameTooLong) t n = (iri ++ local, expanded local t, n.0, n.1)
  resolved local (Err OutOfMemory) t n = tt
  resolved local (Err BadEscape) t n = absurd n
  resolved local (Err BadLiteral) t n = n
  resolved local (Err UnknownPrefix) t n = absurd n

  not_resolved : (f : TextFault) → ((local : List ℕ) → LocalText escapes raw local → Undoes Local raw local) → IsUndone Local raw (Err f) → Resolves bindings prefix raw escapes (Err f)
  not_resolved BadEscape undoes u = (subst IsSome (sym bound) refl, λ local t. u local (undoes local t))
  not_resolved OutOfMemory undoes u = tt
  not_resolved BadIri undoes u = absurd u
  not_resolved NameTooLong undoes u = absurd u
  not_resolved BadLiteral undoes u = u
  not_resolved UnknownPrefix undoes u = absurd u

-- where escapes are undone, the local part is what undoing gives
pub local_undone : (escapes : Bool) (raw local : List ℕ) → escapes ≡ true → Undoes Local raw local → LocalText escapes raw local
local_undone escapes raw local e u = subst (λ b. LocalText b raw local) (sym e) u

pub local_plain : (escapes : Bool) (raw : List ℕ) → escapes ≡ false → LocalText escapes raw raw
local_plain escapes raw e = subst (λ b. LocalText b raw raw) (sym e) refl

pub undoing_failed : (bindings : Bindings) (prefix raw : List ℕ) (escapes : Bool) (iri : List ℕ) (f : TextFault) → iri_of bindings prefix ≡ Some iri → escapes ≡ true
    → IsUndone Local raw (Err f) → Resolves bindings prefix raw escapes (Err f)
undoing_failed bindings prefix raw escapes iri f bound e u = not_resolved bindings prefix raw escapes iri bound f (λ local t. subst (λ b. LocalText b raw local) e t) u

-- one text at most
local_one : (escapes : Bool) (raw x y : List ℕ) → LocalText escapes raw x → LocalText escapes raw y → x ≡ y
local_one true raw x y h k = undoes_one Local raw x y h k
local_one false raw x y h k = h ∙ sym k

module _ (b : Bindings) (p raw : List ℕ) (e : Bool) where
  expands_one : (x y : List ℕ) → Expands b p raw e x → Expands b p raw e y → x ≡ y
  expands_one x y h k =
      let iri = same_Some h.iri k.iri (sym h.bound ∙ k.bound) in
      h.is ∙ ap (λ (zs : List ℕ). zs ++ h.local) iri ∙ ap (λ (zs : List ℕ). k.iri ++ zs) (local_one e raw h.local k.local h.written k.written) ∙ sym k.is

  -- a prefix that stands for nothing expands to nothing
  unbound : (x : List ℕ) → Expands b p raw e x → iri_of b p ≡ None → ⊥
  unbound x h n = none-some h.iri (sym n ∙ h.bound)

  unbound_some : IsSome (iri_of b p) → iri_of b p ≡ None → ⊥
  unbound_some s n = false≢true (subst IsSome n s)

  unwritten : (x : List ℕ) → Expands b p raw e x → ((local : List ℕ) → ¬ LocalText e raw local) → ⊥
  unwritten x h n = n h.local h.written

  no_iri : (x y : List ℕ) → Expands b p raw e x → Expands b p raw e y → IsIri x → ¬ IsIri y → ⊥
  no_iri x y h k i n = n (subst IsIri (expands_one x y h k) i)

  too_long : (x y : List ℕ) → Expands b p raw e x → Expands b p raw e y → length x ≤ longest_iri → longest_iri < length y → ⊥
  too_long x y h k l m = let same = ap length (expands_one x y h k) in omega (arith, l, m, same)

  abbrev pub IsAnswer : Result (List ℕ) TextFault → Type 0
  IsAnswer r = r ≡ Err OutOfMemory → ⊥

  pub resolve_one : (r s : Result (List ℕ) TextFault) → Resolves b p raw e r → Resolves b p raw e s → IsAnswer r → IsAnswer s → r ≡ s
  resolve_one (Ok x) (Ok y) (h, i, l) (k, j, m) n o = ap (λ z. Ok z) (expands_one x y h k)
  resolve_one (Ok x) (Err UnknownPrefix) (h, i, l) k n o = absurd (unbound x h k)
  resolve_one (Ok x) (Err BadEscape) (h, i, l) (k, j) n o = absurd (unwritten x h j)
  resolve_one (Ok x) (Err BadIri) (h, i, l) (y, k, j) n o = absurd (no_iri x y h k i j)
  resolve_one (Ok x) (Err NameTooLong) (h, i, l) (y, k, j, m) n o = absurd (too_long x y h k l m)
  resolve_one (Err UnknownPrefix) (Ok y) h (k, j, m) n o = absurd (unbound y k h)
  resolve_one (Err UnknownPrefix) (Err UnknownPrefix) h k n o = refl
  resolve_one (Err UnknownPrefix) (Err BadEscape) h (k, j) n o = absurd (unbound_some k h)
  resolve_one (Err UnknownPrefix) (Err BadIri) h (y, k, j) n o = absurd (unbound y k h)
  resolve_one (Err UnknownPrefix) (Err NameTooLong) h (y, k, j, m) n o = absurd (unbound y k h)
  resolve_one (Err BadEscape) (Ok y) (h, i) (k, j, m) n o = absurd (unwritten y k i)
  resolve_one (Err BadEscape) (Err UnknownPrefix) (h, i) k n o = absurd (unbound_some h k)
  resolve_one (Err BadEscape) (Err BadEscape) (h, i) (k, j) n o = refl
  resolve_one (Err BadEscape) (Err BadIri) (h, i) (y, k, j) n o = absurd (unwritten y k i)
  resolve_one (Err BadEscape) (Err NameTooLong) (h, i) (y, k, j, m) n o = absurd (unwritten y k i)
  resolve_one (Err BadIri) (Ok y) (x, h, i) (k, j, m) n o = absurd (no_iri y x k h j i)
  resolve_one (Err BadIri) (Err UnknownPrefix) (x, h, i) k n o = absurd (unbound x h k)
  resolve_one (Err BadIri) (Err BadEscape) (x, h, i) (k, j) n o = absurd (unwritten x h j)
  resolve_one (Err BadIri) (Err BadIri) (x, h, i) (y, k, j) n o = refl
  resolve_one (Err BadIri) (Err NameTooLong) (x, h, i) (y, k, j, m) n o = absurd (no_iri y x k h j i)
  resolve_one (Err NameTooLong) (Ok y) (x, h, i, l) (k, j, m) n o = absurd (too_long y x k h m l)
  resolve_one (Err NameTooLong) (Err UnknownPrefix) (x, h, i, l) k n o = absurd (unbound x h k)
  resolve_one (Err NameTooLong) (Err BadEscape) (x, h, i, l) (k, j) n o = absurd (unwritten x h j)
  resolve_one (Err NameTooLong) (Err BadIri) (x, h, i, l) (y, k, j) n o = absurd (no_iri x y h k i j)
  resolve_one (Err NameTooLong) (Err NameTooLong) (x, h, i, l) (y, k, j, m) n o = refl
  resolve_one (Err OutOfMemory) s h k n o = absurd (n refl)
  resolve_one r (Err OutOfMemory) h k n o = absurd (o refl)
  resolve_one (Err BadLiteral) s h k n o = absurd h
  resolve_one r (Err BadLiteral) h k n o = absurd k

same_bytes : (xs ys : List ℕ) → xs ≡ ys → bytes_eq xs ys ≡ true
same_bytes xs ys e = (bytes_decides xs ys).1 e

other_bytes : (xs ys : List ℕ) → xs ≢ ys → bytes_eq xs ys ≡ false
other_bytes xs ys n = ⊎_elim (λ t. absurd (n ((bytes_decides xs ys).0 t))) (λ f. f) (cases_Bool (bytes_eq xs ys))

apart_bytes : (xs ys : List ℕ) → slice_cmp nat_cmp xs ys ≡ Greater → bytes_eq xs ys ≡ false
apart_bytes xs ys e = sym (is_eq-slice_cmp xs ys) ∙ ap is_eq e

-- a prefix that was set stands for its IRI
pub stands_for : (bindings : Bindings) (prefix iri : List ℕ) → iri_of (with_prefix bindings prefix iri) prefix ≡ Some iri
stands_for [] prefix iri = rw (same_bytes prefix prefix refl) refl
stands_for (e ∷ es) prefix iri = by_order (slice_cmp nat_cmp prefix e.0) refl (stands_for es prefix iri)
  where
    by_order : (o : Ordering) → slice_cmp nat_cmp prefix e.0 ≡ o → iri_of (with_prefix es prefix iri) prefix ≡ Some iri → iri_of (with_prefix (e ∷ es) prefix iri) prefix ≡ Some iri
    by_order Less h rest = rw (h, same_bytes prefix prefix refl) refl
    by_order Equal h rest = rw (h, same_bytes prefix e.0 (exact_bytes prefix e.0 h)) refl
    by_order Greater h rest = rw (h, apart_bytes prefix e.0 h) rest

-- the other prefixes stand for what they stood for
pub others_stand : (bindings : Bindings) (prefix iri other : List ℕ) → other ≢ prefix → iri_of (with_prefix bindings prefix iri) other ≡ iri_of bindings other
others_stand [] prefix iri other n = rw (other_bytes other prefix n) refl
others_stand (e ∷ es) prefix iri other n = by_order (slice_cmp nat_cmp prefix e.0) refl (others_stand es prefix iri other n)
  where
    by_order : (o : Ordering) → slice_cmp nat_cmp prefix e.0 ≡ o → iri_of (with_prefix es prefix iri) other ≡ iri_of es other → iri_of (with_prefix (e ∷ es) prefix iri) other ≡ iri_of (e ∷ es) other
    by_order Less h rest = rw (h, other_bytes other prefix n) refl
    by_order Equal h rest = rw (h, other_bytes other e.0 (λ same. n (same ∙ sym (exact_bytes prefix e.0 h)))) refl
    by_order Greater h rest = rw h (ap (λ (o : Option (List ℕ)). cond (bytes_eq other e.0) (Some e.1) o) rest)
