-- What the parts of a reader give, put together.
use Rattle.std.proofs.Common.{◌≡◌, ◌≢◌, ◌≤◌, ℕ, List, [], length, Result, Ok, Err, Bool, true, false, IsTrue, refl, sym, ap, subst, ◌∙◌, arith}
use Rattle.std.specs.Prelude.{All}
use Rattle.std.proofs.lemmas.Bool.{false≢true}
use Rattle.std.proofs.lemmas.List.{append-nil}
use Rattle.std.proofs.lemmas.List.Elements.{All-weaker}
use Rattle.dl_text.specs.Going.{Goes}
use Rattle.dl_text.specs.Escapes.{backslash, Stands, Undoes}
use Rattle.dl_text.specs.Iris.{is_iri_byte, IsIri}
use Rattle.dl_text.specs.Outcomes.{IriText, ReadsIri, ReadsString, IsNamed, IsUndone, NamesIri, longest_iri, longest_text}
use Rattle.dl_text.specs.declared.escapes.Escapes.{Escapes}
use Rattle.dl_text.specs.declared.escapes.Escapes.TheVariants.{Iri}
use Rattle.dl_text.specs.declared.faults.TextFault.{TextFault}
use Rattle.dl_text.specs.declared.faults.TextFault.TheVariants.{BadIri, BadEscape, BadLiteral, NameTooLong, UnknownPrefix, OutOfMemory}
use Rattle.dl_text.proofs.EscapeLaws.{singles, joined-singles, plain_run, undoes_one}

-- text with no backslash stands for itself
pub undoes_itself : (rule : Escapes) (text : List ℕ) → All (λ b. b ≢ backslash) text → Undoes rule text text
undoes_itself rule text a =
    (singles text, subst (λ zs. Goes (Stands rule) zs (singles text) []) (append-nil text) (plain_run rule text [] a), sym (joined-singles text))

pub iri_undoes : (text : List ℕ) → IsIri text → Undoes Iri text text
iri_undoes text i =
    undoes_itself Iri text (All-weaker (λ b. IsTrue (is_iri_byte b)) (λ b. b ≢ backslash) (λ b t e. false≢true (sym (ap is_iri_byte e) ∙ t)) text i.clean)

pub iri_text : (escapes : Bool) (text : List ℕ) → IsIri text → IriText escapes text text
iri_text true text i = iri_undoes text i
iri_text false text i = refl

pub iri_named : (escapes : Bool) (raw text : List ℕ) (r : Result (List ℕ) TextFault) → IriText escapes raw text → IsIri text → IsNamed longest_iri text r → ReadsIri escapes raw r
iri_named escapes raw text (Ok name) t i n = (subst (IriText escapes raw) (sym n.0) t, subst IsIri (sym n.0) i, subst (λ m. length m ≤ longest_iri) (sym n.0) n.1)
iri_named escapes raw text (Err BadEscape) t i n = absurd n
iri_named escapes raw text (Err BadIri) t i n = absurd n
iri_named escapes raw text (Err NameTooLong) t i n = (text, t, i, n)
iri_named escapes raw text (Err OutOfMemory) t i n = tt
iri_named escapes raw text (Err BadLiteral) t i n = absurd n
iri_named escapes raw text (Err UnknownPrefix) t i n = absurd n

pub iri_undone : (escapes : Bool) (raw text : List ℕ) → escapes ≡ true → Undoes Iri raw text → IriText escapes raw text
iri_undone escapes raw text e u = subst (λ b. IriText b raw text) (sym e) u

pub iri_given : (escapes : Bool) (raw text : List ℕ) (r : Result (List ℕ) TextFault) → IriText escapes raw text → NamesIri text r → ReadsIri escapes raw r
iri_given escapes raw text (Ok name) t n = (subst (IriText escapes raw) (sym n.0) t, subst IsIri (sym n.0) n.1, subst (λ m. length m ≤ longest_iri) (sym n.0) n.2)
iri_given escapes raw text (Err BadIri) t n = (text, t, n)
iri_given escapes raw text (Err NameTooLong) t n = (text, t, n.0, n.1)
iri_given escapes raw text (Err OutOfMemory) t n = tt
iri_given escapes raw text (Err BadEscape) t n = absurd n
iri_given escapes raw text (Err BadLiteral) t n = n
iri_given escapes raw text (Err UnknownPrefix) t n = n

pub iri_not_undone : (escapes : Bool) (raw : List ℕ) (f : TextFault) → escapes ≡ true → IsUndone Iri raw (Err f) → ReadsIri escapes raw (Err f)
iri_not_undone true raw BadEscape e u = u
iri_not_undone true raw OutOfMemory e u = tt
iri_not_undone true raw BadIri e u = absurd u
iri_not_undone true raw NameTooLong e u = absurd u
iri_not_undone true raw BadLiteral e u = u
iri_not_undone true raw UnknownPrefix e u = u
iri_not_undone false raw f e u = absurd (false≢true e)

pub string_not_undone : (rule : Escapes) (raw : List ℕ) (f : TextFault) → IsUndone rule raw (Err f) → ReadsString rule raw (Err f)
string_not_undone rule raw BadEscape u = u
string_not_undone rule raw OutOfMemory u = tt
string_not_undone rule raw BadIri u = u
string_not_undone rule raw NameTooLong u = absurd u
string_not_undone rule raw BadLiteral u = u
string_not_undone rule raw UnknownPrefix u = u

pub string_named : (rule : Escapes) (raw text : List ℕ) (r : Result (List ℕ) TextFault) → Undoes rule raw text → IsNamed longest_text text r → ReadsString rule raw r
string_named rule raw text (Ok name) t n = (subst (Undoes rule raw) (sym n.0) t, subst (λ m. length m ≤ longest_text) (sym n.0) n.1)
string_named rule raw text (Err BadEscape) t n = absurd n
string_named rule raw text (Err BadIri) t n = absurd n
string_named rule raw text (Err NameTooLong) t n = (text, t, n)
string_named rule raw text (Err OutOfMemory) t n = tt
string_named rule raw text (Err BadLiteral) t n = absurd n
string_named rule raw text (Err UnknownPrefix) t n = absurd n

-- one answer at most, but for memory
pub iri_text_one : (escapes : Bool) (raw text other : List ℕ) → IriText escapes raw text → IriText escapes raw other → text ≡ other
iri_text_one true raw text other h k = undoes_one Iri raw text other h k
iri_text_one false raw text other h k = h ∙ sym k

abbrev pub IsAnswer : Result (List ℕ) TextFault → Type 0
IsAnswer r = r ≡ Err OutOfMemory → ⊥

pub iri_one : (escapes : Bool) (raw : List ℕ) (r s : Result (List ℕ) TextFault) → ReadsIri escapes raw r → ReadsIri escapes raw s → IsAnswer r → IsAnswer s → r ≡ s
iri_one escapes raw (Ok a) (Ok b) h k n m = ap (λ z. Ok z) (iri_text_one escapes raw a b h.0 k.0)
iri_one escapes raw (Ok a) (Err BadEscape) h k n m = absurd (k a h.0)
iri_one escapes raw (Ok a) (Err BadIri) h (b, t, i) n m = absurd (i (subst IsIri (iri_text_one escapes raw a b h.0 t) h.1))
iri_one escapes raw (Ok a) (Err NameTooLong) h (b, t, i, l) n m = let e = iri_text_one escapes raw a b h.0 t in absurd (omega (arith, h.2, l, ap length e))
iri_one escapes raw (Err BadEscape) (Ok a) h k n m = absurd (h a k.0)
iri_one escapes raw (Err BadIri) (Ok b) (a, t, i) k n m = absurd (i (subst IsIri (iri_text_one escapes raw b a k.0 t) k.1))
iri_one escapes raw (Err NameTooLong) (Ok b) (a, t, i, l) k n m = let e = iri_text_one escapes raw a b t k.0 in absurd (omega (arith, k.2, l, ap length e))
iri_one escapes raw (Err BadEscape) (Err BadEscape) h k n m = refl
iri_one escapes raw (Err BadEscape) (Err BadIri) h (b, t, i) n m = absurd (h b t)
iri_one escapes raw (Err BadEscape) (Err NameTooLong) h (b, t, i, l) n m = absurd (h b t)
iri_one escapes raw (Err BadIri) (Err BadEscape) (a, t, i) k n m = absurd (k a t)
iri_one escapes raw (Err BadIri) (Err BadIri) h k n m = refl
iri_one escapes raw (Err BadIri) (Err NameTooLong) (a, t, i) (b, u, j, l) n m = absurd (i (subst IsIri (iri_text_one escapes raw b a u t) j))
iri_one escapes raw (Err NameTooLong) (Err BadEscape) (a, t, i, l) k n m = absurd (k a t)
iri_one escapes raw (Err NameTooLong) (Err BadIri) (a, t, i, l) (b, u, j) n m = absurd (j (subst IsIri (iri_text_one escapes raw a b t u) i))
iri_one escapes raw (Err NameTooLong) (Err NameTooLong) h k n m = refl
iri_one escapes raw (Err OutOfMemory) s h k n m = absurd (n refl)
iri_one escapes raw r (Err OutOfMemory) h k n m = absurd (m refl)
iri_one escapes raw (Err BadLiteral) s h k n m = absurd h
iri_one escapes raw (Err UnknownPrefix) s h k n m = absurd h
iri_one escapes raw r (Err BadLiteral) h k n m = absurd k
iri_one escapes raw r (Err UnknownPrefix) h k n m = absurd k

pub string_one : (rule : Escapes) (raw : List ℕ) (r s : Result (List ℕ) TextFault) → ReadsString rule raw r → ReadsString rule raw s → IsAnswer r → IsAnswer s → r ≡ s
string_one rule raw (Ok a) (Ok b) h k n m = ap (λ z. Ok z) (undoes_one rule raw a b h.0 k.0)
string_one rule raw (Ok a) (Err BadEscape) h k n m = absurd (k a h.0)
string_one rule raw (Ok a) (Err NameTooLong) h (b, t, l) n m = let e = undoes_one rule raw a b h.0 t in absurd (omega (arith, h.1, l, ap length e))
string_one rule raw (Err BadEscape) (Ok a) h k n m = absurd (h a k.0)
string_one rule raw (Err NameTooLong) (Ok b) (a, t, l) k n m = let e = undoes_one rule raw a b t k.0 in absurd (omega (arith, k.1, l, ap length e))
string_one rule raw (Err BadEscape) (Err BadEscape) h k n m = refl
string_one rule raw (Err BadEscape) (Err NameTooLong) h (b, t, l) n m = absurd (h b t)
string_one rule raw (Err NameTooLong) (Err BadEscape) (a, t, l) k n m = absurd (k a t)
string_one rule raw (Err NameTooLong) (Err NameTooLong) h k n m = refl
string_one rule raw (Err OutOfMemory) s h k n m = absurd (n refl)
string_one rule raw r (Err OutOfMemory) h k n m = absurd (m refl)
string_one rule raw (Err BadIri) s h k n m = absurd h
string_one rule raw (Err BadLiteral) s h k n m = absurd h
string_one rule raw (Err UnknownPrefix) s h k n m = absurd h
string_one rule raw r (Err BadIri) h k n m = absurd k
string_one rule raw r (Err BadLiteral) h k n m = absurd k
string_one rule raw r (Err UnknownPrefix) h k n m = absurd k
