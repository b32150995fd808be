-- The parts of a line, one after another.
use Rattle.std.proofs.Common.{◌≡◌, ℕ, List, [], ◌∷◌, ◌++◌, length, true, false, nat_eq, sym, ap, ◌∙◌, append_assoc}
use Rattle.std.specs.Prelude.{codes, if◌then◌else◌, ◌==◌}
use Rattle.std.specs.Cmp.Lexicographic.{pointwise}
use Rattle.dl_base.specs.declared.names.Value.{Value}
use Rattle.dl_text.specs.Printing.{written}
use Rattle.ntriples.specs.Printing.{iri, datatype_of, behind, literal, triple}
use Rattle.dl_text.specs.Namespaces.{xsd_string}

-- behind the text of a literal with no tag and another datatype than xsd:string
pub typed_end : (v : Value) → (length v.tag == 0) ≡ true → pointwise nat_eq v.datatype xsd_string ≡ false
    → codes "\"^^<" ++ (v.datatype ++ (codes "> .\n" ++ [])) ≡ 34 ∷ (behind v ++ codes " .\n")
typed_end v t d =
    let is : behind v ≡ codes "^^" ++ iri v.datatype = ap (λ b. if b then datatype_of v.datatype else 64 ∷ v.tag) t ∙ ap (λ b. if b then [] else codes "^^" ++ iri v.datatype) d in
    sym (ap (λ (zs : List ℕ). 34 ∷ (zs ++ codes " .\n")) is ∙ ap (λ (zs : List ℕ). 34 ∷ 94 ∷ 94 ∷ 60 ∷ zs) (append_assoc v.datatype (62 ∷ []) (codes " .\n")))

pub typed_end_as : (v : Value) (tag datatype : List ℕ) → tag ≡ v.tag → datatype ≡ v.datatype → (length tag == 0) ≡ true → pointwise nat_eq datatype xsd_string ≡ false
    → codes "\"^^<" ++ (datatype ++ (codes "> .\n" ++ [])) ≡ 34 ∷ (behind v ++ codes " .\n")
typed_end_as v tag datatype e f t d =
    ap (λ (zs : List ℕ). codes "\"^^<" ++ (zs ++ (codes "> .\n" ++ []))) f ∙ typed_end v (ap (λ (zs : List ℕ). length zs == 0) (sym e) ∙ t) (ap (λ (zs : List ℕ). pointwise nat_eq zs xsd_string) (sym f) ∙ d)

-- the start of a line with a literal, and its rest
pub value_parts : (s p : List ℕ) (v : Value) → (codes "<" ++ (s ++ (codes "> <" ++ (p ++ (codes "> \"" ++ []))))) ++ (written v.text ++ 34 ∷ (behind v ++ codes " .\n")) ≡ triple s p (literal v)
value_parts s p v =
    let rest = written v.text ++ 34 ∷ (behind v ++ codes " .\n") in
    let object = literal v ++ 32 ∷ 46 ∷ 10 ∷ [] in
    let object_is : 34 ∷ rest ≡ object = ap (λ (zs : List ℕ). 34 ∷ zs) (sym (append_assoc (written v.text) (34 ∷ behind v) (codes " .\n"))) in
    ap (λ (zs : List ℕ). 60 ∷ zs) (append_assoc s (codes "> <" ++ (p ++ (codes "> \"" ++ []))) rest)
    ∙ ap (λ (zs : List ℕ). 60 ∷ (s ++ (62 ∷ 32 ∷ 60 ∷ zs))) (append_assoc p (codes "> \"" ++ []) rest)
    ∙ ap (λ (zs : List ℕ). 60 ∷ (s ++ (62 ∷ 32 ∷ 60 ∷ (p ++ (62 ∷ 32 ∷ zs))))) object_is
    ∙ ap (λ (zs : List ℕ). 60 ∷ (s ++ (62 ∷ 32 ∷ 60 ∷ zs))) (sym (append_assoc p (62 ∷ []) (32 ∷ object)))
    ∙ ap (λ (zs : List ℕ). 60 ∷ zs) (sym (append_assoc s (62 ∷ []) (32 ∷ (iri p ++ 32 ∷ object))))
