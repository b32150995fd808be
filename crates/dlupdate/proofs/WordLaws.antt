-- Commands by their words.
use Rattle.std.proofs.Common.{◌≡◌, ◌≢◌, ℕ, ◌<◌, ◌≤◌, List, [], ◌∷◌, Option, Some, None, length, drop, get_or, refl, sym, ◌∙◌, ap, arith}
use Rattle.std.specs.Prelude.{codes}
use Rattle.dlupdate.specs.Commands.{Command, Check, Apply, Script, Says}

differ : (i a b : ℕ) (xs ys : List ℕ) → get_or xs i 0 ≡ a → get_or ys i 0 ≡ b → a ≢ b → xs ≡ ys → ⊥
differ i a b xs ys h k n e = n (sym h ∙ ap (λ (zs : List ℕ). get_or zs i 0) e ∙ k)

pub first_of : {A : Type 0} (a b : A) (xs ys : List A) → a ∷ xs ≡ b ∷ ys → a ≡ b
first_of a b xs ys e = cc

pub tail_of : {A : Type 0} {a b : A} {xs ys : List A} → a ∷ xs ≡ b ∷ ys → xs ≡ ys
tail_of e = ap (drop 1) e

abbrev Words : Type 0
Words = List (List ℕ)

-- a command has two words at least
pub no_command : (c : Command) → ¬ Says [] c
no_command (Check o None) h = cc
no_command (Check o (Some f)) h = cc
no_command (Apply o us) h = let e = h.0 in cc
no_command (Script o f us) h = let e = h.0 in cc

pub one_word : (word : List ℕ) (c : Command) → ¬ Says (word ∷ []) c
one_word word (Check o None) h = cc
one_word word (Check o (Some f)) h = cc
one_word word (Apply o us) h = let e = h.0 in cc
one_word word (Script o f us) h = let e = h.0 in cc

-- a command begins with its word
pub other_word : (word : List ℕ) (rest : Words) → word ≢ codes "check" → word ≢ codes "apply" → word ≢ codes "script" → (c : Command) → ¬ Says (word ∷ rest) c
other_word word rest check apply script (Check o None) h = check (first_of word (codes "check") rest (o ∷ []) h)
other_word word rest check apply script (Check o (Some f)) h = check (first_of word (codes "check") rest (o ∷ f ∷ []) h)
other_word word rest check apply script (Apply o us) h = apply (first_of word (codes "apply") rest (o ∷ us) h.0)
other_word word rest check apply script (Script o f us) h = script (first_of word (codes "script") rest (o ∷ f ∷ us) h.0)

pub check_apply : codes "check" ≢ codes "apply"
check_apply = differ 0 99 97 (codes "check") (codes "apply") refl refl (λ e. omega (arith, e))

pub check_script : codes "check" ≢ codes "script"
check_script = differ 0 99 115 (codes "check") (codes "script") refl refl (λ e. omega (arith, e))

pub apply_script : codes "apply" ≢ codes "script"
apply_script = differ 0 97 115 (codes "apply") (codes "script") refl refl (λ e. omega (arith, e))

-- a check has two names at most
pub long_check : (ontology facts more : List ℕ) (rest : Words) (c : Command) → ¬ Says (codes "check" ∷ ontology ∷ facts ∷ more ∷ rest) c
long_check ontology facts more rest (Check o None) h = let e : ontology ∷ facts ∷ more ∷ rest ≡ o ∷ [] = tail_of h in cc
long_check ontology facts more rest (Check o (Some f)) h = let e : ontology ∷ facts ∷ more ∷ rest ≡ o ∷ f ∷ [] = tail_of h in cc
long_check ontology facts more rest (Apply o us) h = check_apply (first_of (codes "check") (codes "apply") (ontology ∷ facts ∷ more ∷ rest) (o ∷ us) h.0)
long_check ontology facts more rest (Script o f us) h = check_script (first_of (codes "check") (codes "script") (ontology ∷ facts ∷ more ∷ rest) (o ∷ f ∷ us) h.0)

-- an application has one update
pub other_apply : (ontology : List ℕ) (rest : Words) → length rest ≢ 1 → (c : Command) → ¬ Says (codes "apply" ∷ ontology ∷ rest) c
other_apply ontology rest n (Check o None) h = check_apply (sym (first_of (codes "apply") (codes "check") (ontology ∷ rest) (o ∷ []) h))
other_apply ontology rest n (Check o (Some f)) h = check_apply (sym (first_of (codes "apply") (codes "check") (ontology ∷ rest) (o ∷ f ∷ []) h))
other_apply ontology rest n (Apply o us) h = n (ap length (tail_of (tail_of h.0)) ∙ h.1)
other_apply ontology rest n (Script o f us) h = apply_script (first_of (codes "apply") (codes "script") (ontology ∷ rest) (o ∷ f ∷ us) h.0)

-- a script has a file of facts
pub short_script : (ontology : List ℕ) (c : Command) → ¬ Says (codes "script" ∷ ontology ∷ []) c
short_script ontology (Check o None) h = check_script (sym (first_of (codes "script") (codes "check") (ontology ∷ []) (o ∷ []) h))
short_script ontology (Check o (Some f)) h = check_script (sym (first_of (codes "script") (codes "check") (ontology ∷ []) (o ∷ f ∷ []) h))
short_script ontology (Apply o us) h = apply_script (sym (first_of (codes "script") (codes "apply") (ontology ∷ []) (o ∷ us) h.0))
short_script ontology (Script o f us) h = let e : ontology ∷ [] ≡ o ∷ f ∷ us = tail_of h.0 in cc

-- and one to 1,000 updates
pub other_script : (ontology facts : List ℕ) (rest : Words) → (0 < length rest → length rest ≤ 1000 → ⊥) → (c : Command) → ¬ Says (codes "script" ∷ ontology ∷ facts ∷ rest) c
other_script ontology facts rest n (Check o None) h = check_script (sym (first_of (codes "script") (codes "check") (ontology ∷ facts ∷ rest) (o ∷ []) h))
other_script ontology facts rest n (Check o (Some f)) h = check_script (sym (first_of (codes "script") (codes "check") (ontology ∷ facts ∷ rest) (o ∷ f ∷ []) h))
other_script ontology facts rest n (Apply o us) h = apply_script (sym (first_of (codes "script") (codes "apply") (ontology ∷ facts ∷ rest) (o ∷ us) h.0))
other_script ontology facts rest n (Script o f us) h =
    let same = ap length (tail_of (tail_of (tail_of h.0))) in n (omega (arith, same, h.1)) (omega (arith, same, h.2))
