-- The steps of the loop over changes.
use Rattle.std.proofs.Common.{◌≡◌, ℕ, ◌<◌, ◌+◌, length, take, get_or, true, false, List, [], ◌∷◌, ◌++◌, sym, ◌∙◌, ap, subst, inl, inr, ⊎_elim}
use Rattle.std.specs.Prelude.{Contains}
use Rattle.std.proofs.lemmas.Bool.{false≢true}
use Rattle.std.proofs.lemmas.List.{take_more}
use Rattle.std.proofs.lemmas.List.Elements.{Contains-append_left, Contains-append_right, Contains-append_cases}
use Rattle.dl_base.specs.declared.statements.Fact.{Fact}
use Rattle.dl_base.specs.declared.requests.Changed.{Changed}
use Rattle.std.specs.Prelude.{◌↔◌, ◌⊎◌}
use Rattle.std.proofs.Math.Seq.{take-length}
use Rattle.dl_base.specs.Picks.{Picks}
use Rattle.dl_base.proofs.Members.{here, alone}
use Rattle.dl_base.proofs.PicksLaws.{from_picks, into_picks}
use Rattle.dl_base.specs.Changing.{added, removed, Brings}

brings_push : (cs : List Changed) (fs : List Fact) (x : Changed) → Brings cs fs → x.added ≡ true → Brings (cs ++ x ∷ []) (fs ++ x.fact ∷ [])
brings_push cs fs x h t f = (
  (λ m. ⊎_elim
      (λ k. Contains-append_left cs (x ∷ []) (added f) ((h f).0 k))
      (λ k. let e : x.fact ≡ f = alone x.fact f k in let same : x ≡ added f = λ i. record { fact = e i; added = t i } in Contains-append_right cs (x ∷ []) (added f) (subst (Contains (x ∷ [])) same (here x [])))
      (Contains-append_cases fs (x.fact ∷ []) f m)),
  λ m. ⊎_elim
      (λ k. Contains-append_left fs (x.fact ∷ []) f ((h f).1 k))
      (λ k. let e : x.fact ≡ f = ap (λ (c : Changed). c.fact) (alone x (added f) k) in Contains-append_right fs (x.fact ∷ []) f (subst (Contains (x.fact ∷ [])) e (here x.fact [])))
      (Contains-append_cases cs (x ∷ []) (added f) m),
)

brings_skip : (cs : List Changed) (fs : List Fact) (x : Changed) → Brings cs fs → x.added ≡ false → Brings (cs ++ x ∷ []) fs
brings_skip cs fs x h t f = (
  (λ m. Contains-append_left cs (x ∷ []) (added f) ((h f).0 m)),
  λ m. ⊎_elim
      (λ k. (h f).1 k)
      (λ k. absurd (false≢true (sym t ∙ ap (λ (c : Changed). c.added) (alone x (added f) k))))
      (Contains-append_cases cs (x ∷ []) (added f) m),
)

pub brings_more : (cs : List Changed) (fs : List Fact) (i : ℕ) (x : Changed) → i < length cs → x ≡ get_or cs i x → Brings (take i cs) fs → x.added ≡ true → Brings (take (i + 1) cs) (fs ++ x.fact ∷ [])
brings_more cs fs i x l e h t = subst (λ us. Brings us (fs ++ x.fact ∷ [])) (sym (take_more cs i x l ∙ ap (λ z. take i cs ++ z ∷ []) (sym e))) (brings_push (take i cs) fs x h t)

pub brings_less : (cs : List Changed) (fs : List Fact) (i : ℕ) (x : Changed) → i < length cs → x ≡ get_or cs i x → Brings (take i cs) fs → x.added ≡ false → Brings (take (i + 1) cs) fs
brings_less cs fs i x l e h t = subst (λ us. Brings us fs) (sym (take_more cs i x l ∙ ap (λ z. take i cs ++ z ∷ []) (sym e))) (brings_skip (take i cs) fs x h t)

pub all_brought : (cs : List Changed) (fs : List Fact) (i : ℕ) → i ≡ length cs → Brings (take i cs) fs → Brings cs fs
all_brought cs fs i e = subst (λ us. Brings us fs) (ap (λ (k : ℕ). take k cs) e ∙ take-length cs)

abbrev pub Unremoved : List Changed → Fact → Type 0
Unremoved changed f = ¬ Contains changed (removed f)

-- what wasn't removed and what was added is the list after the change
pub changed_is : (old : List Fact) (changed : List Changed) (left came : List Fact) → Picks (Unremoved changed) old left → Brings changed came → (f : Fact) → Contains (left ++ came) f ↔ ((Contains old f × Unremoved changed f) ⊎ Contains changed (added f))
changed_is old changed left came h k f = (
  (λ m. ⊎_elim (λ n. inl (from_picks (Unremoved changed) old left f h n)) (λ n. inr ((k f).0 n)) (Contains-append_cases left came f m)),
  λ s. ⊎_elim (λ n. Contains-append_left left came f (into_picks (Unremoved changed) old left f h n.0 n.1)) (λ n. Contains-append_right left came f ((k f).1 n)) s,
)
