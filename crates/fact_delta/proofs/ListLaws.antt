-- Lists of facts drawn from others.
use Rattle.std.proofs.Common.{◌≡◌, ◌+◌, ◌<◌, ℕ, Bool, true, false, List, [], ◌∷◌, ◌++◌, length, take, get_or, refl, sym, ◌∙◌, ap, subst, inl, inr, ⊎_elim}
use Rattle.std.specs.Prelude.{◌↔◌, Contains}
use Rattle.std.proofs.lemmas.List.{take_more}
use Rattle.std.proofs.lemmas.List.Elements.{Contains-append_left, Contains-append_right, Contains-append_cases}
use Rattle.std.proofs.Math.Bool.{beq}
use Rattle.std.proofs.lemmas.Bool.{false≢true}
use Rattle.std.proofs.Math.Seq.{take-length}
use Rattle.dl_base.specs.declared.requests.Changed.{Changed}
use Rattle.dl_base.specs.declared.statements.Fact.{Fact}
use Rattle.dl_base.specs.FactOrder.{AreSorted}
use Rattle.dl_base.specs.Picks.{Picks}
use Rattle.dl_base.specs.Updates.{Lists}
use Rattle.dl_base.proofs.Members.{here, alone}
use Rattle.dl_base.proofs.PicksLaws.{from_picks, into_picks}
use Rattle.fact_delta.specs.Deltas.{IsExchanged, AreMarked}

pub same_mark : (a b : Bool) → beq a b ≡ true → a ≡ b
same_mark true true e = refl
same_mark true false e = absurd (false≢true e)
same_mark false true e = absurd (false≢true e)
same_mark false false e = refl

pub other_mark : (a b : Bool) → beq a b ≡ false → ¬ (a ≡ b)
other_mark true true e s = absurd (false≢true (sym e))
other_mark true false e s = absurd (false≢true (sym s))
other_mark false true e s = absurd (false≢true s)
other_mark false false e s = absurd (false≢true (sym e))

-- not in these facts
abbrev pub Missing : List Fact → Fact → Type 0
Missing others f = ¬ Contains others f

pub exchanged_is : (held less more but first second all facts : List Fact) → Picks (Missing less) held first → Picks (Missing but) more second → all ≡ first ++ second
    → ((f : Fact) → Contains facts f ↔ Contains all f) → AreSorted facts → Lists (IsExchanged held less more but) facts
exchanged_is held less more but first second all facts p q joined same sorted = record {
  sorted = sorted;
  each = λ f. (
    (λ m. ⊎_elim (λ k. inl (from_picks (Missing less) held first f p k)) (λ k. inr (from_picks (Missing but) more second f q k))
        (Contains-append_cases first second f (subst (λ (fs : List Fact). Contains fs f) joined ((same f).0 m)))),
    λ h. (same f).1 (subst (λ (fs : List Fact). Contains fs f) (sym joined)
        (⊎_elim (λ k. Contains-append_left first second f (into_picks (Missing less) held first f p k.0 k.1)) (λ k. Contains-append_right first second f (into_picks (Missing but) more second f q k.0 k.1)) h)),
  );
}

abbrev marked : Fact → Bool → Changed
marked f mark = record { fact = f; added = mark }

marked_push : (cs : List Changed) (mark : Bool) (fs : List Fact) (x : Changed) → AreMarked cs mark fs → x.added ≡ mark → AreMarked (cs ++ x ∷ []) mark (fs ++ x.fact ∷ [])
marked_push cs mark fs x h t f = (
  (λ m. ⊎_elim
      (λ k. Contains-append_left cs (x ∷ []) (marked f mark) ((h f).0 k))
      (λ k. let e : x.fact ≡ f = alone x.fact f k in let same : x ≡ marked f mark = λ i. record { fact = e i; added = t i } in Contains-append_right cs (x ∷ []) (marked f mark) (subst (Contains (x ∷ [])) same (here x [])))
      (Contains-append_cases fs (x.fact ∷ []) f m)),
  λ m. ⊎_elim
      (λ k. Contains-append_left fs (x.fact ∷ []) f ((h f).1 k))
      (λ k. let e : x.fact ≡ f = ap (λ (c : Changed). c.fact) (alone x (marked f mark) k) in Contains-append_right fs (x.fact ∷ []) f (subst (Contains (x.fact ∷ [])) e (here x.fact [])))
      (Contains-append_cases cs (x ∷ []) (marked f mark) m),
)

marked_skip : (cs : List Changed) (mark : Bool) (fs : List Fact) (x : Changed) → AreMarked cs mark fs → ¬ (x.added ≡ mark) → AreMarked (cs ++ x ∷ []) mark fs
marked_skip cs mark fs x h n f = (
  (λ m. Contains-append_left cs (x ∷ []) (marked f mark) ((h f).0 m)),
  λ m. ⊎_elim
      (λ k. (h f).1 k)
      (λ k. absurd (n (ap (λ (c : Changed). c.added) (alone x (marked f mark) k))))
      (Contains-append_cases cs (x ∷ []) (marked f mark) m),
)

pub marked_more : (cs : List Changed) (mark : Bool) (fs : List Fact) (i : ℕ) (x : Changed) → i < length cs → x ≡ get_or cs i x → AreMarked (take i cs) mark fs → x.added ≡ mark → AreMarked (take (i + 1) cs) mark (fs ++ x.fact ∷ [])
marked_more cs mark fs i x l e h t = subst (λ us. AreMarked us mark (fs ++ x.fact ∷ [])) (sym (take_more cs i x l ∙ ap (λ z. take i cs ++ z ∷ []) (sym e))) (marked_push (take i cs) mark fs x h t)

pub marked_less : (cs : List Changed) (mark : Bool) (fs : List Fact) (i : ℕ) (x : Changed) → i < length cs → x ≡ get_or cs i x → AreMarked (take i cs) mark fs → ¬ (x.added ≡ mark) → AreMarked (take (i + 1) cs) mark fs
marked_less cs mark fs i x l e h n = subst (λ us. AreMarked us mark fs) (sym (take_more cs i x l ∙ ap (λ z. take i cs ++ z ∷ []) (sym e))) (marked_skip (take i cs) mark fs x h n)

pub all_marked : (cs : List Changed) (mark : Bool) (fs : List Fact) (i : ℕ) → i ≡ length cs → AreMarked (take i cs) mark fs → AreMarked cs mark fs
all_marked cs mark fs i e = subst (λ us. AreMarked us mark fs) (ap (λ (k : ℕ). take k cs) e ∙ take-length cs)

pub marked_sorted : (cs : List Changed) (mark : Bool) (fs gs : List Fact) → ((f : Fact) → Contains gs f ↔ Contains fs f) → AreMarked cs mark fs → AreMarked cs mark gs
marked_sorted cs mark fs gs same h f = ((λ m. (h f).0 ((same f).0 m)), λ m. (same f).1 ((h f).1 m))
