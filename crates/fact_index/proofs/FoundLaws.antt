-- The facts found among links.
use Rattle.std.proofs.Common.{◌≡◌, ℕ, ◌<◌, ◌≤◌, ◌+◌, List, [], ◌∷◌, ◌++◌, length, take, get_or, sym, ◌∙◌, ap, subst, inl, inr, ⊎_elim}
use Rattle.std.specs.Prelude.{Contains, ◌↔◌}
use Rattle.std.proofs.lemmas.List.Elements.{Contains-append_left, Contains-push, Contains-push_cases}
use Rattle.std.proofs.lemmas.List.{take_all, take_more}
use Rattle.dl_base.specs.FactOrder.{AreSorted}
use Rattle.dl_base.specs.Patterns.{Matches}
use Rattle.dl_base.specs.Updates.{Lists}
use Rattle.dl_base.specs.declared.patterns.Pattern.{Pattern}
use Rattle.dl_base.specs.declared.statements.Fact.{Fact}
use Rattle.dl_base.proofs.Members.{nowhere}
use Rattle.fact_index.specs.Links.{IsAt}
use Rattle.fact_index.specs.Numbers.{Numbered, fact_at}
use Rattle.fact_index.specs.Looking.{facts_of, AreWithin, LinksMatch, IsFoundAmong, IsPushedIf}
use Rattle.fact_index.specs.declared.places.Link.{Link}
use Rattle.fact_index.specs.declared.places.Place.{Place}
use Rattle.fact_index.proofs.IndexLaws.{held_by, in_order_sorted}

module _ (n : Numbered) where
  -- the facts of the links that match
  abbrev pub AreFound : List Link → Pattern → List Fact → Type 0
  AreFound links p found = (f : Fact) → Contains found f ↔ IsFoundAmong n links p f

  module _ (p : Pattern) where
    pub found_none : AreFound [] p []
    found_none f = ((λ m. absurd (nowhere f m)), λ (l, m, e, q). absurd (nowhere l m))

    found_more : (links : List Link) (k : Link) (g : Fact) (found new : List Fact) → g ≡ fact_at n k → IsPushedIf p found g new → AreFound links p found → AreFound (links ++ k ∷ []) p new
    found_more links k g found new is pushed h f = (
      (λ c. ⊎_elim
          (λ d. let (l, m, e, q) = (h f).0 d in (l, Contains-append_left links (k ∷ []) l m, e, q))
          (λ (e, q). (k, Contains-push links k, sym is ∙ sym e, subst (Matches p) (sym e) q))
          ((pushed f).0 c)),
      λ (l, c, e, q). (pushed f).1 (⊎_elim
          (λ d. inl ((h f).1 (l, d, e, q)))
          (λ s. let same : g ≡ f = is ∙ ap (fact_at n) s ∙ e in inr (sym same, subst (Matches p) (sym same) q))
          (Contains-push_cases links k l c)),
    )

    pub found_next : (links : List Link) (i : ℕ) (d : Link) → i < length links → (g : Fact) (found new : List Fact) → g ≡ fact_at n (get_or links i d) → IsPushedIf p found g new → AreFound (take i links) p found → AreFound (take (i + 1) links) p new
    found_next links i d within g found new is pushed h = subst (λ (us : List Link). AreFound us p new) (sym (take_more links i d within)) (found_more (take i links) (get_or links i d) g found new is pushed h)

    pub found_end : (links : List Link) (i : ℕ) (found : List Fact) → length links ≤ i → AreFound (take i links) p found → AreFound links p found
    found_end links i found past h = subst (λ (us : List Link). AreFound us p found) (take_all i links past) h

    module _ (links : List Link) (within : AreWithin n links) where
      -- all that match are found at a place where all links that match stand
      pub looked_up : (place : Place) (at : List Link) (found ordered : List Fact) → ((l : Link) → LinksMatch n p l → IsAt place l) → ((l : Link) → Contains at l ↔ (Contains links l × IsAt place l)) → AreFound at p found
          → AreSorted ordered → ((f : Fact) → Contains ordered f ↔ Contains found f) → Lists (λ f. Contains (facts_of n links) f × Matches p f) ordered
      looked_up place at found ordered covers is h s o = record {
        sorted = s;
        each = λ f. (
          (λ c. let (l, d, e, m) = (h f).0 ((o f).0 c) in ((held_by n links f).1 (l, ((is l).0 d).0, e), m)),
          λ (c, m). let (l, d, e) = (held_by n links f).0 c in (o f).1 ((h f).1 (l, (is l).1 (d, covers l (within l d, subst (Matches p) (sym e) m)), e, m)),
        );
      }

      none_match : ((l : Link) → ¬ LinksMatch n p l) → (f : Fact) → ¬ (Contains (facts_of n links) f × Matches p f)
      none_match covers f (c, m) = let (l, d, e) = (held_by n links f).0 c in covers l (within l d, subst (Matches p) (sym e) m)

      pub nothing_found : (found : List Fact) → found ≡ [] → ((l : Link) → ¬ LinksMatch n p l) → Lists (λ f. Contains (facts_of n links) f × Matches p f) found
      nothing_found found e covers = subst (λ (us : List Fact). Lists (λ f. Contains (facts_of n links) f × Matches p f) us) (sym e) (record { sorted = in_order_sorted []; each = λ f. ((λ m. absurd (nowhere f m)), λ h. absurd (none_match covers f h)) })
