-- What marked facts say.
use Rattle.std.proofs.Common.{◌≡◌, ◌↔◌, ◌⊎◌, ◌<◌, ◌+◌, ℕ, Bool, IsTrue, not, true, false, List, [], ◌∷◌, ◌++◌, length, take, get_or, map, refl, sym, ◌∙◌, ap, subst, inl, inr, ⊎_elim}
use Rattle.std.specs.Prelude.{Contains, IfOk, Result, Ok, Err}
use Rattle.std.proofs.lemmas.Bool.{false≢true}
use Rattle.std.proofs.lemmas.List.{take_more}
use Rattle.std.proofs.lemmas.List.Elements.{Contains-append_left, Contains-append_right, Contains-append_cases}
use Rattle.dl_base.specs.declared.statements.Fact.{Fact}
use Rattle.dl_base.specs.declared.requests.Changed.{Changed}
use Rattle.dl_base.specs.Changing.{added, removed}
use Rattle.dl_base.specs.FactOrder.{AreSorted}
use Rattle.dl_base.proofs.Members.{here, there, nowhere, cons_cases}
use Rattle.serial_history.specs.Marks.{IsMarked, Marked, Marks}

module _ (gone : List Fact) where
  -- one fact more
  pub marks_push : (facts : List Fact) (changed : List Changed) (f : Fact) (c : Changed) → Marks gone facts changed → Marked gone f c → Marks gone (facts ++ f ∷ []) (changed ++ c ∷ [])
  marks_push [] [] f c h k = (k, refl)
  marks_push [] (d ∷ changed) f c h k = absurd (let no : ⊥ = cc in no)
  marks_push (g ∷ facts) [] f c h k = absurd h
  marks_push (g ∷ facts) (d ∷ changed) f c h k = (h.0, marks_push facts changed f c h.1 k)

  pub marks_more : (facts : List Fact) (changed : List Changed) (i : ℕ) (f : Fact) (c : Changed) → i < length facts → f ≡ get_or facts i f
      → Marks gone (take i facts) changed → Marked gone f c → Marks gone (take (i + 1) facts) (changed ++ c ∷ [])
  marks_more facts changed i f c within is h k =
      subst (λ (fs : List Fact). Marks gone fs (changed ++ c ∷ [])) (sym (take_more facts i f within ∙ ap (λ (g : Fact). take i facts ++ g ∷ []) (sym is))) (marks_push (take i facts) changed f c h k)

  -- the marked facts are the facts
  pub marked_facts : (facts : List Fact) (changed : List Changed) → Marks gone facts changed → map (λ (c : Changed). c.fact) changed ≡ facts
  marked_facts [] changed h = ap (map (λ (c : Changed). c.fact)) h
  marked_facts (f ∷ facts) [] h = absurd h
  marked_facts (f ∷ facts) (c ∷ changed) h = λ i. h.0.0 i ∷ marked_facts facts changed h.1 i

  abbrev At : Changed → Type 0
  At c = ((c.added ≡ true) × ¬ Contains gone c.fact) ⊎ ((c.added ≡ false) × Contains gone c.fact)

  at_one : (f : Fact) (c : Changed) → Marked gone f c → At c
  at_one f c h = ⊎_elim (λ k. inl (k.0, λ m. k.1 (subst (Contains gone) h.0 m))) (λ k. inr (k.0, subst (Contains gone) (sym h.0) k.1)) h.1

  -- each mark is right, and of one of the facts
  each : (facts : List Fact) (changed : List Changed) → Marks gone facts changed → (c : Changed) → Contains changed c → Contains facts c.fact × At c
  each [] changed h c m = absurd (nowhere c (subst (λ (cs : List Changed). Contains cs c) h m))
  each (f ∷ facts) [] h c m = absurd h
  each (f ∷ facts) (d ∷ changed) h c m = ⊎_elim
      (λ e. (subst (λ (z : Changed). Contains (f ∷ facts) z.fact) e (subst (Contains (f ∷ facts)) (sym h.0.0) (here f facts)), subst At e (at_one f d h.0)))
      (λ k. let r = each facts changed h.1 c k in (there f facts c.fact r.0, r.1))
      (cons_cases d changed c m)

  same_mark : (f : Fact) (c : Changed) → c.fact ≡ f → c.added ≡ true → c ≡ added f
  same_mark f c e a = λ i. record { fact = e i; added = a i }

  same_unmark : (f : Fact) (c : Changed) → c.fact ≡ f → c.added ≡ false → c ≡ removed f
  same_unmark f c e a = λ i. record { fact = e i; added = a i }

  into_added : (facts : List Fact) (changed : List Changed) → Marks gone facts changed → (f : Fact) → Contains facts f → ¬ Contains gone f → Contains changed (added f)
  into_added [] changed h f m n = absurd (nowhere f m)
  into_added (g ∷ facts) [] h f m n = absurd h
  into_added (g ∷ facts) (d ∷ changed) h f m n = ⊎_elim
      (λ e. ⊎_elim
      (λ k. subst (Contains (d ∷ changed)) (same_mark f d (h.0.0 ∙ e) k.0) (here d changed))
      (λ k. absurd (n (subst (Contains gone) e k.1)))
      h.0.1)
      (λ k. there d changed (added f) (into_added facts changed h.1 f k n))
      (cons_cases g facts f m)

  into_removed : (facts : List Fact) (changed : List Changed) → Marks gone facts changed → (f : Fact) → Contains facts f → Contains gone f → Contains changed (removed f)
  into_removed [] changed h f m n = absurd (nowhere f m)
  into_removed (g ∷ facts) [] h f m n = absurd h
  into_removed (g ∷ facts) (d ∷ changed) h f m n = ⊎_elim
      (λ e. ⊎_elim
      (λ k. absurd (k.1 (subst (Contains gone) (sym e) n)))
      (λ k. subst (Contains (d ∷ changed)) (same_unmark f d (h.0.0 ∙ e) k.0) (here d changed))
      h.0.1)
      (λ k. there d changed (removed f) (into_removed facts changed h.1 f k n))
      (cons_cases g facts f m)

  pub added_is : (facts : List Fact) (changed : List Changed) → Marks gone facts changed → (f : Fact) → Contains changed (added f) ↔ (Contains facts f × ¬ Contains gone f)
  added_is facts changed h f = (
    (λ m. let r = each facts changed h (added f) m in (r.0, ⊎_elim (λ k. k.1) (λ k. absurd (false≢true (sym k.0))) r.1)),
    λ k. into_added facts changed h f k.0 k.1,
  )

  pub removed_is : (facts : List Fact) (changed : List Changed) → Marks gone facts changed → (f : Fact) → Contains changed (removed f) ↔ (Contains facts f × Contains gone f)
  removed_is facts changed h f = (
    (λ m. let r = each facts changed h (removed f) m in (r.0, ⊎_elim (λ k. absurd (false≢true k.0)) (λ k. k.1) r.1)),
    λ k. into_removed facts changed h f k.0 k.1,
  )

  -- marked as a look-up says
  pub marked_by : (f g : Fact) (held : Bool) → g ≡ f → (IsTrue held ↔ Contains gone f) → Marked gone f (record { fact = g; added = not held })
  marked_by f g true e h = (e, inr (refl, h.0 refl))
  marked_by f g false e h = (e, inl (refl, λ m. false≢true (h.1 m)))

-- the facts are those that go and those that come
abbrev pub Joins : List Fact → List Fact → List Fact → Type 0
Joins gone come facts = (f : Fact) → Contains facts f ↔ (Contains gone f ⊎ Contains come f)

pub joined : (gone come front back all facts : List Fact) → front ≡ gone → back ≡ come → all ≡ front ++ back → ((f : Fact) → Contains facts f ↔ Contains all f) → Joins gone come facts
joined gone come front back all facts a b c same f = (
  (λ m. ⊎_elim (λ k. inl (subst (λ (fs : List Fact). Contains fs f) a k)) (λ k. inr (subst (λ (fs : List Fact). Contains fs f) b k))
      (Contains-append_cases front back f (subst (λ (fs : List Fact). Contains fs f) c ((same f).0 m)))),
  λ m. (same f).1 (subst (λ (fs : List Fact). Contains fs f) (sym c)
      (⊎_elim (λ k. Contains-append_left front back f (subst (λ (fs : List Fact). Contains fs f) (sym a) k)) (λ k. Contains-append_right front back f (subst (λ (fs : List Fact). Contains fs f) (sym b) k)) m)),
)

pub ok_map : {A E : Type 0} (r : Result A E) (P Q : A → Type 0) → ((a : A) → P a → Q a) → IfOk r P → IfOk r Q
ok_map (Ok a) P Q h k = h a k
ok_map (Err e) P Q h k = tt

pub is_marked : (gone come facts : List Fact) (changed : List Changed) → ((f : Fact) → Contains gone f → ¬ Contains come f) → AreSorted facts → Joins gone come facts → Marks gone facts changed → IsMarked gone come changed
is_marked gone come facts changed apart sorted joins marks = record {
  sorted = subst AreSorted (sym (marked_facts gone facts changed marks)) sorted;
  added = λ f. (
    (λ m. let r = (added_is gone facts changed marks f).0 m in ⊎_elim (λ g. absurd (r.1 g)) (λ c. c) ((joins f).0 r.0)),
    λ c. (added_is gone facts changed marks f).1 ((joins f).1 (inr c), λ g. apart f g c),
  );
  removed = λ f. (
    (λ m. ((removed_is gone facts changed marks f).0 m).1),
    λ g. (removed_is gone facts changed marks f).1 ((joins f).1 (inl g), g),
  );
}
