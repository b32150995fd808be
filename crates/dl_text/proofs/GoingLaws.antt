-- Laws of reading from left to right. One file serves every reader.
use Rattle.std.proofs.Common.{◌≡◌, List, [], ◌∷◌, ◌++◌, refl, sym, ap, subst, ◌∙◌}
use Rattle.dl_text.specs.Going.{Goes, stop, go}

module _ {S O : Type 0} (Step : S → O → S → Type 0) where
  pub goes_append : (s m e : S) (os ps : List O) → Goes Step s os m → Goes Step m ps e → Goes Step s (os ++ ps) e
  goes_append s m e os ps (stop v) h = h
  goes_append s m e os ps (go v w x o qs k r) h = go v w e o (qs ++ ps) k (goes_append w x e qs ps r h)

  pub goes_push : (s m e : S) (os : List O) (o : O) → Goes Step s os m → Step m o e → Goes Step s (os ++ o ∷ []) e
  goes_push s m e os o h k = goes_append s m e os (o ∷ []) h (go m e e o [] k (stop e))

  pub goes_cases : (s e : S) (os : List O) → Goes Step s os e → ((m : S) (o : O) → ¬ Step s o m) → (os ≡ []) × (s ≡ e)
  goes_cases s e os (stop v) n = (refl, refl)
  goes_cases s e os (go v w x o qs k r) n = absurd (n w o k)

  module _ (one : (s m n : S) (o p : O) → Step s o m → Step s p n → (o ≡ p) × (m ≡ n)) where
    -- what goes as far as to the end goes through every place on the way
    pub goes_through : (s m e : S) (os ps : List O) → Goes Step s os m → Goes Step s ps e → ((n : S) (o : O) → ¬ Step e o n)
        → (qs : List O) × Goes Step m qs e × (ps ≡ os ++ qs)
    goes_through s m e os ps (stop v) h last = (ps, h, refl)
    goes_through s m e os ps (go v w x o qs k r) (stop v') last = absurd (last w o k)
    goes_through s m e os ps (go v w x o qs k r) (go v' w' x' o' qs' k' r') last =
        let same = one s w w' o o' k k' in
        let on = goes_through w m e qs qs' r (subst (λ (z : S). Goes Step z qs' e) (sym same.1) r') last in
        (on.0, on.1, ap (λ z. z ∷ qs') (sym same.0) ∙ ap (λ zs. o ∷ zs) on.2)

    -- there is one way to a place where nothing stands
    pub goes_one : (s e f : S) (os ps : List O) → Goes Step s os e → Goes Step s ps f → ((n : S) (o : O) → ¬ Step e o n) → ((n : S) (o : O) → ¬ Step f o n) → (os ≡ ps) × (e ≡ f)
    goes_one s e f os ps (stop v) (stop w) l k = (refl, refl)
    goes_one s e f os ps (stop v) (go v' w' x' o' qs' k' r') l k = absurd (l w' o' k')
    goes_one s e f os ps (go v w x o qs h r) (stop v') l k = absurd (k w o h)
    goes_one s e f os ps (go v w x o qs h r) (go v' w' x' o' qs' h' r') l k =
        let same = one s w w' o o' h h' in
        let on = goes_one w e f qs qs' r (subst (λ (z : S). Goes Step z qs' f) (sym same.1) r') l k in
        (ap (λ z. z ∷ qs) same.0 ∙ ap (λ zs. o' ∷ zs) on.0, on.1)
