-- One step after another, as a loop takes them.
use Rattle.std.proofs.Common.{◌≡◌, ℕ, ◌+◌, ◌<◌, ◌≤◌, List, [], ◌∷◌, ◌++◌, Result, Ok, Err, length, drop, get_or, refl, sym, ◌∙◌, ap, append_assoc, arith}
use Rattle.std.proofs.lemmas.List.{drop_more, nil_from_length, length-drop}
use Rattle.dl_text.specs.declared.refusals.ReadRefusal.{ReadRefusal}
use Rattle.dl_text.specs.declared.refusals.ReadRefusal.TheVariants.{Refused, OutOfMemory}
use Rattle.owl_read.specs.Outcomes.{Refusal, ◌>>=◌, run, with_front, Fails}

-- the list from here is this element and the list from the next place
pub drop_here : {X : Type 0} (xs : List X) (i : ℕ) (x : X) → i < length xs → x ≡ get_or xs i x → drop i xs ≡ x ∷ drop (i + 1) xs
drop_here xs i x l e = drop_more xs i x l ∙ ap (λ z. z ∷ drop (i + 1) xs) (sym e)

pub drop_end : {X : Type 0} (xs : List X) (i : ℕ) → length xs ≤ i → drop i xs ≡ []
drop_end xs i l = nil_from_length (drop i xs) (omega (arith, length-drop i xs))

bind_last : {S : Type 0} (r : Result S Refusal) → (r >>= λ t. Ok t) ≡ r
bind_last (Ok t) = refl
bind_last (Err e) = refl

module _ {S X : Type 0} (step : S → X → Result S Refusal) where
  push_by : (ys : List X) (x : X) → ((t : S) → run step t (ys ++ x ∷ []) ≡ (run step t ys >>= λ u. step u x)) → (r : Result S Refusal)
      → (r >>= λ t. run step t (ys ++ x ∷ [])) ≡ ((r >>= λ t. run step t ys) >>= λ t. step t x)
  push_by ys x more (Ok t) = more t
  push_by ys x more (Err e) = refl

  pub run_push : (xs : List X) (x : X) (s : S) → run step s (xs ++ x ∷ []) ≡ (run step s xs >>= λ t. step t x)
  run_push [] x s = bind_last (step s x)
  run_push (y ∷ ys) x s = push_by ys x (λ t. run_push ys x t) (step s y)

  -- a step that is taken leaves the rest of the run
  pub run_on : (s t : S) (x : X) (rest : List X) (all : Result S Refusal) → step s x ≡ Ok t → run step s (x ∷ rest) ≡ all → run step t rest ≡ all
  run_on s t x rest all e h = sym (ap (λ (r : Result S Refusal). r >>= λ u. run step u rest) e) ∙ h

  pub run_fails : (e : ReadRefusal) (s : S) (x : X) (rest : List X) (all : Result S Refusal) → Fails e (step s x) → run step s (x ∷ rest) ≡ all → Fails e all
  run_fails OutOfMemory s x rest all f h = tt
  run_fails (Refused line kind) s x rest all f h = sym h ∙ ap (λ (r : Result S Refusal). r >>= λ u. run step u rest) f

-- a result as it is
pub bind_assoc : {A B C : Type 0} (r : Result A Refusal) (f : A → Result B Refusal) (g : B → Result C Refusal) → ((r >>= f) >>= g) ≡ (r >>= λ a. f a >>= g)
bind_assoc (Ok a) f g = refl
bind_assoc (Err e) f g = refl

pub front_twice : {S X : Type 0} (one two : List X) (r : Result (S × List X) Refusal) → with_front one (with_front two r) ≡ with_front (one ++ two) r
front_twice one two (Ok x) = ap (λ (zs : List _). Ok (x.0, zs)) (simp append_assoc)
front_twice one two (Err e) = refl
