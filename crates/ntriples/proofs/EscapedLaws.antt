-- How the text of a literal is written, run by run.
use Rattle.std.proofs.Common.{◌≡◌, ◌≢◌, ◌+◌, ◌<◌, ℕ, List, [], ◌∷◌, ◌++◌, length, take, drop, get_or, refl, sym, ap, ◌∙◌, append_assoc, arith, inl, inr, ◌⊎◌, ⊎_elim}
use Rattle.std.proofs.lemmas.Bool.{cases_eq}
use Rattle.std.proofs.lemmas.Bool.Decides.{nat_tests}
use Rattle.std.proofs.lemmas.List.{append-nil, length-append, take_more, drop_more, take-append-drop}
use Rattle.dl_text.specs.Printing.{written, written_byte}
use Rattle.ntriples.specs.Writing.{IsEscaped}

pub written-append : (xs ys : List ℕ) → written (xs ++ ys) ≡ written xs ++ written ys
written-append [] ys = refl
written-append (x ∷ xs) ys = ap (λ (zs : List ℕ). written_byte x ++ zs) (written-append xs ys) ∙ sym (append_assoc (written_byte x) (written xs) (written ys))

unescaped : (b : ℕ) → b ≢ 34 → b ≢ 92 → b ≢ 10 → b ≢ 13 → written_byte b ≡ b ∷ []
unescaped b n34 n92 n10 n13 = grind (arith, nat_tests)

plain : (b : ℕ) → ¬ IsEscaped b → written_byte b ≡ b ∷ []
plain b n = unescaped b (λ e. n (inl e)) (λ e. n (inr (inl e))) (λ e. n (inr (inr (inl e)))) (λ e. n (inr (inr (inr e))))

-- one byte more stands for itself
pub plain_more : (text : List ℕ) (i d : ℕ) → i < length text → written (take i text) ≡ take i text → ¬ IsEscaped (get_or text i d) → written (take (i + 1) text) ≡ take (i + 1) text
plain_more text i d l h n =
    let is = take_more text i d l in
    ap written is ∙ written-append (take i text) (get_or text i d ∷ []) ∙ ap (λ (zs : List ℕ). zs ++ written (get_or text i d ∷ [])) h
    ∙ ap (λ (zs : List ℕ). take i text ++ zs) (append-nil (written_byte (get_or text i d)) ∙ plain (get_or text i d) n) ∙ sym is

-- up to a byte, that byte, and what is behind it
pub cut_is : (text : List ℕ) (i d : ℕ) → i < length text → written (take i text) ≡ take i text → written text ≡ take i text ++ (written_byte (get_or text i d) ++ written (drop (i + 1) text))
cut_is text i d l h =
    ap written (sym (take-append-drop i text) ∙ ap (λ (zs : List ℕ). take i text ++ zs) (drop_more text i d l)) ∙ written-append (take i text) (get_or text i d ∷ drop (i + 1) text)
    ∙ ap (λ (zs : List ℕ). zs ++ written (get_or text i d ∷ drop (i + 1) text)) h

pub written_long : (text : List ℕ) (i d : ℕ) → i < length text → length (written (take (i + 1) text)) ≡ length (written (take i text)) + length (written_byte (get_or text i d))
written_long text i d l =
    let b = get_or text i d in
    omega (arith, ap (λ (zs : List ℕ). length (written zs)) (take_more text i d l), ap length (written-append (take i text) (b ∷ [])), length-append (written (take i text)) (written (b ∷ [])), ap length (append-nil (written_byte b)))

pub escaped_two : (b : ℕ) → IsEscaped b → length (written_byte b) ≡ 2
escaped_two b (inl e) = ap (λ (z : ℕ). length (written_byte z)) e
escaped_two b (inr (inl e)) = ap (λ (z : ℕ). length (written_byte z)) e
escaped_two b (inr (inr (inl e))) = ap (λ (z : ℕ). length (written_byte z)) e
escaped_two b (inr (inr (inr e))) = ap (λ (z : ℕ). length (written_byte z)) e

pub plain_one : (b : ℕ) → ¬ IsEscaped b → length (written_byte b) ≡ 1
plain_one b n = ap length (plain b n)

pub escaped_or_plain : (b : ℕ) → IsEscaped b ⊎ ((written_byte b ≡ b ∷ []) × (¬ IsEscaped b))
escaped_or_plain b =
    ⊎_elim (λ e. inl (inl e)) (λ n. ⊎_elim (λ e. inl (inr (inl e))) (λ m. ⊎_elim (λ e. inl (inr (inr (inl e)))) (λ k. ⊎_elim (λ e. inl (inr (inr (inr e)))) (λ j. let none = not_one b n m k j in inr (plain b none, none)) (cases_eq b 13)) (cases_eq b 10)) (cases_eq b 92)) (cases_eq b 34)
  where
    not_one : (b : ℕ) → b ≢ 34 → b ≢ 92 → b ≢ 10 → b ≢ 13 → ¬ IsEscaped b
    not_one b n m k j (inl e) = n e
    not_one b n m k j (inr (inl e)) = m e
    not_one b n m k j (inr (inr (inl e))) = k e
    not_one b n m k j (inr (inr (inr e))) = j e
