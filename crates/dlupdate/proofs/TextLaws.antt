-- Texts behind texts.
use Rattle.std.proofs.Common.{◌≡◌, ◌++◌, ℕ, List, ◌∙◌, ap, append_assoc}

-- two texts behind a third
pub two_behind : (all front head start first second : List ℕ) → all ≡ front ++ second → front ≡ head ++ first → head ≡ start → all ≡ start ++ (first ++ second)
two_behind all front head start first second h k e = h ∙ ap (λ t. t ++ second) (k ∙ ap (λ t. t ++ first) e) ∙ append_assoc start first second
