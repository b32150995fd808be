-- One write after another.
use Rattle.std.proofs.Common.{ℕ, ◌+◌, List, ◌++◌, take, drop, Option, Some, None, sym, ◌∙◌, ap, subst, append_assoc}
use Rattle.std.proofs.Math.Seq.{take-add}
use Rattle.dl_io.specs.Writing.{Appends}

pub appends_both : (old mid new : Option (List ℕ)) (xs ys : List ℕ) → Appends old mid xs → Appends mid new ys → Appends old new (xs ++ ys)
appends_both None mid new xs ys h k = subst (λ (m : Option (List ℕ)). Appends m new ys) h k
appends_both (Some o) mid new xs ys h k = let e = subst (λ (m : Option (List ℕ)). Appends m new ys) h k in e ∙ ap Some (append_assoc o xs ys)

pub appends_more : (old mid new : Option (List ℕ)) (bytes : List ℕ) (at n : ℕ) → Appends old mid (take at bytes) → Appends mid new (take n (drop at bytes)) → Appends old new (take (at + n) bytes)
appends_more old mid new bytes at n h k = subst (Appends old new) (sym (take-add at n bytes)) (appends_both old mid new (take at bytes) (take n (drop at bytes)) h k)
