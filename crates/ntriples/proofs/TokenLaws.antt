-- Texts without a backslash stand for themselves.
use Rattle.std.proofs.Common.{◌≡◌, ◌≢◌, ◌≤◌, ◌<◌, ℕ, List, length, sym, subst}
use Rattle.std.specs.Prelude.{All, Ok, Err}
use Rattle.dl_text.specs.Outcomes.{ReadsString, longest_text}
use Rattle.dl_text.specs.declared.escapes.Escapes.TheVariants.{Full}
use Rattle.dl_text.specs.declared.faults.TextFault.TheVariants.{NameTooLong}
use Rattle.dl_text.proofs.ReadingLaws.{undoes_itself}

pub plain_reads : (inner name : List ℕ) → All (λ b. b ≢ 92) inner → length inner ≤ longest_text → name ≡ inner → ReadsString Full inner (Ok name)
plain_reads inner name a l e = subst (λ (z : List ℕ). ReadsString Full inner (Ok z)) (sym e) (undoes_itself Full inner a, l)

pub plain_too_long : (inner : List ℕ) → All (λ b. b ≢ 92) inner → longest_text < length inner → ReadsString Full inner (Err NameTooLong)
plain_too_long inner a l = (inner, undoes_itself Full inner a, l)
