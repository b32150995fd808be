use Rattle.std.proofs.Common.{sym, subst, ◌∙◌, ap, length, ◌++◌, List, ℕ, rules}
use Rattle.std.specs.Char.{encode_utf8}
use Rattle.std.proofs.lemmas.List.{take_rest}
use Rattle.dl_runs.proofs.CharLaws.{no_char, one_char, is_scalar}
use Rattle.dl_runs.proofs.runs.wide_char.Goals as goal

pub returns-in-None : goal.returns-in-None
returns-in-None c =
    no_char c.args.bytes.now c.first_four.result.now c.front_text.result.now c.first_four.ensures c.front_text.ensures.longest
    (ap length (sym c.chars.ensures.rest) ∙ c.in-None.ensures.steps.0.0)

pub returns-in-Some : goal.returns-in-Some
returns-in-Some c =
    let text = sym c.chars.ensures.rest ∙ c.in-Some.ensures.steps.0 in
    let one = one_char c.args.bytes.now c.first_four.result.now c.front_text.result.now c.next.new.self.rest.now c.front_text.ensures.front.0 c.in-Some.c c.first_four.ensures c.front_text.ensures.front.1 text in (
      one ∙ ap (λ (z : List ℕ). encode_utf8 c.in-Some.c ++ z) (ap (λ (n : ℕ). Rattle.std.proofs.Common.drop n c.args.bytes.now) (sym c.len_utf8.ensures.len) ∙ sym (take_rest c.args.bytes.now c.len_utf8.result)),
      is_scalar c.front_text.result.now c.next.new.self.rest.now c.in-Some.c c.front_text.utf8 text,
    )
