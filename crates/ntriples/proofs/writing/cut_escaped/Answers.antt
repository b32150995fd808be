use Rattle.std.proofs.Common.{◌+◌, ◌<◌, List, ℕ, length, drop, ◌++◌, sym, ap, ◌∙◌, arith, take}
use Rattle.std.proofs.lemmas.List.{take_rest, length-drop}
use Rattle.dl_text.specs.Printing.{written}
use Rattle.ntriples.proofs.EscapedLaws.{cut_is}
use Rattle.ntriples.proofs.writing.cut_escaped.Goals as goal

pub returns-then-is_escaped : goal.returns-then-is_escaped
returns-then-is_escaped c =
    let text = c.args.text.now in
    let at = c.loop-at.at in
    let within : at < length text = omega (arith, c.loop-at-test.true) in
    let behind = take_rest text (at + 1) in (
      cut_is text at _ within c.loop-at.invariant ∙ ap (λ (zs : List ℕ). take at text ++ (zs ++ written (drop (at + 1) text))) (sym c.escape_of.ensures)
          ∙ ap (λ (zs : List ℕ). take at text ++ (c.escape_of.result.now ++ written zs)) (sym behind),
      omega (arith, within, ap length behind, length-drop (at + 1) text),
    )
