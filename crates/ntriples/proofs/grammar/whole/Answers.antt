use Rattle.std.proofs.Common.{sym, ◌∙◌, subst, inr, refl}
use Rattle.ntriples.specs.Grammar.{IsViable}
use Rattle.ntriples.proofs.GrammarLaws.{alive, no_line, open_from}
use Rattle.ntriples.proofs.grammar.whole.Goals as goal

pub returns : goal.returns
returns c tokens f = inr (record {
  viable = subst IsViable (sym f) (alive c.args.state);
  short = λ line e. no_line c.args.state (open_from c.args.state c.in_default.not-Start c.in_default.not-Whole) line (sym f ∙ e);
  kind_is = refl;
})
