use Rattle.ntriples.proofs.TokenLaws.{plain_reads, plain_too_long}
use Rattle.ntriples.proofs.tokens.read_text.Goals as goal

pub returns-then-inner-gt-LONGEST_TEXT : goal.returns-then-inner-gt-LONGEST_TEXT
returns-then-inner-gt-LONGEST_TEXT c = plain_too_long c.args.inner.now c.in-None.ensures c.if-inner-gt-LONGEST_TEXT.true

pub returns-in_ok-name-in-None : goal.returns-in_ok-name-in-None
returns-in_ok-name-in-None c = plain_reads c.args.inner.now c.in_ok-name-in-None.field-0 c.in-None.ensures c.if-inner-gt-LONGEST_TEXT.false c.in_ok-name-in-None.ensures
