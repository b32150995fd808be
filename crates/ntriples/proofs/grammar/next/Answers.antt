use Rattle.ntriples.proofs.grammar.next.Goals as goal
use Rattle.ntriples.proofs.grammar.next.Goals.{in_default-via-in-Start+in_default, in_default-via-in-Subject+in_default, in_default-via-in-Predicate+in_default, in_default-via-in-Linked+in_default, in_default-via-in-Valued+in_default, in_default-via-in-Typing+in_default, in_default-via-in-Typed+in_default, in_default-via-in-Tagged+in_default, in_default-via-in_default}
use Rattle.ntriples.proofs.GrammarLaws.{refuses_start, refuses_subject, refuses_predicate, refuses_linked, refuses_valued, refuses_typing, refuses_typed, refuses_tagged, refuses_whole}

pub returns-in_default : goal.returns-in_default
returns-in_default c = elim c.in_default.branch [
  | in_default-via-in-Start+in_default w ↦ refuses_start c.args.state c.args.token w.in_default.is-0 w.in_default.not-Iri-1
  | in_default-via-in-Subject+in_default w ↦ refuses_subject c.args.state w.in_default.field-0-0 c.args.token w.in_default.is-0 w.in_default.not-Iri-1
  | in_default-via-in-Predicate+in_default w ↦ refuses_predicate c.args.state w.in_default.field-0-0 w.in_default.field-1-0 c.args.token w.in_default.is-0 w.in_default.not-Iri-1 w.in_default.not-Text-1
  | in_default-via-in-Linked+in_default w ↦ refuses_linked c.args.state w.in_default.field-0-0 w.in_default.field-1-0 w.in_default.field-2-0 c.args.token w.in_default.is-0 w.in_default.not-Dot-1
  | in_default-via-in-Valued+in_default w ↦ refuses_valued c.args.state w.in_default.field-0-0 w.in_default.field-1-0 w.in_default.field-2-0 c.args.token w.in_default.is-0 w.in_default.not-Dot-1 w.in_default.not-Hats-1 w.in_default.not-Tag-1
  | in_default-via-in-Typing+in_default w ↦ refuses_typing c.args.state w.in_default.field-0-0 w.in_default.field-1-0 w.in_default.field-2-0 c.args.token w.in_default.is-0 w.in_default.not-Iri-1
  | in_default-via-in-Typed+in_default w ↦ refuses_typed c.args.state w.in_default.field-0-0 w.in_default.field-1-0 w.in_default.field-2-0 w.in_default.field-3-0 c.args.token w.in_default.is-0 w.in_default.not-Dot-1
  | in_default-via-in-Tagged+in_default w ↦ refuses_tagged c.args.state w.in_default.field-0-0 w.in_default.field-1-0 w.in_default.field-2-0 w.in_default.field-3-0 c.args.token w.in_default.is-0 w.in_default.not-Dot-1
  | in_default-via-in_default w ↦ refuses_whole c.args.state w.in_default.field-0-0 c.args.token w.in_default.is-0
]
