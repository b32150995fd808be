-- What the reader holds, as a value.
use Rattle.owl_read.specs.declared.reader.Reader.{Reader}
use Rattle.owl_read.specs.Rows.{Reading}

abbrev pub held : Reader → Reading
held r = record { scope = r.scope; axioms = r.axioms.items; facts = r.facts.items; skipped = r.skipped }
