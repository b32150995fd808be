use Rattle.dl_text.proofs.ReadingLaws.{iri_text}
use Rattle.dl_text.proofs.pool.NamePool.read_iri.Goals as goal

pub returns-then-is_iri : goal.returns-then-is_iri
returns-then-is_iri c =
    let is = c.is_iri.ensures.0 c.if-is_iri.true in
    rw c.in_ok-name.ensures (iri_text c.args.escapes c.args.bytes.now is, is, c.if-bytes-le-LONGEST_IRI.true)
