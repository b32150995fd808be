use Rattle.dl_laws.proofs.Listing.{closure, lists_closure}
use Rattle.dl_laws.proofs.decisions.closures_are_lists.Goals as goal

pub returns : goal.returns
returns c axioms facts = (closure axioms facts, lists_closure axioms facts)
