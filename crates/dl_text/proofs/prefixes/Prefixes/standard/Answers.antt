use Rattle.dl_text.proofs.PrefixLaws.{standard_is}
use Rattle.dl_text.proofs.prefixes.Prefixes.standard.Goals as goal

pub returns : goal.returns
returns c =
    standard_is _ _ _ _ _ _ _ _ _ c.none-prefixes.ensures c.rdf_namespace.ensures c.rdfs_namespace.ensures c.xsd_namespace.ensures c.owl_namespace.ensures
    c.in_ok-add.ensures c.in_ok-add-2.ensures c.in_ok-add-3.ensures c.in_ok-add-4.ensures
