-- Which word of a row has the places of a term.
use Rattle.std.proofs.Common.{◌≡◌, ◌/◌, arith}
use Rattle.dl_base.specs.declared.terms.RoleSide.{RoleSide}
use Rattle.dl_base.specs.declared.terms.RoleSide.TheVariants.{Direct, Inverse}
use Rattle.dl_base.specs.declared.terms.Basic.{Basic}
use Rattle.dl_base.specs.declared.terms.Basic.TheVariants as basic
use Rattle.dl_laws.specs.Edges.{concept_node, role_node}
use Rattle.tbox_closure.specs.Tables.{term_number, role_term}

pub concept_word : (b : Basic) → concept_node b / 64 ≡ term_number b / 16
concept_word (basic.Class t) = omega arith
concept_word (basic.Exists (Direct t)) = omega arith
concept_word (basic.Exists (Inverse t)) = omega arith
concept_word (basic.Domain t) = omega arith

pub role_word : (q : RoleSide) → role_node q / 64 ≡ role_term q / 32
role_word (Direct t) = omega arith
role_word (Inverse t) = omega arith
