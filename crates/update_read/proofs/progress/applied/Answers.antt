use Rattle.std.proofs.Common.{◌≡◌, [], ◌∷◌, ◌++◌, List, ℕ, Some, sym, ap, ◌∙◌}
use Rattle.dl_text.specs.Prefixes.{Bindings, with_prefix}
use Rattle.update_read.specs.declared.spots.Spot.TheVariants as spots
use Rattle.update_read.specs.Going.{run_of}
use Rattle.update_read.specs.Running.{applied}
use Rattle.update_read.proofs.progress.applied.Goals as goal

pub returns-in-On : goal.returns-in-On
returns-in-On c out g = (out, ap (applied c.args.prefixes out) c.in-On.is, g)

pub returns-in_ok-set-in-Bind : goal.returns-in_ok-set-in-Bind
returns-in_ok-set-in-Bind c out g =
    let bound : c.set.new.self ≡ with_prefix c.args.prefixes c.in-Bind.prefix c.in-Bind.iri =
    c.in_ok-set-in-Bind.ensures.ok ∙ ap (λ (p : List ℕ). with_prefix c.args.prefixes p c.in-Bind.iri) c.as_slice.ensures.value in
    (out, ap (applied c.args.prefixes out) c.in-Bind.is ∙ ap (λ (b : Bindings). Some (run_of spots.Start b out)) (sym bound), g)

pub returns-in_ok-gathered-in-Say : goal.returns-in_ok-gathered-in-Say
returns-in_ok-gathered-in-Say c out g =
    (out ++ record { bindings = c.args.prefixes; stem = c.in-Say.stem; object = c.in-Say.object } ∷ [], ap (applied c.args.prefixes out) c.in-Say.is, c.in_ok-gathered-in-Say.ensures out g)
