use Rattle.std.proofs.Common.{sym, ap, [], refl}
use Rattle.ntriples.specs.Meaning.{StandsFor}
use Rattle.ntriples.proofs.MeaningLaws.{literal_means}
use Rattle.ntriples.proofs.meaning.meant.Goals as goal

pub returns-in-Plain : goal.returns-in-Plain
returns-in-Plain c =
    literal_means c.args.object c.as_slice.result.now [] [] c.in-Plain.text [] [] c.literal.result c.as_slice.ensures.value refl refl (ap StandsFor (sym c.in-Plain.is)) c.literal.ensures

pub returns-in-Typed : goal.returns-in-Typed
returns-in-Typed c =
    literal_means c.args.object c.as_slice-in-Typed.result.now c.as_slice-in-Typed-2.result.now [] c.in-Typed.text c.in-Typed.datatype [] c.literal-in-Typed.result
    c.as_slice-in-Typed.ensures.value c.as_slice-in-Typed-2.ensures.value refl (ap StandsFor (sym c.in-Typed.is)) c.literal-in-Typed.ensures

pub returns-in-Tagged : goal.returns-in-Tagged
returns-in-Tagged c =
    literal_means c.args.object c.as_slice-in-Tagged.result.now [] c.as_slice-in-Tagged-2.result.now c.in-Tagged.text [] c.in-Tagged.tag c.literal-in-Tagged.result
    c.as_slice-in-Tagged.ensures.value refl c.as_slice-in-Tagged-2.ensures.value (ap StandsFor (sym c.in-Tagged.is)) c.literal-in-Tagged.ensures
