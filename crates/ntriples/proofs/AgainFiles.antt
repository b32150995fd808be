-- Printed facts are read as those facts.
use Rattle.std.proofs.Common.{◌≡◌, ◌≢◌, ◌+◌, ℕ, List, [], ◌∷◌, ◌++◌, length, Option, Some, None, Ok, Bool, true, false, nat_eq, refl, sym, ap, subst, ◌∙◌, append_assoc, inl, ⊎_elim, arith}
use Rattle.std.specs.Prelude.{All, map, ◌==◌}
use Rattle.std.specs.List.{flat_map}
use Rattle.std.specs.Str.{IsUtf8}
use Rattle.std.specs.Cmp.Lexicographic.{pointwise}
use Rattle.std.proofs.lemmas.List.Elements.{All-nil, All-head, All-tail}
use Rattle.std.proofs.lemmas.Str.{IsUtf8-append, IsUtf8-nil}
use Rattle.std.proofs.lemmas.Bool.{false≢true}
use Rattle.dl_base.specs.declared.names.Value.{Value}
use Rattle.dl_base.specs.declared.statements.Fact.{Fact}
use Rattle.dl_base.specs.declared.statements.Fact.TheVariants as fact
use Rattle.dl_base.specs.Ontologies.{Theory, AreNamedOnce}
use Rattle.dl_base.specs.Repeats.{IsOnce}
use Rattle.dl_text.specs.Going.{Goes, stop, go}
use Rattle.dl_runs.specs.Classes.{IsTag}
use Rattle.triples.specs.declared.meaning.Said.{Said}
use Rattle.triples.specs.declared.meaning.Said.TheVariants as saids
use Rattle.ntriples.specs.Files.{LineStep, facts_of, all_skips, Reads}
use Rattle.ntriples.specs.Meaning.{LineSays}
use Rattle.ntriples.specs.Printing.{line, lines}
use Rattle.dl_text.specs.Namespaces.{xsd_string}
use Rattle.ntriples.specs.Printable.{IsCanonical, IsPrintable}
use Rattle.ntriples.proofs.FileLaws.{place}
use Rattle.ntriples.proofs.LineLaws.{lexes_none}
use Rattle.ntriples.proofs.PrintLaws as print
use Rattle.ntriples.proofs.AgainLines.{written_as, triple_of, line_is}
use Rattle.ntriples.proofs.AgainMeaning.{says_fact}
use Rattle.ntriples.proofs.AgainTexts.{IsWritable, IsText, printed_inner, ended_utf8}

a_tag : (v : Value) → IsCanonical v → (length v.tag == 0) ≡ false → IsTag v.tag
a_tag v c e = ⊎_elim (λ n. absurd (false≢true (sym e ∙ ap (λ (zs : List ℕ). length zs == 0) n))) (λ t. t) c.tag

written_object : (v : Value) (a b : Bool) → IsCanonical v → (length v.tag == 0) ≡ a → print.IsObject (written_as a b v)
written_object v true true c e = c.short
written_object v true false c e = (c.short, (c.datatype.1, c.datatype.2))
written_object v false b c e = (c.short, a_tag v c e)

written_text : (v : Value) (a b : Bool) → IsCanonical v → (length v.tag == 0) ≡ a → IsWritable (written_as a b v)
written_text v true true c e = c.text
written_text v true false c e = (c.text, c.datatype.0, c.datatype.1)
written_text v false b c e = (c.text, a_tag v c e)

object_read : (theory : Theory) (f : Fact) → IsPrintable theory f → print.IsObject (triple_of theory f).object
object_read theory (fact.Class c a) p = (p.object.1, p.object.2)
object_read theory (fact.Role r a b) p = (p.object.1, p.object.2)
object_read theory (fact.Attr u a v) p = written_object v (length v.tag == 0) (pointwise nat_eq v.datatype xsd_string) p.object refl

object_text : (theory : Theory) (f : Fact) → IsPrintable theory f → IsWritable (triple_of theory f).object
object_text theory (fact.Class c a) p = (p.object.0, p.object.1)
object_text theory (fact.Role r a b) p = (p.object.0, p.object.1)
object_text theory (fact.Attr u a v) p = written_text v (length v.tag == 0) (pointwise nat_eq v.datatype xsd_string) p.object refl

module _ (theory : Theory) (once : AreNamedOnce theory) where
  is_triple : (f : Fact) → IsPrintable theory f → print.IsTriple (triple_of theory f)
  is_triple f p = record { subject = (p.subject.1, p.subject.2); predicate = (p.predicate.1, p.predicate.2); object = object_read theory f p }

  is_text : (f : Fact) → IsPrintable theory f → IsText (triple_of theory f)
  is_text f p = record { subject = (p.subject.0, p.subject.1); predicate = (p.predicate.0, p.predicate.1); object = object_text theory f p }

  -- the line of a fact says that fact
  line_says_fact : (f : Fact) → IsPrintable theory f → LineSays theory (print.printed (triple_of theory f)) (Ok (Some (saids.Fact f)))
  line_says_fact f p = (triple_of theory f, print.printed_parses (triple_of theory f) (is_triple f p), says_fact theory f once p)

  abbrev pub saying : List Fact → List (Option Said)
  saying facts = map (λ (f : Fact). Some (saids.Fact f)) facts

  line_step : (f : Fact) (facts : List Fact) (n : ℕ) → IsPrintable theory f → LineStep theory (place n (lines theory (f ∷ facts))) (Some (saids.Fact f)) (place (n + 1) (lines theory facts))
  line_step f facts n p = record {
    front = print.printed (triple_of theory f);
    end = 10;
    is = ap (λ (zs : List ℕ). zs ++ lines theory facts) (line_is theory f) ∙ append_assoc (print.printed (triple_of theory f)) (10 ∷ []) (lines theory facts);
    no_end = printed_inner (triple_of theory f) (is_text f p);
    is_end = inl refl;
    number = refl;
    says = line_says_fact f p;
  }

  lines_go : (facts : List Fact) (n : ℕ) → All (IsPrintable theory) facts → (m : ℕ) × Goes (LineStep theory) (place n (lines theory facts)) (saying facts) (place m [])
  lines_go [] n a = (n, stop (place n []))
  lines_go (f ∷ facts) n a =
      let on = lines_go facts (n + 1) (All-tail (IsPrintable theory) f facts a) in (
        on.0,
        go (place n (lines theory (f ∷ facts))) (place (n + 1) (lines theory facts)) (place on.0 []) (Some (saids.Fact f)) (saying facts) (line_step f facts n (All-head (IsPrintable theory) f facts a)) on.1,
      )

  lines_utf8 : (facts : List Fact) → All (IsPrintable theory) facts → IsUtf8 (lines theory facts)
  lines_utf8 [] a = IsUtf8-nil
  lines_utf8 (f ∷ facts) a =
      IsUtf8-append (line theory f) (lines theory facts) (subst IsUtf8 (sym (line_is theory f)) (ended_utf8 (triple_of theory f) (is_text f (All-head (IsPrintable theory) f facts a))))
      (lines_utf8 facts (All-tail (IsPrintable theory) f facts a))

  said_facts : (facts : List Fact) → facts ≡ flat_map facts_of (saying facts ++ None ∷ [])
  said_facts [] = refl
  said_facts (f ∷ facts) = ap (λ (fs : List Fact). f ∷ fs) (said_facts facts)

  no_skips : (facts : List Fact) → 0 ≡ all_skips (saying facts ++ None ∷ [])
  no_skips [] = refl
  no_skips (f ∷ facts) = omega (arith, no_skips facts)

  pub printed_reads : (facts : List Fact) → All (IsPrintable theory) facts → IsOnce facts facts → Reads theory (lines theory facts) (Ok (record { facts = facts; skipped = 0 }))
  printed_reads facts a o =
      let on = lines_go facts 1 a in (
        lines_utf8 facts a,
        (
          facts,
          record {
            before = saying facts;
            here = place on.0 [];
            goes = on.1;
            last = None;
            no_end = All-nil (λ b. (b ≢ 10) × (b ≢ 13));
            says = lexes_none [];
            facts_are = said_facts facts;
            skipped_are = no_skips facts;
          },
          o,
        ),
      )
