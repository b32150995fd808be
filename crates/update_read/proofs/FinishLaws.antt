-- The end of all tokens.
use Rattle.std.proofs.Common.{◌≡◌, ◌≤◌, ◌+◌, ℕ, true, false, List, [], ◌∷◌, length, Ok, Err, Some, refl, sym, ap, subst, ◌∙◌, arith, inl, inr}
use Rattle.std.specs.Prelude.{Result}
use Rattle.std.proofs.lemmas.Bool.{false≢true}
use Rattle.dl_base.specs.Ontologies.{Theory}
use Rattle.dl_base.specs.Repeats.{IsOnce}
use Rattle.dl_base.specs.declared.statements.Fact.{Fact}
use Rattle.dl_text.specs.Going.{Goes, stop, go}
use Rattle.dl_text.specs.Prefixes.{Bindings}
use Rattle.dl_text.specs.declared.kinds.ReadKind.{ReadKind}
use Rattle.dl_text.specs.declared.kinds.ReadKind.TheVariants as kinds
use Rattle.dl_text.specs.declared.refusals.ReadRefusal.{ReadRefusal}
use Rattle.dl_text.specs.declared.refusals.ReadRefusal.TheVariants as refusals
use Rattle.update_read.specs.declared.lists.Lists.{Lists}
use Rattle.update_read.specs.declared.lists.Gathered.{Gathered}
use Rattle.update_read.specs.declared.reading.ReadUpdate.{ReadUpdate}
use Rattle.update_read.specs.declared.spots.Spot.{Spot}
use Rattle.update_read.specs.declared.spots.Spot.TheVariants as spots
use Rattle.update_read.specs.Going.{may_end, refused_at, IsRead, IsTold, IsFinished, run_of}
use Rattle.update_read.specs.Grammar.{Statement, IsUpdate}
use Rattle.update_read.specs.Meaning.{Outcome, SaysFirst, inserted, deleted, skips, most_triples, Means, IsRefusedBy}
use Rattle.update_read.specs.Stopping.{StopsAtEnd}
use Rattle.update_read.specs.Taking.{IsGathered, Gathers}
use Rattle.update_read.specs.Tokens.{Lexeme}
use Rattle.update_read.proofs.StopLaws.{whole_start, whole_done, stops_at_end}

-- there is an outcome for each triple
pub goes_length : (theory : Theory) (s e : List Statement) (os : List Outcome) → Goes (SaysFirst theory) s os e → length s ≡ length os + length e
goes_length theory s e os (stop v) = omega arith
goes_length theory s e os (go v m w o qs k r) = let on = goes_length theory m w qs r in omega (arith, on, ap length k.is)

-- the lists of a whole update, repeats dropped
pub means : (theory : Theory) (ts : List Statement) (lists : Lists) (update : ReadUpdate) → IsGathered theory ts lists → lists.triples ≤ most_triples → IsOnce lists.inserts.items update.inserts
    → IsOnce lists.deletes.items update.deletes → update.skipped ≡ lists.skipped → Means theory ts update
means theory ts lists update g l i d s = record {
  outcomes = g.outcomes;
  goes = g.goes;
  few = omega (arith, l, g.triples, goes_length theory ts [] g.outcomes g.goes);
  inserts = subst (λ (z : List Fact). IsOnce z update.inserts) g.inserts i;
  deletes = subst (λ (z : List Fact). IsOnce z update.deletes) g.deletes d;
  skipped = s ∙ g.skipped;
}

told_ends : (theory : Theory) (all : List Lexeme) (end : ℕ) (out : List Statement) (r : Result ReadUpdate ReadRefusal) → IsUpdate [] all out → IsTold theory out r → IsFinished theory all end r
told_ends theory all end out (Ok update) u h = (out, u, h)
told_ends theory all end out (Err (refusals.Refused line kind)) u h = inr (out, u, h)
told_ends theory all end out (Err refusals.OutOfMemory) u h = tt

module _ (theory : Theory) (b : Bindings) (gathered : Gathered) (all : List Lexeme) (end : ℕ) where
  -- the end of a whole update
  pub ends_well : (r : Result ReadUpdate ReadRefusal) → ((theory : Theory) (out : List Statement) → Gathers theory out gathered → IsTold theory out r) → (spot : Spot) → may_end spot ≡ true
      → IsRead theory spot b gathered all → IsFinished theory all end r
  ends_well r told spots.Start e (out, g, h) = told_ends theory all end out r (whole_start b out all g) (told theory out h)
  ends_well r told spots.Done e (out, g, h) = told_ends theory all end out r (whole_done b out all g) (told theory out h)
  ends_well r told spots.Prefix e h = absurd (false≢true e)
  ends_well r told (spots.Named x) e h = absurd (false≢true e)
  ends_well r told spots.Base e h = absurd (false≢true e)
  ends_well r told (spots.Word o l) e h = absurd (false≢true e)
  ends_well r told (spots.Data o) e h = absurd (false≢true e)
  ends_well r told (spots.Group o) e h = absurd (false≢true e)
  ends_well r told (spots.Subject o s) e h = absurd (false≢true e)
  ends_well r told (spots.Verb m) e h = absurd (false≢true e)
  ends_well r told (spots.Text m l x) e h = absurd (false≢true e)
  ends_well r told (spots.Hats m l x) e h = absurd (false≢true e)
  ends_well r told (spots.Object m) e h = absurd (false≢true e)
  ends_well r told (spots.Semicolon o s) e h = absurd (false≢true e)

  -- the end of another text
  pub ends_early : (spot : Spot) (line : ℕ) (kind : ReadKind) → may_end spot ≡ false → (let p : ℕ × ReadKind = (line, kind) in p ≡ refused_at spot end kinds.Syntax) → IsRead theory spot b gathered all
      → IsFinished theory all end (Err (refusals.Refused line kind))
  ends_early spot line kind e at (out, g, h) =
      inl (inr (subst (λ (p : ℕ × ReadKind). StopsAtEnd all end p.0 p.1) (sym at)
      (stops_at_end b out all spot end g (λ s. false≢true (sym e ∙ ap may_end s)) (λ s. false≢true (sym e ∙ ap may_end s)))))
