-- What the reader of a file keeps.
use Rattle.std.proofs.Common.{◌≡◌, ◌+◌, ◌<◌, ◌≤◌, ℕ, List, [], ◌∷◌, ◌++◌, length, Option, Ok, Err, refl, sym, ap, subst, ◌∙◌, ◌⊎◌, append_assoc, arith}
use Rattle.std.proofs.lemmas.List.{append-nil, length-append}
use Rattle.std.specs.List.{flat_map}
use Rattle.dl_text.specs.Going.{Goes, stop}
use Rattle.dl_text.proofs.GoingLaws.{goes_push}
use Rattle.dl_base.specs.declared.statements.Fact.{Fact}
use Rattle.ntriples.specs.declared.faults.LineFault.{LineFault}
use Rattle.ntriples.specs.declared.faults.LineFault.TheVariants as faults
use Rattle.dl_base.specs.Ontologies.{Theory}
use Rattle.triples.specs.declared.meaning.Said.{Said}
use Rattle.ntriples.specs.Files.{HasNoEnd, Place, LineStep, IsLineAt, start, facts_of, skips_of, all_skips, number_after, SaysFacts, ReadsLines}
use Rattle.dl_base.specs.Repeats.{IsOnce}
use Rattle.ntriples.specs.Gathering.{IsKept}
use Rattle.ntriples.proofs.GatheringLaws.{kept_once}
use Rattle.ntriples.specs.Faults.{refused}
use Rattle.ntriples.specs.Meaning.{LineSays}

facts_push : (its : List (Option Said)) (it : Option Said) → flat_map facts_of (its ++ it ∷ []) ≡ flat_map facts_of its ++ facts_of it
facts_push [] it = append-nil (facts_of it)
facts_push (x ∷ its) it = ap (λ (zs : List Fact). facts_of x ++ zs) (facts_push its it) ∙ sym (append_assoc (facts_of x) (flat_map facts_of its) (facts_of it))

once_more : (its : List (Option Said)) (facts : List Fact) (it : Option Said) (then : List Fact) → IsOnce (flat_map facts_of its) facts → IsKept facts it then → IsOnce (flat_map facts_of (its ++ it ∷ [])) then
once_more its facts it then h k = subst (λ (zs : List Fact). IsOnce zs then) (sym (facts_push its it)) (kept_once (flat_map facts_of its) facts it then h k)

skips_push : (its : List (Option Said)) (it : Option Said) → all_skips (its ++ it ∷ []) ≡ all_skips its + skips_of it
skips_push [] it = omega arith
skips_push (x ∷ its) it = omega (arith, skips_push its it)

abbrev pub place : ℕ → List ℕ → Place
place line rest = record { line = line; rest = rest }

-- the lines up to here, and what they say
pub record IsReadTo (theory : Theory) (bytes : List ℕ) (facts : List Fact) (skipped line : ℕ) (rest : List ℕ) : Type 0 where
  pub saids : List (Option Said)
  pub goes : Goes (LineStep theory) (start bytes) saids (place line rest)
  pub once : IsOnce (flat_map facts_of saids) facts
  pub skipped_are : skipped ≡ all_skips saids
  pub few : skipped + length rest ≤ length bytes
  pub low : line + length rest ≤ length bytes + 1

pub read_none : (theory : Theory) (bytes : List ℕ) → IsReadTo theory bytes [] 0 1 bytes
read_none theory bytes = record { saids = []; goes = stop (start bytes); once = refl; skipped_are = refl; few = omega arith; low = omega arith }

pub shorter_line : (rest front behind : List ℕ) (end : ℕ) → rest ≡ front ++ end ∷ behind → length behind < length rest
shorter_line rest front behind end e = omega (arith, ap length e, length-append front (end ∷ behind))

pub read_more : (theory : Theory) (bytes : List ℕ) (facts : List Fact) (skipped line : ℕ) (rest front behind : List ℕ) (end : ℕ) (it : Option Said) (then : List Fact) (more number : ℕ)
    → IsReadTo theory bytes facts skipped line rest → rest ≡ front ++ end ∷ behind → (end ≡ 10) ⊎ (end ≡ 13) → HasNoEnd front → LineSays theory front (Ok it)
    → IsKept facts it then → more ≡ skips_of it → more ≤ 1 → number ≡ number_after line end → number ≤ line + 1
    → IsReadTo theory bytes then (skipped + more) number behind
read_more theory bytes facts skipped line rest front behind end it then more number r e is n s f m one k low = record {
  saids = r.saids ++ it ∷ [];
  goes = goes_push (LineStep theory) (start bytes) (place line rest) (place number behind) r.saids it r.goes
      (record { front = front; end = end; is = e; no_end = n; is_end = is; number = k; says = s });
  once = once_more r.saids facts it then r.once f;
  skipped_are = omega (arith, skips_push r.saids it, r.skipped_are, m);
  few = omega (arith, r.few, one, shorter_line rest front behind end e);
  low = omega (arith, r.low, low, shorter_line rest front behind end e);
}

pub all_read : (theory : Theory) (bytes : List ℕ) (facts : List Fact) (skipped line : ℕ) (rest : List ℕ) (it : Option Said) (then : List Fact) (more : ℕ)
    → IsReadTo theory bytes facts skipped line rest → HasNoEnd rest → LineSays theory rest (Ok it) → IsKept facts it then → more ≡ skips_of it → SaysFacts theory bytes then (skipped + more)
all_read theory bytes facts skipped line rest it then more r n s f m = (
  flat_map facts_of (r.saids ++ it ∷ []),
  record {
    before = r.saids;
    here = place line rest;
    goes = r.goes;
    last = it;
    no_end = n;
    says = s;
    facts_are = refl;
    skipped_are = omega (arith, skips_push r.saids it, r.skipped_are, m);
  },
  once_more r.saids facts it then r.once f,
)

pub line_refused : (theory : Theory) (bytes : List ℕ) (facts : List Fact) (skipped line : ℕ) (rest front : List ℕ) (f : LineFault)
    → IsReadTo theory bytes facts skipped line rest → IsLineAt rest front → LineSays theory front (Err f) → ReadsLines theory bytes (Err (refused line f))
line_refused theory bytes facts skipped line rest front (faults.Refused kind) r l s = record { before = r.saids; here = place line rest; goes = r.goes; front = front; is_line = l; fails = s; line_is = refl }
line_refused theory bytes facts skipped line rest front faults.OutOfMemory r l s = tt
