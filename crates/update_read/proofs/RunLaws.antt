-- The reader goes through every update, and every spot that it comes to has an update behind it.
use Rattle.std.proofs.Common.{◌≡◌, ◌≢◌, ◌⊎◌, ℕ, List, [], ◌∷◌, ◌++◌, Some, None, refl, sym, ap, subst, ◌∙◌, append_assoc, inl, inr}
use Rattle.std.specs.Prelude.{Option}
use Rattle.std.proofs.lemmas.List.{append-nil}
use Rattle.std.proofs.lemmas.Option.{none-some}
use Rattle.dl_text.specs.Going.{Goes, stop, go}
use Rattle.dl_text.specs.Prefixes.{Bindings, with_prefix}
use Rattle.update_read.specs.declared.spots.Spot.{Spot}
use Rattle.update_read.specs.declared.spots.Spot.TheVariants as spots
use Rattle.update_read.specs.declared.spots.Step.{Step}
use Rattle.update_read.specs.declared.spots.Step.TheVariants as steps
use Rattle.update_read.specs.declared.syntax.Operation.{Operation}
use Rattle.update_read.specs.declared.syntax.SpelledName.TheVariants.{Full}
use Rattle.update_read.specs.declared.syntax.SpelledName.{SpelledName}
use Rattle.update_read.specs.declared.syntax.SpelledVerb.TheVariants as verbs
use Rattle.update_read.specs.declared.syntax.SpelledDatatype.TheVariants as datatypes
use Rattle.update_read.specs.declared.syntax.SpelledDatatype.{SpelledDatatype}
use Rattle.update_read.specs.declared.syntax.SpelledObject.{SpelledObject}
use Rattle.update_read.specs.declared.syntax.SpelledObject.TheVariants as objects
use Rattle.update_read.specs.declared.syntax.Stem.{Stem}
use Rattle.update_read.specs.declared.tokens.Keyword.TheVariants as keywords
use Rattle.update_read.specs.declared.tokens.Mark.TheVariants as marks
use Rattle.update_read.specs.declared.tokens.Token.TheVariants as tokens
use Rattle.update_read.specs.Grammar.{mark, One, Statement, IsLiteralEnd, bare, tagged, typed, IsObject, single, literal, IsNextObject, Property, IsNextProperty, empty, one, Group, IsNextGroup, IsTriples, none, some, IsUpdate, nothing, prologue, last, more, prefix, base}
use Rattle.update_read.specs.Stopping.{IsFront}
use Rattle.update_read.specs.Tokens.{Lexeme, at}
use Rattle.update_read.specs.Reading.{step_of, stem_of}
use Rattle.update_read.specs.Running.{Run, applied, after, then, runs, start}
use Rattle.update_read.proofs.Rests.{stated, AtEnd, AtClose, AtGroupEnd, AtGroups, AtPropertyEnd, AtObjectEnd, AtObject, AtVerb, AtLiteralEnd, AtDatatype, AtBrace, Rest, Moves}
use Rattle.update_read.proofs.ForthLaws.{forth}
use Rattle.update_read.proofs.BackLaws.{back}
use Rattle.update_read.proofs.ViewLaws.{no_one}

pub runs-append : (o : Option Run) (ts us : List Lexeme) → runs o (ts ++ us) ≡ runs (runs o ts) us
runs-append o [] us = refl
runs-append o (t ∷ ts) us = runs-append (then o t) ts us

pub runs_none : (ts : List Lexeme) → runs None ts ≡ None
runs_none [] = refl
runs_none (t ∷ ts) = runs_none ts

pub runs_push : (o : Option Run) (ts : List Lexeme) (r : Run) (t : Lexeme) → runs o ts ≡ Some r → runs o (ts ++ t ∷ []) ≡ after r t
runs_push o ts r t e = runs-append o ts (t ∷ []) ∙ ap (λ (p : Option Run). then p t) e

same_run : (o : Option Run) (r s : Run) → o ≡ Some r → o ≡ Some s → r ≡ s
same_run o r s e f = cc

-- the run, and behind it these tokens with the triples that are left
pub record Ahead (run : Run) (s : List Lexeme) (all : List Statement) : Type 0 where
  pub later : List Statement
  pub rest : Rest run.bindings run.spot s later
  pub is : all ≡ run.out ++ later

-- from the token to what comes behind it
step_ahead : (b : Bindings) (o : List Statement) (step : Step) (n : List Lexeme) (out all : List Statement) → Moves b step n out → all ≡ o ++ out → (r : Run) × (applied b o step ≡ Some r) × Ahead r n all
step_ahead b o steps.Stuck n out all m e = absurd m
step_ahead b o (steps.On spot) n out all m e = (record { bindings = b; spot = spot; out = o }, refl, record { later = out; rest = m; is = e })
step_ahead b o (steps.Bind named iri) n out all m e = (record { bindings = with_prefix b named iri; spot = spots.Start; out = o }, refl, record { later = out; rest = m; is = e })
step_ahead b o (steps.Say stem it spot) n out all (later, r, is) e = (
  record { bindings = b; spot = spot; out = o ++ stated b stem it ∷ [] },
  refl,
  record { later = later; rest = r; is = e ∙ ap (λ (z : List Statement). o ++ z) is ∙ sym (append_assoc o (stated b stem it ∷ []) later) },
)

-- what may come is gone through
pub goes_through : (ts s : List Lexeme) (run : Run) (all : List Statement) → Ahead run (ts ++ s) all → (e : Run) × (runs (Some run) ts ≡ Some e) × Ahead e s all
goes_through [] s run all a = (run, refl, a)
goes_through (t ∷ ts) s run all a =
    let m = forth run.bindings t (ts ++ s) run.spot a.later a.rest in
    let one = step_ahead run.bindings run.out (step_of run.spot t) (ts ++ s) a.later all m a.is in
    let on = goes_through ts s one.0 all one.2 in
    (on.0, ap (λ (z : Option Run). runs z ts) one.1 ∙ on.1, on.2)

-- and back: what comes behind a step comes behind the token
step_behind : (b : Bindings) (o : List Statement) (step : Step) (n : List Lexeme) (r : Run) (all : List Statement) → applied b o step ≡ Some r → Ahead r n all → (out : List Statement) × Moves b step n out × (all ≡ o ++ out)
step_behind b o steps.Stuck n r all e a = absurd (none-some r e)
step_behind b o (steps.On spot) n r all e a =
    let x : Run = record { bindings = b; spot = spot; out = o } in
    let at = subst (λ (z : Run). Ahead z n all) (sym (same_run (Some x) x r refl e)) a in
    (at.later, at.rest, at.is)
step_behind b o (steps.Bind named iri) n r all e a =
    let x : Run = record { bindings = with_prefix b named iri; spot = spots.Start; out = o } in
    let at = subst (λ (z : Run). Ahead z n all) (sym (same_run (Some x) x r refl e)) a in
    (at.later, at.rest, at.is)
step_behind b o (steps.Say stem it spot) n r all e a =
    let x : Run = record { bindings = b; spot = spot; out = o ++ stated b stem it ∷ [] } in
    let at = subst (λ (z : Run). Ahead z n all) (sym (same_run (Some x) x r refl e)) a in
    (stated b stem it ∷ at.later, (at.later, at.rest, refl), at.is ∙ append_assoc o (stated b stem it ∷ []) at.later)

pub goes_back : (ts s : List Lexeme) (run e : Run) (all : List Statement) → runs (Some run) ts ≡ Some e → Ahead e s all → Ahead run (ts ++ s) all
goes_back [] s run e all r a = subst (λ (z : Run). Ahead z s all) (sym (same_run (Some run) run e refl r)) a
goes_back (t ∷ ts) s run e all r a = by (after run t) refl r (λ (m : Run) (q : runs (Some m) ts ≡ Some e). goes_back ts s m e all q a)
  where
    by : (o : Option Run) → after run t ≡ o → runs o ts ≡ Some e → ((m : Run) → runs (Some m) ts ≡ Some e → Ahead m (ts ++ s) all) → Ahead run (t ∷ (ts ++ s)) all
    by None x q k = absurd (none-some e (sym (runs_none ts) ∙ q))
    by (Some m) x q k =
        let one = step_behind run.bindings run.out (step_of run.spot t) (ts ++ s) m all x (k m q) in
        record { later = one.0; rest = back run.bindings t (ts ++ s) run.spot one.0 one.1; is = one.2 }

-- each spot has something behind it
abbrev an_iri : Lexeme
an_iri = at 0 (tokens.Iri [])

close_there : (b : Bindings) → AtClose b (at 0 (tokens.Sign marks.CloseBrace) ∷ []) []
close_there b = ([], (at 0 (tokens.Sign marks.CloseBrace), refl, refl), inl (refl, refl))

abbrev closed : List Lexeme
closed = at 0 (tokens.Sign marks.CloseBrace) ∷ []

groups_there : (b : Bindings) (op : Operation) → AtGroups b op closed []
groups_there b op = record { groups = []; ends = closed; later = []; triples = none refl refl; close = close_there b; is = refl }

property_there : (b : Bindings) (op : Operation) (subject : SpelledName) → AtPropertyEnd b op subject closed []
property_there b op subject = record {
  properties = [];
  ends = closed;
  later = [];
  goes = stop closed;
  rest = record { groups = []; groups_end = closed; dot_ends = closed; later = []; goes = stop closed; dot = inl refl; close = close_there b; is = refl };
  is = refl;
}

objects_there : (b : Bindings) (stem : Stem) → AtObjectEnd b stem closed []
objects_there b stem = record { more = []; ends = closed; later = []; goes = stop closed; rest = property_there b stem.operation stem.subject; is = refl }

object_there : (b : Bindings) (stem : Stem) → AtObject b stem (an_iri ∷ closed) (stated b stem (objects.Named (Full 0 [])) ∷ [])
object_there b stem = record { it = objects.Named (Full 0 []); ends = closed; later = []; object = single (an_iri, refl, refl); rest = objects_there b stem; is = refl }

brace_there : (b : Bindings) (op : Operation) → AtBrace b op (at 0 (tokens.Sign marks.OpenBrace) ∷ closed) []
brace_there b op = (closed, (at 0 (tokens.Sign marks.OpenBrace), refl, refl), groups_there b op)

there : (b : Bindings) (spot : Spot) → (s : List Lexeme) × (out : List Statement) × Rest b spot s out
there b spots.Start = ([], [], nothing b [] [] refl refl)
there b spots.Prefix = (at 0 (tokens.Prefixed [] []) ∷ an_iri ∷ [], [], ([], [], an_iri ∷ [], [], (at 0 (tokens.Prefixed [] []), refl, refl), (an_iri, refl, refl), nothing (with_prefix b [] []) [] [] refl refl))
there b (spots.Named named) = (an_iri ∷ [], [], ([], [], (an_iri, refl, refl), nothing (with_prefix b named []) [] [] refl refl))
there b spots.Base = (an_iri ∷ [], [], ([], [], (an_iri, refl, refl), nothing b [] [] refl refl))
there b (spots.Word op line) = (
  at 0 (tokens.Word keywords.Data) ∷ at 0 (tokens.Sign marks.OpenBrace) ∷ closed,
  [],
  (at 0 (tokens.Sign marks.OpenBrace) ∷ closed, (at 0 (tokens.Word keywords.Data), refl, refl), brace_there b op),
)
there b (spots.Data op) = (at 0 (tokens.Sign marks.OpenBrace) ∷ closed, [], brace_there b op)
there b (spots.Group op) = (closed, [], groups_there b op)
there b (spots.Subject op subject) =
    let stem : Stem = stem_of op subject verbs.IsA in (
      at 0 (tokens.Word keywords.A) ∷ an_iri ∷ closed,
      stated b stem (objects.Named (Full 0 [])) ∷ [],
      record { it = verbs.IsA; ends = an_iri ∷ closed; is_verb = (at 0 (tokens.Word keywords.A), refl, refl); rest = object_there b stem },
    )
there b (spots.Verb stem) = (an_iri ∷ closed, stated b stem (objects.Named (Full 0 [])) ∷ [], object_there b stem)
there b (spots.Text stem line text) = (
  closed,
  stated b stem (objects.Literal line text [] datatypes.Untyped) ∷ [],
  record { tagged = []; datatype = datatypes.Untyped; ends = closed; later = []; end = bare refl refl refl; rest = objects_there b stem; is = refl },
)
there b (spots.Hats stem line text) = (
  an_iri ∷ closed,
  stated b stem (objects.Literal line text [] (datatypes.Written (Full 0 []))) ∷ [],
  record { it = Full 0 []; ends = closed; later = []; is_name = (an_iri, refl, refl); rest = objects_there b stem; is = refl },
)
there b (spots.Object stem) = (closed, [], objects_there b stem)
there b (spots.Semicolon op subject) = (closed, [], inr (property_there b op subject))
there b spots.Done = ([], [], inl (refl, refl))

-- the reader has gone through these tokens
abbrev pub IsGoing : Run → List Lexeme → Type 0
IsGoing run ts = runs (Some start) ts ≡ Some run

pub update_is : (run : Run) (ts s : List Lexeme) (later : List Statement) → IsGoing run ts → Rest run.bindings run.spot s later → IsUpdate [] (ts ++ s) (run.out ++ later)
update_is run ts s later g r =
    let a = goes_back ts s start run (run.out ++ later) g (record { later = later; rest = r; is = refl }) in
    subst (λ (z : List Statement). IsUpdate [] (ts ++ s) z) (sym a.is) a.rest

-- what it has gone through is the front of an update
pub going_front : (run : Run) (ts : List Lexeme) → IsGoing run ts → IsFront ts
going_front run ts g =
    let w = there run.bindings run.spot in
    (w.0, run.out ++ w.1, update_is run ts w.0 w.1 g w.2)

-- every front of an update is gone through
pub front_goes : (ts : List Lexeme) → IsFront ts → (run : Run) × IsGoing run ts
front_goes ts (s, all, u) =
    let on = goes_through ts s start all (record { later = all; rest = u; is = refl }) in
    (on.0, on.1)

-- a token that isn't taken goes on in no update
pub stuck : (run : Run) (ts : List Lexeme) (t : Lexeme) → IsGoing run ts → after run t ≡ None → ¬ IsFront (ts ++ t ∷ [])
stuck run ts t g n f =
    let on = front_goes (ts ++ t ∷ []) f in
    none-some on.0 (sym n ∙ sym (runs_push (Some start) ts run t g) ∙ on.1)

-- inside an operation something must come
no_close : (b : Bindings) (later : List Statement) → ¬ AtClose b [] later
no_close b later (m, w, e) = no_one _ m _ w

no_group_end : (b : Bindings) (op : Operation) (later : List Statement) → ¬ AtGroupEnd b op [] later
no_group_end b op later g = by [] g.groups_end g.dot_ends g.groups refl g.goes g.dot g.close
  where
    by : (s k m : List Lexeme) (gs : List Group) → s ≡ [] → Goes IsNextGroup s gs k → (k ≡ m) ⊎ One mark k marks.Dot m → AtClose b m g.later → ⊥
    by s k m gs e (stop v) (inl d) c = no_close b g.later (subst (λ (z : List Lexeme). AtClose b z g.later) (sym d ∙ e) c)
    by s k m gs e (stop v) (inr d) c = no_one _ m _ (subst (λ (z : List Lexeme). One mark z marks.Dot m) e d)
    by s k m gs e (go v w x o os (u, d, i) r) f c = no_one _ u _ (subst (λ (z : List Lexeme). One mark z marks.Dot u) e d)

no_property_end : (b : Bindings) (op : Operation) (subject : SpelledName) (later : List Statement) → ¬ AtPropertyEnd b op subject [] later
no_property_end b op subject later p = by [] p.ends p.properties refl p.goes p.rest
  where
    by : (s k : List Lexeme) (ps : List (List Property)) → s ≡ [] → Goes IsNextProperty s ps k → AtGroupEnd b op k p.later → ⊥
    by s k ps e (stop v) r = no_group_end b op p.later (subst (λ (z : List Lexeme). AtGroupEnd b op z p.later) e r)
    by s k ps e (go v w x o os (empty d i) g) r = no_one _ w _ (subst (λ (z : List Lexeme). One mark z marks.Semicolon w) e d)
    by s k ps e (go v w x o os (one m it d i f) g) r = no_one _ m _ (subst (λ (z : List Lexeme). One mark z marks.Semicolon m) e d)

no_object_end : (b : Bindings) (stem : Stem) (later : List Statement) → ¬ AtObjectEnd b stem [] later
no_object_end b stem later o = by [] o.ends o.more refl o.goes o.rest
  where
    by : (s k : List Lexeme) (os : List SpelledObject) → s ≡ [] → Goes IsNextObject s os k → AtPropertyEnd b stem.operation stem.subject k o.later → ⊥
    by s k os e (stop v) r = no_property_end b stem.operation stem.subject o.later (subst (λ (z : List Lexeme). AtPropertyEnd b stem.operation stem.subject z o.later) e r)
    by s k os e (go v w x p ps (u, d, i) g) r = no_one _ u _ (subst (λ (z : List Lexeme). One mark z marks.Comma u) e d)

no_groups : (b : Bindings) (op : Operation) (later : List Statement) → ¬ AtGroups b op [] later
no_groups b op later g = by g.groups g.ends g.triples g.close
  where
    by : (gs : List Group) (e : List Lexeme) → IsTriples [] gs e → AtClose b e g.later → ⊥
    by gs e (none s k) c = no_close b g.later (subst (λ (z : List Lexeme). AtClose b z g.later) (sym s) c)
    by gs e (some m k first rest i r d is) c = no_one _ i.subject_ends _ i.is_subject

no_object : (b : Bindings) (stem : Stem) (later : List Statement) → ¬ AtObject b stem [] later
no_object b stem later o = by o.it o.ends o.object
  where
    by : (it : SpelledObject) (e : List Lexeme) → IsObject [] it e → ⊥
    by it e (single w) = no_one _ e it w
    by it e (literal line text tag_is datatype m w end k) = no_one _ m _ w

no_literal_end : (b : Bindings) (stem : Stem) (line : ℕ) (text : List ℕ) (later : List Statement) → ¬ AtLiteralEnd b stem line text [] later
no_literal_end b stem line text later l = by l.tagged l.datatype l.ends l.end l.rest
  where
    by : (tag_is : List ℕ) (datatype : SpelledDatatype) (e : List Lexeme) → IsLiteralEnd [] tag_is datatype e → AtObjectEnd b stem e l.later → ⊥
    by tag_is datatype e (bare s k d) r = no_object_end b stem l.later (subst (λ (z : List Lexeme). AtObjectEnd b stem z l.later) (sym s) r)
    by tag_is datatype e (tagged w d) r = no_one _ e _ w
    by tag_is datatype e (typed m it w i k d) r = no_one _ m _ w

-- where nothing may come, an update has ended or none has begun
pub ended : (b : Bindings) (spot : Spot) (later : List Statement) → Rest b spot [] later → ((spot ≡ spots.Start) ⊎ (spot ≡ spots.Done)) × (later ≡ [])
ended b spots.Start later r = (inl refl, by r)
  where
    by : IsUpdate b [] later → later ≡ []
    by (nothing c s o e f) = f
    by (prologue c s m it o (prefix k j named iri w p i is) u) = absurd (no_one _ k keywords.Prefix w)
    by (prologue c s m it o (base k iri w i is) u) = absurd (no_one _ k keywords.Base w)
    by (last c s op gs o i is) = absurd (no_one _ i.word_ends _ i.is_word)
    by (more c s m k op gs rest o i w u is) = absurd (no_one _ i.word_ends _ i.is_word)
ended b spots.Prefix later (named, iri, m, n, p, i, u) = absurd (no_one _ m named p)
ended b (spots.Named named) later (iri, n, i, u) = absurd (no_one _ n iri i)
ended b spots.Base later (iri, n, i, u) = absurd (no_one _ n iri i)
ended b (spots.Word op line) later (m, w, r) = absurd (no_one _ m _ w)
ended b (spots.Data op) later (m, w, r) = absurd (no_one _ m _ w)
ended b (spots.Group op) later r = absurd (no_groups b op later r)
ended b (spots.Subject op subject) later r = absurd (no_one _ r.ends r.it r.is_verb)
ended b (spots.Verb stem) later r = absurd (no_object b stem later r)
ended b (spots.Text stem line text) later r = absurd (no_literal_end b stem line text later r)
ended b (spots.Hats stem line text) later r = absurd (no_one _ r.ends r.it r.is_name)
ended b (spots.Object stem) later r = absurd (no_object_end b stem later r)
ended b (spots.Semicolon op subject) later (inl r) = absurd (no_one _ r.ends r.it r.is_verb)
ended b (spots.Semicolon op subject) later (inr r) = absurd (no_property_end b op subject later r)
ended b spots.Done later (inl (e, f)) = (inr refl, f)
ended b spots.Done later (inr (m, w, u)) = absurd (no_one _ m _ w)
