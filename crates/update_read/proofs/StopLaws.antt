-- Why a token that isn't taken is refused as it is, and where.
use Rattle.std.proofs.Common.{◌≡◌, ◌≢◌, ◌⊎◌, ℕ, List, [], ◌∷◌, ◌++◌, Some, None, refl, sym, ap, subst, ◌∙◌, append_assoc, inl, inr, ⊎_elim}
use Rattle.std.specs.Prelude.{Option}
use Rattle.std.proofs.lemmas.List.{append-nil}
use Rattle.std.proofs.lemmas.Option.{none-some}
use Rattle.dl_text.specs.Prefixes.{Bindings}
use Rattle.dl_text.specs.declared.kinds.ReadKind.{ReadKind}
use Rattle.dl_text.specs.declared.kinds.ReadKind.TheVariants as kinds
use Rattle.update_read.specs.declared.spots.Spot.{Spot}
use Rattle.update_read.specs.declared.spots.Spot.TheVariants as spots
use Rattle.update_read.specs.declared.spots.Step.{Step}
use Rattle.update_read.specs.declared.spots.Step.TheVariants as steps
use Rattle.update_read.specs.declared.syntax.Operation.{Operation}
use Rattle.update_read.specs.declared.syntax.Operation.TheVariants as operations
use Rattle.update_read.specs.declared.syntax.SpelledName.{SpelledName}
use Rattle.update_read.specs.declared.syntax.SpelledVerb.{SpelledVerb}
use Rattle.update_read.specs.declared.syntax.SpelledObject.{SpelledObject}
use Rattle.update_read.specs.declared.syntax.Stem.{Stem}
use Rattle.update_read.specs.declared.tokens.Keyword.{Keyword}
use Rattle.update_read.specs.declared.tokens.Keyword.TheVariants as keywords
use Rattle.update_read.specs.declared.tokens.Mark.{Mark}
use Rattle.update_read.specs.declared.tokens.Mark.TheVariants as marks
use Rattle.update_read.specs.declared.tokens.Token.{Token}
use Rattle.update_read.specs.declared.tokens.Token.TheVariants as tokens
use Rattle.update_read.specs.Going.{word_kind, kind_in, refused_at, run_of}
use Rattle.update_read.specs.Grammar.{mark, keyword, tag, full_iri, prefix_name, string, name, verb, object, word_of, Statement, IsUpdate, nothing}
use Rattle.update_read.specs.Reading.{start_step, prefix_step, iri_step, base_step, data_step, open_step, close_step, group_step, subject_step, string_step, object_step, behind_object, on_step, mark_step, said_then, text_step, hats_step, behind_semicolon, semicolon_step, done_step, step_of}
use Rattle.update_read.specs.Running.{Run, applied, after, then, runs, start}
use Rattle.update_read.specs.Stopping.{IsFront, MayOperate, MayGroup, EndsWithWord, IsOtherOperation, IsKind, variable, blank_node, other_operation, syntax, IsRefusal, StopsAtToken, StopsAtEnd}
use Rattle.update_read.specs.Tokens.{Lexeme, at, line_in}
use Rattle.update_read.proofs.RunLaws.{runs-append, runs_none, runs_push, IsGoing, going_front, front_goes, stuck, goes_through, ended, update_is}

-- the spot behind a step
abbrev spot_after : Step → Option Spot
spot_after steps.Stuck = None
spot_after (steps.On spot) = Some spot
spot_after (steps.Bind named iri) = Some spots.Start
spot_after (steps.Say stem it spot) = Some spot

some_is : (x y : Run) → (let o : Option Run = Some x in o ≡ Some y) → x ≡ y
some_is x y e = cc

applied_spot : (b : Bindings) (out : List Statement) (step : Step) (r : Run) → applied b out step ≡ Some r → spot_after step ≡ Some r.spot
applied_spot b out steps.Stuck r e = cc
applied_spot b out (steps.On spot) r e = ap (λ (x : Run). Some x.spot) (some_is _ r e)
applied_spot b out (steps.Bind named iri) r e = ap (λ (x : Run). Some x.spot) (some_is _ r e)
applied_spot b out (steps.Say stem it spot) r e = ap (λ (x : Run). Some x.spot) (some_is _ r e)

-- a spot that isn't behind the word of an operation
abbrev IsNoWord : Option Spot → Type 0
IsNoWord o = (op : Operation) (l : ℕ) → ¬ (o ≡ Some (spots.Word op l))

keyword_is : (t : Lexeme) (w : Keyword) → keyword t ≡ Some w → t ≡ at (line_in t) (tokens.Word w)
keyword_is (at n tokens.Variable) w e = cc
keyword_is (at n tokens.Blank) w e = cc
keyword_is (at n (tokens.Sign m)) w e = cc
keyword_is (at n (tokens.Number x)) w e = cc
keyword_is (at n (tokens.Iri x)) w e = cc
keyword_is (at n (tokens.Text x)) w e = cc
keyword_is (at n (tokens.Tag x)) w e = cc
keyword_is (at n (tokens.Prefixed p l)) w e = cc
keyword_is (at n (tokens.Word v)) w e = ap (λ (x : Keyword). at n (tokens.Word x)) (some_is v w e)
  where
    some_is : (x y : Keyword) → (let o : Option Keyword = Some x in o ≡ Some y) → x ≡ y
    some_is x y e = cc

word_is : (op o : Operation) (l n : ℕ) → (let x : Option Spot = Some (spots.Word op l) in x ≡ Some (spots.Word o n)) → (op ≡ o) × (l ≡ n)
word_is op o l n e = (cc, cc)

-- only the words of operations lead behind them
start_word : (t : Lexeme) (o : Option Keyword) (op : Operation) (l : ℕ) → keyword t ≡ o → spot_after (start_step (line_in t) o) ≡ Some (spots.Word op l) → t ≡ at l (tokens.Word (word_of op))
start_word t (Some keywords.Prefix) op l e f = cc
start_word t (Some keywords.Base) op l e f = cc
start_word t (Some keywords.Insert) op l e f = let h = word_is operations.Insert op (line_in t) l f in keyword_is t keywords.Insert e ∙ ap (λ (n : ℕ). at n (tokens.Word keywords.Insert)) h.1 ∙ ap (λ (x : Operation). at l (tokens.Word (word_of x))) h.0
start_word t (Some keywords.Delete) op l e f = let h = word_is operations.Delete op (line_in t) l f in keyword_is t keywords.Delete e ∙ ap (λ (n : ℕ). at n (tokens.Word keywords.Delete)) h.1 ∙ ap (λ (x : Operation). at l (tokens.Word (word_of x))) h.0
start_word t (Some keywords.Data) op l e f = cc
start_word t (Some keywords.Graph) op l e f = cc
start_word t (Some keywords.True) op l e f = cc
start_word t (Some keywords.False) op l e f = cc
start_word t (Some keywords.A) op l e f = cc
start_word t (Some keywords.Other) op l e f = cc
start_word t None op l e f = cc

no_prefix : (o : Option (List ℕ)) → IsNoWord (spot_after (prefix_step o))
no_prefix (Some x) op l e = cc
no_prefix None op l e = cc

no_iri : (n : List ℕ) (o : Option (List ℕ)) → IsNoWord (spot_after (iri_step n o))
no_iri n (Some x) op l e = cc
no_iri n None op l e = cc

no_base : (o : Option (List ℕ)) → IsNoWord (spot_after (base_step o))
no_base (Some x) op l e = cc
no_base None op l e = cc

no_data : (p : Operation) (o : Option Keyword) → IsNoWord (spot_after (data_step p o))
no_data p (Some keywords.Prefix) op l e = cc
no_data p (Some keywords.Base) op l e = cc
no_data p (Some keywords.Insert) op l e = cc
no_data p (Some keywords.Delete) op l e = cc
no_data p (Some keywords.Data) op l e = cc
no_data p (Some keywords.Graph) op l e = cc
no_data p (Some keywords.True) op l e = cc
no_data p (Some keywords.False) op l e = cc
no_data p (Some keywords.A) op l e = cc
no_data p (Some keywords.Other) op l e = cc
no_data p None op l e = cc

no_open : (p : Operation) (o : Option Mark) → IsNoWord (spot_after (open_step p o))
no_open p (Some marks.Dot) op l e = cc
no_open p (Some marks.Comma) op l e = cc
no_open p (Some marks.Semicolon) op l e = cc
no_open p (Some marks.OpenBrace) op l e = cc
no_open p (Some marks.CloseBrace) op l e = cc
no_open p (Some marks.Hats) op l e = cc
no_open p (Some marks.Open) op l e = cc
no_open p (Some marks.Close) op l e = cc
no_open p None op l e = cc

no_close : (o : Option Mark) → IsNoWord (spot_after (close_step o))
no_close (Some marks.Dot) op l e = cc
no_close (Some marks.Comma) op l e = cc
no_close (Some marks.Semicolon) op l e = cc
no_close (Some marks.OpenBrace) op l e = cc
no_close (Some marks.CloseBrace) op l e = cc
no_close (Some marks.Hats) op l e = cc
no_close (Some marks.Open) op l e = cc
no_close (Some marks.Close) op l e = cc
no_close None op l e = cc

no_subject : (p : Operation) (s : SpelledName) (o : Option SpelledVerb) → IsNoWord (spot_after (subject_step p s o))
no_subject p s (Some x) op l e = cc
no_subject p s None op l e = cc

no_string : (m : Stem) (o : Option (ℕ × List ℕ)) → IsNoWord (spot_after (string_step m o))
no_string m (Some x) op l e = cc
no_string m None op l e = cc

no_mark : (m : Stem) (o : Option Mark) → IsNoWord (spot_after (mark_step m o))
no_mark m (Some marks.Dot) op l e = cc
no_mark m (Some marks.Comma) op l e = cc
no_mark m (Some marks.Semicolon) op l e = cc
no_mark m (Some marks.OpenBrace) op l e = cc
no_mark m (Some marks.CloseBrace) op l e = cc
no_mark m (Some marks.Hats) op l e = cc
no_mark m (Some marks.Open) op l e = cc
no_mark m (Some marks.Close) op l e = cc
no_mark m None op l e = cc

no_hats : (m : Stem) (n : ℕ) (x : List ℕ) (o : Option SpelledName) → IsNoWord (spot_after (hats_step m n x o))
no_hats m n x (Some y) op l e = cc
no_hats m n x None op l e = cc

no_behind : (p : Operation) (s : SpelledName) (o : Option Mark) → IsNoWord (spot_after (behind_semicolon p s o))
no_behind p s (Some marks.Dot) op l e = cc
no_behind p s (Some marks.Comma) op l e = cc
no_behind p s (Some marks.Semicolon) op l e = cc
no_behind p s (Some marks.OpenBrace) op l e = cc
no_behind p s (Some marks.CloseBrace) op l e = cc
no_behind p s (Some marks.Hats) op l e = cc
no_behind p s (Some marks.Open) op l e = cc
no_behind p s (Some marks.Close) op l e = cc
no_behind p s None op l e = cc

no_done : (o : Option Mark) → IsNoWord (spot_after (done_step o))
no_done (Some marks.Dot) op l e = cc
no_done (Some marks.Comma) op l e = cc
no_done (Some marks.Semicolon) op l e = cc
no_done (Some marks.OpenBrace) op l e = cc
no_done (Some marks.CloseBrace) op l e = cc
no_done (Some marks.Hats) op l e = cc
no_done (Some marks.Open) op l e = cc
no_done (Some marks.Close) op l e = cc
no_done None op l e = cc

no_sign : (m : Stem) (n : ℕ) (x : List ℕ) (o : Option Mark) → IsNoWord (spot_after (text_step m n x None o))
no_sign m n x (Some marks.Dot) op l e = cc
no_sign m n x (Some marks.Comma) op l e = cc
no_sign m n x (Some marks.Semicolon) op l e = cc
no_sign m n x (Some marks.OpenBrace) op l e = cc
no_sign m n x (Some marks.CloseBrace) op l e = cc
no_sign m n x (Some marks.Hats) op l e = cc
no_sign m n x (Some marks.Open) op l e = cc
no_sign m n x (Some marks.Close) op l e = cc
no_sign m n x None op l e = cc

no_group_word : (p : Operation) (o : Option SpelledName) (m : Option Mark) → IsNoWord (spot_after (group_step p o m))
no_group_word p (Some s) m op l e = cc
no_group_word p None m op l e = no_close m op l e

no_object_word : (m : Stem) (o : Option SpelledObject) (x : Option (ℕ × List ℕ)) → IsNoWord (spot_after (object_step m o x))
no_object_word m (Some s) x op l e = cc
no_object_word m None x op l e = no_string m x op l e

no_text_word : (m : Stem) (n : ℕ) (x : List ℕ) (o : Option (List ℕ)) (k : Option Mark) → IsNoWord (spot_after (text_step m n x o k))
no_text_word m n x (Some s) k op l e = cc
no_text_word m n x None k op l e = no_sign m n x k op l e

no_semicolon_word : (p : Operation) (s : SpelledName) (o : Option SpelledVerb) (k : Option Mark) → IsNoWord (spot_after (semicolon_step p s o k))
no_semicolon_word p s (Some v) k op l e = cc
no_semicolon_word p s None k op l e = no_behind p s k op l e

-- what leads behind the word of an operation is that word
from_word : (spot : Spot) (t : Lexeme) (op : Operation) (l : ℕ) → spot_after (step_of spot t) ≡ Some (spots.Word op l) → t ≡ at l (tokens.Word (word_of op))
from_word spots.Start t op l e = start_word t (keyword t) op l refl e
from_word spots.Prefix t op l e = absurd (no_prefix (prefix_name t) op l e)
from_word (spots.Named named) t op l e = absurd (no_iri named (full_iri t) op l e)
from_word spots.Base t op l e = absurd (no_base (full_iri t) op l e)
from_word (spots.Word p n) t op l e = absurd (no_data p (keyword t) op l e)
from_word (spots.Data p) t op l e = absurd (no_open p (mark t) op l e)
from_word (spots.Group p) t op l e = absurd (no_group_word p (name t) (mark t) op l e)
from_word (spots.Subject p s) t op l e = absurd (no_subject p s (verb t) op l e)
from_word (spots.Verb m) t op l e = absurd (no_object_word m (object t) (string t) op l e)
from_word (spots.Text m n x) t op l e = absurd (no_text_word m n x (tag t) (mark t) op l e)
from_word (spots.Hats m n x) t op l e = absurd (no_hats m n x (name t) op l e)
from_word (spots.Object m) t op l e = absurd (no_mark m (mark t) op l e)
from_word (spots.Semicolon p s) t op l e = absurd (no_semicolon_word p s (verb t) (mark t) op l e)
from_word spots.Done t op l e = absurd (no_done (mark t) op l e)

-- the word of an operation leads behind it
to_word : (spot s : Spot) (op : Operation) (l : ℕ) → spot_after (step_of spot (at l (tokens.Word (word_of op)))) ≡ Some s → s ≡ spots.Word op l
to_word spots.Start s operations.Insert l e = cc
to_word spots.Start s operations.Delete l e = cc
to_word spots.Prefix s operations.Insert l e = cc
to_word spots.Prefix s operations.Delete l e = cc
to_word (spots.Named x) s operations.Insert l e = cc
to_word (spots.Named x) s operations.Delete l e = cc
to_word spots.Base s operations.Insert l e = cc
to_word spots.Base s operations.Delete l e = cc
to_word (spots.Word o k) s operations.Insert l e = cc
to_word (spots.Word o k) s operations.Delete l e = cc
to_word (spots.Data o) s operations.Insert l e = cc
to_word (spots.Data o) s operations.Delete l e = cc
to_word (spots.Group o) s operations.Insert l e = cc
to_word (spots.Group o) s operations.Delete l e = cc
to_word (spots.Subject o n) s operations.Insert l e = cc
to_word (spots.Subject o n) s operations.Delete l e = cc
to_word (spots.Verb m) s operations.Insert l e = cc
to_word (spots.Verb m) s operations.Delete l e = cc
to_word (spots.Text m k x) s operations.Insert l e = cc
to_word (spots.Text m k x) s operations.Delete l e = cc
to_word (spots.Hats m k x) s operations.Insert l e = cc
to_word (spots.Hats m k x) s operations.Delete l e = cc
to_word (spots.Object m) s operations.Insert l e = cc
to_word (spots.Object m) s operations.Delete l e = cc
to_word (spots.Semicolon o n) s operations.Insert l e = cc
to_word (spots.Semicolon o n) s operations.Delete l e = cc
to_word spots.Done s operations.Insert l e = cc
to_word spots.Done s operations.Delete l e = cc

-- the last of the tokens that were gone through
last_of : (ts : List Lexeme) (r e : Run) → runs (Some r) ts ≡ Some e → ((ts ≡ []) × (r ≡ e)) ⊎ ((before : List Lexeme) × (t : Lexeme) × (p : Run) × (ts ≡ before ++ t ∷ []) × (runs (Some r) before ≡ Some p) × (after p t ≡ Some e))
last_of [] r e h = inl (refl, some_is r e h)
last_of (t ∷ ts) r e h = by (after r t) refl h (λ (m : Run) (q : runs (Some m) ts ≡ Some e). last_of ts m e q)
  where
    by : (o : Option Run) → after r t ≡ o → runs o ts ≡ Some e
        → ((m : Run) → runs (Some m) ts ≡ Some e → ((ts ≡ []) × (m ≡ e)) ⊎ ((before : List Lexeme) × (u : Lexeme) × (p : Run) × (ts ≡ before ++ u ∷ []) × (runs (Some m) before ≡ Some p) × (after p u ≡ Some e)))
        → ((t ∷ ts ≡ []) × (r ≡ e)) ⊎ ((before : List Lexeme) × (u : Lexeme) × (p : Run) × (t ∷ ts ≡ before ++ u ∷ []) × (runs (Some r) before ≡ Some p) × (after p u ≡ Some e))
    by None x q k = absurd (none-some e (sym (runs_none ts) ∙ q))
    by (Some m) x q k = ⊎_elim
        (λ (n, same). inr ([], t, r, ap (λ (z : List Lexeme). t ∷ z) n, refl, x ∙ ap (λ (z : Run). Some z) same))
        (λ (before, u, p, is, run, step). inr (t ∷ before, u, p, ap (λ (z : List Lexeme). t ∷ z) is, ap (λ (z : Option Run). runs z before) x ∙ run, step))
        (k m q)

-- behind the word of an operation
pub ends_with : (ts : List Lexeme) (op : Operation) (l : ℕ) (b : Bindings) (out : List Statement) → IsGoing (run_of (spots.Word op l) b out) ts → EndsWithWord ts l
ends_with ts op l b out g = ⊎_elim
    (λ (n, same). absurd (no_start op l (ap (λ (x : Run). x.spot) same)))
    (λ (before, u, p, is, run, step).
    let word = from_word p.spot u op l (applied_spot p.bindings p.out (step_of p.spot u) (run_of (spots.Word op l) b out) step) in
    (before, op, is ∙ ap (λ (z : Lexeme). before ++ z ∷ []) word))
    (last_of ts start (run_of (spots.Word op l) b out) g)
  where
    no_start : (op : Operation) (l : ℕ) → ¬ (spots.Start ≡ spots.Word op l)
    no_start op l e = cc

-- and nowhere else
pub word_spot : (ts : List Lexeme) (run : Run) (l : ℕ) → IsGoing run ts → EndsWithWord ts l → (op : Operation) × (run.spot ≡ spots.Word op l)
word_spot ts run l g (before, op, is) = (op, by (runs (Some start) before) refl)
  where
    t : Lexeme
    t = at l (tokens.Word (word_of op))

    all : runs (runs (Some start) before) (at l (tokens.Word (word_of op)) ∷ []) ≡ Some run
    all = sym (runs-append (Some start) before (at l (tokens.Word (word_of op)) ∷ [])) ∙ ap (λ (z : List Lexeme). runs (Some start) z) (sym is) ∙ g

    by : (o : Option Run) → runs (Some start) before ≡ o → run.spot ≡ spots.Word op l
    by None e = absurd (none-some run (ap (λ (z : Option Run). runs z (at l (tokens.Word (word_of op)) ∷ [])) (sym e) ∙ all))
    by (Some p) e =
        to_word p.spot run.spot op l (applied_spot p.bindings p.out (step_of p.spot (at l (tokens.Word (word_of op)))) run (ap (λ (z : Option Run). runs z (at l (tokens.Word (word_of op)) ∷ [])) (sym e) ∙ all))

module _ (b : Bindings) (out : List Statement) (ts : List Lexeme) where
  -- an operation may stand only where one begins
  operates : IsGoing (run_of spots.Start b out) ts → MayOperate ts
  operates g = going_front (run_of (spots.Word operations.Insert 1) b out) (ts ++ at 1 (tokens.Word keywords.Insert) ∷ []) (runs_push (Some start) ts (run_of spots.Start b out) (at 1 (tokens.Word keywords.Insert)) g)

  abbrev IsNotStart : Spot → Type 0
  IsNotStart spot = after (run_of spot b out) (at 1 (tokens.Word keywords.Insert)) ≡ None

  no_operation : (spot : Spot) → IsNotStart spot → IsGoing (run_of spot b out) ts → ¬ MayOperate ts
  no_operation spot n g = stuck (run_of spot b out) ts (at 1 (tokens.Word keywords.Insert)) g n

  -- a group may stand only where one begins
  abbrev a_group : List Lexeme
  a_group = at 1 (tokens.Iri []) ∷ at 1 (tokens.Word keywords.A) ∷ []

  run_group : (spot : Spot) → IsGoing (run_of spot b out) ts → runs (Some start) (ts ++ a_group) ≡ runs (Some (run_of spot b out)) a_group
  run_group spot g = runs-append (Some start) ts a_group ∙ ap (λ (z : Option Run). runs z a_group) g

  groups : (op : Operation) → IsGoing (run_of (spots.Group op) b out) ts → MayGroup ts
  groups op g = going_front _ (ts ++ a_group) (run_group (spots.Group op) g)

  no_group : (spot : Spot) → runs (Some (run_of spot b out)) a_group ≡ None → IsGoing (run_of spot b out) ts → ¬ MayGroup ts
  no_group spot n g f = let on = front_goes (ts ++ a_group) f in none-some on.0 (sym n ∙ sym (run_group spot g) ∙ on.1)

  word_same : (x y : Keyword) → tokens.Word x ≡ tokens.Word y → x ≡ y
  word_same x y e = cc

  no_variable : (w : Keyword) → ¬ (tokens.Word w ≡ tokens.Variable)
  no_variable w e = cc

  no_blank : (w : Keyword) → ¬ ((tokens.Word w ≡ tokens.Blank) ⊎ (tokens.Word w ≡ tokens.Sign marks.Open))
  no_blank w (inl e) = cc
  no_blank w (inr e) = cc

  -- a word where neither an operation nor a group may stand
  plain_word : (spot : Spot) (w : Keyword) → IsNotStart spot → runs (Some (run_of spot b out)) a_group ≡ None → IsGoing (run_of spot b out) ts → IsKind ts (tokens.Word w) kinds.Syntax
  plain_word spot w n k g = syntax (no_variable w) (no_blank w) (λ o. ⊎_elim (λ (x, f). no_operation spot n g f) (λ (x, f). no_group spot k g f) o) refl

  -- a word where a group may stand, but no GRAPH
  group_word : (op : Operation) (w : Keyword) → w ≢ keywords.Graph → IsGoing (run_of (spots.Group op) b out) ts → IsKind ts (tokens.Word w) kinds.Syntax
  group_word op w n g =
      syntax (no_variable w) (no_blank w) (λ o. ⊎_elim (λ (x, f). no_operation (spots.Group op) refl g f) (λ (x, f). n (word_same w keywords.Graph x)) o) refl

  word_refused : (spot : Spot) (w : Keyword) → IsGoing (run_of spot b out) ts → IsKind ts (tokens.Word w) (word_kind spot w)
  word_refused spots.Start w g = other_operation (inl ((w, refl), operates g)) refl
  word_refused (spots.Group op) keywords.Prefix g = group_word op keywords.Prefix (λ e. cc) g
  word_refused (spots.Group op) keywords.Base g = group_word op keywords.Base (λ e. cc) g
  word_refused (spots.Group op) keywords.Insert g = group_word op keywords.Insert (λ e. cc) g
  word_refused (spots.Group op) keywords.Delete g = group_word op keywords.Delete (λ e. cc) g
  word_refused (spots.Group op) keywords.Data g = group_word op keywords.Data (λ e. cc) g
  word_refused (spots.Group op) keywords.Graph g = other_operation (inr (refl, groups op g)) refl
  word_refused (spots.Group op) keywords.True g = group_word op keywords.True (λ e. cc) g
  word_refused (spots.Group op) keywords.False g = group_word op keywords.False (λ e. cc) g
  word_refused (spots.Group op) keywords.A g = group_word op keywords.A (λ e. cc) g
  word_refused (spots.Group op) keywords.Other g = group_word op keywords.Other (λ e. cc) g
  word_refused spots.Prefix w g = plain_word spots.Prefix w refl refl g
  word_refused (spots.Named x) w g = plain_word (spots.Named x) w refl refl g
  word_refused spots.Base w g = plain_word spots.Base w refl refl g
  word_refused (spots.Word o l) w g = plain_word (spots.Word o l) w refl refl g
  word_refused (spots.Data o) w g = plain_word (spots.Data o) w refl refl g
  word_refused (spots.Subject o s) w g = plain_word (spots.Subject o s) w refl refl g
  word_refused (spots.Verb m) w g = plain_word (spots.Verb m) w refl refl g
  word_refused (spots.Text m l x) w g = plain_word (spots.Text m l x) w refl refl g
  word_refused (spots.Hats m l x) w g = plain_word (spots.Hats m l x) w refl refl g
  word_refused (spots.Object m) w g = plain_word (spots.Object m) w refl refl g
  word_refused (spots.Semicolon o s) w g = plain_word (spots.Semicolon o s) w refl refl g
  word_refused spots.Done w g = plain_word spots.Done w refl refl g

  -- a token that is no word, no variable and no blank node
  plain : (token : Token) → ¬ (token ≡ tokens.Variable) → ¬ ((token ≡ tokens.Blank) ⊎ (token ≡ tokens.Sign marks.Open)) → ((w : Keyword) → ¬ (token ≡ tokens.Word w)) → IsKind ts token kinds.Syntax
  plain token n k w = syntax n k (λ o. ⊎_elim (λ (x, f). w x.0 x.1) (λ (x, f). w keywords.Graph x) o) refl

  pub kind_is : (spot : Spot) (token : Token) → IsGoing (run_of spot b out) ts → IsKind ts token (kind_in spot token)
  kind_is spot tokens.Variable g = variable refl refl
  kind_is spot tokens.Blank g = blank_node (inl refl) refl
  kind_is spot (tokens.Sign marks.Open) g = blank_node (inr refl) refl
  kind_is spot (tokens.Word w) g = word_refused spot w g
  kind_is spot (tokens.Sign marks.Dot) g = plain (tokens.Sign marks.Dot) (λ e. cc) (λ o. ⊎_elim (λ e. cc) (λ e. cc) o) (λ w e. cc)
  kind_is spot (tokens.Sign marks.Comma) g = plain (tokens.Sign marks.Comma) (λ e. cc) (λ o. ⊎_elim (λ e. cc) (λ e. cc) o) (λ w e. cc)
  kind_is spot (tokens.Sign marks.Semicolon) g = plain (tokens.Sign marks.Semicolon) (λ e. cc) (λ o. ⊎_elim (λ e. cc) (λ e. cc) o) (λ w e. cc)
  kind_is spot (tokens.Sign marks.OpenBrace) g = plain (tokens.Sign marks.OpenBrace) (λ e. cc) (λ o. ⊎_elim (λ e. cc) (λ e. cc) o) (λ w e. cc)
  kind_is spot (tokens.Sign marks.CloseBrace) g = plain (tokens.Sign marks.CloseBrace) (λ e. cc) (λ o. ⊎_elim (λ e. cc) (λ e. cc) o) (λ w e. cc)
  kind_is spot (tokens.Sign marks.Hats) g = plain (tokens.Sign marks.Hats) (λ e. cc) (λ o. ⊎_elim (λ e. cc) (λ e. cc) o) (λ w e. cc)
  kind_is spot (tokens.Sign marks.Close) g = plain (tokens.Sign marks.Close) (λ e. cc) (λ o. ⊎_elim (λ e. cc) (λ e. cc) o) (λ w e. cc)
  kind_is spot (tokens.Number x) g = plain (tokens.Number x) (λ e. cc) (λ o. ⊎_elim (λ e. cc) (λ e. cc) o) (λ w e. cc)
  kind_is spot (tokens.Iri x) g = plain (tokens.Iri x) (λ e. cc) (λ o. ⊎_elim (λ e. cc) (λ e. cc) o) (λ w e. cc)
  kind_is spot (tokens.Text x) g = plain (tokens.Text x) (λ e. cc) (λ o. ⊎_elim (λ e. cc) (λ e. cc) o) (λ w e. cc)
  kind_is spot (tokens.Tag x) g = plain (tokens.Tag x) (λ e. cc) (λ o. ⊎_elim (λ e. cc) (λ e. cc) o) (λ w e. cc)
  kind_is spot (tokens.Prefixed p l) g = plain (tokens.Prefixed p l) (λ e. cc) (λ o. ⊎_elim (λ e. cc) (λ e. cc) o) (λ w e. cc)

  -- not behind the word of an operation
  no_word : (spot : Spot) → ((op : Operation) (l : ℕ) → ¬ (spot ≡ spots.Word op l)) → IsGoing (run_of spot b out) ts → (l : ℕ) → ¬ EndsWithWord ts l
  no_word spot n g l e = let w = word_spot ts (run_of spot b out) l g e in n w.0 l w.1

  pub refusal : (spot : Spot) (here : ℕ) (Is : ReadKind → Type 0) (kind : ReadKind) → IsGoing (run_of spot b out) ts → Is kind → IsRefusal ts here Is (refused_at spot here kind).0 (refused_at spot here kind).1
  refusal (spots.Word op l) here Is kind g k = inl (ends_with ts op l b out g, refl)
  refusal spots.Start here Is kind g k = inr (no_word spots.Start (λ op n e. cc) g, refl, k)
  refusal spots.Prefix here Is kind g k = inr (no_word spots.Prefix (λ op n e. cc) g, refl, k)
  refusal (spots.Named x) here Is kind g k = inr (no_word (spots.Named x) (λ op n e. cc) g, refl, k)
  refusal spots.Base here Is kind g k = inr (no_word spots.Base (λ op n e. cc) g, refl, k)
  refusal (spots.Data o) here Is kind g k = inr (no_word (spots.Data o) (λ op n e. cc) g, refl, k)
  refusal (spots.Group o) here Is kind g k = inr (no_word (spots.Group o) (λ op n e. cc) g, refl, k)
  refusal (spots.Subject o s) here Is kind g k = inr (no_word (spots.Subject o s) (λ op n e. cc) g, refl, k)
  refusal (spots.Verb m) here Is kind g k = inr (no_word (spots.Verb m) (λ op n e. cc) g, refl, k)
  refusal (spots.Text m l x) here Is kind g k = inr (no_word (spots.Text m l x) (λ op n e. cc) g, refl, k)
  refusal (spots.Hats m l x) here Is kind g k = inr (no_word (spots.Hats m l x) (λ op n e. cc) g, refl, k)
  refusal (spots.Object m) here Is kind g k = inr (no_word (spots.Object m) (λ op n e. cc) g, refl, k)
  refusal (spots.Semicolon o s) here Is kind g k = inr (no_word (spots.Semicolon o s) (λ op n e. cc) g, refl, k)
  refusal spots.Done here Is kind g k = inr (no_word spots.Done (λ op n e. cc) g, refl, k)

  -- the token with which no update goes on
  pub stops_here : (spot : Spot) (line : ℕ) (token : Token) → IsGoing (run_of spot b out) ts → step_of spot (at line token) ≡ steps.Stuck
      → StopsAtToken (ts ++ at line token ∷ []) (refused_at spot line (kind_in spot token)).0 (refused_at spot line (kind_in spot token)).1
  stops_here spot line token g e = record {
    front = ts;
    here = line;
    token = token;
    rest = [];
    is = refl;
    good = going_front (run_of spot b out) ts g;
    stuck = stuck (run_of spot b out) ts (at line token) g (ap (applied b out) e);
    refusal = refusal spot line (IsKind ts token) (kind_in spot token) g (kind_is spot token g);
  }

  same_run : (o : Option Run) (r s : Run) → o ≡ Some r → o ≡ Some s → r ≡ s
  same_run o r s e f = cc

  -- the end of tokens that are no whole update
  pub stops_at_end : (spot : Spot) (end : ℕ) → IsGoing (run_of spot b out) ts → spot ≢ spots.Start → spot ≢ spots.Done
      → StopsAtEnd ts end (refused_at spot end kinds.Syntax).0 (refused_at spot end kinds.Syntax).1
  stops_at_end spot end g n m = record {
    good = going_front (run_of spot b out) ts g;
    short = short;
    refusal = refusal spot end (λ k. k ≡ kinds.Syntax) kinds.Syntax g refl;
  }
    where
      short : (all : List Statement) → ¬ IsUpdate [] ts all
      short all u =
          let on = goes_through ts [] start all (record { later = all; rest = subst (λ (z : List Lexeme). IsUpdate [] z all) (sym (append-nil ts)) u; is = refl }) in
          let same = same_run (runs (Some start) ts) (run_of spot b out) on.0 g on.1 in
          let e = ended on.0.bindings on.0.spot on.2.later on.2.rest in
          ⊎_elim (λ x. n (ap (λ (r : Run). r.spot) same ∙ x)) (λ x. m (ap (λ (r : Run). r.spot) same ∙ x)) e.0

  -- the end of a whole update
  pub whole_start : IsGoing (run_of spots.Start b out) ts → IsUpdate [] ts out
  whole_start g =
      subst (λ (z : List Statement). IsUpdate [] ts z) (append-nil out)
      (subst (λ (z : List Lexeme). IsUpdate [] z (out ++ [])) (append-nil ts) (update_is (run_of spots.Start b out) ts [] [] g (nothing b [] [] refl refl)))

  pub whole_done : IsGoing (run_of spots.Done b out) ts → IsUpdate [] ts out
  whole_done g =
      subst (λ (z : List Statement). IsUpdate [] ts z) (append-nil out)
      (subst (λ (z : List Lexeme). IsUpdate [] z (out ++ [])) (append-nil ts) (update_is (run_of spots.Done b out) ts [] [] g (inl (refl, refl))))
