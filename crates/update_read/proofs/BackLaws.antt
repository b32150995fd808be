-- What the step of a token leads to, with the token in front, may come behind the spot.
use Rattle.std.proofs.Common.{◌≡◌, ◌≢◌, ◌⊎◌, ℕ, List, [], ◌∷◌, ◌++◌, map, Some, None, refl, sym, ap, subst, ◌∙◌, append_assoc, inl, inr, ⊎_elim}
use Rattle.std.specs.Prelude.{Option}
use Rattle.std.specs.List.{flat_map}
use Rattle.std.proofs.lemmas.List.{append-nil}
use Rattle.dl_text.specs.Going.{Goes, stop, go}
use Rattle.dl_text.specs.Prefixes.{Bindings, with_prefix}
use Rattle.update_read.specs.declared.spots.Spot.{Spot}
use Rattle.update_read.specs.declared.spots.Spot.TheVariants as spots
use Rattle.update_read.specs.declared.spots.Step.{Step}
use Rattle.update_read.specs.declared.spots.Step.TheVariants as steps
use Rattle.update_read.specs.declared.syntax.Operation.{Operation}
use Rattle.update_read.specs.declared.syntax.Operation.TheVariants as operations
use Rattle.update_read.specs.declared.syntax.SpelledName.{SpelledName}
use Rattle.update_read.specs.declared.syntax.SpelledVerb.{SpelledVerb}
use Rattle.update_read.specs.declared.syntax.SpelledObject.{SpelledObject}
use Rattle.update_read.specs.declared.syntax.SpelledObject.TheVariants as objects
use Rattle.update_read.specs.declared.syntax.SpelledDatatype.{SpelledDatatype}
use Rattle.update_read.specs.declared.syntax.SpelledDatatype.TheVariants as datatypes
use Rattle.update_read.specs.declared.syntax.Stem.{Stem}
use Rattle.update_read.specs.declared.tokens.Keyword.{Keyword}
use Rattle.update_read.specs.declared.tokens.Keyword.TheVariants as keywords
use Rattle.update_read.specs.declared.tokens.Mark.{Mark}
use Rattle.update_read.specs.declared.tokens.Mark.TheVariants as marks
use Rattle.update_read.specs.Grammar.{mark, keyword, tag, full_iri, prefix_name, string, name, verb, object, One, IsLiteralEnd, bare, tagged, typed, IsObject, single, literal, IsNextObject, Property, IsProperty, IsNextProperty, empty, one, Group, IsGroup, IsNextGroup, IsTriples, none, some, word_of, IsOperation, IsPrologueLine, prefix, base, bound, Statement, say, property_says, group_says, operation_says, IsUpdate, nothing, prologue, last, more}
use Rattle.update_read.specs.Tokens.{Lexeme, line_in}
use Rattle.update_read.specs.Reading.{start_step, prefix_step, iri_step, base_step, data_step, open_step, close_step, group_step, stem_of, subject_step, string_step, object_step, behind_object, on_step, mark_step, said_then, text_step, hats_step, behind_semicolon, semicolon_step, done_step, step_of}
use Rattle.update_read.proofs.Rests.{stated, AtEnd, AtClose, AtGroupEnd, AtGroups, AtPropertyEnd, AtObjectEnd, AtObject, AtVerb, AtLiteralEnd, AtDatatype, AtBrace, Rest, Moves}
use Rattle.update_read.proofs.ViewLaws.{one_is, no_one, mark_no_name, mark_no_verb, mark_no_tag, string_no_object}

some_is : (x y : Spot) → (let o : Option Spot = Some x in o ≡ Some y) → x ≡ y
some_is x y e = cc

module _ (b : Bindings) (t : Lexeme) (n : List Lexeme) where
  -- the token in front is x
  front : {X : Type 0} (view : Lexeme → Option X) (x : X) → view t ≡ Some x → One view (t ∷ n) x n
  front view x e = (t, refl, e)

  close_back : (out : List Statement) → mark t ≡ Some marks.CloseBrace → AtEnd b n out → AtClose b (t ∷ n) out
  close_back out e r = (n, front mark marks.CloseBrace e, r)

  -- the brace behind a group
  group_closed : (op : Operation) (out : List Statement) → mark t ≡ Some marks.CloseBrace → AtEnd b n out → AtGroupEnd b op (t ∷ n) out
  group_closed op out e r = record { groups = []; groups_end = t ∷ n; dot_ends = t ∷ n; later = out; goes = stop (t ∷ n); dot = inl refl; close = close_back out e r; is = refl }

  -- a dot behind a group
  group_dotted : (op : Operation) (out : List Statement) → mark t ≡ Some marks.Dot → AtGroups b op n out → AtGroupEnd b op (t ∷ n) out
  group_dotted op out e g = by g.groups g.ends g.triples g.close g.is
    where
      by : (gs : List Group) (m : List Lexeme) → IsTriples n gs m → AtClose b m g.later → out ≡ operation_says b op gs ++ g.later → AtGroupEnd b op (t ∷ n) out
      by gs m (none s k) c is = record {
        groups = [];
        groups_end = t ∷ n;
        dot_ends = m;
        later = g.later;
        goes = stop (t ∷ n);
        dot = inr (t, ap (λ (z : List Lexeme). t ∷ z) s, e);
        close = c;
        is = is ∙ ap (λ (z : List Group). operation_says b op z ++ g.later) k;
      }
      by gs m (some j k first rest i r d is_gs) c is = record {
        groups = first ∷ rest;
        groups_end = k;
        dot_ends = m;
        later = g.later;
        goes = go (t ∷ n) j k first rest (n, front mark marks.Dot e, i) r;
        dot = d;
        close = c;
        is = is ∙ ap (λ (z : List Group). operation_says b op z ++ g.later) is_gs;
      }

  -- what ends a group ends a verb's objects
  property_ended : (op : Operation) (subject : SpelledName) (out : List Statement) → AtGroupEnd b op (t ∷ n) out → AtPropertyEnd b op subject (t ∷ n) out
  property_ended op subject out g = record { properties = []; ends = t ∷ n; later = out; goes = stop (t ∷ n); rest = g; is = refl }

  -- the property that a verb begins
  is_property : (op : Operation) (subject : SpelledName) (s : List Lexeme) (out : List Statement) → (v : AtVerb b op subject s out)
      → IsProperty s (record { verb = v.it; objects = v.rest.it ∷ v.rest.rest.more }) v.rest.rest.ends
  is_property op subject s out v = record {
    verb_ends = v.ends;
    first_ends = v.rest.ends;
    first = v.rest.it;
    more = v.rest.rest.more;
    is_verb = v.is_verb;
    is_first = v.rest.object;
    are_more = v.rest.rest.goes;
    objects_are = refl;
  }

  -- the triples of a verb and of what comes behind it
  verb_says : (op : Operation) (subject : SpelledName) (s : List Lexeme) (out : List Statement) → (v : AtVerb b op subject s out)
      → out ≡ property_says (say b op subject) (record { verb = v.it; objects = v.rest.it ∷ v.rest.rest.more }) ++ v.rest.rest.later
  verb_says op subject s out v = v.rest.is ∙ ap (λ (z : List Statement). stated b (stem_of op subject v.it) v.rest.it ∷ z) v.rest.rest.is

  -- a semicolon behind a verb's objects
  property_more : (op : Operation) (subject : SpelledName) (out : List Statement) → mark t ≡ Some marks.Semicolon → AtVerb b op subject n out ⊎ AtPropertyEnd b op subject n out → AtPropertyEnd b op subject (t ∷ n) out
  property_more op subject out e (inl v) =
      let p : Property = record { verb = v.it; objects = v.rest.it ∷ v.rest.rest.more } in
      let end = v.rest.rest.rest in
      let saying = property_says (say b op subject) in record {
        properties = (p ∷ []) ∷ end.properties;
        ends = end.ends;
        later = end.later;
        goes = go (t ∷ n) v.rest.rest.ends end.ends (p ∷ []) end.properties (one n p (front mark marks.Semicolon e) (is_property op subject n out v) refl) end.goes;
        rest = end.rest;
        is = verb_says op subject n out v ∙ ap (λ (z : List Statement). saying p ++ z) end.is ∙ sym (append_assoc (saying p) (flat_map saying (flat_map (λ (qs : List Property). qs) end.properties)) end.later);
      }
  property_more op subject out e (inr p) = record {
    properties = [] ∷ p.properties;
    ends = p.ends;
    later = p.later;
    goes = go (t ∷ n) n p.ends [] p.properties (empty (front mark marks.Semicolon e) refl) p.goes;
    rest = p.rest;
    is = p.is;
  }

  object_ended : (stem : Stem) (out : List Statement) → AtPropertyEnd b stem.operation stem.subject (t ∷ n) out → AtObjectEnd b stem (t ∷ n) out
  object_ended stem out p = record { more = []; ends = t ∷ n; later = out; goes = stop (t ∷ n); rest = p; is = refl }

  -- a comma behind an object
  object_more : (stem : Stem) (out : List Statement) → mark t ≡ Some marks.Comma → AtObject b stem n out → AtObjectEnd b stem (t ∷ n) out
  object_more stem out e o = record {
    more = o.it ∷ o.rest.more;
    ends = o.rest.ends;
    later = o.rest.later;
    goes = go (t ∷ n) o.ends o.rest.ends o.it o.rest.more (n, front mark marks.Comma e, o.object) o.rest.goes;
    rest = o.rest.rest;
    is = o.is ∙ ap (λ (z : List Statement). stated b stem o.it ∷ z) o.rest.is;
  }

  -- the sign behind an object
  object_by : (stem : Stem) (out : List Statement) (m : Mark) (spot : Spot) → mark t ≡ Some m → behind_object stem (Some m) ≡ Some spot → Rest b spot n out → AtObjectEnd b stem (t ∷ n) out
  object_by stem out marks.Comma spot e l r = object_more stem out e (subst (λ (z : Spot). Rest b z n out) (sym (some_is (spots.Verb stem) spot l)) r)
  object_by stem out marks.Semicolon spot e l r =
      object_ended stem out (property_more stem.operation stem.subject out e (subst (λ (z : Spot). Rest b z n out) (sym (some_is (spots.Semicolon stem.operation stem.subject) spot l)) r))
  object_by stem out marks.Dot spot e l r =
      object_ended stem out (property_ended stem.operation stem.subject out (group_dotted stem.operation out e (subst (λ (z : Spot). Rest b z n out) (sym (some_is (spots.Group stem.operation) spot l)) r)))
  object_by stem out marks.CloseBrace spot e l r =
      object_ended stem out (property_ended stem.operation stem.subject out (group_closed stem.operation out e (subst (λ (z : Spot). Rest b z n out) (sym (some_is spots.Done spot l)) r)))
  object_by stem out marks.OpenBrace spot e l r = cc
  object_by stem out marks.Hats spot e l r = cc
  object_by stem out marks.Open spot e l r = cc
  object_by stem out marks.Close spot e l r = cc

  -- the steps
  opened_back : (op : Operation) (out : List Statement) → keyword t ≡ Some (word_of op) → Rest b (spots.Word op (line_in t)) n out → IsUpdate b (t ∷ n) out
  opened_back op out e (m, w, (k, o, g)) = by g.close
    where
      by : AtClose b g.ends g.later → IsUpdate b (t ∷ n) out
      by (j, c, inl (x, y)) = last b (t ∷ n) op g.groups out
          (record {
            word_ends = n;
            data_ends = m;
            brace_ends = k;
            triples_end = g.ends;
            is_word = front keyword (word_of op) e;
            is_data = w;
            is_brace = o;
            are_triples = g.triples;
            is_end = subst (λ (z : List Lexeme). One mark g.ends marks.CloseBrace z) x c;
          })
          (g.is ∙ ap (λ (z : List Statement). operation_says b op g.groups ++ z) y ∙ append-nil (operation_says b op g.groups))
      by (j, c, inr (i, s, u)) = more b (t ∷ n) j i op g.groups g.later out
          (record { word_ends = n; data_ends = m; brace_ends = k; triples_end = g.ends; is_word = front keyword (word_of op) e; is_data = w; is_brace = o; are_triples = g.triples; is_end = c }) s u g.is

  start_back : (out : List Statement) (o : Option Keyword) → keyword t ≡ o → Moves b (start_step (line_in t) o) n out → IsUpdate b (t ∷ n) out
  start_back out (Some keywords.Prefix) e (named, iri, m, k, p, i, u) = prologue b (t ∷ n) k (Some (named, iri)) out (prefix n m named iri (front keyword keywords.Prefix e) p i refl) u
  start_back out (Some keywords.Base) e (iri, k, i, u) = prologue b (t ∷ n) k None out (base n iri (front keyword keywords.Base e) i refl) u
  start_back out (Some keywords.Insert) e r = opened_back operations.Insert out e r
  start_back out (Some keywords.Delete) e r = opened_back operations.Delete out e r
  start_back out (Some keywords.Data) e r = absurd r
  start_back out (Some keywords.Graph) e r = absurd r
  start_back out (Some keywords.True) e r = absurd r
  start_back out (Some keywords.False) e r = absurd r
  start_back out (Some keywords.A) e r = absurd r
  start_back out (Some keywords.Other) e r = absurd r
  start_back out None e r = absurd r

  prefix_back : (out : List Statement) (o : Option (List ℕ)) → prefix_name t ≡ o → Moves b (prefix_step o) n out → Rest b spots.Prefix (t ∷ n) out
  prefix_back out (Some named) e (iri, k, i, u) = (named, iri, n, k, front prefix_name named e, i, u)
  prefix_back out None e r = absurd r

  named_back : (named : List ℕ) (out : List Statement) (o : Option (List ℕ)) → full_iri t ≡ o → Moves b (iri_step named o) n out → Rest b (spots.Named named) (t ∷ n) out
  named_back named out (Some iri) e u = (iri, n, front full_iri iri e, u)
  named_back named out None e r = absurd r

  base_back : (out : List Statement) (o : Option (List ℕ)) → full_iri t ≡ o → Moves b (base_step o) n out → Rest b spots.Base (t ∷ n) out
  base_back out (Some iri) e u = (iri, n, front full_iri iri e, u)
  base_back out None e r = absurd r

  word_back : (op : Operation) (out : List Statement) (o : Option Keyword) → keyword t ≡ o → Moves b (data_step op o) n out → (m : List Lexeme) × One keyword (t ∷ n) keywords.Data m × AtBrace b op m out
  word_back op out (Some keywords.Data) e r = (n, front keyword keywords.Data e, r)
  word_back op out (Some keywords.Prefix) e r = absurd r
  word_back op out (Some keywords.Base) e r = absurd r
  word_back op out (Some keywords.Insert) e r = absurd r
  word_back op out (Some keywords.Delete) e r = absurd r
  word_back op out (Some keywords.Graph) e r = absurd r
  word_back op out (Some keywords.True) e r = absurd r
  word_back op out (Some keywords.False) e r = absurd r
  word_back op out (Some keywords.A) e r = absurd r
  word_back op out (Some keywords.Other) e r = absurd r
  word_back op out None e r = absurd r

  data_back : (op : Operation) (out : List Statement) (o : Option Mark) → mark t ≡ o → Moves b (open_step op o) n out → AtBrace b op (t ∷ n) out
  data_back op out (Some marks.OpenBrace) e r = (n, front mark marks.OpenBrace e, r)
  data_back op out (Some marks.Dot) e r = absurd r
  data_back op out (Some marks.Comma) e r = absurd r
  data_back op out (Some marks.Semicolon) e r = absurd r
  data_back op out (Some marks.CloseBrace) e r = absurd r
  data_back op out (Some marks.Hats) e r = absurd r
  data_back op out (Some marks.Open) e r = absurd r
  data_back op out (Some marks.Close) e r = absurd r
  data_back op out None e r = absurd r

  no_group : (op : Operation) (out : List Statement) (o : Option Mark) → mark t ≡ o → Moves b (close_step o) n out → AtGroups b op (t ∷ n) out
  no_group op out (Some marks.CloseBrace) e r = record { groups = []; ends = t ∷ n; later = out; triples = none refl refl; close = close_back out e r; is = refl }
  no_group op out (Some marks.Dot) e r = absurd r
  no_group op out (Some marks.Comma) e r = absurd r
  no_group op out (Some marks.Semicolon) e r = absurd r
  no_group op out (Some marks.OpenBrace) e r = absurd r
  no_group op out (Some marks.Hats) e r = absurd r
  no_group op out (Some marks.Open) e r = absurd r
  no_group op out (Some marks.Close) e r = absurd r
  no_group op out None e r = absurd r

  group_back : (op : Operation) (out : List Statement) (o : Option SpelledName) → name t ≡ o → Moves b (group_step op o (mark t)) n out → AtGroups b op (t ∷ n) out
  group_back op out (Some subject) e v =
      let p : Property = record { verb = v.it; objects = v.rest.it ∷ v.rest.rest.more } in
      let end = v.rest.rest.rest in
      let flat : List Property = flat_map (λ (qs : List Property). qs) end.properties in
      let g : Group = record { subject = subject; properties = p ∷ flat } in
      let saying = property_says (say b op subject) in
      let is_group : IsGroup (t ∷ n) g end.ends =
      record { subject_ends = n; first_ends = v.rest.rest.ends; first = p; more = end.properties; is_subject = front name subject e; is_first = is_property op subject n out v; are_more = end.goes; properties_are = refl } in
      let close = end.rest in
      let eq : out ≡ operation_says b op (g ∷ close.groups) ++ close.later =
      verb_says op subject n out v ∙ ap (λ (z : List Statement). saying p ++ z) (end.is ∙ ap (λ (z : List Statement). flat_map saying flat ++ z) close.is)
      ∙ sym (append_assoc (saying p) (flat_map saying flat) (operation_says b op close.groups ++ close.later)) ∙ sym (append_assoc (saying p ++ flat_map saying flat) (operation_says b op close.groups) close.later) in
      record { groups = g ∷ close.groups; ends = close.dot_ends; later = close.later; triples = some end.ends close.groups_end g close.groups is_group close.goes close.dot refl; close = close.close; is = eq }
  group_back op out None e r = no_group op out (mark t) refl r

  subject_back : (op : Operation) (subject : SpelledName) (out : List Statement) (o : Option SpelledVerb) → verb t ≡ o → Moves b (subject_step op subject o) n out → AtVerb b op subject (t ∷ n) out
  subject_back op subject out (Some v) e r = record { it = v; ends = n; is_verb = front verb v e; rest = r }
  subject_back op subject out None e r = absurd r

  string_back : (stem : Stem) (out : List Statement) (o : Option (ℕ × List ℕ)) → string t ≡ o → Moves b (string_step stem o) n out → AtObject b stem (t ∷ n) out
  string_back stem out (Some (line, text)) e l = record {
    it = objects.Literal line text l.tagged l.datatype;
    ends = l.ends;
    later = l.later;
    object = literal line text l.tagged l.datatype n (front string (line, text) e) l.end refl;
    rest = l.rest;
    is = l.is;
  }
  string_back stem out None e r = absurd r

  verb_back : (stem : Stem) (out : List Statement) (o : Option SpelledObject) → object t ≡ o → Moves b (object_step stem o (string t)) n out → AtObject b stem (t ∷ n) out
  verb_back stem out (Some it) e (later, r, is) = record { it = it; ends = n; later = later; object = single (front object it e); rest = r; is = is }
  verb_back stem out None e r = string_back stem out (string t) refl r

  -- a sign behind a string without tag and datatype
  bare_back : (stem : Stem) (line : ℕ) (text : List ℕ) (out : List Statement) (m : Mark) (o : Option Spot) → mark t ≡ Some m → behind_object stem (Some m) ≡ o
      → Moves b (said_then stem (objects.Literal line text [] datatypes.Untyped) o) n out → AtLiteralEnd b stem line text (t ∷ n) out
  bare_back stem line text out m (Some spot) e l (later, r, is) =
      record { tagged = []; datatype = datatypes.Untyped; ends = t ∷ n; later = later; end = bare refl refl refl; rest = object_by stem later m spot e l r; is = is }
  bare_back stem line text out m None e l r = absurd r

  sign_back : (stem : Stem) (line : ℕ) (text : List ℕ) (out : List Statement) (o : Option Mark) → mark t ≡ o → Moves b (text_step stem line text None o) n out → AtLiteralEnd b stem line text (t ∷ n) out
  sign_back stem line text out (Some marks.Hats) e d = record {
    tagged = [];
    datatype = datatypes.Written d.it;
    ends = d.ends;
    later = d.later;
    end = typed n d.it (front mark marks.Hats e) d.is_name refl refl;
    rest = d.rest;
    is = d.is;
  }
  sign_back stem line text out (Some marks.Dot) e r = bare_back stem line text out marks.Dot (behind_object stem (Some marks.Dot)) e refl r
  sign_back stem line text out (Some marks.Comma) e r = bare_back stem line text out marks.Comma (behind_object stem (Some marks.Comma)) e refl r
  sign_back stem line text out (Some marks.Semicolon) e r = bare_back stem line text out marks.Semicolon (behind_object stem (Some marks.Semicolon)) e refl r
  sign_back stem line text out (Some marks.OpenBrace) e r = bare_back stem line text out marks.OpenBrace (behind_object stem (Some marks.OpenBrace)) e refl r
  sign_back stem line text out (Some marks.CloseBrace) e r = bare_back stem line text out marks.CloseBrace (behind_object stem (Some marks.CloseBrace)) e refl r
  sign_back stem line text out (Some marks.Open) e r = bare_back stem line text out marks.Open (behind_object stem (Some marks.Open)) e refl r
  sign_back stem line text out (Some marks.Close) e r = bare_back stem line text out marks.Close (behind_object stem (Some marks.Close)) e refl r
  sign_back stem line text out None e r = absurd r

  text_back : (stem : Stem) (line : ℕ) (text : List ℕ) (out : List Statement) (o : Option (List ℕ)) → tag t ≡ o → Moves b (text_step stem line text o (mark t)) n out → AtLiteralEnd b stem line text (t ∷ n) out
  text_back stem line text out (Some tag_is) e (later, r, is) =
      record { tagged = tag_is; datatype = datatypes.Untyped; ends = n; later = later; end = tagged (front tag tag_is e) refl; rest = r; is = is }
  text_back stem line text out None e r = sign_back stem line text out (mark t) refl r

  hats_back : (stem : Stem) (line : ℕ) (text : List ℕ) (out : List Statement) (o : Option SpelledName) → name t ≡ o → Moves b (hats_step stem line text o) n out → AtDatatype b stem line text (t ∷ n) out
  hats_back stem line text out (Some it) e (later, r, is) = record { it = it; ends = n; later = later; is_name = front name it e; rest = r; is = is }
  hats_back stem line text out None e r = absurd r

  object_step_back : (stem : Stem) (out : List Statement) (m : Mark) (o : Option Spot) → mark t ≡ Some m → behind_object stem (Some m) ≡ o → Moves b (on_step o) n out → AtObjectEnd b stem (t ∷ n) out
  object_step_back stem out m (Some spot) e l r = object_by stem out m spot e l r
  object_step_back stem out m None e l r = absurd r

  object_back : (stem : Stem) (out : List Statement) (o : Option Mark) → mark t ≡ o → Moves b (mark_step stem o) n out → AtObjectEnd b stem (t ∷ n) out
  object_back stem out (Some m) e r = object_step_back stem out m (behind_object stem (Some m)) e refl r
  object_back stem out None e r = absurd r

  behind_back : (op : Operation) (subject : SpelledName) (out : List Statement) (o : Option Mark) → mark t ≡ o → Moves b (behind_semicolon op subject o) n out → AtPropertyEnd b op subject (t ∷ n) out
  behind_back op subject out (Some marks.Semicolon) e r = property_more op subject out e r
  behind_back op subject out (Some marks.Dot) e r = property_ended op subject out (group_dotted op out e r)
  behind_back op subject out (Some marks.CloseBrace) e r = property_ended op subject out (group_closed op out e r)
  behind_back op subject out (Some marks.Comma) e r = absurd r
  behind_back op subject out (Some marks.OpenBrace) e r = absurd r
  behind_back op subject out (Some marks.Hats) e r = absurd r
  behind_back op subject out (Some marks.Open) e r = absurd r
  behind_back op subject out (Some marks.Close) e r = absurd r
  behind_back op subject out None e r = absurd r

  semicolon_back : (op : Operation) (subject : SpelledName) (out : List Statement) (o : Option SpelledVerb) → verb t ≡ o → Moves b (semicolon_step op subject o (mark t)) n out
      → AtVerb b op subject (t ∷ n) out ⊎ AtPropertyEnd b op subject (t ∷ n) out
  semicolon_back op subject out (Some v) e r = inl (record { it = v; ends = n; is_verb = front verb v e; rest = r })
  semicolon_back op subject out None e r = inr (behind_back op subject out (mark t) refl r)

  done_back : (out : List Statement) (o : Option Mark) → mark t ≡ o → Moves b (done_step o) n out → AtEnd b (t ∷ n) out
  done_back out (Some marks.Semicolon) e r = inr (n, front mark marks.Semicolon e, r)
  done_back out (Some marks.Dot) e r = absurd r
  done_back out (Some marks.Comma) e r = absurd r
  done_back out (Some marks.OpenBrace) e r = absurd r
  done_back out (Some marks.CloseBrace) e r = absurd r
  done_back out (Some marks.Hats) e r = absurd r
  done_back out (Some marks.Open) e r = absurd r
  done_back out (Some marks.Close) e r = absurd r
  done_back out None e r = absurd r

  -- what the step takes may come
  pub back : (spot : Spot) (out : List Statement) → Moves b (step_of spot t) n out → Rest b spot (t ∷ n) out
  back spots.Start out r = start_back out (keyword t) refl r
  back spots.Prefix out r = prefix_back out (prefix_name t) refl r
  back (spots.Named named) out r = named_back named out (full_iri t) refl r
  back spots.Base out r = base_back out (full_iri t) refl r
  back (spots.Word op line) out r = word_back op out (keyword t) refl r
  back (spots.Data op) out r = data_back op out (mark t) refl r
  back (spots.Group op) out r = group_back op out (name t) refl r
  back (spots.Subject op subject) out r = subject_back op subject out (verb t) refl r
  back (spots.Verb stem) out r = verb_back stem out (object t) refl r
  back (spots.Text stem line text) out r = text_back stem line text out (tag t) refl r
  back (spots.Hats stem line text) out r = hats_back stem line text out (name t) refl r
  back (spots.Object stem) out r = object_back stem out (mark t) refl r
  back (spots.Semicolon op subject) out r = semicolon_back op subject out (verb t) refl r
  back spots.Done out r = done_back out (mark t) refl r
