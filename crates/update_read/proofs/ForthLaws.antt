-- What may come behind a spot begins with a token that the step takes.
use Rattle.std.proofs.Common.{◌≡◌, ◌≢◌, ◌⊎◌, ℕ, List, [], ◌∷◌, ◌++◌, map, Some, None, refl, sym, ap, subst, ◌∙◌, append_assoc, inl, inr, ⊎_elim}
use Rattle.std.specs.Prelude.{Option}
use Rattle.std.specs.List.{flat_map}
use Rattle.std.proofs.lemmas.List.{append-nil}
use Rattle.dl_text.specs.Going.{Goes, stop, go}
use Rattle.dl_text.specs.Prefixes.{Bindings, with_prefix}
use Rattle.update_read.specs.declared.spots.Spot.{Spot}
use Rattle.update_read.specs.declared.spots.Spot.TheVariants as spots
use Rattle.update_read.specs.declared.spots.Step.{Step}
use Rattle.update_read.specs.declared.spots.Step.TheVariants as steps
use Rattle.update_read.specs.declared.syntax.Operation.{Operation}
use Rattle.update_read.specs.declared.syntax.Operation.TheVariants as operations
use Rattle.update_read.specs.declared.syntax.SpelledName.{SpelledName}
use Rattle.update_read.specs.declared.syntax.SpelledVerb.{SpelledVerb}
use Rattle.update_read.specs.declared.syntax.SpelledObject.{SpelledObject}
use Rattle.update_read.specs.declared.syntax.SpelledObject.TheVariants as objects
use Rattle.update_read.specs.declared.syntax.SpelledDatatype.{SpelledDatatype}
use Rattle.update_read.specs.declared.syntax.SpelledDatatype.TheVariants as datatypes
use Rattle.update_read.specs.declared.syntax.Stem.{Stem}
use Rattle.update_read.specs.declared.tokens.Keyword.{Keyword}
use Rattle.update_read.specs.declared.tokens.Keyword.TheVariants as keywords
use Rattle.update_read.specs.declared.tokens.Mark.{Mark}
use Rattle.update_read.specs.declared.tokens.Mark.TheVariants as marks
use Rattle.update_read.specs.Grammar.{mark, keyword, tag, full_iri, prefix_name, string, name, verb, object, One, IsLiteralEnd, bare, tagged, typed, IsObject, single, literal, IsNextObject, Property, IsProperty, IsNextProperty, empty, one, Group, IsGroup, IsNextGroup, IsTriples, none, some, word_of, IsOperation, IsPrologueLine, prefix, base, bound, Statement, say, property_says, group_says, operation_says, IsUpdate, nothing, prologue, last, more}
use Rattle.update_read.specs.Tokens.{Lexeme, line_in}
use Rattle.update_read.specs.Reading.{start_step, prefix_step, iri_step, base_step, data_step, open_step, close_step, group_step, stem_of, subject_step, string_step, object_step, behind_object, on_step, mark_step, said_then, text_step, hats_step, behind_semicolon, semicolon_step, done_step, step_of}
use Rattle.update_read.proofs.Rests.{stated, AtEnd, AtClose, AtGroupEnd, AtGroups, AtPropertyEnd, AtObjectEnd, AtObject, AtVerb, AtLiteralEnd, AtDatatype, AtBrace, Rest, Moves}
use Rattle.update_read.proofs.ViewLaws.{one_is, no_one, mark_no_name, mark_no_verb, mark_no_tag, string_no_object}

module _ (b : Bindings) (t : Lexeme) (n : List Lexeme) where
  -- Rest along an equation of what comes behind
  on : (spot : Spot) (out : List Statement) (m : List Lexeme) → n ≡ m → Rest b spot m out → Rest b spot n out
  on spot out m e r = subst (λ (z : List Lexeme). Rest b spot z out) (sym e) r

  close_mark : (out : List Statement) → AtClose b (t ∷ n) out → (mark t ≡ Some marks.CloseBrace) × AtEnd b n out
  close_mark out (m, o, e) = let h = one_is mark t n m marks.CloseBrace o in (h.0, subst (λ (z : List Lexeme). AtEnd b z out) (sym h.1) e)

  -- behind a group stands a dot or the brace
  group_goes : (op : Operation) (s k m : List Lexeme) (gs : List Group) (later out : List Statement) → s ≡ t ∷ n → Goes IsNextGroup s gs k → (k ≡ m) ⊎ One mark k marks.Dot m → AtClose b m later
      → out ≡ operation_says b op gs ++ later → ((mark t ≡ Some marks.Dot) × AtGroups b op n out) ⊎ ((mark t ≡ Some marks.CloseBrace) × AtEnd b n out)
  group_goes op s k m gs later out e (stop v) (inl d) c is =
      inr (subst (λ (z : List Statement). (mark t ≡ Some marks.CloseBrace) × AtEnd b n z) (sym is) (close_mark later (subst (λ (z : List Lexeme). AtClose b z later) (sym d ∙ e) c)))
  group_goes op s k m gs later out e (stop v) (inr d) c is =
      let h = one_is mark t n m marks.Dot (subst (λ (z : List Lexeme). One mark z marks.Dot m) e d) in
      inl (h.0, record { groups = []; ends = m; later = later; triples = none h.1 refl; close = c; is = is })
  group_goes op s k m gs later out e (go v w x g qs (u, o, i) r) d c is =
      let h = one_is mark t n u marks.Dot (subst (λ (z : List Lexeme). One mark z marks.Dot u) e o) in
      inl (h.0, record { groups = g ∷ qs; ends = m; later = later; triples = some w x g qs (subst (λ (z : List Lexeme). IsGroup z g w) (sym h.1) i) r d refl; close = c; is = is })

  group_end : (op : Operation) (out : List Statement) → AtGroupEnd b op (t ∷ n) out → ((mark t ≡ Some marks.Dot) × AtGroups b op n out) ⊎ ((mark t ≡ Some marks.CloseBrace) × AtEnd b n out)
  group_end op out g = group_goes op (t ∷ n) g.groups_end g.dot_ends g.groups g.later out refl g.goes g.dot g.close g.is

  -- a verb with its objects, behind which more may come
  pub verb_at : (op : Operation) (subject : SpelledName) (s m k : List Lexeme) (p : Property) (ps : List (List Property)) (later out : List Statement) → IsProperty s p m → Goes IsNextProperty m ps k
      → AtGroupEnd b op k later → out ≡ property_says (say b op subject) p ++ (flat_map (property_says (say b op subject)) (flat_map (λ (qs : List Property). qs) ps) ++ later) → AtVerb b op subject s out
  verb_at op subject s m k p ps later out i g r e =
      let stem : Stem = stem_of op subject p.verb in
      let rest : List Statement = flat_map (property_says (say b op subject)) (flat_map (λ (qs : List Property). qs) ps) ++ later in record {
        it = p.verb;
        ends = i.verb_ends;
        is_verb = i.is_verb;
        rest = record {
          it = i.first;
          ends = i.first_ends;
          later = map (stated b stem) i.more ++ rest;
          object = i.is_first;
          rest = record { more = i.more; ends = m; later = rest; goes = i.are_more; rest = record { properties = ps; ends = k; later = later; goes = g; rest = r; is = refl }; is = refl };
          is = e ∙ ap (λ (os : List SpelledObject). map (stated b stem) os ++ rest) i.objects_are;
        };
      }

  -- behind a verb's objects stands a semicolon, or what ends the group
  property_goes : (op : Operation) (subject : SpelledName) (s m : List Lexeme) (ps : List (List Property)) (later out : List Statement) → s ≡ t ∷ n → Goes IsNextProperty s ps m → AtGroupEnd b op m later
      → out ≡ flat_map (property_says (say b op subject)) (flat_map (λ (qs : List Property). qs) ps) ++ later
      → ((mark t ≡ Some marks.Semicolon) × (AtVerb b op subject n out ⊎ AtPropertyEnd b op subject n out)) ⊎ (((mark t ≡ Some marks.Dot) × AtGroups b op n out) ⊎ ((mark t ≡ Some marks.CloseBrace) × AtEnd b n out))
  property_goes op subject s m ps later out e (stop v) r is =
      inr (group_end op out (subst (λ (z : List Statement). AtGroupEnd b op (t ∷ n) z) (sym is) (subst (λ (z : List Lexeme). AtGroupEnd b op z later) e r)))
  property_goes op subject s m ps later out e (go v w x its qs (empty o k) g) r is =
      let h = one_is mark t n w marks.Semicolon (subst (λ (z : List Lexeme). One mark z marks.Semicolon w) e o) in
      inl (
        h.0,
        inr (record {
          properties = qs;
          ends = m;
          later = later;
          goes = subst (λ (z : List Lexeme). Goes IsNextProperty z qs m) (sym h.1) g;
          rest = r;
          is = is ∙ ap (λ (z : List Property). flat_map (property_says (say b op subject)) (z ++ flat_map (λ (qs : List Property). qs) qs) ++ later) k;
        }),
      )
  property_goes op subject s m ps later out e (go v w x its qs (one u p o i k) g) r is =
      let h = one_is mark t n u marks.Semicolon (subst (λ (z : List Lexeme). One mark z marks.Semicolon u) e o) in
      let saying = property_says (say b op subject) in
      let eq : out ≡ saying p ++ (flat_map saying (flat_map (λ (qs : List Property). qs) qs) ++ later) =
      is ∙ ap (λ (z : List Property). flat_map saying (z ++ flat_map (λ (qs : List Property). qs) qs) ++ later) k ∙ append_assoc (saying p) (flat_map saying (flat_map (λ (qs : List Property). qs) qs)) later in
      inl (h.0, inl (verb_at op subject n w m p qs later out (subst (λ (z : List Lexeme). IsProperty z p w) (sym h.1) i) g r eq))

  property_end : (op : Operation) (subject : SpelledName) (out : List Statement) → AtPropertyEnd b op subject (t ∷ n) out
      → ((mark t ≡ Some marks.Semicolon) × (AtVerb b op subject n out ⊎ AtPropertyEnd b op subject n out)) ⊎ (((mark t ≡ Some marks.Dot) × AtGroups b op n out) ⊎ ((mark t ≡ Some marks.CloseBrace) × AtEnd b n out))
  property_end op subject out p = property_goes op subject (t ∷ n) p.ends p.properties p.later out refl p.goes p.rest p.is

  -- the sign behind an object, and where it leads
  record Signed (stem : Stem) (out : List Statement) : Type 0 where
    pub sign : Mark
    pub spot : Spot
    pub is : mark t ≡ Some sign
    pub leads : behind_object stem (Some sign) ≡ Some spot
    pub rest : Rest b spot n out

  object_goes : (stem : Stem) (s m : List Lexeme) (os : List SpelledObject) (later out : List Statement) → s ≡ t ∷ n → Goes IsNextObject s os m → AtPropertyEnd b stem.operation stem.subject m later
      → out ≡ map (stated b stem) os ++ later → Signed stem out
  object_goes stem s m os later out e (stop v) r is =
      let p = subst (λ (z : List Statement). AtPropertyEnd b stem.operation stem.subject (t ∷ n) z) (sym is) (subst (λ (z : List Lexeme). AtPropertyEnd b stem.operation stem.subject z later) e r) in
      ⊎_elim (λ (h, x). record { sign = marks.Semicolon; spot = spots.Semicolon stem.operation stem.subject; is = h; leads = refl; rest = x })
      (λ y. ⊎_elim (λ (h, x). record { sign = marks.Dot; spot = spots.Group stem.operation; is = h; leads = refl; rest = x })
      (λ (h, x). record { sign = marks.CloseBrace; spot = spots.Done; is = h; leads = refl; rest = x }) y)
      (property_end stem.operation stem.subject out p)
  object_goes stem s m os later out e (go v w x o qs (u, c, i) g) r is =
      let h = one_is mark t n u marks.Comma (subst (λ (z : List Lexeme). One mark z marks.Comma u) e c) in record {
        sign = marks.Comma;
        spot = spots.Verb stem;
        is = h.0;
        leads = refl;
        rest = record {
          it = o;
          ends = w;
          later = map (stated b stem) qs ++ later;
          object = subst (λ (z : List Lexeme). IsObject z o w) (sym h.1) i;
          rest = record { more = qs; ends = m; later = later; goes = g; rest = r; is = refl };
          is = is;
        };
      }

  object_end : (stem : Stem) (out : List Statement) → AtObjectEnd b stem (t ∷ n) out → Signed stem out
  object_end stem out o = object_goes stem (t ∷ n) o.ends o.more o.later out refl o.goes o.rest o.is

  -- the steps
  at_word : (out : List Statement) (o : Keyword) → keyword t ≡ Some o → Moves b (start_step (line_in t) (Some o)) n out → Moves b (start_step (line_in t) (keyword t)) n out
  at_word out o e h = subst (λ (k : Option Keyword). Moves b (start_step (line_in t) k) n out) (sym e) h

  opened : (out : List Statement) (op : Operation) (gs : List Group) (k : List Lexeme) (later : List Statement) → IsOperation (t ∷ n) op gs k → AtEnd b k later → out ≡ operation_says b op gs ++ later
      → Moves b (start_step (line_in t) (keyword t)) n out
  opened out op gs k later i f is =
      let h = one_is keyword t n i.word_ends (word_of op) i.is_word in
      let inside : AtGroups b op i.brace_ends out = record { groups = gs; ends = i.triples_end; later = later; triples = i.are_triples; close = (k, i.is_end, f); is = is } in
      let rest : Rest b (spots.Word op (line_in t)) n out =
      on (spots.Word op (line_in t)) out i.word_ends h.1 (i.data_ends, i.is_data, (i.brace_ends, i.is_brace, inside)) in
      by op h.0 rest
    where
      by : (o : Operation) → keyword t ≡ Some (word_of o) → Rest b (spots.Word o (line_in t)) n out → Moves b (start_step (line_in t) (keyword t)) n out
      by operations.Insert e r = at_word out keywords.Insert e r
      by operations.Delete e r = at_word out keywords.Delete e r

  line_goes : (out : List Statement) (m : List Lexeme) (it : Option (List ℕ × List ℕ)) → IsPrologueLine (t ∷ n) it m → IsUpdate (bound b it) m out → Moves b (start_step (line_in t) (keyword t)) n out
  line_goes out m it (prefix k j named iri w p i is) u =
      let h = one_is keyword t n k keywords.Prefix w in
      let v = subst (λ (z : Option (List ℕ × List ℕ)). IsUpdate (bound b z) m out) is u in
      at_word out keywords.Prefix h.0 (on spots.Prefix out k h.1 (named, iri, j, m, p, i, v))
  line_goes out m it (base k iri w i is) u =
      let h = one_is keyword t n k keywords.Base w in
      let v = subst (λ (z : Option (List ℕ × List ℕ)). IsUpdate (bound b z) m out) is u in
      at_word out keywords.Base h.0 (on spots.Base out k h.1 (iri, m, i, v))

  start_forth : (out : List Statement) → IsUpdate b (t ∷ n) out → Moves b (start_step (line_in t) (keyword t)) n out
  start_forth out (nothing c s o e f) = cc
  start_forth out (prologue c s m it o i u) = line_goes out m it i u
  start_forth out (last c s op gs o i is) = opened out op gs [] [] i (inl (refl, refl)) (is ∙ sym (append-nil (operation_says b op gs)))
  start_forth out (more c s m k op gs rest o i w u is) = opened out op gs m rest i (inr (k, w, u)) is

  prefix_forth : (out : List Statement) → Rest b spots.Prefix (t ∷ n) out → Moves b (prefix_step (prefix_name t)) n out
  prefix_forth out (named, iri, m, k, p, i, u) =
      let h = one_is prefix_name t n m named p in
      subst (λ (z : Option (List ℕ)). Moves b (prefix_step z) n out) (sym h.0) (on (spots.Named named) out m h.1 (iri, k, i, u))

  named_forth : (named : List ℕ) (out : List Statement) → Rest b (spots.Named named) (t ∷ n) out → Moves b (iri_step named (full_iri t)) n out
  named_forth named out (iri, k, i, u) =
      let h = one_is full_iri t n k iri i in
      subst (λ (z : Option (List ℕ)). Moves b (iri_step named z) n out) (sym h.0) (subst (λ (z : List Lexeme). IsUpdate (with_prefix b named iri) z out) (sym h.1) u)

  base_forth : (out : List Statement) → Rest b spots.Base (t ∷ n) out → Moves b (base_step (full_iri t)) n out
  base_forth out (iri, k, i, u) =
      let h = one_is full_iri t n k iri i in
      subst (λ (z : Option (List ℕ)). Moves b (base_step z) n out) (sym h.0) (on spots.Start out k h.1 u)

  word_forth : (op : Operation) (out : List Statement) → (m : List Lexeme) × One keyword (t ∷ n) keywords.Data m × AtBrace b op m out → Moves b (data_step op (keyword t)) n out
  word_forth op out (m, w, r) =
      let h = one_is keyword t n m keywords.Data w in
      subst (λ (z : Option Keyword). Moves b (data_step op z) n out) (sym h.0) (on (spots.Data op) out m h.1 r)

  data_forth : (op : Operation) (out : List Statement) → AtBrace b op (t ∷ n) out → Moves b (open_step op (mark t)) n out
  data_forth op out (m, w, r) =
      let h = one_is mark t n m marks.OpenBrace w in
      subst (λ (z : Option Mark). Moves b (open_step op z) n out) (sym h.0) (on (spots.Group op) out m h.1 r)

  -- a group, behind which more may come
  pub subject_at : (op : Operation) (m k e : List Lexeme) (g : Group) (gs : List Group) (later out : List Statement) → IsGroup (t ∷ n) g m → Goes IsNextGroup m gs k → (k ≡ e) ⊎ One mark k marks.Dot e → AtClose b e later
      → out ≡ operation_says b op (g ∷ gs) ++ later → (name t ≡ Some g.subject) × AtVerb b op g.subject n out
  subject_at op m k e g gs later out i r d c is =
      let h = one_is name t n i.subject_ends g.subject i.is_subject in
      let saying = property_says (say b op g.subject) in
      let flat : List Property = flat_map (λ (qs : List Property). qs) i.more in
      let rest : List Statement = operation_says b op gs ++ later in
      let eq : out ≡ saying i.first ++ (flat_map saying flat ++ rest) =
      is ∙ append_assoc (flat_map saying g.properties) (operation_says b op gs) later ∙ ap (λ (ps : List Property). flat_map saying ps ++ rest) i.properties_are ∙ append_assoc (saying i.first) (flat_map saying flat) rest in
      let end : AtGroupEnd b op m rest = record { groups = gs; groups_end = k; dot_ends = e; later = later; goes = r; dot = d; close = c; is = refl } in
      (h.0, verb_at op g.subject n i.first_ends m i.first i.more rest out (subst (λ (z : List Lexeme). IsProperty z i.first i.first_ends) (sym h.1) i.is_first) i.are_more end eq)

  group_forth : (op : Operation) (out : List Statement) → AtGroups b op (t ∷ n) out → Moves b (group_step op (name t) (mark t)) n out
  group_forth op out g = by g.groups g.ends g.triples g.close g.is
    where
      by : (gs : List Group) (e : List Lexeme) → IsTriples (t ∷ n) gs e → AtClose b e g.later → out ≡ operation_says b op gs ++ g.later → Moves b (group_step op (name t) (mark t)) n out
      by gs e (none s k) c is =
          let h = close_mark g.later (subst (λ (z : List Lexeme). AtClose b z g.later) (sym s) c) in
          let eq : out ≡ g.later = is ∙ ap (λ (z : List Group). operation_says b op z ++ g.later) k in
          subst (λ (z : Option SpelledName). Moves b (group_step op z (mark t)) n out) (sym (mark_no_name t marks.CloseBrace h.0))
          (subst (λ (z : Option Mark). Moves b (close_step z) n out) (sym h.0) (subst (λ (z : List Statement). AtEnd b n z) (sym eq) h.1))
      by gs e (some m k first rest i r d is_gs) c is =
          let at = subject_at op m k e first rest g.later out i r d c (is ∙ ap (λ (z : List Group). operation_says b op z ++ g.later) is_gs) in
          subst (λ (z : Option SpelledName). Moves b (group_step op z (mark t)) n out) (sym at.0) at.1

  subject_forth : (op : Operation) (subject : SpelledName) (out : List Statement) → AtVerb b op subject (t ∷ n) out → Moves b (subject_step op subject (verb t)) n out
  subject_forth op subject out v =
      let h = one_is verb t n v.ends v.it v.is_verb in
      subst (λ (z : Option SpelledVerb). Moves b (subject_step op subject z) n out) (sym h.0) (on (spots.Verb (stem_of op subject v.it)) out v.ends h.1 v.rest)

  verb_forth : (stem : Stem) (out : List Statement) → AtObject b stem (t ∷ n) out → Moves b (object_step stem (object t) (string t)) n out
  verb_forth stem out o = by o.it o.ends o.object o.rest o.is
    where
      by : (it : SpelledObject) (e : List Lexeme) → IsObject (t ∷ n) it e → AtObjectEnd b stem e o.later → out ≡ stated b stem it ∷ o.later → Moves b (object_step stem (object t) (string t)) n out
      by it e (single w) r is =
          let h = one_is object t n e it w in
          subst (λ (z : Option SpelledObject). Moves b (object_step stem z (string t)) n out) (sym h.0) (o.later, on (spots.Object stem) o.later e h.1 r, is)
      by it e (literal line text tag_is datatype m w end k) r is =
          let h = one_is string t n m (line, text) w in
          let at : AtLiteralEnd b stem line text m out =
          record { tagged = tag_is; datatype = datatype; ends = e; later = o.later; end = end; rest = r; is = is ∙ ap (λ (z : SpelledObject). stated b stem z ∷ o.later) k } in
          subst (λ (z : Option SpelledObject). Moves b (object_step stem z (string t)) n out) (sym (string_no_object t (line, text) h.0))
          (subst (λ (z : Option (ℕ × List ℕ)). Moves b (string_step stem z) n out) (sym h.0) (on (spots.Text stem line text) out m h.1 at))

  -- what stands behind a string without tag and datatype
  bare_said : (stem : Stem) (line : ℕ) (text : List ℕ) (later out : List Statement) (m : Mark) (spot : Spot) → behind_object stem (Some m) ≡ Some spot → Rest b spot n later
      → out ≡ stated b stem (objects.Literal line text [] datatypes.Untyped) ∷ later → Moves b (text_step stem line text None (Some m)) n out
  bare_said stem line text later out marks.Dot spot l r is =
      subst (λ (z : Option Spot). Moves b (said_then stem (objects.Literal line text [] datatypes.Untyped) z) n out) (sym l) (later, r, is)
  bare_said stem line text later out marks.Comma spot l r is =
      subst (λ (z : Option Spot). Moves b (said_then stem (objects.Literal line text [] datatypes.Untyped) z) n out) (sym l) (later, r, is)
  bare_said stem line text later out marks.Semicolon spot l r is =
      subst (λ (z : Option Spot). Moves b (said_then stem (objects.Literal line text [] datatypes.Untyped) z) n out) (sym l) (later, r, is)
  bare_said stem line text later out marks.CloseBrace spot l r is =
      subst (λ (z : Option Spot). Moves b (said_then stem (objects.Literal line text [] datatypes.Untyped) z) n out) (sym l) (later, r, is)
  bare_said stem line text later out marks.OpenBrace spot l r is = cc
  bare_said stem line text later out marks.Hats spot l r is = cc
  bare_said stem line text later out marks.Open spot l r is = cc
  bare_said stem line text later out marks.Close spot l r is = cc

  text_forth : (stem : Stem) (line : ℕ) (text : List ℕ) (out : List Statement) → AtLiteralEnd b stem line text (t ∷ n) out → Moves b (text_step stem line text (tag t) (mark t)) n out
  text_forth stem line text out l = by l.tagged l.datatype l.ends l.end l.rest l.is
    where
      by : (tag_is : List ℕ) (datatype : SpelledDatatype) (e : List Lexeme) → IsLiteralEnd (t ∷ n) tag_is datatype e → AtObjectEnd b stem e l.later
          → out ≡ stated b stem (objects.Literal line text tag_is datatype) ∷ l.later → Moves b (text_step stem line text (tag t) (mark t)) n out
      by tag_is datatype e (bare s k d) r is =
          let end = object_end stem l.later (subst (λ (z : List Lexeme). AtObjectEnd b stem z l.later) (sym s) r) in
          let eq : out ≡ stated b stem (objects.Literal line text [] datatypes.Untyped) ∷ l.later =
          is ∙ ap (λ (z : List ℕ). stated b stem (objects.Literal line text z datatype) ∷ l.later) k ∙ ap (λ (z : SpelledDatatype). stated b stem (objects.Literal line text [] z) ∷ l.later) d in
          subst (λ (z : Option (List ℕ)). Moves b (text_step stem line text z (mark t)) n out) (sym (mark_no_tag t end.sign end.is))
          (subst (λ (z : Option Mark). Moves b (text_step stem line text None z) n out) (sym end.is) (bare_said stem line text l.later out end.sign end.spot end.leads end.rest eq))
      by tag_is datatype e (tagged w d) r is =
          let h = one_is tag t n e tag_is w in
          subst (λ (z : Option (List ℕ)). Moves b (text_step stem line text z (mark t)) n out) (sym h.0)
          (l.later, on (spots.Object stem) l.later e h.1 r, is ∙ ap (λ (z : SpelledDatatype). stated b stem (objects.Literal line text tag_is z) ∷ l.later) d)
      by tag_is datatype e (typed m it w i k d) r is =
          let h = one_is mark t n m marks.Hats w in
          let at : AtDatatype b stem line text m out =
          record {
            it = it;
            ends = e;
            later = l.later;
            is_name = i;
            rest = r;
            is = is ∙ ap (λ (z : List ℕ). stated b stem (objects.Literal line text z datatype) ∷ l.later) k ∙ ap (λ (z : SpelledDatatype). stated b stem (objects.Literal line text [] z) ∷ l.later) d;
          } in
          subst (λ (z : Option (List ℕ)). Moves b (text_step stem line text z (mark t)) n out) (sym (mark_no_tag t marks.Hats h.0))
          (subst (λ (z : Option Mark). Moves b (text_step stem line text None z) n out) (sym h.0) (on (spots.Hats stem line text) out m h.1 at))

  hats_forth : (stem : Stem) (line : ℕ) (text : List ℕ) (out : List Statement) → AtDatatype b stem line text (t ∷ n) out → Moves b (hats_step stem line text (name t)) n out
  hats_forth stem line text out d =
      let h = one_is name t n d.ends d.it d.is_name in
      subst (λ (z : Option SpelledName). Moves b (hats_step stem line text z) n out) (sym h.0) (d.later, on (spots.Object stem) d.later d.ends h.1 d.rest, d.is)

  object_forth : (stem : Stem) (out : List Statement) → AtObjectEnd b stem (t ∷ n) out → Moves b (mark_step stem (mark t)) n out
  object_forth stem out o =
      let end = object_end stem out o in
      subst (λ (z : Option Mark). Moves b (mark_step stem z) n out) (sym end.is) (subst (λ (z : Option Spot). Moves b (on_step z) n out) (sym end.leads) end.rest)

  semicolon_forth : (op : Operation) (subject : SpelledName) (out : List Statement) → AtVerb b op subject (t ∷ n) out ⊎ AtPropertyEnd b op subject (t ∷ n) out
      → Moves b (semicolon_step op subject (verb t) (mark t)) n out
  semicolon_forth op subject out (inl v) =
      let h = one_is verb t n v.ends v.it v.is_verb in
      subst (λ (z : Option SpelledVerb). Moves b (semicolon_step op subject z (mark t)) n out) (sym h.0) (on (spots.Verb (stem_of op subject v.it)) out v.ends h.1 v.rest)
  semicolon_forth op subject out (inr p) =
      ⊎_elim (λ (h, x). at marks.Semicolon h x) (λ y. ⊎_elim (λ (h, x). at marks.Dot h x) (λ (h, x). at marks.CloseBrace h x) y) (property_end op subject out p)
    where
      at : (m : Mark) → mark t ≡ Some m → Moves b (behind_semicolon op subject (Some m)) n out → Moves b (semicolon_step op subject (verb t) (mark t)) n out
      at m h r =
          subst (λ (z : Option SpelledVerb). Moves b (semicolon_step op subject z (mark t)) n out) (sym (mark_no_verb t m h)) (subst (λ (z : Option Mark). Moves b (behind_semicolon op subject z) n out) (sym h) r)

  done_forth : (out : List Statement) → AtEnd b (t ∷ n) out → Moves b (done_step (mark t)) n out
  done_forth out (inl (e, f)) = cc
  done_forth out (inr (m, w, u)) =
      let h = one_is mark t n m marks.Semicolon w in
      subst (λ (z : Option Mark). Moves b (done_step z) n out) (sym h.0) (on spots.Start out m h.1 u)

  -- the step takes each token that may come
  pub forth : (spot : Spot) (out : List Statement) → Rest b spot (t ∷ n) out → Moves b (step_of spot t) n out
  forth spots.Start out r = start_forth out r
  forth spots.Prefix out r = prefix_forth out r
  forth (spots.Named named) out r = named_forth named out r
  forth spots.Base out r = base_forth out r
  forth (spots.Word op line) out r = word_forth op out r
  forth (spots.Data op) out r = data_forth op out r
  forth (spots.Group op) out r = group_forth op out r
  forth (spots.Subject op subject) out r = subject_forth op subject out r
  forth (spots.Verb stem) out r = verb_forth stem out r
  forth (spots.Text stem line text) out r = text_forth stem line text out r
  forth (spots.Hats stem line text) out r = hats_forth stem line text out r
  forth (spots.Object stem) out r = object_forth stem out r
  forth (spots.Semicolon op subject) out r = semicolon_forth op subject out r
  forth spots.Done out r = done_forth out r
