-- The reader goes through every document.
use Rattle.std.proofs.Common.{◌≡◌, ◌+◌, ◌≤◌, ◌<◌, ℕ, List, [], ◌∷◌, ◌++◌, Option, Some, None, Bool, true, false, cond, refl, ap, sym, ◌∙◌, subst, nat_lt, nat_le, codes, arith}
use Rattle.std.proofs.lemmas.Bool.Decides.{nat_tests}
use Rattle.owl_syntax.specs.declared.nodes.PrefixLine.{PrefixLine}
use Rattle.owl_syntax.specs.Shapes.{Shape, Gap, Open, Close, Equals, Hats, Tag, Word, Iri, Prefixed, Blank, Digits, Text, Token, at}
use Rattle.owl_syntax.specs.Trees.{Datatype, untyped, other, by_iri, by_name, Leaf, iri, blank, digits, prefixed, literal, Forest, none, leaf, word, group, Content}
use Rattle.owl_syntax.specs.Grammar.{Ends, bare, tagged, typed, SpellsLeaf, Spells, nothing, one_leaf, one_word, one_group, rank_of, InOrder, has_name, SpellsLine, SpellsLines, no_line, one_line, SpellsDocument}
use Rattle.owl_syntax.specs.Reading.{Head, of_word, of_group, Opened, opened, Nest, nest, Pending, Nothing, AWord, AText, SomeHats, Part, Stepped, On, Closed, Stuck, State, Lines, InPrefix, Root, Body, Done, Begun, Started, Named, Equalled, Valued, added, is_frame, ready, stepped, in_body, after, then, runs, put_leaf, put_name, put_word, put_text, put_group, open_with, closed, next_part, between}
use Rattle.owl_syntax.proofs.RunLaws.{runs-append, cond_true, cond_false}

-- what a pending string amounts to where neither a tag nor ^^ follows
abbrev pub Settled : Nest → Pending → Nest → Type 0
Settled n Nothing m = n ≡ m
Settled n (AText line text) m = added n (λ f. leaf f (literal line text [] untyped)) ≡ m
Settled n (AWord line text) m = ⊥
Settled n (SomeHats line text) m = ⊥

abbrev pub BeginsNode : Shape → Type 0
BeginsNode (Tag tag) = ⊥
BeginsNode Hats = ⊥
BeginsNode Gap = Unit {0}
BeginsNode Open = Unit {0}
BeginsNode Close = Unit {0}
BeginsNode Equals = Unit {0}
BeginsNode (Word text) = Unit {0}
BeginsNode (Iri text) = Unit {0}
BeginsNode (Blank text) = Unit {0}
BeginsNode (Digits text) = Unit {0}
BeginsNode (Text text) = Unit {0}
BeginsNode (Prefixed prefix local) = Unit {0}

pub settled_step : (n m : Nest) (p : Pending) (line : ℕ) (shape : Shape) → Settled n p m → BeginsNode shape → stepped n p line shape ≡ ready m line shape
settled_step n m (AWord l t) line shape s b = absurd s
settled_step n m (SomeHats l t) line shape s b = absurd s
settled_step n m Nothing line shape s b = ap (λ (k : Nest). ready k line shape) s
settled_step n m (AText l t) line (Tag tag) s b = absurd b
settled_step n m (AText l t) line Hats s b = absurd b
settled_step n m (AText l t) line Gap s b = ap (λ (k : Nest). ready k line Gap) s
settled_step n m (AText l t) line Open s b = ap (λ (k : Nest). ready k line Open) s
settled_step n m (AText l t) line Close s b = ap (λ (k : Nest). ready k line Close) s
settled_step n m (AText l t) line Equals s b = ap (λ (k : Nest). ready k line Equals) s
settled_step n m (AText l t) line (Word x) s b = ap (λ (k : Nest). ready k line (Word x)) s
settled_step n m (AText l t) line (Iri x) s b = ap (λ (k : Nest). ready k line (Iri x)) s
settled_step n m (AText l t) line (Blank x) s b = ap (λ (k : Nest). ready k line (Blank x)) s
settled_step n m (AText l t) line (Digits x) s b = ap (λ (k : Nest). ready k line (Digits x)) s
settled_step n m (AText l t) line (Text x) s b = ap (λ (k : Nest). ready k line (Text x)) s
settled_step n m (AText l t) line (Prefixed x y) s b = ap (λ (k : Nest). ready k line (Prefixed x y)) s

module _ (lines : List PrefixLine) (first : ℕ) (text : List ℕ) where
  -- the reader has these nodes, and no more is to come of the last
  pub record IsAt (state : Option State) (m : Nest) : Type 0 where
    pub nodes : Nest
    pub pending : Pending
    pub is : state ≡ Some (Body lines first text nodes pending)
    pub settled : Settled nodes pending m

  pub is_at : (state : Option State) (m : Nest) → state ≡ Some (Body lines first text m Nothing) → IsAt state m
  is_at state m e = record { nodes = m; pending = Nothing; is = e; settled = refl }

  pub at_step : (state : Option State) (m : Nest) (line : ℕ) (shape : Shape) (next : Stepped) → IsAt state m → BeginsNode shape → ready m line shape ≡ next
      → then state (at line shape) ≡ in_body lines first text next
  at_step state m line shape next i b e =
      ap (λ (p : Option State). then p (at line shape)) i.is ∙ ap (λ (s : Stepped). in_body lines first text s) (settled_step i.nodes m i.pending line shape i.settled b ∙ e)

  -- a leaf inside parentheses
  pub through_leaf : (state : Option State) (rank : ℕ) (outer : List Opened) (since : Forest) (us : List Token) (it : Leaf) → is_frame outer ≡ false
      → IsAt state (nest rank outer since) → SpellsLeaf us it → IsAt (runs state us) (nest rank outer (leaf since it))
  through_leaf state rank outer since us (iri line t) f i s =
      is_at (runs state us) (nest rank outer (leaf since (iri line t)))
      (ap (runs state) s ∙ at_step state (nest rank outer since) line (Iri t) (On (nest rank outer (leaf since (iri line t))) Nothing) i tt (cond_false (is_frame outer) _ _ f))
  through_leaf state rank outer since us (prefixed line p l) f i s =
      is_at (runs state us) (nest rank outer (leaf since (prefixed line p l)))
      (ap (runs state) s ∙ at_step state (nest rank outer since) line (Prefixed p l) (On (nest rank outer (leaf since (prefixed line p l))) Nothing) i tt (cond_false (is_frame outer) _ _ f))
  through_leaf state rank outer since us (blank line t) f i s =
      is_at (runs state us) (nest rank outer (leaf since (blank line t)))
      (ap (runs state) s ∙ at_step state (nest rank outer since) line (Blank t) (On (nest rank outer (leaf since (blank line t))) Nothing) i tt (cond_false (is_frame outer) _ _ f))
  through_leaf state rank outer since us (digits line t) f i s =
      is_at (runs state us) (nest rank outer (leaf since (digits line t)))
      (ap (runs state) s ∙ at_step state (nest rank outer since) line (Digits t) (On (nest rank outer (leaf since (digits line t))) Nothing) i tt (cond_false (is_frame outer) _ _ f))
  through_leaf state rank outer since us (literal line t tag datatype) f i (ends, e, s) =
      let quoted : then state (at line (Text t)) ≡ Some (Body lines first text (nest rank outer since) (AText line t)) =
      at_step state (nest rank outer since) line (Text t) (On (nest rank outer since) (AText line t)) i tt (cond_false (is_frame outer) _ _ f) in
      ending (then state (at line (Text t))) ends datatype tag quoted s (ap (runs state) e)
    where
      ending : (o : Option State) (ends : List Token) (datatype : Datatype) (tag : List ℕ) → o ≡ Some (Body lines first text (nest rank outer since) (AText line t)) → Ends ends tag datatype
          → runs state us ≡ runs o ends → IsAt (runs state us) (nest rank outer (leaf since (literal line t tag datatype)))
      ending o ends datatype tag q (bare x y z) r = record {
        nodes = nest rank outer since;
        pending = AText line t;
        is = r ∙ ap (runs o) x ∙ q;
        settled = ap (λ (g : List ℕ). nest rank outer (leaf since (literal line t g untyped))) (sym y) ∙ ap (λ (d : Datatype). nest rank outer (leaf since (literal line t tag d))) (sym z);
      }
      ending o ends datatype tag q (tagged h x z) r =
          is_at (runs state us) (nest rank outer (leaf since (literal line t tag datatype)))
          (r ∙ ap (runs o) x ∙ ap (λ (p : Option State). then p (at h (Tag tag))) q
          ∙ ap (λ (d : Datatype). Some (Body lines first text (nest rank outer (leaf since (literal line t tag d))) Nothing)) (sym z))
      ending o ends datatype tag q (typed h name x y z) r =
          is_at (runs state us) (nest rank outer (leaf since (literal line t tag datatype)))
          (r ∙ ap (runs o) x ∙ ap (λ (p : Option State). then (then p (at h Hats)) name) q ∙ by_name_of datatype name z
          ∙ ap (λ (g : List ℕ). Some (Body lines first text (nest rank outer (leaf since (literal line t g datatype))) Nothing)) (sym y))
        where
          by_name_of : (d : Datatype) (name : Token) → Rattle.owl_syntax.specs.Grammar.IsDatatype name d
              → then (Some (Body lines first text (nest rank outer since) (SomeHats line t))) name ≡ Some (Body lines first text (nest rank outer (leaf since (literal line t [] d))) Nothing)
          by_name_of untyped name z = absurd z
          by_name_of other name z = absurd z
          by_name_of (by_iri l i) name z = ap (λ (k : Token). then (Some (Body lines first text (nest rank outer since) (SomeHats line t))) k) z
          by_name_of (Rattle.owl_syntax.specs.Trees.by_name l p x) name z = ap (λ (k : Token). then (Some (Body lines first text (nest rank outer since) (SomeHats line t))) k) z

  -- nodes inside parentheses
  pub through : (rank : ℕ) (outer : List Opened) (ts : List Token) (nodes : Forest) → is_frame outer ≡ false → Spells ts nodes
      → IsAt (runs (Some (Body lines first text (nest rank outer none) Nothing)) ts) (nest rank outer nodes)
  through rank outer ts nodes f (nothing ts' nodes' x y) =
      is_at _ _ (ap (runs (Some (Body lines first text (nest rank outer none) Nothing))) x ∙ ap (λ (g : Forest). Some (Body lines first text (nest rank outer g) Nothing)) (sym y))
  through rank outer ts nodes f (one_leaf ts' nodes' us vs before it s l x y) =
      let start : Option State = Some (Body lines first text (nest rank outer none) Nothing) in
      let here : IsAt (runs (runs start us) vs) (nest rank outer (leaf before it)) = through_leaf (runs start us) rank outer before vs it f (through rank outer us before f s) l in
      let along : IsAt (runs start ts) (nest rank outer (leaf before it)) = subst (λ (o : Option State). IsAt o (nest rank outer (leaf before it))) (sym (ap (runs start) x ∙ runs-append start us vs)) here in
      subst (λ (g : Forest). IsAt (runs start ts) (nest rank outer g)) (sym y) along
  through rank outer ts nodes f (one_word ts' nodes' us vs before args line opens close t s a x y) =
      let start : Option State = Some (Body lines first text (nest rank outer none) Nothing) in
      let here : IsAt (runs start us) (nest rank outer before) = through rank outer us before f s in
      let worded : then (runs start us) (at line (Word t)) ≡ Some (Body lines first text (nest rank outer before) (AWord line t)) =
      at_step (runs start us) (nest rank outer before) line (Word t) (On (nest rank outer before) (AWord line t)) here tt (cond_false (is_frame outer) _ _ f) in
      let inside : List Opened = opened before (of_word line t) ∷ outer in
      let opens_to : then (then (runs start us) (at line (Word t))) (at opens Open) ≡ Some (Body lines first text (nest rank inside none) Nothing) =
      ap (λ (p : Option State). then p (at opens Open)) worded in
      let within : IsAt (runs (Some (Body lines first text (nest rank inside none) Nothing)) vs) (nest rank inside args) = through rank inside vs args refl a in
      let closes : then (runs (Some (Body lines first text (nest rank inside none) Nothing)) vs) (at close Close) ≡ Some (Body lines first text (nest rank outer (word before line t args)) Nothing) =
      at_step _ (nest rank inside args) close Close (On (nest rank outer (word before line t args)) Nothing) within tt refl in
      let all : runs start ts ≡ Some (Body lines first text (nest rank outer (word before line t args)) Nothing) =
      ap (runs start) x ∙ runs-append start us (at line (Word t) ∷ at opens Open ∷ (vs ++ at close Close ∷ []))
      ∙ ap (λ (p : Option State). runs p (vs ++ at close Close ∷ [])) opens_to
      ∙ runs-append (Some (Body lines first text (nest rank inside none) Nothing)) vs (at close Close ∷ []) ∙ closes in
      subst (λ (g : Forest). IsAt (runs start ts) (nest rank outer g)) (sym y) (is_at _ _ all)
  through rank outer ts nodes f (one_group ts' nodes' us vs before args line close s a x y) =
      let start : Option State = Some (Body lines first text (nest rank outer none) Nothing) in
      let here : IsAt (runs start us) (nest rank outer before) = through rank outer us before f s in
      let inside : List Opened = opened before (of_group line) ∷ outer in
      let opens_to : then (runs start us) (at line Open) ≡ Some (Body lines first text (nest rank inside none) Nothing) =
      at_step (runs start us) (nest rank outer before) line Open (On (nest rank inside none) Nothing) here tt (cond_false (is_frame outer) _ _ f) in
      let within : IsAt (runs (Some (Body lines first text (nest rank inside none) Nothing)) vs) (nest rank inside args) = through rank inside vs args refl a in
      let closes : then (runs (Some (Body lines first text (nest rank inside none) Nothing)) vs) (at close Close) ≡ Some (Body lines first text (nest rank outer (group before line args)) Nothing) =
      at_step _ (nest rank inside args) close Close (On (nest rank outer (group before line args)) Nothing) within tt refl in
      let all : runs start ts ≡ Some (Body lines first text (nest rank outer (group before line args)) Nothing) =
      ap (runs start) x ∙ runs-append start us (at line Open ∷ (vs ++ at close Close ∷ []))
      ∙ ap (λ (p : Option State). runs p (vs ++ at close Close ∷ [])) opens_to
      ∙ runs-append (Some (Body lines first text (nest rank inside none) Nothing)) vs (at close Close ∷ []) ∙ closes in
      subst (λ (g : Forest). IsAt (runs start ts) (nest rank outer g)) (sym y) (is_at _ _ all)

  -- one name of the frame
  frame_name : (state : Option State) (rank r : ℕ) (since : Forest) (line : ℕ) (shape : Shape) (it : Leaf) → IsAt state (nest r [] since) → BeginsNode shape
      → ready (nest r [] since) line shape ≡ cond (nat_lt r 2) (On (nest (r + 1) [] (leaf since it)) Nothing) Stuck → r < 2 → rank ≡ r + 1
      → then state (at line shape) ≡ Some (Body lines first text (nest rank [] (leaf since it)) Nothing)
  frame_name state rank r since line shape it i b e l is =
      at_step state (nest r [] since) line shape (On (nest (r + 1) [] (leaf since it)) Nothing) i b (e ∙ cond_true (nat_lt r 2) _ _ (Rattle.std.proofs.Common.lt-ltb r 2 l))
      ∙ ap (λ (k : ℕ). Some (Body lines first text (nest k [] (leaf since it)) Nothing)) (sym is)

  -- the nodes of the frame
  pub through_frame : (rank : ℕ) (ts : List Token) (nodes : Forest) → Spells ts nodes → InOrder nodes rank
      → IsAt (runs (Some (Body lines first text (nest 0 [] none) Nothing)) ts) (nest rank [] nodes)
  through_frame rank ts nodes (nothing ts' nodes' x y) o =
      is_at _ _ (ap (runs (Some (Body lines first text (nest 0 [] none) Nothing))) x
      ∙ ap (λ (k : ℕ). Some (Body lines first text (nest k [] none) Nothing)) (sym (subst (λ (g : Forest). InOrder g rank) y o))
      ∙ ap (λ (g : Forest). Some (Body lines first text (nest rank [] g) Nothing)) (sym y))
  through_frame rank ts nodes (one_leaf ts' nodes' us vs before it s l x y) o =
      leafs rank ts nodes us vs before it (λ r h. through_frame r us before s h) l x y (subst (λ (g : Forest). InOrder g rank) y o)
    where
      leafs : (rank : ℕ) (ts : List Token) (nodes : Forest) (us vs : List Token) (before : Forest) (it : Leaf)
          → ((r : ℕ) → InOrder before r → IsAt (runs (Some (Body lines first text (nest 0 [] none) Nothing)) us) (nest r [] before)) → SpellsLeaf vs it → ts ≡ us ++ vs → nodes ≡ leaf before it
          → InOrder (leaf before it) rank → IsAt (runs (Some (Body lines first text (nest 0 [] none) Nothing)) ts) (nest rank [] nodes)
      leafs rank ts nodes us vs before (iri line t) s l x y (r, o, lt, is) =
          let start : Option State = Some (Body lines first text (nest 0 [] none) Nothing) in
          is_at _ _ (ap (runs start) x ∙ runs-append start us vs ∙ ap (runs (runs start us)) l
          ∙ frame_name (runs start us) rank r before line (Iri t) (iri line t) (s r o) tt refl lt is
          ∙ ap (λ (g : Forest). Some (Body lines first text (nest rank [] g) Nothing)) (sym y))
      leafs rank ts nodes us vs before (prefixed line p t) s l x y (r, o, lt, is) =
          let start : Option State = Some (Body lines first text (nest 0 [] none) Nothing) in
          is_at _ _ (ap (runs start) x ∙ runs-append start us vs ∙ ap (runs (runs start us)) l
          ∙ frame_name (runs start us) rank r before line (Prefixed p t) (prefixed line p t) (s r o) tt refl lt is
          ∙ ap (λ (g : Forest). Some (Body lines first text (nest rank [] g) Nothing)) (sym y))
      leafs rank ts nodes us vs before (blank line t) s l x y o = absurd o
      leafs rank ts nodes us vs before (digits line t) s l x y o = absurd o
      leafs rank ts nodes us vs before (literal line t g d) s l x y o = absurd o
  through_frame rank ts nodes (one_word ts' nodes' us vs before args line opens close t s a x y) o =
      let start : Option State = Some (Body lines first text (nest 0 [] none) Nothing) in
      let ordered = subst (λ (g : Forest). InOrder g rank) y o in
      let r : ℕ = ordered.0 in
      let here : IsAt (runs start us) (nest r [] before) = through_frame r us before s ordered.1 in
      let worded : then (runs start us) (at line (Word t)) ≡ Some (Body lines first text (nest (rank_of t) [] before) (AWord line t)) =
      at_step (runs start us) (nest r [] before) line (Word t) (On (nest (rank_of t) [] before) (AWord line t)) here tt (cond_true (nat_le r (rank_of t)) _ _ (is_le r (rank_of t) ordered.2)) in
      let inside : List Opened = opened before (of_word line t) ∷ [] in
      let opens_to : then (then (runs start us) (at line (Word t))) (at opens Open) ≡ Some (Body lines first text (nest (rank_of t) inside none) Nothing) =
      ap (λ (p : Option State). then p (at opens Open)) worded in
      let within : IsAt (runs (Some (Body lines first text (nest (rank_of t) inside none) Nothing)) vs) (nest (rank_of t) inside args) = through (rank_of t) inside vs args refl a in
      let closes : then (runs (Some (Body lines first text (nest (rank_of t) inside none) Nothing)) vs) (at close Close) ≡ Some (Body lines first text (nest (rank_of t) [] (word before line t args)) Nothing) =
      at_step _ (nest (rank_of t) inside args) close Close (On (nest (rank_of t) [] (word before line t args)) Nothing) within tt refl in
      let all : runs start ts ≡ Some (Body lines first text (nest rank [] (word before line t args)) Nothing) =
      ap (runs start) x ∙ runs-append start us (at line (Word t) ∷ at opens Open ∷ (vs ++ at close Close ∷ []))
      ∙ ap (λ (p : Option State). runs p (vs ++ at close Close ∷ [])) opens_to
      ∙ runs-append (Some (Body lines first text (nest (rank_of t) inside none) Nothing)) vs (at close Close ∷ []) ∙ closes
      ∙ ap (λ (k : ℕ). Some (Body lines first text (nest k [] (word before line t args)) Nothing)) (sym ordered.3) in
      subst (λ (g : Forest). IsAt (runs start ts) (nest rank [] g)) (sym y) (is_at _ _ all)
    where
      is_le : (a b : ℕ) → a ≤ b → nat_le a b ≡ true
      is_le a b l = grind (arith, nat_tests)
  through_frame rank ts nodes (one_group ts' nodes' us vs before args line close s a x y) o = absurd (subst (λ (g : Forest). InOrder g rank) y o)

pub through_lines : (ts : List Token) (lines : List PrefixLine) → SpellsLines ts lines → runs (Some (Lines [])) ts ≡ Some (Lines lines)
through_lines ts lines (no_line ts' lines' x y) = ap (runs (Some (Lines []))) x ∙ ap (λ (l : List PrefixLine). Some (Lines l)) (sym y)
through_lines ts lines (one_line ts' lines' us vs before line s l fresh x y) =
    ap (runs (Some (Lines []))) x ∙ runs-append (Some (Lines [])) us vs ∙ ap (λ (o : Option State). runs o vs) (through_lines us before s) ∙ ap (runs (Some (Lines before))) l.is
    ∙ ap (λ (o : Option State). then (then (then o (at l.equals Equals)) (at l.valued (Iri line.iri))) (at l.close Close)) named
    ∙ ap (λ (l : List PrefixLine). Some (Lines l)) (sym y)
  where
    named : Rattle.owl_syntax.specs.Reading.in_prefix before line.line (cond (has_name before line.name) None (Some (Named line.name))) ≡ Some (InPrefix before line.line (Named line.name))
    named = ap (λ (b : Bool). Rattle.owl_syntax.specs.Reading.in_prefix before line.line (cond b None (Some (Named line.name)))) fresh

-- the reader goes through every document
pub accepts : (ts : List Token) (content : Content) → SpellsDocument ts content
    → (line : ℕ) × (args : Forest) × (runs (Some (Lines [])) ts ≡ Some (Done content.prefixes line (codes "Ontology") args)) × (content.root ≡ word none line (codes "Ontology") args)
accepts ts content d =
    let inside = through_frame content.prefixes d.line (codes "Ontology") d.rank d.inside d.args d.nodes d.in_order in
    let closes = at_step content.prefixes d.line (codes "Ontology") (runs (Some (Body content.prefixes d.line (codes "Ontology") (nest 0 [] none) Nothing)) d.inside) (nest d.rank [] d.args) d.close Close (Closed d.args) inside tt refl in (
      d.line,
      d.args,
      ap (runs (Some (Lines []))) d.is ∙ runs-append (Some (Lines [])) d.front (at d.line (Word (codes "Ontology")) ∷ at d.opens Open ∷ (d.inside ++ at d.close Close ∷ []))
          ∙ ap (λ (o : Option State). runs o (at d.line (Word (codes "Ontology")) ∷ at d.opens Open ∷ (d.inside ++ at d.close Close ∷ []))) (through_lines d.front content.prefixes d.lines)
          ∙ runs-append (Some (Body content.prefixes d.line (codes "Ontology") (nest 0 [] none) Nothing)) d.inside (at d.close Close ∷ []) ∙ closes,
      d.root,
    )
