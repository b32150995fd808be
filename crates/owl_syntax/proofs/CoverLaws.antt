-- Each state of the reader stands for the tokens that it has gone through.
use Rattle.std.proofs.Common.{◌≡◌, ◌+◌, ℕ, List, [], ◌∷◌, ◌++◌, Bool, true, false, cond, refl, ap, sym, ◌∙◌, subst, nat_lt, nat_le, append_assoc}
use Rattle.std.proofs.lemmas.List.{append-nil}
use Rattle.std.proofs.lemmas.Bool.{ltb-true, leb-true}
use Rattle.owl_syntax.specs.Shapes.{Shape, Gap, Open, Close, Equals, Hats, Tag, Word, Iri, Prefixed, Blank, Digits, Text, Token, at}
use Rattle.owl_syntax.specs.Trees.{untyped, by_iri, by_name, Leaf, iri, blank, digits, prefixed, literal, Forest, none, leaf, word, group}
use Rattle.owl_syntax.specs.Grammar.{bare, tagged, typed, SpellsLeaf, Spells, nothing, one_leaf, one_word, one_group, rank_of, InOrder}
use Rattle.owl_syntax.specs.Reading.{Head, of_word, of_group, Opened, opened, Nest, nest, Pending, Nothing, AWord, AText, SomeHats, Stepped, On, Closed, Stuck, close_with, ready, stepped, behind_word, behind_text, behind_hats}

abbrev pub IsHead : Head → List Token → Type 0
IsHead (of_word line text) ts = (opens : ℕ) × (ts ≡ at line (Word text) ∷ at opens Open ∷ [])
IsHead (of_group line) ts = ts ≡ at line Open ∷ []

-- the tokens up to the innermost open parenthesis
abbrev pub CoversOuter : List Opened → List Token → Type 0
CoversOuter [] ts = ts ≡ []
CoversOuter (opened before head ∷ outer) ts = (us vs ws : List Token) × CoversOuter outer us × Spells vs before × IsHead head ws × (ts ≡ us ++ (vs ++ ws))

abbrev pub CoversPending : Pending → List Token → Type 0
CoversPending Nothing ts = ts ≡ []
CoversPending (AWord line text) ts = ts ≡ at line (Word text) ∷ []
CoversPending (AText line text) ts = ts ≡ at line (Text text) ∷ []
CoversPending (SomeHats line text) ts = (h : ℕ) × (ts ≡ at line (Text text) ∷ at h Hats ∷ [])

abbrev pub IsOrderedOuter : ℕ → List Opened → Type 0
IsOrderedOuter rank [] = ⊥
IsOrderedOuter rank (opened before head ∷ []) = InOrder (close_with before head none) rank
IsOrderedOuter rank (opened before head ∷ o ∷ outer) = IsOrderedOuter rank (o ∷ outer)

abbrev pub IsOrdered : ℕ → List Opened → Forest → Pending → Type 0
IsOrdered rank [] since Nothing = InOrder since rank
IsOrdered rank [] since (AWord line text) = InOrder (word since line text none) rank
IsOrdered rank [] since (AText line text) = ⊥
IsOrdered rank [] since (SomeHats line text) = ⊥
IsOrdered rank (o ∷ outer) since p = IsOrderedOuter rank (o ∷ outer)

pub record CoversNest (rank : ℕ) (outer : List Opened) (since : Forest) (p : Pending) (ts : List Token) : Type 0 where
  pub us : List Token
  pub vs : List Token
  pub ws : List Token
  pub before : CoversOuter outer us
  pub here : Spells vs since
  pub pending : CoversPending p ws
  pub ordered : IsOrdered rank outer since p
  pub is : ts ≡ us ++ (vs ++ ws)

abbrev pub CoversBody : Nest → Pending → List Token → Type 0
CoversBody (nest rank outer since) p ts = CoversNest rank outer since p ts

abbrev pub CoversStepped : Stepped → List Token → Type 0
CoversStepped (On n p) ts = CoversBody n p ts
CoversStepped (Closed args) ts = (vs : List Token) × (rank close : ℕ) × Spells vs args × InOrder args rank × (ts ≡ vs ++ at close Close ∷ [])
CoversStepped Stuck ts = Unit {0}

cond_case : (P : Stepped → Type 0) (b : Bool) (x y : Stepped) → (b ≡ true → P x) → (b ≡ false → P y) → P (cond b x y)
cond_case P true x y f g = f refl
cond_case P false x y f g = g refl

two : (us vs ws qs : List Token) → (us ++ (vs ++ ws)) ++ qs ≡ us ++ ((vs ++ ws) ++ qs)
two us vs ws qs = append_assoc us (vs ++ ws) qs

three : (us vs ws qs : List Token) → (us ++ (vs ++ ws)) ++ qs ≡ us ++ (vs ++ (ws ++ qs))
three us vs ws qs = append_assoc us (vs ++ ws) qs ∙ ap (λ (z : List Token). us ++ z) (append_assoc vs ws qs)

-- a leaf more
more_leaf : (rank r : ℕ) (outer : List Opened) (since : Forest) (p : Pending) (ts qs : List Token) (it : Leaf) → (c : CoversNest rank outer since p ts) → SpellsLeaf (c.ws ++ qs) it
    → IsOrdered r outer (leaf since it) Nothing → CoversNest r outer (leaf since it) Nothing (ts ++ qs)
more_leaf rank r outer since p ts qs it c l o = record {
  us = c.us;
  vs = c.vs ++ (c.ws ++ qs);
  ws = [];
  before = c.before;
  here = one_leaf (c.vs ++ (c.ws ++ qs)) (leaf since it) c.vs (c.ws ++ qs) since it c.here l refl refl;
  pending = refl;
  ordered = o;
  is = ap (λ (z : List Token). z ++ qs) c.is ∙ three c.us c.vs c.ws qs ∙ ap (λ (z : List Token). c.us ++ z) (sym (append-nil (c.vs ++ (c.ws ++ qs))));
}

-- what is pending grows
more_pending : (rank r : ℕ) (outer : List Opened) (since : Forest) (p q : Pending) (ts qs : List Token) → (c : CoversNest rank outer since p ts) → CoversPending q (c.ws ++ qs)
    → IsOrdered r outer since q → CoversNest r outer since q (ts ++ qs)
more_pending rank r outer since p q ts qs c l o = record {
  us = c.us;
  vs = c.vs;
  ws = c.ws ++ qs;
  before = c.before;
  here = c.here;
  pending = l;
  ordered = o;
  is = ap (λ (z : List Token). z ++ qs) c.is ∙ three c.us c.vs c.ws qs;
}

-- one parenthesis more
more_open : (rank : ℕ) (outer : List Opened) (since : Forest) (p : Pending) (ts qs : List Token) (head : Head) → (c : CoversNest rank outer since p ts) → IsHead head (c.ws ++ qs)
    → IsOrderedOuter rank (opened since head ∷ outer) → CoversNest rank (opened since head ∷ outer) none Nothing (ts ++ qs)
more_open rank outer since p ts qs head c h o = record {
  us = ts ++ qs;
  vs = [];
  ws = [];
  before = (c.us, c.vs, c.ws ++ qs, c.before, c.here, h, ap (λ (z : List Token). z ++ qs) c.is ∙ three c.us c.vs c.ws qs);
  here = nothing [] none refl refl;
  pending = refl;
  ordered = o;
  is = sym (append-nil (ts ++ qs));
}

open_order : (rank : ℕ) (outer : List Opened) (since : Forest) (line : ℕ) (text : List ℕ) → IsOrdered rank outer since (AWord line text) → IsOrderedOuter rank (opened since (of_word line text) ∷ outer)
open_order rank [] since line text o = o
open_order rank (x ∷ outer) since line text o = o

close_order : (rank : ℕ) (outer : List Opened) (before : Forest) (head : Head) (args : Forest) → IsOrderedOuter rank (opened before head ∷ outer) → IsOrdered rank outer (close_with before head args) Nothing
close_order rank [] before (of_word line text) args o = o
close_order rank [] before (of_group line) args o = o
close_order rank (x ∷ outer) before head args o = o

-- the node of parentheses that close
closes : (before args : Forest) (head : Head) (us vs ws : List Token) (line : ℕ) → Spells us before → Spells vs args → IsHead head ws → Spells (us ++ (ws ++ (vs ++ at line Close ∷ []))) (close_with before head args)
closes before args (of_word l t) us vs ws line s a (o, e) =
    one_word (us ++ (ws ++ (vs ++ at line Close ∷ []))) (word before l t args) us vs before args l o line t s a
    (ap (λ (z : List Token). us ++ (z ++ (vs ++ at line Close ∷ []))) e) refl
closes before args (of_group l) us vs ws line s a e =
    one_group (us ++ (ws ++ (vs ++ at line Close ∷ []))) (group before l args) us vs before args l line s a
    (ap (λ (z : List Token). us ++ (z ++ (vs ++ at line Close ∷ []))) e) refl

-- one parenthesis less
less_open : (rank : ℕ) (outer : List Opened) (before since : Forest) (head : Head) (ts : List Token) (line : ℕ) → CoversNest rank (opened before head ∷ outer) since Nothing ts
    → CoversNest rank outer (close_with before head since) Nothing (ts ++ at line Close ∷ [])
less_open rank outer before since head ts line c = on c.before
  where
    on : CoversOuter (opened before head ∷ outer) c.us → CoversNest rank outer (close_with before head since) Nothing (ts ++ at line Close ∷ [])
    on (us, vs, ws, o, s, h, e) =
        let qs : List Token = at line Close ∷ [] in
        let inner : c.vs ++ c.ws ≡ c.vs = ap (λ (z : List Token). c.vs ++ z) c.pending ∙ append-nil c.vs in
        record {
          us = us;
          vs = vs ++ (ws ++ (c.vs ++ qs));
          ws = [];
          before = o;
          here = closes before since head vs c.vs ws line s c.here h;
          pending = refl;
          ordered = close_order rank outer before head since (order outer c.ordered);
          is = ap (λ (z : List Token). z ++ qs) (c.is ∙ ap (λ (z : List Token). c.us ++ z) inner) ∙ append_assoc c.us c.vs qs ∙ ap (λ (z : List Token). z ++ (c.vs ++ qs)) e
              ∙ three us vs ws (c.vs ++ qs) ∙ ap (λ (z : List Token). us ++ z) (sym (append-nil (vs ++ (ws ++ (c.vs ++ qs)))));
        }
      where
        order : (outer : List Opened) → IsOrdered rank (opened before head ∷ outer) since Nothing → IsOrderedOuter rank (opened before head ∷ outer)
        order outer o = o

nothing_before : (rank : ℕ) (outer : List Opened) (since : Forest) (ts qs : List Token) → (c : CoversNest rank outer since Nothing ts) → c.ws ++ qs ≡ qs
nothing_before rank outer since ts qs c = ap (λ (z : List Token). z ++ qs) c.pending

-- a token where nothing is pending
pub ready_covers : (rank : ℕ) (outer : List Opened) (since : Forest) (ts : List Token) (line : ℕ) (shape : Shape) → CoversNest rank outer since Nothing ts
    → CoversStepped (ready (nest rank outer since) line shape) (ts ++ at line shape ∷ [])
ready_covers rank [] since ts line Gap c = tt
ready_covers rank [] since ts line Open c = tt
ready_covers rank [] since ts line Equals c = tt
ready_covers rank [] since ts line Hats c = tt
ready_covers rank [] since ts line (Tag t) c = tt
ready_covers rank [] since ts line (Blank t) c = tt
ready_covers rank [] since ts line (Digits t) c = tt
ready_covers rank [] since ts line (Text t) c = tt
ready_covers rank [] since ts line (Iri t) c =
    cond_case (λ (s : Stepped). CoversStepped s (ts ++ at line (Iri t) ∷ [])) (nat_lt rank 2) (On (nest (rank + 1) [] (leaf since (iri line t))) Nothing) Stuck
    (λ b. more_leaf rank (rank + 1) [] since Nothing ts (at line (Iri t) ∷ []) (iri line t) c (nothing_before rank [] since ts (at line (Iri t) ∷ []) c) (rank, c.ordered, ltb-true rank 2 b, refl))
    (λ b. tt)
ready_covers rank [] since ts line (Prefixed p t) c =
    cond_case (λ (s : Stepped). CoversStepped s (ts ++ at line (Prefixed p t) ∷ [])) (nat_lt rank 2) (On (nest (rank + 1) [] (leaf since (prefixed line p t))) Nothing) Stuck
    (λ b. more_leaf rank (rank + 1) [] since Nothing ts (at line (Prefixed p t) ∷ []) (prefixed line p t) c (nothing_before rank [] since ts (at line (Prefixed p t) ∷ []) c) (rank, c.ordered, ltb-true rank 2 b, refl))
    (λ b. tt)
ready_covers rank [] since ts line (Word t) c =
    cond_case (λ (s : Stepped). CoversStepped s (ts ++ at line (Word t) ∷ [])) (nat_le rank (rank_of t)) (On (nest (rank_of t) [] since) (AWord line t)) Stuck
    (λ b. more_pending rank (rank_of t) [] since Nothing (AWord line t) ts (at line (Word t) ∷ []) c (nothing_before rank [] since ts (at line (Word t) ∷ []) c) (rank, c.ordered, leb-true rank (rank_of t) b, refl))
    (λ b. tt)
ready_covers rank [] since ts line Close c =
    (c.vs, rank, line, c.here, c.ordered, ap (λ (z : List Token). z ++ at line Close ∷ []) (c.is ∙ ap (λ (z : List Token). z ++ (c.vs ++ c.ws)) c.before ∙ ap (λ (z : List Token). c.vs ++ z) c.pending ∙ append-nil c.vs))
ready_covers rank (o ∷ outer) since ts line Gap c = tt
ready_covers rank (o ∷ outer) since ts line Equals c = tt
ready_covers rank (o ∷ outer) since ts line Hats c = tt
ready_covers rank (o ∷ outer) since ts line (Tag t) c = tt
ready_covers rank (o ∷ outer) since ts line (Iri t) c = more_leaf rank rank (o ∷ outer) since Nothing ts (at line (Iri t) ∷ []) (iri line t) c (nothing_before rank (o ∷ outer) since ts (at line (Iri t) ∷ []) c) c.ordered
ready_covers rank (o ∷ outer) since ts line (Prefixed p t) c =
    more_leaf rank rank (o ∷ outer) since Nothing ts (at line (Prefixed p t) ∷ []) (prefixed line p t) c (nothing_before rank (o ∷ outer) since ts (at line (Prefixed p t) ∷ []) c) c.ordered
ready_covers rank (o ∷ outer) since ts line (Blank t) c = more_leaf rank rank (o ∷ outer) since Nothing ts (at line (Blank t) ∷ []) (blank line t) c (nothing_before rank (o ∷ outer) since ts (at line (Blank t) ∷ []) c) c.ordered
ready_covers rank (o ∷ outer) since ts line (Digits t) c = more_leaf rank rank (o ∷ outer) since Nothing ts (at line (Digits t) ∷ []) (digits line t) c (nothing_before rank (o ∷ outer) since ts (at line (Digits t) ∷ []) c) c.ordered
ready_covers rank (o ∷ outer) since ts line (Text t) c = more_pending rank rank (o ∷ outer) since Nothing (AText line t) ts (at line (Text t) ∷ []) c (nothing_before rank (o ∷ outer) since ts (at line (Text t) ∷ []) c) c.ordered
ready_covers rank (o ∷ outer) since ts line (Word t) c = more_pending rank rank (o ∷ outer) since Nothing (AWord line t) ts (at line (Word t) ∷ []) c (nothing_before rank (o ∷ outer) since ts (at line (Word t) ∷ []) c) c.ordered
ready_covers rank (o ∷ outer) since ts line Open c = more_open rank (o ∷ outer) since Nothing ts (at line Open ∷ []) (of_group line) c (nothing_before rank (o ∷ outer) since ts (at line Open ∷ []) c) c.ordered
ready_covers rank (opened before head ∷ outer) since ts line Close c = less_open rank outer before since head ts line c

-- a string without tag or datatype
pub settle_text : (rank : ℕ) (outer : List Opened) (since : Forest) (ts : List Token) (line : ℕ) (text : List ℕ) → CoversNest rank outer since (AText line text) ts
    → CoversNest rank outer (leaf since (literal line text [] untyped)) Nothing ts
settle_text rank [] since ts line text c = absurd c.ordered
settle_text rank (o ∷ outer) since ts line text c =
    subst (λ (z : List Token). CoversNest rank (o ∷ outer) (leaf since (literal line text [] untyped)) Nothing z) (append-nil ts)
    (more_leaf rank rank (o ∷ outer) since (AText line text) ts [] (literal line text [] untyped) c ([], append-nil c.ws ∙ c.pending, bare refl refl refl) c.ordered)

text_covers : (rank : ℕ) (outer : List Opened) (since : Forest) (ts : List Token) (at_line : ℕ) (text : List ℕ) (line : ℕ) (shape : Shape) → CoversNest rank outer since (AText at_line text) ts
    → CoversStepped (behind_text (nest rank outer since) at_line text line shape) (ts ++ at line shape ∷ [])
text_covers rank [] since ts l t line shape c = absurd c.ordered
text_covers rank (o ∷ outer) since ts l t line Hats c =
    more_pending rank rank (o ∷ outer) since (AText l t) (SomeHats l t) ts (at line Hats ∷ []) c (line, ap (λ (z : List Token). z ++ at line Hats ∷ []) c.pending) c.ordered
text_covers rank (o ∷ outer) since ts l t line (Tag g) c =
    more_leaf rank rank (o ∷ outer) since (AText l t) ts (at line (Tag g) ∷ []) (literal l t g untyped) c
    (at line (Tag g) ∷ [], ap (λ (z : List Token). z ++ at line (Tag g) ∷ []) c.pending, tagged line refl refl) c.ordered
text_covers rank (o ∷ outer) since ts l t line shape c = ready_covers rank (o ∷ outer) (leaf since (literal l t [] untyped)) ts line shape (settle_text rank (o ∷ outer) since ts l t c)

hats_covers : (rank : ℕ) (outer : List Opened) (since : Forest) (ts : List Token) (at_line : ℕ) (text : List ℕ) (line : ℕ) (shape : Shape) → CoversNest rank outer since (SomeHats at_line text) ts
    → CoversStepped (behind_hats (nest rank outer since) at_line text line shape) (ts ++ at line shape ∷ [])
hats_covers rank [] since ts l t line shape c = absurd c.ordered
hats_covers rank (o ∷ outer) since ts l t line (Iri i) c =
    more_leaf rank rank (o ∷ outer) since (SomeHats l t) ts (at line (Iri i) ∷ []) (literal l t [] (by_iri line i)) c
    (at c.pending.0 Hats ∷ at line (Iri i) ∷ [], ap (λ (z : List Token). z ++ at line (Iri i) ∷ []) c.pending.1, typed c.pending.0 (at line (Iri i)) refl refl refl) c.ordered
hats_covers rank (o ∷ outer) since ts l t line (Prefixed p x) c =
    more_leaf rank rank (o ∷ outer) since (SomeHats l t) ts (at line (Prefixed p x) ∷ []) (literal l t [] (by_name line p x)) c
    (at c.pending.0 Hats ∷ at line (Prefixed p x) ∷ [], ap (λ (z : List Token). z ++ at line (Prefixed p x) ∷ []) c.pending.1, typed c.pending.0 (at line (Prefixed p x)) refl refl refl) c.ordered
hats_covers rank (o ∷ outer) since ts l t line shape c = tt

word_covers : (rank : ℕ) (outer : List Opened) (since : Forest) (ts : List Token) (at_line : ℕ) (text : List ℕ) (line : ℕ) (shape : Shape) → CoversNest rank outer since (AWord at_line text) ts
    → CoversStepped (behind_word (nest rank outer since) at_line text shape) (ts ++ at line shape ∷ [])
word_covers rank outer since ts l t line Open c =
    more_open rank outer since (AWord l t) ts (at line Open ∷ []) (of_word l t) c (line, ap (λ (z : List Token). z ++ at line Open ∷ []) c.pending) (open_order rank outer since l t c.ordered)
word_covers rank outer since ts l t line shape c = tt

pub stepped_covers : (n : Nest) (p : Pending) (ts : List Token) (line : ℕ) (shape : Shape) → CoversBody n p ts → CoversStepped (stepped n p line shape) (ts ++ at line shape ∷ [])
stepped_covers (nest rank outer since) Nothing ts line shape c = ready_covers rank outer since ts line shape c
stepped_covers (nest rank outer since) (AWord l t) ts line shape c = word_covers rank outer since ts l t line shape c
stepped_covers (nest rank outer since) (AText l t) ts line shape c = text_covers rank outer since ts l t line shape c
stepped_covers (nest rank outer since) (SomeHats l t) ts line shape c = hats_covers rank outer since ts l t line shape c
