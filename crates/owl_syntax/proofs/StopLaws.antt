-- What one token more, or the end of all tokens, tells.
use Rattle.std.proofs.Common.{◌≡◌, ◌≢◌, ℕ, List, [], ◌∷◌, ◌++◌, Option, Some, None, refl, ap, ◌∙◌, append_assoc, codes}
use Rattle.dl_text.specs.declared.kinds.ReadKind.{ReadKind}
use Rattle.dl_text.specs.declared.kinds.ReadKind.TheVariants.{TooDeep}
use Rattle.owl_syntax.specs.declared.nodes.PrefixLine.{PrefixLine}
use Rattle.owl_syntax.specs.Shapes.{Shape, Token, at}
use Rattle.owl_syntax.specs.Trees.{Forest, none, word, Content}
use Rattle.owl_syntax.specs.Grammar.{IsShallow, IsFront, IsDocument, StopsAtToken, StopsAtEnd}
use Rattle.owl_syntax.specs.Reading.{State, Lines, Done, after_shape, runs, kind_in, state_in}
use Rattle.owl_syntax.specs.declared.states.Nest as nest_type
use Rattle.owl_syntax.specs.declared.states.Phase as phase_type
use Rattle.owl_syntax.specs.declared.states.Phase.TheVariants as phases
use Rattle.owl_syntax.proofs.RunLaws.{runs_push, runs_stuck}
use Rattle.owl_syntax.proofs.AcceptLaws.{accepts}
use Rattle.owl_syntax.proofs.StateLaws.{covers, alive, done_spells}
use Rattle.owl_syntax.proofs.DepthLaws.{room, too_deep, kind_is}

-- the reader has gone through these tokens
abbrev pub IsGoing : State → List Token → Type 0
IsGoing s ts = (runs (Some (Lines [])) ts ≡ Some s) × IsShallow ts

pub going_front : (s : State) (ts : List Token) → IsGoing s ts → IsFront ts
going_front s ts g = (g.1, alive s ts (covers s ts g.0))

pub going_more : (s u : State) (ts : List Token) (line : ℕ) (shape : Shape) → IsGoing s ts → kind_in s shape ≢ TooDeep → after_shape s line shape ≡ Some u → IsGoing u (ts ++ at line shape ∷ [])
going_more s u ts line shape g n e = (runs_push (Some (Lines [])) ts s (at line shape) g.0 ∙ e, room s ts line shape g.0 g.1 n)

stops : (s : State) (ts : List Token) (line : ℕ) (shape : Shape) → IsGoing s ts → ¬ IsFront (ts ++ at line shape ∷ []) → StopsAtToken (ts ++ at line shape ∷ []) line (kind_in s shape)
stops s ts line shape g n = record {
  front = ts;
  token = at line shape;
  rest = [];
  is = refl;
  good = going_front s ts g;
  stuck = n;
  line_is = refl;
  kind_is = kind_is s ts line shape g.0 g.1;
}

pub stops_deep : (s : State) (ts : List Token) (line : ℕ) (shape : Shape) → IsGoing s ts → kind_in s shape ≡ TooDeep → StopsAtToken (ts ++ at line shape ∷ []) line (kind_in s shape)
stops_deep s ts line shape g k = stops s ts line shape g (λ f. too_deep s ts line shape g.0 k f.0)

pub stops_here : (s : State) (ts : List Token) (line : ℕ) (shape : Shape) → IsGoing s ts → after_shape s line shape ≡ None → StopsAtToken (ts ++ at line shape ∷ []) line (kind_in s shape)
stops_here s ts line shape g e = stops s ts line shape g never
  where
    never : ¬ IsFront (ts ++ at line shape ∷ [])
    never (h, (rest, content, d)) =
        let a = accepts ((ts ++ at line shape ∷ []) ++ rest) content d in
        runs_stuck (Some (Lines [])) ts rest s (Done content.prefixes a.0 (codes "Ontology") a.1) (at line shape) g.0 e a.2

pub stopped_more : (ts : List Token) (t : Token) (line : ℕ) (kind : ReadKind) → StopsAtToken ts line kind → StopsAtToken (ts ++ t ∷ []) line kind
stopped_more ts t line kind s = record {
  front = s.front;
  token = s.token;
  rest = s.rest ++ t ∷ [];
  is = ap (λ (z : List Token). z ++ t ∷ []) s.is ∙ append_assoc s.front (s.token ∷ s.rest) (t ∷ []);
  good = s.good;
  stuck = s.stuck;
  line_is = s.line_is;
  kind_is = s.kind_is;
}

-- a state that is no end
abbrev pub IsUnfinished : State → Type 0
IsUnfinished s = (lines : List PrefixLine) (line : ℕ) (text : List ℕ) (args : Forest) → s ≢ Done lines line text args

same_some : (o : Option State) (s t : State) → o ≡ Some s → o ≡ Some t → s ≡ t
same_some o s t h k = cc

pub ends_early : (s : State) (ts : List Token) → IsGoing s ts → IsUnfinished s → StopsAtEnd ts
ends_early s ts g n = record { good = going_front s ts g; short = never }
  where
    never : (content : Content) → ¬ IsDocument ts content
    never content (h, d) =
        let a = accepts ts content d in
        n content.prefixes a.0 (codes "Ontology") a.1 (same_some (runs (Some (Lines [])) ts) s (Done content.prefixes a.0 (codes "Ontology") a.1) g.0 a.2)

pub ends_well : (lines : List PrefixLine) (line : ℕ) (text : List ℕ) (args : Forest) (content : Content) (ts : List Token) → IsGoing (Done lines line text args) ts
    → content.prefixes ≡ lines → content.root ≡ word none line text args → IsDocument ts content
ends_well lines line text args content ts g p r = (g.1, done_spells lines line text args content ts (covers (Done lines line text args) ts g.0) p r)

-- a state of the code that is no end
pub unfinished : (phase : phase_type.Phase) (lines : List PrefixLine) (line : ℕ) (text : List ℕ) (nest : nest_type.Nest)
    → phase ≢ phases.Done → IsUnfinished (state_in phase lines line text nest)
unfinished phases.Lines ls l t m n lines line text args e = cc
unfinished (phases.Prefix p) ls l t m n lines line text args e = cc
unfinished phases.Root ls l t m n lines line text args e = cc
unfinished phases.Body ls l t m n lines line text args e = cc
unfinished phases.Done ls l t m n lines line text args e = n refl
