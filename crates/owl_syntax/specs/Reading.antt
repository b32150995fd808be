-- The reader's own table, which its inner functions cite. No public contract names it.
use Rattle.std.specs.Prelude.{◌≡◌, ◌+◌, ℕ, List, [], ◌∷◌, ◌++◌, length, reverse, map, Bool, true, false, cond, nat_lt, nat_le, ◌==◌, codes, Option, Some, None, Result, Ok, Err}
use Rattle.std.specs.Str.{bytes_eq}
use Rattle.dl_text.specs.declared.kinds.ReadKind.{ReadKind}
use Rattle.dl_text.specs.declared.kinds.ReadKind.TheVariants.{Syntax, TooDeep}
use Rattle.owl_syntax.specs.declared.nodes.PrefixLine.{PrefixLine}
use Rattle.owl_syntax.specs.declared.nodes.Node as nodes_type
use Rattle.owl_syntax.specs.declared.states.Head as heads_type
use Rattle.owl_syntax.specs.declared.states.Head.TheVariants as heads
use Rattle.owl_syntax.specs.declared.states.Opened as opened_type
use Rattle.owl_syntax.specs.declared.states.Nest as nest_type
use Rattle.owl_syntax.specs.declared.states.Pending as pending_type
use Rattle.owl_syntax.specs.declared.states.Pending.TheVariants as pendings
use Rattle.owl_syntax.specs.declared.states.Part as part_type
use Rattle.owl_syntax.specs.declared.states.Part.TheVariants as parts
use Rattle.owl_syntax.specs.declared.states.Phase as phase_type
use Rattle.owl_syntax.specs.declared.states.Phase.TheVariants as phases
use Rattle.owl_syntax.specs.declared.states.State as state_type
use Rattle.owl_syntax.specs.declared.states.Turn as turn_type
use Rattle.owl_syntax.specs.declared.states.Turn.TheVariants as turns
use Rattle.owl_syntax.specs.Shapes.{Shape, Gap, Open, Close, Equals, Hats, Tag, Word, Iri, Prefixed, Blank, Digits, Text, Token, at}
use Rattle.owl_syntax.specs.Trees.{untyped, by_iri, by_name, iri, blank, digits, prefixed, literal, Forest, none, leaf, word, group, forest_of, attach, Content}
use Rattle.owl_syntax.specs.declared.parsing.Progress as progress_type
use Rattle.owl_syntax.specs.declared.parsing.Stop as stop_type
use Rattle.dl_base.specs.declared.memory.OutOfMemory.{OutOfMemory}
use Rattle.dl_runs.specs.Classes.{IsBlank}
use Rattle.dl_text.specs.declared.refusals.ReadRefusal.{ReadRefusal}
use Rattle.dl_text.specs.declared.refusals.ReadRefusal.TheVariants.{Refused}
use Rattle.dl_text.specs.declared.refusals.ReadRefusal.TheVariants as refusals
use Rattle.owl_syntax.specs.Grammar.{rank_of, has_name, StopsAtToken, Stops, IsShallow, IsDocument}

-- what opened parentheses
pub data Head : Type 0 where
  of_word : (line : ℕ) (text : List ℕ) → Head
  of_group : (line : ℕ) → Head

-- open parentheses: the nodes before them, and what opened them
pub data Opened : Type 0 where
  opened : (before : Forest) (head : Head) → Opened

-- the nodes inside a document: the rank of the frame, the open parentheses from the inside out, the nodes since
pub data Nest : Type 0 where
  nest : (rank : ℕ) (outer : List Opened) (since : Forest) → Nest

pub data Pending : Type 0 where
  Nothing : Pending
  AWord AText SomeHats : (line : ℕ) (text : List ℕ) → Pending

pub data Part : Type 0 where
  Begun Started : Part
  Named Equalled : (name : List ℕ) → Part
  Valued : (name iri : List ℕ) → Part

pub data Stepped : Type 0 where
  On : (nest : Nest) (pending : Pending) → Stepped
  Closed : (args : Forest) → Stepped
  Stuck : Stepped

pub data State : Type 0 where
  Lines : (lines : List PrefixLine) → State
  InPrefix : (lines : List PrefixLine) (line : ℕ) (part : Part) → State
  Root : (lines : List PrefixLine) (line : ℕ) (text : List ℕ) → State
  Body : (lines : List PrefixLine) (line : ℕ) (text : List ℕ) (nest : Nest) (pending : Pending) → State
  Done : (lines : List PrefixLine) (line : ℕ) (text : List ℕ) (args : Forest) → State

-- nodes that grew by one
abbrev pub added : Nest → (Forest → Forest) → Nest
added (nest rank outer since) grow = nest rank outer (grow since)

abbrev pub close_with : Forest → Head → Forest → Forest
close_with before (of_word line text) args = word before line text args
close_with before (of_group line) args = group before line args

-- no parentheses are open but those of the document
abbrev pub is_frame : List Opened → Bool
is_frame [] = true
is_frame (o ∷ outer) = false

-- a node that may not stand in the frame
abbrev pub put_leaf : Nest → (Forest → Forest) → Stepped
put_leaf (nest rank outer since) grow = cond (is_frame outer) Stuck (On (nest rank outer (grow since)) Nothing)

abbrev pub put_name : Nest → (Forest → Forest) → Stepped
put_name (nest rank outer since) grow =
    cond (is_frame outer) (cond (nat_lt rank 2) (On (nest (rank + 1) outer (grow since)) Nothing) Stuck) (On (nest rank outer (grow since)) Nothing)

abbrev pub put_word : Nest → ℕ → List ℕ → Stepped
put_word (nest rank outer since) line text =
    cond (is_frame outer) (cond (nat_le rank (rank_of text)) (On (nest (rank_of text) outer since) (AWord line text)) Stuck) (On (nest rank outer since) (AWord line text))

abbrev pub put_text : Nest → ℕ → List ℕ → Stepped
put_text (nest rank outer since) line text = cond (is_frame outer) Stuck (On (nest rank outer since) (AText line text))

abbrev pub open_with : Nest → Head → Stepped
open_with (nest rank outer since) head = On (nest rank (opened since head ∷ outer) none) Nothing

abbrev pub put_group : Nest → ℕ → Stepped
put_group (nest rank outer since) line = cond (is_frame outer) Stuck (open_with (nest rank outer since) (of_group line))

abbrev pub closed : Nest → Stepped
closed (nest rank [] since) = Closed since
closed (nest rank (opened before head ∷ outer) since) = On (nest rank outer (close_with before head since)) Nothing

-- a token where no node is pending
abbrev pub ready : Nest → ℕ → Shape → Stepped
ready n line (Iri text) = put_name n (λ f. leaf f (iri line text))
ready n line (Prefixed prefix local) = put_name n (λ f. leaf f (prefixed line prefix local))
ready n line (Blank label) = put_leaf n (λ f. leaf f (blank line label))
ready n line (Digits text) = put_leaf n (λ f. leaf f (digits line text))
ready n line (Text text) = put_text n line text
ready n line (Word text) = put_word n line text
ready n line Open = put_group n line
ready n line Close = closed n
ready n line (Tag tag) = Stuck
ready n line Equals = Stuck
ready n line Hats = Stuck
ready n line Gap = Stuck

-- a token behind a word
abbrev pub behind_word : Nest → ℕ → List ℕ → Shape → Stepped
behind_word n at_line text Open = open_with n (of_word at_line text)
behind_word n at_line text shape = Stuck

-- a token behind a string
abbrev pub behind_text : Nest → ℕ → List ℕ → ℕ → Shape → Stepped
behind_text n at_line text line Hats = On n (SomeHats at_line text)
behind_text n at_line text line (Tag tag) = On (added n (λ f. leaf f (literal at_line text tag untyped))) Nothing
behind_text n at_line text line shape = ready (added n (λ f. leaf f (literal at_line text [] untyped))) line shape

-- a token behind a string and ^^
abbrev pub behind_hats : Nest → ℕ → List ℕ → ℕ → Shape → Stepped
behind_hats n at_line text line (Iri inner) = On (added n (λ f. leaf f (literal at_line text [] (by_iri line inner)))) Nothing
behind_hats n at_line text line (Prefixed prefix local) = On (added n (λ f. leaf f (literal at_line text [] (by_name line prefix local)))) Nothing
behind_hats n at_line text line shape = Stuck

abbrev pub stepped : Nest → Pending → ℕ → Shape → Stepped
stepped n Nothing line shape = ready n line shape
stepped n (AWord at_line text) line shape = behind_word n at_line text shape
stepped n (AText at_line text) line shape = behind_text n at_line text line shape
stepped n (SomeHats at_line text) line shape = behind_hats n at_line text line shape

-- a token in a prefix line before its last parenthesis
abbrev pub next_part : List PrefixLine → Part → Shape → Option Part
next_part lines Begun Open = Some Started
next_part lines Started (Prefixed named local) = cond (length local == 0) (cond (has_name lines named) None (Some (Named named))) None
next_part lines (Named named) Equals = Some (Equalled named)
next_part lines (Equalled named) (Iri inner) = Some (Valued named inner)
next_part lines part shape = None

abbrev pub in_prefix : List PrefixLine → ℕ → Option Part → Option State
in_prefix lines line None = None
in_prefix lines line (Some part) = Some (InPrefix lines line part)

abbrev pub between : List PrefixLine → ℕ → Shape → Option State
between lines line (Word text) =
    cond (bytes_eq text (codes "Prefix")) (Some (InPrefix lines line Begun)) (cond (bytes_eq text (codes "Ontology")) (Some (Root lines line text)) None)
between lines line shape = None

abbrev pub in_body : List PrefixLine → ℕ → List ℕ → Stepped → Option State
in_body lines line text (On n pending) = Some (Body lines line text n pending)
in_body lines line text (Closed args) = Some (Done lines line text args)
in_body lines line text Stuck = None

abbrev pub prefix_step : List PrefixLine → ℕ → Part → Shape → Option State
prefix_step lines line (Valued named inner) Close = Some (Lines (lines ++ record { line = line; name = named; iri = inner } ∷ []))
prefix_step lines line part shape = in_prefix lines line (next_part lines part shape)

abbrev pub begun : List PrefixLine → ℕ → List ℕ → Shape → Option State
begun lines line text Open = Some (Body lines line text (nest 0 [] none) Nothing)
begun lines line text shape = None

abbrev pub after_shape : State → ℕ → Shape → Option State
after_shape (Lines lines) line shape = between lines line shape
after_shape (InPrefix lines at_line part) line shape = prefix_step lines at_line part shape
after_shape (Root lines at_line text) line shape = begun lines at_line text shape
after_shape (Body lines at_line text n pending) line shape = in_body lines at_line text (stepped n pending line shape)
after_shape (Done lines at_line text args) line shape = None

-- the reader's table
abbrev pub after : State → Token → Option State
after state (at line shape) = after_shape state line shape

abbrev pub then : Option State → Token → Option State
then None token = None
then (Some state) token = after state token

-- the state behind these tokens
abbrev pub runs : Option State → List Token → Option State
runs state [] = state
runs state (token ∷ tokens) = runs (then state token) tokens

abbrev pub nest_depth : Nest → ℕ
nest_depth (nest rank outer since) = length outer

-- as many parentheses are open as may be
abbrev pub is_full : State → Bool
is_full (Lines lines) = false
is_full (InPrefix lines line part) = false
is_full (Root lines line text) = false
is_full (Body lines line text n pending) = nat_le 15 (nest_depth n)
is_full (Done lines line text args) = false

-- the kind of refusal of a token that the state doesn't take
abbrev pub kind_in : State → Shape → ReadKind
kind_in state Open = cond (is_full state) TooDeep Syntax
kind_in state shape = Syntax

-- what contracts see of the reader's types
abbrev pub head_of : heads_type.Head → Head
head_of (heads.Word line text) = of_word line text.now
head_of (heads.Group line) = of_group line

abbrev pub opened_of : opened_type.Opened → Opened
opened_of o = opened (forest_of o.before.items) (head_of o.head)

abbrev pub outer_of : List opened_type.Opened → List Opened
outer_of os = reverse (map opened_of os)

abbrev pub nest_of : nest_type.Nest → Nest
nest_of n = nest n.rank (outer_of n.outer.items) (forest_of n.since.items)

abbrev pub pending_of : pending_type.Pending → Pending
pending_of pendings.Nothing = Nothing
pending_of (pendings.Word line text) = AWord line text.now
pending_of (pendings.Text line text) = AText line text.now
pending_of (pendings.Hats line text) = SomeHats line text.now

abbrev pub part_of : part_type.Part → Part
part_of parts.Begun = Begun
part_of parts.Opened = Started
part_of (parts.Named named) = Named named.now
part_of (parts.Equalled named) = Equalled named.now
part_of (parts.Valued named inner) = Valued named.now inner.now

abbrev pub turn_of : nest_type.Nest → turn_type.Turn → Stepped
turn_of n turns.On = On (nest_of n) (pending_of n.pending)
turn_of n turns.Closed = Closed (forest_of n.since.items)
turn_of n turns.Stuck = Stuck

-- the state of a phase with these prefix lines, this word and its line, and these nodes
abbrev pub state_in : phase_type.Phase → List PrefixLine → ℕ → List ℕ → nest_type.Nest → State
state_in phases.Lines lines line text n = Lines lines
state_in (phases.Prefix part) lines line text n = InPrefix lines line (part_of part)
state_in phases.Root lines line text n = Root lines line text
state_in phases.Body lines line text n = Body lines line text (nest_of n) (pending_of n.pending)
state_in phases.Done lines line text n = Done lines line text (forest_of n.since.items)

abbrev pub state_of : state_type.State → State
state_of s = state_in s.phase s.prefixes.lines.items s.line s.text.now s.nest

-- the state, if no token was refused
abbrev pub onward : State → Bool → Option State
onward state true = Some state
onward state false = None

abbrev pub maybe : {X Y : Type 0} → (X → Y) → Option X → Option Y
maybe view None = None
maybe view (Some x) = Some (view x)

-- the answer is this one, unless memory was refused
abbrev pub Gives : {X E : Type 0} → X → Result X E → Type 0
Gives x (Ok y) = y ≡ x
Gives x (Err e) = Unit {0}

-- what a document's nodes were, with one node more
abbrev pub grown : Nest → nodes_type.Node → Nest
grown (nest rank outer since) node = nest rank outer (attach since node)

-- the state is that behind these tokens, which are nested no deeper than they may be
abbrev pub IsRead : state_type.State → List Token → Type 0
IsRead state tokens = (runs (Some (Lines [])) tokens ≡ Some (state_of state)) × IsShallow tokens

-- the state is that behind these tokens, or they stop there
abbrev pub FitsIn : state_type.State → Option stop_type.Stop → List Token → Type 0
FitsIn state None tokens = IsRead state tokens
FitsIn state (Some stop) tokens = StopsAtToken tokens stop.line stop.kind

-- the progress is that of these tokens
abbrev pub Fits : progress_type.Progress → List Token → Type 0
Fits progress tokens = FitsIn progress.state progress.stopped tokens

abbrev pub IsTaken : state_type.State → state_type.State → Token → Result (Option stop_type.Stop) OutOfMemory → Type 0
IsTaken old new token (Ok stopped) = (tokens : List Token) → IsRead old tokens → FitsIn new stopped (tokens ++ token ∷ [])
IsTaken old new token (Err e) = Unit {0}

abbrev pub IsStepped : progress_type.Progress → progress_type.Progress → List Token → Type 0
IsStepped old new out = (tokens : List Token) → Fits old tokens → Fits new (tokens ++ out)

-- the third pass at the end of all tokens, on the line where the text ends
abbrev pub IsFinished : List Token → ℕ → Result Content ReadRefusal → Type 0
IsFinished tokens end (Ok content) = IsDocument tokens content
IsFinished tokens end (Err (Refused line kind)) = Stops tokens end line kind
IsFinished tokens end (Err refusals.OutOfMemory) = ⊥

-- the text has no blank in front
abbrev pub BeginsNoBlank : List ℕ → Type 0
BeginsNoBlank [] = Unit {0}
BeginsNoBlank (b ∷ bs) = ¬ IsBlank b
