-- The reader's own table, which its inner functions cite. No public contract names it.
use Rattle.std.specs.Prelude.{◌≡◌, ℕ, List, [], ◌∷◌, ◌++◌, MatchOption, Option, Some, None, Result, Ok, Err}
use Rattle.dl_base.specs.declared.memory.OutOfMemory.{OutOfMemory}
use Rattle.dl_text.specs.Kinds.{kind_of}
use Rattle.dl_text.specs.Prefixes.{Bindings, with_prefix}
use Rattle.dl_text.specs.declared.faults.TextFault.{TextFault}
use Rattle.dl_text.specs.declared.kinds.ReadKind.{ReadKind}
use Rattle.dl_text.specs.declared.kinds.ReadKind.TheVariants as kinds
use Rattle.update_read.specs.declared.spots.Spot.{Spot}
use Rattle.update_read.specs.declared.spots.Spot.TheVariants as spots
use Rattle.update_read.specs.declared.spots.Step.{Step}
use Rattle.update_read.specs.declared.spots.Step.TheVariants as steps
use Rattle.update_read.specs.declared.syntax.Operation.{Operation}
use Rattle.update_read.specs.declared.syntax.Operation.TheVariants as operations
use Rattle.update_read.specs.declared.syntax.SpelledName.{SpelledName}
use Rattle.update_read.specs.declared.syntax.SpelledVerb.{SpelledVerb}
use Rattle.update_read.specs.declared.syntax.SpelledDatatype.TheVariants as datatypes
use Rattle.update_read.specs.declared.syntax.SpelledObject.{SpelledObject}
use Rattle.update_read.specs.declared.syntax.SpelledObject.TheVariants as objects
use Rattle.update_read.specs.declared.syntax.Stem.{Stem}
use Rattle.update_read.specs.declared.tokens.Keyword.{Keyword}
use Rattle.update_read.specs.declared.tokens.Keyword.TheVariants as keywords
use Rattle.update_read.specs.declared.tokens.Mark.{Mark}
use Rattle.update_read.specs.declared.tokens.Mark.TheVariants as marks
use Rattle.update_read.specs.declared.tokens.Token.{Token}
use Rattle.update_read.specs.declared.tokens.Token.TheVariants as tokens
use Rattle.update_read.specs.Grammar.{mark, keyword, tag, full_iri, prefix_name, string, name, verb, object, Statement}
use Rattle.update_read.specs.Shapes.{Shape}
use Rattle.update_read.specs.Tokens.{Gives, HasFault, Lexeme, at, line_in}

-- the token of a piece, or its fault
abbrev pub ReadsToken : Shape → Result (Option Token) TextFault → Type 0
ReadsToken shape (Ok token) = Gives shape token
ReadsToken shape (Err fault) = MatchOption (kind_of fault) (Unit {0}) (HasFault shape)

-- the answer is this one, unless memory was refused
abbrev pub Makes : {X E : Type 0} → X → Result X E → Type 0
Makes x (Ok y) = y ≡ x
Makes x (Err e) = Unit {0}

abbrev pub start_step : ℕ → Option Keyword → Step
start_step line (Some keywords.Prefix) = steps.On spots.Prefix
start_step line (Some keywords.Base) = steps.On spots.Base
start_step line (Some keywords.Insert) = steps.On (spots.Word operations.Insert line)
start_step line (Some keywords.Delete) = steps.On (spots.Word operations.Delete line)
start_step line other = steps.Stuck

abbrev pub prefix_step : Option (List ℕ) → Step
prefix_step (Some named) = steps.On (spots.Named named)
prefix_step None = steps.Stuck

abbrev pub iri_step : List ℕ → Option (List ℕ) → Step
iri_step named (Some iri) = steps.Bind named iri
iri_step named None = steps.Stuck

abbrev pub base_step : Option (List ℕ) → Step
base_step (Some iri) = steps.On spots.Start
base_step None = steps.Stuck

abbrev pub data_step : Operation → Option Keyword → Step
data_step operation (Some keywords.Data) = steps.On (spots.Data operation)
data_step operation other = steps.Stuck

abbrev pub open_step : Operation → Option Mark → Step
open_step operation (Some marks.OpenBrace) = steps.On (spots.Group operation)
open_step operation other = steps.Stuck

abbrev pub close_step : Option Mark → Step
close_step (Some marks.CloseBrace) = steps.On spots.Done
close_step other = steps.Stuck

abbrev pub group_step : Operation → Option SpelledName → Option Mark → Step
group_step operation (Some subject) sign = steps.On (spots.Subject operation subject)
group_step operation None sign = close_step sign

abbrev pub stem_of : Operation → SpelledName → SpelledVerb → Stem
stem_of operation subject v = record { operation = operation; subject = subject; verb = v }

abbrev pub subject_step : Operation → SpelledName → Option SpelledVerb → Step
subject_step operation subject (Some v) = steps.On (spots.Verb (stem_of operation subject v))
subject_step operation subject None = steps.Stuck

abbrev pub string_step : Stem → Option (ℕ × List ℕ) → Step
string_step stem (Some text) = steps.On (spots.Text stem text.0 text.1)
string_step stem None = steps.Stuck

abbrev pub object_step : Stem → Option SpelledObject → Option (ℕ × List ℕ) → Step
object_step stem (Some it) text = steps.Say stem it (spots.Object stem)
object_step stem None text = string_step stem text

abbrev pub behind_object : Stem → Option Mark → Option Spot
behind_object stem (Some marks.Comma) = Some (spots.Verb stem)
behind_object stem (Some marks.Semicolon) = Some (spots.Semicolon stem.operation stem.subject)
behind_object stem (Some marks.Dot) = Some (spots.Group stem.operation)
behind_object stem (Some marks.CloseBrace) = Some spots.Done
behind_object stem other = None

abbrev pub on_step : Option Spot → Step
on_step (Some spot) = steps.On spot
on_step None = steps.Stuck

abbrev pub mark_step : Stem → Option Mark → Step
mark_step stem sign = on_step (behind_object stem sign)

abbrev pub said_then : Stem → SpelledObject → Option Spot → Step
said_then stem it (Some spot) = steps.Say stem it spot
said_then stem it None = steps.Stuck

abbrev pub text_step : Stem → ℕ → List ℕ → Option (List ℕ) → Option Mark → Step
text_step stem line text (Some tagged) sign = steps.Say stem (objects.Literal line text tagged datatypes.Untyped) (spots.Object stem)
text_step stem line text None (Some marks.Hats) = steps.On (spots.Hats stem line text)
text_step stem line text None other = said_then stem (objects.Literal line text [] datatypes.Untyped) (behind_object stem other)

abbrev pub hats_step : Stem → ℕ → List ℕ → Option SpelledName → Step
hats_step stem line text (Some datatype) = steps.Say stem (objects.Literal line text [] (datatypes.Written datatype)) (spots.Object stem)
hats_step stem line text None = steps.Stuck

abbrev pub behind_semicolon : Operation → SpelledName → Option Mark → Step
behind_semicolon operation subject (Some marks.Semicolon) = steps.On (spots.Semicolon operation subject)
behind_semicolon operation subject (Some marks.Dot) = steps.On (spots.Group operation)
behind_semicolon operation subject (Some marks.CloseBrace) = steps.On spots.Done
behind_semicolon operation subject other = steps.Stuck

abbrev pub semicolon_step : Operation → SpelledName → Option SpelledVerb → Option Mark → Step
semicolon_step operation subject (Some v) sign = steps.On (spots.Verb (stem_of operation subject v))
semicolon_step operation subject None sign = behind_semicolon operation subject sign

abbrev pub done_step : Option Mark → Step
done_step (Some marks.Semicolon) = steps.On spots.Start
done_step other = steps.Stuck

-- what a token does at a spot
abbrev pub step_of : Spot → Lexeme → Step
step_of spots.Start t = start_step (line_in t) (keyword t)
step_of spots.Prefix t = prefix_step (prefix_name t)
step_of (spots.Named named) t = iri_step named (full_iri t)
step_of spots.Base t = base_step (full_iri t)
step_of (spots.Word operation line) t = data_step operation (keyword t)
step_of (spots.Data operation) t = open_step operation (mark t)
step_of (spots.Group operation) t = group_step operation (name t) (mark t)
step_of (spots.Subject operation subject) t = subject_step operation subject (verb t)
step_of (spots.Verb stem) t = object_step stem (object t) (string t)
step_of (spots.Text stem line text) t = text_step stem line text (tag t) (mark t)
step_of (spots.Hats stem line text) t = hats_step stem line text (name t)
step_of (spots.Object stem) t = mark_step stem (mark t)
step_of (spots.Semicolon operation subject) t = semicolon_step operation subject (verb t) (mark t)
step_of spots.Done t = done_step (mark t)
