-- Reading from left to right: each place is read or refused, and the first that is refused decides.
use Rattle.std.specs.Prelude.{◌≡◌, ℕ, List, [], ◌∷◌, ◌++◌, Result, Ok, Err}
use Rattle.dl_text.specs.declared.kinds.ReadKind.{ReadKind}
use Rattle.dl_text.specs.declared.kinds.ReadKind.TheVariants as kinds
use Rattle.dl_text.specs.declared.faults.TextFault.{TextFault}
use Rattle.dl_text.specs.declared.faults.TextFault.TheVariants as faults
use Rattle.dl_text.specs.declared.refusals.ReadRefusal.{ReadRefusal}
use Rattle.dl_text.specs.declared.refusals.ReadRefusal.TheVariants.{Refused, OutOfMemory}

-- the line and the kind of a refusal
abbrev pub Refusal : Type 0
Refusal = ℕ × ReadKind

infixl 10 ◌>>=◌
abbrev pub ◌>>=◌ : {A B : Type 0} → Result A Refusal → (A → Result B Refusal) → Result B Refusal
(Ok x) >>= f = f x
(Err e) >>= f = Err e

-- a function refused as reading does, unless memory ran out
abbrev pub Fails : {Y : Type 0} → ReadRefusal → Result Y Refusal → Type 0
Fails (Refused line kind) read = read ≡ Err (line, kind)
Fails OutOfMemory read = Unit {0}

-- a function gave what reading gives, unless memory ran out
abbrev pub Yields : {X : Type 0} → Result X ReadRefusal → Result X Refusal → Type 0
Yields (Ok x) read = read ≡ Ok x
Yields (Err e) read = Fails e read

-- a function gave what reading gives, and left this state, unless memory ran out
abbrev pub Gives : {S X : Type 0} → S → Result X ReadRefusal → Result (S × X) Refusal → Type 0
Gives new (Ok x) read = read ≡ Ok (new, x)
Gives new (Err e) read = Fails e read

-- the same of a function that gives nothing but the state
abbrev pub Does : {S X : Type 0} → S → Result X ReadRefusal → Result S Refusal → Type 0
Does new (Ok x) read = read ≡ Ok new
Does new (Err e) read = Fails e read

-- the refusal that the fault of a name or a value leads to
abbrev pub refusal_at : ℕ → TextFault → ReadRefusal
refusal_at line faults.BadIri = Refused line kinds.BadIri
refusal_at line faults.BadEscape = Refused line kinds.BadEscape
refusal_at line faults.BadLiteral = Refused line kinds.BadLiteral
refusal_at line faults.NameTooLong = Refused line kinds.NameTooLong
refusal_at line faults.UnknownPrefix = Refused line kinds.UnknownPrefix
refusal_at line faults.OutOfMemory = OutOfMemory

-- one step after another
abbrev pub run : {S X : Type 0} → (S → X → Result S Refusal) → S → List X → Result S Refusal
run step state [] = Ok state
run step state (x ∷ xs) = step state x >>= λ next. run step next xs

-- what was found before stands in front
abbrev pub with_front : {S X : Type 0} → List X → Result (S × List X) Refusal → Result (S × List X) Refusal
with_front front read = read >>= λ found. Ok (found.0, front ++ found.1)
