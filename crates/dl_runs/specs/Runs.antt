-- Runs of characters of a class at the front of a text.
use Rattle.std.specs.Prelude.{◌≡◌, ◌≢◌, ◌<◌, ◌⊎◌, ℕ, List, [], ◌∷◌, ◌++◌, length, All, IsTrue}
use Rattle.std.specs.Char.{encode_utf8}
use Rattle.std.specs.Str.{encode_utf8_all}
use Rattle.dl_runs.specs.Classes.{is_of, IsOf, IsMadeOf}
use Rattle.dl_runs.specs.declared.runs.Class.{Class}

-- no character of the class begins the text
abbrev pub BeginsNo : Class → List ℕ → Type 0
BeginsNo class text = (c : ℕ) (behind : List ℕ) → IsOf class c → text ≢ encode_utf8 c ++ behind

-- an ASCII character of the class that is no dot
abbrev pub IsPlain : Class → ℕ → Type 0
IsPlain class b = (b < 128) × IsTrue (is_of class b) × (b ≢ 46)

-- in front of rest stand plain bytes
abbrev pub HasPlainFront : Class → List ℕ → List ℕ → Type 0
HasPlainFront class raw rest = (front : List ℕ) × (raw ≡ front ++ rest) × All (IsPlain class) front

-- from here to rest stand one or more characters of the class: a dot alone, or characters of which none is a dot
pub record IsStretch (class : Class) (here rest : List ℕ) : Type 0 where
  pub cs : List ℕ
  pub is : here ≡ encode_utf8_all cs ++ rest
  pub each : All (IsOf class) cs
  pub some : length rest < length here
  pub dots : (cs ≡ 46 ∷ []) ⊎ All (λ c. c ≢ 46) cs

-- front is all characters of the class at the front of raw
pub record IsRun (class : Class) (raw front rest : List ℕ) : Type 0 where
  pub is : raw ≡ front ++ rest
  pub made : IsMadeOf class front
  pub ends : BeginsNo class rest

-- front is all characters of the class at the front of raw, but the dots at their end
pub record IsUndotted (class : Class) (raw front rest : List ℕ) : Type 0 where
  pub cs : List ℕ
  pub dots : List ℕ
  pub behind : List ℕ
  pub is : raw ≡ front ++ rest
  pub front_is : front ≡ encode_utf8_all cs
  pub rest_is : rest ≡ encode_utf8_all dots ++ behind
  pub each : All (IsOf class) cs
  pub each_dot : All (λ c. c ≡ 46) dots
  pub last : (front : List ℕ) → cs ≢ front ++ 46 ∷ []
  pub ends : BeginsNo class behind
