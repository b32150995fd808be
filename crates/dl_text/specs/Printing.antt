-- How the text of a literal is written.
use Rattle.std.specs.Prelude.{ℕ, List, [], ◌∷◌, if◌then◌else◌, ◌==◌}
use Rattle.std.specs.List.{flat_map}
use Rattle.dl_text.specs.Escapes.{backslash}

abbrev pub written_byte : ℕ → List ℕ
written_byte b =
    if b == 34 then backslash ∷ 34 ∷ [] else if b == backslash then backslash ∷ backslash ∷ [] else if b == 10 then backslash ∷ 110 ∷ []
    else if b == 13 then backslash ∷ 114 ∷ [] else b ∷ []

abbrev pub written : List ℕ → List ℕ
written text = flat_map written_byte text
