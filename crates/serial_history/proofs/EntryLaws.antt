-- The entries of an editor, counted.
use Rattle.std.proofs.Common.{◌≡◌, ℕ, ◌<◌, ◌≤◌, ◌+◌, Bool, true, false, cond, List, [], ◌∷◌, length, take, get_or, map, refl, sym, ◌∙◌, ap, arith, Global}
use Rattle.std.specs.Prelude.{nat_eq, filter}
use Rattle.std.specs.Arc.{arc_value}
use Rattle.std.specs.declared.sync.Arc.{Arc}
use Rattle.std.proofs.lemmas.List.Filters.{length-filter_more}
use Rattle.std.proofs.lemmas.List.Sums.{length-filter, count_by-le-length}
use Rattle.dl_base.specs.declared.requests.Entry.{Entry}
use Rattle.dl_base.specs.Histories.{own}

-- whether the shared entry is this editor's
abbrev pub is_of : ℕ → Arc Entry Global → Bool
is_of editor a = nat_eq (arc_value a).editor editor

module _ (editor : ℕ) (entries : List (Arc Entry Global)) (i : ℕ) (item : Arc Entry Global) (within : i < length entries) (is : item ≡ get_or entries i item) where
  pub counted_more : (b : Bool) → is_of editor item ≡ b → length (filter (is_of editor) (take (i + 1) entries)) ≡ length (filter (is_of editor) (take i entries)) + cond b 1 0
  counted_more b h =
      length-filter_more (is_of editor) entries i item within
      ∙ ap (λ (c : Bool). length (filter (is_of editor) (take i entries)) + cond c 1 0) (ap (is_of editor) (sym is) ∙ h)

-- no more of them than entries
pub counted_few : (editor : ℕ) (entries : List (Arc Entry Global)) → length (filter (is_of editor) entries) ≤ length entries
counted_few editor entries = let all = length-filter (is_of editor) entries in let few = count_by-le-length (is_of editor) entries in omega (arith, all, few)

chosen : (b : Bool) (e : Entry) (a : Arc Entry Global) (es : List Entry) (more : List (Arc Entry Global)) → length es ≡ length more → length (cond b (e ∷ es) es) ≡ length (cond b (a ∷ more) more)
chosen true e a es more h = omega (arith, h)
chosen false e a es more h = h

-- of the shared entries as many as of the entries
pub own_is : (editor : ℕ) (entries : List (Arc Entry Global)) → length (filter (is_of editor) entries) ≡ length (own editor (map arc_value entries))
own_is editor [] = refl
own_is editor (a ∷ entries) = sym (chosen (is_of editor a) (arc_value a) a (own editor (map arc_value entries)) (filter (is_of editor) entries) (sym (own_is editor entries)))
