-- The ontologies in force at the versions of a history.
use Rattle.std.proofs.Common.{◌≡◌, ◌<◌, ◌≤◌, ◌-◌, ◌++◌, ◌∷◌, ℕ, zero, suc, List, [], Some, length, get_or, map, Global, refl, sym, ◌∙◌, ap, subst, arith}
use Rattle.std.specs.Prelude.{slice_get}
use Rattle.std.specs.Arc.{arc_value}
use Rattle.std.specs.Option.{option_map}
use Rattle.std.specs.declared.sync.Arc.{Arc}
use Rattle.std.proofs.lemmas.List.{length-map, map-append}
use Rattle.std.proofs.lemmas.Option.{slice_get_read, slice_get-map, same_Some}
use Rattle.dl_base.specs.declared.requests.Entry.{Entry}
use Rattle.dl_base.specs.Histories.{in_force, in_force_at, or_before, replacement}
use Rattle.dl_base.specs.Ontologies.{Theory}
use Rattle.serial_history.specs.States.{in_force_later}

-- one for each entry
later_length : (opening : Theory) (entries : List Entry) → length (in_force_later opening entries) ≡ length entries
later_length opening [] = refl
later_length opening (e ∷ entries) = ap suc (later_length (or_before (replacement e) opening) entries)

later_at : (opening : Theory) (entries : List Entry) (n : ℕ) → n < length entries → slice_get (in_force_later opening entries) n ≡ Some (in_force_at opening entries (suc n))
later_at opening [] n l = let no : ⊥ = omega (arith, l) in absurd no
later_at opening (e ∷ entries) zero l = refl
later_at opening (e ∷ entries) (suc n) l = later_at (or_before (replacement e) opening) entries n (omega (arith, l))

-- one entry more
pub later_push : (opening : Theory) (entries : List Entry) (e : Entry) → in_force_later opening (entries ++ e ∷ []) ≡ in_force_later opening entries ++ or_before (replacement e) (in_force opening entries) ∷ []
later_push opening [] e = refl
later_push opening (x ∷ entries) e = ap (λ (ts : List Theory). or_before (replacement x) opening ∷ ts) (later_push (or_before (replacement x) opening) entries e)

module _ (opening : Theory) (entries : List Entry) (shared : List (Arc Theory Global)) (kept : map arc_value shared ≡ in_force_later opening entries) where
  -- as many shared rules as entries
  pub as_many : length shared ≡ length entries
  as_many = sym (length-map shared arc_value) ∙ ap length kept ∙ later_length opening entries

  -- the shared rules before a place are those in force there
  pub rules_at : (version : ℕ) (a : Arc Theory Global) → ¬ (version ≡ 0) → version ≤ length entries → a ≡ get_or shared (version - 1) a → arc_value a ≡ in_force_at opening entries version
  rules_at zero a later within is = absurd (later refl)
  rules_at (suc n) a later within is =
      let many = as_many in
      let place : suc n - 1 ≡ n = omega arith in
      let short : n < length shared = omega (arith, many, within) in
      let item : a ≡ get_or shared n a = subst (λ (i : ℕ). a ≡ get_or shared i a) place is in
      let here : slice_get (map arc_value shared) n ≡ Some (arc_value a) = slice_get-map arc_value shared n ∙ ap (option_map arc_value) (slice_get_read shared (length shared) n a refl short item) in
      same_Some (arc_value a) (in_force_at opening entries (suc n)) (sym here ∙ ap (λ (ts : List Theory). slice_get ts n) kept ∙ later_at opening entries n (omega (arith, within)))

-- the shared rules after one more entry
pub rules_push : (opening : Theory) (entries : List (Arc Entry Global)) (shared : List (Arc Theory Global)) → map arc_value shared ≡ in_force_later opening (map arc_value entries)
    → (a : Arc Entry Global) (e : Entry) → arc_value a ≡ e → (r : Arc Theory Global) → arc_value r ≡ or_before (replacement e) (in_force opening (map arc_value entries))
    → (more : List (Arc Entry Global)) → more ≡ entries ++ a ∷ [] → (later : List (Arc Theory Global)) → later ≡ shared ++ r ∷ [] → map arc_value later ≡ in_force_later opening (map arc_value more)
rules_push opening entries shared kept a e is r force more m later l =
    let before = map arc_value entries in
    ap (λ (rs : List (Arc Theory Global)). map arc_value rs) l
    ∙ map-append arc_value shared (r ∷ [])
    ∙ ap (λ (ts : List Theory). ts ++ arc_value r ∷ []) kept
    ∙ ap (λ (t : Theory). in_force_later opening before ++ t ∷ []) (force ∙ ap (λ (x : Entry). or_before (replacement x) (in_force opening before)) (sym is))
    ∙ sym (later_push opening before (arc_value a))
    ∙ ap (in_force_later opening) (sym (map-append arc_value entries (a ∷ [])) ∙ ap (λ (es : List (Arc Entry Global)). map arc_value es) (sym m))
