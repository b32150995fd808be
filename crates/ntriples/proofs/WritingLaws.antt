-- One write after another.
use Rattle.std.proofs.Common.{◌≡◌, ◌+◌, ◌≤◌, ℕ, List, [], ◌++◌, length, take, Option, Some, None, Result, Ok, Err, refl, sym, ap, subst, ◌∙◌, append_assoc, arith}
use Rattle.std.proofs.Math.Seq.{take-append-add, take-append-le}
use Rattle.std.proofs.lemmas.List.{append-nil, length-append}
use Rattle.dl_io.specs.Writing.{Appends, AppendsFront}
use Rattle.dl_io.specs.declared.sinks.WriteFault.{WriteFault}
use Rattle.dl_io.proofs.Appending.{appends_both}
use Rattle.ntriples.specs.Writing.{IsPut}

nothing_appended : (old : Option (List ℕ)) → Appends old old []
nothing_appended None = refl
nothing_appended (Some o) = ap Some (sym (append-nil o))

front_behind : (old mid new : Option (List ℕ)) (xs ys : List ℕ) → Appends old mid xs → AppendsFront mid new ys → AppendsFront old new (xs ++ ys)
front_behind old mid new xs ys h (n, l, a) = (
  length xs + n,
  omega (arith, l, length-append xs ys),
  subst (Appends old new) (sym (take-append-add xs ys n)) (appends_both old mid new xs (take n ys) h a),
)

front_longer : (old new : Option (List ℕ)) (xs ys : List ℕ) → AppendsFront old new xs → AppendsFront old new (xs ++ ys)
front_longer old new xs ys (n, l, a) = (n, omega (arith, l, length-append xs ys), subst (Appends old new) (sym (take-append-le n xs ys l)) a)

-- what follows a write that was whole
pub put_then : (old mid new : Option (List ℕ)) (before between after : ℕ) (xs ys : List ℕ) (r : Result (Unit {0}) WriteFault) → Appends old mid xs → before ≤ between
    → IsPut mid new between after ys r → IsPut old new before after (xs ++ ys) r
put_then old mid new before between after xs ys (Ok x) h l (a, m) = (appends_both old mid new xs ys h a, omega (arith, l, m))
put_then old mid new before between after xs ys (Err fault) h l (a, m, rose) = (front_behind old mid new xs ys h a, omega (arith, l, m), omega (arith, l, rose))

-- a write that was not whole ends it
pub put_cut : (old new : Option (List ℕ)) (before after : ℕ) (xs ys : List ℕ) (fault : WriteFault) → IsPut old new before after xs (Err fault) → IsPut old new before after (xs ++ ys) (Err fault)
put_cut old new before after xs ys fault (a, l, rose) = (front_longer old new xs ys a, l, rose)

-- of all bytes those before the rest were written
pub record IsPutTo (old now : Option (List ℕ)) (before count : ℕ) (all rest : List ℕ) : Type 0 where
  pub done : List ℕ
  pub is : all ≡ done ++ rest
  pub appends : Appends old now done
  pub later : before ≤ count

pub put_none : (old : Option (List ℕ)) (before : ℕ) (all : List ℕ) → IsPutTo old old before before all all
put_none old before all = record { done = []; is = refl; appends = nothing_appended old; later = omega arith }

pub put_more : (old now new : Option (List ℕ)) (before count after : ℕ) (all rest xs behind : List ℕ) (x : Unit {0}) → IsPutTo old now before count all rest → rest ≡ xs ++ behind
    → IsPut now new count after xs (Ok x) → IsPutTo old new before after all behind
put_more old now new before count after all rest xs behind x p e (a, l) = record {
  done = p.done ++ xs;
  is = p.is ∙ ap (λ (zs : List ℕ). p.done ++ zs) e ∙ sym (append_assoc p.done xs behind);
  appends = appends_both old now new p.done xs p.appends a;
  later = omega (arith, p.later, l);
}

-- the rest was written or wasn't
pub put_rest : (old now new : Option (List ℕ)) (before count after : ℕ) (all rest : List ℕ) (r : Result (Unit {0}) WriteFault) → IsPutTo old now before count all rest
    → IsPut now new count after rest r → IsPut old new before after all r
put_rest old now new before count after all rest r p h =
    subst (λ (zs : List ℕ). IsPut old new before after zs r) (sym p.is) (put_then old now new before count after p.done rest r p.appends p.later h)

pub put_stopped : (old now new : Option (List ℕ)) (before count after : ℕ) (all rest xs behind : List ℕ) (fault : WriteFault) → IsPutTo old now before count all rest
    → rest ≡ xs ++ behind → IsPut now new count after xs (Err fault) → IsPut old new before after all (Err fault)
put_stopped old now new before count after all rest xs behind fault p e h =
    put_rest old now new before count after all rest (Err fault) p
    (subst (λ (zs : List ℕ). IsPut now new count after zs (Err fault)) (sym e) (put_cut now new count after xs behind fault h))

pub put_all : (old now : Option (List ℕ)) (before count : ℕ) (all rest : List ℕ) (x : Unit {0}) → IsPutTo old now before count all rest → rest ≡ [] → IsPut old now before count all (Ok x)
put_all old now before count all rest x p e = (subst (Appends old now) (sym (p.is ∙ ap (λ (zs : List ℕ). p.done ++ zs) e ∙ append-nil p.done)) p.appends, p.later)
