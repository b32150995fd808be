-- What a seat knows of the history and of the editors that it carries.
use Rattle.std.proofs.Common.{◌≡◌, ◌≢◌, ℕ, ◌+◌, ◌<◌, List, [], ◌∷◌, ◌++◌, sym, refl, ap, ◌∙◌, subst, eqb, eq-eqb, ne_eqb, Bool, arith}
use Rattle.std.specs.Prelude.{All, if◌then◌else◌}
use Rattle.std.proofs.lemmas.List.Elements.{All-weaker, All-contains}
use mathlib.Core.List.{IsPrefix}
use Rattle.dl_base.specs.declared.requests.Entry.{Entry}
use Rattle.dl_base.specs.Histories.{own}
use Rattle.history_lock.specs.declared.histories.Opening.{Opening}
use Rattle.history_lock.specs.declared.rule.View.{View}
use Rattle.history_lock.specs.declared.rule.Stage.{Stage}
use Rattle.history_lock.specs.Growth.{AreNumbered}
use Rattle.history_lock.specs.Steps.{ViewContinues}
use Rattle.history_lock.specs.Rule.{IsCarried, Knows}
use Rattle.history_lock.proofs.Growing.{own_other, prefix_self, prefix_trans}

-- f, with j at i
abbrev pub put : (ℕ → ℕ) → ℕ → ℕ → ℕ → ℕ
put f i j c = if eqb c i then j else f c

pub put_here : (f : ℕ → ℕ) (i j c : ℕ) → c ≡ i → put f i j c ≡ j
put_here f i j c e = ap (λ (b : Bool). if b then j else f c) (eq-eqb c i e)

put_else : (f : ℕ → ℕ) (i j c : ℕ) → c ≢ i → put f i j c ≡ f c
put_else f i j c n = ap (λ (b : Bool). if b then j else f c) (ne_eqb c i n)

-- what one seat carried another carries
abbrev pub moved : (ℕ → ℕ) → ℕ → ℕ → ℕ → ℕ
moved f from to c = if eqb (f c) from then to else f c

pub moved_here : (f : ℕ → ℕ) (from to c : ℕ) → f c ≡ from → moved f from to c ≡ to
moved_here f from to c e = ap (λ (b : Bool). if b then to else f c) (eq-eqb (f c) from e)

pub moved_else : (f : ℕ → ℕ) (from to c : ℕ) → f c ≢ from → moved f from to c ≡ f c
moved_else f from to c n = ap (λ (b : Bool). if b then to else f c) (ne_eqb (f c) from n)

module _ {start : Opening} {made : ℕ} {owner : ℕ → ℕ} {log : List Entry} {id : ℕ} where
  -- the seat in another stage
  pub same_knows : (v : View) (st : Stage) → Knows start made owner log id v → Knows start made owner log id (record v { stage = st })
  same_knows v st k = record { same = k.same; begins = k.begins; placed = k.placed; zeroth = k.zeroth; itself = k.itself; carries = k.carries }

  -- the seat has seen the whole history
  pub knows_whole : (v : View) (st : Stage) (seen : List Entry) (looks : List ℕ) → seen ≡ log → Knows start made owner log id v → Knows start made owner log id (record v { stage = st; seen = seen; looks = looks })
  knows_whole v st seen looks whole k = record {
    same = k.same;
    begins = subst (λ z. IsPrefix z log) (sym whole) (prefix_self log);
    placed = k.placed;
    zeroth = k.zeroth;
    itself = k.itself;
    carries = All-weaker (IsCarried made owner log id v.seen) (IsCarried made owner log id seen) (λ e a. (a.0, a.1, ap (own e) (sym whole))) v.carried k.carries;
  }

  -- the whole history is a later one than the seat has seen
  pub later_of : (v : View) → Knows start made owner log id v → AreNumbered log → All (λ (x : Entry). x.editor < made) log → ViewContinues v log
  later_of v k numbered editors = record {
    begins = k.begins;
    own_entries = All-weaker (IsCarried made owner log id v.seen) (λ e. own e log ≡ own e v.seen) (λ e a. a.2) v.carried k.carries;
    numbered = numbered;
    editors = λ first. subst (λ (n : ℕ). All (λ (x : Entry). x.editor < n) log) (sym (k.zeroth (sym k.placed ∙ first))) editors;
  }

  -- the seat's own editor is carried by it
  pub owns : (v : View) → Knows start made owner log id v → (v.editor < made) × (owner v.editor ≡ id)
  owns v k = let a = All-contains (IsCarried made owner log id v.seen) v.carried v.editor k.carries k.itself in (a.0, a.1)

  -- an entry of another seat's editor is added
  pub longer : (e : Entry) (me : ℕ) (v : View) → owner e.editor ≡ me → id ≢ me → Knows start made owner log id v → Knows start made owner (log ++ e ∷ []) id v
  longer e me v mine other k = record {
    same = k.same;
    begins = prefix_trans v.seen log (log ++ e ∷ []) k.begins (e ∷ [], refl);
    placed = k.placed;
    zeroth = k.zeroth;
    itself = k.itself;
    carries = All-weaker (IsCarried made owner log id v.seen) (IsCarried made owner (log ++ e ∷ []) id v.seen)
        (λ c a. (a.0, a.1, own_other c log e (λ same. other (sym a.1 ∙ (ap owner same ∙ mine))) ∙ a.2)) v.carried k.carries;
  }

  -- one more seat was made
  pub grown_up : (new noted : ℕ) (v : View) → (id ≡ 0 → noted ≡ made + 1) → Knows start made owner log id v → Knows start (made + 1) (put owner made new) log id (record v { noted = noted })
  grown_up new noted v zeroth k = record {
    same = k.same;
    begins = k.begins;
    placed = k.placed;
    zeroth = zeroth;
    itself = k.itself;
    carries = All-weaker (IsCarried made owner log id v.seen) (IsCarried (made + 1) (put owner made new) log id v.seen)
        (λ c a. (omega (arith, a.0), put_else owner made new c (λ e. omega (arith, a.0, e)) ∙ a.1, a.2)) v.carried k.carries;
  }

  -- another seat was joined into a third
  pub still_mine : (from to : ℕ) (v : View) → id ≢ from → Knows start made owner log id v → Knows start made (moved owner from to) log id v
  still_mine from to v apart k = record {
    same = k.same;
    begins = k.begins;
    placed = k.placed;
    zeroth = k.zeroth;
    itself = k.itself;
    carries = All-weaker (IsCarried made owner log id v.seen) (IsCarried made (moved owner from to) log id v.seen)
        (λ c a. (a.0, moved_else owner from to c (λ e. apart (sym a.1 ∙ e)) ∙ a.1, a.2)) v.carried k.carries;
  }

  -- the seat itself added to the history, and has seen what it added
  pub added_own : (v : View) (seen later : List Entry) → seen ≡ later → Knows start made owner log id v → Knows start made owner later id (record v { seen = seen })
  added_own v seen later here k = record {
    same = k.same;
    begins = subst (λ z. IsPrefix z later) (sym here) (prefix_self later);
    placed = k.placed;
    zeroth = k.zeroth;
    itself = k.itself;
    carries = All-weaker (IsCarried made owner log id v.seen) (IsCarried made owner later id seen) (λ c a. (a.0, a.1, ap (own c) (sym here))) v.carried k.carries;
  }
