-- To see the history keeps the rule.
use Rattle.std.proofs.Common.{◌≡◌, ℕ, List, [], ◌∷◌, ◌++◌, length, get_or, set, sym, refl, ap, ◌∙◌, subst, arith, Option, length-set}
use mathlib.Core.Option.{none}
use lib.Seq.{set-get_or}
use Rattle.atomic_table.specs.Table.{Me, step, keeps, Allows}
use Rattle.atomic_table.proofs.Lists.{set_here}
use Rattle.dl_base.specs.declared.requests.Entry.{Entry}
use Rattle.history_lock.specs.declared.histories.Opening.{Opening}
use Rattle.history_lock.specs.declared.rule.View.{View}
use Rattle.history_lock.specs.declared.rule.Stage.{Stage}
use Rattle.history_lock.specs.declared.rule.Stage.TheVariants.{Spent, Out, Joined, Waiting, Taken, Looked}
use Rattle.history_lock.specs.Rule.{tickets, Stands, IsInside, IsLive, Fits, MeetsRule}
use Rattle.history_lock.specs.Steps.{sees, Enters, ViewContinues}
use Rattle.history_lock.proofs.Views.{at_below, stay, tickets_set}
use Rattle.history_lock.proofs.Carrying.{knows_whole, later_of}
use Rattle.history_lock.proofs.Homes.{home_stays}

abbrev ticket_of : Stage → ℕ
ticket_of Spent = 0
ticket_of Out = 0
ticket_of (Joined a b) = 0
ticket_of (Waiting t) = 0
ticket_of (Taken t h) = t
ticket_of (Looked t) = 0

abbrev history_of : Stage → List Entry
history_of Spent = []
history_of Out = []
history_of (Joined a b) = []
history_of (Waiting t) = []
history_of (Taken t h) = h
history_of (Looked t) = []

module _ {S : Type 0} (opening : S → Opening) (entries : S → List Entry) where
  pub seen : (slots id : ℕ) (m : Me (Option S) View) (t : ℕ) (h : List Entry) → m.0.stage ≡ Taken t h → Allows (MeetsRule opening entries) slots id m 2 (λ n. n) (sees (step slots 2 0 0 none) m)
  seen slots id m t h is s r deep at fits =
      let looks : List ℕ = m.0.looks ++ length h ∷ [] in let w : View = record m.0 { stage = Looked t; seen = h; looks = looks } in
      let f = r.each id m.0 at in let k = f.live (subst IsLive (sym is) tt) in
      let stands : Stands r.serving r.queue id r.log m.0.seen (Taken t h) = subst (Stands r.serving r.queue id r.log m.0.seen) is f.stands in
      let whole : h ≡ r.log = stands.2 in let found : get_or s.words 2 0 ≡ length r.log = ap (λ ws. get_or ws 2 0) r.words in (
        w,
        keeps,
        tt,
        record {
          log = r.log;
          next = r.next;
          serving = r.serving;
          queue = r.queue;
          start = r.start;
          made = r.made;
          owner = r.owner;
          words = set-get_or s.words 2 0 ∙ r.words;
          next_is = r.next_is;
          below = r.below;
          small = r.small;
          numbered = r.numbered;
          made_is = length-set s.views id w ∙ r.made_is;
          few = r.few;
          queued = omega (arith, tickets_set s.views id m.0 w at, r.queued, ap tickets is);
          home = home_stays opening entries r.start r.log s (set s.words 2 (get_or s.words 2 0)) id m.0 w at (λ _. tt) (λ _. subst IsInside (sym is) tt) r.home;
          editors = r.editors;
          longest = (id, w, set_here s.views id w (at_below s.views id m.0 at), tt, whole);
          each = stay (Fits r.start r.made r.owner r.serving r.queue r.log) s.views id w
              record { stands = (stands.0, stands.1, whole); live = λ _. knows_whole m.0 (Looked t) h looks whole k }
              (λ j d other there. r.each j d there);
        },
        λ t' h' is'. let et : t ≡ t' = ap ticket_of (sym is ∙ is') in let eh : h ≡ h' = ap history_of (sym is ∙ is') in
            subst (λ (z : ℕ × List Entry). (m.1 ≡ m.1) × (w ≡ record m.0 { stage = Looked z.0; seen = z.1; looks = m.0.looks ++ length z.1 ∷ [] }) × (get_or s.words 2 0 ≡ length z.1) × ViewContinues m.0 z.1) (λ i. (et i, eh i))
            (refl, refl, found ∙ ap length (sym whole), subst (ViewContinues m.0) (sym whole) (later_of m.0 k r.numbered r.editors)),
      )

-- what a seat that has seen the history knows of it
pub entered : (v w : View) (h : List Entry) (t : ℕ) → w ≡ record v { stage = Looked t; seen = h; looks = v.looks ++ length h ∷ [] } → ViewContinues v h → Enters v w h
entered v w h t is later = let seen_is = ap (λ (u : View). u.seen) is in record {
  seen = seen_is;
  later = subst (ViewContinues v) (sym seen_is) later;
  looks = ap (λ (u : View). u.looks) is ∙ ap (λ (l : List Entry). v.looks ++ length l ∷ []) (sym seen_is);
  opening = ap (λ (u : View). u.opening) is;
  editor = ap (λ (u : View). u.editor) is;
  noted = ap (λ (u : View). u.noted) is;
  carried = ap (λ (u : View). u.carried) is;
}
