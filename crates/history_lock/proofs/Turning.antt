-- To draw a ticket, and to look whose turn it is, keeps the rule.
use Rattle.std.proofs.Common.{◌≡◌, ℕ, ◌+◌, ◌%◌, ◌^◌, ◌<◌, List, [], ◌∷◌, ◌++◌, length, get_or, set, sym, refl, ap, ◌∙◌, subst, inl, inr, arith, Option, Some, length-set, length-append}
use mathlib.Core.Logic.{dite}
use mathlib.Core.Option.{none, some}
use native.Mathlib.Decide.{ℕ_discrete}
use lib.ListN.{get_elem?}
use lib.Seq.{set-get_or}
use Rattle.atomic_table.specs.Table.{State, Me, Act, Valid, stepped, carried_after, step, keeps, takes, Allows}
use Rattle.atomic_table.proofs.Lists.{set_here, at_last}
use Rattle.dl_base.specs.declared.requests.Entry.{Entry}
use Rattle.history_lock.specs.declared.histories.Opening.{Opening}
use Rattle.history_lock.specs.declared.rule.View.{View}
use Rattle.history_lock.specs.declared.rule.Stage.{Stage}
use Rattle.history_lock.specs.declared.rule.Stage.TheVariants.{Spent, Out, Joined, Waiting, Taken, Looked}
use Rattle.history_lock.specs.Rule.{tickets, Stands, IsInside, IsLive, Fits, IsHome, MeetsRule}
use Rattle.history_lock.specs.Steps.{draws, tries}
use Rattle.history_lock.proofs.Views.{at_below, stay, same_view, tickets_set, tickets_few, still_seen}
use Rattle.history_lock.proofs.Queues.{heads, behind, same_head}
use Rattle.history_lock.proofs.Carrying.{same_knows}
use Rattle.history_lock.proofs.Homes.{home_stays, unmoved}

abbrev ticket_of : Stage → ℕ
ticket_of Spent = 0
ticket_of Out = 0
ticket_of (Joined a b) = 0
ticket_of (Waiting t) = t
ticket_of (Taken t h) = t
ticket_of (Looked t) = t

module _ {S : Type 0} (opening : S → Opening) (entries : S → List Entry) where
  abbrev Rule : State (Option S) View → Type 0
  Rule = MeetsRule opening entries

  abbrev M : Type 0
  M = Me (Option S) View

  pub drawn : (slots id : ℕ) (m : M) → m.0.stage ≡ Out → Allows Rule slots id m 0 (λ n. (n + 1) % 2 ^ 64) (draws (step slots 0 1 0 none) m)
  drawn slots id m out s r deep at fits = let n : ℕ = get_or s.words 0 0 in let w : View = record m.0 { stage = Waiting n } in let is : n ≡ r.next = ap (λ ws. get_or ws 0 0) r.words in
      let one_more = length-append r.queue (id ∷ []) in let f = r.each id m.0 at in (
        w,
        keeps,
        tt,
        record {
          log = r.log;
          next = (r.next + 1) % 2 ^ 64;
          serving = r.serving;
          queue = r.queue ++ id ∷ [];
          start = r.start;
          made = r.made;
          owner = r.owner;
          words = ap (λ ws. set ws 0 ((get_or ws 0 0 + 1) % 2 ^ 64)) r.words;
          next_is = omega (arith, r.next_is, one_more);
          below = r.below;
          small = r.small;
          numbered = r.numbered;
          made_is = length-set s.views id w ∙ r.made_is;
          few = r.few;
          queued = omega (arith, tickets_set s.views id m.0 w at, r.queued, one_more, ap tickets out);
          home = home_stays opening entries r.start r.log s (set s.words 0 ((n + 1) % 2 ^ 64)) id m.0 w at (λ i. absurd (subst IsInside out i)) (λ i. absurd i) r.home;
          editors = r.editors;
          longest = still_seen r.log s.views id m.0 w at (λ _. tt) refl r.longest;
          each = stay (Fits r.start r.made r.owner r.serving (r.queue ++ id ∷ []) r.log) s.views id w
              record { stands = (length r.queue, at_last r.queue id _ refl, is ∙ r.next_is); live = λ _. same_knows m.0 (Waiting n) (f.live (subst IsLive (sym out) tt)) }
              (λ j d other there. let g = r.each j d there in record { stands = behind r.serving r.queue id j r.log d.seen d.stage g.stands; live = g.live });
        },
        (refl, refl),
      )

  -- nobody is in a turn while another has the ticket that is served
  nobody_else : (s : State (Option S) View) (r : Rule s) (id : ℕ) (v : View) (t : ℕ) → get_elem? s.views id ≡ some v → v.stage ≡ Waiting t → get_elem? r.queue 0 ≡ some id
      → (i : ℕ) (u : View) → get_elem? s.views i ≡ some u → IsInside u.stage → ⊥
  nobody_else s r id v t at is first i u there inside = let e : i ≡ id = same_head r.queue i id (heads r.serving r.queue i r.log u.seen u.stage inside (r.each i u there).stands) first in
      subst IsInside (ap (λ (x : View). x.stage) (same_view s.views i id u v e there at) ∙ is) inside

  -- the seat comes into its turn
  comes_in : (slots id : ℕ) (m : M) (t : ℕ) (s : State (Option S) View) (r : Rule s) → get_elem? s.views id ≡ some m.0 → m.0.stage ≡ Waiting t → r.serving ≡ t → get_elem? r.queue 0 ≡ some id
      → IsHome opening entries r.start r.log s
      → (w : View) × (a : Act (Option S)) × Valid s.homes m.1 a × Rule (stepped s 1 (get_or s.words 1 0) id m.1 w a) × tries opening entries (step slots 1 0 0 none) m (get_or s.words 1 0) (w, carried_after m.1 a)
  comes_in slots id m t s r at is served first (inr (out, (i, u, there, inside))) = absurd (nobody_else s r id m.0 t at is first i u there inside)
  comes_in slots id m t s r at is served first (inl (x, homes, history, begun, nobody)) =
      let w : View = record m.0 { stage = Taken t (entries x) } in let f = r.each id m.0 at in let k = f.live (subst IsLive (sym is) tt) in
      let n_is : get_or s.words 1 0 ≡ t = ap (λ ws. get_or ws 1 0) r.words ∙ served in (
        w,
        takes 0 (Some x),
        ap (λ hs. get_elem? hs 0) homes,
        record {
          log = r.log;
          next = r.next;
          serving = r.serving;
          queue = r.queue;
          start = r.start;
          made = r.made;
          owner = r.owner;
          words = set-get_or s.words 1 0 ∙ r.words;
          next_is = r.next_is;
          below = r.below;
          small = r.small;
          numbered = r.numbered;
          made_is = length-set s.views id w ∙ r.made_is;
          few = r.few;
          queued = omega (arith, tickets_set s.views id m.0 w at, r.queued, ap tickets is);
          home = inr (ap (λ hs. set hs 0 none) homes, (id, w, set_here s.views id w (at_below s.views id m.0 at), tt));
          editors = r.editors;
          longest = still_seen r.log s.views id m.0 w at (λ _. tt) refl r.longest;
          each = stay (Fits r.start r.made r.owner r.serving r.queue r.log) s.views id w
              record { stands = (first, sym served, history); live = λ _. same_knows m.0 (Taken t (entries x)) k }
              (λ j d other there. r.each j d there);
        },
        λ t' is'. let e : t ≡ t' = ap ticket_of (sym is ∙ is') in (
          (λ _. (x, refl, ap (λ (z : ℕ). let y : View = record m.0 { stage = Taken z (entries x) } in y) e, begun ∙ sym k.same)),
          λ not. absurd (not (n_is ∙ e)),
        ),
      )

  pub tried : (slots id : ℕ) (m : M) (t : ℕ) → m.0.stage ≡ Waiting t → Allows Rule slots id m 1 (λ n. n) (tries opening entries (step slots 1 0 0 none) m)
  tried slots id m t is s r deep at fits =
      let f = r.each id m.0 at in let place : Stands r.serving r.queue id r.log m.0.seen (Waiting t) = subst (Stands r.serving r.queue id r.log m.0.seen) is f.stands in
      let found : get_or s.words 1 0 ≡ r.serving = ap (λ ws. get_or ws 1 0) r.words in
      dite (ℕ_discrete r.serving t)
      (λ hit. let near : place.0 < length r.queue = at_below r.queue place.0 id place.1 in
      let zero_is : place.0 ≡ 0 = omega (arith, place.2, hit, r.below, r.few, r.made_is, tickets_few s.views, r.queued, near) in
      comes_in slots id m t s r at is hit (subst (λ (k : ℕ). get_elem? r.queue k ≡ some id) zero_is place.1) r.home)
      (λ miss. (m.0, keeps, tt, unmoved opening entries s r 1 id m.0 at, λ t' is'. let e : t ≡ t' = ap ticket_of (sym is ∙ is') in ((λ hit. absurd (miss (sym found ∙ (hit ∙ sym e)))), λ _. refl)))
