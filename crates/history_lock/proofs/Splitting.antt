-- To split a seat off keeps the rule.
use Rattle.std.proofs.Common.{◌≡◌, ℕ, ◌+◌, ◌<◌, List, [], ◌∷◌, ◌++◌, length, set, sym, refl, ◌∙◌, subst, ⊎_elim, arith, Option, length-set, length-append}
use Rattle.std.specs.Prelude.{All}
use Rattle.std.proofs.lemmas.List.Elements.{All-weaker, All-cons, All-nil}
use mathlib.Core.List.{IsPrefix}
use Rattle.atomic_table.specs.Table.{State, Splits}
use Rattle.atomic_table.proofs.Lists.{at_longer}
use Rattle.dl_base.specs.declared.requests.Entry.{Entry}
use Rattle.dl_base.specs.Histories.{own}
use Rattle.history_lock.specs.declared.histories.Opening.{Opening}
use Rattle.history_lock.specs.declared.rule.View.{View}
use Rattle.history_lock.specs.declared.rule.Stage.TheVariants.{Out}
use Rattle.history_lock.specs.Rule.{IsLive, IsCarried, Fits, MeetsRule, IsSeen}
use Rattle.history_lock.specs.Steps.{first_after, new_view}
use Rattle.history_lock.proofs.Growing.{own_none, all_begins}
use Rattle.history_lock.proofs.Views.{at_below, stay, at_snoc_place, tickets_set, tickets_snoc, still_seen}
use Rattle.history_lock.proofs.Carrying.{put, put_here, grown_up}
use Rattle.history_lock.proofs.Homes.{home_stays, snoc_home}

seen_beside : (log : List Entry) (vs : List View) (w : View) → IsSeen log vs → IsSeen log (vs ++ w ∷ [])
seen_beside log vs w (i, u, there, lives, whole) = (i, u, at_longer vs (w ∷ []) i u there, lives, whole)

module _ {S : Type 0} (opening : S → Opening) (entries : S → List Entry) where
  -- an editor that is not made yet has no entry
  none_yet : (s : State (Option S) View) (r : MeetsRule opening entries s) (n : ℕ) (seen : List Entry) → n ≡ r.made → IsPrefix seen r.log → own n r.log ≡ own n seen
  none_yet s r n seen is begins = let low : All (λ (x : Entry). x.editor < n) r.log = subst (λ (z : ℕ). All (λ (x : Entry). x.editor < z) r.log) (sym is) r.editors in
      own_none n r.log low ∙ sym (own_none n seen (all_begins (λ (x : Entry). x.editor < n) seen r.log begins low))

  pub split_off : (id : ℕ) (v : View) → v.editor ≡ 0 → v.stage ≡ Out → v.noted < 1024 → Splits (MeetsRule opening entries) id v (first_after v) (new_view v)
  split_off id v first out room s r at =
      let k = (r.each id v at).live (subst IsLive (sym out) tt) in let id_is : id ≡ 0 = sym k.placed ∙ first in let noted : v.noted ≡ r.made = k.zeroth id_is in
      let left : View = first_after v in let right : View = new_view v in let vs : List View = set s.views id left in
      let owner : ℕ → ℕ = put r.owner r.made r.made in
      let size : length vs ≡ r.made = length-set s.views id left ∙ r.made_is in
      let fresh = none_yet s r v.noted v.seen noted k.begins in
      record {
        log = r.log;
        next = r.next;
        serving = r.serving;
        queue = r.queue;
        start = r.start;
        made = r.made + 1;
        owner = owner;
        words = r.words;
        next_is = r.next_is;
        below = r.below;
        small = r.small;
        numbered = r.numbered;
        made_is = omega (arith, length-append vs (right ∷ []), size);
        few = omega (arith, noted, room);
        queued = omega (arith, tickets_snoc vs right, tickets_set s.views id v left at, r.queued);
        home = snoc_home opening entries r.start r.log s.words s.homes vs right (λ i. i) (home_stays opening entries r.start r.log s s.words id v left at (λ i. i) (λ i. i) r.home);
        editors = All-weaker (λ (x : Entry). x.editor < r.made) (λ (x : Entry). x.editor < r.made + 1) (λ x h. omega (arith, h)) r.log r.editors;
        longest = seen_beside r.log vs right (still_seen r.log s.views id v left at (λ l. l) refl r.longest);
        each = λ j d e. ⊎_elim
            (stay (Fits r.start (r.made + 1) owner r.serving r.queue r.log) s.views id left
            record { stands = (r.each id v at).stands; live = λ l. grown_up r.made (v.noted + 1) v (λ _. omega (arith, noted)) k }
            (λ i u other there. let g = r.each i u there in record { stands = g.stands; live = λ l. grown_up r.made u.noted u (λ z. absurd (other (z ∙ sym id_is))) (g.live l) })
            j d)
            (λ (t : (j ≡ length vs) × (right ≡ d)). subst (λ (z : ℕ × View). Fits r.start (r.made + 1) owner r.serving r.queue r.log z.0 z.1) (λ i. (sym (t.0 ∙ size) i, t.1 i)) record {
              stands = tt;
              live = λ _. record {
                same = k.same;
                begins = k.begins;
                placed = noted;
                zeroth = λ z. absurd (omega (arith, z, at_below s.views id v at, r.made_is));
                itself = (0, omega arith, refl);
                carries = All-cons (IsCarried (r.made + 1) owner r.log r.made v.seen) v.noted [] (omega (arith, noted), put_here r.owner r.made r.made v.noted noted, fresh) (All-nil (IsCarried (r.made + 1) owner r.log r.made v.seen));
              };
            })
            (at_snoc_place vs right d j e);
      }
