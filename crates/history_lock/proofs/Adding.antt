-- To add an entry keeps the rule.
use Rattle.std.proofs.Common.{◌≡◌, ℕ, ◌+◌, ◌%◌, ◌^◌, ◌<◌, List, [], ◌∷◌, ◌++◌, length, get_or, set, sym, refl, ap, ◌∙◌, subst, inr, arith, Option, Some, length-set, length-append}
use Rattle.std.proofs.lemmas.List.Elements.{All-push}
use mathlib.Core.Option.{none}
use Rattle.atomic_table.specs.Table.{Me, step, keeps, Allows}
use Rattle.atomic_table.proofs.Lists.{set_here}
use Rattle.dl_base.specs.declared.requests.Entry.{Entry}
use Rattle.dl_base.specs.Histories.{own}
use Rattle.history_lock.specs.declared.histories.Opening.{Opening}
use Rattle.history_lock.specs.declared.rule.View.{View}
use Rattle.history_lock.specs.declared.rule.Stage.TheVariants.{Looked}
use Rattle.history_lock.specs.Growth.{IsOneMore}
use Rattle.history_lock.specs.Rule.{Stands, IsInside, IsLive, Fits, MeetsRule}
use Rattle.history_lock.specs.Steps.{adds}
use Rattle.history_lock.proofs.Growing.{numbered_more}
use Rattle.history_lock.proofs.Views.{at_below, stay, tickets_set}
use Rattle.history_lock.proofs.Queues.{outside}
use Rattle.history_lock.proofs.Carrying.{longer, owns, added_own}
use Rattle.history_lock.proofs.Homes.{held_of, out_now}

module _ {S : Type 0} (opening : S → Opening) (entries : S → List Entry) where
  pub added : (slots id : ℕ) (m : Me (Option S) View) (t : ℕ) (x : S) → m.0.stage ≡ Looked t → m.1 ≡ (0, Some x) ∷ [] → IsOneMore m.0.editor m.0.seen (entries x) → length m.0.seen < m.0.opening.limit
      → Allows (MeetsRule opening entries) slots id m 2 (λ n. (n + 1) % 2 ^ 64) (adds opening entries (step slots 2 1 0 none) m)
  added slots id m t x is holding more room s r deep at fits =
      let f = r.each id m.0 at in let k = f.live (subst IsLive (sym is) tt) in let e : Entry = more.entry in
      let stands : Stands r.serving r.queue id r.log m.0.seen (Looked t) = subst (Stands r.serving r.queue id r.log m.0.seen) is f.stands in
      let whole : m.0.seen ≡ r.log = stands.2 in
      let next_log : List Entry = r.log ++ e ∷ [] in let here : entries x ≡ next_log = more.follows ∙ ap (λ z. z ++ e ∷ []) whole in
      let w : View = record m.0 { seen = entries x } in let one = length-append r.log (e ∷ []) in let mine = owns m.0 k in
      let space : length r.log < r.start.limit = omega (arith, ap length whole, ap (λ (o : Opening). o.limit) k.same, room) in
      let owned : r.owner e.editor ≡ id = ap r.owner more.editor_is ∙ mine.1 in
      let inside : IsInside m.0.stage = subst IsInside (sym is) tt in let now = set_here s.views id w (at_below s.views id m.0 at) in (
        w,
        keeps,
        tt,
        record {
          log = next_log;
          next = r.next;
          serving = r.serving;
          queue = r.queue;
          start = r.start;
          made = r.made;
          owner = r.owner;
          words = ap (λ ws. set ws 2 ((get_or ws 2 0 + 1) % 2 ^ 64)) r.words ∙ ap (λ (n : ℕ). r.next ∷ r.serving ∷ n ∷ []) (omega (arith, one, space, r.small));
          next_is = r.next_is;
          below = r.below;
          small = (omega (arith, one, space), r.small.1);
          numbered = numbered_more r.log e r.numbered (more.number_is ∙ ap (λ (z : ℕ × List Entry). length (own z.0 z.1)) (λ i. (sym more.editor_is i, whole i)));
          made_is = length-set s.views id w ∙ r.made_is;
          few = r.few;
          queued = omega (arith, tickets_set s.views id m.0 w at, r.queued);
          home = inr (out_now opening entries s r id m.0 at inside r.home, (id, w, now, inside));
          editors = All-push (λ (y : Entry). y.editor < r.made) r.log e r.editors (subst (λ (n : ℕ). n < r.made) (sym more.editor_is) mine.0);
          longest = (id, w, now, subst IsLive (sym is) tt, here);
          each = stay (Fits r.start r.made r.owner r.serving r.queue next_log) s.views id w
              record { stands = subst (Stands r.serving r.queue id next_log (entries x)) (sym is) (stands.0, stands.1, here); live = λ _. added_own m.0 (entries x) next_log here k }
              (λ j d other there. let g = r.each j d there in record { stands = outside r.serving r.queue j id r.log next_log d.seen d.stage other stands.0 g.stands; live = λ l. longer e id d owned other (g.live l) });
        },
        λ y held. (refl, ap (λ (z : S). let u : View = record m.0 { seen = entries z } in u) (ap (held_of x) (sym holding ∙ held))),
      )
