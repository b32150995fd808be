-- To pass the turn on keeps the rule.
use Rattle.std.proofs.Common.{◌≡◌, ℕ, ◌+◌, ◌%◌, ◌^◌, List, [], ◌∷◌, get_or, drop, set, sym, refl, ap, ◌∙◌, subst, inl, arith, Option, Some, length-set}
use mathlib.Core.Option.{none, some}
use Rattle.atomic_table.specs.Table.{Me, step, gives, Allows, put_back}
use Rattle.dl_base.specs.declared.requests.Entry.{Entry}
use Rattle.history_lock.specs.declared.histories.Opening.{Opening}
use Rattle.history_lock.specs.declared.rule.View.{View}
use Rattle.history_lock.specs.declared.rule.Stage.TheVariants.{Out, Looked}
use Rattle.history_lock.specs.Rule.{tickets, Stands, IsInside, IsLive, Fits, MeetsRule}
use Rattle.history_lock.specs.Steps.{passes}
use Rattle.history_lock.proofs.Views.{stay, tickets_set, still_seen}
use Rattle.history_lock.proofs.Queues.{heads, same_head, moves_up, fewer}
use Rattle.history_lock.proofs.Carrying.{same_knows}
use Rattle.history_lock.proofs.Homes.{out_now}

module _ {S : Type 0} (opening : S → Opening) (entries : S → List Entry) where
  pub passed : (slots id : ℕ) (m : Me (Option S) View) (t : ℕ) (x : S) → m.0.stage ≡ Looked t → m.1 ≡ (0, Some x) ∷ [] → entries x ≡ m.0.seen → opening x ≡ m.0.opening
      → Allows (MeetsRule opening entries) slots id m 1 (λ n. (n + 1) % 2 ^ 64) (passes (step slots 1 1 0 none) m)
  passed slots id m t x is holding same_seen same_opening s r deep at fits =
      let f = r.each id m.0 at in let k = f.live (subst IsLive (sym is) tt) in
      let stands : Stands r.serving r.queue id r.log m.0.seen (Looked t) = subst (Stands r.serving r.queue id r.log m.0.seen) is f.stands in
      let w : View = record m.0 { stage = Out } in let out = out_now opening entries s r id m.0 at (subst IsInside (sym is) tt) r.home in
      let shorter = fewer r.queue id stands.0 in (
        w,
        gives,
        tt,
        record {
          log = r.log;
          next = r.next;
          serving = (r.serving + 1) % 2 ^ 64;
          queue = drop 1 r.queue;
          start = r.start;
          made = r.made;
          owner = r.owner;
          words = ap (λ ws. set ws 1 ((get_or ws 1 0 + 1) % 2 ^ 64)) r.words;
          next_is = omega (arith, r.next_is, shorter);
          below = omega arith;
          small = r.small;
          numbered = r.numbered;
          made_is = length-set s.views id w ∙ r.made_is;
          few = r.few;
          queued = omega (arith, tickets_set s.views id m.0 w at, r.queued, ap tickets is, shorter);
          home = inl (
            x,
            ap (λ c. put_back s.homes c) holding ∙ ap (λ hs. set hs 0 (some (Some x))) out,
            same_seen ∙ stands.2,
            same_opening ∙ k.same,
            stay (λ _ u. IsInside u.stage → ⊥) s.views id w (λ i. i)
                (λ j d other there inside. other (same_head r.queue j id (heads r.serving r.queue j r.log d.seen d.stage inside (r.each j d there).stands) stands.0)),
          );
          editors = r.editors;
          longest = still_seen r.log s.views id m.0 w at (λ _. tt) refl r.longest;
          each = stay (Fits r.start r.made r.owner ((r.serving + 1) % 2 ^ 64) (drop 1 r.queue) r.log) s.views id w
              record { stands = tt; live = λ _. same_knows m.0 Out k }
              (λ j d other there. let g = r.each j d there in record { stands = moves_up r.serving r.queue j id r.log d.seen d.stage other stands.0 g.stands; live = g.live });
        },
        (refl, refl),
      )
