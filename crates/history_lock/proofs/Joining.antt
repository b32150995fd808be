-- To join two seats keeps the rule, and so does the load after it.
use Rattle.std.proofs.Common.{◌≡◌, ◌≢◌, ◌⊎◌, ℕ, List, get_or, set, sym, refl, ap, ◌∙◌, subst, inl, inr, arith, Option, length-set}
use Rattle.std.specs.Prelude.{All}
use Rattle.std.proofs.lemmas.List.Elements.{All-weaker, All-append, Contains-append_left}
use mathlib.Core.Logic.{dite}
use mathlib.Core.Option.{none, some}
use mathlib.Core.List.{IsPrefix}
use native.Mathlib.Decide.{ℕ_discrete}
use lib.ListN.{get_elem?}
use lib.Seq.{set-get_or}
use Rattle.atomic_table.specs.Table.{Me, step, keeps, Allows, Joins}
use Rattle.atomic_table.proofs.Lists.{set_here, set_else}
use Rattle.dl_base.specs.declared.requests.Entry.{Entry}
use Rattle.history_lock.specs.declared.histories.Opening.{Opening}
use Rattle.history_lock.specs.declared.rule.Before.{Before}
use Rattle.history_lock.specs.declared.rule.View.{View}
use Rattle.history_lock.specs.declared.rule.Stage.TheVariants.{Out, Joined}
use Rattle.history_lock.specs.Growth.{AreApart, longer_of}
use Rattle.history_lock.specs.Rule.{tickets, Stands, IsInside, IsLive, IsCarried, Knows, Fits, MeetsRule, IsSeen}
use Rattle.history_lock.specs.Steps.{joined_view, spent_view, settles}
use Rattle.history_lock.proofs.Growing.{longer_begins, longer_whole, between, nearer}
use Rattle.history_lock.proofs.Views.{at_below, stay, same_view, tickets_set, still_seen}
use Rattle.history_lock.proofs.Carrying.{moved, moved_here, moved_else, same_knows, later_of, still_mine}
use Rattle.history_lock.proofs.Homes.{home_stays}

module _ {start : Opening} {made : ℕ} {owner : ℕ → ℕ} {log : List Entry} {id other : ℕ} where
  -- the joined seat knows what both knew
  both_know : (v w : View) → id ≢ other → Knows start made owner log id v → Knows start made owner log other w → Knows start made (moved owner other id) log id (joined_view v w)
  both_know v w apart k l = let begins = longer_begins v.seen w.seen log k.begins l.begins in let seen : List Entry = longer_of v.seen w.seen in let after : ℕ → ℕ = moved owner other id in record {
    same = k.same;
    begins = begins.2;
    placed = k.placed;
    zeroth = k.zeroth;
    itself = Contains-append_left v.carried w.carried v.editor k.itself;
    carries = All-append (IsCarried made after log id seen) v.carried w.carried
        (All-weaker (IsCarried made owner log id v.seen) (IsCarried made after log id seen)
        (λ c a. (a.0, moved_else owner other id c (λ e. apart (sym a.1 ∙ e)) ∙ a.1, a.2 ∙ sym (between c v.seen seen log begins.0 begins.2 a.2))) v.carried k.carries)
        (All-weaker (IsCarried made owner log other w.seen) (IsCarried made after log id seen)
        (λ c a. (a.0, moved_here owner other id c a.1, a.2 ∙ sym (between c w.seen seen log begins.1 begins.2 a.2))) w.carried l.carries);
  }

  -- no editor is carried by both
  none_shared : (v w : View) → id ≢ other → Knows start made owner log id v → Knows start made owner log other w → AreApart v.carried w.carried
  none_shared v w apart k l = All-weaker (IsCarried made owner log id v.seen) (λ one. All (λ more. one ≢ more) w.carried)
      (λ one a. All-weaker (IsCarried made owner log other w.seen) (λ more. one ≢ more) (λ more b same. apart (sym a.1 ∙ (ap owner same ∙ b.1))) w.carried l.carries) v.carried k.carries

-- if one of the seats that are joined has seen the whole history, the joined one has
seen_joined : (log : List Entry) (vs : List View) (id other : ℕ) (v w : View) → get_elem? vs id ≡ some v → get_elem? vs other ≡ some w → other ≢ id → IsPrefix v.seen log → IsPrefix w.seen log
    → IsSeen log vs → IsSeen log (set (set vs id (joined_view v w)) other spent_view)
seen_joined log vs id other v w at there apart p q (i, u, here, lives, whole) =
    let both : View = joined_view v w in
    let now : get_elem? (set (set vs id both) other spent_view) id ≡ some both = set_else (set vs id both) other id spent_view (λ e. apart (sym e)) ∙ set_here vs id both (at_below vs id v at) in
    let seen_both = λ (h : (v.seen ≡ log) ⊎ (w.seen ≡ log)). longer_whole v.seen w.seen log p q h in
    dite (ℕ_discrete i id)
    (λ e. (id, both, now, tt, seen_both (inl (sym (ap (λ (x : View). x.seen) (same_view vs i id u v e here at)) ∙ whole))))
    (λ far. dite (ℕ_discrete i other)
    (λ e. (id, both, now, tt, seen_both (inr (sym (ap (λ (x : View). x.seen) (same_view vs i other u w e here there)) ∙ whole))))
    (λ away. (i, u, set_else (set vs id both) other i spent_view away ∙ (set_else vs id i both far ∙ here), lives, whole)))

module _ {S : Type 0} (opening : S → Opening) (entries : S → List Entry) where
  pub joined : (id : ℕ) (v : View) (other : ℕ) (w : View) → v.stage ≡ Out → w.stage ≡ Out → Joins (MeetsRule opening entries) id v other w (joined_view v w) spent_view
  joined id v other w out out' s r at apart there' =
      let both : View = joined_view v w in let vs : List View = set s.views id both in
      let there : get_elem? s.views other ≡ some w = sym (set_else s.views id other both apart) ∙ there' in
      let k = (r.each id v at).live (subst IsLive (sym out) tt) in let l = (r.each other w there).live (subst IsLive (sym out') tt) in
      let begins = longer_begins v.seen w.seen r.log k.begins l.begins in let seen : List Entry = longer_of v.seen w.seen in
      let owner : ℕ → ℕ = moved r.owner other id in let apart' : id ≢ other = λ e. apart (sym e) in
      record {
        log = r.log;
        next = r.next;
        serving = r.serving;
        queue = r.queue;
        start = r.start;
        made = r.made;
        owner = owner;
        words = r.words;
        next_is = r.next_is;
        below = r.below;
        small = r.small;
        numbered = r.numbered;
        made_is = length-set vs other spent_view ∙ (length-set s.views id both ∙ r.made_is);
        few = r.few;
        queued = omega (arith, tickets_set vs other w spent_view there', tickets_set s.views id v both at, r.queued, ap tickets out, ap tickets out');
        home = home_stays opening entries r.start r.log record { words = s.words; homes = s.homes; views = vs } s.words other w spent_view there' (λ i. absurd (subst IsInside out' i)) (λ i. absurd i)
            (home_stays opening entries r.start r.log s s.words id v both at (λ i. absurd (subst IsInside out i)) (λ i. absurd i) r.home);
        editors = r.editors;
        longest = seen_joined r.log s.views id other v w at there apart k.begins l.begins r.longest;
        each = stay (Fits r.start r.made owner r.serving r.queue r.log) vs other spent_view record { stands = tt; live = λ i. absurd i }
            (λ j d far here. stay (λ i u. i ≢ other → Fits r.start r.made owner r.serving r.queue r.log i u) s.views id both
            (λ _. record {
              stands = (
                nearer v.editor v.noted v.seen v.carried seen r.log (later_of v k r.numbered r.editors) begins.0 begins.2,
                nearer w.editor w.noted w.seen w.carried seen r.log (later_of w l r.numbered r.editors) begins.1 begins.2,
                none_shared v w apart' k l,
              );
              live = λ _. both_know v w apart' k l;
            })
            (λ i u _ at' away. let g = r.each i u at' in record { stands = g.stands; live = λ q. still_mine other id u away (g.live q) })
            j d here far);
      }

  pub settled : (slots id : ℕ) (m : Me (Option S) View) (a b : Before) → m.0.stage ≡ Joined a b → Allows (MeetsRule opening entries) slots id m 0 (λ n. n) (settles (step slots 0 0 0 none) m)
  settled slots id m a b is s r deep at fits =
      let w : View = record m.0 { stage = Out } in let f = r.each id m.0 at in let k = f.live (subst IsLive (sym is) tt) in (
        w,
        keeps,
        tt,
        record {
          log = r.log;
          next = r.next;
          serving = r.serving;
          queue = r.queue;
          start = r.start;
          made = r.made;
          owner = r.owner;
          words = set-get_or s.words 0 0 ∙ r.words;
          next_is = r.next_is;
          below = r.below;
          small = r.small;
          numbered = r.numbered;
          made_is = length-set s.views id w ∙ r.made_is;
          few = r.few;
          queued = omega (arith, tickets_set s.views id m.0 w at, r.queued, ap tickets is);
          home = home_stays opening entries r.start r.log s (set s.words 0 (get_or s.words 0 0)) id m.0 w at (λ i. absurd (subst IsInside is i)) (λ i. absurd i) r.home;
          editors = r.editors;
          longest = still_seen r.log s.views id m.0 w at (λ _. tt) refl r.longest;
          each = stay (Fits r.start r.made r.owner r.serving r.queue r.log) s.views id w
              record { stands = tt; live = λ _. same_knows m.0 Out k }
              (λ j d other there. r.each j d there);
        },
        λ a' b' is'. let facts : Stands r.serving r.queue id r.log m.0.seen (Joined a' b') = subst (Stands r.serving r.queue id r.log m.0.seen) is' f.stands in (refl, refl, facts.0, facts.1, facts.2),
      )
