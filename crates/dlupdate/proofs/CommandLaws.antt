-- From what a command does to what a run comes to.
use Rattle.std.proofs.Common.{◌≡◌, ℕ, List, Option, Some, None, length}
use Rattle.std.specs.Prelude.{IfSome}
use Rattle.loading.specs.declared.opening.Opened.{Opened}
use Rattle.dlupdate.specs.declared.reports.Report.{Report}
use Rattle.dlupdate.specs.declared.reports.Stop.{Stop}
use Rattle.dlupdate.specs.Commands.{Says, Check, Apply, Script}
use Rattle.dlupdate.specs.Opening.{IsBase}
use Rattle.dlupdate.specs.Runs.{Contents, Opens, Unopened, FollowsFrom, Comes, unchecked, checks, unapplied, applies, unscripted, scripts, IsTold, IsStopped, no_head, numbered}
use Rattle.dlupdate.specs.Texts as text
use Rattle.dlupdate.proofs.RunLaws.{with_told, with_both, stop_more, stop_with}

abbrev OpensIt : Option Contents → List ℕ → Option (List ℕ) → Opened → Type 0
OpensIt contents ontology facts it = IfSome contents (λ c. Opens c ontology facts it.ontology it.facts.items it.skipped)

module _ (contents : Option Contents) (ontology : List ℕ) (words : List (List ℕ)) where
  pub check_ok : (facts : Option (List ℕ)) (it : Opened) (report : Report) → Says words (Check ontology facts) → OpensIt contents ontology facts it → IsBase it → report.status ≡ 0
      → report.text.items ≡ text.checked (length it.ontology.terms) (length it.facts.items) it.skipped → IsTold contents (λ c. Comes c words) report
  check_ok facts it report says opens base zero is =
      with_told contents (λ c. Opens c ontology facts it.ontology it.facts.items it.skipped) (λ c. Comes c words report.status report.text.items)
      (λ c o. checks ontology facts it.ontology it.facts.items it.skipped says o base.consistent zero is) opens

  pub check_stopped : (facts : Option (List ℕ)) (s : Stop) → Says words (Check ontology facts) → IsStopped contents (λ c. Unopened c ontology facts) s → IsStopped contents (λ c. Comes c words) s
  check_stopped facts s says h = stop_more contents (λ c. Unopened c ontology facts) (λ c. Comes c words) s (λ c status printed u. unchecked ontology facts says u) h

  module _ (updates : List (List ℕ)) where
    pub apply_ok : (it : Opened) (report : Report) → Says words (Apply ontology updates) → OpensIt contents ontology None it → IsBase it
        → IsTold contents (λ c. FollowsFrom c it.ontology no_head it.facts.items updates) report → IsTold contents (λ c. Comes c words) report
    apply_ok it report says opens base h =
        with_both contents (λ c. Opens c ontology None it.ontology it.facts.items it.skipped) (λ c. FollowsFrom c it.ontology no_head it.facts.items updates report.status report.text.items) (λ c. Comes c words report.status report.text.items)
        (λ c o f. applies ontology updates it.ontology it.facts.items it.skipped says o base.consistent f) opens h

    pub apply_ends : (it : Opened) (s : Stop) → Says words (Apply ontology updates) → OpensIt contents ontology None it → IsBase it
        → IsStopped contents (λ c. FollowsFrom c it.ontology no_head it.facts.items updates) s → IsStopped contents (λ c. Comes c words) s
    apply_ends it s says opens base h =
        stop_with contents (λ c. Opens c ontology None it.ontology it.facts.items it.skipped) (λ c. FollowsFrom c it.ontology no_head it.facts.items updates) (λ c. Comes c words) s
        (λ c status printed o f. applies ontology updates it.ontology it.facts.items it.skipped says o base.consistent f) opens h

    pub apply_stopped : (s : Stop) → Says words (Apply ontology updates) → IsStopped contents (λ c. Unopened c ontology None) s → IsStopped contents (λ c. Comes c words) s
    apply_stopped s says h = stop_more contents (λ c. Unopened c ontology None) (λ c. Comes c words) s (λ c status printed u. unapplied ontology updates says u) h

    module _ (facts : List ℕ) where
      pub script_ok : (it : Opened) (report : Report) → Says words (Script ontology facts updates) → OpensIt contents ontology (Some facts) it → IsBase it
          → IsTold contents (λ c. FollowsFrom c it.ontology numbered it.facts.items updates) report → IsTold contents (λ c. Comes c words) report
      script_ok it report says opens base h =
          with_both contents (λ c. Opens c ontology (Some facts) it.ontology it.facts.items it.skipped) (λ c. FollowsFrom c it.ontology numbered it.facts.items updates report.status report.text.items) (λ c. Comes c words report.status report.text.items)
          (λ c o f. scripts ontology facts updates it.ontology it.facts.items it.skipped says o base.consistent f) opens h

      pub script_ends : (it : Opened) (s : Stop) → Says words (Script ontology facts updates) → OpensIt contents ontology (Some facts) it → IsBase it
          → IsStopped contents (λ c. FollowsFrom c it.ontology numbered it.facts.items updates) s → IsStopped contents (λ c. Comes c words) s
      script_ends it s says opens base h =
          stop_with contents (λ c. Opens c ontology (Some facts) it.ontology it.facts.items it.skipped) (λ c. FollowsFrom c it.ontology numbered it.facts.items updates) (λ c. Comes c words) s
          (λ c status printed o f. scripts ontology facts updates it.ontology it.facts.items it.skipped says o base.consistent f) opens h

      pub script_stopped : (s : Stop) → Says words (Script ontology facts updates) → IsStopped contents (λ c. Unopened c ontology (Some facts)) s → IsStopped contents (λ c. Comes c words) s
      script_stopped s says h = stop_more contents (λ c. Unopened c ontology (Some facts)) (λ c. Comes c words) s (λ c status printed u. unscripted ontology facts updates says u) h
