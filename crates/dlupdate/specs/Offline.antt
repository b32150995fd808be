-- What `dlupdate` does to its files and its sink.
use Rattle.std.specs.Prelude.{◌≡◌, ◌⊎◌, ℕ, List, Option, codes}
use Rattle.dl_io.specs.Writing.{Appends, AppendsFront}
use Rattle.dlupdate.specs.declared.reports.Report.{Report}
use Rattle.dlupdate.specs.Runs.{Contents, Comes, IsTold, FailsOnly}
use Rattle.dlupdate.specs.Texts as text

module _ (contents : Option Contents) (files_rose out_rose : Type 0) (words : List (List ℕ)) (old new : Option (List ℕ)) where
  -- the run comes to this report
  abbrev pub Reports : Report → Type 0
  Reports report = IsTold contents (λ c. Comes c words) report × FailsOnly files_rose report.status

  -- the run came to this, and all of it was written
  abbrev pub IsWritten : ℕ → Type 0
  IsWritten status = (report : Report) × Reports report × (status ≡ report.status) × Appends old new report.text.items

  -- the run came to something, a front of it was written, and the sink failed
  abbrev pub IsCut : ℕ → Type 0
  IsCut status = (status ≡ 7) × out_rose × ((report : Report) × Reports report × AppendsFront old new report.text.items)

  -- memory was wanting, and the sink took what it would of the line that says so
  abbrev pub IsWant : ℕ → Type 0
  IsWant status = (status ≡ 8) × AppendsFront old new (text.error (codes "memory"))

  -- one of the three
  abbrev pub IsRun : ℕ → Type 0
  IsRun status = IsWritten status ⊎ (IsCut status ⊎ IsWant status)
