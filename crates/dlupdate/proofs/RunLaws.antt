-- From what files tell to what a run comes to.
use Rattle.std.proofs.Common.{◌≡◌, ◌≤◌, ◌<◌, ◌+◌, ◌-◌, ◌^◌, ℕ, List, Option, Some, None, length, refl, sym, ◌∙◌, subst, arith}
use Rattle.std.specs.Prelude.{IfSome, Result, Ok, Err, min}
use Rattle.dl_io.specs.declared.files.FilesRefusal.TheVariants as why
use Rattle.dl_io.specs.Causes.{Rose}
use Rattle.dl_io.specs.Reading.{Gives}
use Rattle.dl_text.specs.declared.kinds.ReadKind.{ReadKind}
use Rattle.dl_text.specs.declared.refusals.ReadRefusal.{ReadRefusal}
use Rattle.dl_text.specs.declared.refusals.ReadRefusal.TheVariants.{Refused, OutOfMemory}
use Rattle.dlupdate.specs.declared.reports.Report.{Report}
use Rattle.dlupdate.specs.declared.reports.Stop.{Stop}
use Rattle.dlupdate.specs.declared.reports.Stop.TheVariants as stop
use Rattle.dlupdate.specs.Runs.{Contents, Has, IsUnread, missing, too_long, refused, failed, IsStopped, StopsOnly, NoRefusal, IsReported, IsReportedOf}
use Rattle.dlupdate.specs.Texts as text

pub with_told : (contents : Option Contents) (P Q : Contents → Type 0) → ((c : Contents) → P c → Q c) → IfSome contents P → IfSome contents Q
with_told None P Q h k = tt
with_told (Some c) P Q h k = h c k

pub with_both : (contents : Option Contents) (P Q R : Contents → Type 0) → ((c : Contents) → P c → Q c → R c) → IfSome contents P → IfSome contents Q → IfSome contents R
with_both None P Q R h k l = tt
with_both (Some c) P Q R h k l = h c k l

-- a run that ends ends all the same where more is said of it
pub stop_more : (contents : Option Contents) (P Q : Contents → ℕ → List ℕ → Type 0) (s : Stop) → ((c : Contents) (status : ℕ) (printed : List ℕ) → P c status printed → Q c status printed)
    → IsStopped contents P s → IsStopped contents Q s
stop_more contents P Q (stop.Report r) h k = with_told contents (λ c. P c r.status r.text.items) (λ c. Q c r.status r.text.items) (λ c. h c r.status r.text.items) k
stop_more contents P Q stop.OutOfMemory h k = tt

-- with what was told before
pub stop_with : (contents : Option Contents) (X : Contents → Type 0) (P Q : Contents → ℕ → List ℕ → Type 0) (s : Stop) → ((c : Contents) (status : ℕ) (printed : List ℕ) → X c → P c status printed → Q c status printed)
    → IfSome contents X → IsStopped contents P s → IsStopped contents Q s
stop_with contents X P Q (stop.Report r) h x k = with_both contents X (λ c. P c r.status r.text.items) (λ c. Q c r.status r.text.items) (λ c. h c r.status r.text.items) x k
stop_with contents X P Q stop.OutOfMemory h x k = tt

-- contents that are the same say the same
pub stop_same : (contents later : Option Contents) (P : Contents → ℕ → List ℕ → Type 0) (s : Stop) → later ≡ contents → IsStopped later P s → IsStopped contents P s
stop_same contents later P s e h = subst (λ (k : Option Contents). IsStopped k P s) e h

pub told_same : (contents later : Option Contents) (P : Contents → Type 0) → later ≡ contents → IfSome later P → IfSome contents P
told_same contents later P e h = subst (λ (k : Option Contents). IfSome k P) e h

-- a file that isn't read without its reader isn't read with it
pub unread_more : (c : Contents) (name : List ℕ) (limit : ℕ) (Refuses : List ℕ → ℕ → ReadKind → Type 0) (status : ℕ) (printed : List ℕ) → IsUnread c name limit NoRefusal status printed → IsUnread c name limit Refuses status printed
unread_more c name limit Refuses status printed (missing a b d) = missing a b d
unread_more c name limit Refuses status printed (too_long bytes a b d e) = too_long bytes a b d e
unread_more c name limit Refuses status printed (refused bytes line kind a none b d) = absurd none
unread_more c name limit Refuses status printed (failed a b) = failed a b

-- a run ends with a file that its reader refuses
pub refused_stop : (contents : Option Contents) (name : List ℕ) (limit : ℕ) (bytes : List ℕ) (Refuses : List ℕ → ℕ → ReadKind → Type 0) (why : ReadRefusal) (s : Stop) → IfSome contents (λ c. Has c name limit bytes)
    → ((line : ℕ) (kind : ReadKind) → why ≡ Refused line kind → Refuses bytes line kind) → IsReportedOf name why s → IsStopped contents (λ c. IsUnread c name limit Refuses) s
refused_stop contents name limit bytes Refuses (Refused line kind) (stop.Report r) has refuses h =
    with_told contents (λ c. Has c name limit bytes) (λ c. IsUnread c name limit Refuses r.status r.text.items) (λ c here. refused bytes line kind here (refuses line kind refl) h.0 h.1) has
refused_stop contents name limit bytes Refuses (Refused line kind) stop.OutOfMemory has refuses h = tt
refused_stop contents name limit bytes Refuses OutOfMemory (stop.Report r) has refuses h = absurd (let no : ⊥ = cc in no)
refused_stop contents name limit bytes Refuses OutOfMemory stop.OutOfMemory has refuses h = tt

-- a run ends with a file that is missing, too long or can't be read
pub missing_stop : (contents : Option Contents) (name : List ℕ) (limit : ℕ) (s : Stop) → Gives contents name limit (Err why.Missing) → IsReported 3 (text.missing name) s → IsStopped contents (λ c. IsUnread c name limit NoRefusal) s
missing_stop None name limit (stop.Report r) g h = tt
missing_stop (Some c) name limit (stop.Report r) g h = missing g h.0 h.1
missing_stop contents name limit stop.OutOfMemory g h = tt

pub long_stop : (contents : Option Contents) (name : List ℕ) (limit : ℕ) (s : Stop) → Gives contents name limit (Err why.TooLong) → IsReported 3 (text.too_long name) s → IsStopped contents (λ c. IsUnread c name limit NoRefusal) s
long_stop None name limit (stop.Report r) g h = tt
long_stop (Some c) name limit (stop.Report r) g h = too_long g.0 g.1 g.2 h.0 h.1
long_stop contents name limit stop.OutOfMemory g h = tt

pub failed_stop : (contents : Option Contents) (name : List ℕ) (limit : ℕ) (s : Stop) → IsReported 6 (text.failed name) s → IsStopped contents (λ c. IsUnread c name limit NoRefusal) s
failed_stop None name limit (stop.Report r) h = tt
failed_stop (Some c) name limit (stop.Report r) h = failed h.0 h.1
failed_stop contents name limit stop.OutOfMemory h = tt

-- bytes that are read are the file's
pub read_has : (contents : Option Contents) (name : List ℕ) (limit : ℕ) (bytes : List ℕ) → Gives contents name limit (Ok bytes) → IfSome contents (λ c. Has c name limit bytes)
read_has None name limit bytes g = tt
read_has (Some c) name limit bytes g = g

other_status : (rose : Type 0) (status other : ℕ) → status ≡ other → ¬ (other ≡ 6) → status ≡ 6 → rose
other_status rose status other e n six = absurd (n (sym e ∙ six))

-- a run that ends with another status than 6 needs no fault
pub reported_only : (rose : Type 0) (status : ℕ) (printed : List ℕ) (s : Stop) → ¬ (status ≡ 6) → IsReported status printed s → StopsOnly rose s
reported_only rose status printed (stop.Report r) n h = other_status rose r.status status h.0 n
reported_only rose status printed stop.OutOfMemory n h = tt

pub refused_only : (rose : Type 0) (name : List ℕ) (why : ReadRefusal) (s : Stop) → IsReportedOf name why s → StopsOnly rose s
refused_only rose name (Refused line kind) s h = reported_only rose 3 (text.refused name line kind) s (λ e. omega (arith, e)) h
refused_only rose name OutOfMemory s h = subst (StopsOnly rose) (sym h) tt

-- the count rose between, so it rose from before
least_least : (x y m c : ℕ) → x ≤ y → min y m ≤ c → min x m ≤ c
least_least x y m c h r = omega (arith, h, r)

pub rose_wider : (a b c : ℕ) → a ≤ b → Rose b c → Rose a c
rose_wider a b c h r = least_least (a + 1) (b + 1) (2 ^ 64 - 1) c (omega (arith, h)) r

pub rose_later : (a b c : ℕ) → b ≤ c → Rose a b → Rose a c
rose_later a b c h r = omega (arith, h, r)

pub only_wider : (rose wider : Type 0) (s : Stop) → (rose → wider) → StopsOnly rose s → StopsOnly wider s
only_wider rose wider (stop.Report r) on h = λ six. on (h six)
only_wider rose wider stop.OutOfMemory on h = tt
