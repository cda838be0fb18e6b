-- What is due tells the status of its input, and that no other is.
use Rattle.std.proofs.Common.{◌≡◌, ◌≤◌, ℕ, nat_lt, Bool, false, true, List, [], ◌++◌, length, Option, Some, None, Result, Ok, Err, refl, ap, sym, subst, ◌∙◌, arith}
use Rattle.std.proofs.KnownBytes.{Consumes-all}
use Rattle.std.proofs.lemmas.Bool.{le-ltb, lt-ltb}
use Rattle.std.proofs.lemmas.List.{length-append}
use Rattle.std.specs.Io.KnownBytes.{Consumes, IsAtEnd}
use Rattle.qe_base.specs.Lines.{placed_lines}
use Rattle.qe_base.specs.Transfer.{script_limit}
use Rattle.qe_base.specs.declared.status.Status.{Status}
use Rattle.qe_base.specs.declared.status.Status.TheVariants.{Done, Clash, BadScript, ScriptTooLong, BadWords}
use Rattle.qe_play.specs.declared.due.Verdict.TheVariants as verdict
use Rattle.qe_raw.specs.declared.fault.ScriptFault.{ScriptFault}
use Rattle.qe_raw.specs.declared.fault.ScriptFault.TheVariants.{At}
use Rattle.qe_script.specs.Script.{script_of}
use Rattle.qe_script.specs.declared.script.Script.{Script}
use Rattle.qe_show.proofs.LineLemmas.{shown_is_hex}
use Rattle.qe_show.specs.Lines.{first_not_hex}
use Rattle.qe_words.specs.declared.words.Words.{Words}
use Rattle.qe_words.specs.declared.words.Words.TheVariants as words
use Rattle.qe_due.proofs.VerdictLemmas.{done_verdict, clash_verdict, done_only, clash_only}
use Rattle.qe_due.specs.Due.{IsRun, IsClashOf, IsDueFor, IsDueForTaken, IsDueForTooMuch, IsDueForInput, IsDueOf}
use Rattle.qe_due.specs.Status.{status_of, hex_status, IsReadStatus, IsTaskStatus, IsSizedStatus, IsInputStatus, IsStatusOf, IsOnly}
use Rattle.qe_due.specs.declared.task.Task.{Task}
use Rattle.qe_due.specs.declared.task.Task.TheVariants.{Replay, Show}

-- what was taken to the end is the input
taken_is : (left after : Option (List ℕ)) (taken input : List ℕ) → left ≡ Some input → Consumes left after taken → IsAtEnd after → taken ≡ input
taken_is left after taken input is taken_so end = rw is at (Consumes-all left after taken [] taken taken_so end refl)

taken_within : (left after : Option (List ℕ)) (taken input : List ℕ) → left ≡ Some input → Consumes left after taken → length taken ≤ length input
taken_within None after taken input is taken_so = absurd cc
taken_within (Some all) None taken input is taken_so = absurd taken_so
taken_within (Some all) (Some rest) taken input is taken_so =
    let same : all ≡ input = cc in
    let long : length input ≡ length (taken ++ rest) = ap length (sym same) ∙ ap length taken_so in
    omega (arith, long, length-append taken rest)

-- a status that is named is the only one that is it
only_named : (named status : Status) → status ≡ named → IsOnly (λ s. s ≡ named) status
only_named named status is = record { due = is; only = λ other e. e ∙ sym is }

-- a text that is due comes with the status of its input, and with no other
run_is : (taken text : List ℕ) → IsRun taken text → IsOnly (IsReadStatus (script_of taken)) Done
run_is taken text is = rw is.is_script (record {
  due = record { verdict = verdict.Done; is = done_verdict is.script text is.done; told = refl };
  only = λ other has. has.told ∙ ap status_of (done_only is.script text has.verdict is.done has.is);
})

clash_is : (taken text : List ℕ) → IsClashOf taken text → IsOnly (IsReadStatus (script_of taken)) Clash
clash_is taken text is = rw is.is_script (record {
  due = record { verdict = verdict.Clash; is = clash_verdict is.script text is.clash; told = refl };
  only = λ other has. has.told ∙ ap status_of (clash_only is.script text has.verdict is.clash has.is);
})

refused_is : (read : Result Script ScriptFault) (fault : ScriptFault) → read ≡ Err fault → IsOnly (IsReadStatus read) BadScript
refused_is (Ok script) fault is = absurd cc
refused_is (Err other) fault is = only_named BadScript BadScript refl

task_is : (task : Task) (taken text : List ℕ) (status : Status) → IsDueFor task taken status text → IsOnly (IsTaskStatus task taken) status
task_is Replay taken text Done is = run_is taken text is
task_is Replay taken text Clash is = clash_is taken text is
task_is Replay taken text BadScript is = refused_is (script_of taken) (At is.line is.kind) is.fault
task_is Show taken text Done is = only_named (hex_status (first_not_hex (placed_lines taken))) Done (sym (ap hex_status (shown_is_hex (placed_lines taken) text is)))
task_is Show taken text BadScript is = only_named (hex_status (first_not_hex (placed_lines taken))) BadScript (sym (ap hex_status is.first))
task_is task taken text status is = absurd is

whole_is : (task : Task) (left after : Option (List ℕ)) (status : Status) (text input : List ℕ) → left ≡ Some input
    → IsDueForTaken task left after status text → IsOnly (IsInputStatus task input) status
whole_is task left after status text input left_is is =
    let same : is.taken ≡ input = taken_is left after is.taken input left_is is.whole.taken is.whole.end in
    let within : nat_lt script_limit (length input) ≡ false = le-ltb script_limit (length input) (subst (λ (bytes : List ℕ). length bytes ≤ script_limit) same is.whole.fits) in
    let of_taken = task_is task is.taken text status is.due in
    subst (λ (b : Bool). IsOnly (IsSizedStatus b task input) status) (sym within) (subst (λ (bytes : List ℕ). IsOnly (IsTaskStatus task bytes) status) same of_taken)

too_long_is : (task : Task) (left after : Option (List ℕ)) (text input : List ℕ) → left ≡ Some input → IsDueForTooMuch left after text
    → IsOnly (IsInputStatus task input) ScriptTooLong
too_long_is task left after text input left_is is =
    let within = taken_within left after is.too_long.bytes input left_is is.too_long.taken in
    let above : nat_lt script_limit (length input) ≡ true = lt-ltb script_limit (length input) (omega (arith, within, is.too_long.counted, is.too_long.above)) in
    subst (λ (b : Bool). IsOnly (IsSizedStatus b task input) ScriptTooLong) (sym above) (only_named ScriptTooLong ScriptTooLong refl)

input_is : (task : Task) (left after : Option (List ℕ)) (status : Status) (text input : List ℕ) → left ≡ Some input
    → IsDueForInput task left after status text → IsOnly (IsInputStatus task input) status
input_is task left after ScriptTooLong text input left_is is = too_long_is task left after text input left_is is
input_is task left after status text input left_is is = whole_is task left after status text input left_is is

pub due_is : (asked : Option Words) (left after : Option (List ℕ)) (status : Status) (text input : List ℕ) → left ≡ Some input
    → IsDueOf asked left after status text → IsOnly (IsStatusOf asked input) status
due_is (Some words.Replay) left after status text input left_is is = input_is Replay left after status text input left_is is
due_is (Some words.Show) left after status text input left_is is = input_is Show left after status text input left_is is
due_is (Some (words.Make documents seed)) left after status text input left_is is = only_named Done status is.done
due_is None left after status text input left_is is = only_named BadWords status is.bad
