-- A run without a clash is the only one, and one with a clash leaves no other without one.
use Rattle.std.proofs.Common.{◌≡◌, ℕ, List, [], ◌∷◌, ◌++◌, map, Result, Ok, None, Some, refl, sym, ap, ◌∙◌, subst, Err, IfOk}
use Rattle.std.specs.Prelude.{length}
use Rattle.std.specs.List.{AllByRecursion}
use Rattle.qe_tokens.specs.declared.words.Label.{Label}
use Rattle.qe_field.specs.declared.field.Field.{Field}
use Rattle.qe_field.specs.Judgements.{bind}
use Rattle.qe_plain.specs.declared.command.PlainReply.{PlainReply}
use Rattle.qe_protocol.specs.declared.journal.JournalEntry.{JournalEntry}
use Rattle.qe_protocol.specs.Journal.{state_of}
use Rattle.qe_texts.specs.declared.fault.PrintFault.{PrintFault}
use Rattle.qe_script.specs.declared.script.Script.{Script}
use Rattle.qe_labels.specs.Clashes.{first_clash}
use Rattle.qe_labels.specs.Laws.{TestsClashes}
use Rattle.qe_labels.specs.Under.{root_of}
use Rattle.qe_encodes.specs.Kept.{outcomes_of, replies_due}
use Rattle.qe_encodes.specs.Meant.{IsMeant}
use Rattle.qe_meant.specs.Held.{under_of}
use Rattle.qe_opening.specs.Laws.{ReadsWhatIsMeant, read_as}
use Rattle.qe_laws.specs.Journals.{IsAnsweredPlainly, replies_of}
use Rattle.qe_runs.specs.Laws.{OneRun}
use Rattle.qe_runs.specs.Runs.{IsRunOf, commands_of, setting_of}
use Rattle.qe_runs.specs.Texts.{due_text, replies_text}
use Rattle.qe_run_texts.specs.Closing.{closing_line}
use Rattle.qe_play.specs.declared.due.Verdict.{Verdict}
use Rattle.qe_play.specs.declared.due.Verdict.TheVariants as v
use Rattle.qe_play.specs.Due.{EachRunClashes, HasOneVerdict, IsDueAs, IsOnlyRun, IsVerdict}
use Rattle.qe_play.specs.Runs.{AreAnswered, IsClear, closing_of, labels_in, numbers_in, run_text}

-- what holds of an answer that isn't a refusal, and follows from it
pub if_ok : {A B : Type 0} (result : Result A B) (P Q : A → Type 0) → ((it : A) → P it → Q it) → IfOk result P → IfOk result Q
if_ok (Ok it) P Q more holds = more it holds
if_ok (Err fault) P Q more holds = tt

-- what is read of replies tells them
pub same_replies : (one other : List PlainReply) → map read_as one ≡ map read_as other → one ≡ other
same_replies [] [] is = refl
same_replies [] (y ∷ ys) is = cc
same_replies (x ∷ xs) [] is = cc
same_replies (x ∷ xs) (y ∷ ys) is =
    let first : x ≡ y = cc in
    let later : map read_as xs ≡ map read_as ys = cc in
    let rest = same_replies xs ys later in
    (λ i. first i ∷ rest i)

module _ (script : Script) (one : OneRun (setting_of script)) (meant : AllByRecursion (λ line. IsMeant script.schema line.command) script.lines) where
  pub only_run : (journal : List JournalEntry) → IsRunOf script journal → IsClear script journal → IsOnlyRun script journal
  only_run journal run clear other also = sym (one script.lines journal other meant run clear also)

  pub each_clashes : (journal : List JournalEntry) → IsRunOf script journal → (IsClear script journal → ⊥) → EachRunClashes script
  each_clashes journal run clashes other also clear =
      clashes (subst (IsClear script) (one script.lines other journal meant also clear run) clear)

  pub one_verdict : HasOneVerdict script
  one_verdict v.Done v.Done is also = refl
  one_verdict v.Done v.Clash is also = absurd (each_clashes also.journal also.run also.clashes is.journal is.run is.clear)
  one_verdict v.Clash v.Done is also = absurd (each_clashes is.journal is.run is.clashes also.journal also.run also.clear)
  one_verdict v.Clash v.Clash is also = refl

-- a first clash is one
pub clash_clashes : TestsClashes → (script : Script) (journal : List JournalEntry) (pair : Label × Label)
    → first_clash (labels_in script journal) ≡ Some pair → IsClear script journal → ⊥
clash_clashes tests script journal pair is clear =
    let none : first_clash (labels_in script journal) ≡ None = (tests (root_of (under_of script)) (numbers_in script journal)).0 clear in
    cc

-- the replies of a run without a clash are those that are due
pub due_replies : (script : Script) (journal : List JournalEntry) (replies : List PlainReply) → ReadsWhatIsMeant (under_of script)
    → IsAnsweredPlainly (under_of script) (commands_of script.lines) journal → AreAnswered script journal replies
    → replies ≡ replies_due (commands_of script.lines) (outcomes_of journal)
due_replies script journal replies reads plainly answers =
    let due = replies_due (commands_of script.lines) (outcomes_of journal) in
    same_replies replies due (sym answers ∙ reads.all (replies_of script.schema journal) due plainly.answers)

-- their lines, and the line of the last state and the labels, are the run's text
pub text_is : (script : Script) (schema : List Field) (journal : List JournalEntry) (replies : List PlainReply) (count : ℕ) (lines closing : List ℕ)
    → schema ≡ script.schema → replies ≡ replies_due (commands_of script.lines) (outcomes_of journal) → count ≡ length (labels_in script journal)
    → replies_text script.schema script.brief replies ≡ Ok lines → closing ≡ closing_line schema (state_of schema journal) count
    → run_text script journal ≡ Ok (lines ++ closing)
text_is script schema journal replies count lines closing same due counted printed closes =
    let lines_are : due_text script.schema script.brief script.lines journal ≡ Ok lines =
    sym (ap (replies_text script.schema script.brief) due) ∙ printed in
    let closing_is : closing ≡ closing_of script journal = closes ∙ (λ i. closing_line (same i) (state_of (same i) journal) (counted i)) in
    ap (λ (read : Result (List ℕ) PrintFault). bind read (λ text. Ok (text ++ closing_of script journal))) lines_are
    ∙ (λ i. Ok (lines ++ sym closing_is i))

-- what is due tells the verdict
pub due_verdict : (script : Script) (verdict : Verdict) (text : List ℕ) → IsDueAs script verdict text → IsVerdict script verdict
due_verdict script v.Done text is = record { journal = is.journal; run = is.run; clear = is.clear }
due_verdict script v.Clash text is = record { journal = is.journal; run = is.run; clashes = is.every is.journal is.run }
