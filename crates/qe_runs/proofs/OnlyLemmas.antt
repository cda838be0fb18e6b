-- A run of lines without a clash is their only one.
use Rattle.std.proofs.Common.{◌≡◌, List, [], ◌∷◌, refl, sym, ◌∙◌, subst}
use Rattle.std.specs.List.{AllByRecursion}
use Rattle.std.specs.FinMap.{empty}
use Rattle.qe_plain.specs.declared.command.PlainDocument.{PlainDocument}
use Rattle.qe_protocol.specs.declared.journal.JournalEntry.{JournalEntry}
use Rattle.qe_protocol.specs.State.{State}
use Rattle.qe_protocol.specs.Journal.{IsLegal, IsLegalFrom, done, opening}
use Rattle.qe_script.specs.declared.script.Line.{Line}
use Rattle.qe_labels.specs.Laws.{IsFree}
use Rattle.qe_labels.specs.Numbers.{Numbers}
use Rattle.qe_labels.specs.Under.{root_of}
use Rattle.qe_labels.proofs.NumberLemmas.{free_before}
use Rattle.qe_encodes.specs.Callers.{Callers, callers_next, opening_callers}
use Rattle.qe_encodes.specs.Counted.{numbers_from, numbers_of, numbers_with}
use Rattle.qe_encodes.specs.Encoded.{IsEncodedEntry}
use Rattle.qe_encodes.specs.Fields.{IsUnder}
use Rattle.qe_encodes.specs.Laws.{EdgeLaws}
use Rattle.qe_encodes.specs.Meant.{IsMeant}
use Rattle.qe_plain.specs.Laws.{StepsKeepCollections}
use Rattle.qe_laws.specs.Journals.{EntryKept, IsNow}
use Rattle.qe_laws.proofs.JournalLemmas.{later_from, opening_now}
use Rattle.qe_laws.proofs.OneAllLemmas.{entry_one}
use Rattle.qe_laws.proofs.TheoremLemmas.{each_kept}
use Rattle.qe_runs.specs.Laws.{OneRun}
use Rattle.qe_runs.specs.Runs.{Setting, SentFrom, commands_of}
use Rattle.qe_runs.proofs.RunLemmas.{line_encoded}

module _ (laws : EdgeLaws) (steps : StepsKeepCollections) (setting : Setting) (is : IsUnder setting.under) where
  only_from : (lines : List Line) (entries others : List JournalEntry) (numbers : Numbers) (state : State) (callers : Callers) (documents : List PlainDocument)
      → AllByRecursion (λ line. IsMeant setting.under.schema line.command) lines → IsNow setting.under numbers state callers documents
      → SentFrom setting callers lines entries → IsLegalFrom setting.under.schema state entries
      → IsFree (root_of setting.under) (numbers_from setting.under state numbers (commands_of lines) entries)
      → SentFrom setting callers lines others → IsLegalFrom setting.under.schema state others → entries ≡ others
  only_from [] [] [] numbers state callers documents meant now sent legal free also allowed = refl
  only_from [] [] (other ∷ others) numbers state callers documents meant now sent legal free also allowed = absurd also
  only_from [] (entry ∷ entries) others numbers state callers documents meant now sent legal free also allowed = absurd sent
  only_from (line ∷ lines) [] others numbers state callers documents meant now sent legal free also allowed = absurd sent
  only_from (line ∷ lines) (entry ∷ entries) [] numbers state callers documents meant now sent legal free also allowed = absurd also
  only_from (line ∷ lines) (entry ∷ entries) (other ∷ others) numbers state callers documents meant now sent legal free also allowed =
      let u = setting.under in
      let plain = line.command in
      let next = numbers_with u state plain entry numbers in
      let after_state = (done state entry).state in
      let encoded : IsEncodedEntry u callers plain entry = line_encoded setting callers line entry meant.0 sent.0 in
      let free_next = free_before (root_of u) next (numbers_from u after_state next (commands_of lines) entries) (later_from u (commands_of lines) entries after_state next) free in
      let same : entry ≡ other =
      sym (entry_one u is numbers state callers documents plain entry other now encoded legal.0 free_next allowed.0
      (also.0.caller ∙ sym sent.0.caller) (also.0.sent.command ∙ sym sent.0.sent.command)
      (also.0.sent.nonces ∙ sym sent.0.sent.nonces)) in
      let kept : EntryKept u numbers state callers documents plain entry = each_kept laws steps u is numbers state callers documents plain entry now encoded legal.0 free_next in
      let now_after : IsNow u next after_state (callers_next callers line.caller plain entry.outcome) kept.later =
      subst (λ who. IsNow u next after_state (callers_next callers who plain entry.outcome) kept.later) sent.0.caller kept.now in
      let also_after : SentFrom setting (callers_next callers line.caller plain entry.outcome) lines others =
      subst (λ (e : JournalEntry). SentFrom setting (callers_next callers line.caller plain e.outcome) lines others) (sym same) also.1 in
      let allowed_after : IsLegalFrom u.schema after_state others =
      subst (λ (e : JournalEntry). IsLegalFrom u.schema (done state e).state others) (sym same) allowed.1 in
      let rest : entries ≡ others =
      only_from lines entries others next after_state (callers_next callers line.caller plain entry.outcome) kept.later meant.1 now_after sent.1 legal.1 free also_after allowed_after in
      (λ i. same i ∷ rest i)

  pub only_run : OneRun setting
  unfolding numbers_of IsLegal
  only_run lines journal other meant run free also =
      only_from lines journal other empty (opening setting.under.schema) (opening_callers setting.under.schema) [] meant (opening_now setting.under (each_kept laws steps setting.under is))
      run.sent run.legal free also.sent also.legal
