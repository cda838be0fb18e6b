-- The words of a run, with the stray words of its journal put in, and its labels.
use Rattle.std.proofs.Common.{◌≡◌, ℕ, List, length, map, sym, ◌∙◌, subst}
use Rattle.std.proofs.lemmas.List.{length-map}
use Rattle.std.specs.List.{AllByRecursion}
use Rattle.qe_protocol.specs.declared.journal.JournalEntry.{JournalEntry}
use Rattle.qe_script.specs.declared.script.Line.{Line}
use Rattle.qe_script.specs.declared.script.Script.{Script}
use Rattle.qe_labels.specs.Clashes.{with_identifier}
use Rattle.qe_labels.specs.Listed.{labels}
use Rattle.qe_labels.specs.Numbers.{Numbers, all_learned}
use Rattle.qe_labels.specs.Under.{Under, root_of}
use Rattle.qe_census.specs.Noted.{HasFields}
use Rattle.qe_census.specs.Roots.{IsEncrypted}
use Rattle.qe_encodes.specs.Meant.{IsMeant}
use Rattle.qe_meant.specs.Held.{under_of}
use Rattle.qe_strays.specs.Met.{StraysJoin, met_of}
use Rattle.qe_strays.specs.Strays.{strays_in}
use Rattle.qe_client.specs.Laws.{ItemsAreEncrypted}
use Rattle.qe_runs.specs.Laws.{RunsEncode, RunsGrow}
use Rattle.qe_runs.specs.Runs.{IsRunOf, commands_of, setting_of}
use Rattle.qe_play.specs.Runs.{labels_in, numbers_in}

module _ (script : Script) (under : Under) (journal : List JournalEntry) (census after : Numbers) (is : under ≡ under_of script)
    (words : census ≡ met_of (under_of script) (commands_of script.lines) journal) (put : after ≡ all_learned census (strays_in under journal))
    (run : IsRunOf script journal) (join : StraysJoin) (grow : RunsGrow (setting_of script)) where
  many : length (commands_of script.lines) ≡ length journal
  many = length-map script.lines (λ (line : Line). line.command) ∙ sym (grow.many script.lines journal run)

  numbers_are : after ≡ numbers_in script journal
  numbers_are =
      put ∙ (λ i. all_learned (words i) (strays_in (is i) journal)) ∙ join (under_of script) (commands_of script.lines) journal run.legal many

  pub census_fields : RunsEncode (setting_of script) → ItemsAreEncrypted → AllByRecursion (λ (line : Line). IsMeant script.schema line.command) script.lines
      → HasFields (IsEncrypted under.schema) after
  census_fields encode items meant =
      subst (λ (at : Under × Numbers). HasFields (IsEncrypted at.0.schema) at.1) (λ i. (sym is i, sym numbers_are i))
      (items (under_of script) (commands_of script.lines) journal (encode script.lines journal meant run))

  pub run_labels : map (with_identifier (root_of under)) (labels after) ≡ labels_in script journal
  run_labels = (λ i. map (with_identifier (root_of (is i))) (labels (numbers_are i)))
