-- A run with its words and replies, one line further.
use Rattle.std.proofs.Common.{◌≡◌, ◌+◌, ℕ, Bool, List, [], ◌∷◌, ◌++◌, length, map, take, refl, sym, ap, ◌∙◌, subst}
use Rattle.std.proofs.lemmas.List.{map-append, length-map}
use Rattle.std.specs.FinMap.{empty}
use Rattle.qe_field.specs.declared.field.Field.{Field}
use Rattle.qe_plain.specs.declared.command.PlainReply.{PlainReply}
use Rattle.qe_protocol.specs.declared.journal.JournalEntry.{JournalEntry}
use Rattle.qe_protocol.specs.declared.reply.Reply.{Reply}
use Rattle.qe_protocol.specs.Journal.{done, state_of}
use Rattle.qe_script.specs.declared.script.Line.{Line}
use Rattle.qe_script.specs.declared.script.Script.{Script}
use Rattle.qe_labels.specs.Numbers.{Numbers}
use Rattle.qe_labels.specs.Under.{Under}
use Rattle.qe_encodes.specs.Callers.{opening_callers}
use Rattle.qe_encodes.specs.Counted.{is_accepted}
use Rattle.qe_laws.specs.Journals.{replies_of}
use Rattle.qe_opening.specs.Answer.{answer_of}
use Rattle.qe_opening.specs.Laws.{read_as}
use Rattle.qe_runs.specs.Runs.{Setting, IsRun, commands_of, setting_of}
use Rattle.qe_runs.proofs.RunLemmas.{runs_grow}
use Rattle.qe_strays.specs.Met.{met_by, met_from, met_of}
use Rattle.qe_census.specs.Noted.{with_words}
use Rattle.qe_engine.specs.Engines.{Engined}
use Rattle.qe_line_played.specs.declared.played.Played.{Played}
use Rattle.qe_script_run.specs.declared.ran.Ran.{Ran}
use Rattle.qe_line_run.specs.Playing.{HasPlayed}
use Rattle.qe_line_run.specs.Running.{AreClients}
use Rattle.qe_line_run.proofs.FoldLemmas.{commands_more}
use Rattle.qe_script_run.specs.Reached.{IsReached}
use Rattle.qe_script_run.proofs.FoldLemmas.{met_more, replies_more}

replies_none : (fields : List Field) → replies_of fields [] ≡ []
unfolding replies_of
replies_none fields = refl

-- before the first line
pub reached_at_first : (setting : Setting) (ran : Ran) → ran.engine ≡ record { schema = setting.under.schema; journal = [] }
    → AreClients setting (opening_callers setting.under.schema) ran.clients.items → ran.census ≡ empty → ran.replies ≡ [] → IsReached setting [] ran
reached_at_first setting ran engine clients census replies = record {
  schema = ap (λ (e : Engined). e.schema) engine;
  run = subst (IsRun setting []) (sym (ap (λ (e : Engined). e.journal) engine)) (runs_grow setting).empty;
  clients = clients;
  met = census;
  answers =
      ap (λ (journal : List JournalEntry). map (answer_of setting.under) (replies_of setting.under.schema journal)) (ap (λ (e : Engined). e.journal) engine)
      ∙ ap (map (answer_of setting.under)) (replies_none setting.under.schema)
      ∙ sym (ap (map read_as) replies);
}

-- one line further
module _ (script : Script) (place : ℕ) (ran after : Ran) (played : Played) (accepted : Bool)
    (reached : IsReached (setting_of script) (take place script.lines) ran)
    (next : HasPlayed script place ran.engine after.engine after.clients.items played)
    (accepted_is : accepted ≡ is_accepted next.entry.outcome)
    (census : after.census ≡ with_words ran.census played.sent.asked played.sent.indexed accepted)
    (replies : after.replies ≡ ran.replies ++ played.reply ∷ []) where
  abbrev lines : List Line
  lines = take place script.lines

  abbrev u : Under
  u = (setting_of script).under

  commands_are : commands_of (take (place + 1) script.lines) ≡ commands_of lines ++ next.line.command ∷ []
  commands_are = ap commands_of next.at ∙ commands_more lines next.line

  as_many : length ran.engine.journal ≡ length (commands_of lines)
  as_many = (runs_grow (setting_of script)).many lines ran.engine.journal reached.run ∙ sym (length-map lines (λ (l : Line). l.command))

  met : after.census ≡ met_of u (commands_of (take (place + 1) script.lines)) after.engine.journal
  met =
      census ∙ (λ i. with_words ran.census (next.asked i) (next.indexed i) (accepted_is i))
      ∙ ap (λ (numbers : Numbers). met_by u numbers next.line.command next.entry.command next.entry.outcome) reached.met
      ∙ sym (met_more u empty (commands_of lines) ran.engine.journal next.line.command next.entry as_many)
      ∙ sym (λ i. met_of u (commands_are i) (next.added i))

  answers : map (answer_of u) (replies_of u.schema after.engine.journal) ≡ map read_as after.replies
  answers =
      ap (λ (journal : List JournalEntry). map (answer_of u) (replies_of u.schema journal)) next.added
      ∙ ap (map (answer_of u)) (replies_more u.schema ran.engine.journal next.entry)
      ∙ map-append (answer_of u) (replies_of u.schema ran.engine.journal) ((done (state_of u.schema ran.engine.journal) next.entry).reply ∷ [])
      ∙ (λ i. reached.answers i ++ next.reply i ∷ [])
      ∙ sym (map-append read_as ran.replies (played.reply ∷ []))
      ∙ ap (map read_as) (sym replies)

  pub reached_more : IsReached (setting_of script) (take (place + 1) script.lines) after
  reached_more = record {
    schema = next.have.schema;
    run = next.have.run;
    clients = next.have.clients_are;
    met = met;
    answers = answers;
  }
