-- Stray words may be learned after all others.
use Rattle.std.proofs.Common.{◌≡◌, ℕ, Bool, true, false, List, [], ◌∷◌, ◌++◌, length, refl, sym, ap, ◌∙◌, subst, arith}
use Rattle.std.proofs.lemmas.List.{append-nil, append_assoc}
use Rattle.std.specs.FinMap.{empty}
use Rattle.std.specs.Prelude.{if◌then◌else◌}
use Rattle.qe_plain.specs.declared.command.PlainCommand.{PlainCommand}
use Rattle.qe_command.specs.declared.command.Command.{Command}
use Rattle.qe_protocol.specs.declared.journal.JournalEntry.{JournalEntry}
use Rattle.qe_protocol.specs.declared.reply.Outcome.{Outcome}
use Rattle.qe_protocol.specs.Journal.{IsAllowed, IsLegal, IsLegalFrom, done, opening}
use Rattle.qe_protocol.specs.State.{State}
use Rattle.qe_tokens.specs.declared.words.FieldToken.{FieldToken}
use Rattle.qe_tokens.specs.declared.words.Word.{Word}
use Rattle.qe_labels.specs.Numbers.{Numbers, all_learned, all_raised}
use Rattle.qe_labels.specs.Under.{Under}
use Rattle.qe_encodes.specs.Counted.{is_accepted, numbers_from, numbers_of, stray_words}
use Rattle.qe_encodes.specs.Words.{sought_words, stored_words}
use Rattle.qe_strays.specs.Met.{StraysJoin, met_by, met_from}
use Rattle.qe_strays.specs.Strays.{opened_strays, strays_from, tokens_after}
use Rattle.qe_strays.proofs.LearnLemmas.{learned_append, past_learned, past_raised}
use Rattle.qe_strays.proofs.OpenedLemmas.{Holds, opened_match}
use Rattle.qe_strays.proofs.TokenLemmas.{tokens_kept}

abbrev met_if : Bool → Numbers → List Word → List Word → Numbers
met_if accepted m sought stored = if accepted then all_raised (all_learned m sought) stored else all_learned m sought

past_if : (accepted : Bool) (m : Numbers) (sought stored words : List Word) → met_if accepted (all_learned m words) sought stored ≡ all_learned (met_if accepted m sought stored) words
past_if true m sought stored words = ap (λ x. all_raised x stored) (past_learned words m sought) ∙ past_raised words (all_learned m sought) stored
past_if false m sought stored words = past_learned words m sought

module _ (u : Under) where
  met_past : (m : Numbers) (words : List Word) (plain : PlainCommand) (command : Command) (outcome : Outcome)
      → met_by u (all_learned m words) plain command outcome ≡ all_learned (met_by u m plain command outcome) words
  met_past m words plain command outcome = past_if (is_accepted outcome) m (sought_words u.schema plain command) (stored_words u.schema plain command) words

  entry_strays : (state : State) (tokens : List FieldToken) (entry : JournalEntry) → IsAllowed u.schema state entry → Holds tokens state.jobs.job
      → opened_strays u tokens entry.opened entry.counts ≡ stray_words u state entry.command entry.nonces entry.counts
  unfolding done
  entry_strays state tokens entry allowed holds = opened_match u state entry.nonces entry.counts tokens entry.opened entry.command allowed.opened allowed.counts holds

  entry_tokens : (state : State) (tokens : List FieldToken) (entry : JournalEntry) → IsAllowed u.schema state entry → Holds tokens state.jobs.job
      → Holds (tokens_after tokens entry.command entry.outcome) (done state entry).state.jobs.job
  unfolding done
  entry_tokens state tokens entry allowed holds =
      subst (λ outcome. Holds (tokens_after tokens entry.command outcome) (done state entry).state.jobs.job) (sym allowed.outcome)
      (tokens_kept state entry.nonces entry.counts tokens holds entry.command)

  join_from : (plains : List PlainCommand) (entries : List JournalEntry) (state : State) (tokens : List FieldToken) (m : Numbers) (words : List Word)
      → IsLegalFrom u.schema state entries → length plains ≡ length entries → Holds tokens state.jobs.job
      → all_learned (met_from u m plains entries) (words ++ strays_from u tokens entries) ≡ numbers_from u state (all_learned m words) plains entries
  join_from [] [] state tokens m words legal many holds = ap (all_learned m) (append-nil words)
  join_from [] (entry ∷ entries) state tokens m words legal many holds = absurd (omega arith)
  join_from (plain ∷ plains) [] state tokens m words legal many holds = absurd (omega arith)
  join_from (plain ∷ plains) (entry ∷ entries) state tokens m words legal many holds =
      let here = opened_strays u tokens entry.opened entry.counts in
      let later = strays_from u (tokens_after tokens entry.command entry.outcome) entries in
      let next = met_by u m plain entry.command entry.outcome in
      let strays = entry_strays state tokens entry legal.0 holds in
      let fewer : length plains ≡ length entries = omega arith in
      let numbers : all_learned next (words ++ here)
      ≡ all_learned (met_by u (all_learned m words) plain entry.command entry.outcome) (stray_words u state entry.command entry.nonces entry.counts) =
      learned_append words next here ∙ ap (all_learned (all_learned next words)) strays
      ∙ ap (λ x. all_learned x (stray_words u state entry.command entry.nonces entry.counts)) (sym (met_past m words plain entry.command entry.outcome)) in
      ap (all_learned (met_from u next plains entries)) (sym (append_assoc words here later))
      ∙ join_from plains entries (done state entry).state (tokens_after tokens entry.command entry.outcome) next (words ++ here) legal.1 fewer
      (entry_tokens state tokens entry legal.0 holds)
      ∙ ap (λ x. numbers_from u (done state entry).state x plains entries) numbers

pub strays_join : StraysJoin
unfolding IsLegal numbers_of
strays_join u plains journal legal many = join_from u plains journal (opening u.schema) [] empty [] legal many tt
