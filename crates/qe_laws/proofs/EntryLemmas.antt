-- Each entry of a journal keeps the relation.
use Rattle.std.proofs.Common.{◌≡◌, ℕ, true, List, refl}
use Rattle.std.proofs.lemmas.Bool.{cond_both}
use Rattle.qe_base.specs.declared.maintenance.Count.{Count}
use Rattle.qe_plain.specs.declared.command.PlainCommand.{PlainCommand}
use Rattle.qe_plain.specs.declared.command.PlainCommand.TheVariants as p
use Rattle.qe_plain.specs.declared.command.PlainDocument.{PlainDocument}
use Rattle.qe_command.specs.declared.command.Command.{Command}
use Rattle.qe_command.specs.declared.command.Command.TheVariants as c
use Rattle.qe_protocol.specs.declared.reply.Outcome.{Outcome}
use Rattle.qe_protocol.specs.Journal.{done}
use Rattle.qe_protocol.specs.State.{State}
use Rattle.qe_labels.specs.Numbers.{Numbers, StraysAreZero, all_learned, all_raised}
use Rattle.qe_labels.specs.Under.{Under}
use Rattle.qe_encodes.specs.Callers.{Contentions}
use Rattle.qe_encodes.specs.Counted.{is_accepted, numbers_by, stray_words}
use Rattle.qe_encodes.specs.Fields.{IsUnder}
use Rattle.qe_encodes.specs.Kept.{is_plain}
use Rattle.qe_encodes.specs.Words.{plain_cells, sent_cells, sought_words, stored_words}
use Rattle.qe_standing.specs.Stands.{Stands}
use Rattle.qe_standing.proofs.LimitLemmas.{within_next}
use Rattle.qe_laws.proofs.Commands.{CommandKept, CommandSent}
use Rattle.qe_laws.specs.Journals.{KeepsEntries}
use Rattle.qe_laws.proofs.CommandLemmas.{begin_kept, step_kept, end_kept, abandon_kept, raise_kept}
use Rattle.qe_laws.proofs.StrayLemmas.{strays_all_learned, strays_stored}

module _ (u : Under) (is : IsUnder u) where
  -- stray words stay at 0
  strays_by : (state : State) (plain : PlainCommand) (command : Command) (nonces : List (List ℕ)) (counts : List Count) (outcome : Outcome) (numbers : Numbers)
      → StraysAreZero numbers → StraysAreZero (numbers_by u state plain command nonces counts outcome numbers)
  strays_by state plain command nonces counts outcome numbers strays =
      let sought = all_learned numbers (sought_words u.schema plain command) in
      let first : StraysAreZero sought = strays_all_learned (sought_words u.schema plain command) numbers strays in
      cond_both (is_accepted outcome) (all_raised sought (stored_words u.schema plain command)) sought
      (λ stored. StraysAreZero (all_learned stored (stray_words u state command nonces counts)))
      (λ _. strays_all_learned (stray_words u state command nonces counts) (all_raised sought (stored_words u.schema plain command))
      (strays_stored u.schema (plain_cells plain) (sent_cells command) sought first))
      (λ _. strays_all_learned (stray_words u state command nonces counts) sought first)

  abbrev pub KeepsDocuments : Type 0
  KeepsDocuments = (numbers : Numbers) (state : State) (documents : List PlainDocument) (contentions : Contentions) (plain : PlainCommand) (command : Command)
      (nonces : List (List ℕ)) (counts : List Count) (outcome : Outcome) → Stands u numbers state documents → is_plain plain ≡ true
      → CommandSent u numbers state documents contentions plain command nonces counts outcome
      → CommandKept u numbers state documents contentions plain command nonces counts outcome

  module _ (acts : KeepsDocuments) where
    command_kept : (numbers : Numbers) (state : State) (documents : List PlainDocument) (contentions : Contentions) (nonces : List (List ℕ)) (counts : List Count) (outcome : Outcome)
        → Stands u numbers state documents → (plain : PlainCommand) (command : Command)
        → CommandSent u numbers state documents contentions plain command nonces counts outcome
        → CommandKept u numbers state documents contentions plain command nonces counts outcome
    command_kept numbers state documents contentions nonces counts outcome stands (p.Insert document) command sent =
        acts numbers state documents contentions (p.Insert document) command nonces counts outcome stands refl sent
    command_kept numbers state documents contentions nonces counts outcome stands (p.Find terms ids) command sent =
        acts numbers state documents contentions (p.Find terms ids) command nonces counts outcome stands refl sent
    command_kept numbers state documents contentions nonces counts outcome stands (p.Update terms set) command sent =
        acts numbers state documents contentions (p.Update terms set) command nonces counts outcome stands refl sent
    command_kept numbers state documents contentions nonces counts outcome stands (p.Delete terms) command sent =
        acts numbers state documents contentions (p.Delete terms) command nonces counts outcome stands refl sent
    command_kept numbers state documents contentions nonces counts outcome stands (p.Begin kind pairs) (c.Begin sort tokens) sent =
        begin_kept u is numbers state documents stands contentions nonces counts outcome kind pairs sort tokens sent
    command_kept numbers state documents contentions nonces counts outcome stands (p.Step job limit) (c.Step asked most) sent =
        step_kept u is numbers state documents stands contentions nonces counts outcome job limit asked most sent
    command_kept numbers state documents contentions nonces counts outcome stands (p.End job) (c.End asked) sent =
        end_kept u is numbers state documents stands contentions nonces counts outcome job asked sent
    command_kept numbers state documents contentions nonces counts outcome stands (p.Abandon job) (c.Abandon asked) sent =
        abandon_kept u is numbers state documents stands contentions nonces counts outcome job asked sent
    command_kept numbers state documents contentions nonces counts outcome stands (p.Raise field contention) (c.Raise named asked) sent =
        raise_kept u is numbers state documents stands contentions nonces counts outcome field contention named asked sent
    command_kept numbers state documents contentions nonces counts outcome stands plain command sent = absurd sent.encodes

    pub entries_kept : KeepsEntries u
    unfolding done
    entries_kept numbers state callers documents plain entry now encoded allowed free =
        let contentions : Contentions = (callers entry.caller).contentions in
        let sent : CommandSent u numbers state documents contentions plain entry.command entry.nonces entry.counts entry.outcome = record {
          meant = encoded.meant;
          leaves = encoded.leaves;
          encodes = encoded.encodes;
          within = now.within.each entry.caller;
          fits = allowed.fits;
          long = encoded.nonces;
          many = allowed.nonces;
          allowed = allowed.counts;
          outcome_is = allowed.outcome;
          strays = now.strays;
          free = free;
        } in
        let kept = command_kept numbers state documents contentions entry.nonces entry.counts entry.outcome now.stands plain entry.command sent in
        record {
          later = kept.later;
          reply = kept.reply;
          now = record {
            stands = kept.stands;
            strays = strays_by state plain entry.command entry.nonces entry.counts entry.outcome numbers now.strays;
            within = within_next u encoded.leaves is.schema state callers now.within entry.caller plain entry.command encoded.encodes allowed.fits entry.nonces entry.counts
                entry.outcome allowed.outcome;
          };
          answers = kept.answers;
          due = kept.due;
        }
