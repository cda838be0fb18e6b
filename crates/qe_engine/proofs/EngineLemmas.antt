-- An entry added to a journal.
use Rattle.std.proofs.Common.{◌≡◌, ◌≤◌, ◌-◌, ℕ, ◌+◌, List, [], ◌∷◌, ◌++◌, length, refl, sym, ◌∙◌, ap, subst, arith, length-append}
use Rattle.qe_base.specs.declared.maintenance.Count.{Count}
use Rattle.qe_field.specs.declared.field.Field.{Field}
use Rattle.qe_command.specs.declared.command.Command.{Command}
use Rattle.qe_command.specs.Nonces.{nonces_of}
use Rattle.qe_command_document.specs.CommandDocument.{Fits}
use Rattle.qe_protocol.specs.declared.journal.JournalEntry.{JournalEntry}
use Rattle.qe_protocol.specs.declared.reply.Outcome.{Outcome}
use Rattle.qe_protocol.specs.declared.reply.Reply.{Reply}
use Rattle.qe_protocol.specs.Next.{next, outcome_of, AllowedCounts}
use Rattle.qe_protocol.specs.Journal.{opening, done, IsAllowed, IsLegal, state_of}
use Rattle.qe_protocol.specs.Laws.{AreTagged}
use Rattle.qe_protocol.proofs.DocumentLemmas.{next-tagged}
use Rattle.qe_protocol.proofs.JournalLemmas.{grows_by_entries}
use Rattle.qe_serving.specs.declared.collections.Collections.{Collections}
use Rattle.qe_serving.specs.declared.made.Made.{Made}
use Rattle.qe_serving.specs.Serving.{state_in, done_by, IsNext}
use Rattle.qe_engine.specs.Engines.{Engined, StandsByJournal, EntryAdded}

module _ (schema : List Field) (kept after : Collections) (journal : List JournalEntry) (stands : StandsByJournal schema kept journal)
    (entry : JournalEntry) (made : Made) (fits : Fits schema entry.command) (enough : length entry.nonces ≡ nonces_of entry.command)
    (counts : entry.counts ≡ made.counts) (opened : entry.opened ≡ made.opened) (outcome : entry.outcome ≡ outcome_of made.reply)
    (is : IsNext (state_in kept) (state_in after) entry.command entry.nonces made) where
  -- the state that the entry leads to
  led : done (state_of schema journal) entry ≡ done_by (state_in after) made
  unfolding done
  led =
      ap (λ state. next state entry.command entry.nonces entry.counts) (sym stands.state)
      ∙ ap (next (state_in kept) entry.command entry.nonces) counts ∙ is.does

  allowed : IsAllowed schema (state_of schema journal) entry
  allowed = record {
    fits = fits;
    nonces = enough;
    counts =
        subst (AllowedCounts (state_of schema journal) entry.command entry.nonces) (sym counts)
        (subst (λ state. AllowedCounts state entry.command entry.nonces made.counts) stands.state is.allowed);
    opened = opened ∙ sym (ap (λ done. done.opened) led);
    outcome = outcome ∙ sym (ap (λ done. outcome_of done.reply) led);
  }

  grown : state_of schema (journal ++ entry ∷ []) ≡ (done (state_of schema journal) entry).state
  grown = (grows_by_entries schema).state journal entry

  tags_stay : AreTagged (done (state_of schema journal) entry).state.docs
  unfolding done
  tags_stay = next-tagged (state_of schema journal) entry.command entry.nonces entry.counts stands.tagged

  pub stands_after : after.store.made ≤ kept.store.made + 1 → StandsByJournal schema after (journal ++ entry ∷ [])
  stands_after one = record {
    state = sym (grown ∙ ap (λ done. done.state) led);
    legal = (grows_by_entries schema).legal journal entry stands.legal allowed;
    tagged = subst (λ state. AreTagged state.docs) (sym grown) tags_stay;
    made = omega (arith, one, stands.made, length-append journal (entry ∷ []));
  }

  pub entry_added : (new : Engined) → new ≡ record { schema = schema; journal = journal ++ entry ∷ [] }
      → EntryAdded (record { schema = schema; journal = journal }) new entry.caller entry.command entry.nonces made.reply
  entry_added new new_is = record {
    entry = entry;
    added = ap (λ engine. engine.journal) new_is;
    schema = ap (λ engine. engine.schema) new_is;
    caller_is = refl;
    command_is = refl;
    nonces_are = refl;
    allowed = allowed;
    reply_is = sym (ap (λ done. done.reply) led);
    state = ap (λ engine. state_of engine.schema engine.journal) new_is ∙ grown;
  }

pub opening_stands : (schema : List Field) (kept : Collections) → state_in kept ≡ opening schema → kept.store.made ≡ 0 → StandsByJournal schema kept []
unfolding state_of IsLegal
opening_stands schema kept state made = record { state = state; legal = tt; tagged = tt; made = omega (arith, made) }

-- there are no more jobs than entries
pub few_jobs : (schema : List Field) (kept : Collections) (journal : List JournalEntry) → StandsByJournal schema kept journal → kept.upkeep.last ≤ length journal
few_jobs schema kept journal stands =
    let last = (grows_by_entries schema).jobs journal in omega (arith, last, ap (λ state. state.jobs.last) stands.state)

-- after want of memory
pub unchanged_stands : (schema : List Field) (kept after : Collections) (journal items : List JournalEntry) → StandsByJournal schema kept journal
    → state_in after ≡ state_in kept → after.store.made ≡ kept.store.made → items ≡ journal → StandsByJournal schema after items
unchanged_stands schema kept after journal items stands state made same =
    subst (StandsByJournal schema after) (sym same)
    (record { state = state ∙ stands.state; legal = stands.legal; tagged = stands.tagged; made = omega (arith, stands.made, made) })

-- an entry made of what a command was sent with, and of what it made
module _ (schema : List Field) (kept after : Collections) (journal before items : List JournalEntry) (caller : ℕ) (command : Command) (nonces stored : List (List ℕ))
    (reply : Reply) (counts : List Count) (opened : List ℕ) (outcome : Outcome) (made : Made) (stands : StandsByJournal schema kept journal) (same : before ≡ journal)
    (fits : Fits schema command) (enough : length nonces ≡ nonces_of command) (stored_is : stored ≡ nonces) (reply_is : reply ≡ made.reply)
    (counts_is : counts ≡ made.counts) (opened_is : opened ≡ made.opened) (outcome_is : outcome ≡ outcome_of reply)
    (is : IsNext (state_in kept) (state_in after) command nonces made)
    (items_are : items ≡ before ++ record { caller = caller; command = command; nonces = stored; counts = counts; opened = opened; outcome = outcome } ∷ []) where
  abbrev entry : JournalEntry
  entry = record { caller = caller; command = command; nonces = stored; counts = counts; opened = opened; outcome = outcome }

  enough_stored : length stored ≡ nonces_of command
  enough_stored = ap length stored_is ∙ enough

  is_stored : IsNext (state_in kept) (state_in after) command stored made
  is_stored = subst (λ all. IsNext (state_in kept) (state_in after) command all made) (sym stored_is) is

  said : outcome ≡ outcome_of made.reply
  said = outcome_is ∙ ap outcome_of reply_is

  grown_items : items ≡ journal ++ entry ∷ []
  grown_items = items_are ∙ ap (λ front. front ++ entry ∷ []) same

  pub entry_stands : after.store.made ≤ kept.store.made + 1 → StandsByJournal schema after items
  entry_stands one =
      subst (StandsByJournal schema after) (sym grown_items)
      (stands_after schema kept after journal stands entry made fits enough_stored counts_is opened_is said is_stored one)

  entry_is_added : (new : Engined) → new ≡ record { schema = schema; journal = items }
      → EntryAdded (record { schema = schema; journal = journal }) new caller command stored made.reply
  entry_is_added new new_is =
      entry_added schema kept after journal stands entry made fits enough_stored counts_is opened_is said is_stored new
      (new_is ∙ (λ i. record { schema = schema; journal = grown_items i }))

  pub entry_is_in : (old new : Engined) → record { schema = schema; journal = journal } ≡ old → new ≡ record { schema = schema; journal = items }
      → EntryAdded old new caller command nonces reply
  entry_is_in old new old_is new_is =
      subst (λ engine. EntryAdded engine new caller command nonces reply) old_is
      (subst (λ all. EntryAdded (record { schema = schema; journal = journal }) new caller command all reply) stored_is
      (subst (EntryAdded (record { schema = schema; journal = journal }) new caller command stored) (sym reply_is) (entry_is_added new new_is)))
