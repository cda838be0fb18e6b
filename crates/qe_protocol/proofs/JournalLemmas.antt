-- Journals, entry by entry.
use Rattle.std.proofs.Common.{◌≡◌, ◌≤◌, ℕ, ◌+◌, List, [], ◌∷◌, ◌++◌, length, refl, arith}
use Rattle.qe_field.specs.declared.field.Field.{Field}
use Rattle.qe_protocol.specs.declared.journal.JournalEntry.{JournalEntry}
use Rattle.qe_protocol.specs.declared.reply.Reply.{Reply}
use Rattle.qe_protocol.specs.declared.reply.Reply.TheVariants as r
use Rattle.qe_protocol.specs.State.{Jobs, State}
use Rattle.qe_protocol.specs.Laws.{IsLast}
use Rattle.qe_protocol.specs.Journal.{opening, done, IsAllowed, state_from, IsLegalFrom, state_of, IsLegal, GrowsByEntries}
use Rattle.qe_protocol.proofs.LastLemmas.{next-last}

state_from-push : (state : State) (entries : List JournalEntry) (entry : JournalEntry)
    → state_from state (entries ++ entry ∷ []) ≡ (done (state_from state entries) entry).state
state_from-push state [] entry = refl
state_from-push state (first ∷ entries) entry = state_from-push (done state first).state entries entry

legal-push : (fields : List Field) (state : State) (entries : List JournalEntry) (entry : JournalEntry) → IsLegalFrom fields state entries
    → IsAllowed fields (state_from state entries) entry → IsLegalFrom fields state (entries ++ entry ∷ [])
legal-push fields state [] entry legal allowed = (allowed, tt)
legal-push fields state (first ∷ entries) entry legal allowed = (legal.0, legal-push fields (done state first).state entries entry legal.1 allowed)

legal-front : (fields : List Field) (state : State) (entries : List JournalEntry) (entry : JournalEntry) → IsLegalFrom fields state (entries ++ entry ∷ [])
    → IsLegalFrom fields state entries
legal-front fields state [] entry legal = tt
legal-front fields state (first ∷ entries) entry legal = (legal.0, legal-front fields (done state first).state entries entry legal.1)

last-one : (before : ℕ) (after : Jobs) (reply : Reply) → IsLast before reply after → after.last ≤ before + 1
last-one before after (r.Begun job) is = omega (arith, is.1.0)
last-one before after _ is = omega (arith, is)

last-done : (state : State) (entry : JournalEntry) → (done state entry).state.jobs.last ≤ state.jobs.last + 1
unfolding done
last-done state entry = last-one state.jobs.last _ _ (next-last state entry.command entry.nonces entry.counts)

last-within : (state : State) (entries : List JournalEntry) → (state_from state entries).jobs.last ≤ state.jobs.last + length entries
last-within state [] = omega arith
last-within state (entry ∷ entries) = omega (arith, last-done state entry, last-within (done state entry).state entries)

pub grows_by_entries : (fields : List Field) → GrowsByEntries fields
unfolding state_of IsLegal
grows_by_entries fields = record {
  empty = tt;
  state = state_from-push (opening fields);
  legal = legal-push fields (opening fields);
  before = legal-front fields (opening fields);
  jobs = λ journal. omega (arith, last-within (opening fields) journal);
}
