-- A field without a contention has none at any time.
use Rattle.std.proofs.Common.{◌≡◌, ◌≢◌, ℕ, zero, suc, List, [], ◌∷◌, map, false, refl, sym, ◌∙◌, ap}
use Rattle.std.specs.Prelude.{nat_le, slice_get}
use Rattle.std.proofs.lemmas.Bool.{cond_both, false≢true}
use Rattle.std.proofs.lemmas.List.{get_or-set_other}
use Rattle.qe_base.specs.declared.maintenance.Count.{Count}
use Rattle.qe_field.specs.declared.field.Field.{Field}
use Rattle.qe_field.specs.declared.field.FieldKind.{FieldKind}
use Rattle.qe_field.specs.declared.field.FieldKind.TheVariants as k
use Rattle.qe_field.specs.Lookup.{is_encrypted}
use Rattle.qe_field.specs.Schema.{IsSchema}
use Rattle.qe_command.specs.declared.command.Command.{Command}
use Rattle.qe_command.specs.declared.command.Command.TheVariants as c
use Rattle.qe_command_fits.specs.OfSchema.{IsFieldAt, IsRaiseOf, IsOfSchema}
use Rattle.qe_command_fits.proofs.FittingLemmas.{fitting_laws}
use Rattle.qe_protocol.specs.declared.journal.JournalEntry.{JournalEntry}
use Rattle.qe_protocol.specs.Contention.{current_of, raise}
use Rattle.qe_protocol.specs.Journal.{first_contention, opening, done, IsLegalFrom, IsLegal, state_from, state_of}
use Rattle.qe_protocol.specs.Next.{next}
use Rattle.qe_protocol.specs.State.{Done, State}
use Rattle.qe_protocol.proofs.ContentionLemmas.{next-rises}
use Rattle.qe_engine.specs.Engines.{has_contention}

plain_none : (kind : FieldKind) → is_encrypted kind ≡ false → first_contention kind ≡ 0
plain_none k.Plain bare = refl
plain_none (k.Equality id kind contention greatest) bare = absurd (false≢true (sym bare))
plain_none (k.Range id kind contention greatest domain) bare = absurd (false≢true (sym bare))

-- at first
first_none : (fields : List Field) (number : ℕ) → has_contention (slice_get fields number) ≡ false
    → current_of (map (λ (field : Field). first_contention field.kind) fields) number ≡ 0
first_none [] number bare = refl
first_none (field ∷ fields) zero bare = plain_none field.kind bare
first_none (field ∷ fields) (suc number) bare = first_none fields number bare

module _ (fields : List Field) (number : ℕ) (bare : has_contention (slice_get fields number) ≡ false) where
  -- what is raised is another field
  other_field : (field asked : ℕ) → IsFieldAt fields field (IsRaiseOf asked) → number ≢ field
  other_field field asked is same =
      false≢true (sym bare ∙ ap (λ n. has_contention (slice_get fields n)) same ∙ ap has_contention is.there ∙ is.kind.encrypted)

  HasNone : Done → Type 0
  HasNone done = current_of done.state.current number ≡ 0

  still_none : (state : State) (done : Done) → current_of state.current number ≡ 0 → done.state.current ≡ state.current → HasNone done
  unfolding HasNone
  still_none state done none same = ap (λ current. current_of current number) same ∙ none

  raise_none : (state : State) (field asked : ℕ) → current_of state.current number ≡ 0 → IsFieldAt fields field (IsRaiseOf asked) → HasNone (raise state field asked)
  unfolding HasNone
  raise_none state field asked none is =
      cond_both (nat_le asked (current_of state.current field)) _ _ HasNone (λ _. none)
      (λ _. get_or-set_other state.current field number asked 0 (other_field field asked is) ∙ none)

  next_none : (state : State) (command : Command) (nonces : List (List ℕ)) (counts : List Count) → IsOfSchema fields command
      → current_of state.current number ≡ 0 → HasNone (next state command nonces counts)
  next_none state (c.Insert id cells) nonces counts of none = still_none state _ none (next-rises state (c.Insert id cells) nonces counts)
  next_none state (c.Find terms ids) nonces counts of none = still_none state _ none (next-rises state (c.Find terms ids) nonces counts)
  next_none state (c.Update terms set) nonces counts of none = still_none state _ none (next-rises state (c.Update terms set) nonces counts)
  next_none state (c.Delete terms) nonces counts of none = still_none state _ none (next-rises state (c.Delete terms) nonces counts)
  next_none state (c.Begin kind tokens) nonces counts of none = still_none state _ none (next-rises state (c.Begin kind tokens) nonces counts)
  next_none state (c.Step job limit) nonces counts of none = still_none state _ none (next-rises state (c.Step job limit) nonces counts)
  next_none state (c.End job) nonces counts of none = still_none state _ none (next-rises state (c.End job) nonces counts)
  next_none state (c.Abandon job) nonces counts of none = still_none state _ none (next-rises state (c.Abandon job) nonces counts)
  next_none state (c.Raise field asked) nonces counts of none = raise_none state field asked none of

  from_none : IsSchema fields → (state : State) (journal : List JournalEntry) → IsLegalFrom fields state journal
      → current_of state.current number ≡ 0 → current_of (state_from state journal).current number ≡ 0
  unfolding HasNone done
  from_none schema state [] legal none = none
  from_none schema state (entry ∷ entries) legal none =
      from_none schema (done state entry).state entries legal.1
      (next_none state entry.command entry.nonces entry.counts (fitting_laws fields entry.command schema legal.0.fits).of_schema none)

  pub journal_none : IsSchema fields → (journal : List JournalEntry) → IsLegal fields journal → current_of (state_of fields journal).current number ≡ 0
  unfolding state_of IsLegal
  journal_none schema journal legal = from_none schema (opening fields) journal legal (first_none fields number bare)
