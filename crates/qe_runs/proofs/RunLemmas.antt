-- Runs: how they grow, and that their entries are encoded.
use Rattle.std.proofs.Common.{◌≡◌, ◌+◌, ◌%◌, ◌^◌, ◌<◌, ℕ, zero, suc, List, [], ◌∷◌, ◌++◌, length, if◌then◌else◌, Bool, true, false, refl, sym, ap, ◌∙◌, subst, arith}
use Rattle.std.proofs.Math.Nat.{mod-lt}
use Rattle.std.specs.Prelude.{◌==◌}
use Rattle.std.specs.List.{AllByRecursion}
use Rattle.qe_plain.specs.declared.command.PlainCommand.{PlainCommand}
use Rattle.qe_command.specs.declared.command.Command.{Command}
use Rattle.qe_command.specs.Nonces.{nonces_of}
use Rattle.qe_protocol.specs.declared.journal.JournalEntry.{JournalEntry}
use Rattle.qe_protocol.specs.Laws.{AreLong}
use Rattle.qe_protocol.proofs.JournalLemmas.{grows_by_entries}
use Rattle.qe_script.specs.declared.script.Line.{Line}
use Rattle.qe_encodes.specs.Callers.{Caller, Callers, caller_next, callers_next, opening_callers}
use Rattle.qe_encodes.specs.Draws.{Stream, ivs_from}
use Rattle.qe_encodes.specs.Encodes.{Encodes}
use Rattle.qe_runs.specs.Laws.{CallersCount, RunsEncode, RunsGrow}
use Rattle.qe_encodes.specs.Meant.{IsMeant}
use Rattle.qe_encodes.specs.Encoded.{EncodedFrom, IsEncodedEntry}
use Rattle.qe_runs.specs.Runs.{Setting, IsLineSent, SentFrom, callers_after, commands_of, own_commands, sender_of}
use Rattle.qe_encodes.specs.Sending.{command_of, nonces_at, stream_of, words_used}
use Rattle.qe_encodes.proofs.DrawLemmas.{IsBlock-iv_at}
use Rattle.qe_encodes.proofs.SendingLemmas.{command_encodes}

ivs_long : (stream : Stream) (count place : ℕ) → AreLong (ivs_from stream count place)
ivs_long stream zero place = tt
ivs_long stream (suc count) place = ((IsBlock-iv_at stream place).long, ivs_long stream count (place + 4))

module _ (setting : Setting) where
  pub line_encoded : (callers : Callers) (line : Line) (entry : JournalEntry) → IsMeant setting.under.schema line.command
      → IsLineSent setting callers line entry → IsEncodedEntry setting.under callers line.command entry
  unfolding nonces_at
  line_encoded callers line entry meant is =
      let sender = sender_of setting line.caller in
      let caller = callers line.caller in
      record {
        meant = meant;
        leaves = setting.leaves;
        encodes = subst (λ (x : ℕ × Command). Encodes setting.under setting.leaves (callers x.0).contentions line.command x.1)
            (λ i. (sym is.caller i, sym is.sent.command i)) (command_encodes sender caller line.command);
        nonces = subst AreLong (sym is.sent.nonces)
            (ivs_long (stream_of sender caller.number) (nonces_of (command_of sender caller line.command)) (words_used sender line.command));
      }

  sent_encoded : (callers : Callers) (lines : List Line) (entries : List JournalEntry)
      → AllByRecursion (λ line. IsMeant setting.under.schema line.command) lines
      → SentFrom setting callers lines entries → EncodedFrom setting.under callers (commands_of lines) entries
  sent_encoded callers [] [] meant sent = tt
  sent_encoded callers [] (entry ∷ entries) meant sent = absurd sent
  sent_encoded callers (line ∷ lines) [] meant sent = absurd sent
  sent_encoded callers (line ∷ lines) (entry ∷ entries) meant sent =
      let rest = sent_encoded (callers_next callers line.caller line.command entry.outcome) lines entries meant.1 sent.1 in (
        line_encoded callers line entry meant.0 sent.0,
        subst (λ who. EncodedFrom setting.under (callers_next callers who line.command entry.outcome) (commands_of lines) entries) (sym sent.0.caller) rest,
      )

  pub run_encoded : RunsEncode setting
  run_encoded lines journal meant run =
      record { legal = run.legal; encoded = sent_encoded (opening_callers setting.under.schema) lines journal meant run.sent }

  sent_more : (callers : Callers) (lines : List Line) (entries : List JournalEntry) (line : Line) (entry : JournalEntry)
      → SentFrom setting callers lines entries → IsLineSent setting (callers_after callers lines entries) line entry
      → SentFrom setting callers (lines ++ line ∷ []) (entries ++ entry ∷ [])
  sent_more callers [] [] line entry sent is = (is, tt)
  sent_more callers [] (e ∷ entries) line entry sent is = absurd sent
  sent_more callers (l ∷ lines) [] line entry sent is = absurd sent
  sent_more callers (l ∷ lines) (e ∷ entries) line entry sent is =
      (sent.0, sent_more (callers_next callers l.caller l.command e.outcome) lines entries line entry sent.1 is)

  not_longer : (callers : Callers) (line : Line) (lines : List Line) → SentFrom setting callers (lines ++ line ∷ []) [] → ⊥
  not_longer callers line [] sent = sent
  not_longer callers line (l ∷ lines) sent = sent

  not_shorter : (callers : Callers) (entry : JournalEntry) (entries : List JournalEntry) → SentFrom setting callers [] (entries ++ entry ∷ []) → ⊥
  not_shorter callers entry [] sent = sent
  not_shorter callers entry (e ∷ entries) sent = sent

  sent_before : (callers : Callers) (lines : List Line) (entries : List JournalEntry) (line : Line) (entry : JournalEntry)
      → SentFrom setting callers (lines ++ line ∷ []) (entries ++ entry ∷ []) → SentFrom setting callers lines entries
  sent_before callers [] [] line entry sent = tt
  sent_before callers [] (e ∷ entries) line entry sent = absurd (not_shorter (callers_next callers line.caller line.command e.outcome) entry entries sent.1)
  sent_before callers (l ∷ lines) [] line entry sent = absurd (not_longer (callers_next callers l.caller l.command entry.outcome) line lines sent.1)
  sent_before callers (l ∷ lines) (e ∷ entries) line entry sent =
      (sent.0, sent_before (callers_next callers l.caller l.command e.outcome) lines entries line entry sent.1)

  sent_many : (callers : Callers) (lines : List Line) (entries : List JournalEntry) → SentFrom setting callers lines entries → length entries ≡ length lines
  sent_many callers [] [] sent = refl
  sent_many callers [] (e ∷ entries) sent = absurd sent
  sent_many callers (l ∷ lines) [] sent = absurd sent
  sent_many callers (l ∷ lines) (e ∷ entries) sent = ap suc (sent_many (callers_next callers l.caller l.command e.outcome) lines entries sent.1)

  pub runs_grow : RunsGrow setting
  runs_grow = record {
    empty = record { legal = (grows_by_entries setting.under.schema).empty; sent = tt };
    more = λ lines journal line entry run allowed is. record {
      legal = (grows_by_entries setting.under.schema).legal journal entry run.legal allowed;
      sent = sent_more (opening_callers setting.under.schema) lines journal line entry run.sent is;
    };
    before = λ lines journal line entry run. record {
      legal = (grows_by_entries setting.under.schema).before journal entry run.legal;
      sent = sent_before (opening_callers setting.under.schema) lines journal line entry run.sent;
    };
    many = λ lines journal run. sent_many (opening_callers setting.under.schema) lines journal run.sent;
  }

mod_next : (n m : ℕ) → ((n + 1) % 2 ^ 64 + m) % 2 ^ 64 ≡ (n + suc m) % 2 ^ 64
mod_next n m = omega arith

module _ (next caller : ℕ) (command : PlainCommand) (rest : List PlainCommand) (is : next ≡ (caller + 1) % 2 ^ 64) where
  count_next : (own : Bool) (number : ℕ) → number ≡ (if own then next else caller)
      → (number + length rest) % 2 ^ 64 ≡ (caller + length (if own then command ∷ rest else rest)) % 2 ^ 64
  count_next true number numbered = ap (λ n. (n + length rest) % 2 ^ 64) (numbered ∙ is) ∙ mod_next caller (length rest)
  count_next false number numbered = ap (λ n. (n + length rest) % 2 ^ 64) numbered

number_of : (own : Bool) (next caller : Caller) → (if own then next else caller).number ≡ (if own then next.number else caller.number)
number_of true next caller = refl
number_of false next caller = refl

number_fits : (own : Bool) (next caller : Caller) → next.number < 2 ^ 64 → caller.number < 2 ^ 64 → (if own then next else caller).number < 2 ^ 64
number_fits true next caller fits held = fits
number_fits false next caller fits held = held

module _ (setting : Setting) (who : ℕ) where
  counts : (callers : Callers) (lines : List Line) (entries : List JournalEntry) → (callers who).number < 2 ^ 64 → SentFrom setting callers lines entries
      → (callers_after callers lines entries who).number ≡ ((callers who).number + length (own_commands who lines)) % 2 ^ 64
  counts callers [] entries fits sent = omega (arith, fits)
  counts callers (line ∷ lines) [] fits sent = absurd sent
  counts callers (line ∷ lines) (entry ∷ entries) fits sent =
      let own = who == line.caller in
      let caller = callers who in
      let next = caller_next caller line.command entry.outcome in
      let callers_then = callers_next callers line.caller line.command entry.outcome in
      let below : next.number < 2 ^ 64 = mod-lt (caller.number + 1) (omega arith) in
      counts callers_then lines entries (number_fits own next caller below fits) sent.1
      ∙ count_next next.number caller.number line.command (own_commands who lines) refl own (callers_then who).number (number_of own next caller)

pub callers_count : (setting : Setting) → CallersCount setting
callers_count setting lines journal who run =
    counts setting who (opening_callers setting.under.schema) lines journal (omega arith) run.sent ∙ omega arith
