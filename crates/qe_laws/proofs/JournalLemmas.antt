-- The induction over journals.
use Rattle.std.proofs.Common.{◌≡◌, ℕ, Bool, true, false, if◌then◌else◌, List, [], ◌∷◌, Option, None, Some, refl, sym, ap, ◌∙◌, subst, arith}
use Rattle.std.proofs.lemmas.Bool.{cond_both}
use Rattle.std.specs.List.{AllZip}
use Rattle.std.specs.FinMap.{get, empty, get-empty}
use Rattle.qe_field.specs.declared.field.Field.{Field}
use Rattle.qe_plain.specs.Collection.{after, replay_from, then_replies}
use Rattle.qe_plain.specs.declared.command.PlainCommand.{PlainCommand}
use Rattle.qe_plain.specs.declared.command.PlainDocument.{PlainDocument}
use Rattle.qe_plain.specs.declared.command.PlainReply.{PlainReply}
use Rattle.std.proofs.lemmas.List.{length-map}
use Rattle.std.specs.Cmp.Lexicographic.{slice_cmp}
use Rattle.std.specs.Ordering.{nat_cmp}
use Rattle.qe_tokens.specs.declared.words.Word.{Word}
use Rattle.qe_tokens.specs.declared.words.Word.TheVariants.{Item, Stray}
use Rattle.qe_esc.specs.Rows.{Row}
use Rattle.qe_protocol.specs.declared.journal.JournalEntry.{JournalEntry}
use Rattle.qe_protocol.specs.declared.reply.Outcome.{Outcome}
use Rattle.qe_protocol.specs.State.{State}
use Rattle.qe_protocol.specs.Journal.{IsLegal, IsLegalFrom, done, first_contention, opening, state_from, state_of}
use Rattle.qe_labels.specs.Laws.{IsFree}
use Rattle.qe_labels.specs.Numbers.{Later, Numbers, all_learned, all_raised, word_cmp}
use Rattle.qe_labels.specs.Under.{Under, root_of}
use Rattle.qe_labels.proofs.NumberLemmas.{free_before, later_all_learned, later_all_raised, later_on, later_same}
use Rattle.qe_encodes.specs.Callers.{Callers, callers_next, opening_callers}
use Rattle.qe_encodes.specs.Counted.{is_accepted, numbers_from, numbers_of, numbers_with, stray_words}
use Rattle.qe_encodes.specs.Encoded.{EncodedFrom, IsEncoded}
use Rattle.qe_encodes.specs.Kept.{is_kept, outcomes_of, replies_due, replies_in, without_maintenance, woven, woven_at}
use Rattle.qe_encodes.specs.Replies.{Answers}
use Rattle.qe_encodes.specs.Words.{sought_words, stored_words}
use Rattle.qe_standing.specs.Stands.{IsDue}
use Rattle.qe_laws.specs.Journals.{EntryKept, IsAnsweredPlainly, IsNow, KeepsEntries, callers_from, replies_from, replies_of}

-- ---- at first no word is known, and there is no row
none_known : (word : Word) (n : ℕ) → get (empty {X = ℕ} {R = word_cmp}) word ≡ Some n → ⊥
none_known word n known = let none : None ≡ Some n = sym (get-empty word_cmp word) ∙ known in cc

no_row : (id : List ℕ) (row : Row) → get (empty {X = Row} {R = slice_cmp nat_cmp}) id ≡ Some row → ⊥
no_row id row there = let none : None ≡ Some row = sym (get-empty (slice_cmp nat_cmp) id) ∙ there in cc

-- ---- words of earlier entries stay
module _ (u : Under) where
  pub later_with : (state : State) (plain : PlainCommand) (entry : JournalEntry) (numbers : Numbers) → Later numbers (numbers_with u state plain entry numbers)
  later_with state plain entry numbers =
      let sought = all_learned numbers (sought_words u.schema plain entry.command) in
      let words = stored_words u.schema plain entry.command in
      let stored = cond_both (is_accepted entry.outcome) (all_raised sought words) sought (Later sought) (λ _. later_all_raised words sought) (λ _. later_same sought) in
      let strays = stray_words u state entry.command entry.nonces entry.counts in
      later_on numbers sought (numbers_with u state plain entry numbers) (later_all_learned (sought_words u.schema plain entry.command) numbers)
      (cond_both (is_accepted entry.outcome) (all_raised sought words) sought (λ middle. Later sought (all_learned middle strays))
      (λ _. later_on sought (all_raised sought words) (all_learned (all_raised sought words) strays) (later_all_raised words sought) (later_all_learned strays (all_raised sought words)))
      (λ _. later_all_learned strays sought))

  pub later_from : (plains : List PlainCommand) (entries : List JournalEntry) (state : State) (numbers : Numbers) → Later numbers (numbers_from u state numbers plains entries)
  later_from [] entries state numbers = later_same numbers
  later_from (plain ∷ plains) [] state numbers = later_same numbers
  later_from (plain ∷ plains) (entry ∷ entries) state numbers =
      let next = numbers_with u state plain entry numbers in
      later_on numbers next (numbers_from u (done state entry).state next plains entries) (later_with state plain entry numbers)
      (later_from plains entries (done state entry).state next)

  -- ---- one entry, and all
  pub record JournalKept (numbers : Numbers) (state : State) (callers : Callers) (documents : List PlainDocument) (plains : List PlainCommand) (entries : List JournalEntry)
      : Type 0 where
    pub last : List PlainDocument
    pub kept : List PlainReply
    pub now : IsNow u (numbers_from u state numbers plains entries) (state_from state entries) (callers_from callers plains entries) last
    pub plainly : replay_from documents (without_maintenance plains (outcomes_of entries)) ≡ Some (last, kept)
    pub answers : AllZip (Answers u) (replies_from state entries) (woven plains (outcomes_of entries) kept)

  -- what the plain replay becomes by one more command
  module _ (documents : List PlainDocument) (plain : PlainCommand) (outcome : Outcome) (later : List PlainDocument) (reply : PlainReply)
      (plains : List PlainCommand) (outcomes : List Outcome) (last : List PlainDocument) (kept : List PlainReply)
      (rest : replay_from later (without_maintenance plains outcomes) ≡ Some (last, kept)) where
    pub record IsMore : Type 0 where
      pub replies : List PlainReply
      pub plainly : replay_from documents (without_maintenance (plain ∷ plains) (outcome ∷ outcomes)) ≡ Some (last, replies)
      pub woven_so : woven (plain ∷ plains) (outcome ∷ outcomes) replies ≡ reply ∷ woven plains outcomes kept

    more_by : (keep : Bool) → is_kept plain outcome ≡ keep → IsDue keep documents plain outcome later reply → IsMore
    more_by true is due = record {
      replies = reply ∷ kept;
      plainly =
          ap (λ b. replay_from documents (if b then plain ∷ without_maintenance plains outcomes else without_maintenance plains outcomes)) is
          ∙ ap (λ (o : Option (List PlainDocument × PlainReply)). after o (λ next. then_replies next.1 (replay_from next.0 (without_maintenance plains outcomes)))) due
          ∙ ap (then_replies reply) rest;
      woven_so = ap (λ b. woven_at b outcome (reply ∷ kept) (woven plains outcomes)) is;
    }
    more_by false is due = record {
      replies = kept;
      plainly =
          ap (λ b. replay_from documents (if b then plain ∷ without_maintenance plains outcomes else without_maintenance plains outcomes)) is
          ∙ ap (λ docs. replay_from docs (without_maintenance plains outcomes)) (sym due.0)
          ∙ rest;
      woven_so = ap (λ b. woven_at b outcome kept (woven plains outcomes)) is ∙ ap (λ one. one ∷ woven plains outcomes kept) (sym due.1);
    }

    pub more_kept : IsDue (is_kept plain outcome) documents plain outcome later reply → IsMore
    more_kept due = more_by (is_kept plain outcome) refl due

  module _ (keep : KeepsEntries u) where
    pub journal_kept : (plains : List PlainCommand) (entries : List JournalEntry) (numbers : Numbers) (state : State) (callers : Callers) (documents : List PlainDocument)
        → IsNow u numbers state callers documents → EncodedFrom u callers plains entries → IsLegalFrom u.schema state entries
        → IsFree (root_of u) (numbers_from u state numbers plains entries) → JournalKept numbers state callers documents plains entries
    journal_kept [] [] numbers state callers documents now encoded legal free = record { last = documents; kept = []; now = now; plainly = refl; answers = tt }
    journal_kept [] (entry ∷ entries) numbers state callers documents now encoded legal free = absurd encoded
    journal_kept (plain ∷ plains) [] numbers state callers documents now encoded legal free = absurd encoded
    journal_kept (plain ∷ plains) (entry ∷ entries) numbers state callers documents now encoded legal free =
        let next = numbers_with u state plain entry numbers in
        let after_state = (done state entry).state in
        let free_next = free_before (root_of u) next (numbers_from u after_state next plains entries) (later_from plains entries after_state next) free in
        let one : EntryKept u numbers state callers documents plain entry = keep numbers state callers documents plain entry now encoded.0 legal.0 free_next in
        let next_callers = callers_next callers entry.caller plain entry.outcome in
        let rest : JournalKept next after_state next_callers one.later plains entries =
        journal_kept plains entries next after_state next_callers one.later one.now encoded.1 legal.1 free in
        let more : IsMore documents plain entry.outcome one.later one.reply plains (outcomes_of entries) rest.last rest.kept rest.plainly =
        more_kept documents plain entry.outcome one.later one.reply plains (outcomes_of entries) rest.last rest.kept rest.plainly one.due in
        record {
          last = rest.last;
          kept = more.replies;
          now = rest.now;
          plainly = more.plainly;
          answers = subst (AllZip (Answers u) (replies_from state (entry ∷ entries))) (sym more.woven_so) (one.answers, rest.answers);
        }

    -- ---- from the opening state
    pub opening_now : IsNow u empty (opening u.schema) (opening_callers u.schema) []
    opening_now = record {
      stands = record {
        index = record {
          rows_stand = record {
            anchors = λ word n known. absurd (none_known word n known);
            counted = λ word n known. absurd (none_known word n known);
            positions = λ word n known i more high. absurd (none_known word n known);
            named = λ id row there. absurd (no_row id row there);
          };
          ecoc_known = tt;
          aside_known = tt;
          covered = λ word n known less. absurd (none_known word n known);
          are_captured = tt;
          are_doomed = tt;
        };
        docs = tt;
        limited = record { at = λ field factor n item known some. absurd (none_known (Item field item factor) n known) };
      };
      strays = record { zero = λ token n known. absurd (none_known (Stray token) n known) };
      within = record { many = length-map u.schema (λ (field : Field). first_contention field.kind); each = λ who field. omega arith };
    }

    pub all_kept : (plains : List PlainCommand) (journal : List JournalEntry) → IsEncoded u plains journal → IsFree (root_of u) (numbers_of u plains journal) → IsAnsweredPlainly u plains journal
    unfolding numbers_of state_of IsLegal replies_of replies_due
    all_kept plains journal is free =
        let kept = journal_kept plains journal empty (opening u.schema) (opening_callers u.schema) [] opening_now is.encoded is.legal free in
        record {
          last = kept.last;
          replies = kept.kept;
          plainly = kept.plainly;
          now = kept.now;
          answers = subst (λ o. AllZip (Answers u) (replies_from (opening u.schema) journal) (woven plains (outcomes_of journal) (replies_in o))) (sym kept.plainly) kept.answers;
        }
