-- Uniqueness: without a clash an entry is the only one of its caller, command and nonces that is allowed where it stands.
use Rattle.std.proofs.Common.{◌≡◌, ℕ, Bool, true, false, if◌then◌else◌, List, [], ◌∷◌, ◌++◌, Option, None, Some, refl, sym, ap, ◌∙◌, subst, arith, ⊎_elim}
use Rattle.std.proofs.lemmas.Bool.{cases_Bool, cond_both, cond-true, cond-false, MatchBool-at_false, MatchBool-at_true}
use Rattle.std.proofs.lemmas.List.Elements.{recursion_from_All}
use Rattle.std.specs.List.{AllByRecursion, AllZip, list_any}
use Rattle.qe_base.specs.declared.maintenance.Count.{Count}
use Rattle.qe_plain.specs.declared.command.PlainCell.{PlainCell}
use Rattle.qe_plain.specs.declared.command.PlainCommand.{PlainCommand}
use Rattle.qe_plain.specs.declared.command.PlainCommand.TheVariants as p
use Rattle.qe_plain.specs.declared.command.PlainDocument.{PlainDocument}
use Rattle.qe_plain.specs.declared.command.Term.{Term}
use Rattle.qe_value.specs.declared.value.Value.{Value}
use Rattle.qe_schema.specs.Resolved.{AreCells, IsCell, IsKeptBy}
use Rattle.qe_store.specs.declared.stored.TermSet.{TermSet}
use Rattle.qe_command.specs.declared.cells.SentCell.{SentCell}
use Rattle.qe_command.specs.declared.command.Command.{Command}
use Rattle.qe_command.specs.declared.command.Command.TheVariants as c
use Rattle.qe_command.specs.declared.filter.SentTerm.{SentTerm}
use Rattle.qe_command_fits.specs.OfSchema.{AreCellsOf}
use Rattle.qe_command_fits.proofs.FittingLemmas.{fitting_laws}
use Rattle.qe_protocol.specs.declared.journal.JournalEntry.{JournalEntry}
use Rattle.qe_protocol.specs.declared.reply.Outcome.{Outcome}
use Rattle.qe_protocol.specs.declared.reply.Outcome.TheVariants as o
use Rattle.qe_protocol.specs.declared.reply.Reply.{Reply}
use Rattle.qe_protocol.specs.declared.reply.Reply.TheVariants as r
use Rattle.qe_protocol.specs.Contention.{refusal}
use Rattle.qe_protocol.specs.Documents.{has_document}
use Rattle.qe_protocol.specs.Filters.{AllowedTerms, filter_rest, filter_sets, matches}
use Rattle.qe_protocol.specs.Indexing.{AllowedCells, index_cells}
use Rattle.qe_protocol.specs.Journal.{IsAllowed, done, state_of}
use Rattle.qe_protocol.specs.Next.{AllowedCounts, AllowedInsert, AllowedServed, AllowedUnless, AllowedUpdate, insert_step, inserted, next, outcome_of, sets_for, unless_refused, update_step, updated}
use Rattle.qe_protocol.specs.State.{Done, State, answered}
use Rattle.qe_labels.specs.Laws.{IsFree}
use Rattle.qe_labels.specs.Numbers.{Numbers, all_learned, all_raised}
use Rattle.qe_labels.specs.Under.{Under, root_of}
use Rattle.qe_labels.proofs.NumberLemmas.{free_before, later_all_raised}
use Rattle.qe_relation.proofs.PlaceLemmas.{each_weaker}
use Rattle.qe_encodes.specs.Callers.{Callers, Contentions}
use Rattle.qe_encodes.specs.Counted.{is_accepted, numbers_of, numbers_with, opened_by, strays_of}
use Rattle.qe_encodes.specs.Encoded.{IsEncodedEntry}
use Rattle.qe_encodes.specs.Encodes.{SendsCell}
use Rattle.qe_encodes.specs.Fields.{IsUnder, kind_at}
use Rattle.qe_encodes.specs.Meant.{IsSpelledCell}
use Rattle.qe_encodes.specs.Payloads.{sent_filter}
use Rattle.qe_encodes.specs.Words.{cells_words, terms_words}
use Rattle.qe_encodes.proofs.FieldLemmas.{allowed_at}
use Rattle.qe_standing.specs.Laws.{AreMeant}
use Rattle.qe_standing.specs.Stands.{Stands}
use Rattle.qe_standing.proofs.ActLemmas.{learned_stand}
use Rattle.qe_standing.proofs.NumberLemmas.{all_known}
use Rattle.qe_laws.proofs.Commands.{CommandSent}
use Rattle.qe_laws.specs.Entries.{AtEachEntry, IsOnlyEntry}
use Rattle.qe_laws.specs.Journals.{IsNow, KeepsEntries}
use Rattle.qe_laws.proofs.CommandLemmas.{either_same}
use Rattle.qe_laws.proofs.FrontLemmas.{IsReached, reached}
use Rattle.qe_laws.proofs.OneCommandLemmas.{cells_one, terms_one}
use Rattle.qe_laws.proofs.OneEntryLemmas.{filter_one, step_one}

-- what is refused before all else has no counts
unless_one : (refused : Option Reply) (Served : List Count → Type 0) (counts others : List Count) → AllowedUnless refused counts (Served counts) → AllowedUnless refused others (Served others)
    → (refused ≡ None → Served counts → Served others → others ≡ counts) → others ≡ counts
unless_one None Served counts others allowed also go = go refl allowed also
unless_one (Some reply) Served counts others allowed also go = also ∙ sym allowed

module _ (u : Under) (is : IsUnder u) (numbers : Numbers) (state : State) (documents : List PlainDocument) (stands : Stands u numbers state documents)
    (contentions : Contentions) (nonces : List (List ℕ)) (counts others : List Count) (outcome : Outcome) where
  abbrev Sent : PlainCommand → Command → Type 0
  Sent plain command = CommandSent u numbers state documents contentions plain command nonces counts outcome

  meant_cells : (leaves : Bool) (cells : List PlainCell) (sents : List (ℕ × SentCell)) → AllZip (SendsCell u leaves contentions) cells sents → AreCells u.schema cells
      → AllByRecursion (IsSpelledCell u.schema) cells → AreCellsOf u.schema sents → AreMeant u leaves contentions cells sents
  meant_cells leaves cells sents sends are spelled fits = record {
    sends = sends;
    kept = each_weaker (IsCell u.schema) (λ (cell : PlainCell). IsKeptBy cell.value (kind_at u.schema cell.field))
        (λ cell kept. allowed_at u.schema cell.field (IsKeptBy cell.value) kept) cells (recursion_from_All (IsCell u.schema) cells are.each);
    spelled = spelled;
    fits = fits.each;
  }

  insert_one : (document : PlainDocument) (id : Value) (cells : List (ℕ × SentCell)) → Sent (p.Insert document) (c.Insert id cells) → AllowedCounts state (c.Insert id cells) nonces others → others ≡ counts
  insert_one document id cells sent also =
      let command = c.Insert id cells in
      let fits = (fitting_laws u.schema command is.schema sent.fits).of_schema.1 in
      let are = meant_cells sent.leaves document.cells cells sent.encodes.1 sent.meant.resolved.cells sent.meant.spelled.1 fits in
      let words = cells_words u.schema document.cells cells in
      unless_one (refusal state.current command) (λ cs. AllowedInsert state id cells nonces cs) counts others sent.allowed also (λ none served also_served. ⊎_elim
      (λ (there : has_document id state.docs ≡ true).
      MatchBool-at_true (others ≡ []) (AllowedCells state.index cells nonces others) there also_served
      ∙ sym (MatchBool-at_true (counts ≡ []) (AllowedCells state.index cells nonces counts) there served))
      (λ (new : has_document id state.docs ≡ false).
      let step = insert_step state id cells nonces counts in
      let reply : (next state command nonces counts).reply ≡ r.Inserted =
      ap (λ refused. (unless_refused state refused step).reply) none
      ∙ ap (λ (d : Done). d.reply) (cond-false (has_document id state.docs) (answered state r.DuplicateId) (inserted state id (index_cells state.index cells nonces counts)) new) in
      let told : outcome ≡ o.Inserted = sent.outcome_is ∙ ap outcome_of reply in
      let free : IsFree (root_of u) (all_raised numbers words) =
      subst (λ (x : Outcome). IsFree (root_of u) (if is_accepted x then all_raised numbers words else numbers)) told sent.free in
      cells_one u is sent.leaves contentions state.jobs.aside state.jobs.captured state.jobs.doomed document.cells cells are state.index nonces counts others sent.long
      (omega (arith, sent.many)) (MatchBool-at_false (counts ≡ []) (AllowedCells state.index cells nonces counts) new served)
      (MatchBool-at_false (others ≡ []) (AllowedCells state.index cells nonces others) new also_served) numbers stands.index free)
      (cases_Bool (has_document id state.docs)))

  find_one : (terms : List Term) (ids only : Bool) (filter : List SentTerm) → filter ≡ sent_filter u contentions terms 0 → Sent (p.Find terms ids) (c.Find filter only)
      → AllowedCounts state (c.Find filter only) nonces others → others ≡ counts
  find_one terms ids only filter same sent also =
      let words = terms_words u.schema terms filter in
      let free : IsFree (root_of u) (all_learned numbers words) = subst (IsFree (root_of u)) (either_same (is_accepted outcome) (all_learned numbers words)) sent.free in
      unless_one (refusal state.current (c.Find filter only)) (AllowedServed state (c.Find filter only) nonces) counts others sent.allowed also (λ none served also_served.
      filter_one u is numbers state documents stands contentions terms
      (subst (λ f. IsFree (root_of u) (all_learned numbers (terms_words u.schema terms f))) same free) counts others
      (subst (λ f. AllowedTerms state.index.rows f counts × (filter_rest f counts ≡ [])) same served)
      (subst (λ f. AllowedTerms state.index.rows f others × (filter_rest f others ≡ [])) same also_served))

  delete_one : (terms : List Term) (filter : List SentTerm) → filter ≡ sent_filter u contentions terms 0 → Sent (p.Delete terms) (c.Delete filter)
      → AllowedCounts state (c.Delete filter) nonces others → others ≡ counts
  delete_one terms filter same sent also =
      let words = terms_words u.schema terms filter in
      let free : IsFree (root_of u) (all_learned numbers words) = subst (IsFree (root_of u)) (either_same (is_accepted outcome) (all_learned numbers words)) sent.free in
      unless_one (refusal state.current (c.Delete filter)) (AllowedServed state (c.Delete filter) nonces) counts others sent.allowed also (λ none served also_served.
      filter_one u is numbers state documents stands contentions terms
      (subst (λ f. IsFree (root_of u) (all_learned numbers (terms_words u.schema terms f))) same free) counts others
      (subst (λ f. AllowedTerms state.index.rows f counts × (filter_rest f counts ≡ [])) same served)
      (subst (λ f. AllowedTerms state.index.rows f others × (filter_rest f others ≡ [])) same also_served))

  update_one : (terms : List Term) (set : List PlainCell) (filter : List SentTerm) (cells : List (ℕ × SentCell)) → filter ≡ sent_filter u contentions terms 0
      → Sent (p.Update terms set) (c.Update filter cells) → AllowedCounts state (c.Update filter cells) nonces others → others ≡ counts
  update_one terms set filter cells same sent also =
      let command = c.Update filter cells in
      let fits = (fitting_laws u.schema command is.schema sent.fits).of_schema.1 in
      let are = meant_cells sent.leaves set cells sent.encodes.1 sent.meant.resolved.1 sent.meant.spelled.1 fits in
      let words = terms_words u.schema terms filter in
      let stored = cells_words u.schema set cells in
      let sought = all_learned numbers words in
      let free_sought : IsFree (root_of u) sought =
      cond_both (is_accepted outcome) (all_raised sought stored) sought (λ m. IsFree (root_of u) m → IsFree (root_of u) sought)
      (λ _ free. free_before (root_of u) sought (all_raised sought stored) (later_all_raised stored sought) free) (λ _ free. free) sent.free in
      let first : Stands u sought state documents = learned_stand u is state documents numbers words free_sought stands in
      unless_one (refusal state.current command) (λ cs. AllowedUpdate state filter cells nonces cs) counts others sent.allowed also (λ none served also_served.
      let terms_same = terms_one u (all_learned numbers (terms_words u.schema terms (sent_filter u contentions terms 0)))
      (subst (λ f. IsFree (root_of u) (all_learned numbers (terms_words u.schema terms f))) same free_sought) state.index.rows
      (subst (λ f. Stands u (all_learned numbers (terms_words u.schema terms f)) state documents) same first).index.rows_stand contentions terms 0 counts others
      (all_known (terms_words u.schema terms (sent_filter u contentions terms 0)) numbers)
      (subst (λ f. AllowedTerms state.index.rows f counts) same served.0) (subst (λ f. AllowedTerms state.index.rows f others) same also_served.0) in
      let sets_are : filter_sets state.index.rows filter others ≡ filter_sets state.index.rows filter counts =
      ap (λ f. filter_sets state.index.rows f others) same ∙ terms_same.sets_are ∙ ap (λ f. filter_sets state.index.rows f counts) (sym same) in
      let join = λ (rests : filter_rest filter others ≡ filter_rest filter counts).
      terms_same.join (ap (λ f. filter_rest f others) (sym same) ∙ rests ∙ ap (λ f. filter_rest f counts) same) in
      let test = λ (sets : List TermSet). list_any (matches sets) state.docs in
      let rest = filter_rest filter counts in
      let other_rest = filter_rest filter others in
      ⊎_elim
      (λ (there : test (sets_for state filter counts) ≡ true).
      let step = update_step state filter cells nonces counts in
      let reply : (next state command nonces counts).reply ≡ r.Updated 1 =
      ap (λ refused. (unless_refused state refused step).reply) none
      ∙ ap (λ (d : Done). d.reply) (cond-true (test (sets_for state filter counts)) (updated state (sets_for state filter counts) (index_cells state.index cells nonces rest)) (answered state (r.Updated 0)) there) in
      let told : outcome ≡ o.Updated 1 = sent.outcome_is ∙ ap outcome_of reply in
      let free : IsFree (root_of u) (all_raised sought stored) =
      subst (λ (x : Outcome). IsFree (root_of u) (if is_accepted x then all_raised sought stored else sought)) told sent.free in
      join (cells_one u is sent.leaves contentions state.jobs.aside state.jobs.captured state.jobs.doomed set cells are state.index nonces rest other_rest sent.long
      (omega (arith, sent.many)) (MatchBool-at_true (AllowedCells state.index cells nonces rest) (rest ≡ []) there served.1)
      (MatchBool-at_true (AllowedCells state.index cells nonces other_rest) (other_rest ≡ []) (ap test sets_are ∙ there) also_served.1) sought first.index free))
      (λ (none_there : test (sets_for state filter counts) ≡ false).
      join (MatchBool-at_false (AllowedCells state.index cells nonces other_rest) (other_rest ≡ []) (ap test sets_are ∙ none_there) also_served.1
      ∙ sym (MatchBool-at_false (AllowedCells state.index cells nonces rest) (rest ≡ []) none_there served.1)))
      (cases_Bool (test (sets_for state filter counts))))

  -- of each command
  pub counts_one : (plain : PlainCommand) (command : Command) → Sent plain command → AllowedCounts state command nonces others → others ≡ counts
  counts_one (p.Insert document) (c.Insert id cells) sent also = insert_one document id cells sent also
  counts_one (p.Find terms ids) (c.Find filter only) sent also = find_one terms ids only filter sent.encodes.0 sent also
  counts_one (p.Update terms set) (c.Update filter cells) sent also = update_one terms set filter cells sent.encodes.0 sent also
  counts_one (p.Delete terms) (c.Delete filter) sent also = delete_one terms filter sent.encodes sent also
  counts_one (p.Begin kind pairs) (c.Begin sort tokens) sent also = also ∙ sym sent.allowed
  counts_one (p.Step job limit) (c.Step asked most) sent also =
      let rows = opened_by state asked nonces counts state.jobs.job in
      let words = strays_of u rows.0 rows.1 in
      step_one u is numbers state documents stands sent.strays asked nonces sent.long counts others
      (subst (IsFree (root_of u)) (ap (λ m. all_learned m words) (either_same (is_accepted outcome) numbers)) sent.free) sent.allowed also
  counts_one (p.End job) (c.End asked) sent also = also ∙ sym sent.allowed
  counts_one (p.Abandon job) (c.Abandon asked) sent also = also ∙ sym sent.allowed
  counts_one (p.Raise field contention) (c.Raise named asked) sent also = also ∙ sym sent.allowed
  counts_one plain command sent also = absurd sent.encodes

-- ---- an entry, and the last of a journal
module _ (u : Under) (is : IsUnder u) where
  pub entry_one : (numbers : Numbers) (state : State) (callers : Callers) (documents : List PlainDocument) (plain : PlainCommand) (entry other : JournalEntry)
      → IsNow u numbers state callers documents → IsEncodedEntry u callers plain entry → IsAllowed u.schema state entry → IsFree (root_of u) (numbers_with u state plain entry numbers)
      → IsAllowed u.schema state other → other.caller ≡ entry.caller → other.command ≡ entry.command → other.nonces ≡ entry.nonces → other ≡ entry
  unfolding done
  entry_one numbers state callers documents plain entry other now encoded allowed free also caller command nonces =
      let sent : CommandSent u numbers state documents (callers entry.caller).contentions plain entry.command entry.nonces entry.counts entry.outcome = record {
        meant = encoded.meant;
        leaves = encoded.leaves;
        encodes = encoded.encodes;
        within = now.within.each entry.caller;
        fits = allowed.fits;
        long = encoded.nonces;
        many = allowed.nonces;
        allowed = allowed.counts;
        outcome_is = allowed.outcome;
        strays = now.strays;
        free = free;
      } in
      let counts : other.counts ≡ entry.counts = counts_one u is numbers state documents now.stands (callers entry.caller).contentions entry.nonces entry.counts other.counts entry.outcome
      plain entry.command sent (subst (λ (q : Command × List (List ℕ)). AllowedCounts state q.0 q.1 other.counts) (λ i. (command i, nonces i)) also.counts) in
      let led : next state other.command other.nonces other.counts ≡ next state entry.command entry.nonces entry.counts = λ i. next state (command i) (nonces i) (counts i) in
      let opened : other.opened ≡ entry.opened = also.opened ∙ ap (λ (d : Done). d.opened) led ∙ sym allowed.opened in
      let outcome : other.outcome ≡ entry.outcome = also.outcome ∙ ap (λ (d : Done). outcome_of d.reply) led ∙ sym allowed.outcome in
      λ i. record { caller = caller i; command = command i; nonces = nonces i; counts = counts i; opened = opened i; outcome = outcome i }

  -- .. with what is the same the other way round
  pub one_now : (numbers : Numbers) (state : State) (callers : Callers) (documents : List PlainDocument) (plain : PlainCommand) (entry other : JournalEntry)
      → IsNow u numbers state callers documents → IsEncodedEntry u callers plain entry → IsAllowed u.schema state entry → IsFree (root_of u) (numbers_with u state plain entry numbers)
      → IsAllowed u.schema state other → entry.caller ≡ other.caller → entry.command ≡ other.command → entry.nonces ≡ other.nonces → entry ≡ other
  one_now numbers state callers documents plain entry other now encoded allowed free also caller command nonces =
      sym (entry_one numbers state callers documents plain entry other now encoded allowed free also (sym caller) (sym command) (sym nonces))

-- ---- journals
pub only_entries : ((u : Under) → IsUnder u → KeepsEntries u) → AtEachEntry IsOnlyEntry
only_entries keeps u is earlier later plain front back entry many encoded free other also caller command nonces =
    let numbers = numbers_of u earlier front in
    let run = numbers_of u (earlier ++ plain ∷ later) (front ++ entry ∷ back) in
    let state = state_of u.schema front in
    let at : IsReached u numbers run state plain entry = reached u (keeps u is) earlier later plain front back entry many encoded free in
    let free_then : IsFree (root_of u) (numbers_with u state plain entry numbers) =
    free_before (root_of u) (numbers_with u state plain entry numbers) run at.later free in
    one_now u is numbers state at.callers at.documents plain entry other at.now at.encoded at.allowed free_then also caller command nonces
