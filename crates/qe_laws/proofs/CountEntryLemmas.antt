-- The searches of an entry are those that it tells of, and each counts its word.
use Rattle.std.proofs.Common.{◌≡◌, ℕ, Bool, true, false, if◌then◌else◌, List, [], ◌∷◌, ◌++◌, map, AllPairs, Option, None, Some, refl, sym, ap, ◌∙◌, subst, arith}
use Rattle.std.proofs.lemmas.Bool.{MatchBool-at_false, MatchBool-at_true, cond-false, cond-true, cond_both}
use Rattle.std.proofs.lemmas.List.{append-nil}
use Rattle.std.proofs.lemmas.List.Elements.{recursion_from_All}
use Rattle.std.specs.Prelude.{◌==◌, ◌<◌, ◌≤◌, length}
use Rattle.std.specs.List.{AllByRecursion, AllZip, list_any}
use Rattle.qe_base.specs.declared.maintenance.Count.{Count}
use Rattle.qe_tokens.specs.declared.words.FieldToken.{FieldToken}
use Rattle.qe_tokens.specs.declared.words.Word.{Word}
use Rattle.qe_tokens.specs.declared.words.Word.TheVariants.{Item}
use Rattle.qe_ecoc.specs.declared.rows.Entry.{Entry}
use Rattle.qe_plain.specs.declared.command.PlainCell.{PlainCell}
use Rattle.qe_plain.specs.declared.command.PlainCommand.{PlainCommand}
use Rattle.qe_plain.specs.declared.command.PlainCommand.TheVariants as p
use Rattle.qe_plain.specs.declared.command.PlainDocument.{PlainDocument}
use Rattle.qe_plain.specs.declared.command.Term.{Term}
use Rattle.qe_value.specs.declared.value.Value.{Value}
use Rattle.qe_schema.specs.Resolved.{AreCells, IsCell, IsKeptBy}
use Rattle.qe_command.specs.declared.cells.SentCell.{SentCell}
use Rattle.qe_command.specs.declared.command.Command.{Command}
use Rattle.qe_command.specs.declared.command.Command.TheVariants as c
use Rattle.qe_command.specs.declared.filter.SentTerm.{SentTerm}
use Rattle.qe_command.specs.Nonces.{cells_nonces}
use Rattle.qe_command_fits.specs.OfSchema.{AreCellsOf}
use Rattle.qe_command_fits.proofs.FittingLemmas.{fitting_laws}
use Rattle.qe_protocol.specs.declared.reply.Outcome.{Outcome}
use Rattle.qe_protocol.specs.declared.reply.Outcome.TheVariants as o
use Rattle.qe_protocol.specs.declared.reply.Reply.{Reply}
use Rattle.qe_protocol.specs.declared.reply.Reply.TheVariants as r
use Rattle.qe_protocol.specs.Contention.{refusal}
use Rattle.qe_protocol.specs.Documents.{has_document}
use Rattle.qe_protocol.specs.Filters.{AllowedTerms, filter_rest, matches}
use Rattle.qe_protocol.specs.Indexing.{AllowedCells, index_cells}
use Rattle.qe_protocol.specs.Jobs.{AllowedOn, step_units, work_of}
use Rattle.qe_protocol.specs.Journal.{done, state_of}
use Rattle.qe_protocol.specs.Laws.{AreLong}
use Rattle.qe_protocol.specs.Next.{AllowedFilter, AllowedInsert, AllowedUnless, AllowedUpdate, insert_step, inserted, next, outcome_of, sets_for, unless_refused, update_step, updated}
use Rattle.qe_protocol.specs.State.{Done, Job, State, answered}
use Rattle.qe_protocol.specs.Units.{AllowedUnits}
use Rattle.qe_labels.specs.Laws.{IsFree}
use Rattle.qe_labels.specs.Numbers.{Later, Numbers, StraysAreZero, all_learned, all_raised}
use Rattle.qe_labels.specs.Under.{Under, root_of}
use Rattle.qe_labels.proofs.NumberLemmas.{free_before, later_all_raised, later_on}
use Rattle.qe_relation.specs.Steps.{IsOpenedKnown}
use Rattle.qe_relation.proofs.PlaceLemmas.{each_append, each_weaker}
use Rattle.qe_encodes.specs.Callers.{Contentions}
use Rattle.qe_encodes.specs.Counted.{is_accepted, numbers_by, numbers_of, numbers_with, opened_by, strays_of}
use Rattle.qe_encodes.specs.Encodes.{SendsCell}
use Rattle.qe_encodes.specs.Fields.{IsUnder, kind_at}
use Rattle.qe_encodes.specs.Laws.{EdgeLaws}
use Rattle.qe_encodes.specs.Meant.{IsSpelledCell}
use Rattle.qe_encodes.specs.Payloads.{sent_filter}
use Rattle.qe_encodes.specs.Words.{cells_words, terms_words}
use Rattle.qe_encodes.proofs.FieldLemmas.{allowed_at}
use Rattle.qe_encodes.proofs.MemberLemmas.{IsIn}
use Rattle.qe_standing.specs.Laws.{AreMeant}
use Rattle.qe_standing.specs.Stands.{Stands}
use Rattle.qe_standing.proofs.ActLemmas.{learned_stand}
use Rattle.qe_standing.proofs.NumberLemmas.{all_known}
use Rattle.qe_laws.proofs.Commands.{CommandSent}
use Rattle.qe_laws.specs.Entries.{AtEachEntry, CountsItsWord, SearchesCount}
use Rattle.qe_laws.specs.Journals.{KeepsEntries}
use Rattle.qe_laws.specs.Searches.{Searched, by_cells, by_job, by_terms, by_units, if_served, searches_by, searches_of}
use Rattle.qe_laws.proofs.CommandLemmas.{either_same}
use Rattle.qe_laws.proofs.CountCellLemmas.{cells_count, told_cells}
use Rattle.qe_laws.proofs.CountLemmas.{count_of, terms_count, times_all_learned, told_both, told_terms}
use Rattle.qe_laws.proofs.CountUnitLemmas.{told_units, units_count}
use Rattle.qe_laws.proofs.FrontLemmas.{IsReached, reached}
use Rattle.qe_laws.proofs.StrayLemmas.{opened_known, strays_all_learned}

-- searches that an entry tells of, each of which counts its word
pub record AreCounted (root : ℕ → List ℕ) (before run : Numbers) (counts : List Count) (searches : List Searched) : Type 0 where
  pub told : map count_of searches ≡ counts
  pub each : AllByRecursion (CountsItsWord root before run) searches

module _ (laws : EdgeLaws) (u : Under) (is : IsUnder u) (run : Numbers) (free : IsFree (root_of u) run)
    (numbers : Numbers) (state : State) (documents : List PlainDocument) (stands : Stands u numbers state documents)
    (contentions : Contentions) (nonces : List (List ℕ)) (counts : List Count) (outcome : Outcome) where
  abbrev Sent : PlainCommand → Command → Type 0
  Sent plain command = CommandSent u numbers state documents contentions plain command nonces counts outcome

  abbrev Counted : List Count → List Searched → Type 0
  Counted cs searches = AreCounted (root_of u) numbers run cs searches

  abbrev Each : List Searched → Type 0
  Each searches = AllByRecursion (CountsItsWord (root_of u) numbers run) searches

  none_counted : (cs : List Count) → cs ≡ [] → Counted cs []
  none_counted cs none = record { told = sym none; each = tt }

  -- what is refused before all else has no searches
  served_counted : (refused : Option Reply) (Served : Type 0) (searches : List Searched) → AllowedUnless refused counts Served → (refused ≡ None → Served → Counted counts searches)
      → Counted counts (if_served refused searches)
  served_counted None Served searches allowed go = go refl allowed
  served_counted (Some reply) Served searches allowed go = none_counted counts allowed

  meant_cells : (leaves : Bool) (cells : List PlainCell) (sents : List (ℕ × SentCell)) → AllZip (SendsCell u leaves contentions) cells sents → AreCells u.schema cells
      → AllByRecursion (IsSpelledCell u.schema) cells → AreCellsOf u.schema sents → AreMeant u leaves contentions cells sents
  meant_cells leaves cells sents sends are spelled fits = record {
    sends = sends;
    kept = each_weaker (IsCell u.schema) (λ (cell : PlainCell). IsKeptBy cell.value (kind_at u.schema cell.field))
        (λ cell kept. allowed_at u.schema cell.field (IsKeptBy cell.value) kept) cells (recursion_from_All (IsCell u.schema) cells are.each);
    spelled = spelled;
    fits = fits.each;
  }

  -- of values, after the words of a filter are known
  cells_counted : (words : List Word) → Stands u (all_learned numbers words) state documents → (leaves : Bool) (cells : List PlainCell) (sents : List (ℕ × SentCell))
      → AreMeant u leaves contentions cells sents → AllPairs (λ a b. a.field < b.field) cells → (cs : List Count) → AreLong nonces → cells_nonces sents ≤ length nonces
      → AllowedCells state.index sents nonces cs → Later (all_raised (all_learned numbers words) (cells_words u.schema cells sents)) run
      → Counted cs (by_cells state.index sents nonces cs)
  cells_counted words first leaves cells sents are rise cs long enough allowed later = record {
    told = told_cells state.index sents nonces cs allowed;
    each = cells_count laws u is numbers run free leaves contentions state.jobs.aside state.jobs.captured state.jobs.doomed cells sents are rise state.index nonces cs long enough allowed
        (all_learned numbers words) first.index later
        (λ (cell : PlainCell) (among : IsIn cell cells) (x : List ℕ) (factor : ℕ). times_all_learned words numbers (Item cell.field x factor));
  }

  -- of a filter, from the counts on that are left
  filter_each : (terms : List Term) (filter : List SentTerm) → filter ≡ sent_filter u contentions terms 0 → Later (all_learned numbers (terms_words u.schema terms filter)) run
      → (cs : List Count) → AllowedTerms state.index.rows filter cs → Each (by_terms state.index.rows filter cs)
  filter_each terms filter same later cs allowed =
      let due = sent_filter u contentions terms 0 in
      let words = terms_words u.schema terms due in
      let later_due : Later (all_learned numbers words) run = subst (λ (f : List SentTerm). Later (all_learned numbers (terms_words u.schema terms f)) run) same later in
      let first : Stands u (all_learned numbers words) state documents =
      learned_stand u is state documents numbers words (free_before (root_of u) (all_learned numbers words) run later_due free) stands in
      subst (λ (f : List SentTerm). Each (by_terms state.index.rows f cs)) (sym same)
      (terms_count u numbers run free (all_learned numbers words) later_due (times_all_learned words numbers) state.index.rows first.index.rows_stand contentions terms 0 cs
      (all_known words numbers) (subst (λ (f : List SentTerm). AllowedTerms state.index.rows f cs) same allowed))

  filter_counted : (terms : List Term) (filter : List SentTerm) → filter ≡ sent_filter u contentions terms 0 → Later (all_learned numbers (terms_words u.schema terms filter)) run
      → AllowedFilter state filter counts → Counted counts (by_terms state.index.rows filter counts)
  filter_counted terms filter same later allowed = record {
    told = sym (append-nil (map count_of (by_terms state.index.rows filter counts)))
        ∙ ap (λ (rest : List Count). map count_of (by_terms state.index.rows filter counts) ++ rest) (sym allowed.1)
        ∙ told_terms state.index.rows filter counts allowed.0;
    each = filter_each terms filter same later counts allowed.0;
  }

  insert_counted : (document : PlainDocument) (id : Value) (cells : List (ℕ × SentCell)) → Sent (p.Insert document) (c.Insert id cells)
      → Later (if is_accepted outcome then all_raised numbers (cells_words u.schema document.cells cells) else numbers) run
      → Counted counts (searches_by state (c.Insert id cells) nonces counts)
  insert_counted document id cells sent later =
      let command = c.Insert id cells in
      let fits = (fitting_laws u.schema command is.schema sent.fits).of_schema.1 in
      let are = meant_cells sent.leaves document.cells cells sent.encodes.1 sent.meant.resolved.cells sent.meant.spelled.1 fits in
      let words = cells_words u.schema document.cells cells in
      let new_searches = by_cells state.index cells nonces counts in
      served_counted (refusal state.current command) (AllowedInsert state id cells nonces counts) (if has_document id state.docs then [] else new_searches) sent.allowed
      (λ none served.
      cond_both (has_document id state.docs) [] new_searches (Counted counts)
      (λ there. none_counted counts (MatchBool-at_true (counts ≡ []) (AllowedCells state.index cells nonces counts) there served))
      (λ new.
      let step = insert_step state id cells nonces counts in
      let reply : (next state command nonces counts).reply ≡ r.Inserted =
      ap (λ refused. (unless_refused state refused step).reply) none
      ∙ ap (λ (d : Done). d.reply) (cond-false (has_document id state.docs) (answered state r.DuplicateId) (inserted state id (index_cells state.index cells nonces counts)) new) in
      let told : outcome ≡ o.Inserted = sent.outcome_is ∙ ap outcome_of reply in
      let later_all : Later (all_raised numbers words) run =
      subst (λ (x : Outcome). Later (if is_accepted x then all_raised numbers words else numbers) run) told later in
      cells_counted [] stands sent.leaves document.cells cells are sent.meant.resolved.cells.rise counts sent.long (omega (arith, sent.many))
      (MatchBool-at_false (counts ≡ []) (AllowedCells state.index cells nonces counts) new served) later_all))

  update_counted : (terms : List Term) (set : List PlainCell) (filter : List SentTerm) (cells : List (ℕ × SentCell)) → filter ≡ sent_filter u contentions terms 0
      → Sent (p.Update terms set) (c.Update filter cells)
      → Later (if is_accepted outcome then all_raised (all_learned numbers (terms_words u.schema terms filter)) (cells_words u.schema set cells)
      else all_learned numbers (terms_words u.schema terms filter)) run
      → Counted counts (searches_by state (c.Update filter cells) nonces counts)
  update_counted terms set filter cells same sent later =
      let command = c.Update filter cells in
      let fits = (fitting_laws u.schema command is.schema sent.fits).of_schema.1 in
      let are = meant_cells sent.leaves set cells sent.encodes.1 sent.meant.resolved.1 sent.meant.spelled.1 fits in
      let words = terms_words u.schema terms filter in
      let stored = cells_words u.schema set cells in
      let sought = all_learned numbers words in
      let later_sought : Later sought run =
      cond_both (is_accepted outcome) (all_raised sought stored) sought (λ m. Later m run → Later sought run)
      (λ _ after. later_on sought (all_raised sought stored) run (later_all_raised stored sought) after) (λ _ after. after) later in
      let first : Stands u sought state documents = learned_stand u is state documents numbers words (free_before (root_of u) sought run later_sought free) stands in
      let rest = filter_rest filter counts in
      let front = by_terms state.index.rows filter counts in
      let back = by_cells state.index cells nonces rest in
      let test : Bool = list_any (matches (sets_for state filter counts)) state.docs in
      served_counted (refusal state.current command) (AllowedUpdate state filter cells nonces counts) (front ++ (if test then back else [])) sent.allowed
      (λ none served.
      let behind_filter : Counted rest (if test then back else []) =
      cond_both test back [] (Counted rest)
      (λ there.
      let step = update_step state filter cells nonces counts in
      let reply : (next state command nonces counts).reply ≡ r.Updated 1 =
      ap (λ refused. (unless_refused state refused step).reply) none
      ∙ ap (λ (d : Done). d.reply) (cond-true test (updated state (sets_for state filter counts) (index_cells state.index cells nonces rest)) (answered state (r.Updated 0)) there) in
      let told : outcome ≡ o.Updated 1 = sent.outcome_is ∙ ap outcome_of reply in
      let later_all : Later (all_raised sought stored) run =
      subst (λ (x : Outcome). Later (if is_accepted x then all_raised sought stored else sought) run) told later in
      cells_counted words first sent.leaves set cells are sent.meant.resolved.1.rise rest sent.long (omega (arith, sent.many))
      (MatchBool-at_true (AllowedCells state.index cells nonces rest) (rest ≡ []) there served.1) later_all)
      (λ missing. none_counted rest (MatchBool-at_false (AllowedCells state.index cells nonces rest) (rest ≡ []) missing served.1)) in
      record {
        told = sym (append-nil (map count_of (front ++ (if test then back else []))))
            ∙ told_both front (if test then back else []) rest [] counts (told_terms state.index.rows filter counts served.0)
            (append-nil (map count_of (if test then back else [])) ∙ behind_filter.told);
        each = each_append (CountsItsWord (root_of u) numbers run) front (if test then back else []) (filter_each terms filter same later_sought counts served.0) behind_filter.each;
      })

  -- of a step
  module _ (strays : StraysAreZero numbers) (asked : ℕ) (long : AreLong nonces) where
    abbrev strays_by : Option Job → List Word
    strays_by running = strays_of u (opened_by state asked nonces counts running).0 (opened_by state asked nonces counts running).1

    job_counted : (running : Option Job) → Later (all_learned numbers (strays_by running)) run
        → AllowedOn asked running counts (λ job. AllowedUnits job.kind job.tokens nonces (work_of state job) counts) → Counted counts (by_job state asked nonces counts running)
    job_counted None later allowed = none_counted counts allowed
    job_counted (Some job) later allowed =
        let searches = by_units job.kind job.tokens nonces (work_of state job) counts in
        cond_both (job.number == asked) searches [] (Counted counts)
        (λ (asked_for : (job.number == asked) ≡ true).
        let rows = (step_units state job nonces counts).opened in
        let words = strays_of u job.tokens rows in
        let last = all_learned numbers words in
        let full : List FieldToken × List Entry = (job.tokens, rows) in
        let nothing : List FieldToken × List Entry = ([], []) in
        let pair = cond-true (job.number == asked) full nothing asked_for in
        let later_last : Later last run = subst (λ (q : List FieldToken × List Entry). Later (all_learned numbers (strays_of u q.0 q.1)) run) pair later in
        let first : Stands u last state documents = learned_stand u is state documents numbers words (free_before (root_of u) last run later_last free) stands in
        let known : AllByRecursion (IsOpenedKnown (root_of u) last job.tokens) rows =
        opened_known u last (strays_all_learned words numbers strays) job.tokens rows (all_known words numbers) in
        let units = MatchBool-at_true (AllowedUnits job.kind job.tokens nonces (work_of state job) counts) (counts ≡ []) asked_for allowed in
        record {
          told = told_units job.kind job.tokens nonces (work_of state job) counts units;
          each = units_count (root_of u) numbers run free last later_last (times_all_learned words numbers) state.index.ecoc job.kind job.tokens nonces long (work_of state job) counts first.index
              units known;
        })
        (λ (other : (job.number == asked) ≡ false).
        none_counted counts (MatchBool-at_false (AllowedUnits job.kind job.tokens nonces (work_of state job) counts) (counts ≡ []) other allowed))

  -- of each command
  pub command_counted : (plain : PlainCommand) (command : Command) → Sent plain command → Later (numbers_by u state plain command nonces counts outcome numbers) run
      → Counted counts (searches_by state command nonces counts)
  command_counted (p.Insert document) (c.Insert id cells) sent later = insert_counted document id cells sent later
  command_counted (p.Find terms ids) (c.Find filter only) sent later =
      let words = terms_words u.schema terms filter in
      served_counted (refusal state.current (c.Find filter only)) (AllowedFilter state filter counts) (by_terms state.index.rows filter counts) sent.allowed
      (λ none served. filter_counted terms filter sent.encodes.0 (subst (λ m. Later m run) (either_same (is_accepted outcome) (all_learned numbers words)) later) served)
  command_counted (p.Update terms set) (c.Update filter cells) sent later = update_counted terms set filter cells sent.encodes.0 sent later
  command_counted (p.Delete terms) (c.Delete filter) sent later =
      let words = terms_words u.schema terms filter in
      served_counted (refusal state.current (c.Delete filter)) (AllowedFilter state filter counts) (by_terms state.index.rows filter counts) sent.allowed
      (λ none served. filter_counted terms filter sent.encodes (subst (λ m. Later m run) (either_same (is_accepted outcome) (all_learned numbers words)) later) served)
  command_counted (p.Begin kind pairs) (c.Begin sort tokens) sent later = none_counted counts sent.allowed
  command_counted (p.Step job limit) (c.Step asked most) sent later =
      let rows = opened_by state asked nonces counts state.jobs.job in
      let words = strays_of u rows.0 rows.1 in
      job_counted sent.strays asked sent.long state.jobs.job
      (subst (λ m. Later m run) (ap (λ m. all_learned m words) (either_same (is_accepted outcome) numbers)) later) sent.allowed
  command_counted (p.End job) (c.End asked) sent later = none_counted counts sent.allowed
  command_counted (p.Abandon job) (c.Abandon asked) sent later = none_counted counts sent.allowed
  command_counted (p.Raise field contention) (c.Raise named asked) sent later = none_counted counts sent.allowed
  command_counted plain command sent later = absurd sent.encodes

pub searches_count : EdgeLaws → ((u : Under) → IsUnder u → KeepsEntries u) → AtEachEntry SearchesCount
unfolding searches_of done
searches_count laws keeps u is earlier later plain front back entry many encoded free =
    let run = numbers_of u (earlier ++ plain ∷ later) (front ++ entry ∷ back) in
    let numbers = numbers_of u earlier front in
    let state = state_of u.schema front in
    let at : IsReached u numbers run state plain entry = reached u (keeps u is) earlier later plain front back entry many encoded free in
    let contentions : Contentions = (at.callers entry.caller).contentions in
    let sent : CommandSent u numbers state at.documents contentions plain entry.command entry.nonces entry.counts entry.outcome = record {
      meant = at.encoded.meant;
      leaves = at.encoded.leaves;
      encodes = at.encoded.encodes;
      within = at.now.within.each entry.caller;
      fits = at.allowed.fits;
      long = at.encoded.nonces;
      many = at.allowed.nonces;
      allowed = at.allowed.counts;
      outcome_is = at.allowed.outcome;
      strays = at.now.strays;
      free = free_before (root_of u) (numbers_with u state plain entry numbers) run at.later free;
    } in
    let counted = command_counted laws u is run free numbers state at.documents at.now.stands contentions entry.nonces entry.counts entry.outcome plain entry.command sent at.later in
    record { told = counted.told; each = counted.each; strays = at.now.strays }
