-- Commands on documents, served or refused: the relation stands after each, and the reply is the one that is due.
use Rattle.std.proofs.Common.{◌≡◌, ◌≤◌, ℕ, List, [], ◌∷◌, length, Bool, true, false, ◌&&◌, Option, None, Some, if◌then◌else◌, refl, sym, ap, ◌∙◌, subst, arith}
use Rattle.std.specs.Prelude.{filter, nat_lt}
use Rattle.std.specs.List.{AllByRecursion, AllZip, list_any}
use Rattle.std.proofs.lemmas.Bool.{cond_both}
use Rattle.std.proofs.lemmas.List.Elements.{recursion_from_All}
use Rattle.qe_base.specs.declared.maintenance.Count.{Count}
use Rattle.qe_tokens.specs.declared.words.Word.{Word}
use Rattle.qe_value.specs.declared.value.Value.{Value}
use Rattle.qe_plain.specs.Collection as plainly
use Rattle.qe_plain.specs.Laws.{StepsKeepCollections}
use Rattle.qe_plain.specs.declared.command.PlainCell.{PlainCell}
use Rattle.qe_plain.specs.declared.command.PlainCommand.{PlainCommand}
use Rattle.qe_plain.specs.declared.command.PlainCommand.TheVariants as p
use Rattle.qe_plain.specs.declared.command.PlainDocument.{PlainDocument}
use Rattle.qe_plain.specs.declared.command.PlainReply.{PlainReply}
use Rattle.qe_plain.specs.declared.command.PlainReply.TheVariants as answer
use Rattle.qe_plain.specs.declared.command.Term.{Term}
use Rattle.qe_schema.specs.Resolved.{AreCells, IsCell, IsKeptBy, IsTerm}
use Rattle.qe_store.specs.declared.stored.Stored.{Stored}
use Rattle.qe_command.specs.declared.cells.SentCell.{SentCell}
use Rattle.qe_command.specs.declared.command.Command.{Command}
use Rattle.qe_command.specs.declared.command.Command.TheVariants as c
use Rattle.qe_command.specs.declared.filter.SentTerm.{SentTerm}
use Rattle.qe_command.specs.declared.filter.SentTerm.TheVariants as t
use Rattle.qe_command.specs.Nonces.{cells_nonces, nonces_of}
use Rattle.qe_command_document.specs.CommandDocument.{Fits}
use Rattle.qe_command_document.specs.Values.{value_of}
use Rattle.qe_command_fits.specs.OfSchema.{AreCellsOf}
use Rattle.qe_command_fits.proofs.FittingLemmas.{fitting_laws}
use Rattle.qe_protocol.specs.declared.reply.Outcome.{Outcome}
use Rattle.qe_protocol.specs.declared.reply.Outcome.TheVariants as o
use Rattle.qe_protocol.specs.declared.reply.Reply.{Reply}
use Rattle.qe_protocol.specs.declared.reply.Reply.TheVariants as r
use Rattle.qe_protocol.specs.Contention.{below_at, cells_over, current_of, filter_below, or_else, term_below}
use Rattle.qe_protocol.specs.Documents.{has_document}
use Rattle.qe_protocol.specs.Filters.{matches}
use Rattle.qe_protocol.specs.Laws.{AreLong}
use Rattle.qe_protocol.specs.Next.{AllowedCounts, AllowedServed, AllowedUnless, delete_step, deleted, find_reply, find_step, insert_step, next, outcome_of, served, sets_for, unless_refused, update_step}
use Rattle.qe_protocol.specs.State.{Done, State, answered}
use Rattle.qe_labels.specs.Laws.{IsFree}
use Rattle.qe_labels.specs.Numbers.{Later, Numbers, all_learned, all_raised}
use Rattle.qe_labels.specs.Under.{Under, root_of}
use Rattle.qe_labels.proofs.NumberLemmas.{free_before, later_all_raised, later_same}
use Rattle.qe_encodes.specs.Callers.{Contentions, contention_of}
use Rattle.qe_encodes.specs.Counted.{is_accepted, numbers_by}
use Rattle.qe_encodes.specs.Encodes.{Encodes, SendsCell}
use Rattle.qe_encodes.specs.Fields.{IsUnder, kind_at}
use Rattle.qe_encodes.specs.Kept.{is_kept, is_plain, was_served}
use Rattle.qe_encodes.specs.Laws.{EdgeLaws}
use Rattle.qe_encodes.specs.Meant.{IsMeant, IsSpelledCell}
use Rattle.qe_encodes.specs.Payloads.{sent_filter}
use Rattle.qe_encodes.specs.Words.{cells_words, terms_words}
use Rattle.qe_encodes.proofs.FieldLemmas.{allowed_at}
use Rattle.qe_standing.specs.Laws.{AreMeant}
use Rattle.qe_standing.specs.Stands.{Acted, IsDue, Stands}
use Rattle.qe_standing.proofs.ActLemmas.{delete_acted, find_acted, insert_acted, learned_stand, raised_if, update_acted}
use Rattle.qe_standing.proofs.LimitLemmas.{never_over, words_within}
use Rattle.qe_standing.proofs.NumberLemmas.{all_known}

-- what is due after a command, and that it came about
pub record ActKept (u : Under) (numbers : Numbers) (documents : List PlainDocument) (plain : PlainCommand) (outcome : Outcome) (done : Done) : Type 0 where
  pub later : List PlainDocument
  pub reply : PlainReply
  pub acted : Acted u numbers done later reply
  pub due : IsDue (is_kept plain outcome) documents plain outcome later reply

each_weaker : {A : Type 0} (P Q : A → Type 0) → ((x : A) → P x → Q x) → (xs : List A) → AllByRecursion P xs → AllByRecursion Q xs
each_weaker P Q weaker [] each = tt
each_weaker P Q weaker (x ∷ xs) each = (weaker x each.0, each_weaker P Q weaker xs each.1)

-- a refusal by a filter says which field asks for too few factors
abbrev IsBelow : Reply → Type 0
IsBelow (r.ContentionBelow field got now) = Unit {0}
IsBelow _ = ⊥

abbrev IsBelowIf : Option Reply → Type 0
IsBelowIf None = Unit {0}
IsBelowIf (Some reply) = IsBelow reply

module _ (current : List ℕ) where
  below_or : (one other : Option Reply) → IsBelowIf one → IsBelowIf other → IsBelowIf (or_else one other)
  below_or None other first second = second
  below_or (Some reply) other first second = first

  below_field : (field got : ℕ) → IsBelowIf (below_at current field got)
  below_field field got =
      cond_both (nat_lt got (current_of current field)) (Some (r.ContentionBelow field got (current_of current field))) None IsBelowIf (λ _. tt) (λ _. tt)

  below_term : (term : SentTerm) → IsBelowIf (term_below current term)
  below_term (t.Id id) = tt
  below_term (t.Equal field payload) = below_field field _
  below_term (t.Range field payload) = below_field field _

  below_filter : (terms : List SentTerm) → IsBelowIf (filter_below current terms)
  below_filter [] = tt
  below_filter (term ∷ terms) = below_or (term_below current term) (filter_below current terms) (below_term term) (below_filter terms)

pub or_none : (one : Option Reply) → or_else one None ≡ one
or_none None = refl
or_none (Some reply) = refl

raised_none : (outcome : Outcome) (numbers : Numbers) → raised_if outcome numbers [] ≡ numbers
raised_none outcome numbers = cond_both (is_accepted outcome) numbers numbers (λ n. n ≡ numbers) (λ _. refl) (λ _. refl)

later_raised_if : (outcome : Outcome) (numbers : Numbers) (words : List Word) → Later numbers (raised_if outcome numbers words)
later_raised_if outcome numbers words =
    cond_both (is_accepted outcome) (all_raised numbers words) numbers (Later numbers) (λ _. later_all_raised words numbers) (λ _. later_same numbers)

module _ (u : Under) (is : IsUnder u) (leaves : Bool) (contentions : Contentions) where
  -- values that a resolved command sends
  pub are_meant : (cells : List PlainCell) (sents : List (ℕ × SentCell)) → AllZip (SendsCell u leaves contentions) cells sents → AreCells u.schema cells
      → AllByRecursion (IsSpelledCell u.schema) cells → AreCellsOf u.schema sents → AreMeant u leaves contentions cells sents
  are_meant cells sents sends are spelled fits = record {
    sends = sends;
    kept = each_weaker (IsCell u.schema) (λ (cell : PlainCell). IsKeptBy cell.value (kind_at u.schema cell.field))
        (λ cell kept. allowed_at u.schema cell.field (IsKeptBy cell.value) kept) cells (recursion_from_All (IsCell u.schema) cells are.each);
    spelled = spelled;
    fits = fits.each;
  }

module _ (u : Under) (is : IsUnder u) (state : State) (documents : List PlainDocument) where
  -- refused by its filter: its words are known
  refused_kept : (plain : PlainCommand) → is_plain plain ≡ true → (words stored : List Word) (numbers : Numbers) (outcome : Outcome) (reply : Reply) → IsBelow reply
      → outcome ≡ outcome_of reply → IsFree (root_of u) (raised_if outcome (all_learned numbers words) stored) → Stands u numbers state documents
      → ActKept u (raised_if outcome (all_learned numbers words) stored) documents plain outcome (answered state reply)
  refused_kept plain is_doc words stored numbers outcome (r.ContentionBelow field got now) below same free stands =
      let reply = r.ContentionBelow field got now in
      let sought = all_learned numbers words in
      let is_free : IsFree (root_of u) sought = subst (λ (x : Outcome). IsFree (root_of u) (raised_if x sought stored)) same free in
      subst (λ (x : Outcome). ActKept u (raised_if x sought stored) documents plain x (answered state reply)) (sym same) (record {
        later = documents;
        reply = answer.ContentionBelow field got now;
        acted = record { stands = learned_stand u is state documents numbers words is_free stands; answers = refl };
        due = subst (λ b. IsDue (b && false) documents plain (o.ContentionBelow field got now) documents (answer.ContentionBelow field got now)) (sym is_doc) (refl, refl);
      })
  refused_kept plain is_doc words stored numbers outcome reply below same free stands = absurd below

  -- served: its reply is the plain one's
  served_kept : (plain : PlainCommand) → is_plain plain ≡ true → (numbers : Numbers) (outcome : Outcome) (done : Done) → outcome ≡ outcome_of done.reply
      → was_served (outcome_of done.reply) ≡ true → (later : List PlainDocument) (reply : PlainReply) → plainly.plain_step documents plain ≡ Some (later, reply)
      → Acted u numbers done later reply → ActKept u numbers documents plain outcome done
  served_kept plain is_doc numbers outcome done same was later reply step acted = record {
    later = later;
    reply = reply;
    acted = acted;
    due = subst (λ b. IsDue b documents plain outcome later reply) (sym (λ i. is_doc i && (ap was_served same ∙ was) i)) step;
  }

insert_served : (b : Bool) (state : State) (other : Done) → was_served (outcome_of other.reply) ≡ true
    → was_served (outcome_of (if b then answered state r.DuplicateId else other).reply) ≡ true
insert_served true state other served = refl
insert_served false state other served = served

counted_served : (b : Bool) (one other : Done) → was_served (outcome_of one.reply) ≡ true → was_served (outcome_of other.reply) ≡ true
    → was_served (outcome_of (if b then one else other).reply) ≡ true
counted_served true one other first second = first
counted_served false one other first second = second

pub found_served : (ids : Bool) (found : List Stored) → was_served (outcome_of (find_reply ids found)) ≡ true
found_served true found = refl
found_served false found = refl

module _ (u : Under) (is : IsUnder u) (laws : EdgeLaws) (steps : StepsKeepCollections) (leaves : Bool) (contentions : Contentions) (state : State)
    (within : (field : ℕ) → contention_of contentions field ≤ current_of state.current field) (documents : List PlainDocument) (numbers : Numbers)
    (stands : Stands u numbers state documents) (nonces : List (List ℕ)) (long : AreLong nonces) (counts : List Count) (outcome : Outcome) where
  -- what a command leads to, where it is refused or served, is due
  abbrev Goal : PlainCommand → Command → Option Reply → Type 0
  Goal plain command refused =
      AllowedUnless refused counts (AllowedServed state command nonces counts)
      → outcome ≡ outcome_of (unless_refused state refused (served state command nonces counts)).reply
      → IsFree (root_of u) (numbers_by u state plain command nonces counts outcome numbers)
      → ActKept u (numbers_by u state plain command nonces counts outcome numbers) documents plain outcome
      (unless_refused state refused (served state command nonces counts))

  insert_kept : (document : PlainDocument) (cells : List (ℕ × SentCell)) → IsMeant u.schema (p.Insert document)
      → AllZip (SendsCell u leaves contentions) document.cells cells → AreCellsOf u.schema cells → cells_nonces cells ≤ length nonces
      → Goal (p.Insert document) (c.Insert (value_of document.id) cells) None
  insert_kept document cells meant sends fits enough allowed same free =
      let are = are_meant u is leaves contentions document.cells cells sends meant.resolved.cells meant.spelled.1 fits in
      let done = insert_step state (value_of document.id) cells nonces counts in
      let due = plainly.insert_step documents document in
      let acted = insert_acted u is state documents leaves contentions numbers stands document cells are meant.resolved.cells.rise meant.resolved.id meant.spelled.0
      nonces counts long enough (words_within u leaves contentions state.current within document.cells cells sends) outcome allowed same free in
      served_kept u is state documents (p.Insert document) refl (numbers_by u state (p.Insert document) (c.Insert (value_of document.id) cells) nonces counts outcome numbers)
      outcome done same (insert_served (has_document (value_of document.id) state.docs) state _ refl) due.0 due.1 refl acted

  find_kept : (terms : List Term) (ids : Bool) → IsMeant u.schema (p.Find terms ids) → (refused : Option Reply)
      → filter_below state.current (sent_filter u contentions terms 0) ≡ refused → IsBelowIf refused
      → Goal (p.Find terms ids) (c.Find (sent_filter u contentions terms 0) ids) refused
  find_kept terms ids meant (Some reply) refused below allowed same free =
      refused_kept u is state documents (p.Find terms ids) refl (terms_words u.schema terms (sent_filter u contentions terms 0)) [] numbers outcome reply below same free stands
  find_kept terms ids meant None not_below below allowed same free =
      let words = terms_words u.schema terms (sent_filter u contentions terms 0) in
      let sought = all_learned numbers words in
      let is_free : IsFree (root_of u) sought = subst (IsFree (root_of u)) (raised_none outcome sought) free in
      let done = find_step state (sent_filter u contentions terms 0) ids counts in
      let reply = plainly.find_reply (filter (plainly.matches terms) documents) ids in
      let acted : Acted u sought done documents reply =
      find_acted u is laws state documents contentions sought is_free (learned_stand u is state documents numbers words is_free stands)
      terms (recursion_from_All (IsTerm u.schema) terms meant.resolved) meant.spelled not_below (all_known words numbers) counts allowed.0 ids in
      served_kept u is state documents (p.Find terms ids) refl (raised_if outcome sought []) outcome done same
      (found_served ids (filter (matches (sets_for state (sent_filter u contentions terms 0) counts)) state.docs)) documents reply refl
      (subst (λ (n : Numbers). Acted u n done documents reply) (sym (raised_none outcome sought)) acted)

  delete_kept : (terms : List Term) → IsMeant u.schema (p.Delete terms) → (refused : Option Reply)
      → filter_below state.current (sent_filter u contentions terms 0) ≡ refused → IsBelowIf refused
      → Goal (p.Delete terms) (c.Delete (sent_filter u contentions terms 0)) refused
  delete_kept terms meant (Some reply) refused below allowed same free =
      refused_kept u is state documents (p.Delete terms) refl (terms_words u.schema terms (sent_filter u contentions terms 0)) [] numbers outcome reply below same free stands
  delete_kept terms meant None not_below below allowed same free =
      let words = terms_words u.schema terms (sent_filter u contentions terms 0) in
      let sought = all_learned numbers words in
      let is_free : IsFree (root_of u) sought = subst (IsFree (root_of u)) (raised_none outcome sought) free in
      let sents = sent_filter u contentions terms 0 in
      let done = delete_step state sents counts in
      let later = plainly.on_first (plainly.matches terms) (λ document. []) documents in
      let reply = answer.Deleted (plainly.count_first (plainly.matches terms) documents) in
      let acted : Acted u sought done later reply =
      delete_acted u is laws state documents contentions sought is_free (learned_stand u is state documents numbers words is_free stands)
      terms (recursion_from_All (IsTerm u.schema) terms meant.resolved) meant.spelled not_below (all_known words numbers) counts allowed.0 in
      served_kept u is state documents (p.Delete terms) refl (raised_if outcome sought []) outcome done same
      (counted_served (list_any (matches (sets_for state sents counts)) state.docs) (deleted state (sets_for state sents counts)) (answered state (r.Deleted 0)) refl refl)
      later reply refl (subst (λ (n : Numbers). Acted u n done later reply) (sym (raised_none outcome sought)) acted)

  update_kept : (terms : List Term) (set : List PlainCell) (cells : List (ℕ × SentCell)) → IsMeant u.schema (p.Update terms set)
      → AllZip (SendsCell u leaves contentions) set cells → AreCellsOf u.schema cells → cells_nonces cells ≤ length nonces → (refused : Option Reply)
      → filter_below state.current (sent_filter u contentions terms 0) ≡ refused → IsBelowIf refused
      → Goal (p.Update terms set) (c.Update (sent_filter u contentions terms 0) cells) refused
  update_kept terms set cells meant sends fits enough (Some reply) refused below allowed same free =
      refused_kept u is state documents (p.Update terms set) refl (terms_words u.schema terms (sent_filter u contentions terms 0)) (cells_words u.schema set cells)
      numbers outcome reply below same free stands
  update_kept terms set cells meant sends fits enough None not_below below allowed same free =
      let sents = sent_filter u contentions terms 0 in
      let words = terms_words u.schema terms sents in
      let sought = all_learned numbers words in
      let stored = cells_words u.schema set cells in
      let is_free : IsFree (root_of u) sought = free_before (root_of u) sought (raised_if outcome sought stored) (later_raised_if outcome sought stored) free in
      let done = update_step state sents cells nonces counts in
      let later = plainly.on_first (plainly.matches terms) (λ document. plainly.with_set set document ∷ []) documents in
      let reply = answer.Updated (plainly.count_first (plainly.matches terms) documents) in
      let are = are_meant u is leaves contentions set cells sends meant.resolved.1 meant.spelled.1 fits in
      let acted : Acted u (raised_if outcome sought stored) done later reply =
      update_acted u is laws state documents contentions sought is_free (learned_stand u is state documents numbers words is_free stands)
      terms (recursion_from_All (IsTerm u.schema) terms meant.resolved.0) meant.spelled.0 not_below (all_known words numbers) counts allowed.0
      steps leaves set cells are nonces long enough (words_within u leaves contentions state.current within set cells sends) outcome allowed.1 same free in
      served_kept u is state documents (p.Update terms set) refl (raised_if outcome sought stored) outcome done same
      (counted_served (list_any (matches (sets_for state sents counts)) state.docs) _ (answered state (r.Updated 0)) refl refl) later reply refl acted

  -- each command on documents that is sent for a plain one
  pub act_kept : (plain : PlainCommand) (command : Command) → is_plain plain ≡ true → IsMeant u.schema plain → Encodes u leaves contentions plain command
      → Fits u.schema command → length nonces ≡ nonces_of command → AllowedCounts state command nonces counts
      → outcome ≡ outcome_of (next state command nonces counts).reply
      → IsFree (root_of u) (numbers_by u state plain command nonces counts outcome numbers)
      → ActKept u (numbers_by u state plain command nonces counts outcome numbers) documents plain outcome (next state command nonces counts)
  act_kept (p.Insert document) (c.Insert id cells) is_doc meant encodes fits many allowed same free =
      let cells_fit = (fitting_laws u.schema (c.Insert id cells) is.schema fits).of_schema.1 in
      let refused : cells_over state.current cells ≡ None = never_over u leaves contentions state.current within document.cells cells encodes.1 in
      let go : Goal (p.Insert document) (c.Insert id cells) None =
      subst (λ (x : Value). Goal (p.Insert document) (c.Insert x cells) None) (sym encodes.0)
      (insert_kept document cells meant encodes.1 cells_fit (omega (arith, many))) in
      subst (Goal (p.Insert document) (c.Insert id cells)) (sym refused) go allowed same free
  act_kept (p.Find terms ids) (c.Find filter only) is_doc meant encodes fits many allowed same free =
      let go : Goal (p.Find terms ids) (c.Find filter only) (filter_below state.current filter) =
      subst (λ (x : List SentTerm × Bool). Goal (p.Find terms ids) (c.Find x.0 x.1) (filter_below state.current x.0)) (λ i. (sym encodes.0 i, sym encodes.1 i))
      (find_kept terms ids meant (filter_below state.current (sent_filter u contentions terms 0)) refl
      (below_filter state.current (sent_filter u contentions terms 0))) in
      go allowed same free
  act_kept (p.Delete terms) (c.Delete filter) is_doc meant encodes fits many allowed same free =
      let go : Goal (p.Delete terms) (c.Delete filter) (filter_below state.current filter) =
      subst (λ (x : List SentTerm). Goal (p.Delete terms) (c.Delete x) (filter_below state.current x)) (sym encodes)
      (delete_kept terms meant (filter_below state.current (sent_filter u contentions terms 0)) refl
      (below_filter state.current (sent_filter u contentions terms 0))) in
      go allowed same free
  act_kept (p.Update terms set) (c.Update filter cells) is_doc meant encodes fits many allowed same free =
      let cells_fit = (fitting_laws u.schema (c.Update filter cells) is.schema fits).of_schema.1 in
      let refused : or_else (filter_below state.current filter) (cells_over state.current cells) ≡ filter_below state.current filter =
      ap (or_else (filter_below state.current filter)) (never_over u leaves contentions state.current within set cells encodes.1)
      ∙ or_none (filter_below state.current filter) in
      let go : Goal (p.Update terms set) (c.Update filter cells) (filter_below state.current filter) =
      subst (λ (x : List SentTerm). Goal (p.Update terms set) (c.Update x cells) (filter_below state.current x)) (sym encodes.0)
      (update_kept terms set cells meant encodes.1 cells_fit (omega (arith, many)) (filter_below state.current (sent_filter u contentions terms 0)) refl
      (below_filter state.current (sent_filter u contentions terms 0))) in
      subst (Goal (p.Update terms set) (c.Update filter cells)) (sym refused) go allowed same free
  act_kept (p.Begin kind pairs) command is_doc meant encodes fits many allowed same free = cc
  act_kept (p.Step job limit) command is_doc meant encodes fits many allowed same free = cc
  act_kept (p.End job) command is_doc meant encodes fits many allowed same free = cc
  act_kept (p.Abandon job) command is_doc meant encodes fits many allowed same free = cc
  act_kept (p.Raise field contention) command is_doc meant encodes fits many allowed same free = cc
  act_kept plain command is_doc meant encodes fits many allowed same free = absurd encodes
