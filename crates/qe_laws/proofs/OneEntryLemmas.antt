-- Without a clash an entry's counts are the only ones that are allowed with its command and nonces.
use Rattle.std.proofs.Common.{◌≡◌, ℕ, true, false, List, [], Option, None, Some, sym, ◌∙◌, subst, ⊎_elim}
use Rattle.std.proofs.lemmas.Bool.{cases_Bool, cond-true, MatchBool-at_false, MatchBool-at_true}
use Rattle.std.specs.Prelude.{◌==◌}
use Rattle.std.specs.List.{AllByRecursion}
use Rattle.qe_base.specs.declared.maintenance.Count.{Count}
use Rattle.qe_tokens.specs.declared.words.FieldToken.{FieldToken}
use Rattle.qe_ecoc.specs.declared.rows.Entry.{Entry}
use Rattle.qe_plain.specs.declared.command.PlainDocument.{PlainDocument}
use Rattle.qe_plain.specs.declared.command.Term.{Term}
use Rattle.qe_protocol.specs.Jobs.{AllowedOn, step_units, work_of}
use Rattle.qe_protocol.specs.Next.{AllowedFilter}
use Rattle.qe_protocol.specs.State.{Job, State}
use Rattle.qe_protocol.specs.Units.{AllowedUnits}
use Rattle.qe_protocol.specs.Laws.{AreLong}
use Rattle.qe_labels.specs.Laws.{IsFree}
use Rattle.qe_labels.specs.Numbers.{Numbers, StraysAreZero, all_learned}
use Rattle.qe_labels.specs.Under.{Under, root_of}
use Rattle.qe_relation.specs.Steps.{IsOpenedKnown}
use Rattle.qe_relation.proofs.OneLemmas.{units_one}
use Rattle.qe_encodes.specs.Callers.{Contentions}
use Rattle.qe_encodes.specs.Counted.{opened_by, strays_of}
use Rattle.qe_encodes.specs.Fields.{IsUnder}
use Rattle.qe_encodes.specs.Payloads.{sent_filter}
use Rattle.qe_encodes.specs.Words.{terms_words}
use Rattle.qe_standing.specs.Stands.{Stands}
use Rattle.qe_standing.proofs.ActLemmas.{learned_stand}
use Rattle.qe_standing.proofs.NumberLemmas.{all_known}
use Rattle.qe_laws.proofs.OneCommandLemmas.{terms_one}
use Rattle.qe_laws.proofs.StrayLemmas.{opened_known, strays_all_learned}

module _ (u : Under) (is : IsUnder u) (numbers : Numbers) (state : State) (documents : List PlainDocument) (stands : Stands u numbers state documents) where
  -- of a filter, and of no more
  pub filter_one : (contentions : Contentions) (terms : List Term) → IsFree (root_of u) (all_learned numbers (terms_words u.schema terms (sent_filter u contentions terms 0)))
      → (counts others : List Count) → AllowedFilter state (sent_filter u contentions terms 0) counts → AllowedFilter state (sent_filter u contentions terms 0) others → others ≡ counts
  filter_one contentions terms free counts others allowed also =
      let words = terms_words u.schema terms (sent_filter u contentions terms 0) in
      let sought = all_learned numbers words in
      let first : Stands u sought state documents = learned_stand u is state documents numbers words free stands in
      (terms_one u sought free state.index.rows first.index.rows_stand contentions terms 0 counts others (all_known words numbers) allowed.0 also.0).join (also.1 ∙ sym allowed.1)

  -- of a step
  module _ (strays : StraysAreZero numbers) (asked : ℕ) (nonces : List (List ℕ)) (long : AreLong nonces) (counts others : List Count) where
    abbrev Units : List Count → Job → Type 0
    Units cs job = AllowedUnits job.kind job.tokens nonces (work_of state job) cs

    on_one : (running : Option Job) → let opened = opened_by state asked nonces counts running in
        IsFree (root_of u) (all_learned numbers (strays_of u opened.0 opened.1)) → AllowedOn asked running counts (Units counts) → AllowedOn asked running others (Units others) → others ≡ counts
    on_one None free allowed also = also ∙ sym allowed
    on_one (Some job) free allowed also = ⊎_elim
        (λ (asked_for : (job.number == asked) ≡ true).
        let opened = (step_units state job nonces counts).opened in
        let words = strays_of u job.tokens opened in
        let last = all_learned numbers words in
        let full : List FieldToken × List Entry = (job.tokens, opened) in
        let nothing : List FieldToken × List Entry = ([], []) in
        let pair = cond-true (job.number == asked) full nothing asked_for in
        let free_last : IsFree (root_of u) last = subst (λ q. IsFree (root_of u) (all_learned numbers (strays_of u q.0 q.1))) pair free in
        let first : Stands u last state documents = learned_stand u is state documents numbers words free_last stands in
        let known : AllByRecursion (IsOpenedKnown (root_of u) last job.tokens) opened =
        opened_known u last (strays_all_learned words numbers strays) job.tokens opened (all_known words numbers) in
        units_one (root_of u) last free_last state.index.ecoc job.kind job.tokens nonces long (work_of state job) counts others first.index
        (MatchBool-at_true (Units counts job) (counts ≡ []) asked_for allowed) (MatchBool-at_true (Units others job) (others ≡ []) asked_for also) known)
        (λ (other : (job.number == asked) ≡ false).
        MatchBool-at_false (Units others job) (others ≡ []) other also ∙ sym (MatchBool-at_false (Units counts job) (counts ≡ []) other allowed))
        (cases_Bool (job.number == asked))

    pub step_one : let opened = opened_by state asked nonces counts state.jobs.job in
        IsFree (root_of u) (all_learned numbers (strays_of u opened.0 opened.1)) → AllowedOn asked state.jobs.job counts (Units counts) → AllowedOn asked state.jobs.job others (Units others)
        → others ≡ counts
    step_one free allowed also = on_one state.jobs.job free allowed also
