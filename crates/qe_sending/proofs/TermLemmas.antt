-- Terms that are sent, one after another.
use Rattle.std.proofs.Common.{◌≡◌, ◌<◌, ◌≤◌, ◌+◌, ℕ, List, [], ◌∷◌, ◌++◌, length, get_or, drop, refl}
use Rattle.qe_command.specs.declared.filter.SentTerm.{SentTerm}
use Rattle.qe_plain.specs.declared.command.Term.{Term}
use Rattle.qe_labels.specs.Under.{Under}
use Rattle.qe_encodes.specs.Callers.{Contentions}
use Rattle.qe_encodes.specs.Payloads.{sent_term, sent_filter}
use Rattle.qe_sending.proofs.LoopLemmas.{loop_next, loop_end}

module _ (u : Under) (contentions : Contentions) where
  one_term : Term → ℕ → SentTerm
  one_term term place = sent_term u contentions place term

  pub terms_next : (terms : List Term) (i : ℕ) (term : Term) (made whole : List SentTerm) (sent : SentTerm) → i < length terms → term ≡ get_or terms i term
      → sent ≡ sent_term u contentions i term → made ++ sent_filter u contentions (drop i terms) i ≡ whole
      → (made ++ sent ∷ []) ++ sent_filter u contentions (drop (i + 1) terms) (i + 1) ≡ whole
  unfolding one_term
  terms_next terms i term made whole sent less is one so_far =
      loop_next (sent_filter u contentions) one_term (λ x n. n + 1) (λ x xs n. refl) terms i i (i + 1) term made whole sent less is one refl so_far

  pub terms_end : (terms : List Term) (i : ℕ) (made whole : List SentTerm) → length terms ≤ i
      → made ++ sent_filter u contentions (drop i terms) i ≡ whole → made ≡ whole
  unfolding one_term
  terms_end terms i made whole past so_far =
      loop_end (sent_filter u contentions) one_term (λ x n. n + 1) (λ x xs n. refl) (λ n. refl) terms i i made whole past so_far
