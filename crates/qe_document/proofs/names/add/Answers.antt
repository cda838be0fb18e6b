use Rattle.std.proofs.Common.{ℕ, List, Bor, ◌∙◌}
use Rattle.std.proofs.lemmas.Map.Text.{is_eq-slice_cmp}
use Rattle.qe_document.proofs.SetLemmas.{named_or_last}
use Rattle.qe_document.proofs.names.add.Goals as goal

pub returns-clause-knows : goal.returns-clause-knows
returns-clause-knows c = λ fields value known q.
    let b : Bor (List ℕ) = record c.args.name { now = q } in
    c.in_ok-new.ensures.updates.0 b ∙ rw (is_eq-slice_cmp c.args.name.now q, known q) (named_or_last c.args.name.now q fields value)
