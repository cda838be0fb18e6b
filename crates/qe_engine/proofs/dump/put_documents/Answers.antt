use Rattle.std.proofs.Common.{◌≡◌, ◌++◌, filter, flat_map, subst, ap, ◌∙◌}
use Rattle.std.specs.Prelude.{OnOk}
use Rattle.qe_protocol.specs.Filters.{matches}
use Rattle.qe_dump.specs.Dump.{document_lines}
use Rattle.qe_serving.specs.Serving.{docs_in}
use Rattle.qe_serving.specs.Documents.{picked}
use Rattle.qe_engine.proofs.DumpLemmas.{all_match}
use Rattle.qe_engine.proofs.dump.put_documents.Goals as goal

pub returns : goal.returns
returns c =
    let documents = c.args.kept.now.store.documents in
    let all : picked documents c.slice.result.now ≡ docs_in documents =
    ap (picked documents) c.slice.ensures ∙ c.in_ok-numbers.ensures.all ∙ ap (λ sets. filter (matches sets) (docs_in documents)) c.new.ensures
    ∙ all_match (docs_in documents) in
    subst (λ stored. OnOk c.put_picked.result (c.put_picked.new.text ≡ c.args.text.now ++ flat_map (document_lines c.args.fields.now) stored)) all c.put_picked.ensures
