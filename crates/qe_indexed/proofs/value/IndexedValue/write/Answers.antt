use Rattle.std.proofs.Common.{◌≡◌, ◌++◌, length, ap, sym, ◌∙◌}
use Rattle.std.proofs.lemmas.List.{append_assoc}
use Rattle.qe_indexed.specs.Parts.{Indexed}
use Rattle.qe_indexed.specs.Spelling.{written, head_of, joined}
use Rattle.qe_indexed.proofs.JoinLemmas.{AreLong}
use Rattle.qe_indexed.proofs.value.IndexedValue.write.Goals as goal

pub returns : goal.returns
unfolding written
returns c =
    let value : Indexed = c.args.self.now in
    let blocks_are : c.slice-2.result.now ≡ value.blocks = c.slice-2.ensures ∙ ap (λ v. v.blocks) c.self.view_is in
    let server_is : c.slice.result.now ≡ value.server_value = c.slice.ensures ∙ ap (λ v. v.server_value) c.self.view_is in
    let head = head_of value.range value.key_id value.value_kind (length value.blocks) in
    let blocks_long : AreLong value.blocks = rw (sym blocks_are) c.in_ok-push_blocks.ensures.long in
    record {
      within = c.in_ok-bytes.ensures.within;
      key_id_long = c.in_ok-bytes.ensures.long;
      blocks_long = blocks_long;
      bytes_are =
          c.in_ok-push_blocks.ensures.bytes ∙ ap (λ front. front ++ joined c.slice-2.result.now) c.in_ok-extend.ensures.ok
          ∙ ap (λ front. (front ++ c.slice.result.now) ++ joined c.slice-2.result.now) c.in_ok-bytes.ensures.bytes
          ∙ append_assoc head c.slice.result.now (joined c.slice-2.result.now)
          ∙ ap (λ server. head ++ (server ++ joined c.slice-2.result.now)) server_is
          ∙ ap (λ blocks. head ++ (value.server_value ++ joined blocks)) blocks_are;
    }
