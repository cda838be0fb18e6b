use Rattle.std.proofs.Common.{◌≡◌, ◌+◌, ◌++◌, ◌∷◌, [], ap, ◌∙◌, rules, replicate, length, drop}
use Rattle.std.proofs.lemmas.List.{drop-replicate}
use Rattle.qe_aes.specs.CounterMode.{counter_mode}
use Rattle.qe_seal.proofs.ArrayLemmas.{in_two}
use Rattle.qe_ecoc.proofs.opening.write_leaf.Goals as goal

pub returns : goal.returns
returns c =
    let iv = c.args.iv.now in
    let token = c.args.token.now in
    let leaf = c.args.leaf in
    let long : 0 + length token ≡ 32 = search rules in
    let plain_is : c.write_at.new.bytes ≡ token ++ leaf ∷ [] = c.write_at.ensures ∙ ap (λ n. token ++ drop n (replicate 33 leaf)) long ∙ ap (λ rest. token ++ rest) (drop-replicate 32 33 leaf) in
    in_two (replicate 49 0) c.write_at-2.new.bytes c.write_at-3.new.bytes iv c.ctr.new.bytes 16 (search rules) (search rules) (search rules)
    c.write_at-2.ensures c.write_at-3.ensures
    ∙ ap (λ cipher. iv ++ cipher) (c.ctr.ensures ∙ ap (counter_mode c.args.key.now iv) plain_is)
