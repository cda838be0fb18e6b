use Rattle.std.proofs.Common.{◌≡◌, ℕ, List, map, length, sym, ap, ◌∙◌, subst}
use Rattle.qe_tokens.specs.declared.words.Word.{Word}
use Rattle.qe_label_list.specs.declared.tokens.FieldKeys.{FieldKeys}
use Rattle.qe_label_rows.specs.Made.{rows_of_all}
use Rattle.qe_label_list.specs.Roots.{AreWithin, root_in}
use Rattle.qe_label_list.specs.Tokens.{AreOfFields, tokens_of}
use Rattle.qe_label_list.proofs.FieldLemmas.{fields_many}
use Rattle.qe_label_list.proofs.MakingLemmas.{made_are, made_held}
use Rattle.qe_label_list.proofs.making.labels_of.Goals as goal

pub word_tokens-requires : goal.word_tokens-requires
word_tokens-requires c =
    let many : length c.args.roots.now ≡ length c.deref.result.now =
    sym (ap length c.deref.ensures.value ∙ fields_many c.in_ok-fields.fields.items c.args.roots.now c.in_ok-fields.ensures) in
    subst (λ (n : ℕ). AreWithin n c.deref-2.result.now) many
    (subst (λ (es : List (Word × ℕ)). AreWithin (length c.args.roots.now) es) (sym c.deref-2.ensures.value) c.requires.within)

pub from_rows-requires : goal.from_rows-requires
from_rows-requires c =
    let are = subst (λ (fields : List FieldKeys). AreOfFields fields c.args.roots.now) (sym c.deref.ensures.value) c.in_ok-fields.ensures in
    let tokens : c.in_ok-tokens.tokens.items ≡ map (tokens_of (root_in c.args.roots.now)) c.args.counted.items =
    c.in_ok-tokens.ensures c.args.roots.now are ∙ ap (map (tokens_of (root_in c.args.roots.now))) c.deref-2.ensures.value in
    let rows : c.in_ok-rows.rows.items ≡ rows_of_all c.in_ok-tokens.tokens.items = c.in_ok-rows.ensures ∙ ap rows_of_all c.deref-3.ensures.value in
    made_held (root_in c.args.roots.now) c.args.counted.items c.in_ok-words.words.items c.in_ok-rows.rows.items c.in_ok-tokens.tokens.items c.in_ok-words.ensures
    tokens rows c.requires.rising

pub returns : goal.returns
returns c =
    let are = subst (λ (fields : List FieldKeys). AreOfFields fields c.args.roots.now) (sym c.deref.ensures.value) c.in_ok-fields.ensures in
    let tokens : c.in_ok-tokens.tokens.items ≡ map (tokens_of (root_in c.args.roots.now)) c.args.counted.items =
    c.in_ok-tokens.ensures c.args.roots.now are ∙ ap (map (tokens_of (root_in c.args.roots.now))) c.deref-2.ensures.value in
    let rows : c.in_ok-rows.rows.items ≡ rows_of_all c.in_ok-tokens.tokens.items = c.in_ok-rows.ensures ∙ ap rows_of_all c.deref-3.ensures.value in
    c.from_rows.ensures ∙ made_are (root_in c.args.roots.now) c.args.counted.items c.in_ok-words.words.items c.in_ok-rows.rows.items c.in_ok-tokens.tokens.items
    c.in_ok-words.ensures tokens rows
