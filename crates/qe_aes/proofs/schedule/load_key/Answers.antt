use Rattle.std.proofs.Common.{◌≡◌, ◌*◌, ℕ, [], ◌∷◌, ◌++◌, take, drop, map, ap, sym, ◌∙◌, zero-add, arith, length-set}
use Rattle.std.specs.List.{range_with_len}
use Rattle.std.proofs.lemmas.List.FromFn.{map-range_with_len_more}
use Rattle.qe_aes.specs.Words.{word_bytes, words_of}
use Rattle.qe_aes.proofs.ScheduleLemmas.{words_of-push}
use Rattle.qe_aes.proofs.schedule.load_key.Goals as goal

pub loop-i-preserved : goal.loop-i-preserved
loop-i-preserved c =
    let key_word = λ (k : ℕ). take 4 (drop (4 * k) c.args.key.now) in
    record {
      long = length-set _ _ _ ∙ c.loop-i.invariant.long;
      front =
          words_of-push c.loop-i.words c.loop-i.i c.word_at.result (omega arith)
          ∙ ap (λ ws. ws ++ word_bytes c.word_at.result ∷ []) c.loop-i.invariant.front
          ∙ ap (λ w. map key_word (range_with_len 0 c.loop-i.i) ++ w ∷ []) c.word_at.ensures
          ∙ sym (map-range_with_len_more key_word 0 c.loop-i.i c.loop-i.i (zero-add c.loop-i.i));
    }

pub returns : goal.returns
returns c =
    let all : c.loop-i.i ≡ 8 = omega arith in
    ap (λ k. words_of (take k c.loop-i.words)) (sym all) ∙ c.loop-i.invariant.front
    ∙ ap (λ k. map (λ j. take 4 (drop (4 * j) c.args.key.now)) (range_with_len 0 k)) all
