use Rattle.std.proofs.Common.{◌≡◌, length, subst, sym, ◌∙◌, arith}
use Rattle.std.specs.List.{Contains}
use Rattle.std.proofs.lemmas.List.{get_or_default}
use Rattle.qe_store.specs.Parts.{MeetsAt}
use Rattle.qe_store.proofs.MatchLemmas.{MeetsFirst, meets_more, match_one, match_all}
use Rattle.qe_store.proofs.store.Store.meeting_all.Goals as goal

pub loop-term-init : goal.loop-term-init
loop-term-init c =
    let docs = c.args.self.now.documents in
    record {
      sound = λ n has k less d. absurd (omega arith);
      whole = λ n all. c.in_ok-numbers.ensures n (subst (λ t. MeetsAt docs t n) (sym c.index-terms-at.is) (match_one docs c.args.terms.now n c.args.at _ c.requires all));
    }

pub loop-term-preserved : goal.loop-term-preserved
loop-term-preserved c =
    let docs = c.args.self.now.documents in
    let terms = c.args.terms.now in
    let i = c.loop-term.term-index in
    let within = c.loop-term-test.true in
    record {
      sound = λ n has.
          let both = (c.in_ok-kept.ensures n).0 has in
          meets_more docs terms i n (c.loop-term.invariant.sound n (subst (λ xs. Contains xs n) c.deref.ensures.value both.0))
          (λ d. subst (λ t. MeetsAt docs t n) (c.term-item.is ∙ get_or_default terms i _ d within) both.1);
      whole = λ n all. (c.in_ok-kept.ensures n).1 (
        subst (λ xs. Contains xs n) (sym c.deref.ensures.value) (c.loop-term.invariant.whole n all),
        subst (λ t. MeetsAt docs t n) (sym c.term-item.is) (match_one docs terms n i _ within all),
      );
    }

pub returns : goal.returns
returns c = λ n.
    let docs = c.args.self.now.documents in
    let terms = c.args.terms.now in
    let end : c.loop-term.term-index ≡ length terms = omega (arith, c.loop-term-test.false, c.loop-term.auto.term-index-end) in (
      (λ has. match_all docs terms n (omega (arith, c.requires)) (subst (λ i. MeetsFirst docs terms i n) end (c.loop-term.invariant.sound n has))),
      (λ all. c.loop-term.invariant.whole n all),
    )
