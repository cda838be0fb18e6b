-- What hooks and unhooks on the three sides do, one after another.
use Rattle.std.proofs.Common.{◌≡◌, ◌<◌, ℕ, List, length, IfSome, Option, Some, refl, sym, ◌∙◌, subst}
use Rattle.qe_chains.specs.declared.nodes.Side.{Side}
use Rattle.qe_chains.specs.declared.nodes.Side.TheVariants.{All, Tag, Doc}
use Rattle.qe_chains.specs.declared.nodes.Ends.{Ends}
use Rattle.qe_chains.specs.declared.nodes.Node.{Node}
use Rattle.qe_chains.specs.declared.nodes.Sides.{Sides}
use Rattle.qe_chains.specs.Nodes.{after, before, tag_at, doc_at, SameBut, PushesAt, TakesAt, Hooks, Unhooks, HooksAll, UnhooksAll, IsInside}

-- both have the same links on a side
pub record SameSide (side : Side) (old new : List Node) : Type 0 where
  pub afters : (j : ℕ) → after new side j ≡ after old side j
  pub befores : (j : ℕ) → before new side j ≡ before old side j

itself : (side : Side) (nodes : List Node) → SameSide side nodes nodes
itself side nodes = record { afters = λ j. refl; befores = λ j. refl }

of_other : (side other : Side) (old new : List Node) → SameBut side old new → (other ≡ side → ⊥) → SameSide other old new
of_other side other old new same ne = record { afters = same.afters other ne; befores = same.befores other ne }

then_same : (side : Side) (a b c : List Node) → SameSide side a b → SameSide side b c → SameSide side a c
then_same side a b c h k = record { afters = λ j. k.afters j ∙ h.afters j; befores = λ j. k.befores j ∙ h.befores j }

pub pushes_near : (side : Side) (at : ℕ) (e e' : Option Ends) (a b c d : List Node) → SameSide side a b → PushesAt side at e e' b c → SameSide side c d → PushesAt side at e e' a d
pushes_near side at e e' a b c d h p k = record {
  nexts = λ j ne other. k.afters j ∙ p.nexts j ne other ∙ h.afters j;
  joins = λ l is. k.afters l ∙ p.joins l is;
  here_next = k.afters at ∙ p.here_next;
  prevs = λ j ne. k.befores j ∙ p.prevs j ne ∙ h.befores j;
  here_prev = k.befores at ∙ p.here_prev;
  starts_new = p.starts_new;
  starts_old = p.starts_old;
  ends = p.ends;
}

pub takes_near : (side : Side) (at : ℕ) (e e' : Option Ends) (a b c d : List Node) → SameSide side a b → TakesAt side at e e' b c → SameSide side c d → TakesAt side at e e' a d
takes_near side at e e' a b c d h t k = record {
  nexts = λ j other. k.afters j ∙ t.nexts j (λ is. other (sym (h.befores at) ∙ is)) ∙ h.afters j;
  joins_next = λ l is. k.afters l ∙ t.joins_next l (h.befores at ∙ is) ∙ h.afters at;
  prevs = λ j other. k.befores j ∙ t.prevs j (λ is. other (sym (h.afters at) ∙ is)) ∙ h.befores j;
  joins_prev = λ f is. k.befores f ∙ t.joins_prev f (h.afters at ∙ is) ∙ h.befores at;
  starts_new = λ is. t.starts_new (h.befores at ∙ is) ∙ h.afters at;
  starts_old = λ l is. t.starts_old l (h.befores at ∙ is);
  ends_new = λ is. t.ends_new (h.afters at ∙ is) ∙ h.befores at;
  ends_old = λ f is. t.ends_old f (h.afters at ∙ is);
}

pub record Differ : Type 0 where
  pub all_tag : All ≡ Tag → ⊥
  pub all_doc : All ≡ Doc → ⊥
  pub tag_all : Tag ≡ All → ⊥
  pub tag_doc : Tag ≡ Doc → ⊥
  pub doc_all : Doc ≡ All → ⊥
  pub doc_tag : Doc ≡ Tag → ⊥

pub differ : Differ
differ = record { all_tag = λ e. cc; all_doc = λ e. cc; tag_all = λ e. cc; tag_doc = λ e. cc; doc_all = λ e. cc; doc_tag = λ e. cc }

-- the three sides written in turn: before its own write a side is as at first, and after it as at last
pub record InTurn (a b c d : List Node) : Type 0 where
  pub all_behind : SameSide All b d
  pub tag_ahead : SameSide Tag a b
  pub tag_behind : SameSide Tag c d
  pub doc_ahead : SameSide Doc a c
  pub count : length d ≡ length a
  pub tags : (j : ℕ) → tag_at d j ≡ tag_at a j
  pub docs : (j : ℕ) → doc_at d j ≡ doc_at a j

pub in_turn : (a b c d : List Node) → SameBut All a b → SameBut Tag b c → SameBut Doc c d → InTurn a b c d
in_turn a b c d x y z = record {
  all_behind = then_same All b c d (of_other Tag All b c y differ.all_tag) (of_other Doc All c d z differ.all_doc);
  tag_ahead = of_other All Tag a b x differ.tag_all;
  tag_behind = of_other Doc Tag c d z differ.tag_doc;
  doc_ahead = then_same Doc a b c (of_other All Doc a b x differ.doc_all) (of_other Tag Doc b c y differ.doc_tag);
  count = z.count ∙ y.count ∙ x.count;
  tags = λ j. z.tags j ∙ y.tags j ∙ x.tags j;
  docs = λ j. z.docs j ∙ y.docs j ∙ x.docs j;
}

pub hooks_all : (at : ℕ) (ends : Sides (Option Ends)) (ends' : Sides Ends) (a b c d : List Node)
    → Hooks All at ends.all (Some ends'.all) a b → Hooks Tag at ends.by_tag (Some ends'.by_tag) b c → Hooks Doc at ends.by_doc (Some ends'.by_doc) c d → HooksAll at ends ends' a d
hooks_all at ends ends' a b c d x y z =
    let t = in_turn a b c d x.kept y.kept z.kept in
    record {
      count = t.count;
      tags = t.tags;
      docs = t.docs;
      all = pushes_near All at ends.all (Some ends'.all) a a b d (itself All a) x.pushes t.all_behind;
      by_tag = pushes_near Tag at ends.by_tag (Some ends'.by_tag) a b c d t.tag_ahead y.pushes t.tag_behind;
      by_doc = pushes_near Doc at ends.by_doc (Some ends'.by_doc) a c d d t.doc_ahead z.pushes (itself Doc d);
    }

pub unhooks_all : (at : ℕ) (ends ends' : Sides (Option Ends)) (a b c d : List Node)
    → Unhooks All at ends.all ends'.all a b → Unhooks Tag at ends.by_tag ends'.by_tag b c → Unhooks Doc at ends.by_doc ends'.by_doc c d → UnhooksAll at ends ends' a d
unhooks_all at ends ends' a b c d x y z =
    let t = in_turn a b c d x.kept y.kept z.kept in
    record {
      count = t.count;
      tags = t.tags;
      docs = t.docs;
      all = takes_near All at ends.all ends'.all a a b d (itself All a) x.takes t.all_behind;
      by_tag = takes_near Tag at ends.by_tag ends'.by_tag a b c d t.tag_ahead y.takes t.tag_behind;
      by_doc = takes_near Doc at ends.by_doc ends'.by_doc a c d d t.doc_ahead z.takes (itself Doc d);
    }

-- neighbours that are nodes still are, where a side and the number of nodes stay
inside_same : (side : Side) (at : ℕ) (a b : List Node) → SameSide side a b → length b ≡ length a → IsInside at a
    → IfSome (before b side at) (λ i. i < length b) × IfSome (after b side at) (λ i. i < length b)
inside_same side at a b same count h = (
  subst (λ o. IfSome o (λ i. i < length b)) (sym (same.befores at)) (subst (λ n. IfSome (before a side at) (λ i. i < n)) (sym count) (h side).0),
  subst (λ o. IfSome o (λ i. i < length b)) (sym (same.afters at)) (subst (λ n. IfSome (after a side at) (λ i. i < n)) (sym count) (h side).1),
)

pub inside_tag : (at : ℕ) (a b : List Node) → SameBut All a b → IsInside at a
    → IfSome (before b Tag at) (λ i. i < length b) × IfSome (after b Tag at) (λ i. i < length b)
inside_tag at a b x h = inside_same Tag at a b (of_other All Tag a b x differ.tag_all) x.count h

pub inside_doc : (at : ℕ) (a b c : List Node) → SameBut All a b → SameBut Tag b c → IsInside at a
    → IfSome (before c Doc at) (λ i. i < length c) × IfSome (after c Doc at) (λ i. i < length c)
inside_doc at a b c x y h =
    inside_same Doc at a c (then_same Doc a b c (of_other All Doc a b x differ.doc_all) (of_other Tag Doc b c y differ.doc_tag)) (y.count ∙ x.count) h
