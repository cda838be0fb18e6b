-- Items of a value, planned one after another.
use Rattle.std.proofs.Common.{◌≡◌, ℕ, List, [], ◌∷◌, ◌++◌, length, drop, sym, ap, ap₂, subst, subst₂, ◌∙◌, append_assoc, append-nil, arith, length-append}
use Rattle.qe_base.specs.declared.maintenance.Count.{Count}
use Rattle.qe_parts.specs.declared.edges.EdgeTokens.{EdgeTokens}
use Rattle.qe_indexed.specs.declared.block.Block.{Block}
use Rattle.qe_protocol.specs.State.{Index}
use Rattle.qe_protocol.specs.Indexing.{indexed, with_block, ItemsDone, index_items, AllowedItems}
use Rattle.qe_indexing.specs.declared.plan.Plan.{Plan}
use Rattle.qe_indexing.specs.Plans.{planned}
use Rattle.qe_indexing.specs.Items.{ItemPlanned, blocks_before, ItemsPlanned}

module _ (base : Index) (field factor : ℕ) (nonces : List (List ℕ)) (old : Plan) where
  pub items_begin : (blocks : List Block) → blocks ≡ [] → ItemsPlanned base field factor [] nonces nonces old old blocks
  items_begin blocks none = record {
    searched = [];
    counts = sym (append-nil old.counts);
    does = λ others more. ap (λ made. blocks_before made (index_items field factor (planned base old) others nonces more)) (sym none);
    allowed = λ others more is. is;
    many = ap length none;
  }

  pub items_more : (items : List EdgeTokens) (item : EdgeTokens) (left : List (List ℕ)) (mid new : Plan) (blocks more_blocks : List Block) (block : Block)
      → ItemsPlanned base field factor items nonces left old mid blocks → ItemPlanned base field factor item left mid new block
      → more_blocks ≡ blocks ++ block ∷ [] → ItemsPlanned base field factor (items ++ item ∷ []) nonces (drop 2 left) old new more_blocks
  items_more items item left mid new blocks more_blocks block before one is =
      let after : Index → List EdgeTokens → List Count → ItemsDone = λ index others more. index_items field factor index others (drop 2 left) more in
      record {
        searched = before.searched ++ one.count ∷ [];
        counts = one.counts ∙ ap (λ counts. counts ++ one.count ∷ []) before.counts ∙ append_assoc old.counts before.searched (one.count ∷ []);
        does = λ others more.
            ap₂ (λ all counts. index_items field factor (planned base old) all nonces counts) (append_assoc items (item ∷ []) others) (append_assoc before.searched (one.count ∷ []) more)
            ∙ before.does (item ∷ others) (one.count ∷ more)
            ∙ ap (λ made. blocks_before blocks (with_block made (after (indexed field (planned base mid) one.count item) others more))) (sym one.block_is)
            ∙ ap (λ index. blocks_before blocks (with_block block (after index others more))) (sym one.index)
            ∙ ap (λ made. record { index = (after (planned base new) others more).index; blocks = made; rest = (after (planned base new) others more).rest })
            (sym (append_assoc blocks (block ∷ []) (after (planned base new) others more).blocks) ∙ ap (λ made. made ++ (after (planned base new) others more).blocks) (sym is));
        allowed = λ others more allowed.
            subst₂ (λ all counts. AllowedItems field (planned base old) all counts) (sym (append_assoc items (item ∷ []) others)) (sym (append_assoc before.searched (one.count ∷ []) more))
            (before.allowed (item ∷ others) (one.count ∷ more) (one.is_count, subst (λ index. AllowedItems field index others more) one.index allowed));
        many = omega (arith, ap length is, length-append blocks (block ∷ []), length-append items (item ∷ []), before.many);
      }

module _ (base : Index) (field factor : ℕ) (items : List EdgeTokens) (nonces left : List (List ℕ)) (old new : Plan) (blocks : List Block) where
  pub items_end : (all : ItemsPlanned base field factor items nonces left old new blocks) (more : List Count)
      → index_items field factor (planned base old) items nonces (all.searched ++ more) ≡ record { index = planned base new; blocks = blocks; rest = more }
  items_end all more =
      ap (λ each. index_items field factor (planned base old) each nonces (all.searched ++ more)) (sym (append-nil items))
      ∙ all.does [] more ∙ ap (λ made. record { index = planned base new; blocks = made; rest = more }) (append-nil blocks)

  pub items_allowed : (all : ItemsPlanned base field factor items nonces left old new blocks) (more : List Count)
      → AllowedItems field (planned base old) items (all.searched ++ more)
  items_allowed all more = subst (λ each. AllowedItems field (planned base old) each (all.searched ++ more)) (append-nil items) (all.allowed [] more tt)
