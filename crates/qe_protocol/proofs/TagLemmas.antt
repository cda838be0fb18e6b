-- The tags of a value that is indexed.
use Rattle.std.proofs.Common.{◌≡◌, ℕ, zero, suc, ◌+◌, ◌*◌, ◌^◌, ◌<◌, ◌≤◌, List, [], ◌∷◌, ◌++◌, length, map, drop, refl, sym, ap, ◌∙◌, subst, arith, length-append, Bool, true, false}
use Rattle.std.specs.Prelude.{nat_abs, is_some, All}
use Rattle.std.specs.List.{AllByRecursion}
use Rattle.sha2.proofs.Facts256.{length-sha256}
use Rattle.qe_base.specs.declared.maintenance.Count.{Count}
use Rattle.qe_seal.specs.Enciphered.{enciphered, enciphered_pair}
use Rattle.qe_aes.specs.CounterMode.{counter_mode}
use Rattle.qe_seal.specs.Hmac.{hmac_sha256, prf1_of}
use Rattle.qe_seal.proofs.EncipheredLemmas.{length-enciphered, length-enciphered_pair}
use Rattle.qe_tokens.specs.Tokens.{server_count_of, server_zeros_of, document_tag_of, edc_twice_of}
use Rattle.qe_parts.specs.declared.edges.EdgeTokens.{EdgeTokens}
use Rattle.qe_insert.specs.declared.insert.InsertPayload.{InsertPayload}
use Rattle.qe_indexed.specs.declared.block.Block.{Block}
use Rattle.qe_indexed.specs.Block.{zeros, block_of, tag_in, IsMade}
use Rattle.qe_indexed.specs.Parts.{IsWithin, most_blocks}
use Rattle.qe_indexed.specs.Spelling.{written, IsLaidOut}
use Rattle.qe_indexed.proofs.BlockLemmas.{tag_in-made}
use Rattle.qe_indexed.proofs.ReadingLemmas.{parts_are}
use Rattle.qe_command.specs.declared.cells.SentCell.TheVariants as sent
use Rattle.qe_command.specs.Items.{items_of}
use Rattle.qe_command.specs.Nonces.{cell_nonces}
use Rattle.qe_protocol.specs.State.{Index}
use Rattle.qe_protocol.specs.Counting.{next_number}
use Rattle.qe_protocol.specs.Indexing.{nonce_at, indexed, block_at, index_items, indexed_value, AllowedItems, value_tags}
use Rattle.qe_protocol.specs.Laws.{item_tags, AreLong, FewItems, StoresTags}

length-tag : (edc : List ℕ) (count : ℕ) → length (document_tag_of edc count) ≡ 32
unfolding prf1_of hmac_sha256
length-tag edc count = length-sha256 _

length-block : (count contention : ℕ) (edc server iv_count iv_zeros : List ℕ) → length iv_count ≡ 16 → length iv_zeros ≡ 16
    → length (block_of count contention edc server iv_count iv_zeros) ≡ 96
unfolding block_of zeros
length-block count contention edc server iv_count iv_zeros one two =
    let first = enciphered_pair (server_count_of server) iv_count count contention in
    let third = enciphered (server_zeros_of server) iv_zeros zeros in
    let a = length-append first (document_tag_of edc count ++ third) in
    let b = length-append (document_tag_of edc count) third in
    omega (arith, a, b, length-enciphered_pair (server_count_of server) iv_count count contention one, length-tag edc count, length-enciphered (server_zeros_of server) iv_zeros zeros two refl)

-- nonces by their places
long_at : (nonces : List (List ℕ)) (k : ℕ) → AreLong nonces → k < length nonces → length (nonce_at nonces k) ≡ 16
long_at [] k long less = absurd (omega arith)
long_at (nonce ∷ nonces) zero long less = long.0
long_at (nonce ∷ nonces) (suc k) long less = long_at nonces k long.1 (omega arith)

long_behind : (nonces : List (List ℕ)) (k : ℕ) → AreLong nonces → AreLong (drop k nonces)
long_behind nonces zero long = long
long_behind [] (suc k) long = tt
long_behind (nonce ∷ nonces) (suc k) long = long_behind nonces k long.1

length-behind : (nonces : List (List ℕ)) (k n : ℕ) → k + n ≤ length nonces → n ≤ length (drop k nonces)
length-behind nonces zero n less = omega arith
length-behind [] (suc k) n less = absurd (omega arith)
length-behind (nonce ∷ nonces) (suc k) n less = length-behind nonces k n (omega arith)

abbrev tags_in : List Block → List (List ℕ)
tags_in blocks = map (λ block. tag_in block.0) blocks

-- what is made for the items of a value: blocks of their lengths, with their tags
record Made (field factor : ℕ) (index : Index) (items : List EdgeTokens) (counts : List Count) (blocks : List Block) : Type 0 where
  each : AllByRecursion (λ block. length block.0 ≡ 96) blocks
  many : length blocks ≡ length items
  tags : tags_in blocks ≡ item_tags field index items counts

made : (field factor : ℕ) (index : Index) (items : List EdgeTokens) (nonces : List (List ℕ)) (counts : List Count) → factor < 2 ^ 64 → AreLong nonces
    → 2 * length items ≤ length nonces → AllowedItems field index items counts
    → Made field factor index items counts (index_items field factor index items nonces counts).blocks
made field factor index [] nonces counts fits long enough allowed = record { each = tt; many = refl; tags = refl }
made field factor index (item ∷ items) nonces [] fits long enough allowed = absurd allowed
made field factor index (item ∷ items) nonces (count ∷ counts) fits long enough allowed =
    let number = next_number index.rows count in
    let one = long_at nonces 0 long (omega arith) in
    let two = long_at nonces 1 long (omega arith) in
    let rest = made field factor (indexed field index count item) items (drop 2 nonces) counts fits (long_behind nonces 2 long) (length-behind nonces 2 (2 * length items) (omega arith)) allowed.1 in
    let is_made : IsMade number factor (edc_twice_of item.d) item.l (nonce_at nonces 0) (nonce_at nonces 1) (block_at factor item number nonces).0 =
    record { count_fits = omega arith; contention_fits = fits; iv_count_long = one; iv_zeros_long = two; made = refl } in
    let tag = tag_in-made number factor (edc_twice_of item.d) item.l (nonce_at nonces 0) (nonce_at nonces 1) (block_at factor item number nonces).0 is_made in
    record {
      each = (length-block number factor (edc_twice_of item.d) item.l (nonce_at nonces 0) (nonce_at nonces 1) one two, rest.each);
      many = ap suc rest.many;
      tags = λ i. tag i ∷ rest.tags i;
    }

all_long : (blocks : List Block) → AllByRecursion (λ block. length block.0 ≡ 96) blocks → All (λ block. length block.0 ≡ 96) blocks
all_long [] each k d less = absurd (omega arith)
all_long (block ∷ blocks) each zero d less = each.0
all_long (block ∷ blocks) each (suc k) d less = all_long blocks each.1 k d (omega arith)

few : (payload : InsertPayload) (range : Bool) → is_some payload.g ≡ range → FewItems payload → length (items_of payload) ≤ most_blocks range
few payload true is is_few = is_few.most
few payload false is is_few = omega (arith, is_few.one is)

all_made : (field : ℕ) (index : Index) (payload : InsertPayload) (nonces : List (List ℕ)) (counts : List Count) → nat_abs payload.k < 2 ^ 64 → AreLong nonces
    → cell_nonces (sent.Payload payload) ≤ length nonces → AllowedItems field index (items_of payload) counts
    → Made field (nat_abs payload.k) index (items_of payload) counts (index_items field (nat_abs payload.k) index (items_of payload) (drop 1 nonces) counts).blocks
all_made field index payload nonces counts factor long enough allowed =
    made field (nat_abs payload.k) index (items_of payload) (drop 1 nonces) counts factor (long_behind nonces 1 long)
    (length-behind nonces 1 (2 * length (items_of payload)) (omega (arith, enough))) allowed

-- a value that is indexed is laid out
pub index_laid : (field : ℕ) (index : Index) (payload : InsertPayload) (nonces : List (List ℕ)) (counts : List Count)
    → length payload.u ≡ 16 → FewItems payload → nat_abs payload.k < 2 ^ 64 → AreLong nonces → cell_nonces (sent.Payload payload) ≤ length nonces
    → AllowedItems field index (items_of payload) counts
    → let value = indexed_value payload nonces (index_items field (nat_abs payload.k) index (items_of payload) (drop 1 nonces) counts).blocks in
    IsLaidOut value (written value)
index_laid field index payload nonces counts key items factor long enough allowed =
    let done = index_items field (nat_abs payload.k) index (items_of payload) (drop 1 nonces) counts in
    let value = indexed_value payload nonces done.blocks in
    let made_all = all_made field index payload nonces counts factor long enough allowed in
    let first = long_at nonces 0 long (omega (arith, enough)) in
    let server_long = length-append (nonce_at nonces 0) (counter_mode payload.e (nonce_at nonces 0) payload.v) in
    let within : IsWithin value.range value.server_value value.blocks = record {
      long = omega (arith, first, server_long);
      some = omega (arith, made_all.many, items.some);
      few = subst (λ n. n ≤ most_blocks value.range) (sym made_all.many) (few payload (is_some payload.g) refl items);
    } in
    record { within = within; key_id_long = key; blocks_long = all_long done.blocks made_all.each; bytes_are = refl }

pub stores_tags : StoresTags
stores_tags field index payload nonces counts key items factor long enough allowed =
    let value = indexed_value payload nonces (index_items field (nat_abs payload.k) index (items_of payload) (drop 1 nonces) counts).blocks in
    ap value_tags (parts_are value (written value) (index_laid field index payload nonces counts key items factor long enough allowed))
    ∙ (all_made field index payload nonces counts factor long enough allowed).tags
