-- Bytes are one value at most, and a value where nothing is refused.
use Rattle.std.proofs.Common.{◌≡◌, ℕ, ◌+◌, ◌*◌, ◌-◌, ◌≤◌, List, ◌∷◌, ◌++◌, length, get_or, take, drop, refl, ap, sym, ◌∙◌, arith, Bool, true, false, length-append, length-drop}
use Rattle.std.proofs.lemmas.List.{append_assoc, take_at, drop_at, take-append-drop, take-take, drop-drop, drop-take, drop_more, length-take-le}
use Rattle.qe_indexed.specs.declared.block.Block.{Block}
use Rattle.qe_indexed.specs.Parts.{Indexed, most_blocks}
use Rattle.qe_indexed.specs.Spelling.{first_byte, edge_count, joined, head_of, head_length, written, IsLaidOut, HasShape, AreBlocks}
use Rattle.qe_indexed.proofs.JoinLemmas.{AreLong, length-joined, joined-one}

-- what stands behind the type
abbrev pub tail_of : Indexed → List ℕ
tail_of value = edge_count value.range (length value.blocks) ++ (value.server_value ++ joined value.blocks)

pub written-parts : (value : Indexed) → written value ≡ (first_byte value.range ∷ value.key_id) ++ (value.value_kind ∷ tail_of value)
unfolding written head_of
written-parts value =
    ap (λ bs. first_byte value.range ∷ bs)
    (append_assoc value.key_id (value.value_kind ∷ edge_count value.range (length value.blocks)) (value.server_value ++ joined value.blocks))

first_byte-one : (range other : Bool) → first_byte range ≡ first_byte other → range ≡ other
first_byte-one false false same = refl
first_byte-one false true same = absurd (omega arith)
first_byte-one true false same = absurd (omega arith)
first_byte-one true true same = refl

-- the count, the server-encrypted value and the blocks stand for themselves
body-one : (server other_server : List ℕ) (blocks others : List Block) → AreLong blocks → AreLong others → length blocks ≡ length others
    → server ++ joined blocks ≡ other_server ++ joined others → (server ≡ other_server) × (blocks ≡ others)
body-one server other_server blocks others long longs count same =
    let lengths : length server + length (joined blocks) ≡ length other_server + length (joined others) =
    sym (length-append server (joined blocks)) ∙ ap length same ∙ length-append other_server (joined others) in
    let same_length : length other_server ≡ length server = omega (arith, lengths, count, length-joined blocks long, length-joined others longs) in
    let first : server ≡ other_server =
    sym (take_at server (joined blocks) (length server) refl) ∙ ap (take (length server)) same ∙ take_at other_server (joined others) (length server) same_length in
    let rest : joined blocks ≡ joined others =
    sym (drop_at server (joined blocks) (length server) refl) ∙ ap (drop (length server)) same ∙ drop_at other_server (joined others) (length server) same_length in
    (first, joined-one blocks others long longs count rest)

tail-one : (range : Bool) (server other_server : List ℕ) (blocks others : List Block) → AreLong blocks → AreLong others
    → 1 ≤ length blocks → length blocks ≤ most_blocks range → 1 ≤ length others → length others ≤ most_blocks range
    → edge_count range (length blocks) ++ (server ++ joined blocks) ≡ edge_count range (length others) ++ (other_server ++ joined others)
    → (server ≡ other_server) × (blocks ≡ others)
tail-one false server other_server blocks others long longs some few other_some other_few same =
    body-one server other_server blocks others long longs (omega arith) same
tail-one true server other_server blocks others long longs some few other_some other_few same =
    body-one server other_server blocks others long longs (ap (λ bs. get_or bs 0 0) same) (ap (drop 1) same)

pub IsLaidOut-one : (value other : Indexed) (bytes : List ℕ) → IsLaidOut value bytes → IsLaidOut other bytes → value ≡ other
IsLaidOut-one value other bytes is also =
    let same : (first_byte value.range ∷ value.key_id) ++ (value.value_kind ∷ tail_of value) ≡ (first_byte other.range ∷ other.key_id) ++ (other.value_kind ∷ tail_of other) =
    sym (written-parts value) ∙ sym is.bytes_are ∙ also.bytes_are ∙ written-parts other in
    let range : value.range ≡ other.range = first_byte-one value.range other.range (ap (λ bs. get_or bs 0 0) same) in
    let key : value.key_id ≡ other.key_id =
    sym (take_at value.key_id (value.value_kind ∷ tail_of value) 16 is.key_id_long) ∙ ap (λ bs. take 16 (drop 1 bs)) same
    ∙ take_at other.key_id (other.value_kind ∷ tail_of other) 16 also.key_id_long in
    let behind : value.value_kind ∷ tail_of value ≡ other.value_kind ∷ tail_of other =
    sym (drop_at value.key_id (value.value_kind ∷ tail_of value) 16 is.key_id_long) ∙ ap (λ bs. drop 16 (drop 1 bs)) same
    ∙ drop_at other.key_id (other.value_kind ∷ tail_of other) 16 also.key_id_long in
    let kind : value.value_kind ≡ other.value_kind = ap (λ bs. get_or bs 0 0) behind in
    let rest = tail-one value.range value.server_value other.server_value value.blocks other.blocks is.blocks_long also.blocks_long
    is.within.some is.within.few also.within.some (omega (arith, also.within.few, ap most_blocks range))
    (ap (drop 1) behind ∙ ap (λ r. edge_count r (length other.blocks) ++ (other.server_value ++ joined other.blocks)) (sym range)) in
    λ i. record { range = range i; key_id = key i; value_kind = kind i; server_value = rest.0 i; blocks = rest.1 i }

least_head : (range : Bool) → 18 ≤ head_length range
least_head false = omega arith
least_head true = omega arith

-- the head that the bytes begin with
head_of-shape : (range : Bool) (count : ℕ) (bytes : List ℕ) → HasShape range count bytes
    → take (head_length range) bytes
    ≡ head_of range (take 16 (drop 1 (take (head_length range) bytes))) (get_or (take (head_length range) bytes) 17 0) count
unfolding head_of
head_of-shape range count bytes shape =
    let head = take (head_length range) bytes in
    let some : 18 ≤ head_length range = least_head range in
    let long : length head ≡ head_length range = length-take-le (head_length range) bytes (omega (arith, shape.long)) in
    sym (take-append-drop 1 head)
    ∙ ap (λ front. front ++ drop 1 head) (take-take 1 (head_length range) bytes (omega (arith, some)) ∙ shape.first)
    ∙ ap (λ rest. first_byte range ∷ rest)
    (sym (take-append-drop 16 (drop 1 head))
    ∙ ap (λ rest. take 16 (drop 1 head) ++ rest)
    (drop-drop 16 1 head ∙ drop_more head 17 0 (omega (arith, some, long)) ∙ ap (λ rest. get_or head 17 0 ∷ rest) (count_is range count bytes shape)))
  where
    count_is : (range : Bool) (count : ℕ) (bytes : List ℕ) → HasShape range count bytes → drop 18 (take (head_length range) bytes) ≡ edge_count range count
    count_is false count bytes shape = drop-take 18 0 bytes ∙ shape.counted
    count_is true count bytes shape = drop-take 18 1 bytes ∙ shape.counted

-- bytes of this shape, cut up
pub IsLaidOut-cut : (range : Bool) (count : ℕ) (bytes head body server tail key : List ℕ) (kind : ℕ) (blocks : List Block) → HasShape range count bytes
    → head ≡ take (head_length range) bytes → body ≡ drop (head_length range) bytes
    → server ≡ take (length body - 96 * count) body → tail ≡ drop (length body - 96 * count) body
    → AreBlocks blocks tail → key ≡ take 16 (drop 1 head) → kind ≡ get_or head 17 0
    → IsLaidOut (record { range = range; key_id = key; value_kind = kind; server_value = server; blocks = blocks }) bytes
unfolding written
IsLaidOut-cut range count bytes head body server tail key kind blocks shape head_is body_is server_is tail_is are key_is kind_is =
    let body_long : length body ≡ length bytes - head_length range = ap length body_is ∙ length-drop (head_length range) bytes in
    let head_long : length head ≡ head_length range = ap length head_is ∙ length-take-le (head_length range) bytes (omega (arith, shape.long)) in
    let server_long : length server ≡ length body - 96 * count =
    ap length server_is ∙ length-take-le (length body - 96 * count) body (omega arith) in
    let tail_long : length tail ≡ 96 * count =
    ap length tail_is ∙ length-drop (length body - 96 * count) body ∙ omega (arith, body_long, shape.long) in
    let counted : length blocks ≡ count = omega (arith, tail_long, ap length are.bytes_are, length-joined blocks are.each) in
    let head_now : take (head_length range) bytes ≡ head_of range key kind (length blocks) =
    head_of-shape range count bytes shape
    ∙ ap (λ front. head_of range (take 16 (drop 1 front)) (get_or front 17 0) count) (sym head_is)
    ∙ ap (λ k. head_of range k (get_or head 17 0) count) (sym key_is) ∙ ap (λ k. head_of range key k count) (sym kind_is)
    ∙ ap (head_of range key kind) (sym counted) in
    let body_now : drop (head_length range) bytes ≡ server ++ joined blocks =
    sym body_is ∙ sym (take-append-drop (length body - 96 * count) body) ∙ ap (λ front. front ++ drop (length body - 96 * count) body) (sym server_is)
    ∙ ap (λ rest. server ++ rest) (sym tail_is ∙ sym are.bytes_are) in
    record {
      within = record { long = omega (arith, server_long, body_long, shape.long); some = omega (arith, counted, shape.some); few = omega (arith, counted, shape.few) };
      key_id_long = ap length key_is ∙ length-take-le 16 (drop 1 head) (omega (arith, length-drop 1 head, head_long, least_head range));
      blocks_long = are.each;
      bytes_are =
          sym (take-append-drop (head_length range) bytes) ∙ ap (λ front. front ++ drop (head_length range) bytes) head_now
          ∙ ap (λ rest. head_of range key kind (length blocks) ++ rest) body_now;
    }

-- how long a value's bytes are
length-edge_count : (range : Bool) (count : ℕ) → 18 + length (edge_count range count) ≡ head_length range
length-edge_count false count = refl
length-edge_count true count = refl

pub length-written : (value : Indexed) → length value.key_id ≡ 16 → AreLong value.blocks
    → length (written value) ≡ head_length value.range + (length value.server_value + 96 * length value.blocks)
length-written value key_long long =
    let rest = value.server_value ++ joined value.blocks in
    ap length (written-parts value) ∙ length-append (first_byte value.range ∷ value.key_id) (value.value_kind ∷ tail_of value)
    ∙ omega (
      arith,
      key_long,
      length-append (edge_count value.range (length value.blocks)) rest,
      length-append value.server_value (joined value.blocks),
      length-joined value.blocks long,
      length-edge_count value.range (length value.blocks),
    )
