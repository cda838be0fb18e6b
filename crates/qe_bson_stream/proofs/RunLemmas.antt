-- A whole run of a reader gives what reading gives of the bytes as one.
use Rattle.std.proofs.Common.{◌≡◌, ℕ, ◌+◌, ◌≤◌, List, [], ◌∷◌, ◌++◌, length, drop, Option, None, Some, Ok, Err, refl, sym, ap, subst, ◌∙◌, append_assoc}
use Rattle.std.proofs.lemmas.List.{append-nil, drop-append-le, drop_at, drop-drop}
use Rattle.qe_value.specs.declared.fault.BsonFault.{BsonFault}
use Rattle.qe_value.specs.declared.fault.BsonFault.TheVariants.{At, NoMemory}
use Rattle.qe_value.specs.declared.fault.BsonKind.TheVariants.{Short}
use Rattle.qe_document.specs.Reading.{document_at}
use Rattle.qe_bson_stream.specs.Stream.{IsShort, Feeds}
use Rattle.qe_bson_stream.specs.Runs.{Fields, State, Feeds_piece, Unless, Runs, joined, Begin_with, Ends}
use Rattle.qe_bson_stream.proofs.StreamLemmas.{short_nothing, decided}

-- what stands before further bytes
pub record Stands (bytes : List ℕ) (documents : List Fields) (stop : Option BsonFault) (to : State) (more : List ℕ) : Type 0 where
  pub rest : List ℕ
  pub begins : Begin_with (bytes ++ more) documents (rest ++ more)
  pub ends : Ends rest stop to

-- a document that is whole stays so
whole_stays : (front more : List ℕ) (document : Fields) (n : ℕ) → document_at front ≡ Ok (document, n) → document_at (front ++ more) ≡ Ok (document, n)
whole_stays front more document n whole = decided front more (λ short. let both = sym whole ∙ short.1 in absurd cc) ∙ whole

-- the bytes behind a document that ends in the piece
behind : (held piece more : List ℕ) (n : ℕ) → n ≤ length piece → drop (length held + n) ((held ++ piece) ++ more) ≡ drop n piece ++ more
behind held piece more n le =
    ap (drop (length held + n)) (append_assoc held piece more) ∙ sym (drop-drop n (length held) (held ++ (piece ++ more)))
    ∙ ap (drop n) (drop_at held (piece ++ more) (length held) refl) ∙ drop-append-le n piece more le

piece_stands : (documents : List Fields) (stop : Option BsonFault) (held piece more : List ℕ) (from to : State) → from ≡ (held, None) → Feeds_piece from to piece documents stop → Stands (held ++ piece) documents stop to more
piece_stands [] None held piece more from to is fed =
    let t = subst (λ (s : State). Feeds s to piece (Ok None)) is fed in
    let now : to ≡ (held ++ piece, None) = ap (λ (h : List ℕ). (h, to.1)) t.0.1 ∙ ap (λ (o : Option BsonFault). (held ++ piece, o)) t.1 in
    record { rest = held ++ piece; begins = refl; ends = (t.0.0, now) }
piece_stands [] (Some (At place kind)) held piece more from to is fed =
    let t = subst (λ (s : State). Feeds s to piece (Err (At place kind))) is fed in
    record { rest = held ++ piece; begins = refl; ends = t.0 }
piece_stands [] (Some NoMemory) held piece more from to is fed = record { rest = held ++ piece; begins = refl; ends = tt }
piece_stands (document ∷ documents) stop held piece more from to is fed =
    let n = fed.0 in
    let mid = fed.1 in
    let t = subst (λ (s : State). Feeds s mid piece (Ok (Some (document, n)))) is fed.2 in
    let now : mid ≡ ([], None) = ap (λ (h : List ℕ). (h, mid.1)) t.0.2 ∙ ap (λ (o : Option BsonFault). ([], o)) t.1 in
    let later = piece_stands documents stop [] (drop n piece) more mid to now fed.3 in
    record {
      rest = later.rest;
      begins = (length held + n, whole_stays (held ++ piece) more document (length held + n) t.0.0, subst (λ (b : List ℕ). Begin_with b documents (later.rest ++ more)) (sym (behind held piece more n t.0.1)) later.begins);
      ends = later.ends;
    }

begins_append : (first later : List Fields) (bytes mid rest : List ℕ) → Begin_with bytes first mid → Begin_with mid later rest → Begin_with bytes (first ++ later) rest
begins_append [] later bytes mid rest one two = subst (λ (b : List ℕ). Begin_with b later rest) (sym one) two
begins_append (document ∷ first) later bytes mid rest one two = (one.0, one.1, begins_append first later (drop one.0 bytes) mid rest one.2 two)

-- a fault stays, whatever follows
ends_stay : (fault : BsonFault) (rest more : List ℕ) (mid to : State) → Ends rest (Some fault) mid → Ends (rest ++ more) (Some fault) to
ends_stay (At place kind) rest more mid to ends =
    (decided rest more (λ short. let both = sym ends.0 ∙ short.1 in let e : kind ≡ Short = cc in ends.1 e) ∙ ends.0, ends.1)
ends_stay NoMemory rest more mid to ends = tt

-- the documents of some bytes, and how they end
abbrev pub Gives_whole : List ℕ → List Fields → Option BsonFault → State → Type 0
Gives_whole bytes documents stop to = (rest : List ℕ) × Begin_with bytes documents rest × Ends rest stop to

after_piece : (here : Option BsonFault) (pieces : List (List ℕ)) (held piece : List ℕ) (first later documents : List Fields) (stop : Option BsonFault) (mid to : State) → documents ≡ first ++ later
    → Stands (held ++ piece) first here mid (joined pieces) → Unless here (Runs mid to pieces later stop) ((later ≡ []) × (stop ≡ here) × (to ≡ mid))
    → ((now : List ℕ) → mid ≡ (now, None) → IsShort now → Runs mid to pieces later stop → Gives_whole (now ++ joined pieces) later stop to)
    → Gives_whole (held ++ (piece ++ joined pieces)) documents stop to
after_piece None pieces held piece first later documents stop mid to split stands next go =
    let others = go stands.rest stands.ends.1 stands.ends.0 next in
    let begins = begins_append first later ((held ++ piece) ++ joined pieces) (stands.rest ++ joined pieces) others.0 stands.begins others.1 in
    subst (λ (ds : List Fields). Gives_whole (held ++ (piece ++ joined pieces)) ds stop to) (sym split)
    (others.0, subst (λ (b : List ℕ). Begin_with b (first ++ later) others.0) (append_assoc held piece (joined pieces)) begins, others.2)
after_piece (Some fault) pieces held piece first later documents stop mid to split stands over go =
    let all : documents ≡ first = split ∙ ap (λ (ds : List Fields). first ++ ds) over.0 ∙ append-nil first in
    let rest : List ℕ = stands.rest ++ joined pieces in
    let begins = subst (λ (b : List ℕ). Begin_with b first rest) (append_assoc held piece (joined pieces)) stands.begins in
    (rest, subst (λ (ds : List Fields). Begin_with (held ++ (piece ++ joined pieces)) ds rest) (sym all) begins, subst (λ (s : Option BsonFault). Ends rest s to) (sym over.1) (ends_stay fault stands.rest (joined pieces) mid to stands.ends))

run_stands : (pieces : List (List ℕ)) (documents : List Fields) (stop : Option BsonFault) (held : List ℕ) (from to : State) → from ≡ (held, None) → IsShort held → Runs from to pieces documents stop
    → Gives_whole (held ++ joined pieces) documents stop to
run_stands [] documents stop held from to is short run =
    (held, subst (λ (ds : List Fields). Begin_with (held ++ []) ds held) (sym run.0) (append-nil held), subst (λ (s : Option BsonFault). Ends held s to) (sym run.1) (short, run.2 ∙ is))
run_stands (piece ∷ pieces) documents stop held from to is short run =
    after_piece run.2 pieces held piece run.0 run.1 documents stop run.3 to run.4 (piece_stands run.0 run.2 held piece (joined pieces) from run.3 is run.5) run.6
    (λ now mid_is now_short next. run_stands pieces run.1 stop now run.3 to mid_is now_short next)

pub whole_run : (pieces : List (List ℕ)) (documents : List Fields) (stop : Option BsonFault) (to : State) → Runs ([], None) to pieces documents stop → Gives_whole (joined pieces) documents stop to
whole_run pieces documents stop to run = run_stands pieces documents stop [] ([], None) to refl short_nothing run
