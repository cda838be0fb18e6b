-- A value that is read is spelled so, if what documents and arrays hold is.
use Rattle.std.proofs.Common.{◌≡◌, ℕ, ◌+◌, ◌-◌, ◌^◌, ◌<◌, List, [], ◌∷◌, ◌++◌, length, map, Result, Ok, refl, sym, ap, subst, ◌∙◌, arith}
use Rattle.std.specs.Int.{w32, w64, to_le_bytes, from_le_bytes, cast_signed}
use Rattle.std.proofs.Math.Facts.{Fits-of_lt, sfits_to_z}
use Rattle.std.proofs.lemmas.List.{length-append}
use Rattle.qe_value.specs.declared.element_type.ElementType.{ElementType}
use Rattle.qe_value.specs.declared.element_type.ElementType.TheVariants as type
use Rattle.qe_value.specs.declared.fault.BsonFault.{BsonFault}
use Rattle.qe_value.specs.declared.value.Plain.{Plain, out-Plain}
use Rattle.qe_value.specs.declared.value.Plain.TheVariants as p
use Rattle.qe_value.specs.Reading.{◌>>=◌, fixed_at, string_at, binary_at, bool_at, frame_at, value_with}
use Rattle.qe_value.specs.Spelling.{Spelled, string, binary, flag, framed, fields_bytes, items_bytes, spelled, spelled_field, Fits_with, IsCounted}
use Rattle.qe_value.proofs.NumberLemmas.{le_back_8, below_4, below_8, signed_4, signed_8}
use Rattle.qe_value.proofs.PartTakes.{string_takes, binary_takes, bool_takes, frame_takes}
use Rattle.qe_value.proofs.PlainLemmas as tree
use Rattle.qe_base.specs.Bytes.{AreBytes}
use Rattle.qe_value.proofs.ReaderTools.{bind_ok, ok_is, fixed_takes}

module _ (Fields : List (List ℕ × Plain) → Type 0) (Items : List Plain → Type 0) where
  -- a value that was read, its type and what is left
  pub record ValueRead (kind : ElementType) (bytes : List ℕ) (x : Plain × List ℕ) : Type 0 where
    pub type_is : kind ≡ (spelled x.0).kind
    pub parts : bytes ≡ (spelled x.0).bytes ++ x.1
    pub rest_fits : AreBytes x.1
    pub fits : Fits_with Fields Items (out-Plain x.0)
    pub counted : IsCounted (out-Plain x.0)

  -- a value by its spelling
  read_as : (kind : ElementType) (bytes text rest : List ℕ) (v : Plain) (x : Plain × List ℕ) → spelled v ≡ record { kind = kind; bytes = text } → Fits_with Fields Items (out-Plain v) → IsCounted (out-Plain v)
      → bytes ≡ text ++ rest → AreBytes rest → (v, rest) ≡ x → ValueRead kind bytes x
  read_as kind bytes text rest v x spelling fits counted parts rest_fits made =
      subst (λ (y : Plain × List ℕ). ValueRead kind bytes y) made record {
        type_is = ap (λ (s : Spelled). s.kind) (sym spelling);
        parts = parts ∙ ap (λ (s : Spelled). s.bytes ++ rest) (sym spelling);
        rest_fits = rest_fits;
        fits = fits;
        counted = counted;
      }

  -- so many bytes, made a value
  fixed_arm : (kind : ElementType) (n : ℕ) (make : List ℕ → Plain) → ((t : List ℕ) → AreBytes t → length t ≡ n → (spelled (make t) ≡ record { kind = kind; bytes = t }) × Fits_with Fields Items (out-Plain (make t)) × IsCounted (out-Plain (make t)))
      → (end : ℕ) (bytes : List ℕ) (x : Plain × List ℕ) → AreBytes bytes → (fixed_at n end bytes >>= λ y. Ok (make y.0, y.1)) ≡ Ok x → ValueRead kind bytes x
  fixed_arm kind n make is_made end bytes x fits given =
      let b = bind_ok (fixed_at n end bytes) (λ y. Ok (make y.0, y.1)) x given in
      let t = fixed_takes n end bytes b.0 fits b.1 in
      let made = is_made b.0.0 t.0.text_fits t.1 in
      read_as kind bytes b.0.0 b.0.1 (make b.0.0) x made.0 made.1 made.2 t.0.parts t.0.rest_fits (ok_is _ _ b.2)

  -- what documents and arrays hold is spelled so
  pub record InnerTakes (fields : ℕ → List ℕ → Result (List (List ℕ × Plain)) BsonFault) (items : ℕ → List ℕ → Result (List Plain) BsonFault) : Type 0 where
    pub fields_take : (end : ℕ) (bytes : List ℕ) (fs : List (List ℕ × Plain)) → AreBytes bytes → fields end bytes ≡ Ok fs → (bytes ≡ fields_bytes (map spelled_field fs) ++ (0 ∷ [])) × Fields fs
    pub items_take : (end : ℕ) (bytes : List ℕ) (vs : List Plain) → AreBytes bytes → items end bytes ≡ Ok vs → (bytes ≡ items_bytes 0 (map spelled vs) ++ (0 ∷ [])) × Items vs

  framed_is : (elements inside : List ℕ) → inside ≡ elements ++ (0 ∷ []) → to_le_bytes w32 (length inside + 4) ++ inside ≡ framed elements
  framed_is elements inside is =
      let len : length inside + 4 ≡ length elements + 5 = ap (λ (b : List ℕ). length b + 4) is ∙ omega (arith, length-append elements (0 ∷ [])) in
      ap (λ (k : ℕ). to_le_bytes w32 k ++ inside) len ∙ ap (λ (b : List ℕ). to_le_bytes w32 (length elements + 5) ++ b) is

  framed_short : (elements inside : List ℕ) → inside ≡ elements ++ (0 ∷ []) → length inside + 4 < 2 ^ 31 → length (framed elements) < 2 ^ 31
  framed_short elements inside is short =
      let len : length inside ≡ length elements + 1 = ap (λ (b : List ℕ). length b) is ∙ length-append elements (0 ∷ []) in
      omega (arith, length-append (to_le_bytes w32 (length elements + 5)) (elements ++ (0 ∷ [])), length-append elements (0 ∷ []), len)

  module _ (fields : ℕ → List ℕ → Result (List (List ℕ × Plain)) BsonFault) (items : ℕ → List ℕ → Result (List Plain) BsonFault) (inner : InnerTakes fields items) where
    document_arm : (end : ℕ) (bytes : List ℕ) (x : Plain × List ℕ) → AreBytes bytes → (frame_at end bytes >>= λ y. fields (end - length y.1) y.0 >>= λ fs. Ok (p.Doc fs, y.1)) ≡ Ok x → ValueRead type.Doc bytes x
    document_arm end bytes x fits given =
        let b = bind_ok (frame_at end bytes) (λ y. fields (end - length y.1) y.0 >>= λ fs. Ok (p.Doc fs, y.1)) x given in
        let c = bind_ok (fields (end - length b.0.1) b.0.0) (λ fs. Ok (p.Doc fs, b.0.1)) x b.2 in
        let frame = frame_takes end bytes b.0 fits b.1 in
        let held = inner.fields_take (end - length b.0.1) b.0.0 c.0 frame.inside_fits c.1 in
        read_as type.Doc bytes (framed (fields_bytes (map spelled_field c.0))) b.0.1 (p.Doc c.0) x (tree.spelled-Doc c.0) (rw (tree.out-Doc c.0) held.1) (rw (tree.out-Doc c.0) (framed_short (fields_bytes (map spelled_field c.0)) b.0.0 held.0 frame.positive))
        (frame.parts ∙ ap (λ (f : List ℕ). f ++ b.0.1) (framed_is (fields_bytes (map spelled_field c.0)) b.0.0 held.0)) frame.rest_fits (ok_is _ _ c.2)

    array_arm : (end : ℕ) (bytes : List ℕ) (x : Plain × List ℕ) → AreBytes bytes → (frame_at end bytes >>= λ y. items (end - length y.1) y.0 >>= λ vs. Ok (p.Array vs, y.1)) ≡ Ok x → ValueRead type.Array bytes x
    array_arm end bytes x fits given =
        let b = bind_ok (frame_at end bytes) (λ y. items (end - length y.1) y.0 >>= λ vs. Ok (p.Array vs, y.1)) x given in
        let c = bind_ok (items (end - length b.0.1) b.0.0) (λ vs. Ok (p.Array vs, b.0.1)) x b.2 in
        let frame = frame_takes end bytes b.0 fits b.1 in
        let held = inner.items_take (end - length b.0.1) b.0.0 c.0 frame.inside_fits c.1 in
        read_as type.Array bytes (framed (items_bytes 0 (map spelled c.0))) b.0.1 (p.Array c.0) x (tree.spelled-Array c.0) (rw (tree.out-Array c.0) held.1) (rw (tree.out-Array c.0) (framed_short (items_bytes 0 (map spelled c.0)) b.0.0 held.0 frame.positive))
        (frame.parts ∙ ap (λ (f : List ℕ). f ++ b.0.1) (framed_is (items_bytes 0 (map spelled c.0)) b.0.0 held.0)) frame.rest_fits (ok_is _ _ c.2)

    string_arm : (end : ℕ) (bytes : List ℕ) (x : Plain × List ℕ) → AreBytes bytes → (string_at end bytes >>= λ y. Ok (p.Str y.0, y.1)) ≡ Ok x → ValueRead type.Str bytes x
    string_arm end bytes x fits given =
        let b = bind_ok (string_at end bytes) (λ y. Ok (p.Str y.0, y.1)) x given in
        let t = string_takes end bytes b.0 fits b.1 in
        read_as type.Str bytes (string b.0.0) b.0.1 (p.Str b.0.0) x (tree.spelled-Str b.0.0) (rw (tree.out-Str b.0.0) t.2) (rw (tree.out-Str b.0.0) t.3) t.0 t.1 (ok_is _ _ b.2)

    binary_arm : (end : ℕ) (bytes : List ℕ) (x : Plain × List ℕ) → AreBytes bytes → (binary_at end bytes >>= λ y. Ok (p.Binary y.0.0 y.0.1, y.1)) ≡ Ok x → ValueRead type.Binary bytes x
    binary_arm end bytes x fits given =
        let b = bind_ok (binary_at end bytes) (λ y. Ok (p.Binary y.0.0 y.0.1, y.1)) x given in
        let t = binary_takes end bytes b.0 fits b.1 in
        read_as type.Binary bytes (binary b.0.0.0 b.0.0.1) b.0.1 (p.Binary b.0.0.0 b.0.0.1) x (tree.spelled-Binary b.0.0.0 b.0.0.1) (rw (tree.out-Binary b.0.0.0 b.0.0.1) tt) (rw (tree.out-Binary b.0.0.0 b.0.0.1) t.2) t.0 t.1 (ok_is _ _ b.2)

    bool_arm : (end : ℕ) (bytes : List ℕ) (x : Plain × List ℕ) → AreBytes bytes → (bool_at end bytes >>= λ y. Ok (p.Bool y.0, y.1)) ≡ Ok x → ValueRead type.Bool bytes x
    bool_arm end bytes x fits given =
        let b = bind_ok (bool_at end bytes) (λ y. Ok (p.Bool y.0, y.1)) x given in
        let t = bool_takes end bytes b.0 fits b.1 in
        read_as type.Bool bytes (flag b.0.0 ∷ []) b.0.1 (p.Bool b.0.0) x (tree.spelled-Bool b.0.0) (rw (tree.out-Bool b.0.0) tt) (rw (tree.out-Bool b.0.0) tt) t.0 t.1 (ok_is _ _ b.2)

    -- a value of any type
    pub value_takes : (kind : ElementType) (end : ℕ) (bytes : List ℕ) (x : Plain × List ℕ) → AreBytes bytes → value_with fields items kind end bytes ≡ Ok x → ValueRead kind bytes x
    value_takes type.Double end bytes x fits e = fixed_arm type.Double 8 (λ t. p.Double t) (λ t f len. (tree.spelled-Double t, rw (tree.out-Double t) len, rw (tree.out-Double t) tt)) end bytes x fits e
    value_takes type.Str end bytes x fits e = string_arm end bytes x fits e
    value_takes type.Doc end bytes x fits e = document_arm end bytes x fits e
    value_takes type.Array end bytes x fits e = array_arm end bytes x fits e
    value_takes type.Binary end bytes x fits e = binary_arm end bytes x fits e
    value_takes type.ObjectId end bytes x fits e = fixed_arm type.ObjectId 12 (λ t. p.ObjectId t) (λ t f len. (tree.spelled-ObjectId t, rw (tree.out-ObjectId t) len, rw (tree.out-ObjectId t) tt)) end bytes x fits e
    value_takes type.Bool end bytes x fits e = bool_arm end bytes x fits e
    value_takes type.Date end bytes x fits e = fixed_arm type.Date 8 (λ t. p.Date (cast_signed w64 (from_le_bytes w64 t))) (λ t f len. (tree.spelled-Date (cast_signed w64 (from_le_bytes w64 t)) ∙ ap (λ (b : List ℕ). record { kind = type.Date; bytes = b }) (signed_8 t f len), rw (tree.out-Date (cast_signed w64 (from_le_bytes w64 t))) (sfits_to_z {w = w64} {n = from_le_bytes w64 t} (Fits-of_lt {w = w64} {n = from_le_bytes w64 t} (below_8 t f))), rw (tree.out-Date (cast_signed w64 (from_le_bytes w64 t))) tt)) end bytes x fits e
    value_takes type.Null end bytes x fits e = read_as type.Null bytes [] bytes p.Null x tree.spelled-Null (rw tree.out-Null tt) (rw tree.out-Null tt) refl fits (ok_is _ _ e)
    value_takes type.Int32 end bytes x fits e = fixed_arm type.Int32 4 (λ t. p.Int32 (cast_signed w32 (from_le_bytes w32 t))) (λ t f len. (tree.spelled-Int32 (cast_signed w32 (from_le_bytes w32 t)) ∙ ap (λ (b : List ℕ). record { kind = type.Int32; bytes = b }) (signed_4 t f len), rw (tree.out-Int32 (cast_signed w32 (from_le_bytes w32 t))) (sfits_to_z {w = w32} {n = from_le_bytes w32 t} (Fits-of_lt {w = w32} {n = from_le_bytes w32 t} (below_4 t f))), rw (tree.out-Int32 (cast_signed w32 (from_le_bytes w32 t))) tt)) end bytes x fits e
    value_takes type.Timestamp end bytes x fits e = fixed_arm type.Timestamp 8 (λ t. p.Timestamp (from_le_bytes w64 t)) (λ t f len. (tree.spelled-Timestamp (from_le_bytes w64 t) ∙ ap (λ (b : List ℕ). record { kind = type.Timestamp; bytes = b }) (le_back_8 t f len), rw (tree.out-Timestamp (from_le_bytes w64 t)) (below_8 t f), rw (tree.out-Timestamp (from_le_bytes w64 t)) tt)) end bytes x fits e
    value_takes type.Int64 end bytes x fits e = fixed_arm type.Int64 8 (λ t. p.Int64 (cast_signed w64 (from_le_bytes w64 t))) (λ t f len. (tree.spelled-Int64 (cast_signed w64 (from_le_bytes w64 t)) ∙ ap (λ (b : List ℕ). record { kind = type.Int64; bytes = b }) (signed_8 t f len), rw (tree.out-Int64 (cast_signed w64 (from_le_bytes w64 t))) (sfits_to_z {w = w64} {n = from_le_bytes w64 t} (Fits-of_lt {w = w64} {n = from_le_bytes w64 t} (below_8 t f))), rw (tree.out-Int64 (cast_signed w64 (from_le_bytes w64 t))) tt)) end bytes x fits e
    value_takes type.Decimal end bytes x fits e = fixed_arm type.Decimal 16 (λ t. p.Decimal t) (λ t f len. (tree.spelled-Decimal t, rw (tree.out-Decimal t) len, rw (tree.out-Decimal t) tt)) end bytes x fits e
