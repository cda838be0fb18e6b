-- A written find payload of equality has 138 bytes, and always fits.
use Rattle.std.specs.List.{list_any}
use Rattle.std.specs.Str.{IsAscii}
use Rattle.std.proofs.lemmas.Str.{IsUtf8-from_ascii, is_utf8-from_IsUtf8}
use Rattle.std.proofs.Common.{◌≡◌, ℕ, zero, suc, ◌<◌, ◌==◌, false, ◌+◌, ℤ, List, [], ◌∷◌, ◌++◌, length, map, refl, ap, ◌∙◌, arith, length-append}
use Rattle.std.specs.Prelude.{codes, FitsSigned}
use Rattle.std.specs.Int.{w32, w64, to_le_bytes}
use Rattle.qe_document.specs.Spelling.{Spelled, IsName, element, fields_bytes, framed, spelled, spelled_field, document_bytes, IsDocument, FieldsFit}
use Rattle.qe_value.proofs.PlainLemmas.{spelled-Binary, spelled-Int64, out-Binary, out-Int64}
use Rattle.qe_find.specs.declared.equal.FindEqual.{FindEqual}
use Rattle.qe_find.specs.Equal.{equal_elements, written_equal, HasLongTokens}
use Rattle.qe_value.specs.declared.value.Plain.TheVariants as p

element_length : (name : List ℕ) (s : Spelled) → length (element name s) ≡ length name + length s.bytes + 2
element_length name s = omega (arith, length-append name (0 ∷ s.bytes))

framed_length : (elements : List ℕ) → length (framed elements) ≡ length elements + 5
framed_length elements = omega (arith, length-append (to_le_bytes w32 (length elements + 5)) (elements ++ (0 ∷ [])), length-append elements (0 ∷ []))

token_length : (name t : List ℕ) → length t ≡ 32 → length (element name (spelled (p.Binary 0 t))) ≡ length name + 39
token_length name t long =
    let bytes : length (spelled (p.Binary 0 t)).bytes ≡ 37 =
    ap (λ s. length s.bytes) (spelled-Binary 0 t) ∙ omega (arith, long, length-append (to_le_bytes w32 (length t)) (0 ∷ t)) in
    omega (arith, bytes, element_length name (spelled (p.Binary 0 t)))

number_length : (name : List ℕ) (z : ℤ) → length (element name (spelled (p.Int64 z))) ≡ length name + 10
number_length name z =
    let bytes : length (spelled (p.Int64 z)).bytes ≡ 8 = ap (λ s. length s.bytes) (spelled-Int64 z) in
    omega (arith, bytes, element_length name (spelled (p.Int64 z)))

equal_length : (x : FindEqual) → HasLongTokens x → length (document_bytes (equal_elements x)) ≡ 137
equal_length x long =
    let d : List ℕ = element (codes "d") (spelled (p.Binary 0 x.d)) in
    let s : List ℕ = element (codes "s") (spelled (p.Binary 0 x.s)) in
    let l : List ℕ = element (codes "l") (spelled (p.Binary 0 x.l)) in
    let cm : List ℕ = element (codes "cm") (spelled (p.Int64 x.cm)) in
    let all : length (d ++ (s ++ (l ++ (cm ++ [])))) ≡ 132 =
    omega (
      arith,
      length-append d (s ++ (l ++ (cm ++ []))),
      length-append s (l ++ (cm ++ [])),
      length-append l (cm ++ []),
      length-append cm [],
      token_length (codes "d") x.d long.d,
      token_length (codes "s") x.s long.s,
      token_length (codes "l") x.l long.l,
      number_length (codes "cm") x.cm,
    )
    in
    framed_length (fields_bytes (map spelled_field (equal_elements x))) ∙ ap (λ n. n + 5) all

pub written_equal_length : (x : FindEqual) → HasLongTokens x → length (written_equal x) ≡ 138
unfolding written_equal
written_equal_length x long = ap (λ n. suc n) (equal_length x long)

-- names of letters
ascii_more : (c : ℕ) (letters : List ℕ) → c < 128 → IsAscii letters → IsAscii (c ∷ letters)
ascii_more c letters small rest zero = small
ascii_more c letters small rest (suc i) = rest i

ascii_none : IsAscii []
ascii_none i = omega arith

is_name : (name : List ℕ) → IsAscii name → list_any (λ b. b == 0) name ≡ false → IsName name
is_name name ascii no_zero = record { utf8 = is_utf8-from_IsUtf8 name (IsUtf8-from_ascii name ascii); no_zero = no_zero }

letter : (c : ℕ) → c < 128 → (c == 0) ≡ false → IsName (c ∷ [])
letter c small some = is_name (c ∷ []) (ascii_more c [] small ascii_none) (rw some refl)

pub equal_fits : (x : FindEqual) → HasLongTokens x → FitsSigned w64 x.cm → IsDocument (equal_elements x)
unfolding FieldsFit
equal_fits x long fits =
    record {
      fits = (
        (refl, (refl, (refl, (refl, tt)))),
        (
          (letter 100 (omega arith) refl, rw (out-Binary 0 x.d) tt),
          (
            (letter 115 (omega arith) refl, rw (out-Binary 0 x.s) tt),
            (
              (letter 108 (omega arith) refl, rw (out-Binary 0 x.l) tt),
              ((is_name (codes "cm") (ascii_more 99 (109 ∷ []) (omega arith) (ascii_more 109 [] (omega arith) ascii_none)) refl, rw (out-Int64 x.cm) fits), tt),
            ),
          ),
        ),
      );
      short = omega (arith, equal_length x long);
    }
