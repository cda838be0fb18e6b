-- Opening undoes writing, and the forms of a value by its length.
use Rattle.std.proofs.Common.{◌≡◌, ℕ, List, [], ◌∷◌, ◌++◌, length, take, Some, None, cond, ap, ◌∙◌, subst}
use Rattle.std.specs.Prelude.{slice_index, ◌==◌}
use Rattle.std.proofs.lemmas.List.{take_at}
use Rattle.std.proofs.Math.Seq.{get_or-append_seam}
use Rattle.qe_seal.proofs.EncipheredLemmas.{deciphered-enciphered}
use Rattle.qe_ecoc.specs.Forms.{cipher_from}
use Rattle.qe_ecoc.specs.Opening.{OpensWhatIsWritten}
use Rattle.qe_ecoc.specs.declared.forms.Cipher.TheVariants.{Old, Leaf}

pub cipher_from-old : (bytes : List ℕ) → length bytes ≡ 48 → cipher_from bytes ≡ Some (Old bytes)
cipher_from-old bytes long = ap (λ n. cond (n == 48) (Some (Old bytes)) (cond (n == 49) (Some (Leaf bytes)) None)) long

pub cipher_from-leaf : (bytes : List ℕ) → length bytes ≡ 49 → cipher_from bytes ≡ Some (Leaf bytes)
cipher_from-leaf bytes long = ap (λ n. cond (n == 48) (Some (Old bytes)) (cond (n == 49) (Some (Leaf bytes)) None)) long

-- the byte behind a token
behind : (token : List ℕ) (leaf : ℕ) → length token ≡ 32 → slice_index (token ++ leaf ∷ []) 32 ≡ leaf
behind token leaf long = subst (λ n. slice_index (token ++ leaf ∷ []) n ≡ leaf) long (get_or-append_seam token leaf [] 0)

pub opened-written : OpensWhatIsWritten
opened-written key iv token None iv_long long = ap (λ plain. record { token = plain; leaf = None }) (deciphered-enciphered key iv token iv_long)
opened-written key iv token (Some leaf) iv_long long =
    let plain = deciphered-enciphered key iv (token ++ leaf ∷ []) iv_long in
    let front = ap (take 32) plain ∙ take_at token (leaf ∷ []) 32 long in
    let back = ap (λ bytes. slice_index bytes 32) plain ∙ behind token leaf long in
    λ i. record { token = front i; leaf = Some (back i) }
