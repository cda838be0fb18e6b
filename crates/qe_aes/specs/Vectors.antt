-- Vectors of the standards, for the definitions to compute.
use Rattle.std.specs.Prelude.{◌≡◌, ℕ, List, [], ◌∷◌}
use Rattle.std.specs.List.{range_with_len}
use Rattle.qe_aes.specs.Cipher.{aes_256, inv_aes_256}
use Rattle.qe_aes.specs.CounterMode.{counter_mode}

-- the key of FIPS 197, C.3 (in the edition of 2001), its block, and what that is enciphered to
abbrev pub vector_key : List ℕ
vector_key = range_with_len 0x00 32

abbrev pub vector_block : List ℕ
vector_block =
    0x00 ∷ 0x11 ∷ 0x22 ∷ 0x33 ∷ 0x44 ∷ 0x55 ∷ 0x66 ∷ 0x77 ∷
    0x88 ∷ 0x99 ∷ 0xaa ∷ 0xbb ∷ 0xcc ∷ 0xdd ∷ 0xee ∷ 0xff ∷ []

abbrev pub vector_cipher : List ℕ
vector_cipher =
    0x8e ∷ 0xa2 ∷ 0xb7 ∷ 0xca ∷ 0x51 ∷ 0x67 ∷ 0x45 ∷ 0xbf ∷
    0xea ∷ 0xfc ∷ 0x49 ∷ 0x90 ∷ 0x4b ∷ 0x49 ∷ 0x60 ∷ 0x89 ∷ []

abbrev pub EnciphersAsFips197 : Type 0
EnciphersAsFips197 = aes_256 vector_key vector_block ≡ vector_cipher

abbrev pub DeciphersAsFips197 : Type 0
DeciphersAsFips197 = inv_aes_256 vector_key vector_cipher ≡ vector_block

-- the key of SP 800-38A, F.5.5, its first counter block and plain block, and what they give
abbrev pub counter_vector_key : List ℕ
counter_vector_key =
    0x60 ∷ 0x3d ∷ 0xeb ∷ 0x10 ∷ 0x15 ∷ 0xca ∷ 0x71 ∷ 0xbe ∷
    0x2b ∷ 0x73 ∷ 0xae ∷ 0xf0 ∷ 0x85 ∷ 0x7d ∷ 0x77 ∷ 0x81 ∷
    0x1f ∷ 0x35 ∷ 0x2c ∷ 0x07 ∷ 0x3b ∷ 0x61 ∷ 0x08 ∷ 0xd7 ∷
    0x2d ∷ 0x98 ∷ 0x10 ∷ 0xa3 ∷ 0x09 ∷ 0x14 ∷ 0xdf ∷ 0xf4 ∷ []

abbrev pub counter_vector_iv : List ℕ
counter_vector_iv = range_with_len 0xf0 16

abbrev pub counter_vector_plain : List ℕ
counter_vector_plain =
    0x6b ∷ 0xc1 ∷ 0xbe ∷ 0xe2 ∷ 0x2e ∷ 0x40 ∷ 0x9f ∷ 0x96 ∷
    0xe9 ∷ 0x3d ∷ 0x7e ∷ 0x11 ∷ 0x73 ∷ 0x93 ∷ 0x17 ∷ 0x2a ∷ []

abbrev pub counter_vector_cipher : List ℕ
counter_vector_cipher =
    0x60 ∷ 0x1e ∷ 0xc3 ∷ 0x13 ∷ 0x77 ∷ 0x57 ∷ 0x89 ∷ 0xa5 ∷
    0xb7 ∷ 0xa7 ∷ 0xf5 ∷ 0x04 ∷ 0xbb ∷ 0xf3 ∷ 0xd2 ∷ 0x28 ∷ []

abbrev pub CombinesAsSp80038a : Type 0
CombinesAsSp80038a = counter_mode counter_vector_key counter_vector_iv counter_vector_plain ≡ counter_vector_cipher
