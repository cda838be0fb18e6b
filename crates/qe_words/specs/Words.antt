-- What the words behind the program's name ask for.
use Rattle.std.specs.Prelude.{ℕ, ◌^◌, nat_lt, nat_le, List, [], ◌∷◌, bytes_eq, codes, ◌&&◌, if◌then◌else◌, Option, Some, None, option_and_then}
use Rattle.std.specs.Fmt.{decimal}
use Rattle.std.specs.Str.Parse.{digits_value}
use Rattle.qe_words.specs.declared.words.Words.{Words}
use Rattle.qe_words.specs.declared.words.Words.TheVariants.{Replay, Show, Make}

-- the number below 2^64 that is written as the word: decimal digits, without a sign or a leading zero
unfoldable pub number_of : List ℕ → Option ℕ
number_of word =
    let n = digits_value 10 word in
    if nat_lt n (2 ^ 64) && bytes_eq word (decimal n) then Some n else None

-- the number, where it is from 1 to 4,000
unfoldable pub few : ℕ → Option ℕ
few n = if nat_le 1 n && nat_le n 4000 then Some n else None

abbrev pub documents_of : List ℕ → Option ℕ
documents_of word = option_and_then few (number_of word)

abbrev pub task_named : List ℕ → Option Words
task_named word = if bytes_eq word (codes "replay") then Some Replay else (if bytes_eq word (codes "show") then Some Show else None)

-- a script of so many documents, from a seed
abbrev pub make_of : List ℕ → List ℕ → Option Words
make_of documents seed = option_and_then (λ n. option_and_then (λ s. Some (Make n s)) (number_of seed)) (documents_of documents)

-- one word names a task, and `make` has two numbers
abbrev pub words_of : List (List ℕ) → Option Words
words_of (word ∷ []) = task_named word
words_of (word ∷ documents ∷ seed ∷ []) = if bytes_eq word (codes "make") then make_of documents seed else None
words_of words = None
