-- Refusals, and what a reader answers.
use Rattle.std.specs.Prelude.{ℕ, List, ◌++◌, codes, Option, None, Some, Result, Ok, Err}
use Rattle.qe_base.specs.Answers.{Answers}
use Rattle.qe_layout.specs.declared.malformed.Kind.{Kind}
use Rattle.qe_layout.specs.declared.malformed.Malformed.{Malformed}
use Rattle.qe_layout.specs.declared.malformed.Malformed.TheVariants.{At, NoMemory}

-- what is wrong, and where: names and indices of arrays, joined by dots
pub record Refusal : Type 0 where
  pub path : List ℕ
  pub kind : Kind

-- the refusal, where it is another than want of memory
abbrev pub refusal_of : Malformed → Option Refusal
refusal_of (At path kind) = Some (record { path = path; kind = kind })
refusal_of NoMemory = None

-- a reader answers what is due, or want of memory
abbrev pub Reads : {A : Type 0} → Result A Malformed → Result A Refusal → Type 0
Reads result due = Answers (λ answer. answer) refusal_of result due

-- the refusal of what stands under a name
abbrev pub wrong : {A : Type 0} → List ℕ → Kind → Result A Refusal
wrong name kind = Err (record { path = name; kind = kind })

-- what was read is read on, and a refusal stays
abbrev pub bind : {A B : Type 0} → Result A Refusal → (A → Result B Refusal) → Result B Refusal
bind (Ok x) on = on x
bind (Err refusal) on = Err refusal

abbrev pub map_read : {A B : Type 0} → (A → B) → Result A Refusal → Result B Refusal
map_read f (Ok x) = Ok (f x)
map_read f (Err refusal) = Err refusal

-- of something inside what stands under a name: the name and a dot are put before its path
abbrev pub inside_path : List ℕ → List ℕ → List ℕ
inside_path name path = name ++ (codes "." ++ path)

abbrev pub read_inside : {A : Type 0} → List ℕ → Result A Refusal → Result A Refusal
read_inside name (Ok x) = Ok x
read_inside name (Err refusal) = wrong (inside_path name refusal.path) refusal.kind
