-- The rules of a range field, and the prefix lengths that they store, as in the range index of MongoDB's Queryable
-- Encryption (libmongocrypt, edge generation). The limits and the default trim factor are this project's own.
use Rattle.std.specs.Prelude.{◌≡◌, ℕ, zero, suc, ◌+◌, ◌-◌, ◌*◌, ◌^◌, ◌%◌, ◌<◌, ◌≤◌, ◌⊎◌, ◌↔◌, Bool, IsTrue, ◌==◌, ◌&&◌, ◌||◌, nat_lt, nat_le, if◌then◌else◌, List, [], ◌∷◌, ◌++◌, min, ℤ, ◌-ℤ◌, ◌<ℤ◌, ◌≤ℤ◌, unsigned_abs, FitsSigned, Option, unwrap_or}
use Rattle.std.specs.Int.{w64, leading_zeros}

-- the least and the greatest value, the sparsity and the trim factor
pub record Rules : Type 0 where
  pub min : ℤ
  pub max : ℤ
  pub sparsity : ℕ
  pub trim : ℕ

-- a value of the domain
abbrev pub InDomain : Rules → ℤ → Type 0
InDomain rules v = (rules.min ≤ℤ v) × (v ≤ℤ rules.max)

-- the number whose binary digits are a value's string
abbrev pub offset_of : Rules → ℤ → ℕ
offset_of rules v = unsigned_abs (v -ℤ rules.min)

-- how many binary digits a number of 64 bits has
abbrev pub binary_digits : ℕ → ℕ
binary_digits number = 64 - leading_zeros w64 number

-- so many digits spell the number, and no fewer
abbrev pub HasDigits : ℕ → ℕ → Type 0
HasDigits number digits = (number < 2 ^ digits) × (2 ^ digits ≤ 2 * number)

-- the length of a value's string
unfoldable pub bits_of : Rules → ℕ
bits_of rules = binary_digits (offset_of rules rules.max)

-- prefixes of so many digits are stored: the whole string, from the trim factor on each multiple of the sparsity
-- between, and the empty prefix where the trim factor is 0
pub data IsStored (rules : Rules) (level : ℕ) : Type 0 where
  leaf : level ≡ bits_of rules → IsStored rules level
  between : 1 ≤ level → level < bits_of rules → rules.trim ≤ level → level % rules.sparsity ≡ 0 → IsStored rules level
  root : level ≡ 0 → rules.trim ≡ 0 → IsStored rules level

-- whether prefixes of so many digits are stored
abbrev pub is_stored : Rules → ℕ → Bool
is_stored rules level = (level == bits_of rules)
    || nat_le 1 level && nat_lt level (bits_of rules) && nat_le rules.trim level && level % rules.sparsity == 0
    || level == 0 && rules.trim == 0

-- the stored levels below a level, rising
abbrev pub stored_below : Rules → ℕ → List ℕ
stored_below rules zero = []
stored_below rules (suc level) = stored_below rules level ++ (if is_stored rules level then level ∷ [] else [])

-- the stored levels, rising
abbrev pub stored_levels : Rules → List ℕ
stored_levels rules = stored_below rules (bits_of rules + 1)

-- the test tells the stored levels
abbrev pub TellsStored : Type 0
TellsStored = (rules : Rules) (level : ℕ) → IsTrue (is_stored rules level) ↔ IsStored rules level

-- the shortest stored level of at least so many digits
pub record IsShortestFrom (rules : Rules) (level shortest : ℕ) : Type 0 where
  pub stored : IsStored rules shortest
  pub from : level ≤ shortest
  pub below : (other : ℕ) → IsStored rules other → level ≤ other → shortest ≤ other

abbrev pub IsSparsity : ℕ → Type 0
IsSparsity sparsity = (1 ≤ sparsity) × (sparsity ≤ 8)

-- each stored prefix has more than 10 digits
abbrev pub StoresOnlyLong : Rules → Type 0
StoresOnlyLong rules = (level : ℕ) → IsStored rules level → 10 < level

-- the trim factor isn't below the number of digits, or only long prefixes are stored
abbrev pub HasTrimFault : Rules → Type 0
HasTrimFault rules = (bits_of rules ≤ rules.trim) ⊎ StoresOnlyLong rules

-- the rules as they are given, with the default trim factor
abbrev pub rules_of : ℤ → ℤ → ℕ → Option ℕ → Rules
rules_of low high sparsity trim = record {
  min = low;
  max = high;
  sparsity = sparsity;
  trim = unwrap_or trim (min 6 (binary_digits (unsigned_abs (high -ℤ low)) - 1));
}

-- rules that make a domain
pub record IsDomain (rules : Rules) : Type 0 where
  pub min_fits : FitsSigned w64 rules.min
  pub max_fits : FitsSigned w64 rules.max
  pub ordered : rules.min <ℤ rules.max
  pub sparsity : IsSparsity rules.sparsity
  pub trim : rules.trim < bits_of rules
  pub short : ¬ StoresOnlyLong rules
