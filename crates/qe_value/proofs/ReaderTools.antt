-- Tools for what readers give.
use Rattle.std.proofs.Common.{◌≡◌, ℕ, zero, suc, ◌+◌, ◌<◌, ◌⊎◌, Bool, true, false, cond, leb, List, [], ◌∷◌, ◌++◌, length, take, drop, Result, Ok, Err, refl, sym, subst, arith, inl, inr}
use Rattle.std.proofs.lemmas.Bool.{cases_lt, leb-false, lt-leb}
use Rattle.std.proofs.lemmas.List.{take_at, drop_at, take-append-drop, length-append, length-take, get_or-drop, get_or-take, get_or_past}
use Rattle.qe_base.specs.Bytes.{AreBytes}
use Rattle.qe_value.specs.declared.fault.BsonFault.{BsonFault}
use Rattle.qe_value.specs.declared.fault.BsonKind.{BsonKind}
use Rattle.qe_value.specs.declared.fault.BsonKind.TheVariants.{LengthWrong}
use Rattle.qe_value.specs.Reading.{◌>>=◌, unless, fixed_at}

pub AreBytes-drop : (n : ℕ) (bytes : List ℕ) → AreBytes bytes → AreBytes (drop n bytes)
AreBytes-drop n bytes fits i = rw get_or-drop (fits (n + i))

pub AreBytes-take : (n : ℕ) (bytes : List ℕ) → AreBytes bytes → AreBytes (take n bytes)
AreBytes-take n bytes fits i =
    elim (cases_lt i n) [
      | inl lt ↦ rw (get_or-take n bytes i 0 lt) (fits i)
      | inr le ↦ rw (get_or_past (take n bytes) i 0 (omega (arith, length-take n bytes))) (omega arith)
    ]

pub AreBytes-rest : (b : ℕ) (bytes : List ℕ) → AreBytes (b ∷ bytes) → AreBytes bytes
AreBytes-rest b bytes fits i = fits (suc i)

pub AreBytes-push : (bytes : List ℕ) → AreBytes bytes → AreBytes (bytes ++ 0 ∷ [])
AreBytes-push [] fits zero = omega arith
AreBytes-push [] fits (suc i) = omega arith
AreBytes-push (b ∷ bytes) fits zero = fits 0
AreBytes-push (b ∷ bytes) fits (suc i) = AreBytes-push bytes (AreBytes-rest b bytes fits) i

-- the value of a step that did not fail
pub bind_ok : {A B : Type 0} (r : Result A BsonFault) (f : A → Result B BsonFault) (y : B) → (r >>= f) ≡ Ok y → (x : A) × (r ≡ Ok x) × (f x ≡ Ok y)
bind_ok (Ok x) f y e = (x, refl, e)
bind_ok (Err fault) f y e = absurd cc

-- a test that did not fail
pub unless_ok : {A : Type 0} (b : Bool) (end : ℕ) (bytes : List ℕ) (kind : BsonKind) (r : Result A BsonFault) (y : A) → unless b end bytes kind r ≡ Ok y → (b ≡ false) × (r ≡ Ok y)
unless_ok true end bytes kind r y e = absurd cc
unless_ok false end bytes kind r y e = (refl, e)

abbrev done : {A : Type 0} → A → Result A BsonFault
done x = Ok x

pub ok_is : {A : Type 0} (x y : A) → done x ≡ done y → x ≡ y
ok_is x y e = cc

-- which way a test went
pub chosen : {A : Type 0} (b : Bool) (x y z : A) → cond b x y ≡ z → ((b ≡ true) × (x ≡ z)) ⊎ ((b ≡ false) × (y ≡ z))
chosen true x y z e = inl (refl, e)
chosen false x y z e = inr (refl, e)

-- what a reader took from the front
pub record Takes (bytes text rest : List ℕ) : Type 0 where
  pub parts : bytes ≡ text ++ rest
  pub text_fits : AreBytes text
  pub rest_fits : AreBytes rest

pub Takes-cut : (n : ℕ) (bytes : List ℕ) → AreBytes bytes → Takes bytes (take n bytes) (drop n bytes)
Takes-cut n bytes fits = record { parts = sym (take-append-drop n bytes); text_fits = AreBytes-take n bytes fits; rest_fits = AreBytes-drop n bytes fits }

-- ---- so many bytes

pub fixed_takes : (n end : ℕ) (bytes : List ℕ) (x : List ℕ × List ℕ) → AreBytes bytes → fixed_at n end bytes ≡ Ok x → Takes bytes x.0 x.1 × (length x.0 ≡ n)
unfolding fixed_at
fixed_takes n end bytes x fits e =
    let u = unless_ok (leb (length bytes) n) end bytes LengthWrong (Ok (take n bytes, drop n bytes)) x e in
    let long : n < length bytes = leb-false _ _ u.0 in
    let len : length (take n bytes) ≡ n = omega (arith, length-take n bytes) in
    subst (λ (y : List ℕ × List ℕ). Takes bytes y.0 y.1 × (length y.0 ≡ n)) (ok_is (take n bytes, drop n bytes) x u.1) (Takes-cut n bytes fits, len)

pub fixed_again : (n end : ℕ) (text rest : List ℕ) → length text ≡ n → 0 < length rest → fixed_at n end (text ++ rest) ≡ Ok (text, rest)
unfolding fixed_at
fixed_again n end text rest len more =
    let long : leb (length (text ++ rest)) n ≡ false = lt-leb _ _ (omega (arith, length-append text rest)) in
    rw (long, take_at text rest n len, drop_at text rest n len) refl
