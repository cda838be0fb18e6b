-- A type and its byte.
use Rattle.std.proofs.Common.{◌≡◌, ℕ, eqb, true, false, Some, refl, ap, ◌∙◌, inl, inr}
use Rattle.std.proofs.lemmas.Bool.{eqb-true}
use Rattle.qe_value.specs.declared.element_type.ElementType.{ElementType}
use Rattle.qe_value.specs.declared.element_type.ElementType.TheVariants as type
use Rattle.qe_value.specs.Types.{type_byte, type_of}
use Rattle.qe_value.proofs.ReaderTools.{chosen}

-- a type is that of its byte
pub type_again : (kind : ElementType) → type_of (type_byte kind) ≡ Some kind
unfolding type_of
type_again type.Double = refl
type_again type.Str = refl
type_again type.Doc = refl
type_again type.Array = refl
type_again type.Binary = refl
type_again type.ObjectId = refl
type_again type.Bool = refl
type_again type.Date = refl
type_again type.Null = refl
type_again type.Int32 = refl
type_again type.Timestamp = refl
type_again type.Int64 = refl
type_again type.Decimal = refl

-- no type has the byte 0
pub type_not_zero : (kind : ElementType) → eqb (type_byte kind) 0 ≡ false
type_not_zero type.Double = refl
type_not_zero type.Str = refl
type_not_zero type.Doc = refl
type_not_zero type.Array = refl
type_not_zero type.Binary = refl
type_not_zero type.ObjectId = refl
type_not_zero type.Bool = refl
type_not_zero type.Date = refl
type_not_zero type.Null = refl
type_not_zero type.Int32 = refl
type_not_zero type.Timestamp = refl
type_not_zero type.Int64 = refl
type_not_zero type.Decimal = refl

chosen_type : (b : ℕ) (one kind : ElementType) → eqb b (type_byte one) ≡ true → Some one ≡ Some kind → b ≡ type_byte kind
chosen_type b one kind is same = let e : one ≡ kind = cc in eqb-true b (type_byte one) is ∙ ap type_byte e

-- a byte is that of its type
pub type_takes : (b : ℕ) (kind : ElementType) → type_of b ≡ Some kind → b ≡ type_byte kind
unfolding type_of
type_takes b kind e0 =
    elim (chosen (eqb b 0x01) _ _ (Some kind) e0) [
      | inl h ↦ chosen_type b type.Double kind h.0 h.1
      | inr e1 ↦
          elim (chosen (eqb b 0x02) _ _ (Some kind) e1.1) [
            | inl h ↦ chosen_type b type.Str kind h.0 h.1
            | inr e2 ↦
                elim (chosen (eqb b 0x03) _ _ (Some kind) e2.1) [
                  | inl h ↦ chosen_type b type.Doc kind h.0 h.1
                  | inr e3 ↦
                      elim (chosen (eqb b 0x04) _ _ (Some kind) e3.1) [
                        | inl h ↦ chosen_type b type.Array kind h.0 h.1
                        | inr e4 ↦
                            elim (chosen (eqb b 0x05) _ _ (Some kind) e4.1) [
                              | inl h ↦ chosen_type b type.Binary kind h.0 h.1
                              | inr e5 ↦
                                  elim (chosen (eqb b 0x07) _ _ (Some kind) e5.1) [
                                    | inl h ↦ chosen_type b type.ObjectId kind h.0 h.1
                                    | inr e6 ↦
                                        elim (chosen (eqb b 0x08) _ _ (Some kind) e6.1) [
                                          | inl h ↦ chosen_type b type.Bool kind h.0 h.1
                                          | inr e7 ↦
                                              elim (chosen (eqb b 0x09) _ _ (Some kind) e7.1) [
                                                | inl h ↦ chosen_type b type.Date kind h.0 h.1
                                                | inr e8 ↦
                                                    elim (chosen (eqb b 0x0a) _ _ (Some kind) e8.1) [
                                                      | inl h ↦ chosen_type b type.Null kind h.0 h.1
                                                      | inr e9 ↦
                                                          elim (chosen (eqb b 0x10) _ _ (Some kind) e9.1) [
                                                            | inl h ↦ chosen_type b type.Int32 kind h.0 h.1
                                                            | inr e10 ↦
                                                                elim (chosen (eqb b 0x11) _ _ (Some kind) e10.1) [
                                                                  | inl h ↦ chosen_type b type.Timestamp kind h.0 h.1
                                                                  | inr e11 ↦
                                                                      elim (chosen (eqb b 0x12) _ _ (Some kind) e11.1) [
                                                                        | inl h ↦ chosen_type b type.Int64 kind h.0 h.1
                                                                        | inr e12 ↦
                                                                            elim (chosen (eqb b 0x13) _ _ (Some kind) e12.1) [
                                                                              | inl h ↦ chosen_type b type.Decimal kind h.0 h.1
                                                                              | inr e13 ↦
                                                                                  absurd (let none = e13.1 in cc)
                                                                            ]
                                                                      ]
                                                                ]
                                                          ]
                                                    ]
                                              ]
                                        ]
                                  ]
                            ]
                      ]
                ]
          ]
    ]
