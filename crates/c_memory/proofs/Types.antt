-- A value of one type is one of each type that accesses its cells.
use Rattle.std.proofs.Common.{◌≡◌, ℕ, Bool, true, false, Option, Some, None, is_some, refl, ap, sym}
use Rattle.std.proofs.Common.{◌∙◌, subst, Result, IfOk, IsTrue}
use Rattle.std.specs.Option.{ok_or}
use Rattle.c_memory.specs.declared.ccell.CCell.{CCell}
use Rattle.c_memory.specs.declared.ccell.CCell.TheVariants as Cells
use Rattle.c_memory.specs.declared.cell_type.CellType.{CellType}
use Rattle.c_memory.specs.declared.cell_type.CellType.TheVariants.{Number, Bit, Logic, Pointer}
use Rattle.c_memory.specs.declared.cell_type.CellType.TheVariants.{Handle, Scope, LogicPair}
use Rattle.c_memory.specs.CellType.{number_bytes, same_type, fits}
use Rattle.c_memory.specs.Object.{IsTyped}

-- the value is a number
is_number : CCell → Bool
is_number (Cells.Number n) = true
is_number other = false

fits-number : (b : CellType) (c : CCell) → is_some (number_bytes b) ≡ true → fits b c ≡ is_number c
unfolding is_number
fits-number (Number bytes signed) (Cells.Number n) h = refl
fits-number (Number bytes signed) (Cells.Pointer p) h = refl
fits-number (Number bytes signed) (Cells.Handle x) h = refl
fits-number (Number bytes signed) (Cells.Scope s) h = refl
fits-number (Number bytes signed) (Cells.Pair w) h = refl
fits-number Bit (Cells.Number n) h = refl
fits-number Bit (Cells.Pointer p) h = refl
fits-number Bit (Cells.Handle x) h = refl
fits-number Bit (Cells.Scope s) h = refl
fits-number Bit (Cells.Pair w) h = refl
fits-number Logic (Cells.Number n) h = refl
fits-number Logic (Cells.Pointer p) h = refl
fits-number Logic (Cells.Handle x) h = refl
fits-number Logic (Cells.Scope s) h = refl
fits-number Logic (Cells.Pair w) h = refl
fits-number Pointer c h = cc
fits-number Handle c h = cc
fits-number Scope c h = cc
fits-number LogicPair c h = cc

number_of_number : (bytes : ℕ) (signed : Bool) (b : CellType)
    → same_type (Number bytes signed) b ≡ true → is_some (number_bytes b) ≡ true
number_of_number bytes signed (Number n s) h = refl
number_of_number bytes signed Bit h = refl
number_of_number bytes signed Logic h = refl
number_of_number bytes signed Pointer h = cc
number_of_number bytes signed Handle h = cc
number_of_number bytes signed Scope h = cc
number_of_number bytes signed LogicPair h = cc

number_of_bit : (b : CellType) → same_type Bit b ≡ true → is_some (number_bytes b) ≡ true
number_of_bit (Number n s) h = refl
number_of_bit Bit h = refl
number_of_bit Logic h = refl
number_of_bit Pointer h = cc
number_of_bit Handle h = cc
number_of_bit Scope h = cc
number_of_bit LogicPair h = cc

number_of_logic : (b : CellType) → same_type Logic b ≡ true → is_some (number_bytes b) ≡ true
number_of_logic (Number n s) h = refl
number_of_logic Bit h = refl
number_of_logic Logic h = refl
number_of_logic Pointer h = cc
number_of_logic Handle h = cc
number_of_logic Scope h = cc
number_of_logic LogicPair h = cc

only_pointer : (b : CellType) → same_type Pointer b ≡ true → b ≡ Pointer
only_pointer (Number n signed) h = cc
only_pointer Bit h = cc
only_pointer Logic h = cc
only_pointer Pointer h = refl
only_pointer Handle h = cc
only_pointer Scope h = cc
only_pointer LogicPair h = cc

only_handle : (b : CellType) → same_type Handle b ≡ true → b ≡ Handle
only_handle (Number n signed) h = cc
only_handle Bit h = cc
only_handle Logic h = cc
only_handle Pointer h = cc
only_handle Handle h = refl
only_handle Scope h = cc
only_handle LogicPair h = cc

only_scope : (b : CellType) → same_type Scope b ≡ true → b ≡ Scope
only_scope (Number n signed) h = cc
only_scope Bit h = cc
only_scope Logic h = cc
only_scope Pointer h = cc
only_scope Handle h = cc
only_scope Scope h = refl
only_scope LogicPair h = cc

only_pair : (b : CellType) → same_type LogicPair b ≡ true → b ≡ LogicPair
only_pair (Number n signed) h = cc
only_pair Bit h = cc
only_pair Logic h = cc
only_pair Pointer h = cc
only_pair Handle h = cc
only_pair Scope h = cc
only_pair LogicPair h = refl

pub fits-same : (a b : CellType) (c : CCell) → same_type a b ≡ true → fits a c ≡ fits b c
fits-same (Number bytes signed) b c h =
    fits-number (Number bytes signed) c refl
    ∙ sym (fits-number b c (number_of_number bytes signed b h))
fits-same Bit b c h = fits-number Bit c refl ∙ sym (fits-number b c (number_of_bit b h))
fits-same Logic b c h = fits-number Logic c refl ∙ sym (fits-number b c (number_of_logic b h))
fits-same Pointer b c h = ap (λ t. fits t c) (sym (only_pointer b h))
fits-same Handle b c h = ap (λ t. fits t c) (sym (only_handle b h))
fits-same Scope b c h = ap (λ t. fits t c) (sym (only_scope b h))
fits-same LogicPair b c h = ap (λ t. fits t c) (sym (only_pair b h))

-- what is found in a cell of the one type is a value of the other
pub found-typed : {E : Type 0} (a b : CellType) (cell : Option CCell) (e : E) (r : Result CCell E)
    → same_type a b ≡ true → IsTyped b cell → r ≡ ok_or cell e → IfOk r (λ c. IsTrue (fits a c))
found-typed a b None e r same typed is = subst (λ x. IfOk x (λ c. IsTrue (fits a c))) (sym is) tt
found-typed a b (Some c) e r same typed is =
    subst (λ x. IfOk x (λ y. IsTrue (fits a y))) (sym is) (fits-same a b c same ∙ typed)
