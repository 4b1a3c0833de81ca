-- Suffixes of an operand: indices and members (ISO C 6.5.2).
use Rattle.std.specs.Prelude.{ℕ, Bool, false, ◌==◌, ◌&&◌, ◌||◌, Option, Some, None, List, codes}
use Rattle.std.specs.Str.{bytes_eq}
use Rattle.c_base.specs.declared.base.CBase.TheVariants.{LogicVec, UnsignedInt}
use Rattle.c_base.specs.declared.ctype.CType.{CType}
use Rattle.c_base.specs.Types.{is_number}
use Rattle.c_typing.specs.declared.place.Place.{Place}
use Rattle.c_typing.specs.declared.operand.Operand.{Operand}
use Rattle.c_typing.specs.declared.operand.Form.{Form}
use Rattle.c_typing.specs.declared.operand.Form.TheVariants as forms
use Rattle.c_typing.specs.Judged.{Judged, unless, or_else, judged, passed_over}
use Rattle.c_typing.specs.Operands.{target}
use Rattle.c_typing.specs.Pointers.{same_base, is_base, is_cell_pointer}

-- `[`: a number behind a pointer to cells
abbrev pub index_rule : Operand → Operand → Option ℕ
index_rule a i = or_else (unless (is_number i.of) 10) (unless (is_cell_pointer a.of) 13)

-- an index, if what stands before it and what it holds have types: the cell
abbrev pub index : Place → Option Operand → Option Operand → Judged
index p None i = passed_over
index p (Some a) None = passed_over
index p (Some a) (Some i) = judged p (index_rule a i) (target a.of)

-- the members of a pair
abbrev pub is_member_name : List ℕ → Bool
is_member_name name = bytes_eq name (codes "aval") || bytes_eq name (codes "bval")

-- a member of an object is an object's, and one of a value is a value
abbrev pub member_form : Form → Form
member_form (forms.Object writable) = forms.Member writable
member_form other = forms.Value

-- an `unsigned int`, const where the pair is
abbrev pub member_type : CType → CType
member_type of = record { base = UnsignedInt; base_const = of.base_const; stars = 0; inner_const = false }

-- a member of a pair
abbrev pub member_of : Operand → Operand
member_of a = record { of = member_type a.of; form = member_form a.form }

-- rule 14: a member of a pair
abbrev pub dot_rule : List ℕ → Operand → Option ℕ
dot_rule name a = unless (is_member_name name && is_base LogicVec a.of) 14

-- `.` and a name, by the name's place
abbrev pub dot : Place → List ℕ → Option Operand → Judged
dot p name None = passed_over
dot p name (Some a) = judged p (dot_rule name a) (member_of a)

-- a pointer to pairs
abbrev pub is_pair_pointer : CType → Bool
is_pair_pointer of = of.stars == 1 && same_base of.base LogicVec

-- rule 14: a member of a pair that is pointed to
abbrev pub arrow_rule : List ℕ → Operand → Option ℕ
arrow_rule name a = unless (is_member_name name && is_pair_pointer a.of) 14

-- `->` and a name, by the name's place
abbrev pub arrow : Place → List ℕ → Option Operand → Judged
arrow p name None = passed_over
arrow p name (Some a) = judged p (arrow_rule name a) (member_of (target a.of))
