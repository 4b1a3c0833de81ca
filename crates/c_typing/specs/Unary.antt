-- Prefixes of an operand (ISO C 6.5.3).
use Rattle.std.specs.Prelude.{ℕ, Bool, not, ◌==◌, ◌||◌, Option, Some, None}
use Rattle.c_base.specs.declared.base.CBase.TheVariants.{Int}
use Rattle.c_base.specs.declared.ctype.CType.{CType}
use Rattle.c_base.specs.Base.{promoted}
use Rattle.c_base.specs.Types.{is_number}
use Rattle.c_tree.specs.declared.operators.UnaryOperator.{UnaryOperator}
use Rattle.c_tree.specs.declared.operators.UnaryOperator.TheVariants as signs
use Rattle.c_typing.specs.declared.place.Place.{Place}
use Rattle.c_typing.specs.declared.operand.Operand.{Operand}
use Rattle.c_typing.specs.Judged.{Judged, unless, or_else, judged, passed_over}
use Rattle.c_typing.specs.Operands.{value, plain_value, target, is_object, is_member, is_writable}
use Rattle.c_typing.specs.Pointers.{is_scalar, bare, is_cell_pointer, pointer_to}

-- rules 11 and 12: what is stored into is an object, and one that isn't const
abbrev pub store_rule : Operand → Option ℕ
store_rule a = or_else (unless (is_object a) 11) (unless (is_writable a) 12)

-- a number, or a pointer that can be moved
abbrev pub is_steppable : CType → Bool
is_steppable of = is_number of || is_cell_pointer of

-- `++` and `--`: a number or a pointer to cells, in an object that may be stored into
abbrev pub step_rule : Operand → Option ℕ
step_rule a = or_else (unless (is_steppable a.of) 10) (store_rule a)

-- what `++` and `--` give is a value of the object's type
abbrev pub step : Place → Option Operand → Judged
step p None = passed_over
step p (Some a) = judged p (step_rule a) (value (bare a.of))

-- a member has no address
abbrev pub member_rule : Operand → Option ℕ
member_rule a = unless (not (is_member a)) 14

-- `&`: an object, which is no member, and whose pointer has at most two stars
abbrev pub address_rule : Operand → Option ℕ
address_rule a = or_else (unless (is_object a) 11) (or_else (member_rule a) (unless (not (a.of.stars == 2)) 22))

-- the pointer to an object is one to const where the object may not be stored into
abbrev pub address_of : Operand → Operand
address_of a = value (pointer_to a.of (not (is_writable a)))

-- what a prefix takes: `+`, `-` and `~` a number, `!` a number or pointer, `*` a pointer to cells
abbrev pub unary_rule : UnaryOperator → Operand → Option ℕ
unary_rule signs.Plus a = unless (is_number a.of) 10
unary_rule signs.Minus a = unless (is_number a.of) 10
unary_rule signs.Tilde a = unless (is_number a.of) 10
unary_rule signs.Not a = unless (is_scalar a.of) 10
unary_rule signs.Star a = unless (is_cell_pointer a.of) 13
unary_rule signs.And a = address_rule a
unary_rule signs.Increment a = step_rule a
unary_rule signs.Decrement a = step_rule a

-- what a prefix gives
abbrev pub unary_value : UnaryOperator → Operand → Operand
unary_value signs.Plus a = plain_value (promoted a.of.base)
unary_value signs.Minus a = plain_value (promoted a.of.base)
unary_value signs.Tilde a = plain_value (promoted a.of.base)
unary_value signs.Not a = plain_value Int
unary_value signs.Star a = target a.of
unary_value signs.And a = address_of a
unary_value signs.Increment a = value (bare a.of)
unary_value signs.Decrement a = value (bare a.of)

-- a prefix of an operand, if that has a type
abbrev pub unary : Place → UnaryOperator → Option Operand → Judged
unary p op None = passed_over
unary p op (Some a) = judged p (unary_rule op a) (unary_value op a)
