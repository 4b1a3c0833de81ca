-- Assignments (ISO C 6.5.16).
use Rattle.std.specs.Prelude.{ℕ, Bool, true, false, ◌&&◌, ◌||◌, Option, Some, None, ◌++◌}
use Rattle.c_base.specs.declared.ctype.CType.{CType}
use Rattle.c_base.specs.Types.{is_number}
use Rattle.c_tree.specs.declared.operators.AssignOperator.{AssignOperator}
use Rattle.c_tree.specs.declared.operators.AssignOperator.TheVariants as assigns
use Rattle.c_typing.specs.declared.place.Place.{Place}
use Rattle.c_typing.specs.declared.operand.Operand.{Operand}
use Rattle.c_typing.specs.Judged.{Judged, unless, or_else, rule_at, kept, judged, passed_over}
use Rattle.c_typing.specs.Operands.{value}
use Rattle.c_typing.specs.Pointers.{bare, is_cell_pointer}
use Rattle.c_typing.specs.Conversions.{conversion_rule}
use Rattle.c_typing.specs.Unary.{store_rule}

-- an assignment gives a value of the left side's type, without its const
abbrev pub assigned : Operand → Operand
assigned a = value (bare a.of)

-- `=`: a store at the operator, and a conversion to the left side's type at the first token of the value
abbrev pub stored : Place → Place → Operand → Operand → Judged
stored p at a b = record {
  found = rule_at p (store_rule a) ++ rule_at at (conversion_rule b a.of);
  value = kept (or_else (store_rule a) (conversion_rule b a.of)) (assigned a);
}

-- `+=` and `-=`
abbrev pub is_additive : AssignOperator → Bool
is_additive assigns.Add = true
is_additive assigns.Subtract = true
is_additive other = false

-- an operator that assigns takes numbers, and `+=` and `-=` a pointer to cells with a number
abbrev pub takes_into : AssignOperator → CType → CType → Bool
takes_into op s t = is_number t && (is_number s || (is_additive op && is_cell_pointer s))

-- the operator takes the operands, and its object is stored into
abbrev pub update_rule : AssignOperator → Operand → Operand → Option ℕ
update_rule op a b = or_else (unless (takes_into op a.of b.of) 10) (store_rule a)

-- an assignment to an operand by an operator
abbrev pub assigned_by : Place → Place → AssignOperator → Operand → Operand → Judged
assigned_by p at assigns.Plain a b = stored p at a b
assigned_by p at op a b = judged p (update_rule op a b) (assigned a)

-- an assignment, by the places of its operator and of the first token of its value, if both sides have types
abbrev pub assignment : Place → Place → AssignOperator → Option Operand → Option Operand → Judged
assignment p at op None b = passed_over
assignment p at op (Some a) None = passed_over
assignment p at op (Some a) (Some b) = assigned_by p at op a b
