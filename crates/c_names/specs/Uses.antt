-- What a name is where it is used, and where it is declared once more (ISO C 6.2.1, 6.5.1, 6.7).
use Rattle.std.specs.Prelude.{ℕ, Bool, true, false, if◌then◌else◌, Option, Some, None, List, []}
use Rattle.std.specs.Option.{is_some}
use Rattle.dpi_rules.specs.declared.violation.Violation.{Violation}
use Rattle.dpi_literal.specs.declared.number_type.NumberType.TheVariants as numbers
use Rattle.c_library.specs.declared.call.Call.{Call}
use Rattle.c_library.specs.Names.{call_named}
use Rattle.c_library.specs.Reserved.{is_printf, is_word_count, is_reserved, scalar_named}
use Rattle.c_typing.specs.declared.place.Place.{Place}
use Rattle.c_typing.specs.declared.operand.Operand.{Operand}
use Rattle.c_typing.specs.declared.operand.Form.{Form}
use Rattle.c_typing.specs.declared.operand.Form.TheVariants as forms
use Rattle.c_typing.specs.Judged.{Judged, rule_at}
use Rattle.c_typing.specs.Operands.{constant}
use Rattle.c_initial.specs.declared.parts.Part.{Part}
use Rattle.c_initial.specs.declared.parts.Part.TheVariants as parts
use Rattle.c_names.specs.declared.entry.Entry.{Entry}
use Rattle.c_names.specs.declared.entry.Thing.{Thing}
use Rattle.c_names.specs.declared.entry.Thing.TheVariants as things
use Rattle.c_names.specs.declared.uses.Callee.{Callee}
use Rattle.c_names.specs.declared.uses.Callee.TheVariants as callees

-- ---- where a value stands

-- rule 2 at a name that nothing declares, rule 3 at one of svdpi.h that is no value
abbrev pub unknown_rule : List ℕ → ℕ
unknown_rule name = if is_reserved name then 3 else 2

-- a name that no file declares: a constant of svdpi.h is an `int`
abbrev pub undeclared : Place → List ℕ → Judged
undeclared p name =
    if is_some (scalar_named name)
    then record { found = []; value = Some (constant numbers.Int) }
    else record { found = rule_at p (Some (unknown_rule name)); value = None }

-- an object or a define is a value, and a function is none: rule 3
abbrev pub thing_value : Place → Thing → Judged
thing_value p (things.Object operand lasts) = record { found = []; value = operand }
thing_value p (things.Number of) = record { found = []; value = Some (constant of) }
thing_value p (things.Function n) = record { found = rule_at p (Some 3); value = None }

-- a name where a value stands, by its declaration
abbrev pub name_value : Place → List ℕ → Option Entry → Judged
name_value p name None = undeclared p name
name_value p name (Some e) = thing_value p e.thing

-- ---- before a `(`

-- what is called, and what is broken where nothing is
pub record Called : Type 0 where
  pub found : List Violation
  pub callee : Option Callee

abbrev pub calls : Callee → Called
calls c = record { found = []; callee = Some c }

abbrev pub calls_nothing : Place → ℕ → Called
calls_nothing p rule = record { found = rule_at p (Some rule); callee = None }

-- `printf` or the macro for words; rule 3 at a constant, rule 2 at any other name
abbrev pub other_callee : Place → List ℕ → Called
other_callee p name =
    if is_printf name then calls callees.Printf
    else (if is_word_count name then calls callees.WordCount
    else calls_nothing p (if is_some (scalar_named name) then 3 else 2))

abbrev pub library_callee : Place → List ℕ → Option Call → Called
library_callee p name None = other_callee p name
library_callee p name (Some c) = calls (callees.Library c)

-- a call of svdpi.h, where the name is one
abbrev pub undeclared_callee : Place → List ℕ → Called
undeclared_callee p name = library_callee p name (call_named name)

-- a function, and nothing else: rule 3
abbrev pub thing_callee : Place → Thing → Called
thing_callee p (things.Function n) = calls (callees.Function n)
thing_callee p (things.Object operand lasts) = calls_nothing p 3
thing_callee p (things.Number of) = calls_nothing p 3

-- a called name, by its declaration
abbrev pub called : Place → List ℕ → Option Entry → Called
called p name None = undeclared_callee p name
called p name (Some e) = thing_callee p e.thing

-- ---- in an initialiser

-- an array, by the operand that its name is
abbrev pub is_array_form : Form → Bool
is_array_form forms.Array = true
is_array_form other = false

-- an object that lasts. Of one whose declaration is refused nothing is known
abbrev pub lasting_part : Option Operand → Part
lasting_part None = parts.Unknown
lasting_part (Some a) = if is_array_form a.form then parts.Array else parts.Object

abbrev pub thing_part : Thing → Part
thing_part (things.Object operand lasts) = if lasts then lasting_part operand else parts.Other
thing_part (things.Number of) = parts.Number
thing_part (things.Function n) = parts.Other

abbrev pub undeclared_part : List ℕ → Part
undeclared_part name =
    if is_some (scalar_named name) then parts.Number else (if is_reserved name then parts.Other else parts.Unknown)

-- a name in an initialiser, by its declaration
abbrev pub name_part : List ℕ → Option Entry → Part
name_part name None = undeclared_part name
name_part name (Some e) = thing_part e.thing

-- ---- where it is declared once more

abbrev pub is_function : Thing → Bool
is_function (things.Function n) = true
is_function (things.Object operand lasts) = false
is_function (things.Number of) = false

-- rule 1 at a second declaration of a name in one scope, unless both are of functions
abbrev pub second : Place → Option Entry → Bool → List Violation
second p None function = []
second p (Some e) function = if function then (if is_function e.thing then [] else rule_at p (Some 1)) else rule_at p (Some 1)
