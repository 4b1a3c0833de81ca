-- Objects: what is declared, and what it begins with (ISO C 6.7.6 and 6.7.9).
use Rattle.std.specs.Prelude.{ℕ, nat_lt, Bool, ◌&&◌, if◌then◌else◌, Option, Some, None, option_map, List, [], ◌++◌, flat_map}
use Rattle.dpi_rules.specs.declared.violation.Violation.{Violation}
use Rattle.c_base.specs.declared.base.CBase.TheVariants.{Void}
use Rattle.c_base.specs.declared.ctype.CType.{CType}
use Rattle.c_tree.specs.declared.expr.CExpr.{CExpr}
use Rattle.c_tree.specs.declared.declarations.Init.{Init}
use Rattle.c_tree.specs.declared.declarations.Init.TheVariants as inits
use Rattle.c_tree.specs.declared.declarations.Initializer.{Initializer}
use Rattle.c_typing.specs.declared.place.Place.{Place}
use Rattle.c_typing.specs.declared.operand.Operand.{Operand}
use Rattle.c_typing.specs.declared.written.Declared.{Declared}
use Rattle.c_typing.specs.Operands.{object, array}
use Rattle.c_typing.specs.Pointers.{is_base}
use Rattle.c_initial.specs.Parts.{static_violations}
use Rattle.c_initial.specs.Values as values
use Rattle.c_names.specs.Names.{Names}
use Rattle.c_names.specs.Scopes.{find}
use Rattle.c_judge.specs.Parts.{part}
use Rattle.c_judge.specs.Judge.{value_violations}
use Rattle.c_walk.specs.declared.objects.Object.{Object}
use Rattle.c_walk.specs.Around.{Around, at, env}

-- what is declared, where its type isn't refused: void, or an array of cells with two stars
abbrev pub unrefused : Bool → Option Declared → Option Declared
unrefused is_array None = None
unrefused is_array (Some d) =
    if is_base Void d.of then None else (if is_array && nat_lt 1 d.of.stars then None else Some d)

-- the type that a value of its initialiser is converted to: that of a cell
abbrev pub cell_type : Object → Option CType
cell_type o = option_map (λ (d : Declared). d.of) o.declared

-- an array of so many cells
abbrev pub array_operand : Option ℕ → Declared → Option Operand
array_operand None d = None
array_operand (Some n) d = Some (array d.of d.constant)

abbrev pub declared_operand : Bool → Option ℕ → Option Declared → Option Operand
declared_operand is_array cells None = None
declared_operand is_array cells (Some d) = if is_array then array_operand cells d else Some (object d.of d.constant)

-- what its name is in an expression, where its declaration isn't refused
abbrev pub operand_of : Object → Option Operand
operand_of o = declared_operand o.is_array o.cells o.declared

-- rule 19 at the `=` of an object that lasts
abbrev pub lasting_violations : Names → Place → Bool → CExpr → List Violation
lasting_violations names p lasts e = if lasts then static_violations p (part names e) else []

-- a value of an initialiser
abbrev pub begin_violations : Around → List Names → Place → Object → CExpr → List Violation
begin_violations a names p o e =
    lasting_violations (find names) p o.lasts e ++ value_violations (env a names) e (cell_type o)

-- one value, or a list of them
abbrev pub init_violations : Around → List Names → Place → Object → Init → List Violation
init_violations a names p o (inits.Value e) = begin_violations a names p o e
init_violations a names p o (inits.List k es) = flat_map (begin_violations a names p o) es

-- an initialiser: rule 19 at its `=` on the number of values, and what each value breaks
abbrev pub begun_violations : Around → List Names → Object → Initializer → List Violation
begun_violations a names o i =
    values.value_violations (at a i.token) o.is_array o.cells i.value ++ init_violations a names (at a i.token) o i.value

abbrev pub initializer_violations : Around → List Names → Object → Option Initializer → List Violation
initializer_violations a names o None = []
initializer_violations a names o (Some i) = begun_violations a names o i
