-- Declarations of variables and parameters (ISO C 6.7).
use Rattle.std.specs.Prelude.{ℕ, Bool, true, false, is_some, Option, Some, None, List, [], ◌++◌, map}
use Rattle.dpi_rules.specs.declared.violation.Violation.{Violation}
use Rattle.c_tree.specs.declared.leaves.Name.{Name}
use Rattle.c_tree.specs.declared.types.CType.{CType as TypeTree}
use Rattle.c_tree.specs.declared.declarations.Store.{Store}
use Rattle.c_tree.specs.declared.declarations.Declarator.{Declarator}
use Rattle.c_tree.specs.declared.declarations.Variables.{Variables}
use Rattle.c_tree.specs.declared.declarations.Param.{Param}
use Rattle.c_tree.specs.declared.declarations.Params.{Params}
use Rattle.c_tree.specs.declared.declarations.Params.TheVariants as params
use Rattle.c_typing.specs.declared.place.Place.{Place}
use Rattle.c_typing.specs.declared.operand.Operand.{Operand}
use Rattle.c_typing.specs.declared.written.Declared.{Declared}
use Rattle.c_typing.specs.Judged.{rule_at}
use Rattle.c_typing.specs.Written.{declared_of, adjusted, star_rule, void_rule}
use Rattle.c_library.specs.Reserved.{name_violations}
use Rattle.c_names.specs.declared.entry.Entry.{Entry}
use Rattle.c_names.specs.declared.entry.Thing.{Thing}
use Rattle.c_names.specs.declared.entry.Thing.TheVariants as things
use Rattle.c_names.specs.Names.{Names, added}
use Rattle.c_names.specs.Scopes.{innermost}
use Rattle.c_names.specs.Uses.{second}
use Rattle.c_walk.specs.declared.objects.Object.{Object}
use Rattle.c_walk.specs.Sight.{Walks, scopes, stays, both, nothing, in_turn}
use Rattle.c_walk.specs.Around.{Around, at}
use Rattle.c_walk.specs.Sizes.{array_size, param_size_violations}
use Rattle.c_walk.specs.Objects.{unrefused, declared_operand, operand_of, initializer_violations}

-- a declaration of the name
abbrev pub entry : Name → Thing → Entry
entry n thing = record { token = n.token; thing = thing }

-- rule 1 at a name that its scope has, by its declaration there, and rule 21 at one of svdpi.h
abbrev pub new_name_violations : Place → List ℕ → Option Entry → List Violation
new_name_violations p name earlier = second p earlier false ++ name_violations p.file p.token name

-- rule 5 at a name that is declared void
abbrev pub void_violations : Place → Option Declared → List Violation
void_violations p None = []
void_violations p (Some d) = rule_at p (void_rule d.of)

-- ---- variables

-- what a declarator breaks up to its name: rule 22 on its stars, rule 5, and its size
abbrev pub shape_violations : Around → List Names → TypeTree → Declarator → List Violation
shape_violations a names tree d =
    rule_at (at a d.name.token) (star_rule d.stars (is_some d.array)) ++ void_violations (at a d.name.token) (declared_of tree d.stars) ++ (array_size a names d.array).found

-- the object that it declares
abbrev pub object_of : Around → List Names → Bool → TypeTree → Declarator → Object
object_of a names lasts tree d = record {
  declared = unrefused (is_some d.array) (declared_of tree d.stars);
  is_array = is_some d.array;
  cells = (array_size a names d.array).cells;
  lasts = lasts;
}

-- the name of an object
abbrev pub object_walk : Around → Name → Object → Walks
object_walk a n o s = record {
  found = new_name_violations (at a n.token) n.bytes (innermost (scopes s) n.bytes);
  inner = added s.inner n.bytes (entry n (things.Object (operand_of o) o.lasts));
}

-- what declares this object, whose name is in sight in its own initialiser
abbrev pub declared_walk : Around → TypeTree → Declarator → Object → Walks
declared_walk a tree d o =
    both (both (stays (λ names. shape_violations a names tree d)) (object_walk a d.name o)) (stays (λ names. initializer_violations a names o d.initializer))

-- a variable
abbrev pub declarator_walk : Around → Bool → TypeTree → Declarator → Walks
declarator_walk a lasts tree d s = declared_walk a tree d (object_of a (scopes s) lasts tree d) s

-- an object lasts at file scope, and where it is `static` or `extern`
abbrev pub lasts : Bool → Option Store → Bool
lasts at_file None = at_file
lasts at_file (Some s) = true

-- variables of one type, at file scope or elsewhere
abbrev pub variables_walk : Around → Bool → Variables → Walks
variables_walk a at_file v = in_turn (map (declarator_walk a (lasts at_file v.store) v.kind) v.declarators)

-- ---- parameters

-- a parameter that is written as an array is a pointer
abbrev pub adjusted_by : Bool → Option Declared → Option Declared
adjusted_by is_array None = None
adjusted_by is_array (Some d) = adjusted is_array d

-- what a parameter's name is in an expression, where its declaration isn't refused
abbrev pub param_operand : Param → Option Operand
param_operand p = declared_operand false None (unrefused false (adjusted_by (is_some p.array) (declared_of p.kind p.stars)))

-- the name of a parameter, if it has one: rule 1
abbrev pub param_name_walk : Around → Option Name → Option Operand → Walks
param_name_walk a None operand = nothing
param_name_walk a (Some n) operand = λ s. record {
  found = second (at a n.token) (s.inner n.bytes) false;
  inner = added s.inner n.bytes (entry n (things.Object operand false));
}

-- a parameter, with its size where that is a name
abbrev pub param_walk : Around → Param → Walks
param_walk a p = both (stays (λ names. param_size_violations a names p.array)) (param_name_walk a p.name (param_operand p))

abbrev pub params_walk : Around → Params → Walks
params_walk a (params.Void k) = nothing
params_walk a (params.List ps) = in_turn (map (param_walk a) ps)
