-- External declarations, and a whole file (ISO C 6.9).
use Rattle.std.specs.Prelude.{ℕ, ◌+◌, true, Option, None, List, [], ◌∷◌, ◌++◌, slice_get}
use Rattle.dpi_rules.specs.declared.violation.Violation.{Violation}
use Rattle.dpi_lex.specs.Define.{define_name}
use Rattle.dpi_literal.specs.Constants.{define_value}
use Rattle.c_tree.specs.declared.leaves.Define.{Define}
use Rattle.c_tree.specs.declared.leaves.Name.{Name}
use Rattle.c_tree.specs.declared.file.Body.{Body}
use Rattle.c_tree.specs.declared.file.Body.TheVariants as bodies
use Rattle.c_tree.specs.declared.file.Function.{Function}
use Rattle.c_tree.specs.declared.file.External.{External}
use Rattle.c_tree.specs.declared.file.External.TheVariants as externals
use Rattle.c_tree.specs.declared.file.CFile.{CFile}
use Rattle.c_base.specs.declared.ctype.CType.{CType}
use Rattle.c_names.specs.declared.entry.Thing.TheVariants as things
use Rattle.c_names.specs.Names.{added}
use Rattle.c_names.specs.Scopes.{innermost}
use Rattle.c_names.specs.Uses.{second}
use Rattle.c_functions.specs.declared.types.FunctionType.{FunctionType}
use Rattle.c_judge.specs.Calls.{result_type}
use Rattle.c_walk.specs.Sight.{Sight, Walks, scopes, inside, after, both, nothing}
use Rattle.c_walk.specs.Around.{Around, at, no_values, values_behind}
use Rattle.c_walk.specs.Declarations.{entry, new_name_violations, variables_walk, params_walk}
use Rattle.c_walk.specs.Statements.{in_block}

-- a define, in sight behind its line: rules 1 and 21 at its token
abbrev pub define_walk : Around → Define → Walks
define_walk a d s = record {
  found = new_name_violations (at a d.token) (define_name d.bytes) (innermost (scopes s) (define_name d.bytes));
  inner = added s.inner (define_name d.bytes) (record { token = d.token; thing = things.Number (define_value d.bytes).of });
}

-- the name of a function, by its number: rule 1 where the scope has it as another kind
abbrev pub function_name_walk : Around → ℕ → Name → Walks
function_name_walk a n name s = record {
  found = second (at a name.token) (innermost (scopes s) name.bytes) true;
  inner = added s.inner name.bytes (entry name (things.Function n));
}

-- the type of the result of the function of this number
abbrev pub result_of : List FunctionType → ℕ → Option CType
result_of functions n = result_type (slice_get functions n)

-- inside the function of this number
abbrev pub returning : Around → ℕ → Around
returning a n = record { file = a.file; functions = a.functions; values = a.values; result = result_of a.functions n }

-- what a body breaks, whose outermost scope has the parameters
abbrev pub body_violations : Around → Body → Sight → List Violation
body_violations a (bodies.Prototype k) s = []
body_violations a (bodies.Block b) s = (in_block a b s).found

-- a function: its parameters in a scope of their own, its name, and its body in the scope of the parameters
abbrev pub function_walk : Around → ℕ → Function → Walks
function_walk a n f s =
    let ps = params_walk a f.params (inside (scopes s)) in
    let name = function_name_walk a n f.name in
    record {
      found = ps.found ++ (name s).found ++ body_violations (returning a n) f.body (record { outer = scopes (after name s); inner = ps.inner });
      inner = (name s).inner;
    }

-- what the file has at its outside, behind so many functions
abbrev pub external_walk : Around → ℕ → External → Walks
external_walk a n (externals.Define d) = define_walk a d
external_walk a n (externals.Function f) = function_walk a n f
external_walk a n (externals.Variables v) = variables_walk a true v

-- the functions up to behind it
abbrev pub functions_with : ℕ → External → ℕ
functions_with n (externals.Define d) = n
functions_with n (externals.Function f) = n + 1
functions_with n (externals.Variables v) = n

abbrev pub externals_walk : Around → ℕ → List External → Walks
externals_walk a n [] = nothing
externals_walk a n (e ∷ es) = both (external_walk a n e) (externals_walk a (functions_with n e) es)

-- the outside of a file
abbrev pub outside_of : ℕ → List FunctionType → CFile → Around
outside_of file functions f = record { file = file; functions = functions; values = values_behind no_values f.externals; result = None }

-- what a file of this number breaks by names, types and initialisers
abbrev pub file_violations : ℕ → List FunctionType → CFile → List Violation
file_violations file functions f = (externals_walk (outside_of file functions f) 0 f.externals (inside [])).found
