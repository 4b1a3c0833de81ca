-- External declarations, and a whole file (ISO C 6.9).
use Rattle.std.specs.Prelude.{ℕ, Bool, true, false, Option, Some, None, List, [], ◌∷◌, ◌++◌}
use Rattle.c_tree.specs.declared.leaves.Name.{Name}
use Rattle.c_tree.specs.declared.file.Body.{Body}
use Rattle.c_tree.specs.declared.file.Body.TheVariants as bodies
use Rattle.c_tree.specs.declared.file.Function.{Function}
use Rattle.c_tree.specs.declared.file.External.{External}
use Rattle.c_tree.specs.declared.file.External.TheVariants as externals
use Rattle.c_tree.specs.declared.file.CFile.{CFile}
use Rattle.c_names.specs.declared.entry.Entry.{Entry}
use Rattle.c_names.specs.Scopes.{innermost}
use Rattle.c_functions.specs.Types.{function_types}
use Rattle.c_walk.specs.Sight.{Sight, scopes, inside, after}
use Rattle.c_walk.specs.Around.{Around}
use Rattle.c_walk.specs.File.{define_walk, function_name_walk, functions_with, outside_of}
use Rattle.c_facts.specs.declared.facts.CMeant.TheVariants as meanings
use Rattle.c_facts.specs.declared.facts.CFact.TheVariants as facts
use Rattle.c_meanings.specs.Places.{Facts}
use Rattle.c_meanings.specs.Sight.{Tells, brings, both, nothing}
use Rattle.c_meanings.specs.Declarations.{variables_tell, params_tell}
use Rattle.c_meanings.specs.Statements.{in_block}

-- the token of the name that declares a function first: an earlier one of the scope, or its own
abbrev pub first_token : ℕ → Option Entry → ℕ
first_token token None = token
first_token token (Some earlier) = earlier.token

-- the name of a function
abbrev pub function_name_facts : Name → Option Entry → Facts
function_name_facts n earlier = facts.Name n.token (meanings.Function (first_token n.token earlier)) ∷ []

abbrev pub has_body : Body → Bool
has_body (bodies.Prototype k) = false
has_body (bodies.Block b) = true

-- a body, whose outermost scope has the parameters
abbrev pub body_facts : Around → Body → Sight → Facts
body_facts a (bodies.Prototype k) s = []
body_facts a (bodies.Block b) s = (in_block a b s).facts

-- a function: its name, its parameters in a scope of their own, and its body in the scope of the parameters, behind its name
abbrev pub function_tells : Around → ℕ → Function → Tells
function_tells a n f s =
    let ps = params_tell a (has_body f.body) f.params (inside (scopes s)) in
    let name = function_name_walk a n f.name in
    record {
      facts = function_name_facts f.name (innermost (scopes s) f.name.bytes) ++ ps.facts ++ body_facts a f.body (record { outer = scopes (after name s); inner = ps.inner });
      inner = (name s).inner;
    }

-- what the file has at its outside, behind so many functions; a define brings its name in sight
abbrev pub external_tells : Around → ℕ → External → Tells
external_tells a n (externals.Define d) = brings (define_walk a d)
external_tells a n (externals.Function f) = function_tells a n f
external_tells a n (externals.Variables v) = variables_tell a true v

abbrev pub externals_tell : Around → ℕ → List External → Tells
externals_tell a n [] = nothing
externals_tell a n (e ∷ es) = both (external_tells a n e) (externals_tell a (functions_with n e) es)

-- all facts of the file of this number
abbrev pub file_facts : ℕ → CFile → Facts
file_facts number f = (externals_tell (outside_of number (function_types f) f) 0 f.externals (inside [])).facts
