-- Functions and files.
use Rattle.std.specs.Prelude.{ℕ, false, List, [], ◌++◌, flat_map}
use Rattle.c_tree.specs.declared.file.Body.{Body}
use Rattle.c_tree.specs.declared.file.Body.TheVariants as bodies
use Rattle.c_tree.specs.declared.file.Function.{Function}
use Rattle.c_tree.specs.declared.file.External.{External}
use Rattle.c_tree.specs.declared.file.External.TheVariants as externals
use Rattle.c_tree.specs.declared.file.CFile.{CFile}
use Rattle.c_forms.specs.declared.around.Around.{Around}
use Rattle.c_forms.specs.Declarations.{Broken, is_valued, params_violations, variables_violations}
use Rattle.c_forms.specs.Statements.{in_block}

-- the outside of a function's body
abbrev pub outside : Function → Around
outside f = record { valued = is_valued f.kind f.stars; looped = false }

abbrev pub body_violations : ℕ → Around → Body → Broken
body_violations file around (bodies.Prototype k) = []
body_violations file around (bodies.Block b) = in_block file b around

abbrev pub function_violations : ℕ → Function → Broken
function_violations file f = params_violations file f.name.token f.params ++ body_violations file (outside f) f.body

abbrev pub external_violations : ℕ → External → Broken
external_violations file (externals.Define d) = []
external_violations file (externals.Function f) = function_violations file f
external_violations file (externals.Variables v) = variables_violations file v

-- what a file of this number breaks
abbrev pub file_violations : ℕ → CFile → Broken
file_violations file f = flat_map (external_violations file) f.externals
