-- What external declarations and files tell.
use Rattle.std.specs.Prelude.{map, option_map}
use Rattle.dpi_grammar.specs.Told.{◌&◌, noted, each, maybe}
use Rattle.c_tree.specs.declared.class.Class.TheVariants as classes
use Rattle.c_tree.specs.declared.file.Body.{Body}
use Rattle.c_tree.specs.declared.file.Body.TheVariants as bodies
use Rattle.c_tree.specs.declared.file.Function.{Function}
use Rattle.c_tree.specs.declared.file.External.{External}
use Rattle.c_tree.specs.declared.file.External.TheVariants as externals
use Rattle.c_tree.specs.declared.file.CFile.{CFile}
use Rattle.c_tree.specs.Leaves.{Tells, quoted, name_told, define_told}
use Rattle.c_tree.specs.Types.{type_told, stars_told}
use Rattle.c_tree.specs.Declarations.{store_told, params_told, variables_told}
use Rattle.c_tree.specs.Statements.{block_told}

-- ";" | block
abbrev pub body_told : Body → Tells
body_told (bodies.Prototype k) = noted k & quoted classes.Semicolon
body_told (bodies.Block b) = block_told b

-- store? type stars id "(" params ")" (";" | block)
abbrev pub function_told : Function → Tells
function_told f =
    maybe (option_map store_told f.store) & type_told f.kind & stars_told f.stars & name_told f.name & noted f.token & quoted classes.OpenParen & params_told f.params & quoted classes.CloseParen & body_told f.body

-- define | store? type stars id "(" params ")" (";" | block) | vardecl
abbrev pub external_told : External → Tells
external_told (externals.Define d) = define_told d
external_told (externals.Function f) = function_told f
external_told (externals.Variables v) = variables_told v

-- external*
abbrev pub file_told : CFile → Tells
file_told f = each (map external_told f.externals)
