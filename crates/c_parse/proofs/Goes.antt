-- With which tokens declarations, statements and files go on: the kinds of trees.
use Rattle.std.proofs.Common.{ℕ, Bool, false, ◌&&◌, ◌||◌, List, [], ◌∷◌, Option, None}
use Rattle.dpi_grammar.proofs.Exact.{Kind}
use Rattle.dpi_grammar.proofs.Rules.{never}
use Rattle.dpi_grammar.proofs.Many.{option, a_list, list}
use Rattle.dpi_lex.specs.Words.{Word}
use Rattle.c_tree.specs.declared.class.Class.TheVariants as classes
use Rattle.c_tree.specs.declared.types.BaseWord.TheVariants as words
use Rattle.c_tree.specs.declared.types.CType.{CType}
use Rattle.c_tree.specs.declared.leaves.Name.{Name}
use Rattle.c_tree.specs.declared.declarations.Store.{Store}
use Rattle.c_tree.specs.declared.declarations.Size.{Size}
use Rattle.c_tree.specs.declared.declarations.Size.TheVariants as sizes
use Rattle.c_tree.specs.declared.declarations.Array.{Array}
use Rattle.c_tree.specs.declared.declarations.Init.{Init}
use Rattle.c_tree.specs.declared.declarations.Init.TheVariants as inits
use Rattle.c_tree.specs.declared.declarations.Initializer.{Initializer}
use Rattle.c_tree.specs.declared.declarations.Declarator.{Declarator}
use Rattle.c_tree.specs.declared.declarations.Variables.{Variables}
use Rattle.c_tree.specs.declared.declarations.ParamArray.{ParamArray}
use Rattle.c_tree.specs.declared.declarations.Param.{Param}
use Rattle.c_tree.specs.declared.declarations.Params.{Params}
use Rattle.c_tree.specs.declared.declarations.Params.TheVariants as params
use Rattle.c_tree.specs.declared.statements.Start.{Start}
use Rattle.c_tree.specs.declared.statements.Stmt.{Stmt}
use Rattle.c_tree.specs.declared.statements.Block.{Block}
use Rattle.c_tree.specs.declared.statements.Part.{Part}
use Rattle.c_tree.specs.declared.statements.Else.{Else}
use Rattle.c_tree.specs.declared.statements.ElseIf.{ElseIf}
use Rattle.c_tree.specs.declared.statements.If.{If}
use Rattle.c_tree.specs.declared.file.Body.{Body}
use Rattle.c_tree.specs.declared.file.External.{External}
use Rattle.c_tree.specs.declared.file.CFile.{CFile}
use Rattle.c_tree.specs.Classes.{is}
use Rattle.c_tree.specs.Leaves.{Tells, comma}
use Rattle.c_tree.specs.Declarations.{store_told, size_told, array_told, init_told, initializer_told, declarator_told, variables_told, param_array_told, param_told, params_told}
use Rattle.c_tree.specs.Statements.{start_told, stmt_told, block_told, part_told, else_if_told, else_told, if_told}
use Rattle.c_tree.specs.File.{body_told, external_told, file_told}
use Rattle.c_cursor.proofs.LeafRules.{a_name}
use Rattle.c_types.specs.Reading.{begins_type}
use Rattle.c_types.proofs.TypeRules.{a_type, some_stars}
use Rattle.c_parse.specs.Front.{begins_external}
use Rattle.c_expr.proofs.Goes.{an_expr}

-- ---- declarations

abbrev pub a_store : Kind Word Store
a_store = record { told = store_told; grabs = λ _ _. false }

-- a name alone may be a call's
abbrev pub size_grabs : Size → Option Word → Bool
size_grabs (sizes.Name n) t = is classes.OpenParen t || false
size_grabs _ t = false

abbrev pub a_size : Kind Word Size
a_size = record { told = size_told; grabs = size_grabs }

abbrev pub an_array : Kind Word Array
an_array = record { told = array_told; grabs = λ _ _. false }

abbrev pub init_grabs : Init → Option Word → Bool
init_grabs (inits.Value e) t = an_expr.grabs e t
init_grabs (inits.List k es) t = false

abbrev pub an_init : Kind Word Init
an_init = record { told = init_told; grabs = init_grabs }

abbrev pub an_initializer : Kind Word Initializer
an_initializer = record { told = initializer_told; grabs = λ i. init_grabs i.value }

abbrev pub maybe_array : Kind Word (Option Array)
maybe_array = option (is classes.OpenBracket) an_array never

abbrev pub maybe_initializer : Option Array → Kind Word (Option Initializer)
maybe_initializer a = option (is classes.Assign) an_initializer (maybe_array.grabs a)

abbrev pub a_declarator : Kind Word Declarator
a_declarator = record { told = declarator_told; grabs = λ d. (maybe_initializer d.array).grabs d.initializer }

abbrev pub some_variables : Kind Word Variables
some_variables = record { told = variables_told; grabs = λ _ _. false }

-- ---- parameters

abbrev pub a_param_array : Kind Word ParamArray
a_param_array = record { told = param_array_told; grabs = λ _ _. false }

-- behind what stands before it
abbrev pub maybe_name : (Option Word → Bool) → Kind Word (Option Name)
maybe_name before = option (is classes.Name) a_name before

abbrev pub maybe_param_array : (Option Word → Bool) → Kind Word (Option ParamArray)
maybe_param_array before = option (is classes.OpenBracket) a_param_array before

abbrev pub a_param : Kind Word Param
a_param = record { told = param_told; grabs = λ p. (maybe_param_array ((maybe_name ((some_stars (a_type.grabs p.kind)).grabs p.stars)).grabs p.name)).grabs p.array }

-- `void` alone
abbrev pub void_type : ℕ → CType
void_type k = record { token = k; before = []; base = words.Void ∷ []; behind = [] }

abbrev pub void_param : ℕ → Param
void_param k = record { kind = void_type k; stars = []; name = None; array = None }

-- the parameters as a list
abbrev pub listed_params : Params → List Param
listed_params (params.Void k) = void_param k ∷ []
listed_params (params.List ps) = ps

abbrev pub some_params : Kind Word (List Param)
some_params = a_list begins_type (is classes.Comma) comma a_param never

abbrev pub the_params : Kind Word Params
the_params = record { told = params_told; grabs = λ p. some_params.grabs (listed_params p) }

-- ---- statements

-- only an `else` goes on with a statement, where it ends in an `if` that has none
abbrev pub else_grabs : Tells → Option Word → Bool
else_grabs a t = is classes.Else t && a.unended

abbrev pub a_stmt : Kind Word Stmt
a_stmt = record { told = stmt_told; grabs = λ s. else_grabs (stmt_told s) }

abbrev pub a_block : Kind Word Block
a_block = record { told = block_told; grabs = λ _ _. false }

abbrev pub a_part : Kind Word Part
a_part = record { told = part_told; grabs = λ p. else_grabs (part_told p) }

abbrev pub an_else_if : Kind Word ElseIf
an_else_if = record { told = else_if_told; grabs = λ p. else_grabs (else_if_told p) }

abbrev pub an_else : Kind Word Else
an_else = record { told = else_told; grabs = λ p. else_grabs (else_told p) }

abbrev pub an_if : Kind Word If
an_if = record { told = if_told; grabs = λ i. else_grabs (if_told i) }

abbrev pub a_start : Kind Word Start
a_start = record { told = start_told; grabs = λ _ _. false }

-- ---- files

abbrev pub a_body : Kind Word Body
a_body = record { told = body_told; grabs = λ _ _. false }

abbrev pub an_external : Kind Word External
an_external = record { told = external_told; grabs = λ _ _. false }

abbrev pub some_externals : Kind Word (List External)
some_externals = list begins_external an_external never

abbrev pub a_file : Kind Word CFile
a_file = record { told = file_told; grabs = λ f. some_externals.grabs f.externals }
