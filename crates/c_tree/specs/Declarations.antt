-- What declarations of variables and parameters tell.
use Rattle.std.specs.Prelude.{Bool, true, false, not, ◌&&◌, List, [], ◌∷◌, map, is_none, option_map}
use Rattle.dpi_grammar.specs.Told.{◌&◌, noted, kept, maybe, between, some_between}
use Rattle.c_tree.specs.declared.class.Class.TheVariants as classes
use Rattle.c_tree.specs.declared.types.BaseWord.{BaseWord}
use Rattle.c_tree.specs.declared.types.BaseWord.TheVariants as words
use Rattle.c_tree.specs.declared.declarations.Store.{Store}
use Rattle.c_tree.specs.declared.declarations.Size.{Size}
use Rattle.c_tree.specs.declared.declarations.Size.TheVariants as sizes
use Rattle.c_tree.specs.declared.declarations.Array.{Array}
use Rattle.c_tree.specs.declared.declarations.Init.{Init}
use Rattle.c_tree.specs.declared.declarations.Init.TheVariants as inits
use Rattle.c_tree.specs.declared.declarations.Initializer.{Initializer}
use Rattle.c_tree.specs.declared.declarations.Declarator.{Declarator}
use Rattle.c_tree.specs.declared.declarations.Variables.{Variables}
use Rattle.c_tree.specs.declared.declarations.ParamArray.{ParamArray}
use Rattle.c_tree.specs.declared.declarations.Param.{Param}
use Rattle.c_tree.specs.declared.declarations.Params.{Params}
use Rattle.c_tree.specs.declared.declarations.Params.TheVariants as params
use Rattle.c_tree.specs.Leaves.{Tells, quoted, comma, name_told, number_told}
use Rattle.c_tree.specs.Stores.{store_class}
use Rattle.c_tree.specs.Types.{type_told, stars_told}
use Rattle.c_tree.specs.Expressions.{expr_told}

-- "static" | "extern"
abbrev pub store_told : Store → Tells
store_told s = noted s.token & quoted (store_class s.kind)

-- number | id ("(" number ")")?
abbrev pub size_told : Size → Tells
size_told (sizes.Number n) = number_told n
size_told (sizes.Name n) = name_told n
size_told (sizes.Call n k m) = name_told n & noted k & quoted classes.OpenParen & number_told m & quoted classes.CloseParen

-- "[" size "]"
abbrev pub array_told : Array → Tells
array_told a = noted a.token & quoted classes.OpenBracket & size_told a.size & quoted classes.CloseBracket

-- expr | "{" expr,+ "}"
abbrev pub init_told : Init → Tells
init_told (inits.Value e) = expr_told e
init_told (inits.List k es) = noted k & quoted classes.OpenBrace & some_between comma (map expr_told es) & quoted classes.CloseBrace

-- "=" cinit
abbrev pub initializer_told : Initializer → Tells
initializer_told i = noted i.token & quoted classes.Assign & init_told i.value

-- stars id ("[" size "]")? ("=" cinit)?
abbrev pub declarator_told : Declarator → Tells
declarator_told d = stars_told d.stars & name_told d.name & maybe (option_map array_told d.array) & maybe (option_map initializer_told d.initializer)

-- store? type cdecl,+ ";"
abbrev pub variables_told : Variables → Tells
variables_told v = maybe (option_map store_told v.store) & type_told v.kind & some_between comma (map declarator_told v.declarators) & quoted classes.Semicolon

-- "[" size? "]"
abbrev pub param_array_told : ParamArray → Tells
param_array_told a = noted a.token & quoted classes.OpenBracket & maybe (option_map size_told a.size) & quoted classes.CloseBracket

-- type stars id? ("[" size? "]")?
abbrev pub param_told : Param → Tells
param_told p = type_told p.kind & stars_told p.stars & maybe (option_map name_told p.name) & maybe (option_map param_array_told p.array)

-- there is none
abbrev pub is_empty : {A : Type 0} → List A → Bool
is_empty [] = true
is_empty (x ∷ xs) = false

-- the word `void` alone
abbrev pub is_void : List BaseWord → Bool
is_void (words.Void ∷ []) = true
is_void _ = false

-- one parameter that is the word `void` alone
abbrev pub is_only_void : List Param → Bool
is_only_void (p ∷ []) = is_empty p.kind.before && is_void p.kind.base && is_empty p.kind.behind && is_empty p.stars && is_none p.name && is_none p.array
is_only_void _ = false

-- "void" | (param,+)?
abbrev pub params_told : Params → Tells
params_told (params.Void k) = noted k & quoted classes.Void
params_told (params.List ps) = kept (not (is_only_void ps)) & between comma (map param_told ps)
