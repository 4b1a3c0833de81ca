-- Declarations: `extern` with an initialiser, too many parameters, functions without a result.
use Rattle.std.specs.Prelude.{ℕ, nat_lt, Bool, true, false, if◌then◌else◌, Option, Some, None, List, [], ◌∷◌, flat_map, length}
use Rattle.dpi_rules.specs.declared.violation.Violation.{Violation}
use Rattle.dpi_rules.specs.Order.{violation}
use Rattle.c_tree.specs.declared.leaves.Name.{Name}
use Rattle.c_tree.specs.declared.types.BaseWord.{BaseWord}
use Rattle.c_tree.specs.declared.types.BaseWord.TheVariants as words
use Rattle.c_tree.specs.declared.types.CType.{CType}
use Rattle.c_tree.specs.declared.types.Star.{Star}
use Rattle.c_tree.specs.declared.declarations.StoreKind.{StoreKind}
use Rattle.c_tree.specs.declared.declarations.StoreKind.TheVariants as stores
use Rattle.c_tree.specs.declared.declarations.Store.{Store}
use Rattle.c_tree.specs.declared.declarations.Initializer.{Initializer}
use Rattle.c_tree.specs.declared.declarations.Declarator.{Declarator}
use Rattle.c_tree.specs.declared.declarations.Variables.{Variables}
use Rattle.c_tree.specs.declared.declarations.Params.{Params}
use Rattle.c_tree.specs.declared.declarations.Params.TheVariants as params

-- what a part breaks
abbrev pub Broken : Type 0
Broken = List Violation

abbrev pub is_extern_kind : StoreKind → Bool
is_extern_kind stores.Static = false
is_extern_kind stores.Extern = true

abbrev pub is_extern : Option Store → Bool
is_extern None = false
is_extern (Some store) = is_extern_kind store.kind

-- an initialiser of what is `extern` breaks the rule at the name
abbrev pub begins_violations : ℕ → ℕ → Option Initializer → Broken
begins_violations file name None = []
begins_violations file name (Some i) = violation file name 23 ∷ []

abbrev pub declarator_violations : ℕ → Bool → Declarator → Broken
declarator_violations file extern d = if extern then begins_violations file d.name.token d.initializer else []

-- what variables of one type break
abbrev pub variables_violations : ℕ → Variables → Broken
variables_violations file v = flat_map (declarator_violations file (is_extern v.store)) v.declarators

-- the most parameters of a function
abbrev pub MOST_PARAMS : ℕ
MOST_PARAMS = 64

abbrev pub params_count : Params → ℕ
params_count (params.Void k) = 0
params_count (params.List ps) = length ps

-- more parameters break the rule at the function's name
abbrev pub params_violations : ℕ → ℕ → Params → Broken
params_violations file name ps = if nat_lt MOST_PARAMS (params_count ps) then violation file name 20 ∷ [] else []

abbrev pub is_void_word : BaseWord → Bool
is_void_word words.Void = true
is_void_word other = false

-- `void` is a base of one word
abbrev pub are_void : List BaseWord → Bool
are_void [] = false
are_void (w ∷ ws) = is_void_word w

-- `void` without a star: no result
abbrev pub is_valued : CType → List Star → Bool
is_valued type (star ∷ more) = true
is_valued type [] = if are_void type.base then false else true
