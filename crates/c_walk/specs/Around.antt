-- Where declarations and statements stand, names aside.
use Rattle.std.specs.Prelude.{ℕ, ◌==◌, ℤ, if◌then◌else◌, Option, Some, None, List, [], ◌∷◌}
use Rattle.std.specs.BTreeMap as tree
use Rattle.std.specs.Ordering.{nat_cmp}
use Rattle.dpi_literal.specs.Constants.{define_value}
use Rattle.c_base.specs.declared.ctype.CType.{CType}
use Rattle.c_tree.specs.declared.leaves.Define.{Define}
use Rattle.c_tree.specs.declared.file.External.{External}
use Rattle.c_tree.specs.declared.file.External.TheVariants as externals
use Rattle.c_typing.specs.declared.place.Place.{Place}
use Rattle.c_names.specs.Names.{Names}
use Rattle.c_names.specs.Scopes.{find}
use Rattle.c_functions.specs.declared.types.FunctionType.{FunctionType}
use Rattle.c_judge.specs.Calls.{Env}
use Rattle.c_walk.specs.declared.defines.Defines.{Defines}
use Rattle.c_walk.specs.declared.outside.Outside.{Outside}

-- the values of defines, by their tokens
abbrev pub Values : Type 0
Values = ℕ → Option ℤ

abbrev pub no_values : Values
no_values token = None

-- one more value
abbrev pub with_value : Values → ℕ → ℤ → Values
with_value values token v other = if token == other then Some v else values other

abbrev pub define_values : Values → Define → Values
define_values values d = with_value values d.token (define_value d.bytes).value

-- a define has a value
abbrev pub external_values : Values → External → Values
external_values values (externals.Define d) = define_values values d
external_values values (externals.Function f) = values
external_values values (externals.Variables v) = values

-- the values of defines in text order
abbrev pub values_behind : Values → List External → Values
values_behind values [] = values
values_behind values (e ∷ es) = values_behind (external_values values e) es

-- what the code's defines mean
abbrev pub values_of : Defines → Values
values_of defines token = tree.get nat_cmp defines.values token

-- the file, the types of its functions, the values of its defines, and the type of the result of the function around
pub record Around : Type 0 where
  pub file : ℕ
  pub functions : List FunctionType
  pub values : Values
  pub result : Option CType

-- what the code's place means
abbrev pub around_of : Outside → Around
around_of o = record { file = o.file; functions = o.functions.now; values = values_of o.defines.now; result = o.result }

-- a token of the file
abbrev pub at : Around → ℕ → Place
at a token = record { file = a.file; token = token }

-- where an expression stands
abbrev pub env : Around → List Names → Env
env a names = record { file = a.file; names = find names; functions = a.functions }
