-- Where statements stand.
use Rattle.std.specs.Prelude.{ℕ, Bool, Option, List, [], ◌∷◌, ◌++◌}
use Rattle.sv_signatures.specs.declared.signatures.Signature.{Signature}
use Rattle.sv_signatures.specs.declared.signatures.ImportSignature.{ImportSignature}
use Rattle.sv_names.specs.Names.{Names, no_names}
use Rattle.sv_names.specs.Scopes.{find, find_called}
use Rattle.sv_names.specs.Declaring.{Declared, with_all}
use Rattle.sv_typing.specs.declared.types.ExprType.{ExprType}
use Rattle.sv_judge.specs.Calls.{Env}
use Rattle.sv_walk.specs.declared.around.Around.{Around}

-- what statements see: the scopes around them, the outermost first; what the module has; and the type that `return` gives
pub record Inside : Type 0 where
  pub file : ℕ
  pub scopes : List Names
  pub subroutines : List Signature
  pub imports : List ImportSignature
  pub in_function : Bool
  pub result : Option ExprType

-- what the code's place means, in these scopes
abbrev pub inside : Around → List Names → Inside
inside around scopes = record {
  file = around.file;
  scopes = scopes;
  subroutines = around.subroutines.now;
  imports = around.imports.now;
  in_function = around.in_function;
  result = around.result;
}

-- where an expression stands there
abbrev pub env : Inside → Env
env i = record {
  file = i.file;
  values = find i.scopes;
  calls = find_called i.scopes;
  subroutines = i.subroutines;
  imports = i.imports;
  in_function = i.in_function;
}

-- inside one scope more, with these declarations
abbrev pub within : Inside → List Declared → Inside
within i ds = record i { scopes = i.scopes ++ with_all no_names ds ∷ [] }
