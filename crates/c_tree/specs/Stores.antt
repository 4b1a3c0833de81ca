-- Words for where a name is stored.
use Rattle.std.specs.Prelude.{Option, Some, None}
use Rattle.c_tree.specs.declared.class.Class.{Class}
use Rattle.c_tree.specs.declared.class.Class.TheVariants as classes
use Rattle.c_tree.specs.declared.declarations.StoreKind.{StoreKind}
use Rattle.c_tree.specs.declared.declarations.StoreKind.TheVariants as stores

-- the class of its token
abbrev pub store_class : StoreKind → Class
store_class stores.Static = classes.Static
store_class stores.Extern = classes.Extern

-- what a token of a class stands for
abbrev pub store_of : Option Class → Option StoreKind
store_of (Some classes.Static) = Some stores.Static
store_of (Some classes.Extern) = Some stores.Extern
store_of _ = None
