-- What a name means inside several scopes, of which the outermost comes first.
use Rattle.std.specs.Prelude.{None, List, [], ◌∷◌, map}
use Rattle.c_names.specs.declared.scopes.Scopes.{Scopes}
use Rattle.c_names.specs.Names.{Names, no_names, or_else, names_of}

-- the innermost declaration
abbrev pub find : List Names → Names
find [] name = None
find (outer ∷ inner) name = or_else (find inner name) (outer name)

-- the last of some scopes, of which the first is given apart
abbrev pub last_of : Names → List Names → Names
last_of names [] = names
last_of names (next ∷ more) = last_of next more

-- the names of the innermost scope
abbrev pub innermost : List Names → Names
innermost [] = no_names
innermost (outer ∷ inner) = last_of outer inner

-- what the code's scopes mean
abbrev pub scopes_of : Scopes → List Names
scopes_of scopes = map names_of scopes.stack.items
