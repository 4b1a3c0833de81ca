-- What a name means inside several scopes, of which the outermost comes first.
use Rattle.std.specs.Prelude.{Option, Some, None, List, [], ◌∷◌, map}
use Rattle.sv_names.specs.declared.entry.Entry.{Entry}
use Rattle.sv_names.specs.declared.entry.Thing.{Thing}
use Rattle.sv_names.specs.declared.entry.Thing.TheVariants as things
use Rattle.sv_names.specs.declared.scopes.Scopes.{Scopes}
use Rattle.sv_names.specs.Names.{Names, or_else, names_of}

-- the innermost declaration
abbrev pub find : List Names → Names
find [] name = None
find (outer ∷ inner) name = or_else (find inner name) (outer name)

-- a declaration of this, if it isn't a result
abbrev pub unless_result : Entry → Thing → Option Entry
unless_result entry (things.Variable kind) = Some entry
unless_result entry (things.Result kind) = None
unless_result entry (things.Function n) = Some entry
unless_result entry (things.Task n) = Some entry
unless_result entry (things.Import n) = Some entry
unless_result entry things.Block = Some entry
unless_result entry things.Instance = Some entry

-- the declaration, if it isn't a result
abbrev pub not_result : Option Entry → Option Entry
not_result None = None
not_result (Some entry) = unless_result entry entry.thing

-- the names of a scope without results
abbrev pub callable : Names → Names
callable names name = not_result (names name)

-- the innermost declaration that isn't a result: what a call and `disable` mean
abbrev pub find_called : List Names → Names
find_called [] name = None
find_called (outer ∷ inner) name = or_else (find_called inner name) (callable outer name)

-- what the code's scopes mean
abbrev pub scopes_of : Scopes → List Names
scopes_of scopes = map names_of scopes.stack.items
