-- What the names of one scope mean.
use Rattle.std.specs.Prelude.{ℕ, Option, Some, None, List, if◌then◌else◌}
use Rattle.std.specs.BTreeMap.{get_by}
use Rattle.std.specs.Cmp.Lexicographic.{slice_cmp}
use Rattle.std.specs.Ordering.{nat_cmp}
use Rattle.std.specs.Str.{bytes_eq}
use Rattle.c_names.specs.declared.entry.Entry.{Entry}
use Rattle.c_names.specs.declared.scope.Scope.{Scope}

-- each name with its declaration, if there is one
abbrev pub Names : Type 0
Names = List ℕ → Option Entry

abbrev pub no_names : Names
no_names name = None

-- the first of both that is there
abbrev pub or_else : {A : Type 0} → Option A → Option A → Option A
or_else None b = b
or_else (Some a) b = Some a

-- one more declaration, which counts unless the name has one already
abbrev pub added : Names → List ℕ → Entry → Names
added names name entry other = or_else (names other) (if bytes_eq name other then Some entry else None)

-- what the code's scope means
abbrev pub names_of : Scope → Names
names_of scope name = get_by (λ k. slice_cmp nat_cmp name k.now) scope.entries
