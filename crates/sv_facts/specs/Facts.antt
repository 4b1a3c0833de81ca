-- What is told of one name, and of an expression by itself.
use Rattle.std.specs.Prelude.{ℕ, Option, Some, None, List, [], ◌∷◌}
use Rattle.sv_tree.specs.declared.leaves.Name.{Name}
use Rattle.sv_tree.specs.declared.expr.Expr.{Expr, out-Expr}
use Rattle.sv_names.specs.declared.entry.Entry.{Entry}
use Rattle.sv_names.specs.declared.entry.Thing.{Thing}
use Rattle.sv_names.specs.declared.entry.Thing.TheVariants as things
use Rattle.sv_typing.specs.declared.types.Operand.{Operand}
use Rattle.sv_judge.specs.Calls.{Env}
use Rattle.sv_judge.specs.Judge.{judge}
use Rattle.sv_facts.specs.declared.facts.Meant.{Meant}
use Rattle.sv_facts.specs.declared.facts.Meant.TheVariants as meanings
use Rattle.sv_facts.specs.declared.facts.Fact.{Fact}
use Rattle.sv_facts.specs.declared.facts.Fact.TheVariants as facts

-- what a name means that declares this at this token
abbrev pub thing_meant : ℕ → Thing → Option Meant
thing_meant token (things.Variable kind) = Some (meanings.Declaration token)
thing_meant token (things.Result kind) = Some (meanings.Declaration token)
thing_meant token (things.Function n) = Some (meanings.Subroutine token)
thing_meant token (things.Task n) = Some (meanings.Subroutine token)
thing_meant token (things.Import n) = Some (meanings.Import token)
thing_meant token things.Block = Some (meanings.Block token)
thing_meant token things.Instance = None

-- what a name means by its declaration
abbrev pub meant : Option Entry → Option Meant
meant None = None
meant (Some entry) = thing_meant entry.token entry.thing

-- the name at this token, if it means anything
abbrev pub name_fact : ℕ → Option Meant → List Fact
name_fact token None = []
name_fact token (Some m) = facts.Name token m ∷ []

-- the name at this token, which is so declared
abbrev pub name_facts : ℕ → Option Entry → List Fact
name_facts token entry = name_fact token (meant entry)

-- a name where a value stands
abbrev pub value_facts : Env → Name → List Fact
value_facts env name = name_facts name.token (env.values name.bytes)

-- a name that is called or disabled
abbrev pub called_facts : Env → Name → List Fact
called_facts env name = name_facts name.token (env.calls name.bytes)

-- what begins at this token, if it has a value
abbrev pub type_fact : ℕ → Option Operand → List Fact
type_fact token None = []
type_fact token (Some o) = facts.Type token o.of ∷ []

-- the type of an expression by itself, if it has one
abbrev pub type_facts : Env → Expr → List Fact
type_facts env e = type_fact (out-Expr e).token (judge env e).whole.value
