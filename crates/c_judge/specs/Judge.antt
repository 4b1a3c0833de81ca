-- What an expression breaks, and what it is (ISO C 6.5).
use Rattle.std.specs.Prelude.{ℕ, ◌+◌, false, Option, Some, None, option_map, List, [], ◌∷◌, ◌++◌, map, flat_map}
use Rattle.dpi_rules.specs.declared.violation.Violation.{Violation}
use Rattle.dpi_chain.specs.Tree.{Link, tree_of, value_of}
use Rattle.c_base.specs.declared.ctype.CType.{CType}
use Rattle.c_tree.specs.declared.leaves.Name.{Name}
use Rattle.c_tree.specs.declared.expr.Prefix.{Prefix}
use Rattle.c_tree.specs.declared.expr.Prefix.TheVariants as prefixes
use Rattle.c_tree.specs.declared.expr.CExpr.{CExpr, out-CExpr, fold-CExpr}
use Rattle.c_tree.specs.declared.expr.Assignment.{Assignment, fold-Assignment}
use Rattle.c_tree.specs.declared.expr.Cond.{Cond, fold-Cond}
use Rattle.c_tree.specs.declared.expr.Choice.{Choice, fold-Choice}
use Rattle.c_tree.specs.declared.expr.Chain.{Chain, fold-Chain}
use Rattle.c_tree.specs.declared.expr.Term.{Term, fold-Term}
use Rattle.c_tree.specs.declared.expr.Operand.{Operand as OperandTree, fold-Operand}
use Rattle.c_tree.specs.declared.expr.Primary.{Primary, fold-Primary}
use Rattle.c_tree.specs.declared.expr.Suffix.{Suffix, fold-Suffix}
use Rattle.c_tree.specs.declared.expr.Primary.TheOpen.{Primary-F, Suffix-F, Assignment-F, CExpr-F, Chain-F, Choice-F, Cond-F, Operand-F, Term-F}
use Rattle.c_tree.specs.declared.types.CType.{CType as TypeTree}
use Rattle.c_tree.specs.declared.types.Star.{Star}
use Rattle.c_typing.specs.declared.place.Place.{Place}
use Rattle.c_typing.specs.declared.operand.Operand.{Operand}
use Rattle.c_typing.specs.declared.chain.Sign.{Sign}
use Rattle.c_typing.specs.declared.chain.Typed.{Typed}
use Rattle.c_typing.specs.declared.written.Declared.{Declared}
use Rattle.c_typing.specs.Judged.{Judged, rule_at}
use Rattle.c_typing.specs.Operands as operands
use Rattle.c_typing.specs.Written.{declared_of, star_rule}
use Rattle.c_typing.specs.Conversions.{conversion, condition}
use Rattle.c_typing.specs.Casts.{cast}
use Rattle.c_typing.specs.Unary.{unary, step}
use Rattle.c_typing.specs.Postfix.{index, dot, arrow}
use Rattle.c_typing.specs.Binary.{rank, binary_judged, typed}
use Rattle.c_typing.specs.Assigning.{assignment}
use Rattle.c_typing.specs.Choices as choices
use Rattle.c_names.specs.declared.uses.Callee.{Callee}
use Rattle.c_names.specs.Uses.{name_value, called}
use Rattle.c_judge.specs.declared.assignments.Side.{Side}
use Rattle.c_judge.specs.Words.{Word, layer_word, bare, alone, unchosen}
use Rattle.c_judge.specs.Calls.{Env, at, parameter, callee_violations, call_value, if_clean}

-- an expression with the token that it may be
pub record Seen : Type 0 where
  pub judged : Judged
  pub word : Word

-- an expression with its first token too
pub record Placed : Type 0 where
  pub token : ℕ
  pub judged : Judged
  pub word : Word

-- an assigning operator with the part behind it, and what that part breaks
pub record Assigned : Type 0 where
  pub found : List Violation
  pub side : Side

-- nothing is broken
abbrev pub clean : Option Operand → Judged
clean value = record { found = []; value = value }

-- what is broken before it
abbrev pub behind : List Violation → Judged → Judged
behind vs j = record { found = vs ++ j.found; value = j.value }

-- ---- prefixes

-- the type that a cast writes
abbrev pub declared_type : TypeTree → List Star → Option CType
declared_type tree stars = option_map (λ (d : Declared). d.of) (declared_of tree stars)

-- a prefix of an operand; of a cast the number of its stars is looked at too, at its type's first token
abbrev pub prefixed : Env → Prefix → Option Operand → Judged
prefixed env (prefixes.Sign k operator) operand = unary (at env k) operator operand
prefixed env (prefixes.Cast k tree stars) operand =
    behind (rule_at (at env tree.token) (star_rule stars false)) (cast (at env k) (declared_type tree stars) operand)

-- prefixes before an operand, of which the last applies first
abbrev pub prefixes_judged : Env → List Prefix → Judged → Judged
prefixes_judged env [] j = j
prefixes_judged env (p ∷ ps) j = let inner = prefixes_judged env ps j in behind inner.found (prefixed env p inner.value)

-- ---- suffixes

-- what a suffix makes of what stands before it
abbrev pub Suffixes : Type 0
Suffixes = Option Operand → Judged

-- suffixes in turn
abbrev pub suffixed : List Suffixes → Suffixes
suffixed [] operand = clean operand
suffixed (f ∷ fs) operand = let j = f operand in behind j.found (suffixed fs j.value)

-- suffixes behind an operand
abbrev pub suffixes_judged : List Suffixes → Judged → Judged
suffixes_judged fs j = behind j.found (suffixed fs j.value)

-- ---- calls

-- arguments in turn, of which the first has this number: each is converted to its parameter's type
abbrev pub arguments_violations : Env → Option Callee → ℕ → List Placed → List Violation
arguments_violations env callee i [] = []
arguments_violations env callee i (a ∷ more) =
    (a.judged.found ++ conversion (at env a.token) a.judged.value (parameter env callee i)) ++ arguments_violations env callee (i + 1) more

abbrev pub words_of : List Placed → List Word
words_of = map (λ (a : Placed). a.word)

abbrev pub values_of : List Placed → List (Option Operand)
values_of = map (λ (a : Placed). a.judged.value)

-- what a call of that name breaks
abbrev pub call_violations : Env → Name → List Placed → List Violation
call_violations env name args =
    let c = called (at env name.token) name.bytes (env.names name.bytes) in
    (c.found ++ arguments_violations env c.callee 0 args) ++ callee_violations env name.token c.callee (words_of args) (values_of args)

-- a call of that name; it has a type where nothing in it is broken
abbrev pub call_judged : Env → Name → List Placed → Judged
call_judged env name args =
    let c = called (at env name.token) name.bytes (env.names name.bytes) in
    let vs = call_violations env name args in
    record { found = vs; value = if_clean vs (call_value env c.callee (values_of args)) }

-- ---- chains and conditionals

-- how strongly an operator binds
abbrev pub binds : Sign → ℕ
binds s = rank s.operator

-- an operator and the operand behind it
abbrev pub Links : Type 0
Links = Link Sign Judged

-- a chain is split at the rightmost operator that binds least
abbrev pub chain_judged : Judged → List Links → Judged
chain_judged first rest = value_of binary_judged (tree_of binds first rest)

-- what is kept of an operator's right operand
abbrev pub link_typed : Links → Link Sign Typed
link_typed k = record { operator = k.operator; operand = typed k.operand }

-- a conditional, by the place of its condition's first token and by its condition
abbrev pub Choices : Type 0
Choices = Place → Option Operand → Judged

-- what a chain and what follows its `?` are
abbrev pub with_choice : Place → Judged → Option Choices → Judged
with_choice place c None = c
with_choice place c (Some choice) = behind c.found (choice place c.value)

-- ---- assignments

-- one assignment, by what stands before its operator and by the value
abbrev pub one_assigned : ℕ → Option Operand → Side → Option Operand → Judged
one_assigned file before s right =
    assignment (record { file = file; token = s.token }) (record { file = file; token = s.first }) s.operator before right

-- an operand and what is assigned to it: assignments group from the right
abbrev pub grouped : ℕ → Option Operand → List Side → Judged
grouped file value [] = clean value
grouped file value (s ∷ ss) =
    let right = grouped file s.value ss in
    behind right.found (one_assigned file value s right.value)

-- the part that stands last
abbrev pub last_value : Option Operand → List Side → Option Operand
last_value value [] = value
last_value value (s ∷ ss) = last_value s.value ss

abbrev pub sides : List Assigned → List Side
sides = map (λ (a : Assigned). a.side)

abbrev pub sides_found : List Assigned → List Violation
sides_found = flat_map (λ (a : Assigned). a.found)

-- the parts of an expression in turn, and then its assignments
abbrev pub assigned : Env → Judged → List Assigned → Judged
assigned env first rest =
    behind (first.found ++ sides_found rest) (grouped env.file first.value (sides rest))

-- a name where a value stands
abbrev pub named : Env → Name → Judged
named env n = name_value (at env n.token) n.bytes (env.names n.bytes)

-- ---- expressions, with what each of their parts is

module _ (env : Env) where
  abbrev pub primary_judged : Primary-F Seen Suffixes Assigned Placed Seen Choices Placed Seen Links → Judged
  primary_judged (Primary-F.Name n) = named env n
  primary_judged (Primary-F.Number n) = clean (Some (operands.number n.bytes))
  primary_judged (Primary-F.Character c) = clean (Some operands.character)
  primary_judged (Primary-F.Text t) = clean (Some operands.text)
  primary_judged (Primary-F.Null k) = clean (Some operands.null)
  primary_judged (Primary-F.Call name k args) = call_judged env name args
  primary_judged (Primary-F.Group k e) = e.judged

  abbrev pub primary_step : Primary-F Seen Suffixes Assigned Placed Seen Choices Placed Seen Links → Seen
  primary_step p = record { judged = primary_judged p; word = layer_word p }

  abbrev pub suffix_step : Suffix-F Seen Suffixes Assigned Placed Seen Choices Placed Seen Links → Suffixes
  suffix_step (Suffix-F.Index k e) operand = behind e.judged.found (index (at env k) operand e.judged.value)
  suffix_step (Suffix-F.Member k name) operand = dot (at env name.token) name.bytes operand
  suffix_step (Suffix-F.Arrow k name) operand = arrow (at env name.token) name.bytes operand
  suffix_step (Suffix-F.Increment k) operand = step (at env k) operand
  suffix_step (Suffix-F.Decrement k) operand = step (at env k) operand

  abbrev pub assignment_step : Assignment-F Seen Suffixes Assigned Placed Seen Choices Placed Seen Links → Assigned
  assignment_step a = record {
    found = a.value.judged.found;
    side = record { token = a.token; first = a.value.token; operator = a.operator; value = a.value.judged.value };
  }

  abbrev pub expr_step : CExpr-F Seen Suffixes Assigned Placed Seen Choices Placed Seen Links → Placed
  expr_step e = record { token = e.token; judged = assigned env e.first.judged e.rest; word = alone e.first.word e.rest }

  abbrev pub chain_step : Chain-F Seen Suffixes Assigned Placed Seen Choices Placed Seen Links → Seen
  chain_step c = record { judged = chain_judged c.first.judged c.rest; word = alone c.first.word c.rest }

  abbrev pub choice_step : Choice-F Seen Suffixes Assigned Placed Seen Choices Placed Seen Links → Choices
  choice_step c place condition =
      behind (c.yes.judged.found ++ c.no.judged.found) (choices.choice place (at env c.token) condition c.yes.judged.value c.no.judged.value)

  abbrev pub cond_step : Cond-F Seen Suffixes Assigned Placed Seen Choices Placed Seen Links → Placed
  cond_step c = record {
    token = c.token;
    judged = with_choice (at env c.token) c.chain.judged c.choice;
    word = unchosen c.chain.word c.choice;
  }

  abbrev pub operand_step : Operand-F Seen Suffixes Assigned Placed Seen Choices Placed Seen Links → Seen
  operand_step o = record {
    judged = prefixes_judged env o.prefixes (suffixes_judged o.suffixes o.primary.judged);
    word = bare o.prefixes o.suffixes o.primary.word;
  }

  abbrev pub term_step : Term-F Seen Suffixes Assigned Placed Seen Choices Placed Seen Links → Links
  term_step t = record { operator = record { place = at env t.token; operator = t.operator }; operand = t.operand.judged }

  -- an expression, with its first token
  abbrev pub placed : CExpr → Placed
  placed = fold-CExpr Seen Suffixes Assigned Placed Seen Choices Placed Seen Links primary_step suffix_step assignment_step expr_step chain_step choice_step cond_step operand_step term_step

  -- the parts of an expression
  abbrev pub primary : Primary → Seen
  primary = fold-Primary Seen Suffixes Assigned Placed Seen Choices Placed Seen Links primary_step suffix_step assignment_step expr_step chain_step choice_step cond_step operand_step term_step

  abbrev pub suffix : Suffix → Suffixes
  suffix = fold-Suffix Seen Suffixes Assigned Placed Seen Choices Placed Seen Links primary_step suffix_step assignment_step expr_step chain_step choice_step cond_step operand_step term_step

  abbrev pub assignment_of : Assignment → Assigned
  assignment_of = fold-Assignment Seen Suffixes Assigned Placed Seen Choices Placed Seen Links primary_step suffix_step assignment_step expr_step chain_step choice_step cond_step operand_step term_step

  abbrev pub chain : Chain → Seen
  chain = fold-Chain Seen Suffixes Assigned Placed Seen Choices Placed Seen Links primary_step suffix_step assignment_step expr_step chain_step choice_step cond_step operand_step term_step

  abbrev pub choice : Choice → Choices
  choice = fold-Choice Seen Suffixes Assigned Placed Seen Choices Placed Seen Links primary_step suffix_step assignment_step expr_step chain_step choice_step cond_step operand_step term_step

  abbrev pub cond : Cond → Placed
  cond = fold-Cond Seen Suffixes Assigned Placed Seen Choices Placed Seen Links primary_step suffix_step assignment_step expr_step chain_step choice_step cond_step operand_step term_step

  abbrev pub operand : OperandTree → Seen
  operand = fold-Operand Seen Suffixes Assigned Placed Seen Choices Placed Seen Links primary_step suffix_step assignment_step expr_step chain_step choice_step cond_step operand_step term_step

  abbrev pub term : Term → Links
  term = fold-Term Seen Suffixes Assigned Placed Seen Choices Placed Seen Links primary_step suffix_step assignment_step expr_step chain_step choice_step cond_step operand_step term_step

  -- what an expression breaks, and what it is
  abbrev pub judge : CExpr → Judged
  judge e = (placed e).judged

  -- what an expression breaks that is converted to a type
  abbrev pub value_violations : CExpr → Option CType → List Violation
  value_violations e to = (judge e).found ++ conversion (at env (out-CExpr e).token) (judge e).value to

  -- what an expression breaks that is a condition
  abbrev pub condition_violations : CExpr → List Violation
  condition_violations e = (judge e).found ++ condition (at env (out-CExpr e).token) (judge e).value
