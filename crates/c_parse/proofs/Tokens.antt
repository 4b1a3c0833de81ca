-- Which first tokens begin no type, no expression and no declaration.
use Rattle.std.proofs.Common.{◌≡◌, Bool, true, false, ◌||◌, Option, Some, None, refl}
use denote.Enum.Bare.{sameb}
use Rattle.dpi_grammar.specs.Parser.{is_there}
use Rattle.dpi_grammar.proofs.Many.{Apart}
use Rattle.dpi_grammar.proofs.Firsts.{apart_back, or_apart}
use Rattle.dpi_lex.specs.Words.{Word}
use Rattle.c_tree.specs.contracts.class.Class.{the_type}
use Rattle.c_tree.specs.declared.class.Class.{Class}
use Rattle.c_tree.specs.declared.class.Class.TheVariants as classes
use Rattle.c_tree.specs.Classes.{class_at, is_class, is}
use Rattle.c_tree.specs.Bases.{base_word_of}
use Rattle.c_tree.specs.Stores.{store_of}
use Rattle.c_cursor.proofs.Tokens.{apart_by}
use Rattle.c_types.specs.Reading.{begins_type}
use Rattle.c_parse.specs.declared.front.Front.TheVariants as fronts
use Rattle.c_parse.specs.Front.{begins_store, begins_variables, begins_stmt, front_of, is_marked}
use Rattle.c_expr.specs.Front.{is_sign, is_plain, begins_expr}

-- a type begins with a token of this class
abbrev pub types_begin : Class → Bool
types_begin c = sameb the_type classes.Const c || is_there (base_word_of (Some c))

abbrev is_type : Option Class → Bool
is_type c = is_class classes.Const c || is_there (base_word_of c)

pub type_off : (c : Class) → types_begin c ≡ false → Apart (is c) begins_type
unfolding is_class
type_off c other = apart_by c is_type other

-- an expression begins with a token of this class
abbrev pub exprs_begin : Class → Bool
exprs_begin c = (sameb the_type classes.OpenParen c || is_sign (Some c)) || is_plain (Some c)

abbrev is_expr : Option Class → Bool
is_expr c = (is_class classes.OpenParen c || is_sign c) || is_plain c

pub expr_off : (c : Class) → exprs_begin c ≡ false → Apart (is c) begins_expr
unfolding is_class
expr_off c other = apart_by c is_expr other

-- `static` and `extern` begin no type
store_type : (o : Option Class) → is_there (store_of o) ≡ true → is_type o ≡ false
unfolding is_class
store_type (Some classes.Static) e = refl
store_type (Some classes.Extern) e = refl
store_type _ e = absurd (cc)

pub store_no_type : Apart begins_store begins_type
store_no_type t e = store_type (class_at t) e

pub type_no_store : Apart begins_type begins_store
type_no_store = apart_back begins_store begins_type store_no_type

-- nor an expression
store_expr : (o : Option Class) → is_there (store_of o) ≡ true → is_expr o ≡ false
unfolding is_class
store_expr (Some classes.Static) e = refl
store_expr (Some classes.Extern) e = refl
store_expr _ e = absurd (cc)

pub store_no_expr : Apart begins_store begins_expr
store_no_expr t e = store_expr (class_at t) e

-- no declaration of variables begins with a token of this class
abbrev pub variables_begin : Class → Bool
variables_begin c = is_there (store_of (Some c)) || types_begin c

abbrev is_variables : Option Class → Bool
is_variables c = is_there (store_of c) || is_type c

pub variables_off : (c : Class) → variables_begin c ≡ false → Apart (is c) begins_variables
unfolding is_class
variables_off c other = apart_by c is_variables other

-- nor does one begin as an expression does
variables_expr : (o : Option Class) → is_expr o ≡ true → is_variables o ≡ false
unfolding is_class
variables_expr (Some classes.OpenParen) e = refl
variables_expr (Some classes.Plus) e = refl
variables_expr (Some classes.Minus) e = refl
variables_expr (Some classes.Not) e = refl
variables_expr (Some classes.Tilde) e = refl
variables_expr (Some classes.Star) e = refl
variables_expr (Some classes.And) e = refl
variables_expr (Some classes.Increment) e = refl
variables_expr (Some classes.Decrement) e = refl
variables_expr (Some classes.Name) e = refl
variables_expr (Some classes.Number) e = refl
variables_expr (Some classes.Character) e = refl
variables_expr (Some classes.Text) e = refl
variables_expr (Some classes.Null) e = refl
variables_expr _ e = absurd (cc)

pub expr_no_variables : Apart begins_expr begins_variables
expr_no_variables t e = variables_expr (class_at t) e

-- no statement begins with a token of this class
abbrev pub stmts_begin : Class → Bool
stmts_begin c = is_marked (front_of (Some c)) || exprs_begin c

abbrev is_stmt : Option Class → Bool
is_stmt c = is_marked (front_of c) || is_expr c

pub stmt_off : (c : Class) → stmts_begin c ≡ false → Apart (is c) begins_stmt
unfolding is_class
stmt_off c other = apart_by c is_stmt other

-- nor does a declaration begin as a statement does
marked_variables : (o : Option Class) → is_marked (front_of o) ≡ true → is_variables o ≡ false
unfolding is_class
marked_variables (Some classes.Semicolon) e = refl
marked_variables (Some classes.Return) e = refl
marked_variables (Some classes.Break) e = refl
marked_variables (Some classes.Continue) e = refl
marked_variables (Some classes.OpenBrace) e = refl
marked_variables (Some classes.If) e = refl
marked_variables (Some classes.While) e = refl
marked_variables (Some classes.Do) e = refl
marked_variables (Some classes.For) e = refl
marked_variables _ e = absurd (cc)

pub stmt_no_variables : Apart begins_stmt begins_variables
stmt_no_variables = or_apart (λ t. is_marked (front_of (class_at t))) begins_expr begins_variables (λ t e. marked_variables (class_at t) e) expr_no_variables

-- the end begins no statement
pub no_stmt : begins_stmt None ≡ false
unfolding is_class
no_stmt = refl

-- what begins an expression begins no other statement
front_class : (o : Option Class) → is_expr o ≡ true → front_of o ≡ fronts.Expr
unfolding is_class
front_class (Some classes.Semicolon) e = absurd (cc)
front_class (Some classes.Return) e = absurd (cc)
front_class (Some classes.Break) e = absurd (cc)
front_class (Some classes.Continue) e = absurd (cc)
front_class (Some classes.OpenBrace) e = absurd (cc)
front_class (Some classes.If) e = absurd (cc)
front_class (Some classes.While) e = absurd (cc)
front_class (Some classes.Do) e = absurd (cc)
front_class (Some classes.For) e = absurd (cc)
front_class _ e = refl

pub front_expr : (t : Option Word) → begins_expr t ≡ true → front_of (class_at t) ≡ fronts.Expr
front_expr t e = front_class (class_at t) e
