-- Words that stand for an operator, or for what shows.
use Rattle.std.proofs.Common.{◌≡◌, true, Option, Some, refl, ap}
use Rattle.std.specs.Prelude.{option_map}
use Rattle.dpi_grammar.proofs.Rules.{Reader, always}
use Rattle.dpi_lex.specs.Words.{Word}
use Rattle.sv_tree.specs.declared.class.Class.{Class}
use Rattle.sv_tree.specs.declared.class.Class.TheVariants as classes
use Rattle.sv_tree.specs.declared.operators.AssignOperator.{AssignOperator}
use Rattle.sv_tree.specs.declared.operators.AssignOperator.TheVariants as assigns
use Rattle.sv_tree.specs.declared.kinds.StepOperator.{StepOperator}
use Rattle.sv_tree.specs.declared.kinds.StepOperator.TheVariants as steps
use Rattle.sv_tree.specs.declared.kinds.ShowKind.{ShowKind}
use Rattle.sv_tree.specs.declared.kinds.ShowKind.TheVariants as shows
use Rattle.sv_tree.specs.Classes.{word_of, class_at}
use Rattle.sv_tree.specs.Operators.{assign_class, assign_of}
use Rattle.sv_tree.specs.Kinds.{step_class, step_of, show_class, show_of}
use Rattle.sv_tree.proofs.ClassLemmas.{is_fixed}
use Rattle.sv_cursor.proofs.Tokens.{class_reader}

abbrev pub assign_word : AssignOperator → Word
assign_word o = word_of (assign_class o)

abbrev pub step_word : StepOperator → Word
step_word o = word_of (step_class o)

abbrev pub show_word : ShowKind → Word
show_word w = word_of (show_class w)

assign_from : (o : Option Class) (a : AssignOperator) → assign_of o ≡ Some a → o ≡ Some (assign_class a)
assign_from (Some classes.AddAssign) a e = ap (option_map assign_class) e
assign_from (Some classes.SubtractAssign) a e = ap (option_map assign_class) e
assign_from (Some classes.MultiplyAssign) a e = ap (option_map assign_class) e
assign_from (Some classes.DivideAssign) a e = ap (option_map assign_class) e
assign_from (Some classes.RemainderAssign) a e = ap (option_map assign_class) e
assign_from (Some classes.AndAssign) a e = ap (option_map assign_class) e
assign_from (Some classes.OrAssign) a e = ap (option_map assign_class) e
assign_from (Some classes.XorAssign) a e = ap (option_map assign_class) e
assign_from (Some classes.ShiftLeftAssign) a e = ap (option_map assign_class) e
assign_from (Some classes.ShiftRightAssign) a e = ap (option_map assign_class) e
assign_from _ a e = cc

pub assign_back : (a : AssignOperator) → assign_of (Some (assign_class a)) ≡ Some a
assign_back assigns.Add = refl
assign_back assigns.Subtract = refl
assign_back assigns.Multiply = refl
assign_back assigns.Divide = refl
assign_back assigns.Remainder = refl
assign_back assigns.And = refl
assign_back assigns.Or = refl
assign_back assigns.Xor = refl
assign_back assigns.ShiftLeft = refl
assign_back assigns.ShiftRight = refl

pub assign_fixed : (a : AssignOperator) → is_fixed (assign_class a) ≡ true
assign_fixed assigns.Add = refl
assign_fixed assigns.Subtract = refl
assign_fixed assigns.Multiply = refl
assign_fixed assigns.Divide = refl
assign_fixed assigns.Remainder = refl
assign_fixed assigns.And = refl
assign_fixed assigns.Or = refl
assign_fixed assigns.Xor = refl
assign_fixed assigns.ShiftLeft = refl
assign_fixed assigns.ShiftRight = refl

pub assign_reader : Reader (λ t. assign_of (class_at t)) always assign_word
assign_reader = class_reader assign_of assign_class assign_from assign_back assign_fixed

step_from : (o : Option Class) (a : StepOperator) → step_of o ≡ Some a → o ≡ Some (step_class a)
step_from (Some classes.Increment) a e = ap (option_map step_class) e
step_from (Some classes.Decrement) a e = ap (option_map step_class) e
step_from _ a e = cc

pub step_back : (a : StepOperator) → step_of (Some (step_class a)) ≡ Some a
step_back steps.Increment = refl
step_back steps.Decrement = refl

pub step_fixed : (a : StepOperator) → is_fixed (step_class a) ≡ true
step_fixed steps.Increment = refl
step_fixed steps.Decrement = refl

pub step_reader : Reader (λ t. step_of (class_at t)) always step_word
step_reader = class_reader step_of step_class step_from step_back step_fixed

show_from : (o : Option Class) (a : ShowKind) → show_of o ≡ Some a → o ≡ Some (show_class a)
show_from (Some classes.Display) a e = ap (option_map show_class) e
show_from (Some classes.Write) a e = ap (option_map show_class) e
show_from _ a e = cc

pub show_back : (a : ShowKind) → show_of (Some (show_class a)) ≡ Some a
show_back shows.Display = refl
show_back shows.Write = refl

pub show_fixed : (a : ShowKind) → is_fixed (show_class a) ≡ true
show_fixed shows.Display = refl
show_fixed shows.Write = refl

pub show_reader : Reader (λ t. show_of (class_at t)) always show_word
show_reader = class_reader show_of show_class show_from show_back show_fixed
