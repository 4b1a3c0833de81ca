-- Words that stand for a choice, and the classes of their tokens.
use Rattle.std.specs.Prelude.{Option, Some, None}
use Rattle.sv_tree.specs.declared.class.Class.{Class}
use Rattle.sv_tree.specs.declared.class.Class.TheVariants as classes
use Rattle.sv_tree.specs.declared.kinds.VectorKind.{VectorKind}
use Rattle.sv_tree.specs.declared.kinds.VectorKind.TheVariants as vector
use Rattle.sv_tree.specs.declared.kinds.WholeKind.{WholeKind}
use Rattle.sv_tree.specs.declared.kinds.WholeKind.TheVariants as whole
use Rattle.sv_tree.specs.declared.kinds.Signing.{Signing}
use Rattle.sv_tree.specs.declared.kinds.Signing.TheVariants as signing
use Rattle.sv_tree.specs.declared.kinds.Lifetime.{Lifetime}
use Rattle.sv_tree.specs.declared.kinds.Lifetime.TheVariants as lifetime
use Rattle.sv_tree.specs.declared.kinds.Direction.{Direction}
use Rattle.sv_tree.specs.declared.kinds.Direction.TheVariants as direction
use Rattle.sv_tree.specs.declared.kinds.Property.{Property}
use Rattle.sv_tree.specs.declared.kinds.Property.TheVariants as property
use Rattle.sv_tree.specs.declared.kinds.StepOperator.{StepOperator}
use Rattle.sv_tree.specs.declared.kinds.StepOperator.TheVariants as step
use Rattle.sv_tree.specs.declared.kinds.ShowKind.{ShowKind}
use Rattle.sv_tree.specs.declared.kinds.ShowKind.TheVariants as show

-- the class of its token
abbrev pub vector_class : VectorKind → Class
vector_class vector.Bit = classes.Bit
vector_class vector.Logic = classes.Logic
vector_class vector.Reg = classes.Reg

-- what a token of a class stands for
abbrev pub vector_of : Option Class → Option VectorKind
vector_of (Some classes.Bit) = Some vector.Bit
vector_of (Some classes.Logic) = Some vector.Logic
vector_of (Some classes.Reg) = Some vector.Reg
vector_of _ = None

-- the class of its token
abbrev pub whole_class : WholeKind → Class
whole_class whole.Byte = classes.Byte
whole_class whole.ShortInt = classes.ShortInt
whole_class whole.Int = classes.Int
whole_class whole.LongInt = classes.LongInt

-- what a token of a class stands for
abbrev pub whole_of : Option Class → Option WholeKind
whole_of (Some classes.Byte) = Some whole.Byte
whole_of (Some classes.ShortInt) = Some whole.ShortInt
whole_of (Some classes.Int) = Some whole.Int
whole_of (Some classes.LongInt) = Some whole.LongInt
whole_of _ = None

-- the class of its token
abbrev pub signing_class : Signing → Class
signing_class signing.Signed = classes.Signed
signing_class signing.Unsigned = classes.Unsigned

-- what a token of a class stands for
abbrev pub signing_of : Option Class → Option Signing
signing_of (Some classes.Signed) = Some signing.Signed
signing_of (Some classes.Unsigned) = Some signing.Unsigned
signing_of _ = None

-- the class of its token
abbrev pub lifetime_class : Lifetime → Class
lifetime_class lifetime.Automatic = classes.Automatic
lifetime_class lifetime.Static = classes.Static

-- what a token of a class stands for
abbrev pub lifetime_of : Option Class → Option Lifetime
lifetime_of (Some classes.Automatic) = Some lifetime.Automatic
lifetime_of (Some classes.Static) = Some lifetime.Static
lifetime_of _ = None

-- the class of its token
abbrev pub direction_class : Direction → Class
direction_class direction.Input = classes.Input
direction_class direction.Output = classes.Output
direction_class direction.Inout = classes.Inout

-- what a token of a class stands for
abbrev pub direction_of : Option Class → Option Direction
direction_of (Some classes.Input) = Some direction.Input
direction_of (Some classes.Output) = Some direction.Output
direction_of (Some classes.Inout) = Some direction.Inout
direction_of _ = None

-- the class of its token
abbrev pub property_class : Property → Class
property_class property.Context = classes.Context
property_class property.Pure = classes.Pure

-- what a token of a class stands for
abbrev pub property_of : Option Class → Option Property
property_of (Some classes.Context) = Some property.Context
property_of (Some classes.Pure) = Some property.Pure
property_of _ = None

-- the class of its token
abbrev pub step_class : StepOperator → Class
step_class step.Increment = classes.Increment
step_class step.Decrement = classes.Decrement

-- what a token of a class stands for
abbrev pub step_of : Option Class → Option StepOperator
step_of (Some classes.Increment) = Some step.Increment
step_of (Some classes.Decrement) = Some step.Decrement
step_of _ = None

-- the class of its token
abbrev pub show_class : ShowKind → Class
show_class show.Display = classes.Display
show_class show.Write = classes.Write

-- what a token of a class stands for
abbrev pub show_of : Option Class → Option ShowKind
show_of (Some classes.Display) = Some show.Display
show_of (Some classes.Write) = Some show.Write
show_of _ = None
