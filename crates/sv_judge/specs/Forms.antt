-- How expressions are written.
use Rattle.std.specs.Prelude.{ℕ, Bool, true, false, if◌then◌else◌, Option, Some, None, List}
use Rattle.dpi_shape.specs.declared.leaf.Leaf.{Leaf}
use Rattle.dpi_shape.specs.Shape.{leaf_of}
use Rattle.dpi_literal.specs.SvNumber.{form_of}
use Rattle.sv_typing.specs.declared.types.Operand.{Operand}
use Rattle.sv_typing.specs.declared.concatenations.Joint.{Joint}
use Rattle.sv_typing.specs.declared.selects.Selected.{Selected}
use Rattle.sv_typing.specs.declared.selects.Selected.TheVariants as selecteds
use Rattle.sv_typing.specs.Types.{is_array}
use Rattle.sv_judge.specs.declared.forms.Form.{Form}
use Rattle.sv_judge.specs.declared.forms.Form.TheVariants.{Place, Bare, Other}
use Rattle.sv_judge.specs.declared.forms.Whole.{Whole}

abbrev pub other : Option Operand → Whole
other value = record { value = value; form = Other }

-- a number without a size is bare; a fill has none
abbrev pub number_form : List ℕ → Form
number_form bytes = if (form_of bytes).sized then Other else Bare

abbrev pub is_bare : Form → Bool
is_bare (Place selected) = false
is_bare Bare = true
is_bare Other = false

-- it can be assigned to
abbrev pub is_place : Form → Bool
is_place (Place selected) = true
is_place Bare = false
is_place Other = false

-- a packed variable, or one element of an array
abbrev pub element_leaf : Selected → Option Leaf
element_leaf (selecteds.Cells shape taken) = if is_array shape taken then None else Some (leaf_of shape)
element_leaf selecteds.Text = None
element_leaf selecteds.Chandle = None
element_leaf (selecteds.Bits width four) = None

-- the leaf of what is written as a name with selects of elements alone
abbrev pub plain_leaf : Form → Option Leaf
plain_leaf (Place None) = None
plain_leaf (Place (Some selected)) = element_leaf selected
plain_leaf Bare = None
plain_leaf Other = None

-- a part of a concatenation
abbrev pub joint : Whole → Joint
joint w = record { operand = w.value; bare = is_bare w.form }

-- one operand alone keeps its form
abbrev pub chain_form : Form → Bool → Form
chain_form first alone = if alone then first else Other
