-- What an initialiser is, by its form and by what its names mean (ISO C 6.6, 6.7.9).
use Rattle.std.specs.Prelude.{Bool, true, false, List, [], ◌∷◌, if◌then◌else◌}
use Rattle.dpi_rules.specs.declared.violation.Violation.{Violation}
use Rattle.c_tree.specs.declared.operators.UnaryOperator.{UnaryOperator}
use Rattle.c_tree.specs.declared.operators.UnaryOperator.TheVariants as signs
use Rattle.c_typing.specs.declared.place.Place.{Place}
use Rattle.c_typing.specs.Judged.{unless, rule_at}
use Rattle.c_initial.specs.declared.parts.Part.{Part}
use Rattle.c_initial.specs.declared.parts.Part.TheVariants as parts

-- parentheses make a number of a number token, and leave everything else as it is
abbrev pub grouped : Part → Part
grouped parts.Token = parts.Number
grouped other = other

-- a number behind a sign
abbrev pub signed : Part → Part
signed parts.Token = parts.Number
signed parts.Number = parts.Number
signed _ = parts.Other

-- an object behind `&`. Whether an unknown name is an object isn't looked at
abbrev pub addressed : Part → Part
addressed parts.Object = parts.Fixed
addressed parts.Element = parts.Fixed
addressed parts.Unknown = parts.Fixed
addressed _ = parts.Other

-- a part behind a prefix
abbrev pub prefixed : UnaryOperator → Part → Part
prefixed signs.Plus p = signed p
prefixed signs.Minus p = signed p
prefixed signs.And p = addressed p
prefixed _ p = parts.Other

-- a number
abbrev pub is_number : Part → Bool
is_number parts.Token = true
is_number parts.Number = true
is_number _ = false

-- an array before an index
abbrev pub element : Part → Part
element parts.Array = parts.Element
element parts.Unknown = parts.Element
element _ = parts.Other

-- a part before an index that is a number
abbrev pub indexed : Part → Part → Part
indexed p i = if is_number i then element p else parts.Other

-- a call: a number where the macro for words has one number token
abbrev pub called : Bool → List Part → Part
called true (parts.Token ∷ []) = parts.Number
called counts _ = parts.Other

-- a number, a string, NULL, the address of an object that lasts, or a name that isn't known
abbrev pub is_initial : Part → Bool
is_initial parts.Token = true
is_initial parts.Number = true
is_initial parts.Fixed = true
is_initial parts.Array = true
is_initial parts.Unknown = true
is_initial _ = false

-- rule 19 at the `=`: an object that lasts begins with another value
abbrev pub static_violations : Place → Part → List Violation
static_violations p value = rule_at p (unless (is_initial value) 19)
