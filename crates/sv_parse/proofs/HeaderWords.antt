-- The words of lifetimes, directions and properties, and tests of the next token that no token passes together.
use Rattle.std.proofs.Common.{◌≡◌, true, false, Option, Some, refl, ap}
use Rattle.std.specs.Prelude.{option_map}
use Rattle.dpi_grammar.proofs.Rules.{Reader, always}
use Rattle.dpi_grammar.proofs.Many.{Apart}
use Rattle.dpi_grammar.proofs.Firsts.{apart_back}
use Rattle.dpi_lex.specs.Words.{Word}
use Rattle.sv_tree.specs.declared.class.Class.{Class}
use Rattle.sv_tree.specs.declared.class.Class.TheVariants as classes
use Rattle.sv_tree.specs.declared.kinds.Lifetime.{Lifetime}
use Rattle.sv_tree.specs.declared.kinds.Lifetime.TheVariants as lifetime
use Rattle.sv_tree.specs.declared.kinds.Direction.{Direction}
use Rattle.sv_tree.specs.declared.kinds.Direction.TheVariants as direction
use Rattle.sv_tree.specs.declared.kinds.Property.{Property}
use Rattle.sv_tree.specs.declared.kinds.Property.TheVariants as property
use Rattle.sv_tree.specs.Classes.{word_of, class_at, is_class}
use Rattle.sv_tree.specs.Kinds.{lifetime_class, lifetime_of, direction_class, direction_of, property_class, property_of}
use Rattle.sv_tree.proofs.ClassLemmas.{is_fixed}
use Rattle.sv_cursor.proofs.Tokens.{class_reader}
use Rattle.sv_types.specs.Reading.{begins_data_type}
use Rattle.sv_types.proofs.Words.{value_apart}
use Rattle.sv_parse.specs.Headers.{begins_direction}

-- ---- lifetimes

abbrev pub lifetime_word : Lifetime → Word
lifetime_word l = word_of (lifetime_class l)

lifetime_from : (o : Option Class) (l : Lifetime) → lifetime_of o ≡ Some l → o ≡ Some (lifetime_class l)
lifetime_from (Some classes.Automatic) l e = ap (option_map lifetime_class) e
lifetime_from (Some classes.Static) l e = ap (option_map lifetime_class) e
lifetime_from _ l e = cc

lifetime_back : (l : Lifetime) → lifetime_of (Some (lifetime_class l)) ≡ Some l
lifetime_back lifetime.Automatic = refl
lifetime_back lifetime.Static = refl

lifetime_fixed : (l : Lifetime) → is_fixed (lifetime_class l) ≡ true
lifetime_fixed lifetime.Automatic = refl
lifetime_fixed lifetime.Static = refl

pub lifetime_reader : Reader (λ t. lifetime_of (class_at t)) always lifetime_word
lifetime_reader = class_reader lifetime_of lifetime_class lifetime_from lifetime_back lifetime_fixed

-- ---- directions

abbrev pub direction_word : Direction → Word
direction_word d = word_of (direction_class d)

direction_from : (o : Option Class) (d : Direction) → direction_of o ≡ Some d → o ≡ Some (direction_class d)
direction_from (Some classes.Input) d e = ap (option_map direction_class) e
direction_from (Some classes.Output) d e = ap (option_map direction_class) e
direction_from (Some classes.Inout) d e = ap (option_map direction_class) e
direction_from _ d e = cc

direction_back : (d : Direction) → direction_of (Some (direction_class d)) ≡ Some d
direction_back direction.Input = refl
direction_back direction.Output = refl
direction_back direction.Inout = refl

direction_fixed : (d : Direction) → is_fixed (direction_class d) ≡ true
direction_fixed direction.Input = refl
direction_fixed direction.Output = refl
direction_fixed direction.Inout = refl

pub direction_reader : Reader (λ t. direction_of (class_at t)) always direction_word
direction_reader = class_reader direction_of direction_class direction_from direction_back direction_fixed

direction_not_type : (d : Direction) → begins_data_type (Some (direction_word d)) ≡ false
unfolding is_class
direction_not_type direction.Input = refl
direction_not_type direction.Output = refl
direction_not_type direction.Inout = refl

-- no type begins with a direction
pub type_not_direction : Apart begins_data_type begins_direction
type_not_direction = apart_back begins_direction begins_data_type (value_apart (λ t. direction_of (class_at t)) direction_word direction_reader begins_data_type direction_not_type)

-- ---- properties

abbrev pub property_word : Property → Word
property_word p = word_of (property_class p)

property_from : (o : Option Class) (p : Property) → property_of o ≡ Some p → o ≡ Some (property_class p)
property_from (Some classes.Context) p e = ap (option_map property_class) e
property_from (Some classes.Pure) p e = ap (option_map property_class) e
property_from _ p e = cc

property_back : (p : Property) → property_of (Some (property_class p)) ≡ Some p
property_back property.Context = refl
property_back property.Pure = refl

property_fixed : (p : Property) → is_fixed (property_class p) ≡ true
property_fixed property.Context = refl
property_fixed property.Pure = refl

pub property_reader : Reader (λ t. property_of (class_at t)) always property_word
property_reader = class_reader property_of property_class property_from property_back property_fixed
