-- What types tell.
use Rattle.std.specs.Prelude.{ℕ, List, map}
use Rattle.dpi_grammar.specs.Told.{◌&◌, noted, kept, each}
use Rattle.c_tree.specs.declared.class.Class.TheVariants as classes
use Rattle.c_tree.specs.declared.types.BaseWord.{BaseWord}
use Rattle.c_tree.specs.declared.types.CType.{CType}
use Rattle.c_tree.specs.declared.types.Star.{Star}
use Rattle.c_tree.specs.Bases.{base_class, is_base}
use Rattle.c_tree.specs.Leaves.{Tells, quoted}

-- "const"
abbrev pub const_told : ℕ → Tells
const_told k = noted k & quoted classes.Const

abbrev pub base_word_told : BaseWord → Tells
base_word_told w = quoted (base_class w)

-- words that are a base
abbrev pub base_told : List BaseWord → Tells
base_told ws = kept (is_base ws) & each (map base_word_told ws)

-- "const"* base "const"*
abbrev pub type_told : CType → Tells
type_told t = noted t.token & each (map const_told t.before) & base_told t.base & each (map const_told t.behind)

-- "*" "const"*
abbrev pub star_told : Star → Tells
star_told s = noted s.token & quoted classes.Star & each (map const_told s.constants)

-- ("*" "const"*)*
abbrev pub stars_told : List Star → Tells
stars_told ss = each (map star_told ss)
