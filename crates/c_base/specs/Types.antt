-- Types of C.
use Rattle.std.specs.Prelude.{Bool, false, not, ◌==◌, ◌&&◌}
use Rattle.c_base.specs.declared.base.CBase.{CBase}
use Rattle.c_base.specs.declared.ctype.CType.{CType}
use Rattle.c_base.specs.Base.{is_whole}

-- the base without stars and without const
abbrev pub plain : CBase → CType
plain base = record { base = base; base_const = false; stars = 0; inner_const = false }

-- the values are whole numbers
abbrev pub is_number : CType → Bool
is_number of = of.stars == 0 && is_whole of.base

-- the values are pointers
abbrev pub is_pointer : CType → Bool
is_pointer of = not (of.stars == 0)
