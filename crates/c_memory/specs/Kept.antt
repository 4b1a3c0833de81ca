-- What the code keeps, as contracts see it.
use Rattle.std.specs.Prelude.{List, Option}
use Rattle.c_memory.specs.declared.ccell.CCell.{CCell}
use Rattle.c_memory.specs.declared.object.Cells.{Cells}
use Rattle.c_memory.specs.declared.object.Cells.TheVariants.{Own}
use Rattle.c_memory.specs.declared.object.Object.TheInside.{Inside}
use Rattle.c_memory.specs.Object.{CObject}

-- the cells in order
abbrev pub cells_in : Cells → List (Option CCell)
cells_in (Own cells) = cells.items

-- the object of these fields
abbrev pub seen : Inside → CObject
seen o = record { of = o.of; writable = o.writable; leaf = o.leaf; cells = cells_in o.cells }
