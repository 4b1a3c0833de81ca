-- Numbers of functions, tasks and imports.
use Rattle.std.proofs.Common.{ℕ, ◌+◌, ◌≤◌, arith}
use Rattle.sv_tree.specs.declared.items.Item.{Item}
use Rattle.sv_tree.specs.declared.items.Item.TheVariants as items
use Rattle.sv_names.specs.Declarations.{subroutines_with, imports_with}

pub subroutines_by_one : (n : ℕ) (x : Item) → subroutines_with n x ≤ n + 1
subroutines_by_one n (items.Variables v) = omega arith
subroutines_by_one n (items.Import i) = omega arith
subroutines_by_one n (items.Export x) = omega arith
subroutines_by_one n (items.Function f) = omega arith
subroutines_by_one n (items.Task t) = omega arith
subroutines_by_one n (items.Initial k s) = omega arith
subroutines_by_one n (items.Instance m i) = omega arith

pub imports_by_one : (n : ℕ) (x : Item) → imports_with n x ≤ n + 1
imports_by_one n (items.Variables v) = omega arith
imports_by_one n (items.Import i) = omega arith
imports_by_one n (items.Export x) = omega arith
imports_by_one n (items.Function f) = omega arith
imports_by_one n (items.Task t) = omega arith
imports_by_one n (items.Initial k s) = omega arith
imports_by_one n (items.Instance m i) = omega arith
