use Rattle.std.proofs.Common.{◌≡◌, ◌+◌, ◌≤◌, ◌∙◌, ◌++◌, sym, ap, drop, arith}
use Rattle.sv_names.specs.Declarations.{item_declares, items_declare, subroutines_with, imports_with}
use Rattle.sv_names.proofs.DeclaredLists.{rest_of, declaring_more}
use Rattle.sv_names.proofs.ItemNumbers.{subroutines_by_one, imports_by_one}
use Rattle.sv_names.proofs.declarations.declare_items.Goals as goal

pub loop-item-preserved : goal.loop-item-preserved
loop-item-preserved c =
    let s = c.loop-item.subroutines in
    let i = c.loop-item.imports in
    let x = c.item-item.result in
    let rest = drop (c.loop-item.item-index + 1) c.args.items.now in
    let is_s = c.subroutines_with-subroutines.ensures in
    let is_i = c.imports_with-imports.ensures in
    let split =
    ap (items_declare s i) (rest_of c.args.items.now c.loop-item.item-index x c.loop-item-test.true c.item-item.is)
    ∙ ap (λ n. item_declares s i x ++ items_declare n (imports_with i x) rest) (sym is_s)
    ∙ ap (λ n. item_declares s i x ++ items_declare c.subroutines_with-subroutines.result n rest) (sym is_i) in
    record {
      subroutines_fit = let h : subroutines_with s x ≤ s + 1 = subroutines_by_one s x in omega arith;
      imports_fit = let h : imports_with i x ≤ i + 1 = imports_by_one i x in omega arith;
      declaring = declaring_more (items_declare c.subroutines_with-subroutines.result c.imports_with-imports.result rest) split c.in_ok-declare_item.ensures c.loop-item.invariant.declaring;
    }
