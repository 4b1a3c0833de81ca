use Rattle.std.proofs.Common.{refl, sym}
use Rattle.std.proofs.lemmas.List.{append-nil}
use Rattle.c_meanings.proofs.parameters.add_params.Goals as goal

pub returns-in-Void : goal.returns-in-Void
returns-in-Void c = rw c.in-Void.is (record { inner_is = refl; list_is = sym (append-nil c.args.list.now.items) })

pub returns-in-List : goal.returns-in-List
returns-in-List c = rw c.in-List.is (rw c.as_slice.ensures at c.add_listed.ensures)
