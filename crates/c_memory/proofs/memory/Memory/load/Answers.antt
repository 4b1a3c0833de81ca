use Rattle.std.proofs.Common.{sym}
use Rattle.c_memory.proofs.Types.{found-typed}
use Rattle.c_memory.proofs.memory.Memory.load.Goals as goal

pub returns-clause-typed : goal.returns-clause-typed
returns-clause-typed g c =
    found-typed c.args.of c.of.result c.value.result _ c.ok_or.result (sym c.if-not-is_same.ensures)
    (rw c.of.ensures c.value.ensures.typed) c.ok_or.ensures.value
