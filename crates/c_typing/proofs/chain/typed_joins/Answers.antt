use Rattle.c_typing.proofs.Kept.{typed_joins}
use Rattle.c_typing.proofs.chain.typed_joins.Goals as goal

pub returns : goal.returns
returns c = typed_joins
