use Rattle.std.proofs.Common.{sym, ap, ◌∙◌, Err}
use Rattle.sv_contexts.proofs.Pieces.{found_pieces, no_pieces}
use Rattle.sv_contexts.proofs.formats.pieces_of.Goals as goal

pub returns-in-Ok : goal.returns-in-Ok
returns-in-Ok c = sym (found_pieces c.args.text.now c.in-Ok.pieces.items (rw c.in-Ok.is at c.sv_format.ensures.ok))

pub returns-in-Err-Unknown : goal.returns-in-Err-Unknown
returns-in-Err-Unknown c =
    sym (no_pieces c.args.text.now (λ ps h. c.sv_format.ensures.unknown (c.in-Err-Unknown.is ∙ ap (λ e. Err e) c.in-Err-Unknown.field-0-is) ps h))
