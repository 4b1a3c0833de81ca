use Rattle.std.proofs.Common.{◌≤◌, [], length, ap, ◌∙◌, arith}
use Rattle.dpi_bits.specs.Words.{bits_of}
use Rattle.dpi_bits.specs.Parts.{spread}
use Rattle.dpi_bits.proofs.Answered.{if_ok}
use Rattle.dpi_bits.proofs.Held.{length-bits_of}
use Rattle.dpi_bits.proofs.Spread.{spread_all_past}
use Rattle.dpi_bits.proofs.packed.Packed.filled.Goals as goal

pub returns-clause-bits : goal.returns-clause-bits
returns-clause-bits c =
    let empty : length (bits_of 0 []) ≤ 0 = omega (arith, length-bits_of 0 []) in
    if_ok c.gather.result _ _
    (ap (λ w. spread (bits_of 0 []) w.start w.back w.outside c.args.width) c.whole.ensures ∙ spread_all_past (bits_of 0 []) 0 c.args.bit c.args.width empty)
    c.gather.ensures.bits
