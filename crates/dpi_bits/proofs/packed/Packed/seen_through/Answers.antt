use Rattle.std.proofs.Common.{◌≡◌, ap, ◌∙◌, arith}
use Rattle.dpi_bits.specs.Words.{bits_of}
use Rattle.dpi_bits.proofs.InPlace.{width_is}
use Rattle.dpi_bits.proofs.packed.Packed.seen_through.Goals as goal

pub returns-clause-bits : goal.returns-clause-bits
returns-clause-bits c =
    let e : bits_of c.self.inside.width c.as_slice.result.now ≡ c.args.self.now = ap (bits_of c.self.inside.width) c.as_slice.ensures ∙ c.self.view_is in
    rw e at c.gather.ensures.bits

pub returns-clause-short : goal.returns-clause-short
returns-clause-short c = omega (arith, width_is _ c.self.inside.words.items _ c.self.view_is, c.self.invariant.most)
