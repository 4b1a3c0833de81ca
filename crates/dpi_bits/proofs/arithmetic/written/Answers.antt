use Rattle.std.proofs.Common.{sym, ap, ◌∙◌, arith}
use Rattle.dpi_bits.specs.Arithmetic.{twos_complement}
use Rattle.dpi_bits.specs.Numbers.{binary}
use Rattle.dpi_bits.specs.Signed.{signed_of}
use Rattle.dpi_bits.proofs.Answered.{if_ok}
use Rattle.dpi_bits.proofs.Arith.{negative_is}
use Rattle.dpi_bits.proofs.arithmetic.written.Goals as goal
use Rattle.dpi_bits.proofs.arithmetic.written.Goals.{then-number, else-number}

pub returns-clause-bits : goal.returns-clause-bits
returns-clause-bits c =
    elim c.if-number.branch [
      | then-number w ↦
          if_ok c.from_u64.result _ _
          (ap (binary c.args.width) w.digits-is
          ∙ negative_is c.args.width c.args.number.size c.requires.most (omega arith)
          ∙ ap (λ b. twos_complement c.args.width (signed_of b c.args.number.size)) (sym w.if-number.true))
          c.from_u64.ensures.bits
      | else-number w ↦
          if_ok c.from_u64.result _ _
          (ap (binary c.args.width) w.digits-is ∙ ap (λ b. twos_complement c.args.width (signed_of b c.args.number.size)) (sym w.if-number.false))
          c.from_u64.ensures.bits
    ]
