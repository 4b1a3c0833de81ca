use Rattle.std.proofs.Common.{get_or, ◌+◌, ◌*◌, ◌∙◌, ap, arith}
use Rattle.dpi_bits.specs.Bits.{table_bit}
use Rattle.dpi_bits.specs.Words.{bit_in, blank, held}
use Rattle.dpi_bits.proofs.Held.{held_at}
use Rattle.dpi_bits.proofs.InPlace.{written_more, rest_kept, still}
use Rattle.dpi_bits.proofs.word.combine.Goals as goal

pub loop-j-preserved : goal.loop-j-preserved
loop-j-preserved c = record {
  written =
      written_more c.loop-j.words c.of_words.result c.loop-j.j (omega arith) (λ i. table_bit c.args.table (held c.args.words.now i) (held c.args.other.now i)) c.loop-j.invariant.written
      (λ k h.
      c.of_words.ensures k h
      ∙ ap (λ b. table_bit c.args.table b (bit_in (get_or c.args.other.now c.loop-j.j blank) k)) (still c.loop-j.words c.loop-j.j k (held c.args.words.now) h c.loop-j.invariant.rest)
      ∙ ap (table_bit c.args.table (held c.args.words.now (32 * c.loop-j.j + k))) (held_at c.args.other.now (32 * c.loop-j.j + k) c.loop-j.j k (omega arith) (omega arith)));
  rest = rest_kept c.loop-j.words c.of_words.result c.loop-j.j (omega arith) (held c.args.words.now) c.loop-j.invariant.rest;
}
