use Rattle.std.proofs.Common.{◌+◌, take, arith, sym, ap, ◌∙◌}
use Rattle.std.specs.List.{suffix_len}
use Rattle.std.proofs.lemmas.List.{length-take, take_all}
use Rattle.std.proofs.lemmas.List.Sums.{suffix_len-le-length}
use Rattle.dpi_lex.proofs.PlaceLemmas.{stays_on_line, length-after_last}
use Rattle.dpi_lex.proofs.place.line_column_of.Goals as goal

pub overflow_add-column : goal.overflow_add-column
overflow_add-column c =
    let front = take c.args.place c.args.text.now in
    omega (
      arith,
      suffix_len-le-length stays_on_line (take c.loop-byte.byte-index front),
      length-take c.loop-byte.byte-index front,
      length-take c.args.place c.args.text.now,
    )

pub returns-clause-column : goal.returns-clause-column
returns-clause-column c =
    let front = take c.args.place c.args.text.now in
    c.loop-byte.invariant.1
    ∙ ap (λ xs. 1 + suffix_len stays_on_line xs)
    (take_all c.loop-byte.byte-index front c.loop-byte-test.false)
    ∙ ap (λ n. 1 + n) (sym (length-after_last front))
