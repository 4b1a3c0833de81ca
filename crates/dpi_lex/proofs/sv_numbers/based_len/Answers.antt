use Rattle.std.proofs.Common.{◌≡◌, ◌+◌, get_or, false, true, sym, ap, ◌∙◌}
use Rattle.dpi_lex.specs.SvNumbers.{is_based_byte}
use Rattle.dpi_lex.proofs.SvNumberLemmas.{IsBasedRun-none, IsBasedRun-some, based_byte-some}
use Rattle.dpi_lex.proofs.sv_numbers.based_len.Goals as goal

pub returns-then-not-is_based_byte : goal.returns-then-not-is_based_byte
returns-then-not-is_based_byte c =
    let first : is_based_byte (get_or c.args.rest.now 0 0) ≡ false =
    ap is_based_byte (sym c.byte_at.ensures) ∙ sym c.is_based_byte.ensures
    ∙ c.if-not-is_based_byte.true in
    IsBasedRun-none c.args.base c.args.rest.now first

pub returns : goal.returns
returns c =
    let rest = c.args.rest.now in
    let first : is_based_byte (get_or rest 0 0) ≡ true = ap is_based_byte (sym c.byte_at.ensures)
    ∙ sym c.is_based_byte.ensures ∙ c.if-not-is_based_byte.false in
    IsBasedRun-some c.args.base rest c.bytes_from.result.now first c.bytes_from.ensures
    (based_byte-some rest first) _ (ap (λ n. 1 + n) c.goes_on_len.ensures.run)
