use Rattle.std.proofs.Common.{◌≡◌, map, drop}
use Rattle.dpi_lex.specs.Shapes.{is_listed}
use Rattle.dpi_lex.proofs.listed.is_listed.Given as goal

abbrev pub invariant-loop-text : goal.invariant-loop-text
invariant-loop-text l =
    is_listed (map (λ b. b.now) (drop l.text-index l.list)) l.bytes ≡ is_listed
    (map (λ b. b.now) l.list) l.bytes
