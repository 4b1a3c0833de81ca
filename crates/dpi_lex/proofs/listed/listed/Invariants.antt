use Rattle.std.proofs.Common.{◌≡◌, map, drop}
use Rattle.dpi_lex.specs.Listed.{listed}
use Rattle.dpi_lex.proofs.listed.listed.Given as goal

abbrev pub invariant-loop-text : goal.invariant-loop-text
invariant-loop-text l =
    listed (map (λ b. b.now) (drop l.text-index l.list)) l.rest ≡ listed (map (λ b. b.now) l.list)
    l.rest
