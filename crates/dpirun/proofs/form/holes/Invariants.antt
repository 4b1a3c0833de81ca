use Rattle.std.proofs.Common.{◌≡◌, ◌++◌, ◌<◌, drop, map, option_map, length, All}
use Rattle.dpi_lex.specs.Words.{words_of}
use Rattle.dpirun.specs.Form.{bytes_at, holes_of}
use Rattle.dpirun.proofs.form.holes.Given as goal

abbrev pub invariant-loop-i : goal.invariant-loop-i
invariant-loop-i l = record {
  read : holes_of (map (λ word. word.now) l.form) (words_of l.tokens)
      ≡ option_map (λ more. map (bytes_at (words_of l.tokens)) l.found.items ++ more)
      (holes_of (drop l.i (map (λ word. word.now) l.form)) (drop l.i (words_of l.tokens)));
  inside : All (λ i. i < length l.tokens.tokens) l.found.items;
}
