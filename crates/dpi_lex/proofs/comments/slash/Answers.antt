use Rattle.std.proofs.Common.{◌≡◌, true, false, List, ℕ, map, get_or, sym, ◌∙◌, arith}
use Rattle.std.specs.Prelude.{nat_eq}
use Rattle.std.proofs.lemmas.Bool.Decides.{nat_tests}
use Rattle.dpi_lex.proofs.SlashLemmas.{longest_front-slashes, longest_front-slash_star}
use Rattle.dpi_lex.proofs.SlashLemmas.{longest_front-slash}
use Rattle.dpi_lex.proofs.comments.slash.Goals as goal

pub returns-then-byte_at-eq47-clause-stretch : goal.returns-then-byte_at-eq47-clause-stretch
returns-then-byte_at-eq47-clause-stretch c =
    let rest = c.args.rest.now in
    let signs : List (List ℕ) = map (λ t. t.now) c.args.signs.now in
    let first : nat_eq 47 (get_or rest 0 0) ≡ true = grind (arith, nat_tests) in
    let second : nat_eq 47 (get_or rest 1 0) ≡ true = grind (arith, nat_tests) in
    sym (longest_front-slashes signs rest c.line.result c.requires.no_comments first second
    c.line.ensures.stretch (omega (arith, c.line.ensures.past)))

pub returns-then-byte_at-eq42-clause-stretch : goal.returns-then-byte_at-eq42-clause-stretch
returns-then-byte_at-eq42-clause-stretch c =
    let rest = c.args.rest.now in
    let signs : List (List ℕ) = map (λ t. t.now) c.args.signs.now in
    let first : nat_eq 47 (get_or rest 0 0) ≡ true = grind (arith, nat_tests) in
    let second : nat_eq 42 (get_or rest 1 0) ≡ true = grind (arith, nat_tests) in
    sym (longest_front-slash_star signs rest c.block_comment.result c.requires.no_comments first
    second c.block_comment.ensures.stretch c.block_comment.ensures.past)

pub returns-else-byte_at-eq42-clause-stretch : goal.returns-else-byte_at-eq42-clause-stretch
returns-else-byte_at-eq42-clause-stretch c =
    let rest = c.args.rest.now in
    let signs : List (List ℕ) = map (λ t. t.now) c.args.signs.now in
    let no_slash : nat_eq 47 (get_or rest 1 0) ≡ false = grind (arith, nat_tests) in
    let no_star : nat_eq 42 (get_or rest 1 0) ≡ false = grind (arith, nat_tests) in
    c.listed_token.ensures.stretch ∙ sym (longest_front-slash signs rest no_slash no_star)
