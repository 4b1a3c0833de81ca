use Rattle.std.proofs.Common.{◌≡◌, ◌∙◌, ◌≤◌, length, arith}
use Rattle.std.specs.String.{string_bytes}
use Rattle.dpirun.proofs.Commands.{is_many_files}
use Rattle.dpirun.proofs.command.is_command.Goals as goal

pub returns-in-1-to-1000 : goal.returns-in-1-to-1000
returns-in-1-to-1000 c =
    let count : c.len.result ≡ length c.args.words.now.items = omega (arith, c.len.ensures, c.args.words.now.ok) in
    let some : 1 ≤ length c.args.words.now.items = omega (arith, count, c.in-1-to-1000) in
    let few : length c.args.words.now.items ≤ 1000 = omega (arith, count, c.in-1-to-1000) in
    c.are_files.ensures ∙ is_many_files string_bytes _ some few
