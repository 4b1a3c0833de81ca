-- The rule that files break first, of the rules of both languages and of linking.
use Rattle.std.specs.Prelude.{ℕ, List, ◌++◌, Option, codes, decimal, option_map}
use Rattle.std.specs.Option.{option_or}
use Rattle.dpi_rules.specs.Least.{least}
use Rattle.dpi_rules.specs.declared.violation.Violation.{Violation}
use Rattle.sv_tree.specs.declared.items.SvFile.{SvFile}
use Rattle.c_tree.specs.declared.file.CFile.{CFile}
use Rattle.sv_check.specs.Check as sv
use Rattle.c_check.specs.Check as c
use Rattle.dpi_links.specs.Link as link
use Rattle.dpirun.specs.Sources.{Sources}
use Rattle.dpirun.specs.declared.command.Language.{Language}
use Rattle.dpirun.specs.declared.command.Language.TheVariants as languages
use Rattle.dpirun.specs.declared.rules.Broken.{Broken}
use Rattle.dpirun.specs.declared.rules.RuleSet.{RuleSet}
use Rattle.dpirun.specs.declared.rules.RuleSet.TheVariants.{SystemVerilog, C, SvLinking, CLinking}

-- the language of the files that break such a rule
abbrev pub broken_in : RuleSet → Language
broken_in SystemVerilog = languages.SystemVerilog
broken_in C = languages.C
broken_in SvLinking = languages.SystemVerilog
broken_in CLinking = languages.C

-- how a rule is printed: a letter, and its number
abbrev pub letter : RuleSet → List ℕ
letter SystemVerilog = codes "S"
letter C = codes "C"
letter SvLinking = codes "L"
letter CLinking = codes "L"

abbrev pub rule_bytes : RuleSet → ℕ → List ℕ
rule_bytes rules rule = letter rules ++ decimal rule

-- the least violation of SystemVerilog files and of C files, and in both where they are linked
unfoldable pub sv_broken : List SvFile → Option Violation
sv_broken svs = least (sv.violations svs)

unfoldable pub c_broken : List CFile → Option Violation
c_broken cs = least (c.violations cs)

unfoldable pub sv_unlinked : List SvFile → List CFile → Option Violation
sv_unlinked svs cs = least (link.sv_violations svs cs)

unfoldable pub c_unlinked : List SvFile → List CFile → Option Violation
c_unlinked svs cs = least (link.c_violations svs cs)

-- a violation, where there is one, as one of these rules
abbrev pub broken_by : RuleSet → Option Violation → Option Broken
broken_by rules = option_map (λ v. record { rules = rules; violation = v })

-- a rule of SystemVerilog, where one is broken, else one of C
abbrev pub of_languages : Sources → Option Broken
of_languages s = option_or (broken_by SystemVerilog (sv_broken s.sv_trees)) (broken_by C (c_broken s.c_trees))

-- a rule of linking in a SystemVerilog file, where one is broken, else in a C file
abbrev pub of_linking : Sources → Option Broken
of_linking s =
    option_or (broken_by SvLinking (sv_unlinked s.sv_trees s.c_trees)) (broken_by CLinking (c_unlinked s.sv_trees s.c_trees))

-- a rule of a language, where one is broken, else one of linking
abbrev pub first_broken : Sources → Option Broken
first_broken s = option_or (of_languages s) (of_linking s)
