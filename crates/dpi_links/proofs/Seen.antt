-- Rules on one name in C, by what is seen of imports and exports.
use Rattle.std.proofs.Common.{◌≡◌, List, [], ◌∷◌, map, refl, ap, Option, Some, None, if◌then◌else◌}
use Rattle.std.specs.Prelude.{option_map}
use denote.Ref.{Bor}
use Rattle.dpi_rules.specs.Order.{violation}
use Rattle.sv_signatures.specs.declared.signatures.Signature.{Signature}
use Rattle.dpi_agree.specs.declared.exports.LinkedExport.{LinkedExport}
use Rattle.dpi_agree.specs.declared.imports.LinkedImport.{LinkedImport}
use Rattle.dpi_agree.specs.Firsts.{each_broken}
use Rattle.dpi_agree.specs.Imports as agree
use Rattle.dpi_agree.specs.Exports as agree_exports
use Rattle.dpi_links.specs.Imports as imports
use Rattle.dpi_links.specs.Exports as exports
use Rattle.dpi_links.proofs.Named.{each_map}

unequal_import : (o : Option LinkedImport) (i : LinkedImport) → agree.unequal_violations o i ≡ imports.unequal_violations (option_map imports.named_told o) (imports.named_told i)
unequal_import None i = refl
unequal_import (Some first) i = refl

pub seen_imports : (ls : List LinkedImport) → agree.imports_violations ls ≡ each_broken imports.name_of imports.unequal_violations (map imports.named_told ls)
seen_imports ls = each_map imports.named_told imports.name_of agree.unequal_violations imports.unequal_violations unequal_import ls

agree_is : (s t : Option (Bor Signature)) → agree_exports.agree s t ≡ exports.agree (option_map exports.value_of s) (option_map exports.value_of t)
agree_is None t = refl
agree_is (Some s) None = refl
agree_is (Some s) (Some t) = refl

unequal_export : (o : Option LinkedExport) (x : LinkedExport) → agree_exports.unequal_violations o x ≡ exports.unequal_violations (option_map exports.named_told o) (exports.named_told x)
unequal_export None x = refl
unequal_export (Some first) x = ap (λ b. if b then [] else violation x.file x.token 10 ∷ []) (agree_is first.signature x.signature)

second_export : (o : Option LinkedExport) (x : LinkedExport) → agree_exports.second_violations o x ≡ exports.second_violations (option_map exports.named_told o) (exports.named_told x)
second_export None x = refl
second_export (Some first) x = refl

pub seen_unequal : (ls : List LinkedExport) → agree_exports.exports_violations ls ≡ each_broken exports.name_of exports.unequal_violations (map exports.named_told ls)
seen_unequal ls = each_map exports.named_told exports.name_of agree_exports.unequal_violations exports.unequal_violations unequal_export ls

pub seen_seconds : (ls : List LinkedExport) → agree_exports.seconds_violations ls ≡ each_broken exports.name_of exports.second_violations (map exports.named_told ls)
seen_seconds ls = each_map exports.named_told exports.name_of agree_exports.second_violations exports.second_violations second_export ls
