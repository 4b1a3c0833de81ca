use Rattle.dpi_rules.proofs.Noting.{noted_both}
use Rattle.std.proofs.Common.{false}
use Rattle.c_library.specs.Reserved.{name_violations}
use Rattle.c_names.specs.Uses.{second}
use Rattle.c_walk.proofs.declarations.note_new_name.Goals as goal

pub returns : goal.returns
returns c = noted_both c.args.found.now (second c.args.place c.args.earlier false) (name_violations c.args.place.file c.args.place.token c.args.name.now) c.note_second.ensures c.note_reserved.ensures
