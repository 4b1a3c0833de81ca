-- The program's values as its definitions see them.
use Rattle.std.specs.Prelude.{map}
use Rattle.std.specs.String.{string_bytes}
use Rattle.dpirun.specs.Answer as answer
use Rattle.dpirun.specs.Sources as sources
use Rattle.dpirun.specs.declared.outcome.Outcome.{Outcome}
use Rattle.dpirun.specs.declared.sources.Source.{Source}
use Rattle.dpirun.specs.declared.sources.Sources.{Sources}

-- an outcome with the bytes of both sinks
abbrev pub shown : Outcome → answer.Outcome
shown o = record { status = o.status; out = o.out.items; err = o.err.items }

-- a file with its name's bytes
abbrev pub source_shown : Source → sources.Source
source_shown s = record { name = string_bytes s.name; lexed = s.tokens }

-- the files of both languages
abbrev pub sources_shown : Sources → sources.Sources
sources_shown s = record {
  sv = map source_shown s.sv.items;
  sv_trees = s.sv_trees.items;
  c = map source_shown s.c.items;
  c_trees = s.c_trees.items;
}
