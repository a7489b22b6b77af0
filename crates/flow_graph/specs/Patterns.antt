-- The patterns of what is allowed at a location.
use Rattle.std.specs.Prelude.{List, ◌++◌, option_to_list}
use Rattle.base_notes.specs.declared.notes.pattern.Pattern.{Pattern}
use Rattle.flow_graph.specs.declared.patterns.Patterns.{Patterns}

-- the patterns that are left
abbrev pub patterns_left : Patterns → List Pattern
patterns_left patterns = option_to_list patterns.loaded ++ patterns.listed.now
