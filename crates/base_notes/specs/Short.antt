-- Short notes.
use Rattle.std.specs.Prelude.{nat_le, ◌==◌, ◌&&◌, Bool, length, is_none}
use Rattle.std.specs.List.{list_all}
use Rattle.base_notes.specs.declared.notes.mark.Mark.{Mark}
use Rattle.base_notes.specs.Allowed.{Notes}

-- the mark has one edge, and no name
abbrev pub is_plain : Mark → Bool
is_plain mark = length mark.others == 0 && is_none mark.name

-- there are 8 marks at most, all are such, and there are no calls
abbrev pub is_short : Notes → Bool
is_short notes =
    nat_le (length notes.marks) 8 && list_all is_plain notes.marks && length notes.calls == 0
